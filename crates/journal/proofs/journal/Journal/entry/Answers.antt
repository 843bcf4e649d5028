use Rattle.std.proofs.Common.{List, sym, ◌∙◌, ap}
use Rattle.std.specs.Prelude.{option_and_then, slice_get}
use Rattle.causal_base.specs.declared.entry.Entry.{Entry}
use Rattle.journal.specs.declared.mark.Mark.{Mark}
use Rattle.journal.specs.Marks.{entry_of}
use Rattle.journal.proofs.Entries.{entry_at_place}
use Rattle.journal.proofs.journal.Journal.entry.Goals as goal

pub returns : goal.returns
returns c =
    let j = c.self.inside in
    c.entry_at.ensures
    ∙ (ap (λ (ms : List Mark). option_and_then (entry_of j.events.items) (slice_get ms c.args.at)) c.deref.ensures.value
    ∙ (sym (entry_at_place j.events.items j.marks.items c.self.invariant.whole c.args.at)
    ∙ ap (λ (es : List Entry). slice_get es c.args.at) c.self.view_is))
