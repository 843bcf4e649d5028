use Rattle.std.proofs.Common.{◌≡◌, List, reverse, sym, ◌∙◌, subst, Some}
use Rattle.std.specs.Prelude.{Contains, vec_capacity}
use Rattle.causal_base.specs.declared.entry.Entry.{Entry}
use Rattle.causal_base.specs.Past.{came}
use Rattle.journal.proofs.Shares.{some_found}
use Rattle.journal.proofs.Stores.{found}
use Rattle.journal.proofs.journal.JournalAccepted.event.Goals as goal

pub returns-clause-some : goal.returns-clause-some
returns-clause-some c =
    let j = c.self.inside in
    let its = found j.events.items j.marks.items (vec_capacity j.marks) j.index j.counts j.delivered c.self.invariant c.args.id c.in_ok-place.field-0 (sym c.place.ensures ∙ c.in_ok-place.was) in
    some_found c.event.result (Some its.0) (c.event.ensures ∙ its.1) (λ e. Contains (came (reverse c.args.self.now)) e × (e.id ≡ c.args.id))
    (subst (λ (es : List Entry). Contains (came (reverse es)) its.0) c.self.view_is its.2, its.3)
