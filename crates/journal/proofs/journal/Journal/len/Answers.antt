use Rattle.std.proofs.Common.{List, length, ap, arith}
use Rattle.causal_base.specs.declared.entry.Entry.{Entry}
use Rattle.journal.proofs.Entries.{length_entries}
use Rattle.journal.proofs.journal.Journal.len.Goals as goal

pub returns : goal.returns
returns c =
    let j = c.self.inside in
    let all = length_entries j.events.items j.marks.items c.self.invariant.whole in
    let view = ap (λ (es : List Entry). length es) c.self.view_is in
    omega (arith, c.len.ensures, j.marks.ok.0, all, view)
