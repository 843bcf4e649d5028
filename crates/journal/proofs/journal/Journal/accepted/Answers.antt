use Rattle.std.proofs.Common.{List, length, reverse, ap, arith}
use Rattle.std.specs.Prelude.{vec_capacity}
use Rattle.causal_base.specs.declared.entry.Entry.{Entry}
use Rattle.causal_base.specs.Past.{came}
use Rattle.journal.proofs.Stores.{length_came}
use Rattle.journal.proofs.journal.Journal.accepted.Goals as goal

pub returns-clause-number : goal.returns-clause-number
returns-clause-number c =
    let j = c.self.inside in
    let all = length_came j.events.items j.marks.items (vec_capacity j.marks) j.index j.counts j.delivered c.self.invariant in
    let view = ap (λ (es : List Entry). length (came (reverse es))) c.self.view_is in
    omega (arith, c.len.ensures, all, view)
