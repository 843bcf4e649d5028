use Rattle.std.proofs.Common.{List, ℕ, length, sym, ◌∙◌, ap, subst}
use Rattle.std.specs.Prelude.{slice_index}
use Rattle.std.proofs.lemmas.List.{take_at}
use Rattle.causal_base.specs.Journal.{delivered_by}
use Rattle.cut_scroll.specs.Cuts.{IsGreatestWithout}
use Rattle.cut_scroll.specs.Parts.{IsUnreached}
use Rattle.cut_scroll.proofs.Moves.{lowered_is_greatest}
use Rattle.cut_scroll.proofs.cut.Cut.back.Goals as goal

pub returns-then-has-clause-moved : goal.returns-then-has-clause-moved
returns-then-has-clause-moved g c journal stands =
    let types = g.C.Causal.types c.args.book.now in
    let legal = g.C.Causal.legal c.args.book.now journal stands in
    let consistent = c.requires.consistent journal stands in
    let e = c.in-Some.field-0.now in
    let its = c.in-Some.ensures.some journal stands in
    let before = c.args.self.now in
    let after = c.lower.new.counts in
    let was = c.deref_mut.ensures.value ∙ c.self.view_is in
    let long = c.lower.auto.counts ∙ ap length was ∙ consistent.is_cut.traces in
    let greatest = lowered_is_greatest types journal legal e its.0 before after consistent long
    (λ trace low. subst (λ (m : List ℕ). IsUnreached types (delivered_by journal) e trace (slice_index m trace) (slice_index after trace)) was (c.lower.ensures.lowered journal stands e its.0 its.1 trace low)) in (
      ((e, its.0, its.1), tt),
      (
        e,
        its.0,
        its.1,
        subst (λ (m : List ℕ). IsGreatestWithout types (delivered_by journal) before e m) (sym (take_at after _ c.self.inside.counts.len (c.lower.auto.counts ∙ c.deref_mut.ensures.len))) greatest,
      ),
    )
