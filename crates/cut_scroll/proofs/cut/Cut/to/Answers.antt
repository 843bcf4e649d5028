use Rattle.std.proofs.Common.{◌≡◌, List, ℕ, length, max, sym, ◌∙◌, ap, subst, rules}
use Rattle.std.specs.Prelude.{slice_index}
use Rattle.std.proofs.lemmas.List.{take_at}
use Rattle.causal_base.specs.declared.event_id.EventId.{EventId}
use Rattle.causal_base.specs.Clocks.{HasClocks}
use Rattle.causal_base.specs.Journal.{delivered_by}
use Rattle.cut_scroll.specs.Cuts.{IsLeastWith}
use Rattle.cut_scroll.proofs.Moves.{raised_is_least}
use Rattle.cut_scroll.proofs.cut.Cut.to.Goals as goal

pub returns-clause-moved : goal.returns-clause-moved
returns-clause-moved g c journal stands =
    let types = g.C.Causal.types c.args.book.now in
    let legal = g.C.Causal.legal c.args.book.now journal stands in
    let consistent = c.requires.consistent journal stands in
    let clocks = c.if-not-clock.ensures.delivered journal stands in
    let has = clocks 0 c.traces-traces.ensures.table.some_trace in
    let before = c.args.self.now in
    let after = c.raise.new.counts in
    let was = c.deref_mut.ensures.value ∙ c.self.view_is in
    let long = c.raise.auto.counts ∙ ap length was ∙ consistent.is_cut.traces in
    let short : length c.clock.new.into ≡ types.traces = search rules in
    let least = raised_is_least types journal legal has.e has.among before after consistent long c.clock.new.into
    (subst (λ (i : EventId). HasClocks types (delivered_by journal) i c.clock.new.into) (sym has.id_is) clocks) short
    (λ trace. subst (λ (m : List ℕ). slice_index after trace ≡ max (slice_index m trace) (slice_index c.clock.new.into trace)) was (c.raise.ensures trace)) in (
      ((has.e, has.among, has.id_is), tt),
      (
        has.e,
        has.among,
        has.id_is,
        subst (λ (m : List ℕ). IsLeastWith types (delivered_by journal) before has.e m) (sym (take_at after _ _ (c.raise.auto.counts ∙ c.deref_mut.ensures.len))) least,
      ),
    )
