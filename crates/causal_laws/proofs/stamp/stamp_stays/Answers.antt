-- An event's own history stays as it is.
use Rattle.std.proofs.Common.{List, ◌++◌, sym, subst}
use Rattle.std.specs.Prelude.{reverse}
use Rattle.causal_base.specs.History.{EventBlock}
use Rattle.causal_base.specs.Past.{deliveries}
use Rattle.causal_base.specs.Stamps.{IsStamp}
use Rattle.causal_laws.proofs.OwnHistories.{history_of_older}
use Rattle.causal_laws.proofs.Prefixes.{Contains-grows, added, causal_with_added, deliveries_with_added}
use Rattle.causal_laws.proofs.StampLaws.{stamp_moves}
use Rattle.causal_laws.proofs.stamp.stamp_stays.Goals as goal

pub returns : goal.returns
returns c types clustering journal more legal e there stamp =
    let newer = added types journal more legal in
    let ds = deliveries (reverse journal) in
    let whole = deliveries_with_added types journal more legal in
    let same = history_of_older types newer ds (causal_with_added types journal more legal) e there in (
      (λ its. subst (λ (history : List EventBlock). IsStamp types clustering history e stamp) (sym whole)
          (stamp_moves types clustering ds (newer ++ ds) e (sym same) (Contains-grows newer ds e there) stamp its)),
      (λ its. stamp_moves types clustering (newer ++ ds) ds e same there stamp
          (subst (λ (history : List EventBlock). IsStamp types clustering history e stamp) whole its)),
    )
