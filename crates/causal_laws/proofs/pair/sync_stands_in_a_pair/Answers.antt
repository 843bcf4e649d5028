-- Such an event was next as one of a pair.
use Rattle.std.proofs.Common.{inl, inr}
use Rattle.std.specs.Prelude.{reverse}
use Rattle.causal_base.specs.declared.entry.Entry.TheVariants.{Pair}
use Rattle.causal_laws.proofs.PairBlocks.{sync_in_pair, Contains-unreversed}
use Rattle.causal_laws.proofs.pair.sync_stands_in_a_pair.Goals as goal

pub returns : goal.returns
returns c types journal legal e inside sync =
    let pair = sync_in_pair types (reverse journal) legal e inside sync in (
      pair.0,
      pair.1,
      pair.2,
      elim pair.3 [
        | inl lower ↦ inl (lower.0, Contains-unreversed journal (Pair e.id pair.0.id) lower.1)
        | inr upper ↦ inr (upper.0, Contains-unreversed journal (Pair pair.0.id e.id) upper.1)
      ],
    )
