-- The entry is of what was next then.
use Rattle.std.specs.Prelude.{reverse}
use Rattle.causal_base.specs.declared.entry.Entry.TheVariants.{Pair}
use Rattle.causal_laws.proofs.PairBlocks.{pair_entry, Contains-reversed}
use Rattle.causal_laws.proofs.pair.pair_is_of_partners.Goals as goal

pub returns : goal.returns
returns c types journal legal first second inside =
    let pair = pair_entry types (reverse journal) legal first second (Contains-reversed journal (Pair first second) inside) in
    (pair.first, pair.second, pair.first_is, pair.second_is, pair.first_among, pair.second_among, pair.pairs, pair.lower)
