-- What the entry delivered is within the clock or not, and going back over it is by that.
use Rattle.std.proofs.Common.{◌≡◌, ◌⊎◌, inl, inr, sym, ◌∙◌, ap, subst, List, Some, true, arith}
use Rattle.std.specs.Prelude.{slice_get, slice_index_or}
use Rattle.causal_base.specs.declared.entry.Entry.{Entry}
use Rattle.causal_base.specs.ClockWalks.{is_within}
use Rattle.causal_base.proofs.GoingBack.{slice_get_read, gone_at, pair_traces, back_at_gone_unmarked, back_at_gone_marked, back_at_pair_unmarked, back_at_pair_marked}
use Rattle.causal_base.proofs.clock.go_back.Goals as goal
use Rattle.causal_base.proofs.clock.go_back.Goals.{After-index-entries-place, then-is_within-2-via-then-is_within-2, then-is_within-2-via-else-is_within-2+then-is_within-3}

-- the entry at the place
entry_at : (c : After-index-entries-place) → slice_get c.args.journal.now c.args.place ≡ Some c.index-entries-place.result
entry_at c = slice_get_read c.args.journal.now c.args.place c.index-entries-place.result c.requires.place
    (subst (λ (xs : List Entry). c.index-entries-place.result ≡ slice_index_or xs c.args.place c.index-entries-place.result) c.entries.ensures c.index-entries-place.is)

pub is_within-requires : goal.is_within-requires
is_within-requires c =
    let legal = c.requires.legal in
    let at = entry_at (goal.at.is_within-requires c).After-index-entries-place ∙ ap Some c.in-Gone.is in
    let below = (gone_at legal.0 c.args.journal.now legal.1 c.args.place c.in-Gone.id at).3 in
    let same = legal.2 in
    omega (arith, below, same)

pub is_within-requires-in-Pair : goal.is_within-requires-in-Pair
is_within-requires-in-Pair c =
    let legal = c.requires.legal in
    let at = entry_at (goal.at.is_within-requires-in-Pair c).After-index-entries-place ∙ ap Some c.in-Pair.is in
    let below = (pair_traces legal.0 c.args.journal.now legal.1 c.args.place c.in-Pair.first c.in-Pair.second at).0 in
    let same = legal.2 in
    omega (arith, below, same)

pub is_within-requires-else-is_within-2 : goal.is_within-requires-else-is_within-2
is_within-requires-else-is_within-2 c =
    let legal = c.requires.legal in
    let at = entry_at (goal.at.is_within-requires-else-is_within-2 c).After-index-entries-place ∙ ap Some c.in-Pair.is in
    let below = (pair_traces legal.0 c.args.journal.now legal.1 c.args.place c.in-Pair.first c.in-Pair.second at).1 in
    let same = legal.2 in
    omega (arith, below, same)

pub raise-requires : goal.raise-requires
raise-requires c =
    let legal = c.requires.legal in
    let at = entry_at (goal.at.raise-requires c).After-index-entries-place ∙ ap Some c.in-Pair.is in
    let below = (pair_traces legal.0 c.args.journal.now legal.1 c.args.place c.in-Pair.first c.in-Pair.second at).0 in
    let same = legal.2 in
    omega (arith, below, same)

pub raise-requires-then-is_within-2 : goal.raise-requires-then-is_within-2
raise-requires-then-is_within-2 c =
    let legal = c.requires.legal in
    let at = entry_at (goal.at.raise-requires-then-is_within-2 c).After-index-entries-place ∙ ap Some c.in-Pair.is in
    let below = (pair_traces legal.0 c.args.journal.now legal.1 c.args.place c.in-Pair.first c.in-Pair.second at).1 in
    let same = legal.2 in
    let kept = c.raise.ensures.same_length in
    omega (arith, below, same, kept)

pub returns-then-is_within : goal.returns-then-is_within
returns-then-is_within c types e legal size =
    let at = entry_at (goal.at.returns-then-is_within c).After-index-entries-place ∙ ap Some c.in-Gone.is in
    back_at_gone_marked types c.args.journal.now legal c.args.place e c.in-Gone.id at c.args.into.now c.raise_to_mate.new.into (sym c.is_within.ensures ∙ c.if-is_within.true)
    (λ gone there is. c.raise_to_mate.ensures types gone legal there is)

pub returns-else-is_within : goal.returns-else-is_within
returns-else-is_within c types e legal size =
    let at = entry_at (goal.at.returns-else-is_within c).After-index-entries-place ∙ ap Some c.in-Gone.is in
    back_at_gone_unmarked types c.args.journal.now legal c.args.place e c.in-Gone.id at c.args.into.now (sym c.is_within.ensures ∙ c.if-is_within.false)

pub returns-then-is_within-2 : goal.returns-then-is_within-2
returns-then-is_within-2 c types e legal size =
    let at = entry_at (goal.at.returns-then-is_within-2 c).After-index-entries-place ∙ ap Some c.in-Pair.is in
    let within : (is_within c.args.into.now c.in-Pair.first ≡ true) ⊎ (is_within c.args.into.now c.in-Pair.second ≡ true) =
    elim c.then-is_within-2.branch [
      | then-is_within-2-via-then-is_within-2 w ↦ inl (sym c.is_within-in-Pair.ensures ∙ w.if-is_within-2.true)
      | then-is_within-2-via-else-is_within-2+then-is_within-3 w ↦ inr (sym w.is_within-else-is_within-2.ensures ∙ w.if-is_within-3.true)
    ] in
    back_at_pair_marked types c.args.journal.now legal c.args.place e c.in-Pair.first c.in-Pair.second at c.args.into.now c.raise.new.clock c.raise-then-is_within-2.new.clock within c.raise.ensures c.raise-then-is_within-2.ensures

pub returns-else-is_within-3 : goal.returns-else-is_within-3
returns-else-is_within-3 c types e legal size =
    let at = entry_at (goal.at.returns-else-is_within-3 c).After-index-entries-place ∙ ap Some c.in-Pair.is in
    back_at_pair_unmarked types c.args.journal.now legal c.args.place e c.in-Pair.first c.in-Pair.second at c.args.into.now
    (sym c.is_within-in-Pair.ensures ∙ c.if-is_within-2.false) (sym c.is_within-else-is_within-2.ensures ∙ c.if-is_within-3.false)
