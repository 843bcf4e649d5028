use Rattle.std.proofs.Common.{◌≡◌, ◌+◌, ◌-◌, ◌*◌, ◌≤◌, ℕ, List, true, false, length, get_or, Some, ◌<◌, sym, ◌∙◌, ap, subst, arith}
use Rattle.std.specs.Prelude.{slice_get, slice_index}
use Rattle.std.proofs.Math.Nat.{sub-zero}
use Rattle.std.proofs.lemmas.Option.{slice_get-get_or}
use Rattle.precedence.specs.Walking.{bound_from, HasWanted, IsBetween, TakesInEntries, RaisesParts}
use Rattle.precedence.proofs.Bounds.{bound_from-some, bound_from-falls}
use Rattle.precedence.proofs.OwnMembers.{number_of_part}
use Rattle.precedence.proofs.Lookups.{event_found, none_found}
use Rattle.precedence.proofs.Takings.{taken_on, taken_only, part_known, entry_missing, entry_known, entry_taken, own_taken, all_taken, steps_within, over_longer, between_more, between_all, steps_more, steps_both}
use Rattle.precedence.proofs.walk.Walk.+walk.Goals as goal
use Rattle.precedence.proofs.walk.Walk.+walk.Goals.{take_in-then-not-has_wanted, take_in-else-not-has_wanted}

pub take_in-returns-clause-taken : goal.take_in-returns-clause-taken
take_in-returns-clause-taken g t c w over e is =
    let laws = c.laws.ensures w in
    let wanted = c.args.self.now.wanted in
    let stamp = c.args.stamp.now in
    let before = c.args.into.now in
    let after = c.raise_parts.new.numbers in
    elim c.if-not-has_wanted.branch [
      | take_in-then-not-has_wanted v ↦
          let middle = v.place_of-own_place.result in
          let between = v.take_in_entries.new.into in
          let last = v.take_in_entries-then-not-has_wanted.new.into in
          let longer = over_longer w c.args.self.now.stamps.now.lists wanted before between v.take_in_entries.auto.into over in
          let first = subst (λ (m : List ℕ). TakesInEntries w wanted e (IsBetween stamp.members middle (length m)) before between) v.members-then-not-has_wanted.ensures.value
          (v.take_in_entries.ensures.taken w over e is) in
          let second = v.take_in_entries-then-not-has_wanted.ensures.taken w longer e is in
          let both = taken_on w wanted e (IsBetween stamp.members middle (length stamp.members)) (IsBetween stamp.members 0 middle) before between last first second in
          let whole = taken_only w wanted e _ (IsBetween stamp.members 0 (length stamp.members)) before last (between_all stamp.members middle) both in
          let raised = subst (λ (m : List ℕ). RaisesParts stamp m after) v.into-is c.raise_parts.ensures in
          all_taken w laws wanted e is.delivered stamp is before last after over.wide (ap length (sym v.into-is) ∙ c.if-not-has_wanted.auto.into) whole raised
      | take_in-else-not-has_wanted v ↦
          let has = c.has_wanted.ensures.0 v.if-not-has_wanted.false in
          own_taken w laws wanted e is.delivered stamp is before after over.wide has (subst (λ (m : List ℕ). RaisesParts stamp m after) v.into-is c.raise_parts.ensures)
    ]

pub take_in-returns-clause-steps : goal.take_in-returns-clause-steps
take_in-returns-clause-steps g t c w over e is =
    let laws = c.laws.ensures w in
    let wanted = c.args.self.now.wanted in
    let stamp = c.args.stamp.now in
    let before = c.args.into.now in
    elim c.if-not-has_wanted.branch [
      | take_in-then-not-has_wanted v ↦
          let middle = v.place_of-own_place.result in
          let between = v.take_in_entries.new.into in
          let longer = over_longer w c.args.self.now.stamps.now.lists wanted before between v.take_in_entries.auto.into over in
          let bound = bound_from w (stamp.level + 1) in
          let first = subst (λ (m : List ℕ). v.take_in_entries.new.steps ≤ c.args.steps.now + (length m - middle) * bound) v.members-then-not-has_wanted.ensures.value
          (v.take_in_entries.ensures.steps w over e is) in
          let second : v.take_in_entries-then-not-has_wanted.new.steps ≤ v.take_in_entries.new.steps + (middle - 0) * bound = v.take_in_entries-then-not-has_wanted.ensures.steps w longer e is in
          let place : middle ≤ length stamp.members = subst (λ (m : List ℕ). middle ≤ length m) v.members.ensures.value v.place_of-own_place.ensures in
          let both = steps_both middle (length stamp.members) bound c.args.steps.now v.take_in_entries.new.steps v.take_in_entries-then-not-has_wanted.new.steps place first (simp sub-zero at second) in
          let lacks : HasWanted wanted (length before) stamp.members → ⊥ = λ has.
          let yes = c.has_wanted.ensures.1 has in
          let clash : true ≡ false = sym yes ∙ v.if-not-has_wanted.true in
          cc in
          let most = steps_within w laws wanted e is.delivered stamp is before over.wide lacks in
          let last = v.steps-is in
          omega (arith, both, most, last)
      | take_in-else-not-has_wanted v ↦
          let some = bound_from-some w stamp.level in
          let last = v.steps-is in
          omega (arith, some, last)
    ]

pub take_in_entries-loop-place-preserved : goal.take_in_entries-loop-place-preserved
take_in_entries-loop-place-preserved g t c =
    let lists = c.args.self.now.stamps.now.lists in
    let wanted = c.args.self.now.wanted in
    let stamp = c.args.stamp.now in
    let place = c.loop-place.place in
    let before = c.args.into.now in
    let so_far = c.loop-place.into in
    let trace = get_or c.members.result.now place 0 in
    let part = get_or c.numbers.result.now place 0 in
    let inside : place < length stamp.members = omega (arith, c.loop-place-test.true, c.requires.within) in
    let member : slice_get stamp.members place ≡ Some trace =
    slice_get-get_or stamp.members place 0 inside ∙ ap (λ (m : List ℕ). Some (get_or m place 0)) (sym c.members.ensures.value) in
    let count : length stamp.clock ≡ length stamp.members = ap length (sym c.numbers.ensures.value) ∙ c.numbers.ensures.one_a_member in
    let number : slice_get stamp.clock place ≡ Some part =
    slice_get-get_or stamp.clock place 0 (omega (arith, inside, count)) ∙ ap (λ (m : List ℕ). Some (get_or m place 0)) (sym c.numbers.ensures.value) in
    record {
      taken = λ w over e is.
          let longer = over_longer w lists wanted before so_far c.loop-place.auto.into over in
          let first = c.loop-place.invariant.taken w over e is in
          let second = c.take_in_entry.ensures.taken w longer e is.delivered (c.level.ensures ∙ is.level) (number_of_part w (c.laws.ensures w) e stamp is trace part (record { at = place; member = member; number_is = number })) in
          taken_only w wanted e _ (IsBetween stamp.members c.args.from (place + 1)) before c.take_in_entry.new.into (between_more stamp.members c.args.from place trace member)
          (taken_on w wanted e (IsBetween stamp.members c.args.from place) (λ on. on ≡ trace) before so_far c.take_in_entry.new.into first second);
      steps = λ w over e is.
          let longer = over_longer w lists wanted before so_far c.loop-place.auto.into over in
          let first = c.loop-place.invariant.steps w over e is in
          let second = subst (λ k. c.take_in_entry.new.steps ≤ c.loop-place.steps + bound_from w (k + 1)) c.level.ensures (c.take_in_entry.ensures.steps w longer) in
          steps_more place c.args.from (bound_from w (stamp.level + 1)) c.args.steps.now c.loop-place.steps c.take_in_entry.new.steps c.loop-place.auto.place first second;
    }

pub take_in_entries-returns-clause-taken : goal.take_in_entries-returns-clause-taken
take_in_entries-returns-clause-taken g t c w over e is =
    let stamp = c.args.stamp.now in
    let past = c.loop-place-test.false in
    taken_only w c.args.self.now.wanted e (IsBetween stamp.members c.args.from c.loop-place.place) (IsBetween stamp.members c.args.from c.args.to) c.args.into.now c.loop-place.into
    (λ trace (at, least, most, is_it). (at, least, omega (arith, most, past), is_it)) (c.loop-place.invariant.taken w over e is)

pub take_in_entries-returns-clause-steps : goal.take_in_entries-returns-clause-steps
take_in_entries-returns-clause-steps g t c w over e is =
    let last : c.loop-place.place ≡ c.args.to = omega (arith, c.loop-place-test.false, c.requires.range, c.loop-place.auto.place-end) in
    subst (λ k. c.loop-place.steps ≤ c.args.steps.now + (k - c.args.from) * bound_from w (c.args.stamp.now.level + 1)) last (c.loop-place.invariant.steps w over e is)

pub take_in_entry-returns-then-part-number_at-clause-taken :
    goal.take_in_entry-returns-then-part-number_at-clause-taken
take_in_entry-returns-then-part-number_at-clause-taken g t c w over e there level clock =
    part_known w (c.laws.ensures w) c.args.self.now.wanted e there c.args.trace c.args.level c.args.part level clock c.args.into.now
    (omega (arith, c.if-part-number_at.true, c.number_at.ensures))

pub take_in_entry-returns-then-number_at-number-clause-taken :
    goal.take_in_entry-returns-then-number_at-number-clause-taken
take_in_entry-returns-then-number_at-number-clause-taken g t c w over e there level clock =
    let found = event_found w c.args.self.now.stamps.now.lists over.stamps c.args.trace c.args.part c.args.level c.in-Some.number c.in-Some.stamp c.in-Some.ensures.some in
    entry_taken w (c.laws.ensures w) c.args.self.now.wanted e there c.args.trace c.args.level c.args.part level clock c.args.into.now found.0 found.4 c.take_in.new.into
    (c.take_in.ensures.taken w over found.0 found.3)

pub take_in_entry-returns-then-number_at-number-clause-steps :
    goal.take_in_entry-returns-then-number_at-number-clause-steps
take_in_entry-returns-then-number_at-number-clause-steps g t c w over =
    let found = event_found w c.args.self.now.stamps.now.lists over.stamps c.args.trace c.args.part c.args.level c.in-Some.number c.in-Some.stamp c.in-Some.ensures.some in
    let walked = c.take_in.ensures.steps w over found.0 found.3 in
    let above = c.in-Some.ensures.some.above in
    let falls = bound_from-falls w (c.args.level + 1) c.in-Some.stamp.level (omega (arith, above)) in
    omega (arith, walked, falls, c.entry.ensures.steps)

pub take_in_entry-returns-else-number_at-number-clause-taken :
    goal.take_in_entry-returns-else-number_at-number-clause-taken
take_in_entry-returns-else-number_at-number-clause-taken g t c w over e there level clock =
    let found = event_found w c.args.self.now.stamps.now.lists over.stamps c.args.trace c.args.part c.args.level c.in-Some.number c.in-Some.stamp c.in-Some.ensures.some in
    entry_known w (c.laws.ensures w) c.args.self.now.wanted e there c.args.trace c.args.level c.args.part level clock c.args.into.now found.0 found.4
    (let number = found.2 in let on = ap (λ k. slice_index c.args.into.now k) found.1 in omega (arith, number, on, c.if-number_at-number.false, c.number_at-in-Some.ensures))

pub take_in_entry-returns-else-number_at-number-clause-steps :
    goal.take_in_entry-returns-else-number_at-number-clause-steps
take_in_entry-returns-else-number_at-number-clause-steps g t c w over =
    let some = bound_from-some w (c.args.level + 1) in
    omega (arith, some, c.entry.ensures.steps)

pub take_in_entry-returns-in_default-clause-taken :
    goal.take_in_entry-returns-in_default-clause-taken
take_in_entry-returns-in_default-clause-taken g t c w over e there level clock =
    entry_missing w (c.laws.ensures w) c.args.self.now.wanted e there c.args.trace c.args.level c.args.part level clock c.args.into.now
    (none_found w c.args.self.now.stamps.now.lists over.stamps c.args.trace c.args.part c.args.level c.in_default.ensures.none)

pub take_in_entry-returns-in_default-clause-steps :
    goal.take_in_entry-returns-in_default-clause-steps
take_in_entry-returns-in_default-clause-steps g t c w over =
    let some = bound_from-some w (c.args.level + 1) in
    omega (arith, some, c.entry.ensures.steps)
