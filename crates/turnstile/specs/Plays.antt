-- What each step tells the pass that makes it: of the step, of how the pass stood, of the number
-- that was found, and of how the pass stands.
use Rattle.std.specs.Prelude.{◌≡◌, ℕ, ◌+◌, ◌-◌, ◌<◌, ◌≤◌, zero, suc, List, [], ◌∷◌, ◌++◌, Option, Some, length}
use Rattle.atomic_table.specs.Table.{Me, Step, rest}
use Rattle.causal_base.specs.declared.entry.Entry.{Entry}
use Rattle.turnstile.specs.declared.view.Stage.{Stage}
use Rattle.turnstile.specs.declared.view.Stage.TheVariants.{Resting, Drawn, Read, Appended, Joined}
use Rattle.turnstile.specs.declared.view.Standing.{Standing}
use Rattle.turnstile.specs.Entries.{entries_of, GoesOnWithout}
use Rattle.turnstile.specs.Views.{standing, longer}

-- who finds the turn free has it
abbrev pub stage_drawn : ℕ → Stage
stage_drawn zero = Drawn
stage_drawn (suc n) = Resting

module _ {S F : Type 0} where
  -- a draw is noted with what it found, and gets the turn where that is 0
  abbrev pub Draws : Step S → Me S (Standing F) → ℕ → Me S (Standing F) → Type 0
  Draws step before found after = (found ≤ 1) × (after ≡ (
    standing (record before.0.view { draws = before.0.view.draws ++ found ∷ [] })
        (stage_drawn found),
    before.1,
  ))

  -- the journal so far was seen, and the number is its length
  abbrev pub Looks : Step S → Me S (Standing F) → ℕ → Me S (Standing F) → Type 0
  Looks step before found after = (seen : List Entry)
      × (after ≡ (standing (record before.0.view { seen = seen }) before.0.stage, before.1))
      × (found ≡ length seen) × GoesOnWithout before.0.view.lo before.0.view.seen seen

  -- the journal has become this one, which was seen
  abbrev pub Appends : List Entry → Step S → Me S (Standing F) → ℕ → Me S (Standing F) → Type 0
  Appends journal step before found after =
      after ≡ (standing (record before.0.view { seen = journal }) Appended, before.1)

  -- the value is home, and the turn was given back
  abbrev pub Serves : Step S → Me S (Standing F) → ℕ → Me S (Standing F) → Type 0
  Serves step before found after = after ≡ (standing before.0.view Resting, rest before.1)

  -- no entry that was seen is of a number in the range, but for its own
  abbrev pub FindsRoom : Step S → Me S (Standing F) → ℕ → Me S (Standing F) → Type 0
  FindsRoom step before found after = (after ≡ before)
      × ((number : ℕ) → before.0.view.lo < number → number < before.0.view.hi
      → entries_of number before.0.view.seen ≡ [])

  -- what each of two joined passes had seen goes on, without its own number, to what one has seen
  abbrev pub Settles : Step S → Me S (Standing F) → ℕ → Me S (Standing F) → Type 0
  Settles step before found after = (first : List Entry) (number : ℕ) (second : List Entry)
      → before.0.stage ≡ Joined first number second
      → (after ≡ (standing before.0.view Resting, before.1))
      × GoesOnWithout before.0.view.lo first before.0.view.seen
      × GoesOnWithout number second before.0.view.seen

-- the whole journal was seen, and the value that stands for it was taken out of the slot
abbrev pub Reads : {V F : Type 0} → (V → List Entry) → (V → F)
    → Step (Option V) → Me (Option V) (Standing F) → ℕ → Me (Option V) (Standing F) → Type 0
Reads {V} journal_of fixed_of step before found after = (value : V)
    × (after ≡ (
      standing (record before.0.view {
        seen = journal_of value;
        turns = before.0.view.turns ++ found ∷ [];
      }) Read,
      (0, Some value) ∷ before.1,
    ))
    × (found ≡ length (journal_of value))
    × GoesOnWithout before.0.view.lo before.0.view.seen (journal_of value)
    × (before.0.view.fixed ≡ Some (fixed_of value))

module _ {F : Type 0} where
  -- the part of a pass below a number, and the part from there on
  abbrev pub first_part : ℕ → Standing F → Standing F
  first_part at pass = standing
      (record pass.view { hi = at; weight = pass.view.weight - (pass.view.hi - at) }) pass.stage

  abbrev pub second_part : ℕ → Standing F → Standing F
  second_part at pass = standing
      (record pass.view { lo = at; weight = pass.view.hi - at; draws = []; turns = [] }) Resting

  -- two passes as one, which has seen what the two had seen
  abbrev pub as_one : Standing F → Standing F → Standing F
  as_one keep other = standing
      (record keep.view {
        weight = keep.view.weight + other.view.weight;
        seen = longer keep.view.seen other.view.seen;
      })
      (Joined keep.view.seen other.view.lo other.view.seen)
