-- The turnstile's rule, which holds between any two steps of all threads. It speaks of two words,
-- of one slot, and of how the passes stand.
use Rattle.std.specs.Prelude.{◌≡◌, ℕ, ◌+◌, ◌<◌, ◌≤◌, ◌⊎◌, List, [], ◌∷◌, Option, Some, length}
use mathlib.Core.List.{IsPrefix}
use mathlib.Core.Option as maybe
use lib.ListN.{get_elem?}
use Rattle.atomic_table.specs.Table.{State}
use Rattle.causal_base.specs.declared.entry.Entry.{Entry}
use Rattle.turnstile.specs.declared.rule.Opening.{Opening}
use Rattle.turnstile.specs.declared.view.Stage.{Stage}
use Rattle.turnstile.specs.declared.view.Stage.TheVariants.{Resting, Drawn, Read, Appended, Joined}
use Rattle.turnstile.specs.declared.view.Standing.{Standing}
use Rattle.turnstile.specs.Entries.{entries_of, GoesOnWithout}
use Rattle.turnstile.specs.Views.{turn_of, turns_out, slots_out, weight_out, ranges_over, IsLive}

-- From the look that takes the value out until the turn is served, the whole journal was seen. What
-- each of two joined passes had seen goes on, without its own number, to what the one has seen.
abbrev pub FitsStage : Stage → (own : ℕ) → (seen journal : List Entry) → Type 0
FitsStage Resting own seen journal = Unit {0}
FitsStage Drawn own seen journal = Unit {0}
FitsStage Read own seen journal = seen ≡ journal
FitsStage Appended own seen journal = seen ≡ journal
FitsStage (Joined first number second) own seen journal =
    GoesOnWithout own first seen × GoesOnWithout number second seen

-- What a live pass knows of the one journal, and its place among the seats.
pub record Knows {F : Type 0} (seats : ℕ) (part : F) (journal : List Entry) (pass : Standing F)
    : Type 0 where
  -- it has seen a prefix of the journal, and at some stages the whole
  pub seen : IsPrefix pass.view.seen journal
  pub stage : FitsStage pass.stage pass.view.lo pass.view.seen journal
  -- it has seen all entries of its own number, and there are none of the rest of its range
  pub own : entries_of pass.view.lo journal ≡ entries_of pass.view.lo pass.view.seen
  pub others : (number : ℕ) → pass.view.lo < number → number < pass.view.hi
      → entries_of number journal ≡ []
  -- its range lies within the seats, and its weight is at least the length of it
  pub range : pass.view.hi ≤ seats
  pub weight : pass.view.hi ≤ pass.view.lo + pass.view.weight
  -- it knows what stays the same in every turn
  pub fixed : pass.view.fixed ≡ Some part

module _ {V F : Type 0} (journal_of : V → List Entry) (fixed_of : V → F) where
  -- The slot has a value that stands for the journal, with this fixed part.
  pub record IsHome (journal : List Entry) (part : F) (slots : List (maybe.Option (Option V)))
      : Type 0 where
    pub value : V
    pub home : slots ≡ maybe.some (Some value) ∷ []
    pub stands : journal_of value ≡ journal
    pub fixed : fixed_of value ≡ part

  pub record IsOrderly (opening : Opening V) (s : State (Option V) (Standing F)) : Type 0 where
    -- There is one journal. Word 0 is its length, and word 1 says how many have the turn.
    pub journal : List Entry
    pub words : s.words ≡ length journal ∷ turns_out s.views ∷ []
    -- One pass at most has the turn, and it is live.
    pub one_turn : turns_out s.views ≤ 1
    pub alive : (place : ℕ) (pass : Standing F) → get_elem? s.views place ≡ maybe.some pass
        → turn_of pass.stage ≡ 1 → IsLive s.views place pass
    -- While a pass has the slot the value is out of it, and else it is home.
    pub out : slots_out s.views ≡ 1 → s.homes ≡ maybe.none ∷ []
    pub home : slots_out s.views ≡ 0 → IsHome journal (fixed_of opening.value.value) s.homes
    -- What each live pass has seen is a prefix of the journal. One of them has seen the whole,
    -- unless it is empty.
    pub each : (place : ℕ) (pass : Standing F) → IsLive s.views place pass
        → Knows opening.seats (fixed_of opening.value.value) journal pass
    pub known : (journal ≡ [])
        ⊎ ((place : ℕ) × (pass : Standing F)
        × IsLive s.views place pass × (pass.view.seen ≡ journal))
    -- No number lies in two ranges, and the weights add up to the seats.
    pub apart : (number : ℕ) → ranges_over number s.views ≤ 1
    pub weights : weight_out s.views ≡ opening.seats
