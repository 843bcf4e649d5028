-- How passes stand, taken together.
use Rattle.std.specs.Prelude.{◌≡◌, ℕ, ◌<◌, ◌&&◌, nat_lt, nat_le, cond, List, [], None, length}
use Rattle.std.specs.List.{sum_by}
use mathlib.Core.Option.{some}
use lib.ListN.{get_elem?}
use Rattle.causal_base.specs.declared.entry.Entry.{Entry}
use Rattle.turnstile.specs.declared.view.Stage.{Stage}
use Rattle.turnstile.specs.declared.view.Stage.TheVariants.{Resting, Drawn, Read, Appended, Joined}
use Rattle.turnstile.specs.declared.view.Standing.{Standing}
use Rattle.turnstile.specs.declared.view.View.{View}

-- 1 from the draw of the turn until it is served
abbrev pub turn_of : Stage → ℕ
turn_of Resting = 0
turn_of Drawn = 1
turn_of Read = 1
turn_of Appended = 1
turn_of (Joined first number second) = 0

-- 1 from the look that takes the value out of the slot until it is home
abbrev pub slot_of : Stage → ℕ
slot_of Resting = 0
slot_of Drawn = 0
slot_of Read = 1
slot_of Appended = 1
slot_of (Joined first number second) = 0

-- the longer of two lists, and the first where they are as long
abbrev pub longer : List Entry → List Entry → List Entry
longer first second = cond (nat_lt (length first) (length second)) second first

module _ {F : Type 0} where
  -- a pass that knows this, at this stage
  abbrev pub standing : View F → Stage → Standing F
  standing view stage = record { view = view; stage = stage }

  -- how many passes have the turn
  abbrev pub turns_out : List (Standing F) → ℕ
  turns_out passes = sum_by (λ pass. turn_of pass.stage) passes

  -- how many have the slot
  abbrev pub slots_out : List (Standing F) → ℕ
  slots_out passes = sum_by (λ pass. slot_of pass.stage) passes

  -- the sum of the weights
  abbrev pub weight_out : List (Standing F) → ℕ
  weight_out passes = sum_by (λ pass. pass.view.weight) passes

  -- 1 where the number lies in the range of the pass
  abbrev pub cover_of : ℕ → Standing F → ℕ
  cover_of number pass = cond (nat_le pass.view.lo number && nat_lt number pass.view.hi) 1 0

  -- in how many ranges the number lies
  abbrev pub ranges_over : ℕ → List (Standing F) → ℕ
  ranges_over number passes = sum_by (cover_of number) passes

  -- A pass is live while it has a range. One that was joined to another has none.
  pub record IsLive (passes : List (Standing F)) (place : ℕ) (pass : Standing F) : Type 0 where
    pub at : get_elem? passes place ≡ some pass
    pub live : pass.view.lo < pass.view.hi

  -- what is left of a pass that was joined to another
  abbrev pub left_over : Standing F
  left_over = standing
      (record { lo = 0; hi = 0; weight = 0; fixed = None; seen = []; draws = []; turns = [] })
      Resting
