-- What contracts see of a turnstile, of a pass and of a turn.
use Rattle.std.specs.Prelude.{◌≡◌, ℕ}
use Rattle.atomic_table.specs.Seated.{TableId}
use Rattle.turnstile.specs.declared.pass.Pass.{Pass}
use Rattle.turnstile.specs.declared.stands_for.StandsFor.{Ghosts}
use Rattle.turnstile.specs.declared.turn.Turn.{Turn}
use Rattle.turnstile.specs.declared.turnstile.Turnstile.{Turnstile}
use Rattle.turnstile.specs.declared.view.View.{View}

module _ {V F : Type 0} where
  -- the number of seats
  abbrev pub seats_of : Turnstile V F → ℕ
  seats_of turnstile = turnstile.board.shared.key.seats

  -- which turnstile it is: no two have one name
  abbrev pub name_of : Turnstile V F → TableId
  name_of turnstile = turnstile.board.shared.table_id

module _ {V F : Type 0} {g : Ghosts V F} where
  -- what a pass knows
  abbrev pub view_of : Pass V F g → View F
  view_of pass = pass.token.me.0.view

  -- what the pass of a turn knows
  abbrev pub turn_view : Turn V F g → View F
  turn_view turn = turn.holder.token.me.0.view

  -- the value of a turn
  abbrev pub value_of : Turn V F g → V
  value_of turn = turn.value

  -- the turn, with this value
  abbrev pub with_value : Turn V F g → V → Turn V F g
  with_value turn value = record turn { value = value }

  -- the pass is one of this turnstile
  abbrev pub IsPassOf : Turnstile V F → Pass V F g → Type 0
  IsPassOf turnstile pass = pass.token.table_id ≡ name_of turnstile

  -- the turn is one of this turnstile
  abbrev pub IsTurnOf : Turnstile V F → Turn V F g → Type 0
  IsTurnOf turnstile turn = turn.holder.token.table_id ≡ name_of turnstile
