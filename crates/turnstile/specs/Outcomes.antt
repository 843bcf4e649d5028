-- The cases of what a draw came to.
use Rattle.turnstile.specs.declared.pass.Pass.{Pass}
use Rattle.turnstile.specs.declared.stands_for.StandsFor.{Ghosts}
use Rattle.turnstile.specs.declared.turn.Turn.{Turn}
use Rattle.turnstile.specs.declared.turn.Turned.{Turned}
use Rattle.turnstile.specs.declared.turn.Turned.TheVariants.{Got, Busy}

module _ {V F : Type 0} {g : Ghosts V F} where
  -- the fact holds of the turn, where it was got
  abbrev pub IfGot : Turned V F g → (Turn V F g → Type 0) → Type 0
  IfGot (Got turn) P = P turn
  IfGot (Busy pass) P = Unit {0}

  -- the fact holds of the pass, where another had the turn
  abbrev pub IfBusy : Turned V F g → (Pass V F g → Type 0) → Type 0
  IfBusy (Got turn) P = Unit {0}
  IfBusy (Busy pass) P = P pass
