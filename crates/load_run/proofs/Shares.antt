-- The texts of the first collectors.
use Rattle.std.proofs.Common.{◌≡◌, ℕ, zero, suc, ◌+◌, ◌<◌, List, [], ◌∷◌, ◌++◌, map, take, refl, arith}
use Rattle.causal_base.specs.declared.event.Event.{Event}
use Rattle.causal_base.specs.Types.{TypeTable}
use Rattle.load_run.specs.declared.limits.TheConstants.{COLLECTORS}
use Rattle.load_run.specs.LoadTexts.{lines_of, share, shares}

-- the texts of so many collectors
abbrev pub first_texts : TypeTable → List Event → ℕ → List (List ℕ)
first_texts types events k = take k (map (lines_of types) (shares events))

-- one text more is that of the next collector
pub one_text_more : (types : TypeTable) (events : List Event) (k : ℕ) → k < COLLECTORS → first_texts types events k ++ lines_of types (share events k) ∷ [] ≡ first_texts types events (k + 1)
one_text_more types events zero within = refl
one_text_more types events (suc zero) within = refl
one_text_more types events (suc (suc zero)) within = refl
one_text_more types events (suc (suc (suc k))) within = absurd (omega (arith, within))
