-- Refusals in their order.
use Rattle.std.proofs.Common.{[], ◌∷◌, ◌++◌, inl, inr}
use Rattle.causal_base.specs.Refusals.{Refusals, IsFirst, ArePassed}

-- the first of some is the first of these and more
pub first_of_some : {Error : Type 0} (some more : Refusals Error) (error : Error) → IsFirst some error → IsFirst (some ++ more) error
first_of_some [] more error first = absurd first
first_of_some (refusal ∷ some) more error (inl first) = inl first
first_of_some (refusal ∷ some) more error (inr first) = inr (first.0, first_of_some some more error first.1)

-- and the first of more is, where none of the earlier ones applies
pub first_of_more : {Error : Type 0} (some more : Refusals Error) (error : Error) → ArePassed some → IsFirst more error → IsFirst (some ++ more) error
first_of_more [] more error passed first = first
first_of_more (refusal ∷ some) more error passed first = inr (passed.0, first_of_more some more error passed.1 first)

-- none of both applies
pub passed_both : {Error : Type 0} (some more : Refusals Error) → ArePassed some → ArePassed more → ArePassed (some ++ more)
passed_both [] more passed also = also
passed_both (refusal ∷ some) more passed also = (passed.0, passed_both some more passed.1 also)

-- what doesn't apply isn't the first
pub passed_first : {Error : Type 0} (some : Refusals Error) (error : Error) → ArePassed some → IsFirst some error → ⊥
passed_first [] error passed first = first
passed_first (refusal ∷ some) error passed (inl first) = passed.0 error first
passed_first (refusal ∷ some) error passed (inr first) = passed_first some error passed.1 first.1
