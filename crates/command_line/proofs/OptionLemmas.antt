-- What stands before the target, in one way.
use Rattle.std.proofs.Common.{◌≡◌, ℕ, List, ◌∷◌, inl, inr, sym, subst, ◌∙◌, arith}
use Rattle.std.specs.Prelude.{codes}
use Rattle.causal_base.specs.Spelling.{IsNumber}
use Rattle.causal_base.proofs.CallerLemmas.{number_once}
use Rattle.command_line.specs.Options.{IsAfter, TakesAfter, TakesLevels}
use Rattle.command_line.specs.SizeLists.{IsSizeList}
use Rattle.command_line.proofs.ListLemmas.{size_list_once}

-- such a number is one in decimal
pub after_is_number : (text : List ℕ) (after : ℕ) → IsAfter text after → IsNumber text after
after_is_number text after is = record { small = omega (arith, is.most); spelled = is.spelled }

after_once : (text : List ℕ) (after other : ℕ) → IsAfter text after → IsAfter text other → after ≡ other
after_once text after other is also = number_once text after other (after_is_number text after is) (after_is_number text other also)

pub levels_once : (words rest others : List (List ℕ)) (sizes another : List ℕ) → TakesLevels words rest sizes → TakesLevels words others another → (rest ≡ others) × (sizes ≡ another)
levels_once words rest others sizes another (inl named) (inl also) =
    let both : codes "--levels" ∷ named.list ∷ rest ≡ codes "--levels" ∷ also.list ∷ others = sym named.are ∙ also.are in
    let same : named.list ≡ also.list = cc in
    (cc, size_list_once also.list sizes another (subst (λ text. IsSizeList text sizes) same named.is_list) also.is_list)
levels_once words rest others sizes another (inl named) (inr lacks) = absurd (lacks.otherwise (named.list ∷ rest) named.are)
levels_once words rest others sizes another (inr lacks) (inl named) = absurd (lacks.otherwise (named.list ∷ others) named.are)
levels_once words rest others sizes another (inr lacks) (inr also) = (lacks.all ∙ sym also.all, lacks.default ∙ sym also.default)

pub merging_once : (words rest others : List (List ℕ)) (after another : ℕ) → TakesAfter words rest after → TakesAfter words others another → (rest ≡ others) × (after ≡ another)
merging_once words rest others after another (inl named) (inl also) =
    let both : codes "--after" ∷ named.number ∷ rest ≡ codes "--after" ∷ also.number ∷ others = sym named.are ∙ also.are in
    let same : named.number ≡ also.number = cc in
    (cc, after_once also.number after another (subst (λ text. IsAfter text after) same named.is_number) also.is_number)
merging_once words rest others after another (inl named) (inr lacks) = absurd (lacks.otherwise (named.number ∷ rest) named.are)
merging_once words rest others after another (inr lacks) (inl named) = absurd (lacks.otherwise (named.number ∷ others) named.are)
merging_once words rest others after another (inr lacks) (inr also) = (lacks.all ∙ sym also.all, lacks.default ∙ sym also.default)
