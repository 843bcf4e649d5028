-- What the table of the forms has, and that no line is written in two of them.
use Rattle.std.proofs.Common.{◌≡◌, ◌≢◌, inl, inr, ℕ, List, [], ◌∷◌, ◌++◌, Bool, true, false, refl, sym, ap, subst, ◌∙◌, arith}
use Rattle.std.specs.Prelude.{Contains, codes, ◌==◌, ◌&&◌, ◌||◌, not}
use Rattle.std.specs.List.{AllByRecursion, list_all}
use Rattle.std.proofs.lemmas.Bool.{eq-eqb}
use Rattle.causal_base.proofs.CallerLemmas.{Contains-cons, Contains-nil}
use Rattle.client_session.specs.declared.own_words.CutWord.{CutWord}
use Rattle.client_session.specs.declared.own_words.CutWord.TheVariants as cut
use Rattle.client_session.specs.declared.own_words.FirstWord.{FirstWord}
use Rattle.client_session.specs.declared.own_words.FirstWord.TheVariants.{Before, Relation, Event, Stamp, GreatestBefore, LeastAfter, Cut, Count, Await}
use Rattle.client_session.specs.Scripts.{Form, forms, two_words}
use Rattle.client_session.specs.Words.{cut_arguments, cut_text, first_text}

-- what holds of each of some values holds of one among them
of_each : {A : Type 0} (P : A → Type 0) (xs : List A) (x : A) → AllByRecursion P xs → Contains xs x → P x
of_each P [] x all has = absurd (Contains-nil x has)
of_each P (y ∷ ys) x all has = elim (Contains-cons y ys x has) [ inl here ↦ subst P here all.0 | inr there ↦ of_each P ys x all.1 there ]

-- whether two texts are one
abbrev is_same : List ℕ → List ℕ → Bool
is_same [] [] = true
is_same [] (c ∷ b) = false
is_same (c ∷ a) [] = false
is_same (c ∷ a) (d ∷ b) = (c == d) && is_same a b

is_same_itself : (a : List ℕ) → is_same a a ≡ true
is_same_itself [] = refl
is_same_itself (c ∷ a) = ap (λ first. first && is_same a a) (eq-eqb c c refl) ∙ is_same_itself a

pub differ : (a b : List ℕ) → is_same a b ≡ false → a ≢ b
differ a b other same = let clash : true ≡ false = sym (is_same_itself a) ∙ (ap (is_same a) same ∙ other) in cc

-- whether second words can't be taken for one another
abbrev seconds_apart : List (List ℕ) → List (List ℕ) → Bool
seconds_apart [] others = false
seconds_apart (word ∷ words) [] = false
seconds_apart (word ∷ words) (other ∷ others) = not (is_same word other)

not_true : (b : Bool) → not b ≡ true → b ≡ false
not_true true is = absurd cc
not_true false is = refl

seconds_differ : (a b xs ys : List (List ℕ)) → seconds_apart a b ≡ true → a ++ xs ≡ b ++ ys → ⊥
seconds_differ [] b xs ys apart same = absurd cc
seconds_differ (v ∷ a) [] xs ys apart same = absurd cc
seconds_differ (v ∷ a) (w ∷ b) xs ys apart same = let tails : v ∷ (a ++ xs) ≡ w ∷ (b ++ ys) = same in let first : v ≡ w = cc in differ v w (not_true (is_same v w) apart) first

-- whether two forms can't be taken for one another
abbrev is_apart : Form → Form → Bool
is_apart a b = not (is_same a.first b.first) || seconds_apart a.second b.second

either_true : (a b : Bool) → (not a || b) ≡ true → a ≡ true → b ≡ true
either_true true b either first = either
either_true false b either first = absurd cc

apart_differ : (a b : Form) (xs ys : List (List ℕ)) → is_apart a b ≡ true → a.first ≡ b.first → a.second ++ xs ≡ b.second ++ ys → ⊥
apart_differ a b xs ys apart first second =
    let one : is_same a.first b.first ≡ true = ap (is_same a.first) (sym first) ∙ is_same_itself a.first in
    seconds_differ a.second b.second xs ys (either_true (is_same a.first b.first) (seconds_apart a.second b.second) apart one) second

-- whether no two of some forms can
abbrev lie_apart : List Form → Bool
lie_apart [] = true
lie_apart (form ∷ rest) = list_all (is_apart form) rest && lie_apart rest

both_true : (a b : Bool) → (a && b) ≡ true → (a ≡ true) × (b ≡ true)
both_true true b both = (refl, both)
both_true false b both = absurd cc

each_true : (p : Form → Bool) (xs : List Form) (x : Form) → list_all p xs ≡ true → Contains xs x → p x ≡ true
each_true p [] x all has = absurd (Contains-nil x has)
each_true p (y ∷ ys) x all has = let parts = both_true (p y) (list_all p ys) all in elim (Contains-cons y ys x has) [ inl here ↦ ap p (sym here) ∙ parts.0 | inr there ↦ each_true p ys x parts.1 there ]

-- two forms of a table that begin a line in the same way are one
pub one_form : (table : List Form) → lie_apart table ≡ true → (a b : Form) → Contains table a → Contains table b → (xs ys : List (List ℕ)) → a.first ≡ b.first → a.second ++ xs ≡ b.second ++ ys → a ≡ b
one_form [] apart a b has also xs ys first second = absurd (Contains-nil a has)
one_form (form ∷ rest) apart a b has also xs ys first second =
    let parts = both_true (list_all (is_apart form) rest) (lie_apart rest) apart in
    elim (Contains-cons form rest a has) [
      | inl a_here ↦ elim (Contains-cons form rest b also) [
        | inl b_here ↦ sym a_here ∙ b_here
        | inr b_there ↦ absurd (apart_differ a b xs ys (subst (λ f. is_apart f b ≡ true) a_here (each_true (is_apart form) rest b parts.0 b_there)) first second)
      ]
      | inr a_there ↦ elim (Contains-cons form rest b also) [
        | inl b_here ↦ absurd (apart_differ b a ys xs (subst (λ f. is_apart f a ≡ true) b_here (each_true (is_apart form) rest a parts.0 a_there)) (sym first) (sym second))
        | inr b_there ↦ one_form rest parts.1 a b a_there b_there xs ys first second
      ]
    ]

pub forms_apart : lie_apart forms ≡ true
forms_apart = refl

-- each form has one of the first words
pub first_of_form : (form : Form) → Contains forms form → (first : FirstWord) × (form.first ≡ first_text first)
first_of_form form has = of_each (λ (form : Form). (first : FirstWord) × (form.first ≡ first_text first)) forms form (
  (Before, refl),
  (
    (Relation, refl),
    (
      (Event, refl),
      (
        (Stamp, refl),
        (
          (GreatestBefore, refl),
          (
            (LeastAfter, refl),
            ((Cut, refl), ((Cut, refl), ((Cut, refl), ((Cut, refl), ((Cut, refl), ((Count, refl), ((Await, refl), tt))))))),
          ),
        ),
      ),
    ),
  ),
) has

-- and each that begins with `cut` has one of its second words
pub second_of_cut : (form : Form) → Contains forms form → form.first ≡ codes "cut" → (second : CutWord) × (form.second ≡ cut_text second ∷ [])
second_of_cut form has = of_each (λ (form : Form). form.first ≡ codes "cut" → (second : CutWord) × (form.second ≡ cut_text second ∷ [])) forms form (
  (λ is. absurd (differ (codes "before") (codes "cut") refl is)),
  (
    (λ is. absurd (differ (codes "relation") (codes "cut") refl is)),
    (
      (λ is. absurd (differ (codes "event") (codes "cut") refl is)),
      (
        (λ is. absurd (differ (codes "stamp") (codes "cut") refl is)),
        (
          (λ is. absurd (differ (codes "gp") (codes "cut") refl is)),
          (
            (λ is. absurd (differ (codes "ls") (codes "cut") refl is)),
            (
              (λ is. (cut.None, refl)),
              (
                (λ is. (cut.All, refl)),
                (
                  (λ is. (cut.To, refl)),
                  (
                    (λ is. (cut.Back, refl)),
                    (
                      (λ is. (cut.Has, refl)),
                      (
                        (λ is. absurd (differ (codes "count") (codes "cut") refl is)),
                        ((λ is. absurd (differ (codes "await") (codes "cut") refl is)), tt),
                      ),
                    ),
                  ),
                ),
              ),
            ),
          ),
        ),
      ),
    ),
  ),
) has

-- how a command with this second word is written
abbrev pub cut_form : CutWord → Form
cut_form second = two_words (codes "cut") (cut_text second) (cut_arguments second)

pub cut_stands : (second : CutWord) → Contains forms (cut_form second)
cut_stands cut.None = (6, omega arith, refl)
cut_stands cut.All = (7, omega arith, refl)
cut_stands cut.To = (8, omega arith, refl)
cut_stands cut.Back = (9, omega arith, refl)
cut_stands cut.Has = (10, omega arith, refl)
