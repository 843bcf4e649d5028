-- Beginnings of a journal, and the entries of one number.
use Rattle.std.proofs.Common.{◌≡◌, ℕ, ◌≤◌, ◌≢◌, Bool, true, false, ne_eqb, cond, nat_lt, List, [], ◌∷◌, ◌++◌, length, refl, sym, ap, ◌∙◌, append_assoc, length-append, arith}
use Rattle.std.proofs.lemmas.Bool.{ltb-true, ltb-false}
use Rattle.std.proofs.lemmas.List.{append-nil}
use Rattle.std.proofs.lemmas.List.Elements.{filter-append}
use Rattle.std.specs.List.{AllByRecursion}
use mathlib.Core.List.{IsPrefix}
use Rattle.causal_base.specs.declared.entry.Entry.{Entry}
use Rattle.causal_base.specs.declared.entry.Entry.TheVariants.{Came, Gone, Pair, Ended}
use Rattle.turnstile.specs.Entries.{is_of, entries_of, IsOfNoOther, GoesOnWithout, GoesOnBy}
use Rattle.turnstile.specs.Views.{longer}

module _ {A : Type 0} where
  -- what is added to no effect is nothing
  pub added-nil : (xs ys : List A) → xs ++ ys ≡ xs → ys ≡ []
  added-nil [] ys same = same
  added-nil (x ∷ xs) ys same = added-nil xs ys (cc)

  pub prefix-self : (xs : List A) → IsPrefix xs xs
  prefix-self xs = ([], append-nil xs)

  pub prefix-trans : (xs ys zs : List A) → IsPrefix xs ys → IsPrefix ys zs → IsPrefix xs zs
  prefix-trans xs ys zs a b = (a.0 ++ b.0, sym (append_assoc xs a.0 b.0) ∙ (ap (λ l. l ++ b.0) a.1 ∙ b.1))

  -- of two beginnings of one list the shorter begins the longer
  pub prefix-shorter : (xs ys zs : List A) → IsPrefix xs zs → IsPrefix ys zs → length xs ≤ length ys → IsPrefix xs ys
  prefix-shorter [] ys zs a b short = (ys, refl)
  prefix-shorter (x ∷ xs) [] zs a b short = absurd (omega arith)
  prefix-shorter (x ∷ xs) (y ∷ ys) [] a b short = absurd (cc)
  prefix-shorter (x ∷ xs) (y ∷ ys) (z ∷ zs) a b short =
      let t = prefix-shorter xs ys zs (a.0, cc) (b.0, cc) (omega arith) in let same : x ≡ y = cc in (t.0, λ i. same i ∷ t.1 i)

  pub prefix_length : (xs ys : List A) → IsPrefix xs ys → length xs ≤ length ys
  prefix_length xs ys begins = omega (arith, length-append xs begins.0, ap (λ (l : List A). length l) begins.1)

  pub front-nil : (xs ys : List A) → xs ++ ys ≡ [] → xs ≡ []
  front-nil [] ys none = refl
  front-nil (x ∷ xs) ys none = absurd (cc)

  -- a beginning that is as long as the list is the list
  pub prefix-whole : (xs ys : List A) → IsPrefix xs ys → length ys ≤ length xs → xs ≡ ys
  prefix-whole xs ys begins long = let back = prefix-shorter ys xs ys (prefix-self ys) begins long in
      let none : back.0 ++ begins.0 ≡ [] = added-nil ys (back.0 ++ begins.0) (sym (append_assoc ys back.0 begins.0) ∙ (ap (λ l. l ++ begins.0) back.1 ∙ begins.1)) in
      sym back.1 ∙ (ap (λ l. ys ++ l) (front-nil back.0 begins.0 none) ∙ append-nil ys)

-- the longer of two beginnings is one too, and the two begin it
pub longer-prefix : (xs ys journal : List Entry) → IsPrefix xs journal → IsPrefix ys journal
    → IsPrefix (longer xs ys) journal × IsPrefix xs (longer xs ys) × IsPrefix ys (longer xs ys)
longer-prefix xs ys journal a b = longer_by (nat_lt (length xs) (length ys)) refl
  where
    longer_by : (short : Bool) → nat_lt (length xs) (length ys) ≡ short
        → IsPrefix (cond short ys xs) journal × IsPrefix xs (cond short ys xs) × IsPrefix ys (cond short ys xs)
    longer_by true is = (b, prefix-shorter xs ys journal a b (let less = ltb-true (length xs) (length ys) is in omega arith), prefix-self ys)
    longer_by false is = (a, prefix-self xs, prefix-shorter ys xs journal b a (ltb-false (length xs) (length ys) is))

pub entries_of-append : (number : ℕ) (xs ys : List Entry) → entries_of number (xs ++ ys) ≡ entries_of number xs ++ entries_of number ys
entries_of-append number xs ys = filter-append (is_of number) xs ys

is_of-no : (number : ℕ) (e : Entry) (own : ℕ) → own ≢ number → IsOfNoOther own e → is_of number e ≡ false
is_of-no number (Came collector event) own apart is = ne_eqb collector number (λ e. apart (sym is ∙ e))
is_of-no number (Gone id) own apart is = refl
is_of-no number (Pair first second) own apart is = refl
is_of-no number (Ended collector) own apart is = ne_eqb collector number (λ e. apart (sym is ∙ e))

-- entries of one number alone have none of another
pub entries_of-others : (own number : ℕ) (added : List Entry) → own ≢ number → AllByRecursion (IsOfNoOther own) added → entries_of number added ≡ []
entries_of-others own number [] apart all = refl
entries_of-others own number (e ∷ added) apart all =
    rw (is_of-no number e own apart all.0) (entries_of-others own number added apart all.1)

-- entries of one number leave those of another
pub others_stay : (own number : ℕ) (seen journal : List Entry) → own ≢ number → GoesOnBy own seen journal → entries_of number journal ≡ entries_of number seen
others_stay own number seen journal apart on = ap (entries_of number) on.whole ∙ (entries_of-append number seen on.added
    ∙ (ap (λ l. entries_of number seen ++ l) (entries_of-others own number on.added apart on.own) ∙ append-nil (entries_of number seen)))

-- where the journal has no entry of a number, no beginning has one
pub none_before : (number : ℕ) (seen journal : List Entry) → IsPrefix seen journal → entries_of number journal ≡ [] → entries_of number seen ≡ []
none_before number seen journal begins none = front-nil (entries_of number seen) (entries_of number begins.0)
    (sym (entries_of-append number seen begins.0) ∙ (ap (entries_of number) begins.1 ∙ none))

-- what is added to all entries of a number has none of it
none_added : (number : ℕ) (seen rest journal : List Entry) → seen ++ rest ≡ journal → entries_of number journal ≡ entries_of number seen → entries_of number rest ≡ []
none_added number seen rest journal whole own = added-nil (entries_of number seen) (entries_of number rest)
    (sym (entries_of-append number seen rest) ∙ (ap (entries_of number) whole ∙ own))

-- of a beginning that has all entries of a number, the journal goes on without that number
pub goes_on : (number : ℕ) (seen journal : List Entry) → IsPrefix seen journal → entries_of number journal ≡ entries_of number seen
    → GoesOnWithout number seen journal
goes_on number seen journal begins own =
    record { added = begins.0; whole = sym begins.1; without = none_added number seen begins.0 journal begins.1 own }

-- a list between a beginning and the journal has the entries that both have
pub all_between : (number : ℕ) (seen more journal : List Entry) → IsPrefix seen more → IsPrefix more journal
    → entries_of number journal ≡ entries_of number seen → entries_of number journal ≡ entries_of number more
all_between number seen more journal a b own =
    let whole : seen ++ (a.0 ++ b.0) ≡ journal = sym (append_assoc seen a.0 b.0) ∙ (ap (λ l. l ++ b.0) a.1 ∙ b.1) in
    let none : entries_of number a.0 ≡ [] = none_before number a.0 (a.0 ++ b.0) (b.0, refl) (none_added number seen (a.0 ++ b.0) journal whole own) in
    own ∙ (sym (append-nil (entries_of number seen)) ∙ (ap (λ l. entries_of number seen ++ l) (sym none)
    ∙ (sym (entries_of-append number seen a.0) ∙ ap (entries_of number) a.1)))
