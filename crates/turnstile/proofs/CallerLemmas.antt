-- What a caller may conclude from how a journal goes on.
use Rattle.std.proofs.Common.{◌≡◌, ℕ, ◌≤◌, ◌≢◌, List, [], ◌∷◌, ◌++◌, length, refl, sym, ap, ◌∙◌, append_assoc, length-append, arith}
use Rattle.std.proofs.lemmas.List.{append-nil}
use Rattle.std.specs.List.{AllByRecursion}
use mathlib.Core.List.{IsPrefix}
use Rattle.causal_base.specs.declared.entry.Entry.{Entry}
use Rattle.turnstile.specs.Entries.{entries_of, IsOfNoOther, GoesOnWithout, GoesOnBy}
use Rattle.turnstile.proofs.Journals as journals

pub entries_of-append : (number : ℕ) (xs ys : List Entry) → entries_of number (xs ++ ys) ≡ entries_of number xs ++ entries_of number ys
entries_of-append = journals.entries_of-append

-- The journal without entries of the number.

pub GoesOnWithout-self : (number : ℕ) (journal : List Entry) → GoesOnWithout number journal journal
GoesOnWithout-self number journal = record { added = []; whole = sym (append-nil journal); without = refl }

pub GoesOnWithout-trans : (number : ℕ) (first second third : List Entry) → GoesOnWithout number first second → GoesOnWithout number second third
    → GoesOnWithout number first third
GoesOnWithout-trans number first second third a b = record {
  added = a.added ++ b.added;
  whole = b.whole ∙ (ap (λ l. l ++ b.added) a.whole ∙ append_assoc first a.added b.added);
  without = journals.entries_of-append number a.added b.added ∙ (ap (λ l. l ++ entries_of number b.added) a.without ∙ b.without);
}

pub GoesOnWithout-prefix : (number : ℕ) (seen journal : List Entry) → GoesOnWithout number seen journal → IsPrefix seen journal
GoesOnWithout-prefix number seen journal on = (on.added, sym on.whole)

pub GoesOnWithout-length : (number : ℕ) (seen journal : List Entry) → GoesOnWithout number seen journal → length seen ≤ length journal
GoesOnWithout-length number seen journal on = omega (arith, length-append seen on.added, ap (λ (l : List Entry). length l) on.whole)

-- the entries of the number stay the same
pub entries_of-GoesOnWithout : (number : ℕ) (seen journal : List Entry) → GoesOnWithout number seen journal → entries_of number journal ≡ entries_of number seen
entries_of-GoesOnWithout number seen journal on = ap (entries_of number) on.whole ∙ (journals.entries_of-append number seen on.added
    ∙ (ap (λ l. entries_of number seen ++ l) on.without ∙ append-nil (entries_of number seen)))

-- The journal by entries of the number alone.

pub GoesOnBy-self : (number : ℕ) (journal : List Entry) → GoesOnBy number journal journal
GoesOnBy-self number journal = record { added = []; whole = sym (append-nil journal); own = tt }

all-append : (number : ℕ) (xs ys : List Entry) → AllByRecursion (IsOfNoOther number) xs → AllByRecursion (IsOfNoOther number) ys
    → AllByRecursion (IsOfNoOther number) (xs ++ ys)
all-append number [] ys a b = b
all-append number (x ∷ xs) ys a b = (a.0, all-append number xs ys a.1 b)

pub GoesOnBy-push : (number : ℕ) (seen journal : List Entry) (entry : Entry) → GoesOnBy number seen journal → IsOfNoOther number entry
    → GoesOnBy number seen (journal ++ entry ∷ [])
GoesOnBy-push number seen journal entry on own = record {
  added = on.added ++ entry ∷ [];
  whole = ap (λ l. l ++ entry ∷ []) on.whole ∙ append_assoc seen on.added (entry ∷ []);
  own = all-append number on.added (entry ∷ []) on.own (own, tt);
}

pub GoesOnBy-trans : (number : ℕ) (first second third : List Entry) → GoesOnBy number first second → GoesOnBy number second third → GoesOnBy number first third
GoesOnBy-trans number first second third a b = record {
  added = a.added ++ b.added;
  whole = b.whole ∙ (ap (λ l. l ++ b.added) a.whole ∙ append_assoc first a.added b.added);
  own = all-append number a.added b.added a.own b.own;
}

pub GoesOnBy-prefix : (number : ℕ) (seen journal : List Entry) → GoesOnBy number seen journal → IsPrefix seen journal
GoesOnBy-prefix number seen journal on = (on.added, sym on.whole)

-- the entries of another number stay the same
pub entries_of-GoesOnBy : (number other : ℕ) (seen journal : List Entry) → number ≢ other → GoesOnBy number seen journal → entries_of other journal ≡ entries_of other seen
entries_of-GoesOnBy = journals.others_stay
