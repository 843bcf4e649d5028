-- How many communications join clusters, by labels.
use Rattle.std.proofs.Common.{◌≡◌, ◌≢◌, ◌+◌, ◌*◌, ◌<◌, ℕ, inl, inr, List, [], ◌∷◌, Bool, true, false, cond, refl, sym, ◌∙◌, ap, arith, get_or}
use Rattle.std.specs.Prelude.{count_by, ◌==◌, ◌&&◌, ◌||◌}
use Rattle.std.proofs.lemmas.Bool.{cases_eq, eq-eqb, ne_eqb, and_left, and_right, cond-true, cond-false, true≢false}
use Rattle.causal_base.proofs.CallerLemmas.{count_by-cons}
use Rattle.cluster_levels.specs.Clusters.{AreOn}

-- a communication joins the clusters with two labels
abbrev pub joins_by : List ℕ → ℕ → ℕ → ℕ × ℕ → Bool
joins_by labels a b traces =
    ((a == get_or labels traces.0 0) && (b == get_or labels traces.1 0))
    || ((a == get_or labels traces.1 0) && (b == get_or labels traces.0 0))

-- so many communications do
abbrev pub joined_by : List ℕ → ℕ → ℕ → List (ℕ × ℕ) → ℕ
joined_by labels a b so_far = count_by (joins_by labels a b) so_far

abbrev one_if : Bool → ℕ
one_if b = cond b 1 0

-- one label became another
module _ (gone kept : ℕ) (apart : kept ≢ gone) where
  pub moved_label : (old new : ℕ) → new ≡ cond (old == gone) kept old → old ≡ gone → new ≡ kept
  moved_label old new is same = is ∙ cond-true (old == gone) kept old (eq-eqb old gone same)

  pub kept_label : (old new : ℕ) → new ≡ cond (old == gone) kept old → (old ≡ gone → ⊥) → new ≡ old
  kept_label old new is other = is ∙ cond-false (old == gone) kept old (ne_eqb old gone other)

  -- none has the label that is gone
  pub gone_label : (old new : ℕ) → new ≡ cond (old == gone) kept old → (gone == new) ≡ false
  gone_label old new is = elim (cases_eq old gone) [
    | inl same ↦ ne_eqb gone new (λ here. apart (sym (moved_label old new is same) ∙ sym here))
    | inr other ↦ ne_eqb gone new (λ here. other (sym (here ∙ kept_label old new is other)))
  ]

  -- the label that is kept stands for both
  pub both_labels : (old new : ℕ) → new ≡ cond (old == gone) kept old → ◌≡◌ {A = ℕ} (cond (kept == new) 1 0) (cond (kept == old) 1 0 + cond (gone == old) 1 0)
  both_labels old new is = elim (cases_eq old gone) [
    | inl same ↦
        let a = ap one_if (eq-eqb kept new (sym (moved_label old new is same))) in
        let b = ap one_if (ne_eqb kept old (λ here. apart (here ∙ same))) in
        let c = ap one_if (eq-eqb gone old (sym same)) in
        omega (arith, a, b, c)
    | inr other ↦
        let a = ap (λ label. one_if (kept == label)) (kept_label old new is other) in
        let c = ap one_if (ne_eqb gone old (λ here. other (sym here))) in
        omega (arith, a, c)
  ]

  -- another label stays as it is
  pub other_label : (label old new : ℕ) → label ≢ kept → label ≢ gone → new ≡ cond (old == gone) kept old → (label == new) ≡ (label == old)
  other_label label old new not_kept not_gone is = elim (cases_eq old gone) [
    | inl same ↦ ne_eqb label new (λ here. not_kept (here ∙ moved_label old new is same)) ∙ sym (ne_eqb label old (λ here. not_gone (here ∙ same)))
    | inr other ↦ ap (λ n. label == n) (kept_label old new is other)
  ]

-- whether a communication joins, as a number: it doesn't join in both ways
one_joins : (a b c d : Bool) → (a && d) ≡ false → one_if ((a && b) || (c && d)) ≡ one_if a * one_if b + one_if c * one_if d
one_joins true true true false once = refl
one_joins true true false false once = refl
one_joins true false true false once = refl
one_joins true false false false once = refl
one_joins false true true true once = refl
one_joins false true true false once = refl
one_joins false true false true once = refl
one_joins false true false false once = refl
one_joins false false true true once = refl
one_joins false false true false once = refl
one_joins false false false true once = refl
one_joins false false false false once = refl
one_joins true b c true both = absurd (true≢false both)

-- one label isn't two
not_both : (a b x : ℕ) → a ≢ b → ((a == x) && (b == x)) ≡ false
not_both a b x apart = elim (cases_eq a x) [
  | inl same ↦ and_right (a == x) (b == x) (ne_eqb b x (λ also. apart (same ∙ sym also)))
  | inr other ↦ and_left (a == x) (b == x) (ne_eqb a x other)
]

product : (a b c d : ℕ) → a ≡ c → b ≡ d → a * b ≡ c * d
product a b c d one other = ap (λ n. n * b) one ∙ ap (λ n. c * n) other

-- a join counts both ways round
join_as_number : (labels : List ℕ) (a b : ℕ) (traces : ℕ × ℕ) → a ≢ b → one_if (joins_by labels a b traces)
    ≡ one_if (a == get_or labels traces.0 0) * one_if (b == get_or labels traces.1 0) + one_if (a == get_or labels traces.1 0) * one_if (b == get_or labels traces.0 0)
join_as_number labels a b traces apart =
    one_joins (a == get_or labels traces.0 0) (b == get_or labels traces.1 0) (a == get_or labels traces.1 0) (b == get_or labels traces.0 0)
    (not_both a b (get_or labels traces.0 0) apart)

pub joined_swapped : (labels : List ℕ) (a b : ℕ) (so_far : List (ℕ × ℕ)) → a ≢ b → joined_by labels a b so_far ≡ joined_by labels b a so_far
joined_swapped labels a b [] apart = refl
joined_swapped labels a b (traces ∷ so_far) apart =
    let rest = joined_swapped labels a b so_far apart in
    let one = join_as_number labels a b traces apart in
    let other = join_as_number labels b a traces (λ same. apart (sym same)) in
    let first = count_by-cons (joins_by labels a b) traces so_far in
    let second = count_by-cons (joins_by labels b a) traces so_far in
    omega (arith, rest, one, other, first, second)

-- the labels where one became another
module _ (gone kept : ℕ) (apart : kept ≢ gone) (old new : List ℕ) (traces : ℕ) (relabeled : (x : ℕ) → x < traces → get_or new x 0 ≡ cond (get_or old x 0 == gone) kept (get_or old x 0)) where
  -- what joins the two with a third cluster joins one of them with it
  join_sum : (c : ℕ) → c ≢ kept → c ≢ gone → (pair : ℕ × ℕ) → pair.0 < traces → pair.1 < traces → one_if (joins_by new kept c pair) ≡ one_if (joins_by old kept c pair) + one_if (joins_by old gone c pair)
  join_sum c not_kept not_gone pair first second =
      let x = get_or old pair.0 0 in
      let y = get_or old pair.1 0 in
      let x' = get_or new pair.0 0 in
      let y' = get_or new pair.1 0 in
      let k = one_if (kept == x) + one_if (gone == x) in
      let l = one_if (kept == y) + one_if (gone == y) in
      let a = both_labels gone kept apart x x' (relabeled pair.0 first) in
      let b = both_labels gone kept apart y y' (relabeled pair.1 second) in
      let d = ap one_if (other_label gone kept apart c x x' not_kept not_gone (relabeled pair.0 first)) in
      let e = ap one_if (other_label gone kept apart c y y' not_kept not_gone (relabeled pair.1 second)) in
      let joined = join_as_number new kept c pair (λ same. not_kept (sym same)) in
      let of_kept = join_as_number old kept c pair (λ same. not_kept (sym same)) in
      let of_gone = join_as_number old gone c pair (λ same. not_gone (sym same)) in
      let one = product (one_if (kept == x')) (one_if (c == y')) k (one_if (c == y)) a e in
      let other = product (one_if (kept == y')) (one_if (c == x')) l (one_if (c == x)) b d in
      omega (arith, joined, of_kept, of_gone, one, other)

  pub joined_sum : (c : ℕ) → c ≢ kept → c ≢ gone → (so_far : List (ℕ × ℕ)) → AreOn traces so_far → joined_by new kept c so_far ≡ joined_by old kept c so_far + joined_by old gone c so_far
  joined_sum c not_kept not_gone [] on = refl
  joined_sum c not_kept not_gone (pair ∷ so_far) on =
      let rest = joined_sum c not_kept not_gone so_far on.2 in
      let here = join_sum c not_kept not_gone pair on.0 on.1 in
      let one = count_by-cons (joins_by new kept c) pair so_far in
      let two = count_by-cons (joins_by old kept c) pair so_far in
      let three = count_by-cons (joins_by old gone c) pair so_far in
      omega (arith, rest, here, one, two, three)

  -- two others are joined as before
  join_kept : (a b : ℕ) → a ≢ kept → a ≢ gone → b ≢ kept → b ≢ gone → (pair : ℕ × ℕ) → pair.0 < traces → pair.1 < traces → joins_by new a b pair ≡ joins_by old a b pair
  join_kept a b a_kept a_gone b_kept b_gone pair first second =
      rw (
        other_label gone kept apart a (get_or old pair.0 0) (get_or new pair.0 0) a_kept a_gone (relabeled pair.0 first),
        other_label gone kept apart b (get_or old pair.0 0) (get_or new pair.0 0) b_kept b_gone (relabeled pair.0 first),
        other_label gone kept apart a (get_or old pair.1 0) (get_or new pair.1 0) a_kept a_gone (relabeled pair.1 second),
        other_label gone kept apart b (get_or old pair.1 0) (get_or new pair.1 0) b_kept b_gone (relabeled pair.1 second),
      ) refl

  pub joined_kept : (a b : ℕ) → a ≢ kept → a ≢ gone → b ≢ kept → b ≢ gone → (so_far : List (ℕ × ℕ)) → AreOn traces so_far → joined_by new a b so_far ≡ joined_by old a b so_far
  joined_kept a b a_kept a_gone b_kept b_gone [] on = refl
  joined_kept a b a_kept a_gone b_kept b_gone (pair ∷ so_far) on =
      let rest = joined_kept a b a_kept a_gone b_kept b_gone so_far on.2 in
      let here = ap one_if (join_kept a b a_kept a_gone b_kept b_gone pair on.0 on.1) in
      let one = count_by-cons (joins_by new a b) pair so_far in
      let two = count_by-cons (joins_by old a b) pair so_far in
      omega (arith, rest, here, one, two)
