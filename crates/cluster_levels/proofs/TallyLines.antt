-- Places in a square table, and the adding of one line to another.
use Rattle.std.proofs.Common.{◌≡◌, ◌≢◌, ◌+◌, ◌*◌, ◌<◌, ◌≤◌, ℕ, suc, ◌⊎◌, inl, inr, refl, sym, ◌∙◌, ap, arith}
use Rattle.std.proofs.lemmas.Bool.{cases_eq, cases_order}
use Rattle.std.proofs.Math.Nat.{mul-le-mul_right}
use Rattle.cluster_levels.specs.Tallies.{TallyTable, tally, counted}

-- a place is not that of a later row
in_lower_row : (width i j row column : ℕ) → j < width → i < row → i * width + j ≡ row * width + column → ⊥
in_lower_row width i j row column within lower same =
    let rows : suc i * width ≤ row * width = mul-le-mul_right width (omega (arith, lower)) in
    let next : suc i * width ≡ i * width + width = omega arith in
    omega (arith, rows, next, within, same)

-- two places are one only where rows and columns are
pub same_place : (width i j row column : ℕ) → j < width → column < width → i * width + j ≡ row * width + column → (i ≡ row) × (j ≡ column)
same_place width i j row column within also same = elim (cases_order i row) [
  | inl one ↦ (one, (let rows = ap (λ n. n * width) one in omega (arith, rows, same)))
  | inr either ↦ elim either [
    | inl lower ↦ absurd (in_lower_row width i j row column within lower same)
    | inr higher ↦ absurd (in_lower_row width row column i j also higher (sym same))
  ]
]

-- The lines before one were added to another line.
pub record IsAddedUpTo (old new : TallyTable) (to from upto : ℕ) : Type 0 where
  pub width : new.width ≡ old.width
  pub row : (j : ℕ) → j < upto → j < old.width → j ≢ to → j ≢ from → tally new to j ≡ counted (tally old to j + tally old from j)
  pub column : (i : ℕ) → i < upto → i < old.width → i ≢ to → i ≢ from → tally new i to ≡ counted (tally old i to + tally old i from)
  pub row_left : (j : ℕ) → upto ≤ j → j < old.width → j ≢ to → tally new to j ≡ tally old to j
  pub column_left : (i : ℕ) → upto ≤ i → i < old.width → i ≢ to → tally new i to ≡ tally old i to
  pub others : (i j : ℕ) → i < old.width → j < old.width → i ≢ to → j ≢ to → tally new i j ≡ tally old i j

pub added_none : (old : TallyTable) (to from : ℕ) → IsAddedUpTo old old to from 0
added_none old to from = record {
  width = refl;
  row = λ j none. absurd (omega (arith, none));
  column = λ i none. absurd (omega (arith, none));
  row_left = λ j left within apart. refl;
  column_left = λ i left within apart. refl;
  others = λ i j one other apart also. refl;
}

-- the two lines themselves are passed over
pub added_skip : (old new : TallyTable) (to from upto : ℕ) → ((upto ≡ to) ⊎ (upto ≡ from)) → IsAddedUpTo old new to from upto → IsAddedUpTo old new to from (upto + 1)
added_skip old new to from upto skipped added = record {
  width = added.width;
  row = λ j below within apart other. added.row j (before j below apart other) within apart other;
  column = λ i below within apart other. added.column i (before i below apart other) within apart other;
  row_left = λ j left. added.row_left j (omega (arith, left));
  column_left = λ i left. added.column_left i (omega (arith, left));
  others = added.others;
}
  where
    before : (j : ℕ) → j < upto + 1 → j ≢ to → j ≢ from → j < upto
    before j below apart other = elim (cases_eq j upto) [
      | inl here ↦ absurd (elim skipped [ inl first ↦ apart (here ∙ first) | inr second ↦ other (here ∙ second) ])
      | inr elsewhere ↦ omega (arith, below, elsewhere)
    ]

-- another line is added
pub added_more : (old mid new : TallyTable) (to from upto : ℕ) → to < old.width → from < old.width → upto < old.width → to ≢ from → upto ≢ to
    → new.width ≡ mid.width
    → tally new to upto ≡ counted (tally mid to upto + tally mid from upto)
    → tally new upto to ≡ counted (tally mid upto to + tally mid upto from)
    → ((i j : ℕ) → i < mid.width → j < mid.width → (i ≡ to → j ≡ upto → ⊥) → (i ≡ upto → j ≡ to → ⊥) → tally new i j ≡ tally mid i j)
    → IsAddedUpTo old mid to from upto → IsAddedUpTo old new to from (upto + 1)
added_more old mid new to from upto to_in from_in upto_in apart elsewhere width row column others added = record {
  width = width ∙ added.width;
  row = λ j below within is_apart other. elim (cases_eq j upto) [
    | inl here ↦ ap (λ n. tally new to n) here ∙ (row_here ∙ ap (λ n. counted (tally old to n + tally old from n)) (sym here))
    | inr away ↦ kept to j to_in within (λ same there. away there) (λ same there. elsewhere (sym same)) ∙ added.row j (omega (arith, below, away)) within is_apart other
  ];
  column = λ i below within is_apart other. elim (cases_eq i upto) [
    | inl here ↦ ap (λ n. tally new n to) here ∙ (column_here ∙ ap (λ n. counted (tally old n to + tally old n from)) (sym here))
    | inr away ↦ kept i to within to_in (λ same there. elsewhere (sym there)) (λ same there. away same) ∙ added.column i (omega (arith, below, away)) within is_apart other
  ];
  row_left = λ j left within is_apart. kept to j to_in within (λ same there. omega (arith, left, there)) (λ same there. is_apart there) ∙ added.row_left j (omega (arith, left)) within is_apart;
  column_left = λ i left within is_apart. kept i to within to_in (λ same there. is_apart same) (λ same there. omega (arith, left, same)) ∙ added.column_left i (omega (arith, left)) within is_apart;
  others = λ i j one other is_apart also. kept i j one other (λ same there. is_apart same) (λ same there. also there) ∙ added.others i j one other is_apart also;
}
  where
    kept : (i j : ℕ) → i < old.width → j < old.width → (i ≡ to → j ≡ upto → ⊥) → (i ≡ upto → j ≡ to → ⊥) → tally new i j ≡ tally mid i j
    kept i j one other = others i j (omega (arith, one, added.width)) (omega (arith, other, added.width))

    row_here : tally new to upto ≡ counted (tally old to upto + tally old from upto)
    row_here =
        let first = added.row_left upto (omega arith) upto_in elsewhere in
        let second = added.others from upto from_in upto_in (λ same. apart (sym same)) elsewhere in
        row ∙ (ap (λ n. counted (n + tally mid from upto)) first ∙ ap (λ n. counted (tally old to upto + n)) second)

    column_here : tally new upto to ≡ counted (tally old upto to + tally old upto from)
    column_here =
        let first = added.column_left upto (omega arith) upto_in elsewhere in
        let second = added.others upto from upto_in from_in elsewhere (λ same. apart (sym same)) in
        column ∙ (ap (λ n. counted (n + tally mid upto from)) first ∙ ap (λ n. counted (tally old upto to + n)) second)
