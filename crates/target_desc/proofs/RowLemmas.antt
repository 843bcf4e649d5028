-- The rows that drafts and the numbers of their mates make.
use Rattle.std.proofs.Common.{◌≡◌, ℕ, zero, suc, ◌<◌, List, [], ◌∷◌, ◌++◌, length, map, Option, None, Some, sym, refl, ap, subst, ◌∙◌, inl, inr, arith}
use Rattle.std.specs.Prelude.{slice_get, slice_index_or}
use Rattle.std.specs.List.{zip}
use Rattle.std.proofs.lemmas.List.{length-map}
use Rattle.std.proofs.lemmas.Option.{slice_get-map, slice_get_read, same_Some}
use Rattle.std.proofs.lemmas.Slice.Zip.{length-zip}
use Rattle.causal_base.specs.declared.type_row.TypeRow.{TypeRow}
use Rattle.target_desc.specs.declared.draft.Draft.{Draft}
use Rattle.target_desc.specs.Drafts.{IsMateNumber, AreMateNumbers, AreRowsOf}
use Rattle.target_desc.proofs.Places.{pushed_at, from_mapped}

abbrev pub Numbers : List Draft → List (Option ℕ) → Type 0
Numbers drafts numbers = (i : ℕ) (draft : Draft) (number : Option ℕ) → slice_get drafts i ≡ Some draft → slice_get numbers i ≡ Some number → IsMateNumber drafts draft number

-- one more number
pub numbers_more : (drafts : List Draft) (numbers : List (Option ℕ)) (draft : Draft) (number : Option ℕ) → Numbers drafts numbers
    → length numbers < length drafts → draft ≡ slice_index_or drafts (length numbers) draft → IsMateNumber drafts draft number → Numbers drafts (numbers ++ number ∷ [])
numbers_more drafts numbers draft number each below is its i other last at at_number =
    elim (pushed_at numbers number i last at_number) [
      | inl before ↦ each i other last at before
      | inr end ↦
          let here : slice_get drafts (length numbers) ≡ Some draft = slice_get_read drafts (length drafts) (length numbers) draft refl below is in
          let there : slice_get drafts (length numbers) ≡ Some other = ap (slice_get drafts) (sym end.0) ∙ at in
          let same : draft ≡ other = same_Some draft other (sym here ∙ there) in
          subst (IsMateNumber drafts other) (sym end.1) (subst (λ (d : Draft). IsMateNumber drafts d number) same its)
    ]

zipped_at : {A B : Type 0} (xs : List A) (ys : List B) (i : ℕ) (pair : A × B) → slice_get (zip xs ys) i ≡ Some pair → (slice_get xs i ≡ Some pair.0) × (slice_get ys i ≡ Some pair.1)
zipped_at [] ys i pair at = absurd (let clash : None ≡ Some pair = at in cc)
zipped_at (x ∷ xs) [] i pair at = absurd (let clash : None ≡ Some pair = at in cc)
zipped_at (x ∷ xs) (y ∷ ys) zero pair at = let same : (x, y) ≡ pair = same_Some (x, y) pair at in (ap (λ p. Some p.0) same, ap (λ p. Some p.1) same)
zipped_at (x ∷ xs) (y ∷ ys) (suc i) pair at = zipped_at xs ys i pair at

abbrev pub row_of : Draft × Option ℕ → TypeRow
row_of pair = record { name = pair.0.name; kind = pair.0.kind; mate = pair.1 }

-- the pairs of drafts and numbers make the rows
pub rows_from : (drafts : List Draft) (numbers : List (Option ℕ)) (rows : List TypeRow) → AreMateNumbers drafts numbers → rows ≡ map row_of (zip drafts numbers) → AreRowsOf drafts rows
rows_from drafts numbers rows are is =
    let long : length (zip drafts numbers) ≡ length drafts = omega (arith, length-zip drafts numbers, are.count) in
    let pair_at : (i : ℕ) (row : TypeRow) → slice_get rows i ≡ Some row → (pair : Draft × Option ℕ) × (slice_get (zip drafts numbers) i ≡ Some pair) × (row_of pair ≡ row) = λ i row at.
    from_mapped row_of (slice_get (zip drafts numbers) i) row (sym (slice_get-map row_of (zip drafts numbers) i) ∙ (ap (λ items. slice_get items i) (sym is) ∙ at)) in
    let draft_at : (i : ℕ) (draft : Draft) (row : TypeRow) → slice_get drafts i ≡ Some draft → slice_get rows i ≡ Some row → (number : Option ℕ) × (slice_get numbers i ≡ Some number) × (row ≡ row_of (draft, number)) = λ i draft row at at_row.
    let pair = pair_at i row at_row in
    let both = zipped_at drafts numbers i pair.0 pair.1 in
    let same : pair.0.0 ≡ draft = same_Some pair.0.0 draft (sym both.0 ∙ at) in
    (pair.0.1, both.1, sym pair.2 ∙ ap (λ (d : Draft). row_of (d, pair.0.1)) same) in
    record {
      count = ap length is ∙ (length-map (zip drafts numbers) row_of ∙ long);
      names = λ i draft row at at_row. ap (λ (r : TypeRow). r.name) (draft_at i draft row at at_row).2;
      kinds = λ i draft row at at_row. ap (λ (r : TypeRow). r.kind) (draft_at i draft row at at_row).2;
      mates = λ i draft row at at_row. let its = draft_at i draft row at at_row in
          subst (IsMateNumber drafts draft) (ap (λ (r : TypeRow). r.mate) (sym its.2)) (are.each i draft its.0 at its.1);
    }
