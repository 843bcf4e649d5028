-- The runs among blocks as more numbers come.
use Rattle.std.proofs.Common.{◌≡◌, ◌≤◌, ◌+◌, ℕ, zero, suc, List, [], ◌∷◌, ◌++◌, length, take, drop, refl, sym, ◌∙◌, ap, subst, arith, length-append}
use Rattle.std.proofs.Math.Seq.{drop-append_seam, get_or-append_seam, take-length}
use Rattle.std.proofs.lemmas.List.{append-nil, drop-append-le, length-drop, take-append-le}
use Rattle.shared_list.specs.Traces.{list_of}
use Rattle.projected_stamp.specs.Runs.{IsRun, Stay}
use Rattle.projected_stamp.specs.declared.numbers.Run.{Run}

pub Stay-refl : (blocks : List (List ℕ)) → Stay blocks blocks
Stay-refl blocks run count has = (has, refl)

-- an empty block at the end changes none
list_of-empty_last : (blocks : List (List ℕ)) (k : ℕ) → list_of (blocks ++ [] ∷ []) k ≡ list_of blocks k
list_of-empty_last [] zero = refl
list_of-empty_last [] (suc k) = refl
list_of-empty_last (b ∷ bs) zero = refl
list_of-empty_last (b ∷ bs) (suc k) = list_of-empty_last bs k

pub Stay-empty_last : (blocks : List (List ℕ)) → Stay blocks (blocks ++ [] ∷ [])
Stay-empty_last blocks run count has =
    let same = list_of-empty_last blocks run.block in
    let more = length-append blocks ([] ∷ []) in (
      record {
        block = (let block = has.block in omega (arith, block, more));
        within = subst (λ (l : List ℕ). run.from + count ≤ length l) (sym same) has.within;
      },
      ap (λ (l : List ℕ). take count (drop run.from l)) same,
    )

module _ (last more : List ℕ) where
  -- each block has more at its end, or the same
  grows : (closed : List (List ℕ)) (k : ℕ) → (rest : List ℕ) × (list_of (closed ++ (last ++ more) ∷ []) k ≡ list_of (closed ++ last ∷ []) k ++ rest)
  grows [] zero = (more, refl)
  grows [] (suc k) = ([], refl)
  grows (b ∷ bs) zero = ([], sym (append-nil b))
  grows (b ∷ bs) (suc k) = grows bs k

  pub Stay-more : (closed : List (List ℕ)) → Stay (closed ++ last ∷ []) (closed ++ (last ++ more) ∷ [])
  Stay-more closed run count has =
      let block = list_of (closed ++ last ∷ []) run.block in
      let grown = grows closed run.block in
      let longer = length-append block grown.0 in
      let behind = length-drop run.from block in
      let within = has.within in
      let before = length-append closed (last ∷ []) in
      let after = length-append closed ((last ++ more) ∷ []) in (
        record {
          block = (let inside = has.block in omega (arith, inside, before, after));
          within = subst (λ (l : List ℕ). run.from + count ≤ length l) (sym grown.1) (omega (arith, within, longer));
        },
        ap (λ (l : List ℕ). take count (drop run.from l)) grown.1
            ∙ (ap (take count) (drop-append-le run.from block grown.0 (omega (arith, within)))
            ∙ take-append-le count (drop run.from block) grown.0 (omega (arith, within, behind))),
      )

  -- what came last is a run
  pub IsRun-last : (closed : List (List ℕ)) (run : Run) → run.block ≡ length closed → run.from ≡ length last → IsRun (closed ++ (last ++ more) ∷ []) run more
  IsRun-last closed run block from =
      let whole : list_of (closed ++ (last ++ more) ∷ []) run.block ≡ last ++ more =
      ap (list_of (closed ++ (last ++ more) ∷ [])) block ∙ get_or-append_seam closed (last ++ more) [] [] in
      let count = length-append last more in
      let all = length-append closed ((last ++ more) ∷ []) in
      record {
        has = record {
          block = omega (arith, block, all);
          within = subst (λ (l : List ℕ). run.from + length more ≤ length l) (sym whole) (omega (arith, from, count));
        };
        same =
            ap (λ (l : List ℕ). take (length more) (drop run.from l)) whole
            ∙ (ap (λ (n : ℕ). take (length more) (drop n (last ++ more))) from
            ∙ (ap (take (length more)) (drop-append_seam last more)
            ∙ take-length more));
      }
