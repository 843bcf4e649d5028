-- Of so many traces there are no stamps yet.
use Rattle.std.proofs.Common.{◌≡◌, ◌≤◌, ℕ, zero, suc, List, [], ◌∷◌, length, map, refl, sym, ◌∙◌, ap, subst, arith, inl, inr}
use Rattle.std.proofs.lemmas.List.{get_or_past}
use Rattle.std.specs.Prelude.{All, min, replicate}
use Rattle.std.proofs.lemmas.Bool.{cases_order}
use Rattle.std.proofs.lemmas.List.Elements.{All-replicate}
use Rattle.std.proofs.lemmas.List.Folds.{sum_by-replicate}
use Rattle.causal_base.specs.Stamps.{ClusterTimestamp}
use Rattle.shared_list.specs.Traces.{list_of}
use Rattle.projected_stamp.specs.declared.above.Kept.{Kept}
use Rattle.projected_stamp.specs.Above.{stamps_of, IsKept}
use Rattle.projected_stamp.specs.Runs.{spares_within}
use Rattle.projected_stamp.specs.StampLists.{parts_of}

abbrev pub none_kept : List Kept
none_kept = []

abbrev none_seen : List ClusterTimestamp
none_seen = []

-- no room for runs, or for stamps, is none at all
pub spares-no_runs : (spare : List ℕ) → spares_within 0 spare ≡ replicate (length spare) 0
spares-no_runs [] = refl
spares-no_runs (n ∷ spare) =
    let none : min n 0 ≡ 0 = omega arith in
    ap (λ (m : ℕ). m ∷ spares_within 0 spare) none ∙ ap (λ (l : List ℕ). 0 ∷ l) (spares-no_runs spare)

module _ (blocks : List (List ℕ)) where
  pub stamps-none : (traces : ℕ) → map (stamps_of blocks) (replicate traces none_kept) ≡ replicate traces none_seen
  stamps-none zero = refl
  stamps-none (suc traces) = ap (λ (l : List (List ClusterTimestamp)). none_seen ∷ l) (stamps-none traces)

  IsKept-none : IsKept blocks none_kept
  IsKept-none = record {
    linked = λ before k found. absurd cc;
    few = omega arith;
    small = λ k d within. absurd (omega (arith, within));
    stand = λ k d within. absurd (omega (arith, within));
  }

  pub IsKept-all_none : (traces : ℕ) → All (IsKept blocks) (replicate traces none_kept)
  IsKept-all_none traces = All-replicate (IsKept blocks) traces none_kept IsKept-none

  pub parts-none : (traces : ℕ) → 0 ≡ parts_of (map (stamps_of blocks) (replicate traces none_kept))
  parts-none traces = sym (ap parts_of (stamps-none traces) ∙ (sum_by-replicate _ traces none_seen ∙ omega arith))

  -- what holds of the stamps of each trace holds of those of any, since a trace that isn't there has none
  pub kept_of : (lists : List (List Kept)) → All (IsKept blocks) lists → (trace : ℕ) → IsKept blocks (list_of lists trace)
  kept_of lists all trace = elim (cases_order trace (length lists)) [
    | inl is ↦ past (omega (arith, is))
    | inr apart ↦ elim apart [
      | inl within ↦ all trace none_kept within
      | inr more ↦ past (omega (arith, more))
    ]
  ]
    where
      past : length lists ≤ trace → IsKept blocks (list_of lists trace)
      past over = subst (IsKept blocks) (sym (get_or_past lists trace none_kept over)) IsKept-none
