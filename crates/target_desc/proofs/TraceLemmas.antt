-- Names that stand in a list, and the refusals of the traces that they are.
use Rattle.std.proofs.Common.{◌≡◌, ◌↔◌, ℕ, ◌<◌, ◌≤◌, List, [], length, map, take, get_or, Some, None, Option, option_map, IsTrue, Bool, nat_eq, All, sym, refl, ap, subst, ◌∙◌, inl, inr, arith}
use Rattle.std.specs.Prelude.{slice_get, slice_index_or, option_and_then}
use Rattle.std.specs.Cmp.Lexicographic.{pointwise}
use Rattle.std.specs.List.{list_any}
use Rattle.std.proofs.lemmas.Bool.{cases_lt}
use Rattle.std.proofs.lemmas.List.{length-map, length-take-le, get_or-take}
use Rattle.std.proofs.lemmas.List.Folds.{Any-from_list_any, list_any-from_Any}
use Rattle.std.proofs.lemmas.Option.{slice_get-map, slice_get_within, slice_get_read, slice_get-get_or, get_or_from_slice_get, same_Some}
use Rattle.std.proofs.lemmas.Slice.Eq.{bytes_eq-Decides}
use Rattle.causal_base.specs.Spelling.{IsName}
use Rattle.target_desc.specs.declared.target_error.TargetError.TheVariants.{TwiceTrace}
use Rattle.target_desc.specs.Names.{IsTwiceName}
use Rattle.causal_base.specs.Refusals.{IsLeast, IsFirst, ArePassed}
use Rattle.target_desc.specs.Target.{AreTraceNames}
use Rattle.target_desc.specs.Traces.{IsBadTrace, IsTwiceTrace, trace_refusals}
use Rattle.toml.specs.Data.{Data, string, as_str}

-- a slice has a name exactly where an earlier one is the same
pub twice_name : (names : List (List ℕ)) (i : ℕ) (name : List ℕ) (found : Bool) → i < length names → name ≡ slice_index_or names i name
    → found ≡ list_any (λ other. pointwise nat_eq other name) (take i names) → IsTrue found ↔ IsTwiceName names i
twice_name names i name found below is tells =
    let at : slice_get names i ≡ Some name = slice_get_read names (length names) i name refl below is in
    let long : length (take i names) ≡ i = length-take-le i names (omega arith) in (
      (λ h.
          let any = Any-from_list_any (λ (other : List ℕ). pointwise nat_eq other name) (take i names) (sym tells ∙ h) in
          let j : ℕ = any.0 in
          let first : j < i = omega (arith, any.2, long) in
          let same : any.1 ≡ name = (bytes_eq-Decides any.1 name).0 any.4 in
          let there : any.1 ≡ slice_index_or names j any.1 = sym any.3 ∙ get_or-take i names j any.1 first in
          (j, first, slice_get_read names (length names) j any.1 refl (omega arith) there ∙ (ap Some same ∙ sym at))),
      (λ twice.
          let there : slice_get names twice.0 ≡ Some name = twice.2 ∙ at in
          let got : get_or (take i names) twice.0 name ≡ name = get_or-take i names twice.0 name twice.1 ∙ get_or_from_slice_get names twice.0 name name there in
          tells ∙ list_any-from_Any (λ (other : List ℕ). pointwise nat_eq other name) (take i names)
          (twice.0, name, omega (arith, twice.1, long), got, (bytes_eq-Decides name name).1 refl)),
    )

-- the strings of names are the same exactly where the names are
twice_trace : (names : List (List ℕ)) (i : ℕ) → IsTwiceTrace (map string names) i → IsTwiceName names i
twice_trace names i twice =
    let same = sym (slice_get-map string names twice.0) ∙ (twice.2 ∙ slice_get-map string names i) in
    (twice.0, twice.1, back (slice_get names twice.0) ∙ (ap (option_and_then as_str) same ∙ sym (back (slice_get names i))))
  where
    back : (found : Option (List ℕ)) → found ≡ option_and_then as_str (option_map string found)
    back None = refl
    back (Some name) = refl

twice_of_name : (names : List (List ℕ)) (i : ℕ) → IsTwiceName names i → IsTwiceTrace (map string names) i
twice_of_name names i twice =
    (twice.0, twice.1, slice_get-map string names twice.0 ∙ (ap (option_map string) twice.2 ∙ sym (slice_get-map string names i)))

name_at : (names : List (List ℕ)) (i : ℕ) → i < length names → slice_get names i ≡ Some (get_or names i [])
name_at names i below = slice_get-get_or names i [] below

-- a name is a good trace
not_bad : (names : List (List ℕ)) (i : ℕ) → All IsName names → i < length names → IsBadTrace (map string names) i → ⊥
not_bad names i are below bad = bad (get_or names i []) (slice_get-map string names i ∙ ap (option_map string) (name_at names i below)) (are i [] below)

some_passed : (names : List (List ℕ)) → 0 < length names → map string names ≡ [] → ⊥
some_passed names some none = absurd (omega (arith, some, length-map names string, ap length none))

module _ (traces : List Data) (names : List (List ℕ)) (are_traces : map string names ≡ traces) (some : 0 < length names) (few : length names ≤ 256) (are : All IsName names) where
  same_length : length traces ≡ length names
  same_length = ap length (sym are_traces) ∙ length-map names string

  none_bad : (i : ℕ) → IsLeast (length traces) (IsBadTrace traces) i → ⊥
  none_bad i bad = not_bad names i are (omega (arith, bad.below, same_length)) (subst (λ items. IsBadTrace items i) (sym are_traces) bad.has)

  -- Of names that are there once nothing is wrong.
  pub traces_pass : ((i : ℕ) → i < length names → IsTwiceName names i → ⊥) → ArePassed (trace_refusals traces)
  traces_pass once = (
    (λ error none. some_passed names some (are_traces ∙ none.0)),
    (
      (λ error many. absurd (omega (arith, many.0, few, same_length))),
      (
        (λ error bad. none_bad bad.0 bad.1),
        (
          (λ error twice. once twice.0 (omega (arith, twice.1.below, same_length)) (twice_trace names twice.0 (subst (λ items. IsTwiceTrace items twice.0) (sym are_traces) twice.1.has))),
          tt,
        ),
      ),
    ),
  )

  -- The first name that is there twice is the first such trace.
  pub trace_twice : (i : ℕ) → IsLeast (length names) (IsTwiceName names) i → IsFirst (trace_refusals traces) (TwiceTrace i)
  trace_twice i twice = inr (
    (λ error none. some_passed names some (are_traces ∙ none.0)),
    inr (
      (λ error many. absurd (omega (arith, many.0, few, same_length))),
      inr (
        (λ error bad. none_bad bad.0 bad.1),
        inl (
          i,
          record {
            below = omega (arith, twice.below, same_length);
            has = subst (λ items. IsTwiceTrace items i) are_traces (twice_of_name names i twice.has);
            none_before = λ j before has. twice.none_before j before (twice_trace names j (subst (λ items. IsTwiceTrace items j) (sym are_traces) has));
          },
          refl,
        ),
      ),
    ),
  )

-- Names that are there once.
pub names_once : (names : List (List ℕ)) (count : ℕ) → length names ≡ count → All IsName names → ((i : ℕ) → i < length names → IsTwiceName names i → ⊥) → AreTraceNames names count
names_once names count long are once = record {
  count_is = long;
  are_names = λ i name at. subst IsName (get_or_from_slice_get names i name [] at) (are i [] (slice_get_within names i name at));
  distinct = λ i j name at there. elim (cases_lt i j) [
    | inl before ↦ absurd (once j (slice_get_within names j name there) (i, before, at ∙ sym there))
    | inr least ↦ elim (cases_lt j i) [
      | inl before ↦ absurd (once i (slice_get_within names i name at) (j, before, there ∙ sym at))
      | inr most ↦ omega (arith, least, most)
    ]
  ];
}

-- what a trace is that stands at a place
pub seen_bad : (traces : List Data) (i : ℕ) (trace : Data) → slice_get traces i ≡ Some trace → ((name : List ℕ) → trace ≡ string name → IsName name → ⊥) → IsBadTrace traces i
seen_bad traces i trace at none name is are = none name (same_Some trace (string name) (sym at ∙ is)) are

pub seen_good : (traces : List Data) (i : ℕ) (trace : Data) (name : List ℕ) → slice_get traces i ≡ Some trace → trace ≡ string name → IsName name → IsBadTrace traces i → ⊥
seen_good traces i trace name at is are bad = bad name (at ∙ ap Some is) are
