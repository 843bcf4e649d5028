-- What is kept as lists are taken.
use Rattle.std.proofs.Common.{◌≡◌, ◌≢◌, ◌<◌, ◌≤◌, ◌+◌, ◌-◌, ℕ, inl, inr, List, [], length, set, get_or, Option, Some, None, Bool, true, false, refl, sym, ◌∙◌, ap, subst, replicate, get_or-set_same, get_or-set_other, arith}
use Rattle.std.specs.Prelude.{◌⊎◌, Contains, IfSome, slice_get}
use Rattle.std.proofs.lemmas.Bool.{cases_eq, cases_lt}
use Rattle.std.proofs.lemmas.List.{get_or_default, get_or-replicate, length-replicate, length-set, set-get_or}
use Rattle.std.proofs.lemmas.List.Elements.{Contains-get_or}
use Rattle.std.proofs.lemmas.Option.{get_or_from_slice_get, none-some, same_Some, slice_get-get_or, slice_get_past, slice_get_within}
use Rattle.causal_base.specs.Clusters.{Clustering, levels_of, partition}
use Rattle.cluster_members.specs.Kept.{AreKept, AreTaken, IsKeptAt, IsOfEarlier, KeptLists, cluster_of}
use Rattle.cluster_members.proofs.ClusterLists.{traces_that-agree, traces_that-has}
use Rattle.cluster_members.proofs.Moments.{Parts}

slice_get-replicate : {A : Type 0} (n i : ℕ) (a x : A) → slice_get (replicate n a) i ≡ Some x → a ≡ x
slice_get-replicate n i a x at =
    let within : i < n = omega (arith, slice_get_within (replicate n a) i x at, length-replicate n a) in
    sym (get_or-replicate n i a a within) ∙ get_or_from_slice_get (replicate n a) i x a at

-- at first nothing is kept
pub none_kept : (clustering : Clustering) (so_far : List (ℕ × ℕ)) (n : ℕ) → n ≡ levels_of clustering + 1 → AreKept clustering so_far (replicate n (replicate clustering.traces None))
none_kept clustering so_far n levels = record {
  levels = length-replicate n (replicate clustering.traces None) ∙ levels;
  traces = λ i lists at. sym (ap (λ (xs : List (Option (List ℕ))). length xs) (slice_get-replicate n i (replicate clustering.traces None) lists at)) ∙ length-replicate clustering.traces None;
  each = λ level trace list low its.
      let lists_are = slice_get-replicate n (level - 1) (replicate clustering.traces None) its.lists its.at_level in
      let none = slice_get-replicate clustering.traces trace None (Some list) (ap (λ (xs : List (Option (List ℕ))). slice_get xs trace) lists_are ∙ its.at_trace) in
      absurd (none-some list none);
}

-- to write what stands there changes nothing
pub set_same : {A : Type 0} (xs : List A) (i : ℕ) (x : A) → slice_get xs i ≡ Some x → set xs i x ≡ xs
set_same xs i x at = ap (λ y. set xs i y) (sym (get_or_from_slice_get xs i x x at)) ∙ set-get_or xs i x

-- a write to a list changes one place
get_set_same : {A : Type 0} (xs : List A) (i : ℕ) (y : A) → i < length xs → slice_get (set xs i y) i ≡ Some y
get_set_same xs i y within =
    let inside : i < length (set xs i y) = omega (arith, within, length-set xs i y) in
    slice_get-get_or (set xs i y) i y inside ∙ ap Some (get_or-set_same xs i y y within)

get_set_other : {A : Type 0} (xs : List A) (i j : ℕ) (y : A) → j ≢ i → slice_get (set xs i y) j ≡ slice_get xs j
get_set_other xs i j y away = elim (cases_lt j (length xs)) [
  | inl within ↦
      let inside : j < length (set xs i y) = omega (arith, within, length-set xs i y) in
      slice_get-get_or (set xs i y) j y inside ∙ (ap Some (get_or-set_other xs i j y y away) ∙ sym (slice_get-get_or xs j y within))
  | inr past ↦
      let outside : length (set xs i y) ≤ j = omega (arith, past, length-set xs i y) in
      slice_get_past (set xs i y) j outside ∙ sym (slice_get_past xs j past)
]

-- the list of a cluster is that of each trace of it
pub cluster_of_its : (clustering : Clustering) (so_far : List (ℕ × ℕ)) (level trace other : ℕ) → Parts clustering → Contains (cluster_of clustering so_far level trace) other
    → cluster_of clustering so_far level trace ≡ cluster_of clustering so_far level other
cluster_of_its clustering so_far level trace other parts has =
    let shared = (traces_that-has (λ x. partition clustering so_far level trace x) clustering.traces other has).1 in
    let back = (parts so_far level trace other other).1 shared in
    traces_that-agree (λ x. partition clustering so_far level trace x) (λ x. partition clustering so_far level other x) clustering.traces
    (λ x within. same_bool (partition clustering so_far level trace x) (partition clustering so_far level other x)
    (λ one. (parts so_far level other trace x).2 back one) (λ one. (parts so_far level trace other x).2 shared one))
  where
    same_bool : (x y : Bool) → (x ≡ true → y ≡ true) → (y ≡ true → x ≡ true) → x ≡ y
    same_bool true y forth again = sym (forth refl)
    same_bool false true forth again = again refl
    same_bool false false forth again = refl

-- a list that is taken is that of the cluster now
pub kept_more : (clustering : Clustering) (so_far : List (ℕ × ℕ)) (kept : KeptLists) (place trace : ℕ) (old new : List (Option (List ℕ))) (list : List ℕ) → Parts clustering
    → slice_get kept place ≡ Some old → AreTaken old new list → list ≡ cluster_of clustering so_far (place + 1) trace → AreKept clustering so_far kept → AreKept clustering so_far (set kept place new)
kept_more clustering so_far kept place trace old new list parts at taken is are = record {
  levels = length-set kept place new ∙ are.levels;
  traces = λ i lists at_level. elim (cases_eq i place) [
    | inl here ↦
        sym (ap (λ (xs : List (Option (List ℕ))). length xs) (written i lists here at_level)) ∙ (taken.traces ∙ are.traces place old at)
    | inr elsewhere ↦ are.traces i lists (sym (get_set_other kept place i new elsewhere) ∙ at_level)
  ];
  each = λ level other members low its. elim (cases_eq (level - 1) place) [
    | inl here ↦
        let now : slice_get new other ≡ Some (Some members) = ap (λ (xs : List (Option (List ℕ))). slice_get xs other) (written (level - 1) its.lists here its.at_level) ∙ its.at_trace in
        let at_place : level ≡ place + 1 = omega (arith, here, low) in
        let below : (place + 1) - 1 ≡ place = omega arith in
        subst (λ (n : ℕ). IsOfEarlier clustering so_far n other members) (sym at_place)
        (elim (taken.lists other members now) [
          | inl before ↦ are.each (place + 1) other members (omega arith) (record { lists = old; at_level = ap (λ n. slice_get kept n) below ∙ at; at_trace = before })
          | inr took ↦
              let among = subst (λ (xs : List ℕ). Contains xs other) is took.0 in
              record { newer = []; older = so_far; up_to_now = refl; are = took.1 ∙ (is ∙ cluster_of_its clustering so_far (place + 1) trace other parts among) }
        ])
    | inr elsewhere ↦ are.each level other members low (record { lists = its.lists; at_level = sym (get_set_other kept place (level - 1) new elsewhere) ∙ its.at_level; at_trace = its.at_trace })
  ];
}
  where
    within : place < length kept
    within = slice_get_within kept place old at

    written : (i : ℕ) (lists : List (Option (List ℕ))) → i ≡ place → slice_get (set kept place new) i ≡ Some lists → new ≡ lists
    written i lists here at_level = same_Some new lists (sym (get_set_same kept place new within) ∙ (ap (λ n. slice_get (set kept place new) n) (sym here) ∙ at_level))

-- what is kept then for a trace of the list
pub taken_its : (kept : KeptLists) (place trace : ℕ) (old new : List (Option (List ℕ))) (list : List ℕ) → slice_get kept place ≡ Some old → AreTaken old new list → Contains list trace
    → (level : ℕ) → level - 1 ≡ place → (other : List ℕ) → IsKeptAt (set kept place new) level trace other → other ≡ list
taken_its kept place trace old new list at taken among level here other its =
    let new_are : new ≡ its.lists = same_Some new its.lists (sym (get_set_same kept place new (slice_get_within kept place old at)) ∙ (ap (λ n. slice_get (set kept place new) n) (sym here) ∙ its.at_level)) in
    taken.taken trace other among (ap (λ (xs : List (Option (List ℕ))). slice_get xs trace) new_are ∙ its.at_trace)

-- What is kept at a level after a list was taken for those of its traces that stand before a place.
pub record AreTakenUpTo (old new : List (Option (List ℕ))) (list : List ℕ) (upto : ℕ) : Type 0 where
  pub traces : length new ≡ length old
  pub lists : (trace : ℕ) (kept : List ℕ) → slice_get new trace ≡ Some (Some kept) → (slice_get old trace ≡ Some (Some kept)) ⊎ (Contains list trace × (kept ≡ list))
  pub taken : (i : ℕ) (kept : List ℕ) → i < upto → i < length list → slice_get new (get_or list i 0) ≡ Some (Some kept) → kept ≡ list

pub taken_none : (old : List (Option (List ℕ))) (list : List ℕ) → AreTakenUpTo old old list 0
taken_none old list = record { traces = refl; lists = λ trace kept at. inl at; taken = λ i kept below. absurd (omega (arith, below)) }

pub taken_more : (old lists : List (Option (List ℕ))) (list : List ℕ) (upto trace : ℕ) (next : Option (List ℕ)) → upto < length list → trace ≡ get_or list upto 0 → trace < length lists → IfSome next (λ share. share ≡ list)
    → AreTakenUpTo old lists list upto → AreTakenUpTo old (set lists trace next) list (upto + 1)
taken_more old lists list upto trace next within is inside share taken = record {
  traces = length-set lists trace next ∙ taken.traces;
  lists = λ other kept at. elim (cases_eq other trace) [
    | inl here ↦ inr (subst (λ (n : ℕ). Contains list n) (sym (here ∙ is)) (Contains-get_or list upto 0 within), written other kept here at)
    | inr elsewhere ↦ taken.lists other kept (sym (get_set_other lists trace other next elsewhere) ∙ at)
  ];
  taken = λ i kept below i_in at. elim (cases_eq (get_or list i 0) trace) [
    | inl here ↦ written (get_or list i 0) kept here at
    | inr elsewhere ↦
        let earlier : i ≢ upto = λ same. elsewhere (ap (λ n. get_or list n 0) same ∙ sym is) in
        taken.taken i kept (omega (arith, below, earlier)) i_in (sym (get_set_other lists trace (get_or list i 0) next elsewhere) ∙ at)
  ];
}
  where
    written : (other : ℕ) (kept : List ℕ) → other ≡ trace → slice_get (set lists trace next) other ≡ Some (Some kept) → kept ≡ list
    written other kept here at =
        let next_is : next ≡ Some kept = same_Some next (Some kept) (sym (get_set_same lists trace next inside) ∙ (ap (λ n. slice_get (set lists trace next) n) (sym here) ∙ at)) in
        subst (λ (o : Option (List ℕ)). IfSome o (λ one. one ≡ list)) next_is share

pub taken_all : (old new : List (Option (List ℕ))) (list : List ℕ) (upto : ℕ) → length list ≤ upto → AreTakenUpTo old new list upto → AreTaken old new list
taken_all old new list upto all taken = record {
  traces = taken.traces;
  lists = taken.lists;
  taken = λ trace kept has at.
      let place : get_or list has.0 0 ≡ trace = get_or_default list has.0 0 trace has.1 ∙ has.2 in
      taken.taken has.0 kept (omega (arith, has.1, all)) has.1 (ap (λ n. slice_get new n) place ∙ at);
}
