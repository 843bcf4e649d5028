use Rattle.std.proofs.Common.{◌≡◌, ℕ, zero, suc, ◌+◌, ◌<◌, ◌≤◌, List, [], ◌∷◌, ◌++◌, length, length-append, get_or, set, map, refl, sym, ◌∙◌, ap, subst, arith, Option, Some, None}
use Rattle.std.specs.Prelude.{slice_get, All, replicate}
use Rattle.std.specs.Option.{option_and_then, option_to_list}
use Rattle.std.proofs.lemmas.List.{map-set, length-set, length-map, get_or-map}
use Rattle.std.proofs.lemmas.List.Concat.{flat_map-append}
use Rattle.std.proofs.lemmas.List.Elements.{All-head, All-tail, All-weaker, All-push, All-set, All-get_or, All-map}
use Rattle.std.proofs.Math.Seq.{map-set_same}
use Rattle.shared_list.specs.Shared.{Shared, unspared, no_items}
use Rattle.shared_list.specs.Traces.{list_of, with_item, items_at, lists_of, ArePlaces}
use Rattle.shared_list.proofs.Pieces.{slice_get-append_left, slice_get-append_right, length-pieces, slice_get-pieces}

module _ {T : Type 0} where
  -- all places are of items
  abbrev pub AreWithin : List T → List ℕ → Type 0
  AreWithin items places = All (λ place. place < length items) places

  one_within : (items : List T) (place : ℕ) → place < length items → length (option_to_list (slice_get items place)) ≡ 1
  one_within [] place h = absurd (omega arith)
  one_within (x ∷ xs) zero h = refl
  one_within (x ∷ xs) (suc place) h = one_within xs place (omega arith)

  one_each : (items : List T) (places : List ℕ) → AreWithin items places → All (λ place. length (option_to_list (slice_get items place)) ≡ 1) places
  one_each items places within =
      All-weaker (λ place. place < length items) (λ place. length (option_to_list (slice_get items place)) ≡ 1) (one_within items) places within

  pub length-items_at : (items : List T) (places : List ℕ) → AreWithin items places → length places ≡ length (items_at items places)
  length-items_at items places within =
      let e = length-pieces (λ place. option_to_list (slice_get items place)) 1 places (one_each items places within) in
      omega (arith, e)

  first-option_to_list : (o : Option T) → slice_get (option_to_list o) 0 ≡ o
  first-option_to_list None = refl
  first-option_to_list (Some x) = refl

  pub slice_get-items_at : (items : List T) (places : List ℕ) → AreWithin items places → (k : ℕ) (o : Option ℕ) → o ≡ slice_get places k → option_and_then (slice_get items) o ≡ slice_get (items_at items places) k
  slice_get-items_at items places within k o found =
      let piece : ℕ → List T = λ place. option_to_list (slice_get items place) in
      let e = slice_get-pieces piece 1 places (one_each items places within) k 0 k (omega arith) (omega arith) in
      option_cases items o ∙ ap (option_and_then (λ place. slice_get (piece place) 0)) found ∙ sym e
    where
      option_cases : (items : List T) (o : Option ℕ) → option_and_then (slice_get items) o ≡ option_and_then (λ place. slice_get (option_to_list (slice_get items place)) 0) o
      option_cases items None = refl
      option_cases items (Some place) = sym (first-option_to_list (slice_get items place))

  -- an item that comes last is at no place before it
  pub items_at-more : (items : List T) (item : T) (places : List ℕ) → AreWithin items places → items_at (items ++ item ∷ []) places ≡ items_at items places
  items_at-more items item [] within = refl
  items_at-more items item (p ∷ ps) within =
      let h : p < length items = All-head (λ place. place < length items) p ps within in
      let rest = items_at-more items item ps (All-tail (λ place. place < length items) p ps within) in
      ap (λ o. option_to_list o ++ items_at (items ++ item ∷ []) ps) (slice_get-append_left items (item ∷ []) p h)
      ∙ ap (λ xs. option_to_list (slice_get items p) ++ xs) rest

  pub items_at-push : (items : List T) (item : T) (places : List ℕ) → AreWithin items places → items_at (items ++ item ∷ []) (places ++ length items ∷ []) ≡ items_at items places ++ item ∷ []
  items_at-push items item places within =
      let more = items ++ item ∷ [] in
      let last : slice_get more (length items) ≡ Some item = slice_get-append_right items (item ∷ []) (length items) 0 (omega arith) in
      flat_map-append (λ place. option_to_list (slice_get more place)) places (length items ∷ [])
      ∙ ap (λ o. items_at more places ++ (option_to_list o ++ [])) last
      ∙ ap (λ xs. xs ++ item ∷ []) (items_at-more items item places within)

  -- the list of a trace that there is
  pub list_of-some : (items : List T) (places : List (Shared ℕ)) (trace : ℕ) (p : Shared ℕ) → Some p ≡ slice_get places trace → items_at items p.items ≡ list_of (lists_of items places) trace
  list_of-some items [] trace p e = absurd cc
  list_of-some items (q ∷ qs) zero p e = let same : p ≡ q = cc in ap (λ (s : Shared ℕ). items_at items s.items) same
  list_of-some items (q ∷ qs) (suc trace) p e = list_of-some items qs trace p e

  pub list_of-none : (items : List T) (places : List (Shared ℕ)) (trace : ℕ) → None ≡ slice_get places trace → [] ≡ list_of (lists_of items places) trace
  list_of-none items [] trace e = refl
  list_of-none items (q ∷ qs) zero e = absurd cc
  list_of-none items (q ∷ qs) (suc trace) e = list_of-none items qs trace e

  pub within_of : (all : Shared T) (places : List (Shared ℕ)) → ArePlaces all places → (trace : ℕ) (p : Shared ℕ) → Some p ≡ slice_get places trace → AreWithin all.items p.items × (length p.items ≤ length all.items)
  within_of all places are trace p e = both places are.within are.no_more trace e
    where
      both : (ps : List (Shared ℕ)) → All (λ q. AreWithin all.items q.items) ps → All (λ q. length q.items ≤ length all.items) ps → (k : ℕ) → Some p ≡ slice_get ps k → AreWithin all.items p.items × (length p.items ≤ length all.items)
      both [] w n k e = absurd cc
      both (q ∷ qs) w n zero e =
          let same : p ≡ q = cc in
          subst (λ (s : Shared ℕ). AreWithin all.items s.items × (length s.items ≤ length all.items)) (sym same)
          (All-head (λ (s : Shared ℕ). AreWithin all.items s.items) q qs w, All-head (λ (s : Shared ℕ). length s.items ≤ length all.items) q qs n)
      both (q ∷ qs) w n (suc k) e =
          both qs (All-tail (λ (s : Shared ℕ). AreWithin all.items s.items) q qs w) (All-tail (λ (s : Shared ℕ). length s.items ≤ length all.items) q qs n) k e

  -- an item of a trace, by its place
  pub slice_get-list_of : (all : Shared T) (places : List (Shared ℕ)) → ArePlaces all places → (trace : ℕ) (p : Shared ℕ) → Some p ≡ slice_get places trace → (k : ℕ) (o : Option ℕ) → o ≡ slice_get p.items k → option_and_then (slice_get all.items) o ≡ slice_get (list_of (lists_of all.items places) trace) k
  slice_get-list_of all places are trace p found k o e =
      slice_get-items_at all.items p.items (within_of all places are trace p found).0 k o e ∙ ap (λ xs. slice_get xs k) (list_of-some all.items places trace p found)

  pub length-list_of : (all : Shared T) (places : List (Shared ℕ)) → ArePlaces all places → (trace : ℕ) (p : Shared ℕ) → Some p ≡ slice_get places trace → length p.items ≡ length (list_of (lists_of all.items places) trace)
  length-list_of all places are trace p found =
      length-items_at all.items p.items (within_of all places are trace p found).0 ∙ ap length (list_of-some all.items places trace p found)

  lists_of-more : (items : List T) (item : T) (places : List (Shared ℕ)) → All (λ p. AreWithin items p.items) places → lists_of (items ++ item ∷ []) places ≡ lists_of items places
  lists_of-more items item [] within = refl
  lists_of-more items item (p ∷ ps) within =
      let this = items_at-more items item p.items (All-head (λ (s : Shared ℕ). AreWithin items s.items) p ps within) in
      let rest = lists_of-more items item ps (All-tail (λ (s : Shared ℕ). AreWithin items s.items) p ps within) in
      ap (λ xs. xs ∷ lists_of (items ++ item ∷ []) ps) this ∙ ap (λ xss. items_at items p.items ∷ xss) rest

  -- after an item came, and its place to its trace
  module _ (all all' : Shared T) (item : T) (places : List (Shared ℕ)) (are : ArePlaces all places) (items : all'.items ≡ all.items ++ item ∷ []) (trace : ℕ) (old new : Shared ℕ) (h : trace < length places) (was : old ≡ get_or places trace old) (pushed : new.items ≡ old.items ++ length all.items ∷ []) where
    old_within : AreWithin all.items old.items
    old_within = subst (λ (s : Shared ℕ). AreWithin all.items s.items) (sym was) (All-get_or (λ (s : Shared ℕ). AreWithin all.items s.items) places trace old h are.within)

    pub lists_of-push : lists_of all'.items (set places trace new) ≡ with_item (lists_of all.items places) trace item
    lists_of-push =
        let after = all.items ++ item ∷ [] in
        let grown : items_at after new.items ≡ items_at all.items old.items ++ item ∷ [] =
        ap (items_at after) pushed ∙ items_at-push all.items item old.items old_within in
        let before : items_at all.items old.items ≡ list_of (lists_of all.items places) trace =
        ap (λ (s : Shared ℕ). items_at all.items s.items) was ∙ sym (get_or-map (λ (s : Shared ℕ). items_at all.items s.items) places trace old [] h) in
        ap (λ xs. lists_of xs (set places trace new)) items
        ∙ map-set (λ (s : Shared ℕ). items_at after s.items) places trace new
        ∙ ap (λ xss. set xss trace (items_at after new.items)) (lists_of-more all.items item places are.within)
        ∙ ap (set (lists_of all.items places) trace) (grown ∙ ap (λ xs. xs ++ item ∷ []) before)

    pub ArePlaces-push : all'.spare + 1 ≡ all.spare → ArePlaces all' (set places trace new)
    ArePlaces-push room =
        let longer : length all'.items ≡ length all.items + 1 = ap length items ∙ length-append all.items (item ∷ []) in
        let Within : Shared ℕ → Type 0 = λ p. All (λ place. place < length all'.items) p.items in
        let weaker = λ (p : Shared ℕ) (w : AreWithin all.items p.items). All-weaker (λ place. place < length all.items) (λ place. place < length all'.items) (λ place l. omega arith) p.items w in
        let old_length : length old.items ≤ length all.items = subst (λ (s : Shared ℕ). length s.items ≤ length all.items) (sym was) (All-get_or (λ (s : Shared ℕ). length s.items ≤ length all.items) places trace old h are.no_more) in
        let new_length : length new.items ≡ length old.items + 1 = ap length pushed ∙ length-append old.items (length all.items ∷ []) in
        let pushed_within = All-push (λ place. place < length all'.items) old.items (length all.items) (weaker old old_within) (omega arith) in
        record {
          within = All-set Within places trace new
              (subst (All (λ place. place < length all'.items)) (sym pushed) pushed_within)
              (All-weaker (λ (p : Shared ℕ). AreWithin all.items p.items) Within weaker places are.within);
          no_more = All-set (λ (p : Shared ℕ). length p.items ≤ length all'.items) places trace new (omega arith)
              (All-weaker (λ (p : Shared ℕ). length p.items ≤ length all.items) (λ (p : Shared ℕ). length p.items ≤ length all'.items) (λ p l. omega arith) places are.no_more);
          few = let few = are.few in omega arith;
          traces = let traces = are.traces in omega (arith, length-set places trace new);
        }

  -- other room, and the same items
  pub lists_of-set_same : (items items' : List T) (places : List (Shared ℕ)) (trace : ℕ) (old new : Shared ℕ) → items' ≡ items → trace < length places → old ≡ get_or places trace old → new.items ≡ old.items → lists_of items' (set places trace new) ≡ lists_of items places
  lists_of-set_same items items' places trace old new same h was kept =
      ap (λ xs. lists_of xs (set places trace new)) same
      ∙ map-set_same (λ (s : Shared ℕ). items_at items s.items) places trace new old (ap (items_at items) kept ∙ ap (λ (s : Shared ℕ). items_at items s.items) was)

  pub lists_of-unspared : (items : List T) (places : List (Shared ℕ)) → lists_of items (map unspared places) ≡ lists_of items places
  lists_of-unspared items [] = refl
  lists_of-unspared items (p ∷ ps) = ap (λ xss. items_at items p.items ∷ xss) (lists_of-unspared items ps)

  pub ArePlaces-unspared : (all all' : Shared T) (places : List (Shared ℕ)) → all'.items ≡ all.items → all'.spare ≡ 0 → ArePlaces all places → ArePlaces all' (map unspared places)
  ArePlaces-unspared all all' places same none are = record {
    within = All-map (λ (p : Shared ℕ). AreWithin all'.items p.items) unspared places (subst (λ xs. All (λ (p : Shared ℕ). AreWithin xs p.items) places) (sym same) are.within);
    no_more = All-map (λ (p : Shared ℕ). length p.items ≤ length all'.items) unspared places (subst (λ xs. All (λ (p : Shared ℕ). length p.items ≤ length xs) places) (sym same) are.no_more);
    few = let few = are.few in omega (arith, ap length same);
    traces = let traces = are.traces in omega (arith, length-map places unspared);
  }

  pub lists_of-replicate : (items : List T) (n : ℕ) → lists_of items (replicate n no_items) ≡ replicate n []
  lists_of-replicate items zero = refl
  lists_of-replicate items (suc n) = ap (λ xss. [] ∷ xss) (lists_of-replicate items n)

  pub length-lists_of : (items : List T) (places : List (Shared ℕ)) → length places ≡ length (lists_of items places)
  length-lists_of items places = sym (length-map places (λ p. items_at items p.items))
