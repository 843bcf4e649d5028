-- Lines with their ends, and lists of them that come one after another.
use Rattle.std.proofs.Common.{◌≡◌, ℕ, ◌+◌, ◌<◌, ◌≤◌, List, [], ◌∷◌, ◌++◌, length, get_or, take, map, None, inl, inr, refl, sym, ◌∙◌, ap, subst, zero-add}
use Rattle.std.specs.Prelude.{codes, slice_get}
use Rattle.std.specs.List.{enumerate_from, flat_map, zip}
use Rattle.std.proofs.lemmas.List.{get_or-map}
use Rattle.std.proofs.lemmas.Option.{slice_get_cases}
use Rattle.std.proofs.lemmas.Slice.Zip.{get_or-zip}
use Rattle.std.proofs.lemmas.List.Concat.{flat_map-append}
use Rattle.std.proofs.lemmas.List.Folds.{flat_map-map}
use Rattle.std.proofs.lemmas.List.FromFn.{get_or-enumerate_from, length-enumerate_from}
use Rattle.poet_io.specs.SinkState.{SinkState}
use Rattle.text_buffer.proofs.CallerLemmas.{Comes, IsCutBehind, all_come, each_comes, each_cut_behind}
use Rattle.run_text.specs.Lines.{ended_lines}

-- lines and then more lines
pub ended-append : (first second : List (List ℕ)) → ended_lines (first ++ second) ≡ ended_lines first ++ ended_lines second
ended-append first second = flat_map-append (λ line. line ++ codes "\n") first second

-- a line for each item
pub ended-map : {X : Type 0} (f : X → List ℕ) (xs : List X) → ended_lines (map f xs) ≡ flat_map (λ x. f x ++ codes "\n") xs
ended-map f xs = flat_map-map (λ line. line ++ codes "\n") f xs

-- lines for each item
pub ended-flat_map : {X : Type 0} (f : X → List (List ℕ)) (xs : List X) → ended_lines (flat_map f xs) ≡ flat_map (λ x. ended_lines (f x)) xs
ended-flat_map f [] = refl
ended-flat_map f (x ∷ xs) = ended-append (f x) (flat_map f xs) ∙ ap (λ rest. ended_lines (f x) ++ rest) (ended-flat_map f xs)

module _ {X : Type 0} (f : X → List ℕ) (xs : List X) (i : ℕ) where
  -- a line for each item came
  pub all_mapped_come : {a b : SinkState} {first second : List ℕ} → length xs ≤ i → Comes a first b second (flat_map (λ x. f x ++ codes "\n") (take i xs)) → Comes a first b second (ended_lines (map f xs))
  all_mapped_come {a} {b} {first} {second} all come =
      subst (Comes a first b second) (sym (ended-map f xs)) (all_come (λ x. f x ++ codes "\n") xs i all come)

  -- lines for items came, and that of one was cut short
  pub mapped_cut : (x : X) → i < length xs → {a b c : SinkState} {first second : List ℕ} → Comes a first b second (flat_map (λ x. f x ++ codes "\n") (take i xs)) → IsCutBehind b second c (f (get_or xs i x) ++ codes "\n") → IsCutBehind a first c (ended_lines (map f xs))
  mapped_cut x within {a} {b} {c} {first} come cut =
      subst (IsCutBehind a first c) (sym (ended-map f xs)) (each_cut_behind (λ x. f x ++ codes "\n") xs i x within come cut)

module _ {X : Type 0} (f : ℕ × X → List (List ℕ)) (xs : List X) (i : ℕ) where
  -- the lines of all items came, by their numbers
  pub all_numbered_come : {a b : SinkState} {first second : List ℕ} → length xs ≤ i → Comes a first b second (flat_map (λ one. ended_lines (f one)) (take i (enumerate_from 0 xs))) → Comes a first b second (ended_lines (flat_map f (enumerate_from 0 xs)))
  all_numbered_come {a} {b} {first} {second} all come =
      subst (Comes a first b second) (sym (ended-flat_map f (enumerate_from 0 xs)))
      (all_come (λ one. ended_lines (f one)) (enumerate_from 0 xs) i (rw (length-enumerate_from 0 xs) all) come)

  module _ (x : X) (within : i < length xs) (is : x ≡ get_or xs i x) where
    item_is : (i, x) ≡ get_or (enumerate_from 0 xs) i (i, x)
    item_is = sym (get_or-enumerate_from 0 xs i (i, x) within ∙ (ap (λ n. (n, get_or xs i x)) (zero-add i) ∙ ap (λ y. (i, y)) (sym is)))

    is_within : i < length (enumerate_from 0 xs)
    is_within = rw (length-enumerate_from 0 xs) within

    -- the lines of some items came, and then those of one more
    pub each_numbered_comes : {a b c : SinkState} {first second third : List ℕ} → Comes a first b second (flat_map (λ one. ended_lines (f one)) (take i (enumerate_from 0 xs))) → Comes b second c third (ended_lines (f (i, x))) → Comes a first c third (flat_map (λ one. ended_lines (f one)) (take (i + 1) (enumerate_from 0 xs)))
    each_numbered_comes {a} {b} {c} {first} {second} {third} come one =
        each_comes (λ one. ended_lines (f one)) (enumerate_from 0 xs) i (i, x) is_within come
        (subst (λ one. Comes b second c third (ended_lines (f one))) item_is one)

    -- the lines of some items came, and those of one were cut short
    pub numbered_cut : {a b c : SinkState} {first second : List ℕ} → Comes a first b second (flat_map (λ one. ended_lines (f one)) (take i (enumerate_from 0 xs))) → IsCutBehind b second c (ended_lines (f (i, x))) → IsCutBehind a first c (ended_lines (flat_map f (enumerate_from 0 xs)))
    numbered_cut {a} {b} {c} {first} {second} come cut =
        subst (IsCutBehind a first c) (sym (ended-flat_map f (enumerate_from 0 xs)))
        (each_cut_behind (λ one. ended_lines (f one)) (enumerate_from 0 xs) i (i, x) is_within come
        (subst (λ one. IsCutBehind b second c (ended_lines (f one))) item_is cut))

-- the pair at a place of two lists
pub pair_at : {A B : Type 0} (ks : List A) (vs : List B) (i : ℕ) (a : A) (b : B) → i < length ks → i < length vs → a ≡ get_or ks i a → b ≡ get_or vs i b → (a, b) ≡ get_or (zip ks vs) i (a, b)
pair_at ks vs i a b in_ks in_vs is_a is_b =
    ap (λ x. (x, b)) is_a ∙ (ap (λ y. (get_or ks i a, y)) is_b ∙ sym (get_or-zip ks vs i (a, b) in_ks in_vs))

-- what a function gives at a place of a list
pub mapped_at : {X Y : Type 0} (f : X → Y) (xs : List X) (i : ℕ) (x : X) → i < length xs → x ≡ get_or xs i x → f x ≡ get_or (map f xs) i (f x)
mapped_at f xs i x within is = ap f is ∙ sym (get_or-map f xs i x (f x) within)

-- where nothing stands at a place, the list has ended
pub past_end : {X : Type 0} (xs : List X) (i : ℕ) → slice_get xs i ≡ None → length xs ≤ i
past_end xs i none = elim (slice_get_cases xs i).1 [ inl there ↦ absurd (let some = there.2 in cc) | inr past ↦ past.0 ]

-- six parts, one behind the other
pub ended-parts : (a b c d e f : List (List ℕ)) → ended_lines (a ++ b ++ c ++ d ++ e ++ f) ≡ ended_lines a ++ ended_lines b ++ ended_lines c ++ ended_lines d ++ ended_lines e ++ ended_lines f
ended-parts a b c d e f = rw (ended-append (a ++ b ++ c ++ d ++ e) f, ended-append (a ++ b ++ c ++ d) e, ended-append (a ++ b ++ c) d, ended-append (a ++ b) c, ended-append a b) refl
