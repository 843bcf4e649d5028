-- What is written of a list, item by item.
use Rattle.std.proofs.Common.{◌≡◌, ℕ, ◌+◌, ◌<◌, ◌≤◌, suc, List, [], ◌∷◌, ◌++◌, length, get_or, take, drop, Option, Some, None, refl, sym, ◌∙◌, ap, subst, add-one, append-nil}
use Rattle.std.proofs.Math.Seq.{take-suc, drop-cons}
use Rattle.std.proofs.lemmas.List.{take-append-drop, take_all}
use Rattle.std.proofs.lemmas.List.Concat.{flat_map-append}
use Rattle.std.specs.List.{flat_map}
use Rattle.poet_io.specs.Grows.{Grows}
use Rattle.poet_io.specs.SinkState.{SinkState}
use Rattle.poet_io.specs.Writes.{IsWritten, IsCutShort}
use Rattle.poet_io.proofs.CallerLemmas.{cut_after, cut_more, written_both}

Grows-none : (taken : Option (List ℕ)) → Grows taken taken []
Grows-none None = refl
Grows-none (Some bytes) = ap Some (sym (append-nil bytes))

-- nothing was written
pub none_written : (a : SinkState) → IsWritten a a []
none_written a = record { all = Grows-none a.taken; no_fault = refl }

module _ {X : Type 0} (f : X → List ℕ) (xs : List X) (i : ℕ) where
  -- all items were written
  pub all_written : {a b : SinkState} → length xs ≤ i → IsWritten a b (flat_map f (take i xs)) → IsWritten a b (flat_map f xs)
  all_written {a} {b} all first = subst (λ items. IsWritten a b (flat_map f items)) (take_all i xs all) first

  module _ (default : X) (within : i < length xs) where
    -- the items with one more
    flat_map-take : flat_map f (take (i + 1) xs) ≡ flat_map f (take i xs) ++ f (get_or xs i default)
    flat_map-take = rw (add-one, take-suc xs i default within)
        (flat_map-append f (take i xs) (get_or xs i default ∷ []) ∙ ap (λ text. flat_map f (take i xs) ++ text) (append-nil (f (get_or xs i default))))

    -- all items, parted round one
    flat_map-parted : flat_map f xs ≡ flat_map f (take i xs) ++ (f (get_or xs i default) ++ flat_map f (drop (suc i) xs))
    flat_map-parted = ap (flat_map f) (sym (take-append-drop i xs))
        ∙ (flat_map-append f (take i xs) (drop i xs) ∙ ap (λ rest. flat_map f (take i xs) ++ flat_map f rest) (drop-cons xs i default within))

    -- one item more was written
    pub each_written : {a b c : SinkState} → IsWritten a b (flat_map f (take i xs)) → IsWritten b c (f (get_or xs i default)) → IsWritten a c (flat_map f (take (i + 1) xs))
    each_written {a} {b} {c} first item = subst (IsWritten a c) (sym flat_map-take) (written_both first item)

    -- an item was cut short, and with it all that should have followed
    pub each_cut : {a b c : SinkState} → IsWritten a b (flat_map f (take i xs)) → IsCutShort b c (f (get_or xs i default)) → IsCutShort a c (flat_map f xs)
    each_cut {a} {b} {c} first item = subst (IsCutShort a c) (sym flat_map-parted) (cut_after first (cut_more (flat_map f (drop (suc i) xs)) item))
