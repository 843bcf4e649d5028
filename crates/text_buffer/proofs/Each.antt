-- Texts that are gathered of a list, item by item.
use Rattle.std.proofs.Common.{◌≡◌, ℕ, ◌+◌, ◌<◌, ◌≤◌, List, [], ◌∷◌, ◌++◌, length, get_or, take, drop, sym, ◌∙◌, ap, subst, add-one, append-nil}
use Rattle.std.proofs.Math.Seq.{take-suc}
use Rattle.std.proofs.lemmas.List.{take-append-drop, take_all}
use Rattle.std.proofs.lemmas.List.Concat.{flat_map-append}
use Rattle.std.specs.List.{flat_map}
use Rattle.poet_io.specs.SinkState.{SinkState}
use Rattle.poet_io.specs.Writes.{IsCutShort}
use Rattle.poet_io.proofs.CallerLemmas.{cut_more}
use Rattle.text_buffer.specs.Gathering.{HasCome}
use Rattle.text_buffer.proofs.Gatherers.{Comes, IsCutBehind, comes_both, cut_after_come, cut_behind, cut_behind_more, has_come_after, has_come_as}

module _ {X : Type 0} (f : X → List ℕ) (xs : List X) (i : ℕ) where
  -- all items have come
  pub all_have_come : {start now : SinkState} {gathered : List ℕ} → length xs ≤ i → HasCome start now gathered (flat_map f (take i xs)) → HasCome start now gathered (flat_map f xs)
  all_have_come all come = has_come_as (ap (flat_map f) (take_all i xs all)) come

  -- all items came
  pub all_come : {a b : SinkState} {first second : List ℕ} → length xs ≤ i → Comes a first b second (flat_map f (take i xs)) → Comes a first b second (flat_map f xs)
  all_come {a} {b} {first} {second} all come = subst (λ items. Comes a first b second (flat_map f items)) (take_all i xs all) come

  module _ (default : X) (within : i < length xs) where
    -- the items with one more
    flat_map-take : flat_map f (take (i + 1) xs) ≡ flat_map f (take i xs) ++ f (get_or xs i default)
    flat_map-take = rw (add-one, take-suc xs i default within)
        (flat_map-append f (take i xs) (get_or xs i default ∷ []) ∙ ap (λ text. flat_map f (take i xs) ++ text) (append-nil (f (get_or xs i default))))

    -- all items, parted behind one
    flat_map-parted : flat_map f xs ≡ flat_map f (take (i + 1) xs) ++ flat_map f (drop (i + 1) xs)
    flat_map-parted = ap (flat_map f) (sym (take-append-drop (i + 1) xs)) ∙ flat_map-append f (take (i + 1) xs) (drop (i + 1) xs)

    -- all items, parted round one
    flat_map-round : flat_map f xs ≡ (flat_map f (take i xs) ++ f (get_or xs i default)) ++ flat_map f (drop (i + 1) xs)
    flat_map-round = flat_map-parted ∙ ap (λ text. text ++ flat_map f (drop (i + 1) xs)) flat_map-take

    -- items have come, and then one more came
    pub each_has_come : {start a b : SinkState} {gathered gathering : List ℕ} → HasCome start a gathered (flat_map f (take i xs)) → Comes a gathered b gathering (f (get_or xs i default)) → HasCome start b gathering (flat_map f (take (i + 1) xs))
    each_has_come come item = has_come_as (sym flat_map-take) (has_come_after come item)

    -- items have come, and one was cut short, and with it all that should have followed
    pub each_cut_short : {start a b : SinkState} {gathered : List ℕ} → HasCome start a gathered (flat_map f (take i xs)) → IsCutBehind a gathered b (f (get_or xs i default)) → IsCutShort start b (flat_map f xs)
    each_cut_short {start} {a} {b} come item = subst (IsCutShort start b) (sym flat_map-round) (cut_more (flat_map f (drop (i + 1) xs)) (cut_after_come come item))

    -- items came, and then one more
    pub each_comes : {a b c : SinkState} {first second third : List ℕ} → Comes a first b second (flat_map f (take i xs)) → Comes b second c third (f (get_or xs i default)) → Comes a first c third (flat_map f (take (i + 1) xs))
    each_comes {a} {b} {c} {first} {second} {third} come item = subst (Comes a first c third) (sym flat_map-take) (comes_both come item)

    -- items came, and one was cut short, and with it all that should have followed
    pub each_cut_behind : {a b c : SinkState} {first second : List ℕ} → Comes a first b second (flat_map f (take i xs)) → IsCutBehind b second c (f (get_or xs i default)) → IsCutBehind a first c (flat_map f xs)
    each_cut_behind {a} {b} {c} {first} come item = subst (IsCutBehind a first c) (sym flat_map-round) (cut_behind_more (flat_map f (drop (i + 1) xs)) (cut_behind come item))
