-- A list whose items are written one behind the other is read in one way, where no item can stand behind it.
use Rattle.std.proofs.Common.{◌≡◌, ℕ, List, [], ◌∷◌, ◌++◌, map, refl, sym, ◌∙◌, subst, append_assoc}
use Rattle.std.specs.Prelude.{codes}
use Rattle.std.specs.List.{AllByRecursion, flat_map}
use Rattle.std.proofs.lemmas.List.Folds.{flat_map-map}

-- How items are written: each is read in one way before bytes that may stand behind an item, as another item may, and
-- the bytes that end a list; and with an item no bytes begin that end a list.
pub record AreRead {X : Type 0} (written : X → List ℕ) (Good : X → Type 0) (Behind Ends : List ℕ → Type 0) : Type 0 where
  pub end_behind : (bytes : List ℕ) → Ends bytes → Behind bytes
  pub item_behind : (x : X) (rest : List ℕ) → Behind (written x ++ rest)
  pub no_end : (x : X) (rest : List ℕ) → Good x → Ends (written x ++ rest) → ⊥
  pub once : (x y : X) (rest more : List ℕ) → Good x → Good y → Behind rest → Behind more → written x ++ rest ≡ written y ++ more → (x ≡ y) × (rest ≡ more)

module _ {X : Type 0} (written : X → List ℕ) (Good : X → Type 0) (Behind Ends : List ℕ → Type 0) (are : AreRead written Good Behind Ends) where
  -- the rest of a list and its end stand behind an item
  rest_behind : (xs : List X) (rest : List ℕ) → Ends rest → Behind (flat_map written xs ++ rest)
  rest_behind [] rest ends = are.end_behind rest ends
  rest_behind (x ∷ xs) rest ends = subst Behind (sym (append_assoc (written x) (flat_map written xs) rest)) (are.item_behind x (flat_map written xs ++ rest))

  pub items_once : (xs ys : List X) (rest more : List ℕ) → AllByRecursion Good xs → AllByRecursion Good ys → Ends rest → Ends more → flat_map written xs ++ rest ≡ flat_map written ys ++ more → (xs ≡ ys) × (rest ≡ more)
  items_once [] [] rest more good good_too ends ends_too same = (refl, same)
  items_once [] (y ∷ ys) rest more good good_too ends ends_too same =
      absurd (are.no_end y (flat_map written ys ++ more) good_too.0 (subst Ends (same ∙ append_assoc (written y) (flat_map written ys) more) ends))
  items_once (x ∷ xs) [] rest more good good_too ends ends_too same =
      absurd (are.no_end x (flat_map written xs ++ rest) good.0 (subst Ends (sym same ∙ append_assoc (written x) (flat_map written xs) rest) ends_too))
  items_once (x ∷ xs) (y ∷ ys) rest more good good_too ends ends_too same =
      let parted : written x ++ (flat_map written xs ++ rest) ≡ written y ++ (flat_map written ys ++ more) =
      sym (append_assoc (written x) (flat_map written xs) rest) ∙ (same ∙ append_assoc (written y) (flat_map written ys) more) in
      let first = are.once x y _ _ good.0 good_too.0 (rest_behind xs rest ends) (rest_behind ys more ends_too) parted in
      let others = items_once xs ys rest more good.1 good_too.1 ends ends_too first.1 in
      let one : x ≡ y = first.0 in
      let behind : xs ≡ ys = others.0 in
      (cc, others.1)

-- the same of lines, each with a line feed at its end
abbrev pub line_of : {X : Type 0} → (X → List ℕ) → X → List ℕ
line_of text x = text x ++ codes "\n"

pub ended-map : {X : Type 0} (text : X → List ℕ) (xs : List X) → flat_map (λ line. line ++ codes "\n") (map text xs) ≡ flat_map (line_of text) xs
ended-map text xs = flat_map-map (λ line. line ++ codes "\n") text xs
