-- What some of a list meets, told of what is seen of each.
use Rattle.std.proofs.Common.{◌≡◌, Bool, true, false, List, [], ◌∷◌, map, refl, sym, ◌∙◌, ap}
use Rattle.std.specs.Prelude.{◌||◌}
use Rattle.std.specs.List.{list_any}

list_any-map : {X Y : Type 0} (test : Y → Bool) (f : X → Y) (xs : List X) → list_any test (map f xs) ≡ list_any (λ x. test (f x)) xs
list_any-map test f [] = refl
list_any-map test f (x ∷ xs) = ap (λ rest. test (f x) || rest) (list_any-map test f xs)

-- the answer of whether some item of a list meets a test, told of what is seen of the items
pub some_seen : {X Y : Type 0} (test : Y → Bool) (f : X → Y) (xs taken : List X) (answer value : Bool) → taken ≡ xs → answer ≡ list_any (λ x. test (f x)) taken → answer ≡ value → list_any test (map f xs) ≡ value
some_seen test f xs taken answer value are is has =
    list_any-map test f xs ∙ (sym (ap (list_any (λ x. test (f x))) are) ∙ (sym is ∙ has))

-- the same of the items themselves
pub some_item : {X : Type 0} (test : X → Bool) (xs taken : List X) (answer value : Bool) → taken ≡ xs → answer ≡ list_any test taken → answer ≡ value → list_any test xs ≡ value
some_item test xs taken answer value are is has = sym (ap (list_any test) are) ∙ (sym is ∙ has)

-- the first is so
pub by_first : (a b : Bool) → a ≡ true → (a || b) ≡ true
by_first a b is = rw is refl

-- the first isn't so
pub by_second : (a b : Bool) → a ≡ false → (a || b) ≡ b
by_second a b is = rw is refl
