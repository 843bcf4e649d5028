-- Documents as the code holds them, and as the definitions see them.
use Rattle.std.proofs.Common.{◌≡◌, ℕ, List, [], ◌∷◌, Some, option_map, length, ◌<◌, ◌+◌, ◌++◌, take, get_or, sym, refl, ap, map, ◌∙◌}
use Rattle.std.specs.Prelude.{slice_get, slice_index_or}
use Rattle.std.proofs.lemmas.Option.{slice_get-map, slice_get_read}
use Rattle.std.proofs.lemmas.List.{take_more, map-append}
use Rattle.toml.specs.Data.{Data}
use Rattle.toml.specs.View.{view, items_of}
use Rattle.toml.specs.declared.value.Value.{Value}
use Rattle.target_desc.specs.Document.{list_of}

-- the items that a list makes are that list
pub list_of-items_of : (items : List Data) → list_of (items_of items) ≡ items
list_of-items_of [] = refl
list_of-items_of (first ∷ items) = ap (λ rest. first ∷ rest) (list_of-items_of items)

-- what stands at a place of some values
pub seen_at : (values : List Value) (i : ℕ) (value : Value) → i < length values → value ≡ slice_index_or values i value → slice_get (map view values) i ≡ Some (view value)
seen_at values i value below is = slice_get-map view values i ∙ ap (option_map view) (slice_get_read values (length values) i value refl below is)

-- one more of some values
pub seen_more : (values : List Value) (i : ℕ) (value : Value) → i < length values → value ≡ slice_index_or values i value → map view (take (i + 1) values) ≡ map view (take i values) ++ view value ∷ []
seen_more values i value below is = ap (map view) (take_more values i value below) ∙ (map-append view (take i values) (get_or values i value ∷ []) ∙ ap (λ item. map view (take i values) ++ view item ∷ []) (sym is))
