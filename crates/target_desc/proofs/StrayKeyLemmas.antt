-- Keys that say nothing, as the map of a table has them and as the definitions see them.
use Rattle.std.proofs.Common.{◌≡◌, ◌≢◌, ℕ, ◌<◌, ◌↔◌, List, [], ◌∷◌, length, map, IsTrue, true, false, not, ◌&&◌, string_bytes, String, Bool, Some, option_map, bytes_eq, ap, sym, refl, subst, inl, inr, ◌∙◌, arith}
use Rattle.std.specs.Prelude.{Option, slice_get, Contains, codes, option_and_then}
use Rattle.std.specs.Option.{option_map_or}
use Rattle.std.specs.Bool.{Decides}
use Rattle.std.specs.List.{list_any}
use Rattle.std.specs.Map as maps
use Rattle.std.specs.declared.alloc.Global.{Global}
use Rattle.std.proofs.lemmas.Option.{slice_get-map, slice_get_read}
use Rattle.std.proofs.lemmas.List.Folds.{Any-from_list_any}
use Rattle.std.proofs.lemmas.Map.Keys.{any_passes_from_place}
use Rattle.std.proofs.lemmas.Slice.Eq.{bytes_eq-Decides}
use Rattle.std.proofs.lemmas.List.{length-map}
use Rattle.toml.specs.Data.{Data, Members, as_table}
use Rattle.toml.specs.View.{view, members_view}
use Rattle.toml.specs.declared.value.Value.{Value}
use Rattle.target_desc.specs.Document.{keys_of, entries_of}
use Rattle.target_desc.specs.Reading.{HasStray}
use Rattle.target_desc.specs.Entries.{HasStrayKey}
use Rattle.target_desc.specs.StrayKeys.{is_stray, is_stray_field}
use Rattle.target_desc.proofs.Places.{from_mapped, contained, place_in}

abbrev pub Entry : Type 0
Entry = String Global × Value

keys_of-members_view : (es : List Entry) → keys_of (members_view es) ≡ map (λ k. string_bytes k) (maps.keys_of es)
keys_of-members_view [] = refl
keys_of-members_view (e ∷ es) = ap (λ keys. string_bytes e.0 ∷ keys) (keys_of-members_view es)

-- tests and what they say
not_says : (test : Bool) (P : Type 0) → Decides test P → IsTrue (not test) ↔ (P → ⊥)
not_says true P decides = ((λ h. absurd (let clash : false ≡ true = h in cc)), (λ no. absurd (no (decides.0 refl))))
not_says false P decides = ((λ h p. absurd (let clash : false ≡ true = decides.1 p in cc)), (λ no. refl))

and_says : (a b : Bool) (P Q : Type 0) → IsTrue a ↔ P → IsTrue b ↔ Q → IsTrue (a && b) ↔ (P × Q)
and_says true true P Q says also = ((λ h. (says.0 refl, also.0 refl)), (λ h. refl))
and_says true false P Q says also = ((λ h. absurd (let clash : false ≡ true = h in cc)), (λ h. also.1 h.1))
and_says false b P Q says also = ((λ h. absurd (let clash : false ≡ true = h in cc)), (λ h. says.1 h.0))

-- a test finds a key of the map exactly where one of the members' keys passes
stray_found : (test : List ℕ → Bool) (es : List Entry) → IsTrue (list_any (λ k. test (string_bytes k)) (maps.keys_of es))
    → (key : List ℕ) × Contains (keys_of (members_view es)) key × IsTrue (test key)
stray_found test es passes =
    let any = Any-from_list_any (λ (k : String Global). test (string_bytes k)) (maps.keys_of es) passes in
    let key : String Global = any.1 in
    let at : slice_get (maps.keys_of es) any.0 ≡ Some key = slice_get_read (maps.keys_of es) (length (maps.keys_of es)) any.0 key refl any.2 (sym any.3) in
    let mapped : slice_get (map (λ (k : String Global). string_bytes k) (maps.keys_of es)) any.0 ≡ Some (string_bytes key) = slice_get-map (λ (k : String Global). string_bytes k) (maps.keys_of es) any.0 ∙ ap (option_map (λ (k : String Global). string_bytes k)) at in
    (string_bytes key, contained (keys_of (members_view es)) any.0 (string_bytes key) (rw (keys_of-members_view es) mapped), any.4)

stray_there : (test : List ℕ → Bool) (es : List Entry) (key : List ℕ) → Contains (keys_of (members_view es)) key → IsTrue (test key)
    → IsTrue (list_any (λ k. test (string_bytes k)) (maps.keys_of es))
stray_there test es key has passes =
    let place = place_in (map (λ (k : String Global). string_bytes k) (maps.keys_of es)) key (subst (λ keys. Contains keys key) (keys_of-members_view es) has) in
    let at = sym (slice_get-map (λ (k : String Global). string_bytes k) (maps.keys_of es) place.0) ∙ place.1 in
    let came = from_mapped (λ (k : String Global). string_bytes k) (slice_get (maps.keys_of es) place.0) key at in
    any_passes_from_place (λ (k : String Global). test (string_bytes k)) (maps.keys_of es) place.0 came.0 came.1 (rw came.2 passes)

differs : (key other : List ℕ) → IsTrue (not (bytes_eq key other)) ↔ (key ≢ other)
differs key other = not_says (bytes_eq key other) (key ≡ other) (bytes_eq-Decides key other)

stray_says : (key : List ℕ) → IsTrue (is_stray key) ↔ ((key ≢ codes "traces") × (key ≢ codes "event"))
stray_says key = and_says _ _ _ _ (differs key (codes "traces")) (differs key (codes "event"))

stray_field_says : (key : List ℕ) → IsTrue (is_stray_field key) ↔ ((key ≢ codes "name") × ((key ≢ codes "kind") × (key ≢ codes "mate")))
stray_field_says key = and_says _ _ _ _ (differs key (codes "name")) (and_says _ _ _ _ (differs key (codes "kind")) (differs key (codes "mate")))

pub stray_key : (es : List Entry) → IsTrue (list_any (λ k. is_stray (string_bytes k)) (maps.keys_of es))
    ↔ ((key : List ℕ) × Contains (keys_of (members_view es)) key × (key ≢ codes "traces") × (key ≢ codes "event"))
stray_key es = (
  (λ passes.
      let found = stray_found is_stray es passes in
      let says = (stray_says found.0).0 found.2 in
      (found.0, found.1, says.0, says.1)),
  (λ key. stray_there is_stray es key.0 key.1 ((stray_says key.0).1 (key.2, key.3))),
)

pub stray_field : (es : List Entry) → IsTrue (list_any (λ k. is_stray_field (string_bytes k)) (maps.keys_of es))
    ↔ ((key : List ℕ) × Contains (keys_of (members_view es)) key × (key ≢ codes "name") × (key ≢ codes "kind") × (key ≢ codes "mate"))
stray_field es = (
  (λ passes.
      let found = stray_found is_stray_field es passes in
      let says = (stray_field_says found.0).0 found.2 in
      (found.0, found.1, says.0, says.1.0, says.1.1)),
  (λ key. stray_there is_stray_field es key.0 key.1 ((stray_field_says key.0).1 (key.2, (key.3, key.4)))),
)

-- an entry's keys are those of the value at its place
pub stray_at : (entries : List Data) (i : ℕ) (entry : Data) → slice_get entries i ≡ Some entry → HasStrayKey (entry ∷ []) 0 ↔ HasStrayKey entries i
stray_at entries i entry at =
    let Has : Option Data → Type 0 = λ found. (key : List ℕ) × Contains (option_map_or keys_of (option_and_then as_table found) []) key
    × (key ≢ codes "name") × (key ≢ codes "kind") × (key ≢ codes "mate") in
    ((λ has. subst Has (sym at) has), (λ has. subst Has at has))

-- where the document has no such key itself, it is left to the entries
pub stray_entry : (document : Members) (entries : List Value) (found : Bool) → map view entries ≡ entries_of document
    → (((key : List ℕ) × Contains (keys_of document) key × (key ≢ codes "traces") × (key ≢ codes "event")) → ⊥)
    → IsTrue found ↔ ((i : ℕ) × (i < length entries) × HasStrayKey (map view entries) i) → IsTrue found ↔ HasStray document
stray_entry document entries found are none tells = (
  (λ h. let has = tells.0 h in inr (has.0, omega (arith, has.1, length-map entries view, ap length are), subst (λ items. HasStrayKey items has.0) are has.2)),
  (λ stray. elim stray [
    | inl key ↦ absurd (none key)
    | inr has ↦ tells.1 (has.0, omega (arith, has.1, length-map entries view, ap length are), subst (λ items. HasStrayKey items has.0) (sym are) has.2)
  ]),
)
