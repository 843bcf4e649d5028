-- The table of types that drafts and their rows make, once nothing is wrong with the mates.
use Rattle.std.proofs.Common.{◌≡◌, ◌≢◌, ℕ, ◌<◌, ◌≤◌, ◌⊎◌, List, [], length, true, false, bytes_eq, Option, None, Some, IsSome, sym, refl, ap, subst, ◌∙◌, inl, inr, arith}
use Rattle.std.specs.Prelude.{slice_get, MatchOption, option_and_then}
use Rattle.std.specs.Option.{option_map, option_map_or}
use Rattle.std.proofs.lemmas.Bool.{cases_Bool}
use Rattle.std.proofs.lemmas.Option.{slice_get_within, same_Some}
use Rattle.std.proofs.lemmas.Slice.Eq.{bytes_eq-Decides}
use Rattle.causal_base.specs.declared.kind.Kind.{Kind}
use Rattle.causal_base.specs.declared.type_row.TypeRow.{TypeRow}
use Rattle.causal_base.specs.Spelling.{IsName, name_of}
use Rattle.causal_base.specs.Types.{TypeTable, kind_of, mate_of, AreMates}
use Rattle.causal_base.specs.TypeTables.{kind_of_mate, MatesRightly, IsTypeTable}
use Rattle.target_desc.specs.declared.draft.Draft.{Draft}
use Rattle.target_desc.specs.Drafts.{IsDraftOf, AreDraftsOf, AreDistinct, draft_name, MateIsUnknown, MateIsNotMutual, AreMutualDrafts, MatesAgree, IsMateNumber, AreRowsOf}
use Rattle.target_desc.specs.Entries.{kind_word}
use Rattle.target_desc.specs.Reading.{IsTypeOf}
use Rattle.target_desc.proofs.EntryLemmas.{same_kind, some_not_none}
use Rattle.target_desc.proofs.MateLemmas.{are_distinct}
use Rattle.target_desc.proofs.Places.{from_mapped, place_below}
use Rattle.toml.specs.Data.{Data}

-- what can't be otherwise is so, for names and kinds
stable_name : (found : Option (List ℕ)) (name : List ℕ) → ((found ≡ Some name → ⊥) → ⊥) → found ≡ Some name
stable_name None name not_other = absurd (not_other (λ same. let clash : None ≡ Some name = same in cc))
stable_name (Some other) name not_other = elim (cases_Bool (bytes_eq other name)) [
  | inl same ↦ ap Some ((bytes_eq-Decides other name).0 same)
  | inr differs ↦ absurd (not_other (λ same.
      let clash : true ≡ false = sym ((bytes_eq-Decides other name).1 (same_Some other name same)) ∙ differs in
      cc))
]

stable_kind : (found : Option Kind) (kind : Kind) → ((found ≡ Some kind → ⊥) → ⊥) → found ≡ Some kind
stable_kind None kind not_other = absurd (not_other (λ same. let clash : None ≡ Some kind = same in cc))
stable_kind (Some other) kind not_other = elim (cases_Bool (bytes_eq (kind_word other) (kind_word kind))) [
  | inl same ↦ ap Some (same_kind other kind ((bytes_eq-Decides (kind_word other) (kind_word kind)).0 same))
  | inr differs ↦ absurd (not_other (λ same.
      let clash : true ≡ false = sym ((bytes_eq-Decides (kind_word other) (kind_word kind)).1 (ap kind_word (same_Some other kind same))) ∙ differs in
      cc))
]

mate_cases : (found : Option (List ℕ)) → (found ≡ None) ⊎ ((mate : List ℕ) × (found ≡ Some mate))
mate_cases None = inl refl
mate_cases (Some mate) = inr (mate, refl)

-- a row's mate is a known draft, since the draft's mate isn't unknown
numbered_mate : (drafts : List Draft) (draft : Draft) (mate : List ℕ) (number : Option ℕ) → draft.mate ≡ Some mate → IsMateNumber drafts draft number → (MateIsUnknown drafts draft → ⊥)
    → (n : ℕ) × (number ≡ Some n) × (draft_name drafts n ≡ Some mate)
numbered_mate drafts draft mate number has its known = at_number number (subst (λ found. MatchOption found (number ≡ None) (Number number)) has its)
  where
    Number : Option ℕ → List ℕ → Type 0
    Number number name = MatchOption number ((j : ℕ) → draft_name drafts j ≢ Some name) (λ n. draft_name drafts n ≡ Some name)

    at_number : (number : Option ℕ) → Number number mate → (n : ℕ) × (number ≡ Some n) × (draft_name drafts n ≡ Some mate)
    at_number None none = absurd (known (mate, has, none))
    at_number (Some n) named = (n, refl, named)

-- and one without a mate has none
no_mate : (drafts : List Draft) (draft : Draft) (number : Option ℕ) → draft.mate ≡ None → IsMateNumber drafts draft number → number ≡ None
no_mate drafts draft number none its =
    subst (λ found. MatchOption found (number ≡ None) (λ mate. MatchOption number ((j : ℕ) → draft_name drafts j ≢ Some mate) (λ n. draft_name drafts n ≡ Some mate))) none its

module _ (drafts : List Draft) (distinct : AreDistinct drafts) where
  name_at : (j : ℕ) (its : Draft) → slice_get drafts j ≡ Some its → draft_name drafts j ≡ Some its.name
  name_at j its there = ap (option_map (λ (draft : Draft). draft.name)) there

  -- drafts that aren't other than mates are mates
  same_draft : (n j : ℕ) (its other : Draft) → slice_get drafts n ≡ Some its → slice_get drafts j ≡ Some other → other.name ≡ its.name → other ≡ its
  same_draft n j its other there at same =
      let one : j ≡ n = distinct j n its.name (name_at j other at ∙ ap Some same) (name_at n its there) in
      same_Some other its (sym at ∙ (ap (slice_get drafts) one ∙ there))

  are_mutual : (draft its : Draft) (n : ℕ) → slice_get drafts n ≡ Some its → draft.mate ≡ Some its.name → (MateIsNotMutual drafts draft → ⊥) → AreMutualDrafts draft its
  are_mutual draft its n there forth not_none =
      let one : (j : ℕ) (other : Draft) → slice_get drafts j ≡ Some other → AreMutualDrafts draft other → AreMutualDrafts draft its = λ j other at both.
      subst (AreMutualDrafts draft) (same_draft n j its other there at (same_Some other.name its.name (sym both.forth ∙ forth))) both in
      let some : IsSome draft.mate = rw forth in
      record {
        forth = forth;
        back = stable_name its.mate draft.name (λ other. not_none (some, (λ j its at both. other (one j its at both).back)));
        fits = stable_kind (kind_of_mate draft.kind) its.kind (λ other. not_none (some, (λ j its at both. other (one j its at both).fits)));
      }

module _ (entries : List Data) (drafts : List Draft) (rows : List TypeRow) (traces : ℕ) (are : AreDraftsOf entries drafts) (made : AreRowsOf drafts rows) (agree : MatesAgree drafts) where
  abbrev table : TypeTable
  table = record { traces = traces; rows = rows }

  distinct : AreDistinct drafts
  distinct = are_distinct entries drafts are

  -- A draft and its row.
  record Both (i : ℕ) : Type 0 where
    draft : Draft
    row : TypeRow
    at_draft : slice_get drafts i ≡ Some draft
    at_row : slice_get rows i ≡ Some row

  both_at : (i : ℕ) → i < length drafts → Both i
  both_at i below =
      let draft = place_below drafts i below in
      let row = place_below rows i (omega (arith, below, made.count)) in
      record { draft = draft.0; row = row.0; at_draft = draft.1; at_row = row.1 }

  table_name : (i : ℕ) (both : Both i) → name_of table i ≡ both.draft.name
  table_name i both = ap (λ found. option_map_or (λ (row : TypeRow). row.name) found []) both.at_row ∙ made.names i both.draft both.row both.at_draft both.at_row

  table_kind : (i : ℕ) (both : Both i) → kind_of table i ≡ Some both.draft.kind
  table_kind i both = ap (option_map (λ (row : TypeRow). row.kind)) both.at_row ∙ ap Some (made.kinds i both.draft both.row both.at_draft both.at_row)

  table_mate : (i : ℕ) (both : Both i) → mate_of table i ≡ both.row.mate
  table_mate i both = ap (option_and_then (λ (row : TypeRow). row.mate)) both.at_row

  its_name : (i : ℕ) (both : Both i) → draft_name drafts i ≡ Some both.draft.name
  its_name i both = ap (option_map (λ (draft : Draft). draft.name)) both.at_draft

  -- The type that a type mates with.
  record MateAt (i : ℕ) (both : Both i) : Type 0 where
    n : ℕ
    there : Both n
    number : mate_of table i ≡ Some n
    mutual_drafts : AreMutualDrafts both.draft there.draft

  mate_at : (i : ℕ) (both : Both i) (mate : List ℕ) → both.draft.mate ≡ Some mate → MateAt i both
  mate_at i both mate has =
      let its = numbered_mate drafts both.draft mate both.row.mate has (made.mates i both.draft both.row both.at_draft both.at_row) (λ unknown. agree.known i (both.draft, both.at_draft, unknown)) in
      let other = from_mapped (λ (draft : Draft). draft.name) (slice_get drafts its.0) mate its.2 in
      let there = both_at its.0 (slice_get_within drafts its.0 other.0 other.1) in
      let same : other.0 ≡ there.draft = same_Some other.0 there.draft (sym other.1 ∙ there.at_draft) in
      let forth : both.draft.mate ≡ Some there.draft.name = has ∙ ap Some (sym other.2 ∙ ap (λ (draft : Draft). draft.name) same) in
      record {
        n = its.0;
        there = there;
        number = table_mate i both ∙ its.1;
        mutual_drafts = are_mutual drafts distinct both.draft there.draft its.0 there.at_draft forth (λ none. agree.mutual_mates i (both.draft, both.at_draft, none));
      }

  -- the mate's mate is the type itself
  mate_back : (i : ℕ) (both : Both i) (its : MateAt i both) → mate_of table its.n ≡ Some i
  mate_back i both its =
      let back = mate_at its.n its.there both.draft.name its.mutual_drafts.back in
      let name : back.there.draft.name ≡ both.draft.name = same_Some back.there.draft.name both.draft.name (sym back.mutual_drafts.forth ∙ its.mutual_drafts.back) in
      let same : back.n ≡ i = distinct back.n i both.draft.name (its_name back.n back.there ∙ ap Some name) (its_name i both) in
      back.number ∙ ap Some same

  its_draft : (i : ℕ) (both : Both i) → IsDraftOf entries i both.draft
  its_draft i both = are.each i both.draft both.at_draft

  none_in_table : (i : ℕ) (both : Both i) → both.draft.mate ≡ None → mate_of table i ≡ None
  none_in_table i both none = table_mate i both ∙ no_mate drafts both.draft both.row.mate none (made.mates i both.draft both.row both.at_draft both.at_row)

  abbrev Rightly : ℕ → Option Kind → Type 0
  Rightly i found = MatchOption found (mate_of table i ≡ None) (λ kind. (mate : ℕ) × AreMates table i mate × (kind_of table mate ≡ Some kind))

  rightly : (i : ℕ) (both : Both i) (found : Option Kind) → kind_of_mate both.draft.kind ≡ found → (both.draft.mate ≡ None) ⊎ ((mate : List ℕ) × (both.draft.mate ≡ Some mate)) → Rightly i found
  rightly i both None is (inl none) = none_in_table i both none
  rightly i both None is (inr has) = absurd (some_not_none (kind_of_mate both.draft.kind) ((its_draft i both).mates.0 (rw has.1)) is)
  rightly i both (Some kind) is (inl none) = absurd (some_not_none both.draft.mate ((its_draft i both).mates.1 (rw is)) none)
  rightly i both (Some kind) is (inr has) =
      let its = mate_at i both has.0 has.1 in
      (its.n, record { forth = its.number; back = mate_back i both its }, table_kind its.n its.there ∙ (sym its.mutual_drafts.fits ∙ is))

  mates_rightly : (i : ℕ) (both : Both i) → MatesRightly table i
  mates_rightly i both = subst (Rightly i) (sym (ap (option_and_then kind_of_mate) (table_kind i both))) (rightly i both (kind_of_mate both.draft.kind) refl (mate_cases both.draft.mate))

  -- The rows are a table of types.
  pub is_table : 1 ≤ traces → traces ≤ 256 → 1 ≤ length drafts → length drafts ≤ 64 → IsTypeTable table
  is_table some_trace few_traces some few = record {
    some_trace = some_trace;
    most_traces = few_traces;
    some_type = omega (arith, some, made.count);
    most_types = omega (arith, few, made.count);
    names = λ i below. let both = both_at i (omega (arith, below, made.count)) in subst IsName (sym (table_name i both)) (its_draft i both).is_name;
    distinct = λ a b below also same.
        let one = both_at a (omega (arith, below, made.count)) in
        let other = both_at b (omega (arith, also, made.count)) in
        distinct a b one.draft.name (its_name a one) (its_name b other ∙ ap Some (sym (table_name b other) ∙ (sym same ∙ table_name a one)));
    mates = λ i below. mates_rightly i (both_at i (omega (arith, below, made.count)));
  }

  mate_told : (i : ℕ) (both : Both i) → (both.draft.mate ≡ None) ⊎ ((mate : List ℕ) × (both.draft.mate ≡ Some mate)) → both.draft.mate ≡ option_map (name_of table) (mate_of table i)
  mate_told i both (inl none) = none ∙ ap (option_map (name_of table)) (sym (none_in_table i both none))
  mate_told i both (inr has) =
      let its = mate_at i both has.0 has.1 in
      its.mutual_drafts.forth ∙ (ap Some (sym (table_name its.n its.there)) ∙ ap (option_map (name_of table)) (sym its.number))

  -- Each type is what its entry says.
  pub is_type : (i : ℕ) → i < length drafts → IsTypeOf entries table i
  is_type i below =
      let both = both_at i below in
      record {
        named = (its_draft i both).named ∙ ap Some (sym (table_name i both));
        kind = both.draft.kind;
        is_kind = table_kind i both;
        has_kind = (its_draft i both).has_kind;
        mate = (its_draft i both).mate ∙ mate_told i both (mate_cases both.draft.mate);
      }
