-- What drafts say of the entries that they were made from.
use Rattle.std.proofs.Common.{◌≡◌, ℕ, ◌<◌, ◌≤◌, List, length, Some, IsSome, sym, refl, ap, subst, ◌∙◌, inl, inr, arith}
use Rattle.std.specs.Prelude.{slice_get}
use Rattle.std.specs.Option.{option_map}
use Rattle.std.proofs.lemmas.Bool.{cases_lt}
use Rattle.std.proofs.lemmas.Option.{slice_get_within}
use Rattle.causal_base.specs.TypeTables.{kind_of_mate}
use Rattle.target_desc.specs.declared.draft.Draft.{Draft}
use Rattle.target_desc.specs.declared.target_error.TargetError.{TargetError}
use Rattle.target_desc.specs.declared.target_error.TargetError.TheVariants.{TwiceType}
use Rattle.target_desc.specs.Document.{name_field}
use Rattle.target_desc.specs.Drafts.{AreDraftsOf, AreDistinct, draft_name, HasAt, MateIsUnknown, MateIsNotMutual, AreMutualDrafts, MatesAgree, mate_refusals}
use Rattle.target_desc.specs.Entries.{HasUnknownMate, HasNoMutualMate, AreMutual, IsRefusedEntry, entry_refusals, type_refusals}
use Rattle.causal_base.specs.Refusals.{IsFirst, ArePassed, IsLeast}
use Rattle.target_desc.proofs.EntryLemmas.{one_kind}
use Rattle.target_desc.proofs.Places.{from_mapped, place_below}
use Rattle.causal_base.proofs.CallerLemmas.{passed_first}
use Rattle.target_desc.proofs.RefusalLemmas.{least_same}
use Rattle.toml.specs.Data.{Data}

module _ (entries : List Data) (drafts : List Draft) (are : AreDraftsOf entries drafts) where
  named_draft : (i : ℕ) (name : List ℕ) → draft_name drafts i ≡ Some name → (i < length drafts) × (name_field entries i ≡ Some name)
  named_draft i name named =
      let draft = from_mapped (λ (draft : Draft). draft.name) (slice_get drafts i) name named in
      (slice_get_within drafts i draft.0 draft.1, (are.each i draft.0 draft.1).named ∙ ap Some draft.2)

  earlier_name : (i j : ℕ) (name : List ℕ) → i < j → draft_name drafts i ≡ Some name → draft_name drafts j ≡ Some name → ⊥
  earlier_name i j name before first second =
      let one = named_draft i name first in
      let other = named_draft j name second in
      (are.good j other.0).1.0 (TwiceType j) ((i, before, one.1 ∙ sym other.1), refl)

  -- no two drafts have one name
  pub are_distinct : AreDistinct drafts
  are_distinct i j name first second = elim (cases_lt i j) [
    | inl before ↦ absurd (earlier_name i j name before first second)
    | inr least ↦ elim (cases_lt j i) [
      | inl before ↦ absurd (earlier_name j i name before second first)
      | inr most ↦ omega (arith, least, most)
    ]
  ]

  unknown_there : (i : ℕ) → i < length drafts → length drafts ≡ length entries → HasUnknownMate entries i → HasAt (MateIsUnknown drafts) drafts i
  unknown_there i below long unknown =
      let draft = place_below drafts i below in (
        draft.0,
        draft.1,
        (
          unknown.0,
          sym (are.each i draft.0 draft.1).mate ∙ unknown.1,
          (λ j named.
              let one = named_draft j unknown.0 named in
              unknown.2 j (omega (arith, one.0, long)) one.1),
        ),
      )

  unknown_back : (i : ℕ) → length drafts ≡ length entries → HasAt (MateIsUnknown drafts) drafts i → HasUnknownMate entries i
  unknown_back i long unknown = (
    unknown.2.0,
    (are.each i unknown.0 unknown.1).mate ∙ unknown.2.1,
    (λ j below named.
        let draft = place_below drafts j (omega (arith, below, long)) in
        unknown.2.2 j (ap (option_map (λ (draft : Draft). draft.name)) draft.1 ∙ (sym (are.each j draft.0 draft.1).named ∙ named))),
  )

  mutual_entries : (i j : ℕ) (draft its : Draft) → length drafts ≡ length entries → slice_get drafts i ≡ Some draft → slice_get drafts j ≡ Some its → AreMutualDrafts draft its → AreMutual entries i j
  mutual_entries i j draft its long at there both =
      let one = are.each i draft at in
      let other = are.each j its there in
      record {
        below = omega (arith, slice_get_within drafts j its there, long);
        forth = one.mate ∙ (both.forth ∙ sym other.named);
        back = other.mate ∙ (both.back ∙ sym one.named);
        kind = draft.kind;
        its_kind = its.kind;
        is_kind = one.has_kind;
        is_its_kind = other.has_kind;
        fits = both.fits;
      }

  mutual_drafts : (i j : ℕ) (draft its : Draft) → slice_get drafts i ≡ Some draft → slice_get drafts j ≡ Some its → AreMutual entries i j → AreMutualDrafts draft its
  mutual_drafts i j draft its at there both =
      let one = are.each i draft at in
      let other = are.each j its there in
      let kind = one_kind entries i draft.kind both.kind one.has_kind both.is_kind in
      let its_kind = one_kind entries j both.its_kind its.kind both.is_its_kind other.has_kind in
      record {
        forth = sym one.mate ∙ (both.forth ∙ other.named);
        back = sym other.mate ∙ (both.back ∙ one.named);
        fits = ap kind_of_mate kind ∙ (both.fits ∙ ap Some its_kind);
      }

  unmutual_there : (i : ℕ) → i < length drafts → length drafts ≡ length entries → HasNoMutualMate entries i → HasAt (MateIsNotMutual drafts) drafts i
  unmutual_there i below long none =
      let draft = place_below drafts i below in
      (draft.0, draft.1, (subst IsSome (are.each i draft.0 draft.1).mate none.0, (λ j its there both. none.1 j (mutual_entries i j draft.0 its long draft.1 there both))))

  unmutual_back : (i : ℕ) → length drafts ≡ length entries → HasAt (MateIsNotMutual drafts) drafts i → HasNoMutualMate entries i
  unmutual_back i long none = (
    subst IsSome (sym (are.each i none.0 none.1).mate) none.2.0,
    (λ j both.
        let its = place_below drafts j (omega (arith, both.below, long)) in
        none.2.1 j its.0 its.1 (mutual_drafts i j none.0 its.0 none.1 its.1 both)),
  )

  module _ (long : length drafts ≡ length entries) (some : 1 ≤ length entries) (few : length entries ≤ 64) where
    no_refused_entry : (i : ℕ) (error : TargetError) → IsRefusedEntry entries i error → ⊥
    no_refused_entry i error refused = passed_first (entry_refusals entries i) error (are.good i (omega (arith, refused.below, long))) refused.first

    unknown_same : (i : ℕ) → IsLeast (length drafts) (HasAt (MateIsUnknown drafts) drafts) i → IsLeast (length entries) (HasUnknownMate entries) i
    unknown_same i least = least_same (length drafts) (length entries) (HasAt (MateIsUnknown drafts) drafts) (HasUnknownMate entries) i long (λ j below. unknown_back j long) (λ j below. unknown_there j below long) least

    unmutual_same : (i : ℕ) → IsLeast (length drafts) (HasAt (MateIsNotMutual drafts) drafts) i → IsLeast (length entries) (HasNoMutualMate entries) i
    unmutual_same i least = least_same (length drafts) (length entries) (HasAt (MateIsNotMutual drafts) drafts) (HasNoMutualMate entries) i long (λ j below. unmutual_back j long) (λ j below. unmutual_there j below long) least

    unknown_least : (i : ℕ) → IsLeast (length entries) (HasUnknownMate entries) i → IsLeast (length drafts) (HasAt (MateIsUnknown drafts) drafts) i
    unknown_least i least = least_same (length entries) (length drafts) (HasUnknownMate entries) (HasAt (MateIsUnknown drafts) drafts) i (sym long) (λ j below. unknown_there j (omega (arith, below, long)) long) (λ j below. unknown_back j long) least

    unmutual_least : (i : ℕ) → IsLeast (length entries) (HasNoMutualMate entries) i → IsLeast (length drafts) (HasAt (MateIsNotMutual drafts) drafts) i
    unmutual_least i least = least_same (length entries) (length drafts) (HasNoMutualMate entries) (HasAt (MateIsNotMutual drafts) drafts) i (sym long) (λ j below. unmutual_there j (omega (arith, below, long)) long) (λ j below. unmutual_back j long) least

    -- what is wrong with the mates of the drafts is what is first wrong with the types
    pub mate_first : (error : TargetError) → IsFirst (mate_refusals drafts) error → IsFirst (type_refusals entries) error
    mate_first error first = inr (
      (λ other none. absurd (omega (arith, some, ap length none.0))),
      inr (
        (λ other many. absurd (omega (arith, many.0, few))),
        inr (
          (λ other refused. no_refused_entry refused.0 other refused.1),
          elim first [
            | inl unknown ↦ inl (unknown.0, unknown_same unknown.0 unknown.1, unknown.2)
            | inr later ↦ inr (
              (λ other unknown. later.0 other (unknown.0, unknown_least unknown.0 unknown.1, unknown.2)),
              elim later.1 [
                | inl unmutual ↦ inl (unmutual.0, unmutual_same unmutual.0 unmutual.1, unmutual.2)
                | inr none ↦ absurd none.1
              ],
            )
          ],
        ),
      ),
    )

    -- where nothing is wrong with them, nothing is with the types
    pub types_pass : MatesAgree drafts → ArePassed (type_refusals entries)
    types_pass agree = (
      (λ other none. absurd (omega (arith, some, ap length none.0))),
      (
        (λ other many. absurd (omega (arith, many.0, few))),
        (
          (λ other refused. no_refused_entry refused.0 other refused.1),
          (
            (λ other unknown. agree.known unknown.0 (unknown_least unknown.0 unknown.1).has),
            (
              (λ other unmutual. agree.mutual_mates unmutual.0 (unmutual_least unmutual.0 unmutual.1).has),
              tt,
            ),
          ),
        ),
      ),
    )
