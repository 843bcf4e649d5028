-- Drafts, one more of them, and what they say when they are all.
use Rattle.std.proofs.Common.{◌≡◌, ℕ, ◌<◌, ◌≤◌, List, [], ◌∷◌, ◌++◌, length, Some, sym, refl, ap, subst, ◌∙◌, inl, inr, arith}
use Rattle.std.specs.Prelude.{slice_get, slice_index_or}
use Rattle.std.proofs.lemmas.Bool.{cases_lt}
use Rattle.std.proofs.lemmas.List.{length_push}
use Rattle.std.proofs.lemmas.Option.{slice_get_within, slice_get_read, same_Some}
use Rattle.target_desc.specs.declared.draft.Draft.{Draft}
use Rattle.target_desc.specs.declared.target_error.TargetError.{TargetError}
use Rattle.target_desc.specs.Drafts.{IsDraftOf, AreDraftsOf, HasAt}
use Rattle.target_desc.specs.Entries.{entry_refusals, type_refusals}
use Rattle.causal_base.specs.Refusals.{IsFirst, ArePassed}
use Rattle.target_desc.proofs.Places.{pushed_at}
use Rattle.toml.specs.Data.{Data}

-- what holds at a place holds of the draft there
pub has_at : (Has : Draft → Type 0) (drafts : List Draft) (i : ℕ) (draft : Draft) → i < length drafts → draft ≡ slice_index_or drafts i draft → HasAt Has drafts i → Has draft
has_at Has drafts i draft below is has =
    let at : slice_get drafts i ≡ Some draft = slice_get_read drafts (length drafts) i draft refl below is in
    subst Has (same_Some has.0 draft (sym has.1 ∙ at)) has.2

pub at_within : (Has : Draft → Type 0) (drafts : List Draft) (i : ℕ) → HasAt Has drafts i → i < length drafts
at_within Has drafts i has = slice_get_within drafts i has.0 has.1

-- one more draft
pub drafts_more : (entries : List Data) (drafts : List Draft) (draft : Draft) → AreDraftsOf entries drafts → IsDraftOf entries (length drafts) draft → ArePassed (entry_refusals entries (length drafts))
    → AreDraftsOf entries (drafts ++ draft ∷ [])
drafts_more entries drafts draft are is good = record {
  each = λ i other at. elim (pushed_at drafts draft i other at) [
    | inl before ↦ are.each i other before
    | inr last ↦ subst (λ (n : ℕ). IsDraftOf entries n other) (sym last.0) (subst (IsDraftOf entries (length drafts)) (sym last.1) is)
  ];
  good = λ i below. elim (cases_lt i (length drafts)) [
    | inl before ↦ are.good i before
    | inr least ↦ let last : length drafts ≡ i = omega (arith, below, least, length_push drafts draft) in subst (λ (n : ℕ). ArePassed (entry_refusals entries n)) last good
  ];
}

-- the first entry with something wrong
pub refused_entry : (entries : List Data) (drafts : List Draft) (error : TargetError) → length drafts < length entries → length entries ≤ 64 → AreDraftsOf entries drafts
    → IsFirst (entry_refusals entries (length drafts)) error → IsFirst (type_refusals entries) error
refused_entry entries drafts error below few are first = inr (
  (λ other none. absurd (omega (arith, below, ap length none.0))),
  inr (
    (λ other many. absurd (omega (arith, many.0, few))),
    inl (length drafts, record { below = below; first = first; good_before = are.good }),
  ),
)
