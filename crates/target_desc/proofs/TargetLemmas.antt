-- The refusals of a document from those of its parts, and the target that its parts make.
use Rattle.std.proofs.Common.{◌≡◌, ℕ, ◌<◌, ◌≤◌, ◌⊎◌, List, [], ◌∷◌, ◌++◌, length, map, sym, refl, ap, subst, ◌∙◌, inl, inr, arith}
use Rattle.causal_base.specs.declared.type_row.TypeRow.{TypeRow}
use Rattle.causal_base.specs.Types.{TypeTable}
use Rattle.target_desc.specs.declared.draft.Draft.{Draft}
use Rattle.target_desc.specs.declared.target_error.TargetError.{TargetError}
use Rattle.target_desc.specs.declared.target_error.TargetError.TheVariants.{StrayKey}
use Rattle.target_desc.specs.Document.{traces_of, entries_of}
use Rattle.target_desc.specs.Drafts.{AreDraftsOf, MatesAgree, mate_refusals}
use Rattle.target_desc.specs.Entries.{type_refusals}
use Rattle.target_desc.specs.Reading.{HasStray, IsTypeOf, IsTargetOf, refusals_of}
use Rattle.causal_base.specs.Refusals.{Refusals, IsFirst, ArePassed}
use Rattle.target_desc.specs.Traces.{trace_refusals}
use Rattle.target_desc.proofs.MateLemmas.{mate_first, types_pass}
use Rattle.causal_base.proofs.CallerLemmas.{first_of_some, first_of_more, passed_both}
use Rattle.toml.specs.Data.{Data, Members, string}

-- a key that says nothing
abbrev pub stray : Members → Refusals TargetError
stray document = (λ error. HasStray document × (error ≡ StrayKey)) ∷ []

module _ (document : Members) (traces entries : List Data) (are_traces : traces ≡ traces_of document) (are_entries : entries ≡ entries_of document) where
  pub refused_traces : (error : TargetError) → IsFirst (trace_refusals traces) error → IsFirst (refusals_of document) error
  refused_traces error first =
      first_of_some (trace_refusals (traces_of document) ++ type_refusals (entries_of document)) (stray document) error
      (first_of_some (trace_refusals (traces_of document)) (type_refusals (entries_of document)) error (subst (λ items. IsFirst (trace_refusals items) error) are_traces first))

  module _ (good_traces : ArePassed (trace_refusals traces)) where
    traces_passed : ArePassed (trace_refusals (traces_of document))
    traces_passed = subst (λ items. ArePassed (trace_refusals items)) are_traces good_traces

    pub refused_types : (error : TargetError) → IsFirst (type_refusals entries) error → IsFirst (refusals_of document) error
    refused_types error first =
        first_of_some (trace_refusals (traces_of document) ++ type_refusals (entries_of document)) (stray document) error
        (first_of_more (trace_refusals (traces_of document)) (type_refusals (entries_of document)) error traces_passed (subst (λ items. IsFirst (type_refusals items) error) are_entries first))

    both_passed : ArePassed (type_refusals entries) → ArePassed (trace_refusals (traces_of document) ++ type_refusals (entries_of document))
    both_passed good = passed_both (trace_refusals (traces_of document)) (type_refusals (entries_of document)) traces_passed (subst (λ items. ArePassed (type_refusals items)) are_entries good)

    refused_stray : ArePassed (type_refusals entries) → HasStray document → IsFirst (refusals_of document) StrayKey
    refused_stray good has = first_of_more (trace_refusals (traces_of document) ++ type_refusals (entries_of document)) (stray document) StrayKey (both_passed good) (inl (has, refl))

    document_passes : ArePassed (type_refusals entries) → (HasStray document → ⊥) → ArePassed (refusals_of document)
    document_passes good none = passed_both (trace_refusals (traces_of document) ++ type_refusals (entries_of document)) (stray document) (both_passed good) ((λ error has. none has.0), tt)

    -- where the drafts of the entries have mates that don't agree, or else a key says nothing
    module _ (drafts : List Draft) (are : AreDraftsOf entries drafts) (long : length drafts ≡ length entries) (some : 1 ≤ length entries) (few : length entries ≤ 64) where
      pub refused_rest : (error : TargetError) → IsFirst (mate_refusals drafts) error ⊎ (MatesAgree drafts × HasStray document × (error ≡ StrayKey)) → IsFirst (refusals_of document) error
      refused_rest error (inl first) = refused_types error (mate_first entries drafts are long some few error first)
      refused_rest error (inr has) = subst (IsFirst (refusals_of document)) (sym has.2) (refused_stray (types_pass entries drafts are long some few has.0) has.1)

      pub rest_passes : MatesAgree drafts → (HasStray document → ⊥) → ArePassed (refusals_of document)
      rest_passes agree none = document_passes (types_pass entries drafts are long some few agree) none

  -- the target of good drafts and their rows
  pub makes_target : (names : List (List ℕ)) (rows : List TypeRow) (types : TypeTable) → map string names ≡ traces → types ≡ record { traces = length names; rows = rows }
      → length rows ≡ length entries → ((i : ℕ) → i < length entries → IsTypeOf entries (record { traces = length names; rows = rows }) i) → IsTargetOf document (record { traces = names; types = types })
  makes_target names rows types are is long each = record {
    traces = sym (are ∙ are_traces);
    count_is = ap (λ (table : TypeTable). table.traces) is;
    rows = ap (λ (table : TypeTable). length table.rows) is ∙ (long ∙ ap length are_entries);
    types = λ i below. subst (λ (table : TypeTable). IsTypeOf (entries_of document) table i) (sym is)
        (subst (λ items. IsTypeOf items (record { traces = length names; rows = rows }) i) are_entries (each i (omega (arith, below, ap length are_entries))));
  }
