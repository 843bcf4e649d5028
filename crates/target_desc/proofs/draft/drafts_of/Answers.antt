use Rattle.std.proofs.Common.{◌≡◌, ◌++◌, ◌∷◌, [], ◌⊎◌, length, map, arith, rules, sym, subst, ap, ℕ}
use Rattle.std.proofs.lemmas.List.{length-map, length_push}
use Rattle.toml.specs.View.{view}
use Rattle.target_desc.specs.declared.target_error.TargetError.TheVariants.{Oom}
use Rattle.target_desc.specs.Drafts.{IsDraftOf}
use Rattle.target_desc.specs.Entries.{entry_refusals, type_refusals}
use Rattle.causal_base.specs.Refusals.{IsFirst, ArePassed}
use Rattle.target_desc.proofs.DraftLemmas.{drafts_more, refused_entry}
use Rattle.target_desc.proofs.Exits.{if_err_from, or_else}
use Rattle.target_desc.proofs.draft.drafts_of.Goals as goal

pub returns-in_err-draft-clause-err : goal.returns-in_err-draft-clause-err
returns-in_err-draft-clause-err c =
    let error = c.in_err-draft.field-0.0 in
    let entries = map view c.args.entries.now in
    let drafts = c.loop-place.drafts.items in
    let count = c.loop-place.invariant.count in
    let long = length-map c.args.entries.now view in
    if_err_from (λ other. (other ≡ Oom) ⊎ IsFirst (type_refusals entries) other) c.from_residual.result error c.from_residual.ensures.1
    (or_else (error ≡ Oom) (IsFirst (entry_refusals entries c.loop-place.place) error) (IsFirst (type_refusals entries) error) c.in_err-draft.ensures.err (λ first.
    refused_entry entries drafts error (omega (arith, count, long, c.loop-place-test.true)) (omega (arith, long, c.if-entries-gt-MOST_TYPES.false)) c.loop-place.invariant.drafts
    (subst (λ (n : ℕ). IsFirst (entry_refusals entries n) error) (sym count) first)))

pub loop-place-preserved : goal.loop-place-preserved
loop-place-preserved c =
    let pushed : c.push.new.self.items ≡ c.loop-place.drafts.items ++ c.in_ok-draft.draft ∷ [] = search rules in
    let count = c.loop-place.invariant.count in
    record {
      count = omega (arith, count, length_push c.loop-place.drafts.items c.in_ok-draft.draft, ap length pushed);
      drafts = rw pushed (drafts_more (map view c.args.entries.now) c.loop-place.drafts.items c.in_ok-draft.draft c.loop-place.invariant.drafts
          (subst (λ (n : ℕ). IsDraftOf (map view c.args.entries.now) n c.in_ok-draft.draft) (sym count) c.in_ok-draft.ensures.says)
          (subst (λ (n : ℕ). ArePassed (entry_refusals (map view c.args.entries.now) n)) (sym count) c.in_ok-draft.ensures.good));
    }
