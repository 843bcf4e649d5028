use Rattle.std.proofs.Common.{◌≡◌, ◌⊎◌, ℕ, List, length, map, inr, refl, subst, sym, ap, ◌∙◌, rules, arith}
use Rattle.std.proofs.lemmas.List.{length-map}
use Rattle.toml.specs.View.{view, table_view}
use Rattle.target_desc.specs.declared.draft.Draft.{Draft}
use Rattle.target_desc.specs.declared.target_error.TargetError.TheVariants.{Oom, StrayKey}
use Rattle.target_desc.specs.Document.{entries_of}
use Rattle.target_desc.specs.Drafts.{AreDistinct, MatesAgree, mate_refusals}
use Rattle.target_desc.specs.Entries.{type_refusals}
use Rattle.target_desc.specs.Reading.{HasStray, refusals_of}
use Rattle.causal_base.specs.Refusals.{IsFirst}
use Rattle.target_desc.specs.Traces.{trace_refusals}
use Rattle.target_desc.proofs.Exits.{if_err_from, or_else}
use Rattle.target_desc.proofs.MateLemmas.{are_distinct}
use Rattle.target_desc.proofs.TargetLemmas.{refused_traces, refused_types, refused_rest, rest_passes, makes_target}
use Rattle.target_desc.proofs.TypeLemmas.{is_table, is_type}
use Rattle.target_desc.proofs.target.target_of.Goals as goal

pub returns-in_err-traces-clause-err : goal.returns-in_err-traces-clause-err
returns-in_err-traces-clause-err c =
    let document = table_view c.args.document.now in
    let traces = map view c.array_under.result.now in
    let error = c.in_err-traces.field-0.0 in
    if_err_from (λ other. (other ≡ Oom) ⊎ IsFirst (refusals_of document) other) c.from_residual.result error c.from_residual.ensures.1
    (or_else (error ≡ Oom) (IsFirst (trace_refusals traces) error) (IsFirst (refusals_of document) error) c.in_err-traces.ensures.err
    (refused_traces document traces (entries_of document) c.array_under.ensures refl error))

pub returns-in_err-drafts-clause-err : goal.returns-in_err-drafts-clause-err
returns-in_err-drafts-clause-err c =
    let document = table_view c.args.document.now in
    let traces = map view c.array_under.result.now in
    let entries = map view c.array_under-2.result.now in
    let error = c.in_err-drafts.field-0.0 in
    if_err_from (λ other. (other ≡ Oom) ⊎ IsFirst (refusals_of document) other) c.from_residual-in_err-drafts.result error c.from_residual-in_err-drafts.ensures.1
    (or_else (error ≡ Oom) (IsFirst (type_refusals entries) error) (IsFirst (refusals_of document) error) c.in_err-drafts.ensures.err
    (refused_types document traces entries c.array_under.ensures c.array_under-2.ensures c.in_ok-traces.ensures.good error))

pub check_mates_and_keys-requires-clause-distinct : goal.check_mates_and_keys-requires-clause-distinct
check_mates_and_keys-requires-clause-distinct c =
    let distinct = are_distinct (map view c.array_under-2.result.now) c.in_ok-drafts.drafts.items c.in_ok-drafts.ensures.drafts in
    subst (λ (drafts : List Draft). AreDistinct drafts) (sym c.deref.ensures.value) distinct

pub returns-in_err-check_mates_and_keys-clause-err : goal.returns-in_err-check_mates_and_keys-clause-err
returns-in_err-check_mates_and_keys-clause-err c =
    let document = table_view c.args.document.now in
    let traces = map view c.array_under.result.now in
    let entries = map view c.array_under-2.result.now in
    let ensured = c.in_ok-drafts.ensures in
    let long = length-map c.array_under-2.result.now view in
    let error = c.in_err-check_mates_and_keys.field-0.0 in
    let rest = subst (λ (drafts : List Draft). IsFirst (mate_refusals drafts) error ⊎ (MatesAgree drafts × HasStray document × (error ≡ StrayKey))) c.deref.ensures.value c.in_err-check_mates_and_keys.ensures.err in
    if_err_from (λ other. (other ≡ Oom) ⊎ IsFirst (refusals_of document) other) c.from_residual-in_err-check_mates_and_keys.result error c.from_residual-in_err-check_mates_and_keys.ensures.1
    (inr (refused_rest document traces entries c.array_under.ensures c.array_under-2.ensures c.in_ok-traces.ensures.good c.in_ok-drafts.drafts.items ensured.drafts
    (omega (arith, long, ensured.all)) (omega (arith, long, ensured.some)) (omega (arith, long, ensured.most)) error rest))

pub new-requires : goal.new-requires
new-requires c =
    let entries = map view c.array_under-2.result.now in
    let drafts = c.in_ok-drafts.drafts.items in
    let agree = subst (λ (items : List Draft). MatesAgree items) c.deref.ensures.value c.in_ok-check_mates_and_keys.ensures.mates in
    let ensured = c.in_ok-drafts.ensures in
    is_table entries drafts c.in-Ok.rows.items c.len.result ensured.drafts c.in-Ok.ensures agree
    (omega (arith, c.len.ensures, c.in_ok-traces.ensures.some)) (omega (arith, c.len.ensures, c.in_ok-traces.ensures.most)) (omega (arith, ensured.all, ensured.some)) (omega (arith, ensured.all, ensured.most))

pub returns-clause-good : goal.returns-clause-good
returns-clause-good c =
    let document = table_view c.args.document.now in
    let traces = map view c.array_under.result.now in
    let entries = map view c.array_under-2.result.now in
    let ensured = c.in_ok-drafts.ensures in
    let long = length-map c.array_under-2.result.now view in
    let agree = subst (λ (items : List Draft). MatesAgree items) c.deref.ensures.value c.in_ok-check_mates_and_keys.ensures.mates in
    rest_passes document traces entries c.array_under.ensures c.array_under-2.ensures c.in_ok-traces.ensures.good c.in_ok-drafts.drafts.items ensured.drafts
    (omega (arith, long, ensured.all)) (omega (arith, long, ensured.some)) (omega (arith, long, ensured.most)) agree c.in_ok-check_mates_and_keys.ensures.keys

pub returns-clause-says : goal.returns-clause-says
returns-clause-says c =
    let document = table_view c.args.document.now in
    let traces = map view c.array_under.result.now in
    let entries = map view c.array_under-2.result.now in
    let names = c.in_ok-traces.traces.items in
    let drafts = c.in_ok-drafts.drafts.items in
    let rows = c.in-Ok.rows.items in
    let long = length-map c.array_under-2.result.now view in
    let agree = subst (λ (items : List Draft). MatesAgree items) c.deref.ensures.value c.in_ok-check_mates_and_keys.ensures.mates in
    let all : length names ≡ c.len.result = search rules in
    let is = c.new.ensures ∙ ap (λ (count : ℕ). record { traces = count; rows = rows }) (sym all) in
    makes_target document traces entries c.array_under.ensures c.array_under-2.ensures names rows c.new.result c.in_ok-traces.ensures.names is
    (omega (arith, c.in-Ok.ensures.count, long, c.in_ok-drafts.ensures.all))
    (λ i below. is_type entries drafts rows (length names) c.in_ok-drafts.ensures.drafts c.in-Ok.ensures agree i (omega (arith, below, long, c.in_ok-drafts.ensures.all)))
