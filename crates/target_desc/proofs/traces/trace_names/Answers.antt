use Rattle.std.proofs.Common.{◌≡◌, ◌<◌, ℕ, List, length, vec_len, map, inr, sym, ap, subst, ◌∙◌, arith, rules}
use Rattle.std.proofs.lemmas.List.{length-map}
use Rattle.toml.specs.Data.{string}
use Rattle.toml.specs.View.{view}
use Rattle.target_desc.specs.Names.{IsTwiceName}
use Rattle.causal_base.specs.Refusals.{IsLeast}
use Rattle.target_desc.proofs.TraceLemmas.{traces_pass, trace_twice, names_once}
use Rattle.target_desc.proofs.traces.trace_names.Goals as goal

pub returns-in-Some-clause-err : goal.returns-in-Some-clause-err
returns-in-Some-clause-err c =
    let names = c.in_ok-names.names.items in
    let are = c.in_ok-names.ensures.names in
    let long : length names ≡ length c.args.traces.now = sym (length-map names string) ∙ (ap length are ∙ length-map c.args.traces.now view) in
    let some : 0 < length c.args.traces.now = search rules in
    let found = subst (λ (items : List (List ℕ)). IsLeast (length items) (IsTwiceName items) c.in-Some.place) c.deref.ensures.value c.in-Some.ensures.found in
    inr (trace_twice (map view c.args.traces.now) names are (omega (arith, long, some)) (omega (arith, long, c.if-traces.false)) c.in_ok-names.ensures.are_names c.in-Some.place found)

pub returns-in-None-clause-good : goal.returns-in-None-clause-good
returns-in-None-clause-good c =
    let names = c.in_ok-names.names.items in
    let are = c.in_ok-names.ensures.names in
    let long : length names ≡ length c.args.traces.now = sym (length-map names string) ∙ (ap length are ∙ length-map c.args.traces.now view) in
    let some : 0 < length c.args.traces.now = search rules in
    let once = subst (λ (items : List (List ℕ)). (i : ℕ) → i < length items → IsTwiceName items i → ⊥) c.deref.ensures.value c.in-None.ensures.none in
    traces_pass (map view c.args.traces.now) names are (omega (arith, long, some)) (omega (arith, long, c.if-traces.false)) c.in_ok-names.ensures.are_names once

pub returns-in-None-clause-are_names : goal.returns-in-None-clause-are_names
returns-in-None-clause-are_names c =
    let names = c.in_ok-names.names.items in
    let once = subst (λ (items : List (List ℕ)). (i : ℕ) → i < length items → IsTwiceName items i → ⊥) c.deref.ensures.value c.in-None.ensures.none in
    let all : length names ≡ vec_len c.in_ok-names.names = search rules in
    names_once names (vec_len c.in_ok-names.names) all c.in_ok-names.ensures.are_names once
