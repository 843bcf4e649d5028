use Rattle.std.proofs.Common.{◌≡◌, map, inr, refl, sym, ap, ◌∙◌, below_more, rules, take, ◌++◌, ◌∷◌, []}
use Rattle.std.proofs.lemmas.List.{map-append}
use Rattle.std.proofs.lemmas.List.Elements.{All-push}
use Rattle.causal_base.specs.Spelling.{IsName}
use Rattle.toml.specs.Data.{string}
use Rattle.toml.specs.View.{view}
use Rattle.target_desc.proofs.Documents.{seen_at, seen_more}
use Rattle.target_desc.proofs.TraceLemmas.{seen_bad, seen_good}
use Rattle.target_desc.proofs.traces.names_of.Goals as goal

pub returns-in_default-clause-err : goal.returns-in_default-clause-err
returns-in_default-clause-err c =
    let at = seen_at c.args.traces.now c.loop-place.place c.index-traces-place.result c.loop-place-test.true c.index-traces-place.is in
    inr (
      c.loop-place.place,
      record {
        below = c.loop-place-test.true;
        has = seen_bad (map view c.args.traces.now) c.loop-place.place (view c.index-traces-place.result) at c.in_default.ensures.none;
        none_before = c.loop-place.invariant.none;
      },
      refl,
    )

pub loop-place-preserved : goal.loop-place-preserved
loop-place-preserved c =
    let at = seen_at c.args.traces.now c.loop-place.place c.index-traces-place.result c.loop-place-test.true c.index-traces-place.is in
    let more = seen_more c.args.traces.now c.loop-place.place c.index-traces-place.result c.loop-place-test.true c.index-traces-place.is in
    let name : c.in-Ok.name ≡ c.in-Some.name.now = search rules in
    let pushed : c.push.new.self.items ≡ c.loop-place.names.items ++ c.in-Ok.name ∷ [] = search rules in
    record {
      so_far = rw (pushed, more, map-append, name) (ap (λ so_far. so_far ++ string c.in-Some.name.now ∷ []) c.loop-place.invariant.so_far ∙ ap (λ item. map view (take c.loop-place.place c.args.traces.now) ++ item ∷ []) (sym c.in-Some.ensures.found));
      are_names = rw pushed (All-push IsName c.loop-place.names.items c.in-Ok.name c.loop-place.invariant.are_names (rw name c.in-Some.ensures.is_name));
      none = below_more _ _ c.loop-place.invariant.none (seen_good (map view c.args.traces.now) c.loop-place.place (view c.index-traces-place.result) c.in-Some.name.now at c.in-Some.ensures.found c.in-Some.ensures.is_name);
    }
