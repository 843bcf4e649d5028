use Rattle.std.proofs.Common.{◌≡◌, Some, true, false, ap, sym, refl, ◌∙◌, arith, below_more, rules, length, option_map}
use Rattle.std.specs.Prelude.{slice_get}
use Rattle.std.proofs.lemmas.Option.{slice_get_read, slice_get_within}
use Rattle.std.proofs.lemmas.Slice.Eq.{bytes_eq-Decides}
use Rattle.target_desc.specs.declared.draft.Draft.{Draft}
use Rattle.target_desc.proofs.Places.{from_mapped}
use Rattle.target_desc.proofs.draft.place_of.Goals as goal

pub returns-then-eq-clause-named : goal.returns-then-eq-clause-named
returns-then-eq-clause-named c =
    let at : slice_get c.args.drafts.now c.loop-place.place ≡ Some c.index-drafts-place.result = slice_get_read c.args.drafts.now (length c.args.drafts.now) c.loop-place.place c.index-drafts-place.result refl c.loop-place-test.true c.index-drafts-place.is in
    let same : c.index-drafts-place.result.name ≡ c.args.name.now = search rules in
    ap (option_map (λ (draft : Draft). draft.name)) at ∙ ap Some same

pub loop-place-preserved : goal.loop-place-preserved
loop-place-preserved c =
    let at : slice_get c.args.drafts.now c.loop-place.place ≡ Some c.index-drafts-place.result = slice_get_read c.args.drafts.now (length c.args.drafts.now) c.loop-place.place c.index-drafts-place.result refl c.loop-place-test.true c.index-drafts-place.is in
    below_more _ _ c.loop-place.invariant (λ named.
    let same : c.index-drafts-place.result.name ≡ c.args.name.now = (let e = sym (ap (option_map (λ (draft : Draft). draft.name)) at) ∙ named in cc) in
    let clash : true ≡ false = sym ((bytes_eq-Decides c.bytes.result.now c.args.name.now).1 (c.bytes.ensures ∙ same)) ∙ (sym c.eq.ensures ∙ c.if-eq.false) in
    cc)

pub returns-clause-none : goal.returns-clause-none
returns-clause-none c = λ j named.
    let draft = from_mapped (λ (draft : Draft). draft.name) (slice_get c.args.drafts.now j) c.args.name.now named in
    c.loop-place.invariant j (omega (arith, slice_get_within c.args.drafts.now j draft.0 draft.1, c.loop-place-test.false)) named
