use Rattle.std.proofs.Common.{◌≡◌, true, false, arith, sym, ◌∙◌, refl, below_more, map}
use Rattle.toml.specs.View.{view}
use Rattle.target_desc.proofs.Documents.{seen_at}
use Rattle.target_desc.proofs.StrayKeyLemmas.{stray_at}
use Rattle.target_desc.proofs.keys.has_stray_entry_key.Goals as goal

pub loop-entry-preserved : goal.loop-entry-preserved
loop-entry-preserved c =
    let at = seen_at c.args.entries.now c.loop-entry.entry-index c.entry-item.result (omega arith) c.entry-item.is in
    let same = stray_at (map view c.args.entries.now) c.loop-entry.entry-index (view c.entry-item.result) at in
    below_more _ _ c.loop-entry.invariant (λ has.
    let clash : true ≡ false = sym (c.is_stray_entry.ensures.1 (same.1 has)) ∙ c.if-is_stray_entry.false in
    cc)

pub returns-then-is_stray_entry : goal.returns-then-is_stray_entry
returns-then-is_stray_entry c =
    let at = seen_at c.args.entries.now c.loop-entry.entry-index c.entry-item.result (omega arith) c.entry-item.is in
    let same = stray_at (map view c.args.entries.now) c.loop-entry.entry-index (view c.entry-item.result) at in
    ((λ found. (c.loop-entry.entry-index, c.loop-entry-test.true, same.0 (c.is_stray_entry.ensures.0 c.if-is_stray_entry.true))), (λ has. refl))

pub returns : goal.returns
returns c = ((λ h. absurd (let clash : false ≡ true = h in cc)), (λ has. absurd (c.loop-entry.invariant has.0 (omega (arith, has.1, c.loop-entry-test.false)) has.2)))
