use Rattle.std.proofs.Common.{◌≡◌, ◌≢◌, ℕ, List, true, false, inl, sym, ◌∙◌, codes}
use Rattle.std.specs.Prelude.{Contains}
use Rattle.toml.specs.View.{table_view}
use Rattle.target_desc.specs.Document.{keys_of}
use Rattle.target_desc.proofs.StrayKeyLemmas.{stray_key, stray_entry}
use Rattle.target_desc.proofs.keys.has_stray.Goals as goal

pub returns-then-has_stray_key : goal.returns-then-has_stray_key
returns-then-has_stray_key c =
    let found = (stray_key c.args.document.now.entries).0 (sym c.has_stray_key.ensures ∙ c.if-has_stray_key.true) in
    ((λ h. inl found), (λ h. c.if-has_stray_key.true))

pub returns-else-has_stray_key : goal.returns-else-has_stray_key
returns-else-has_stray_key c =
    let none : ((key : List ℕ) × Contains (keys_of (table_view c.args.document.now)) key × (key ≢ codes "traces") × (key ≢ codes "event")) → ⊥ = λ has.
    (let clash : true ≡ false = sym ((stray_key c.args.document.now.entries).1 has) ∙ (sym c.has_stray_key.ensures ∙ c.if-has_stray_key.false) in cc) in
    stray_entry (table_view c.args.document.now) c.array_under.result.now c.has_stray_entry_key.result c.array_under.ensures none c.has_stray_entry_key.ensures
