use Rattle.std.proofs.Common.{◌≡◌, ◌≢◌, ℕ, Some, map, sym, subst, ◌∙◌, rules, codes}
use Rattle.toml.specs.View.{view}
use Rattle.causal_base.specs.Spelling.{IsName}
use Rattle.target_desc.specs.Document.{name_field}
use Rattle.target_desc.specs.Drafts.{draft_name}
use Rattle.target_desc.proofs.Documents.{seen_at}
use Rattle.target_desc.proofs.EntryLemmas.{once_from, text_at}
use Rattle.target_desc.proofs.draft.new_name.Goals as goal

pub returns-in-None-clause-named : goal.returns-in-None-clause-named
returns-in-None-clause-named c =
    let at = seen_at c.args.entries.now c.args.place c.index-entries-place.result c.requires.here c.index-entries-place.is in
    let named : name_field (map view c.args.entries.now) c.args.place ≡ Some c.in-Some.name.now = text_at (codes "name") (map view c.args.entries.now) c.args.place (view c.index-entries-place.result) at ∙ sym c.in-Some.ensures in
    let is_name : IsName c.in-Some.name.now = search rules in
    let none = subst (λ name. (j : ℕ) → draft_name c.args.earlier.now j ≢ Some name) c.as_bytes-2.ensures.value c.in-None.ensures.none in
    record {
      named = named;
      is_name = is_name;
      once = once_from (map view c.args.entries.now) c.args.earlier.now c.args.place c.in-Some.name.now c.requires.count c.requires.drafts none named;
    }
