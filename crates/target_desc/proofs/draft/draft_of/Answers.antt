use Rattle.std.proofs.Common.{map, codes, refl, sym, subst, option_map, ◌∙◌}
use Rattle.toml.specs.View.{view}
use Rattle.target_desc.specs.Drafts.{IsDraftOf}
use Rattle.target_desc.proofs.Documents.{seen_at}
use Rattle.target_desc.proofs.EntryLemmas.{draft_says, text_at}
use Rattle.target_desc.proofs.draft.draft_of.Goals as goal

pub returns-in-Ok-clause-says : goal.returns-in-Ok-clause-says
returns-in-Ok-clause-says c =
    let entries = map view c.args.entries.now in
    let at = seen_at c.args.entries.now c.args.place c.index-entries-place.result c.requires.here c.index-entries-place.is in
    let has = text_at (codes "kind") entries c.args.place (view c.index-entries-place.result) at ∙ c.in-Some.ensures.some in
    subst (IsDraftOf entries c.args.place) (sym c.in-Ok.ensures)
    (draft_says entries c.args.place c.in_ok-name.name.now c.in_ok-name.ensures.named
    (record { name = c.in_ok-name.name.now; kind = c.in-Some.kind; mate = option_map (λ text. text.now) c.in_ok-mate.mate }) refl has c.in_ok-mate.ensures.its c.in_ok-mate.ensures.mate)
