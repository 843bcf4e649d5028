use Rattle.std.proofs.Common.{◌≡◌, length, map}
use Rattle.toml.specs.View.{view}
use Rattle.target_desc.specs.Drafts.{AreDraftsOf}
use Rattle.target_desc.proofs.draft.drafts_of.Given as goal

abbrev pub invariant-loop-place : goal.invariant-loop-place
invariant-loop-place l = record {
  count : length l.drafts.items ≡ l.place;
  drafts : AreDraftsOf (map view l.entries) l.drafts.items;
}
