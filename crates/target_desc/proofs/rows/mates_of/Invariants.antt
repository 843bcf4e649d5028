use Rattle.std.proofs.Common.{◌≡◌, ℕ, Option, Some, length}
use Rattle.std.specs.Prelude.{slice_get}
use Rattle.target_desc.specs.declared.draft.Draft.{Draft}
use Rattle.target_desc.specs.Drafts.{IsMateNumber}
use Rattle.target_desc.proofs.rows.mates_of.Given as goal

abbrev pub invariant-loop-draft : goal.invariant-loop-draft
invariant-loop-draft l = record {
  count : length l.mates.items ≡ l.draft-index;
  each : (i : ℕ) (draft : Draft) (number : Option ℕ) → slice_get l.drafts i ≡ Some draft → slice_get l.mates.items i ≡ Some number → IsMateNumber l.drafts draft number;
}
