use Rattle.std.proofs.Common.{ℕ, ◌<◌, map}
use Rattle.toml.specs.View.{view}
use Rattle.target_desc.specs.Entries.{HasStrayKey}
use Rattle.target_desc.proofs.keys.has_stray_entry_key.Given as goal

abbrev pub invariant-loop-entry : goal.invariant-loop-entry
invariant-loop-entry l = (j : ℕ) → j < l.entry-index → HasStrayKey (map view l.entries) j → ⊥
