use Rattle.std.proofs.Common.{◌≡◌, ap, ◌∙◌}
use Rattle.toml.specs.Data.{table}
use Rattle.toml.specs.View.{view, members_view}
use Rattle.toml.proofs.Views.{view-Table}
use Rattle.target_desc.proofs.StrayKeyLemmas.{stray_field}
use Rattle.target_desc.proofs.keys.is_stray_entry.Goals as goal

pub returns-in-Table : goal.returns-in-Table
returns-in-Table c =
    let seen : view c.args.entry.now ≡ table (members_view c.in-Table.fields.entries) = ap view c.in-Table.is ∙ view-Table c.in-Table.fields in
    rw (c.has_stray_field.ensures, seen) (stray_field c.in-Table.fields.entries)
