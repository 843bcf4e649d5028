use Rattle.std.proofs.Common.{map}
use Rattle.toml.proofs.Views.{table_get}
use Rattle.toml.specs.View.{view}
use Rattle.target_desc.proofs.Documents.{list_of-items_of}
use Rattle.target_desc.proofs.fields.array_under.Goals as goal

pub returns-in_default : goal.returns-in_default
returns-in_default c =
    let found = table_get c.get.result c.args.key.now c.args.document.now.entries c.get.ensures.value in
    rw (← rw c.in_default.is at found)

pub returns-in-None : goal.returns-in-None
returns-in-None c =
    let found = table_get c.get.result c.args.key.now c.args.document.now.entries c.get.ensures.value in
    rw (← rw c.in-Some.is at found, ← c.in-None.ensures)

pub returns-in-Some-as_array : goal.returns-in-Some-as_array
returns-in-Some-as_array c =
    let found = table_get c.get.result c.args.key.now c.args.document.now.entries c.get.ensures.value in
    rw (c.as_slice.ensures.value, ← rw c.in-Some.is at found, ← c.in-Some-as_array.ensures, list_of-items_of (map view c.in-Some-as_array.items.now.items))
