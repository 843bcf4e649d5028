use Rattle.std.proofs.Common.{◌%◌, sym, ◌∙◌, ap, lit<}
use Rattle.std.specs.Prelude.{slice_get}
use Rattle.std.specs.Option.{option_and_then}
use Rattle.shared_list.specs.Blocks.{block_items}
use Rattle.shared_list.proofs.Pieces.{slice_get-pieces_by_division}
use Rattle.shared_list.proofs.spine.item_of_blocks.Goals as goal

pub returns-in_err-nth : goal.returns-in_err-nth
returns-in_err-nth g c =
    let found = slice_get-pieces_by_division block_items 64 c.args.blocks.now c.requires c.args.at (lit< tt) in
    rw c.from_residual.ensures (ap (option_and_then (λ b. slice_get (block_items b) (c.args.at % 64))) c.in_err-nth.ensures ∙ sym found)

pub returns : goal.returns
returns g c =
    let found = slice_get-pieces_by_division block_items 64 c.args.blocks.now c.requires c.args.at (lit< tt) in
    let block = c.deref-in_ok-nth.ensures.value ∙ ap (λ v. v.items) c.deref.ensures in
    c.nth-2.ensures ∙ ap (λ xs. slice_get xs (c.args.at % 64)) block
    ∙ ap (option_and_then (λ b. slice_get (block_items b) (c.args.at % 64))) c.in_ok-nth.ensures ∙ sym found
