use Rattle.std.proofs.Common.{◌/◌, ◌%◌, sym, ◌∙◌, ap, subst, lit<}
use Rattle.std.specs.Prelude.{slice_get, All}
use Rattle.std.specs.List.{flat_map}
use Rattle.std.specs.Option.{option_and_then}
use Rattle.shared_list.specs.Blocks.{block_items, branch_items, IsFullBlock, IsFullBranch}
use Rattle.shared_list.proofs.Pieces.{All-slice_get, slice_get-pieces_by_division}
use Rattle.shared_list.proofs.Spines.{branches_of_512}
use Rattle.shared_list.proofs.spine.item_of_branches.Goals as goal

pub returns-in_err-nth : goal.returns-in_err-nth
returns-in_err-nth g c =
    let found = slice_get-pieces_by_division branch_items 512 c.args.branches.now (branches_of_512 c.args.branches.now c.requires) c.args.at (lit< tt) in
    rw c.from_residual.ensures (ap (option_and_then (λ part. slice_get (branch_items part) (c.args.at % 512))) c.in_err-nth.ensures ∙ sym found)

pub item_of_blocks-requires : goal.item_of_blocks-requires
item_of_blocks-requires g c =
    let parts = c.deref-in_ok-nth.ensures.value ∙ ap (λ v. v.items) c.deref.ensures in
    subst (All IsFullBlock) (sym parts) (All-slice_get IsFullBranch c.args.branches.now (c.args.at / 512) c.in_ok-nth.field-0.now c.requires c.in_ok-nth.ensures).full

pub returns : goal.returns
returns g c =
    let found = slice_get-pieces_by_division branch_items 512 c.args.branches.now (branches_of_512 c.args.branches.now c.requires) c.args.at (lit< tt) in
    let parts = c.deref-in_ok-nth.ensures.value ∙ ap (λ v. v.items) c.deref.ensures in
    c.item_of_blocks.ensures ∙ ap (λ xs. slice_get (flat_map block_items xs) (c.args.at % 512)) parts
    ∙ ap (option_and_then (λ part. slice_get (branch_items part) (c.args.at % 512))) c.in_ok-nth.ensures ∙ sym found
