use Rattle.std.proofs.Common.{◌/◌, ◌%◌, sym, ◌∙◌, ap, subst, lit<}
use Rattle.std.specs.Prelude.{slice_get, All}
use Rattle.std.specs.List.{flat_map}
use Rattle.std.specs.Option.{option_and_then}
use Rattle.shared_list.specs.Blocks.{branch_items, limb_items, IsFullBranch, IsFullLimb}
use Rattle.shared_list.proofs.Pieces.{All-slice_get, slice_get-pieces_by_division}
use Rattle.shared_list.proofs.Spines.{limbs_of_16384}
use Rattle.shared_list.proofs.spine.item_of_limbs.Goals as goal

pub returns-in_err-nth : goal.returns-in_err-nth
returns-in_err-nth g c =
    let found = slice_get-pieces_by_division limb_items 16384 c.args.limbs.now (limbs_of_16384 c.args.limbs.now c.requires) c.args.at (lit< tt) in
    rw c.from_residual.ensures (ap (option_and_then (λ part. slice_get (limb_items part) (c.args.at % 16384))) c.in_err-nth.ensures ∙ sym found)

pub item_of_branches-requires : goal.item_of_branches-requires
item_of_branches-requires g c =
    let parts = c.deref-in_ok-nth.ensures.value ∙ ap (λ v. v.items) c.deref.ensures in
    subst (All IsFullBranch) (sym parts) (All-slice_get IsFullLimb c.args.limbs.now (c.args.at / 16384) c.in_ok-nth.field-0.now c.requires c.in_ok-nth.ensures).full

pub returns : goal.returns
returns g c =
    let found = slice_get-pieces_by_division limb_items 16384 c.args.limbs.now (limbs_of_16384 c.args.limbs.now c.requires) c.args.at (lit< tt) in
    let parts = c.deref-in_ok-nth.ensures.value ∙ ap (λ v. v.items) c.deref.ensures in
    c.item_of_branches.ensures ∙ ap (λ xs. slice_get (flat_map branch_items xs) (c.args.at % 16384)) parts
    ∙ ap (option_and_then (λ part. slice_get (limb_items part) (c.args.at % 16384))) c.in_ok-nth.ensures ∙ sym found
