use Rattle.std.proofs.Common.{◌≡◌, ◌-◌, ◌*◌, length, ◌∙◌, ap, arith}
use Rattle.std.specs.Prelude.{slice_get}
use Rattle.std.specs.List.{flat_map}
use Rattle.shared_list.specs.Blocks.{block_items, branch_items, limb_items}
use Rattle.shared_list.proofs.Spines.{slice_get-limbs, slice_get-branches, slice_get-blocks}
use Rattle.shared_list.proofs.spine.Spine.get.Goals as goal

pub returns-then-at-in_limbs : goal.returns-then-at-in_limbs
returns-then-at-in_limbs g c =
    let s = c.self.inside in
    let limbs : c.len-in_limbs.result ≡ length s.limbs.items = c.len-in_limbs.ensures ∙ s.limbs.ok.0 in
    c.item_of_limbs.ensures ∙ ap (λ xs. slice_get (flat_map limb_items xs) c.args.at) c.deref.ensures.value
    ∙ slice_get-limbs s.limbs.items s.branches.items s.blocks.items c.self.invariant c.args.at (omega arith) ∙ ap (λ xs. slice_get xs c.args.at) c.self.view_is

pub returns-then-past_limbs-in_branches : goal.returns-then-past_limbs-in_branches
returns-then-past_limbs-in_branches g c =
    let s = c.self.inside in
    let k = c.args.at - c.len-in_limbs.result * 16384 in
    let limbs : c.len-in_limbs.result ≡ length s.limbs.items = c.len-in_limbs.ensures ∙ s.limbs.ok.0 in
    let branches : c.len-in_branches.result ≡ length s.branches.items = c.len-in_branches.ensures ∙ s.branches.ok.0 in
    c.item_of_branches.ensures ∙ ap (λ xs. slice_get (flat_map branch_items xs) k) c.deref-then-past_limbs-in_branches.ensures.value
    ∙ slice_get-branches s.limbs.items s.branches.items s.blocks.items c.self.invariant c.args.at k (omega arith) (omega arith) ∙ ap (λ xs. slice_get xs c.args.at) c.self.view_is

pub returns-else-past_limbs-in_branches : goal.returns-else-past_limbs-in_branches
returns-else-past_limbs-in_branches g c =
    let s = c.self.inside in
    let k = c.args.at - c.len-in_limbs.result * 16384 - c.len-in_branches.result * 512 in
    let limbs : c.len-in_limbs.result ≡ length s.limbs.items = c.len-in_limbs.ensures ∙ s.limbs.ok.0 in
    let branches : c.len-in_branches.result ≡ length s.branches.items = c.len-in_branches.ensures ∙ s.branches.ok.0 in
    c.item_of_blocks.ensures ∙ ap (λ xs. slice_get (flat_map block_items xs) k) c.deref-else-past_limbs-in_branches.ensures.value
    ∙ slice_get-blocks s.limbs.items s.branches.items s.blocks.items c.self.invariant c.args.at k (omega arith) ∙ ap (λ xs. slice_get xs c.args.at) c.self.view_is
