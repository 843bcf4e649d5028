use Rattle.std.proofs.Common.{◌∙◌}
use Rattle.shared_list.proofs.Spines.{spine_items-clones, IsSpine-clones}
use Rattle.shared_list.proofs.spine.Spine.share.Goals as goal

pub invariant_of-result : goal.invariant_of-result
invariant_of-result g c =
    let s = c.self.inside in
    let limbs = rw c.deref.ensures.value at c.in_ok-from_clones.ensures.items in
    let branches = rw c.deref-2.ensures.value at c.in_ok-from_clones-2.ensures.items in
    let blocks = rw c.deref-3.ensures.value at c.in_ok-from_clones-3.ensures.items in
    IsSpine-clones s.limbs.items c.in_ok-from_clones.field-0.items s.branches.items c.in_ok-from_clones-2.field-0.items s.blocks.items c.in_ok-from_clones-3.field-0.items
    limbs branches blocks c.self.invariant

pub returns : goal.returns
returns g c =
    let s = c.self.inside in
    let limbs = rw c.deref.ensures.value at c.in_ok-from_clones.ensures.items in
    let branches = rw c.deref-2.ensures.value at c.in_ok-from_clones-2.ensures.items in
    let blocks = rw c.deref-3.ensures.value at c.in_ok-from_clones-3.ensures.items in
    spine_items-clones s.limbs.items c.in_ok-from_clones.field-0.items s.branches.items c.in_ok-from_clones-2.field-0.items s.blocks.items c.in_ok-from_clones-3.field-0.items
    limbs branches blocks
    ∙ c.self.view_is
