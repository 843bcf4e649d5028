use Rattle.std.proofs.Common.{◌≡◌, ◌+◌, ◌*◌, List, ◌∙◌, subst, length, arith}
use Rattle.shared_list.proofs.Spines.{length-spine_items}
use Rattle.shared_list.proofs.spine.Spine.len.Goals as goal

pub returns-clause-exact : goal.returns-clause-exact
returns-clause-exact g c =
    let s = c.self.inside in
    let limbs : c.len.result ≡ length s.limbs.items = c.len.ensures ∙ s.limbs.ok.0 in
    let branches : c.len-2.result ≡ length s.branches.items = c.len-2.ensures ∙ s.branches.ok.0 in
    let blocks : c.len-3.result ≡ length s.blocks.items = c.len-3.ensures ∙ s.blocks.ok.0 in
    subst (λ (xs : List g.row.T.Denot). c.len.result * 16384 + c.len-2.result * 512 + c.len-3.result * 64 ≡ length xs) c.self.view_is
    (omega (arith, length-spine_items s.limbs.items s.branches.items s.blocks.items c.self.invariant))
