use Rattle.std.proofs.Common.{◌≡◌, ◌≤◌, List, ◌∙◌, sym, ap, subst, arith, length, map}
use Rattle.std.specs.Prelude.{All, slice_index}
use Rattle.causal_base.specs.declared.limits.TheConstants.{MOST_TRACES}
use Rattle.projected_stamp.specs.declared.above.Kept.{Kept}
use Rattle.projected_stamp.specs.Above.{stamps_of, IsKept}
use Rattle.projected_stamp.specs.Runs.{spares_within}
use Rattle.projected_stamp.specs.StampLists.{StampLists, parts_of}
use Rattle.projected_stamp.proofs.Moves.{all_moved, same_lists}
use Rattle.projected_stamp.proofs.Rooms.{spares-rise}
use Rattle.projected_stamp.proofs.stamps.Stamps.reserve.Goals as goal

pub returns-in_err-reserve-clause-kept : goal.returns-in_err-reserve-clause-kept
returns-in_err-reserve-clause-kept c k =
    subst (λ (v : StampLists). slice_index v.spare k ≤ slice_index (spares_within c.self.inside.numbers.room c.reserve.new.self.spare) k) c.self.view_is
    (spares-rise c.self.inside.numbers.room c.self.inside.numbers.room c.self.inside.kept.spare c.reserve.new.self.spare (omega arith) c.reserve.ensures.kept k)

pub invariant_of-self-2 : goal.invariant_of-self-2
invariant_of-self-2 c =
    let blocks = c.self.inside.numbers.blocks in
    let later = c.reserve-2.new.self.blocks in
    let lists = c.self.inside.kept.lists in
    let is = sym c.reserve.ensures.lists in
    let stay = c.reserve-2.ensures.stay in (
      subst (All (IsKept later)) is (all_moved blocks later stay lists c.self.invariant.0),
      subst (λ (l : List (List Kept)). length l ≤ MOST_TRACES) is c.self.invariant.1,
      subst (λ (l : List (List Kept)). c.self.inside.parts ≡ parts_of (map (stamps_of later) l)) is
          (c.self.invariant.2 ∙ ap parts_of (sym (same_lists blocks later stay lists c.self.invariant.0))),
    )

pub returns-clause-lists : goal.returns-clause-lists
returns-clause-lists c =
    ap (map (stamps_of c.reserve-2.new.self.blocks)) c.reserve.ensures.lists
    ∙ (same_lists c.self.inside.numbers.blocks c.reserve-2.new.self.blocks c.reserve-2.ensures.stay c.self.inside.kept.lists c.self.invariant.0
    ∙ ap (λ (v : StampLists). v.lists) c.self.view_is)

pub returns-clause-kept : goal.returns-clause-kept
returns-clause-kept c k =
    subst (λ (v : StampLists). slice_index v.spare k ≤ slice_index (spares_within c.reserve-2.new.self.room c.reserve.new.self.spare) k) c.self.view_is
    (spares-rise c.self.inside.numbers.room c.reserve-2.new.self.room c.self.inside.kept.spare c.reserve.new.self.spare c.reserve-2.ensures.kept c.reserve.ensures.kept k)
