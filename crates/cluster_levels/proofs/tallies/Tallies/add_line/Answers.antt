use Rattle.std.proofs.Common.{◌+◌, ◌<◌, inl, inr, sym, subst, arith}
use Rattle.cluster_levels.specs.Tallies.{TallyTable}
use Rattle.cluster_levels.proofs.TallyLines.{IsAddedUpTo, added_more, added_skip}
use Rattle.cluster_levels.proofs.tallies.Tallies.add_line.Goals as goal
use Rattle.cluster_levels.proofs.tallies.Tallies.add_line.Goals.{then-other-to+then-other-from, else-other-to, else-other-to-via-then-other-to+else-other-from, else-other-to-via-else-other-to}

pub loop-other-preserved : goal.loop-other-preserved
loop-other-preserved c =
    let old = c.args.self.now in
    let added = c.loop-other.invariant in
    elim c.if-other-to.branch [
      | then-other-to+then-other-from w ↦ subst (λ (new : TallyTable). IsAddedUpTo old new c.args.to c.args.from (c.loop-other.other + 1)) (sym w.self-is)
          (let says = w.add_pair.ensures in
          let within : c.loop-other.other < c.args.self.now.width = omega (arith, c.loop-other-test.true, c.width-other-end.ensures.number) in
          added_more old c.loop-other.self w.add_pair.new.self c.args.to c.args.from c.loop-other.other c.requires.to c.requires.from within c.requires.apart w.if-other-to.true
          says.width says.row says.column says.others added)
      | else-other-to w ↦ subst (λ (new : TallyTable). IsAddedUpTo old new c.args.to c.args.from (c.loop-other.other + 1)) (sym w.self-is)
          (elim w.else-other-to.branch [
            | else-other-to-via-then-other-to+else-other-from w' ↦ added_skip old c.loop-other.self c.args.to c.args.from c.loop-other.other (inr w'.if-other-from.false) added
            | else-other-to-via-else-other-to w' ↦ added_skip old c.loop-other.self c.args.to c.args.from c.loop-other.other (inl w'.if-other-to.false) added
          ])
    ]
