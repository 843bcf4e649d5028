use Rattle.std.proofs.Common.{◌≡◌, ◌-◌, ◌+◌, List, length, reverse, take, sym, ◌∙◌, ap, subst, arith}
use Rattle.std.proofs.Math.Seq.{take-length}
use Rattle.causal_base.specs.declared.entry.Entry.{Entry}
use Rattle.causal_base.specs.Past.{delivered}
use Rattle.causal_base.specs.Clocks.{HasClocks}
use Rattle.causal_base.specs.ClockWalks.{IsClockSoFar, Raises}
use Rattle.causal_base.proofs.GoingBack.{clock_start, clock_end, reach_end}
use Rattle.causal_base.proofs.clock.write_clock.Goals as goal

pub loop-left-init : goal.loop-left-init
loop-left-init c =
    let journal = c.args.journal.now in
    let same = c.entries-left.ensures in
    record {
      within = omega (arith, ap (λ (xs : List Entry). length xs) same);
      so_far = λ types e legal size there is.
          clock_start types journal legal e there (length c.entries-left.result.now)
          (ap (λ (xs : List Entry). take (length xs) journal) same ∙ take-length journal)
          c.clear.new.clock c.raise.new.clock c.clear.ensures
          (subst (λ id. Raises id c.clear.new.clock c.raise.new.clock) (sym is) c.raise.ensures);
    }

pub loop-left-preserved : goal.loop-left-preserved
loop-left-preserved c =
    let journal = c.args.journal.now in
    let left : c.loop-left.left ≡ (c.loop-left.left - 1) + 1 = omega arith in
    record {
      within = omega arith;
      so_far = λ types e legal size there is.
          c.go_back.ensures types e legal (omega (arith, size, c.loop-left.auto.into))
          (subst (λ n. IsClockSoFar types (delivered (reverse journal)) (delivered (reverse (take n journal))) e c.loop-left.into) left
          (c.loop-left.invariant.so_far types e legal size there is));
    }

pub returns-clause-clock : goal.returns-clause-clock
returns-clause-clock c types e legal size there is =
    let journal = c.args.journal.now in
    let none : c.loop-left.left ≡ 0 = omega (arith, c.loop-left-test.false) in
    subst (λ id. HasClocks types (delivered (reverse journal)) id c.loop-left.into) is
    (clock_end types journal legal e there c.loop-left.into
    (subst (λ n. IsClockSoFar types (delivered (reverse journal)) (delivered (reverse (take n journal))) e c.loop-left.into) none
    (c.loop-left.invariant.so_far types e legal size there is)))

pub returns-clause-reach : goal.returns-clause-reach
returns-clause-reach c types e legal size there is =
    let journal = c.args.journal.now in
    let none : c.loop-left.left ≡ 0 = omega (arith, c.loop-left-test.false) in
    reach_end types journal legal e there c.loop-left.into
    (subst (λ n. IsClockSoFar types (delivered (reverse journal)) (delivered (reverse (take n journal))) e c.loop-left.into) none
    (c.loop-left.invariant.so_far types e legal size there is))
