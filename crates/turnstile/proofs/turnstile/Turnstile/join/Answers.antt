use Rattle.std.proofs.Common.{rules, ◌<◌, sym, ap, ◌∙◌, subst}
use Rattle.turnstile.specs.Entries.{GoesOnWithout}
use Rattle.turnstile.proofs.Keeping.{settles_joined}
use Rattle.turnstile.proofs.Seating.{joins, joined_told}
use Rattle.turnstile.proofs.turnstile.Turnstile.join.Goals as goal

pub join_seat-requires : goal.join_seat-requires
join_seat-requires g c = (
  search rules,
  search rules,
  search rules,
  search rules,
  joins g.V.StandsFor.journal_of g.V.StandsFor.fixed_of _ _ _ _ _ c.args.keep.resting c.args.keep.live c.args.other.resting c.args.other.live,
)

pub load-requires : goal.load-requires
load-requires g c = let keep = c.args.keep in (
  search rules,
  search rules,
  settles_joined g.V.StandsFor.journal_of g.V.StandsFor.fixed_of _ _ _ c.join_seat.new.seat.me keep.token.me.0 c.args.other.token.me.0 keep.token.me.1
      c.join_seat.ensures.2 keep.live,
)

pub invariant_of-result : goal.invariant_of-result
invariant_of-result g c = let keep = c.args.keep in
    let told = joined_told keep.token.me.0 c.args.other.token.me.0 keep.token.me.1 _ _ c.join_seat.ensures.2 c.load.ensures.2 in record {
      resting = ap (λ m. m.0.stage) told.0;
      empty = ap (λ m. m.1) told.0 ∙ keep.empty;
      live = subst (λ m. m.0.view.lo < m.0.view.hi) (sym told.0) keep.live;
    }

pub returns-clause-view : goal.returns-clause-view
returns-clause-view g c = let keep = c.args.keep in
    let told = joined_told keep.token.me.0 c.args.other.token.me.0 keep.token.me.1 _ _ c.join_seat.ensures.2 c.load.ensures.2 in ap (λ m. m.0.view) told.0

pub returns-clause-keep : goal.returns-clause-keep
returns-clause-keep g c = let keep = c.args.keep in let view = keep.token.me.0.view in
    let told = joined_told keep.token.me.0 c.args.other.token.me.0 keep.token.me.1 _ _ c.join_seat.ensures.2 c.load.ensures.2 in
    subst (λ m. GoesOnWithout view.lo view.seen m.0.view.seen) (sym told.0) told.1

pub returns-clause-other : goal.returns-clause-other
returns-clause-other g c = let keep = c.args.keep in let view = c.args.other.token.me.0.view in
    let told = joined_told keep.token.me.0 c.args.other.token.me.0 keep.token.me.1 _ _ c.join_seat.ensures.2 c.load.ensures.2 in
    subst (λ m. GoesOnWithout view.lo view.seen m.0.view.seen) (sym told.0) told.2
