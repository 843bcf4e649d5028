use Rattle.std.proofs.Common.{◌≡◌, List, [], ◌∷◌, ◌++◌, length, length-append, refl, sym, ◌∙◌, ap, subst, arith, append-nil}
use Rattle.causal_base.specs.declared.event.Event.{Event}
use Rattle.causal_base.specs.Journal.{IsLegal, IsSettled}
use Rattle.causal_base.specs.Types.{TypeTable}
use Rattle.std.specs.Vec.Iter.{into_iter_items}
use Rattle.event_book.specs.declared.feeding.Stop.{Stop}
use Rattle.event_book.specs.declared.feeding.Stop.TheVariants as stops
use Rattle.event_book.specs.declared.report.FeedReport.{FeedReport}
use Rattle.event_book.specs.Feeding.{Delivers, IsFed, TakesOne, no_report}
use Rattle.event_book.specs.Stopping.{IsStoppedAt, IsStoppedBy}
use Rattle.event_book.proofs.Settling.{delivers_none}
use Rattle.event_book.proofs.Takings.{counts_all, open_after, takes_one, takes_then}
use Rattle.event_book.proofs.Turns.{if_err_from, taken_all, taken_front}
use Rattle.event_book.proofs.feeding.take_each.Goals as goal

pub loop-event-init : goal.loop-event-init
loop-event-init c = record {
  can = tt;
  ends = tt;
  types = refl;
  clustering = refl;
  open_yet = c.requires.open;
  takes = (delivers_none c.args.deliverer.now.types c.args.deliverer.now.journal c.stamped-stamped.ensures.stamped.legal, c.requires.none);
  room = omega arith;
}

pub take-requires-clause-few : goal.take-requires-clause-few
take-requires-clause-few c =
    let rest = into_iter_items c.next.new.self in
    let gives : into_iter_items c.into_iter-event-iterator.result ≡ c.into_vec-event-items.result.items = c.into_iter-event-iterator.ensures.into_iter_gives.0 in
    let all : c.loop-event.yielded ++ c.in-Some.event ∷ rest ≡ c.args.batch =
    sym (taken_front c.into_iter-event-iterator.result c.loop-event.yielded c.loop-event.event-iterator c.loop-event.yielded_by ∙ ap (λ es. c.loop-event.yielded ++ es) c.in-Some.ensures.steps.0)
    ∙ (gives ∙ c.into_vec-event-items.ensures.events) in
    let counted = counts_all c.args.deliverer.now.types c.args.collector c.loop-event.yielded c.args.deliverer.now.journal no_report c.loop-event.deliverer.journal c.loop-event.counting.report c.loop-event.invariant.takes in
    let long = ap (λ (l : List Event). length l) all in
    let parts = length-append c.loop-event.yielded (c.in-Some.event ∷ rest) in
    let most = c.into_vec-event-items.ensures.most in
    omega (arith, counted, long, parts, most)

pub loop-event-preserved : goal.loop-event-preserved
loop-event-preserved c =
    let types = c.args.deliverer.now.types in
    let before = c.loop-event.deliverer in
    let after = c.take.new.deliverer in
    let one = subst (λ (t : TypeTable). TakesOne t c.args.collector c.in-Some.event before.journal c.loop-event.counting.report after.journal c.take.new.counting.report) c.loop-event.invariant.types c.in_ok-take.ensures.ok in
    let same = c.in_ok-take.ensures.types ∙ c.loop-event.invariant.types in
    record {
      can = tt;
      ends = tt;
      types = same;
      clustering = c.in_ok-take.ensures.clustering ∙ c.loop-event.invariant.clustering;
      open_yet = open_after types c.args.collector c.in-Some.event before.journal c.loop-event.counting.report after.journal c.take.new.counting.report one c.loop-event.invariant.open_yet;
      takes = takes_one types c.args.collector c.loop-event.yielded c.args.deliverer.now.journal no_report before.journal c.loop-event.counting.report c.loop-event.invariant.takes c.in-Some.event after.journal c.take.new.counting.report one
          (subst (λ (t : TypeTable). IsLegal t after.journal) same c.in_ok-take.ensures.legal);
      room = (let had = c.loop-event.invariant.room in let left = c.in_ok-take.ensures.room in let long = length-append c.loop-event.yielded (c.in-Some.event ∷ []) in omega (arith, had, left, long));
    }

pub returns-in_err-take-clause-err : goal.returns-in_err-take-clause-err
returns-in_err-take-clause-err c =
    let types = c.args.deliverer.now.types in
    let before = c.loop-event.deliverer in
    let after = c.take.new.deliverer.journal in
    let rest = into_iter_items c.next.new.self in
    let gives : into_iter_items c.into_iter-event-iterator.result ≡ c.into_vec-event-items.result.items = c.into_iter-event-iterator.ensures.into_iter_gives.0 in
    let all : c.loop-event.yielded ++ c.in-Some.event ∷ rest ≡ c.args.batch =
    sym (taken_front c.into_iter-event-iterator.result c.loop-event.yielded c.loop-event.event-iterator c.loop-event.yielded_by ∙ ap (λ es. c.loop-event.yielded ++ es) c.in-Some.ensures.steps.0)
    ∙ (gives ∙ c.into_vec-event-items.ensures.events) in
    let report = c.loop-event.counting.report in
    let taken = c.loop-event.invariant.takes in
    let counted = counts_all types c.args.collector c.loop-event.yielded c.args.deliverer.now.journal no_report before.journal report taken in
    let Caused : Stop → Type 0 = λ stop. IsStoppedBy types c.args.collector c.args.batch c.args.deliverer.now.journal after c.take.new.counting.report stop in
    let why : IsStoppedAt types c.in-Some.event before.journal after c.in_err-take.field-0.0 = subst (λ (t : TypeTable). IsStoppedAt t c.in-Some.event before.journal after c.in_err-take.field-0.0) c.loop-event.invariant.types c.in_err-take.ensures.err in
    let caused : (stop : Stop) → IsStoppedAt types c.in-Some.event before.journal after stop → IsStoppedBy types c.args.collector c.args.batch c.args.deliverer.now.journal after report stop =
    λ stop. elim stop as (λ st. IsStoppedAt types c.in-Some.event before.journal after st → IsStoppedBy types c.args.collector c.args.batch c.args.deliverer.now.journal after report st) [
      | stops.Full id ↦ λ h. record {
        taken = c.loop-event.yielded;
        event = c.in-Some.event;
        rest = rest;
        whole = sym all;
        id_is = h.0;
        limit = h.1;
        fed = record {
          takes = takes_then types c.args.collector c.loop-event.yielded c.args.deliverer.now.journal no_report before.journal report taken after (record { more = h.2.more; goes_on = h.2.goes_on; delivers = h.2.delivers; legal = h.2.legal });
          settled = h.2.settled;
        };
      }
      | stops.Oom ↦ λ h. record {
        taken = c.loop-event.yielded;
        rest = c.in-Some.event ∷ rest;
        whole = sym all;
        as_many = omega (arith, counted);
        takes = takes_then types c.args.collector c.loop-event.yielded c.args.deliverer.now.journal no_report before.journal report taken after h;
      }
    ] in
    if_err_from Caused c.from_residual.result c.in_err-take.field-0.0 c.from_residual.ensures.1
    (subst (λ (r : FeedReport). IsStoppedBy types c.args.collector c.args.batch c.args.deliverer.now.journal after r c.in_err-take.field-0.0) (sym c.in_err-take.ensures.unchanged) (caused c.in_err-take.field-0.0 why))

pub returns-in-Ok-clause-ok : goal.returns-in-Ok-clause-ok
returns-in-Ok-clause-ok c =
    let types = c.args.deliverer.now.types in
    let before = c.loop-event.deliverer in
    let gives : into_iter_items c.into_iter-event-iterator.result ≡ c.into_vec-event-items.result.items = c.into_iter-event-iterator.ensures.into_iter_gives.0 in
    let all : c.loop-event.yielded ≡ c.args.batch =
    sym (taken_all c.into_iter-event-iterator.result c.loop-event.yielded c.loop-event.event-iterator c.loop-event.yielded_by c.in-None.ensures.steps.0)
    ∙ (gives ∙ c.into_vec-event-items.ensures.events) in
    let on = subst (λ (t : TypeTable). Delivers t before.journal c.settle.new.self.journal) c.loop-event.invariant.types c.settle.ensures.delivers in
    subst (λ (es : List Event). IsFed types c.args.collector es c.args.deliverer.now.journal c.settle.new.self.journal c.loop-event.counting.report) all (record {
      takes = takes_then types c.args.collector c.loop-event.yielded c.args.deliverer.now.journal no_report before.journal c.loop-event.counting.report c.loop-event.invariant.takes c.settle.new.self.journal on;
      settled = subst (λ (t : TypeTable). IsSettled t c.settle.new.self.journal) c.loop-event.invariant.types c.in-Ok.ensures.settled;
    })

pub returns-in-Err-clause-err : goal.returns-in-Err-clause-err
returns-in-Err-clause-err c =
    let types = c.args.deliverer.now.types in
    let before = c.loop-event.deliverer in
    let gives : into_iter_items c.into_iter-event-iterator.result ≡ c.into_vec-event-items.result.items = c.into_iter-event-iterator.ensures.into_iter_gives.0 in
    let all : c.loop-event.yielded ≡ c.args.batch =
    sym (taken_all c.into_iter-event-iterator.result c.loop-event.yielded c.loop-event.event-iterator c.loop-event.yielded_by c.in-None.ensures.steps.0)
    ∙ (gives ∙ c.into_vec-event-items.ensures.events) in
    let on = subst (λ (t : TypeTable). Delivers t before.journal c.settle.new.self.journal) c.loop-event.invariant.types c.settle.ensures.delivers in
    let counted = counts_all types c.args.collector c.loop-event.yielded c.args.deliverer.now.journal no_report before.journal c.loop-event.counting.report c.loop-event.invariant.takes in
    record {
      taken = c.loop-event.yielded;
      rest = [];
      whole = sym all ∙ sym (append-nil c.loop-event.yielded);
      as_many = omega (arith, counted);
      takes = takes_then types c.args.collector c.loop-event.yielded c.args.deliverer.now.journal no_report before.journal c.loop-event.counting.report c.loop-event.invariant.takes c.settle.new.self.journal on;
    }
