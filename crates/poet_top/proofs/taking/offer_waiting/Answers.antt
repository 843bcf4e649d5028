use Rattle.std.proofs.Common.{◌≡◌, ◌<◌, ◌⊎◌, ◌++◌, List, ℕ, inl, inr, refl, sym, ◌∙◌, ap, subst}
use Rattle.std.specs.List.{AllByRecursion}
use Rattle.causal_base.specs.declared.event.Event.{Event}
use Rattle.causal_base.specs.Event.{IsFit}
use Rattle.causal_base.specs.Types.{TypeTable}
use Rattle.raw_reader.specs.ReaderState.{ReaderState, HasRead, HasReadToEnd}
use Rattle.poet_top.specs.declared.fault.Fault.{Fault}
use Rattle.poet_top.specs.declared.fault.Fault.TheVariants.{Memory, Full}
use Rattle.causal_base.specs.declared.limits.TheConstants.{MOST_PLAIN_EVENTS}
use Rattle.poet_top.specs.Ask.{count_of_ids, HasManyIds}
use Rattle.poet_top.specs.Taking.{HasTaken, HasTakenFrom}
use Rattle.poet_top.proofs.Exits.{if_err_from}
use Rattle.poet_top.proofs.Waiting.{waiting_none, waiting_more, waiting_from, waiting_stands, many_on, many_at_end}
use Rattle.poet_top.proofs.taking.offer_waiting.Goals as goal

pub loop-batch-init : goal.loop-batch-init
loop-batch-init c = record { types = refl; now = waiting_none c.args.reader.now c.args.plain.now.types c.args.plain.now.journal }

pub offer_all-requires : goal.offer_all-requires
offer_all-requires c =
    let now = c.loop-batch.invariant.now in
    let stands = waiting_stands c.args.reader.now c.loop-batch.reader c.args.plain.now.types c.args.plain.now.journal c.loop-batch.plain.journal now c.requires.fed.0 c.requires.fed.1 in
    let types : c.loop-batch.reader.types ≡ c.loop-batch.plain.types = ap (λ (r : ReaderState). r.types) now.same ∙ (c.requires.types ∙ sym c.loop-batch.invariant.types) in
    subst (λ (t : TypeTable). AllByRecursion (IsFit t) c.in-Some.batch) types (c.in-Some.ensures.fit c.requires.fed.0 stands.0 stands.1)

pub loop-batch-preserved : goal.loop-batch-preserved
loop-batch-preserved c =
    let same = c.loop-batch.invariant.types in
    record {
      types = c.in_ok-offer_all.ensures.types ∙ same;
      now = waiting_more c.args.reader.now c.loop-batch.reader c.args.plain.now.types c.args.plain.now.journal c.loop-batch.plain.journal c.loop-batch.invariant.now
          c.in-Some.batch c.take_batch.new.self c.offer_all.new.plain.journal c.in-Some.ensures.some c.in-Some.ensures.rest c.in-Some.ensures.stands c.in-Some.ensures.at_end
          (λ events has. subst (λ (t : TypeTable). HasTaken t (events ++ c.in-Some.batch) c.offer_all.new.plain.journal) same
          (c.in_ok-offer_all.ensures.taken events (subst (λ (t : TypeTable). HasTaken t events c.loop-batch.plain.journal) (sym same) has)));
    }

pub returns-in_err-offer_all-clause-err : goal.returns-in_err-offer_all-clause-err
returns-in_err-offer_all-clause-err c =
    let first = c.args.reader.now in
    let list = c.args.plain.now in
    let fault = c.in_err-offer_all.field-0.0 in
    let Caused : Fault → Type 0 = λ f. (f ≡ Memory) ⊎ ((f ≡ Full)
    × ((fed more : List ℕ) → HasTakenFrom HasRead first fed list.journal → HasManyIds list.types (fed ++ more))
    × ((fed : List ℕ) → HasTakenFrom HasReadToEnd first fed list.journal → HasManyIds list.types fed)) in
    let caused : Caused fault = elim c.in_err-offer_all.ensures.err [
      | inl memory ↦ inl memory
      | inr full ↦
          let meets : (events others : List Event) → HasTaken list.types events c.loop-batch.plain.journal → MOST_PLAIN_EVENTS < count_of_ids (events ++ (c.in-Some.batch ++ others)) =
          λ events others has. full.1 events others (subst (λ (t : TypeTable). HasTaken t events c.loop-batch.plain.journal) (sym c.loop-batch.invariant.types) has) in
          inr (
            full.0,
            many_on first c.loop-batch.reader list.types list.journal c.loop-batch.plain.journal c.loop-batch.invariant.now c.requires.types c.in-Some.batch c.take_batch.new.self.waiting c.in-Some.ensures.some meets,
            many_at_end first c.loop-batch.reader list.types list.journal c.loop-batch.plain.journal c.loop-batch.invariant.now c.requires.types c.in-Some.batch c.take_batch.new.self.waiting c.in-Some.ensures.some meets,
          )
    ] in
    if_err_from Caused c.from_residual.result fault c.from_residual.ensures.1 caused

pub returns-clause-none_waits : goal.returns-clause-none_waits
returns-clause-none_waits c =
    let first = c.args.reader.now in
    c.in_default.ensures.same ∙ (c.loop-batch.invariant.now.same ∙ ap (λ w. record first { waiting = w }) c.in_default.ensures.none)

pub returns-clause-going_on : goal.returns-clause-going_on
returns-clause-going_on c fed has =
    let list = c.args.plain.now in
    subst (λ (r : ReaderState). HasTakenFrom HasRead r fed c.loop-batch.plain.journal) (sym c.in_default.ensures.same)
    (waiting_from c.args.reader.now c.loop-batch.reader list.types list.journal c.loop-batch.plain.journal c.loop-batch.invariant.now HasRead c.requires.types c.loop-batch.invariant.now.going_on fed has)

pub returns-clause-at_end : goal.returns-clause-at_end
returns-clause-at_end c fed has =
    let list = c.args.plain.now in
    subst (λ (r : ReaderState). HasTakenFrom HasReadToEnd r fed c.loop-batch.plain.journal) (sym c.in_default.ensures.same)
    (waiting_from c.args.reader.now c.loop-batch.reader list.types list.journal c.loop-batch.plain.journal c.loop-batch.invariant.now HasReadToEnd c.requires.types c.loop-batch.invariant.now.at_end fed has)
