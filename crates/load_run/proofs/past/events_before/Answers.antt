use Rattle.std.proofs.Common.{◌≡◌, ◌<◌, ◌-◌, ℕ, length, refl, sym, ◌∙◌, subst, arith}
use Rattle.std.specs.Prelude.{Some, reverse}
use Rattle.causal_base.specs.declared.event_id.EventId.{EventId}
use Rattle.causal_base.specs.Clocks.{HasClocks, HasCount}
use Rattle.causal_base.specs.Event.{IsOfKind}
use Rattle.causal_base.specs.Journal.{delivered_by}
use Rattle.causal_base.specs.Types.{kind_of}
use Rattle.causal_base.specs.Walks.{IsBefore}
use Rattle.causal_base.proofs.CallerLemmas.{came_fit, delivered_came, delivered_numbered, same_event, type_in_range}
use Rattle.event_book.specs.declared.setup.Setup.{Setup}
use Rattle.load_run.proofs.Pasts.{rest_is_past}
use Rattle.load_run.proofs.past.events_before.Goals as goal

pub unreachable-requires : goal.unreachable-requires
unreachable-requires c = c.in_default.ensures.none c.args.desk.now.journal (record { same = refl; legal = c.setup-setup.ensures.is_journal.legal }) c.requires.delivered

pub kind-requires : goal.kind-requires
kind-requires c =
    let journal = c.args.desk.now.journal in
    let types = c.args.desk.now.setup.types in
    let legal = c.setup-setup.ensures.is_journal.legal in
    let e = c.in-Some.event.now in
    let its = c.in-Some.ensures.some journal (record { same = refl; legal = legal }) in
    subst (λ (setup : Setup). e.type_no < length setup.types.rows) (sym c.setup-setup.ensures.value)
    (type_in_range types e (came_fit types (reverse journal) legal e (delivered_came types (reverse journal) legal e its.0)))

pub returns : goal.returns
returns c = λ other inside same.
    let journal = c.args.desk.now.journal in
    let events = delivered_by journal in
    let types = c.args.desk.now.setup.types in
    let legal = c.setup-setup.ensures.is_journal.legal in
    let e = c.in-Some.event.now in
    let its = c.in-Some.ensures.some journal (record { same = refl; legal = legal }) in
    let clock = c.read_clock.new.into in
    let whole : length clock ≡ types.traces = omega (arith, c.requires.traces) in
    let clocks : HasClocks types events e.id clock = subst (λ (id : EventId). HasClocks types events id clock) (sym its.1) c.read_clock.ensures in
    let laws = c.past_is_counted_by_clock.ensures in
    let is : IsOfKind types e c.kind.result = subst (λ (setup : Setup). kind_of setup.types e.type_no ≡ Some c.kind.result) c.setup-setup.ensures.value c.kind.ensures.kind in
    let is_past : ℕ → Type 0 = HasCount (λ x. IsBefore types events x e) events in
    let past = rest_is_past types e c.sum_of.result c.size_of_block.result is_past
    (λ no_sync. let alone = laws.alone types journal legal e its.0 no_sync clock whole clocks in (alone.0, c.sum_of.ensures ∙ alone.1, alone.2))
    (λ sync. let paired = laws.paired types journal legal e its.0 sync clock whole clocks in (paired.0, c.sum_of.ensures ∙ paired.1, paired.2))
    c.kind.result is c.size_of_block.ensures.pair c.size_of_block.ensures.alone in
    let one : e ≡ other = same_event events (delivered_numbered types (reverse journal) legal) e other its.0 inside (its.1 ∙ sym same) in
    subst (λ x. HasCount (λ y. IsBefore types events y x) events (c.sum_of.result - c.size_of_block.result)) one past
