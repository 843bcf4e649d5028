-- What is answered of the nearest events of a trace, by a clock and by what an event doesn't reach.
use Rattle.std.proofs.Common.{◌≡◌, ◌≤◌, ◌-◌, ◌+◌, ℕ, Bool, true, false, List, [], ◌∷◌, sym, ap, subst, arith, None, Some}
use Rattle.std.specs.Prelude.{Contains, ◌↔◌, IsTrue, Option}
use Rattle.causal_base.specs.declared.answer.Answer.TheVariants.{Known}
use Rattle.causal_base.specs.declared.entry.Entry.{Entry}
use Rattle.causal_base.specs.declared.event.Event.{Event}
use Rattle.causal_base.specs.declared.event_id.EventId.{EventId}
use Rattle.causal_base.specs.Answers.{IsAnswer}
use Rattle.causal_base.specs.Clocks.{HasClock}
use Rattle.causal_base.specs.History.{count_on}
use Rattle.causal_base.specs.Journal.{IsLegal, delivered_by}
use Rattle.causal_base.specs.Past.{HasEvent}
use Rattle.causal_base.specs.Types.{TypeTable}
use Rattle.causal_base.specs.Walks.{Reaches}
use Rattle.causal_base.proofs.CallerLemmas.{IsLimit, make_id}
use Rattle.cut_scroll.specs.Cuts.{MovesFor}
use Rattle.cut_scroll.specs.Neighbours.{NamesGreatestBefore, NamesLeastAfter}
use Rattle.cut_scroll.specs.Parts.{IsUnreached}
use Rattle.cut_scroll.proofs.DeliveredEvents.{clock_limit, event_with, number_least, number_most, one_event}
use Rattle.cut_scroll.proofs.Nearest.{AreOneThing, first_is_least, last_is_greatest, next_is_greatest, next_is_least, none_after, none_earlier, none_later}

-- the answer tells whether the events with these ids are one thing
abbrev pub TellsOneThing : TypeTable → List Event → EventId → EventId → Bool → Type 0
TellsOneThing types events a b answer =
    (x y : Event) → Contains events x → x.id ≡ a → Contains events y → y.id ≡ b → IsTrue answer ↔ AreOneThing types x y

module _ (types its : TypeTable) (same : types ≡ its) (journal : List Entry) (its_legal : IsLegal its journal) (id : EventId) (trace n : ℕ) (has_clock : HasClock its (delivered_by journal) id trace n) where
  legal : IsLegal types journal
  legal = subst (λ (t : TypeTable). IsLegal t journal) (sym same) its_legal

  has : HasClock types (delivered_by journal) id trace n
  has = subst (λ (t : TypeTable). HasClock t (delivered_by journal) id trace n) (sym same) has_clock

  limit : IsLimit (delivered_by journal) trace (λ x. Reaches types (delivered_by journal) x has.e) n
  limit = clock_limit types journal legal id has.e has.among has.id_is trace n has

  pub last_there : 1 ≤ n → HasEvent (delivered_by journal) (make_id trace n)
  last_there some = event_with types journal legal trace n some limit.most

  abbrev IsGreatest : Option EventId → Type 0
  IsGreatest said = IsAnswer (delivered_by journal) (id ∷ []) (λ it. MovesFor (delivered_by journal) id (NamesGreatestBefore types (delivered_by journal) trace it)) (Known said)

  module _ (some : 1 ≤ n) (answer : Bool) (tells : TellsOneThing types (delivered_by journal) id (make_id trace n) answer) where
    -- the last event that reaches it, where they aren't one thing
    pub greatest_is_last : answer ≡ false → IsGreatest (Some (make_id trace n))
    greatest_is_last apart =
        let last = last_there some in
        let other : AreOneThing types has.e last.0 → ⊥ = λ one. let yes = (tells has.e last.0 has.among has.id_is last.1 last.2).1 one in cc in (
          ((has.e, has.among, has.id_is), tt),
          (
            has.e,
            has.among,
            has.id_is,
            (
              last.0,
              last_is_greatest types (delivered_by journal) has.e trace n limit last.0 last.1 (ap (λ (i : EventId). i.trace) last.2) (ap (λ (i : EventId). i.number) last.2) other,
              last.2,
            ),
          ),
        )

    -- else none, where that is the first event
    pub greatest_is_none : answer ≡ true → n ≡ 1 → IsGreatest None
    greatest_is_none one_thing first =
        let last = last_there some in
        let one = (tells has.e last.0 has.among has.id_is last.1 last.2).0 one_thing in (
          ((has.e, has.among, has.id_is), tt),
          (
            has.e,
            has.among,
            has.id_is,
            none_earlier types (delivered_by journal) has.e trace n limit last.0 last.1 (ap (λ (i : EventId). i.trace) last.2) (ap (λ (i : EventId). i.number) last.2) (one_event types journal legal) (number_least types journal legal) one first,
          ),
        )

    -- and else the one before that
    pub greatest_is_next : answer ≡ true → 2 ≤ n → IsGreatest (Some (make_id trace (n - 1)))
    greatest_is_next one_thing more =
        let last = last_there some in
        let one = (tells has.e last.0 has.among has.id_is last.1 last.2).0 one_thing in
        let next = event_with types journal legal trace (n - 1) (omega (arith, more)) (let most = limit.most in omega (arith, most)) in
        let number : next.0.id.number + 1 ≡ n = let is : next.0.id.number ≡ n - 1 = ap (λ (i : EventId). i.number) next.2 in omega (arith, is, more) in (
          ((has.e, has.among, has.id_is), tt),
          (
            has.e,
            has.among,
            has.id_is,
            (
              next.0,
              next_is_greatest types (delivered_by journal) has.e trace n limit last.0 last.1 (ap (λ (i : EventId). i.trace) last.2) (ap (λ (i : EventId). i.number) last.2) (one_event types journal legal) one next.0 next.1 (ap (λ (i : EventId). i.trace) next.2) number,
              next.2,
            ),
          ),
        )

module _ (types its : TypeTable) (same : types ≡ its) (journal : List Entry) (its_legal : IsLegal its journal) (id : EventId) (has : HasEvent (delivered_by journal) id) (trace count n : ℕ) (counted : count ≡ count_on trace (delivered_by journal)) (its_unreached : IsUnreached its (delivered_by journal) has.0 trace count n) where
  legal_too : IsLegal types journal
  legal_too = subst (λ (t : TypeTable). IsLegal t journal) (sym same) its_legal

  unreached : IsUnreached types (delivered_by journal) has.0 trace count n
  unreached = subst (λ (t : TypeTable). IsUnreached t (delivered_by journal) has.0 trace count n) (sym same) its_unreached

  most : (x : Event) → Contains (delivered_by journal) x → x.id.trace ≡ trace → x.id.number ≤ count
  most x there on =
      let within = number_most types journal legal_too x there in
      let on_it = ap (λ t. count_on t (delivered_by journal)) on in
      omega (arith, within, on_it, counted)

  abbrev IsLeast : Option EventId → Type 0
  IsLeast said = IsAnswer (delivered_by journal) (id ∷ []) (λ it. MovesFor (delivered_by journal) id (NamesLeastAfter types (delivered_by journal) trace it)) (Known said)

  -- none, where it reaches none
  pub least_is_none : n ≡ count → IsLeast None
  least_is_none all = ((has, tt), (has.0, has.1, has.2, none_after types (delivered_by journal) has.0 trace count n unreached most all))

  pub first_there : n + 1 ≤ count → HasEvent (delivered_by journal) (make_id trace (n + 1))
  first_there some = event_with types journal legal_too trace (n + 1) (omega arith) (omega (arith, some, counted))

  module _ (some : n + 1 ≤ count) (answer : Bool) (tells : TellsOneThing types (delivered_by journal) id (make_id trace (n + 1)) answer) where
    -- the first event that it reaches, where they aren't one thing
    pub least_is_first : answer ≡ false → IsLeast (Some (make_id trace (n + 1)))
    least_is_first apart =
        let first = first_there some in
        let other : AreOneThing types has.0 first.0 → ⊥ = λ one. let yes = (tells has.0 first.0 has.1 has.2 first.1 first.2).1 one in cc in (
          (has, tt),
          (
            has.0,
            has.1,
            has.2,
            (
              first.0,
              first_is_least types (delivered_by journal) has.0 trace count n unreached most first.0 first.1 (ap (λ (i : EventId). i.trace) first.2) (ap (λ (i : EventId). i.number) first.2) other,
              first.2,
            ),
          ),
        )

    -- else none, where that is the last event
    pub least_is_past : answer ≡ true → n + 1 ≡ count → IsLeast None
    least_is_past one_thing all =
        let first = first_there some in
        let one = (tells has.0 first.0 has.1 has.2 first.1 first.2).0 one_thing in (
          (has, tt),
          (
            has.0,
            has.1,
            has.2,
            none_later types (delivered_by journal) has.0 trace count n unreached most first.0 first.1 (ap (λ (i : EventId). i.trace) first.2) (ap (λ (i : EventId). i.number) first.2) (one_event types journal legal_too) one all,
          ),
        )

    -- and else the one after that
    pub least_is_next : answer ≡ true → n + 1 + 1 ≤ count → IsLeast (Some (make_id trace (n + 1 + 1)))
    least_is_next one_thing more =
        let first = first_there some in
        let one = (tells has.0 first.0 has.1 has.2 first.1 first.2).0 one_thing in
        let next = event_with types journal legal_too trace (n + 1 + 1) (omega arith) (omega (arith, more, counted)) in (
          (has, tt),
          (
            has.0,
            has.1,
            has.2,
            (
              next.0,
              next_is_least types (delivered_by journal) has.0 trace count n unreached most first.0 first.1 (ap (λ (i : EventId). i.trace) first.2) (ap (λ (i : EventId). i.number) first.2) (one_event types journal legal_too) one next.0 next.1 (ap (λ (i : EventId). i.trace) next.2) (ap (λ (i : EventId). i.number) next.2),
              next.2,
            ),
          ),
        )
