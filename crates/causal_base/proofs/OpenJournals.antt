use Rattle.std.proofs.Common.{◌≡◌, ◌<◌, ◌≤◌, ◌*◌, ℕ, inl, inr, length, List, [], ◌∷◌, ◌++◌, reverse, sym, ap, subst, arith, Some, length-append}
use Rattle.causal_base.specs.declared.block.Block.TheVariants.{One, Two}
use Rattle.causal_base.specs.declared.entry.Entry.{Entry}
use Rattle.causal_base.specs.declared.entry.Entry.TheVariants.{Came, Gone, Pair, Ended}
use Rattle.causal_base.specs.declared.event.Event.{Event}
use Rattle.causal_base.specs.declared.event_id.EventId.{EventId}
use Rattle.causal_base.specs.Types.{TypeTable}
use Rattle.causal_base.specs.Event.{IsFit}
use Rattle.causal_base.specs.History.{count_on}
use Rattle.causal_base.specs.Past.{came, event_of, HasEvent, delivered, HasEnded, IsNext, IsLegalPast}
use Rattle.causal_base.specs.Journal.{IsSettled}
use Rattle.causal_base.specs.PlainList.{IsOpenJournal}
use Rattle.causal_base.proofs.Members.{Contains-cons}
use Rattle.causal_base.proofs.Pasts.{came_fit, delivery_of-one, delivery_of-two}
use Rattle.causal_base.proofs.LegalPasts.{AreNextPartners, partners_from_enabled, ready_from_enabled, length-delivered, length-delivered-lt, count-le-came}
use Rattle.causal_base.proofs.Journals.{delivered-gone, delivered-pair, reverse-push}

module _ (types : TypeTable) (journal : List Entry) (kept : IsOpenJournal types journal) where
  -- there is room for what came and wasn't delivered
  pub room : length journal ≤ 2 * length (came (reverse journal))
  room = let most = length-delivered types (reverse journal) kept.legal in omega (arith, most, kept.balance)

  module _ (id : EventId) (next : IsNext types (reverse journal) (One id)) where
    -- the event that is next
    pub next_event : (e : Event) × (event_of (came (reverse journal)) id ≡ Some e)
    next_event = let found = delivery_of-one (came (reverse journal)) id next.enabled.delivery next.enabled.came_in in (found.0, found.1)

    pub next_trace : id.trace < 256
    next_trace =
        let e = ready_from_enabled types (reverse journal) kept.legal id next.enabled in
        let range = (came_fit types (reverse journal) kept.legal e.0 e.1).id in
        let below = subst (λ (i : EventId). i.trace < types.traces) e.2 range.trace in
        omega (arith, below, kept.table.most_traces)

    pub next_count : count_on id.trace (delivered (reverse journal)) ≤ 10_000
    next_count = let most = count-le-came types (reverse journal) kept.legal id.trace in omega (arith, most, kept.few)

    pub next_room : length journal < 2 * length (came (reverse journal))
    next_room =
        let e = ready_from_enabled types (reverse journal) kept.legal id next.enabled in
        let fewer = length-delivered-lt types (reverse journal) kept.legal e.0 e.1 e.3 in
        omega (arith, fewer, kept.balance)

    -- the journal after the next event was delivered
    pub kept_gone : IsOpenJournal types (journal ++ Gone id ∷ [])
    kept_gone =
        let past : reverse (journal ++ Gone id ∷ []) ≡ Gone id ∷ reverse journal = reverse-push journal (Gone id) in
        record {
          table = kept.table;
          legal = subst (IsLegalPast types) (sym past) (next, kept.legal);
          open_yet = λ ended. elim (Contains-cons (Gone id) (reverse journal) (Ended 0) (subst (λ p. HasEnded p 0) past ended)) [ inl is ↦ cc | inr before ↦ kept.open_yet before ];
          balance =
              let size = length-append journal (Gone id ∷ []) in
              let gone = ap length (delivered-gone journal id next_event.0 next_event.1) in
              let same = ap (λ p. length (came p)) past in
              omega (arith, size, gone, same, kept.balance);
          few = let same = ap (λ p. length (came p)) past in omega (arith, same, kept.few);
        }

  module _ (a b : EventId) (next : IsNext types (reverse journal) (Two a b)) where
    next_partners : (x y : Event) × (x.id ≡ a) × (y.id ≡ b) × AreNextPartners types (reverse journal) x y
    next_partners = partners_from_enabled types (reverse journal) kept.legal a b next.enabled

    -- the partners that are next
    pub next_pair : (x y : Event) × (event_of (came (reverse journal)) a ≡ Some x) × (event_of (came (reverse journal)) b ≡ Some y)
    next_pair = let found = delivery_of-two (came (reverse journal)) a b next.enabled.delivery next.enabled.came_in in (found.0, found.1, found.2, found.3)

    pub pair_lower : a.trace < b.trace
    pair_lower =
        let p = next_partners in
        let first = ap (λ (i : EventId). i.trace) p.2 in
        let second = ap (λ (i : EventId). i.trace) p.3 in
        omega (arith, first, second, p.4.lower)

    pub pair_trace : b.trace < 256
    pair_trace =
        let p = next_partners in
        let range = (came_fit types (reverse journal) kept.legal p.1 p.4.second_came).id in
        let below = subst (λ (i : EventId). i.trace < types.traces) p.3 range.trace in
        omega (arith, below, kept.table.most_traces)

    pub pair_count : (trace : ℕ) → count_on trace (delivered (reverse journal)) ≤ 10_000
    pair_count trace = let most = count-le-came types (reverse journal) kept.legal trace in omega (arith, most, kept.few)

    pub pair_room : length journal < 2 * length (came (reverse journal))
    pair_room =
        let p = next_partners in
        let fewer = length-delivered-lt types (reverse journal) kept.legal p.0 p.4.first_came p.4.first_next in
        omega (arith, fewer, kept.balance)

    -- the journal after the partners were delivered
    pub kept_pair : IsOpenJournal types (journal ++ Pair a b ∷ [])
    kept_pair =
        let past : reverse (journal ++ Pair a b ∷ []) ≡ Pair a b ∷ reverse journal = reverse-push journal (Pair a b) in
        record {
          table = kept.table;
          legal = subst (IsLegalPast types) (sym past) (next, kept.legal);
          open_yet = λ ended. elim (Contains-cons (Pair a b) (reverse journal) (Ended 0) (subst (λ p. HasEnded p 0) past ended)) [ inl is ↦ cc | inr before ↦ kept.open_yet before ];
          balance =
              let size = length-append journal (Pair a b ∷ []) in
              let gone = ap length (delivered-pair journal a b next_pair.0 next_pair.1 next_pair.2 next_pair.3) in
              let same = ap (λ p. length (came p)) past in
              omega (arith, size, gone, same, kept.balance);
          few = let same = ap (λ p. length (came p)) past in omega (arith, same, kept.few);
        }

  -- the journal after a fit event with a new id came, where nothing was enabled
  pub kept_came : IsSettled types journal → (e : Event) → IsFit types e → (HasEvent (came (reverse journal)) e.id → ⊥) → length (came (reverse journal)) < 10_000 → IsOpenJournal types (journal ++ Came 0 e ∷ [])
  kept_came settled e fit new few =
      let past : reverse (journal ++ Came 0 e ∷ []) ≡ Came 0 e ∷ reverse journal = reverse-push journal (Came 0 e) in
      record {
        table = kept.table;
        legal = subst (IsLegalPast types) (sym past) (record { settled = settled; fit = fit; new = new; open_yet = kept.open_yet }, kept.legal);
        open_yet = λ ended. elim (Contains-cons (Came 0 e) (reverse journal) (Ended 0) (subst (λ p. HasEnded p 0) past ended)) [ inl is ↦ cc | inr before ↦ kept.open_yet before ];
        balance =
            let size = length-append journal (Came 0 e ∷ []) in
            let same_gone = ap (λ p. length (delivered p)) past in
            let more = ap (λ p. length (came p)) past in
            omega (arith, size, same_gone, more, kept.balance);
        few = let more = ap (λ p. length (came p)) past in omega (arith, more, few);
      }
