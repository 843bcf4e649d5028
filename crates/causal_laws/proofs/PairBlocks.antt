use Rattle.std.proofs.Common.{◌≡◌, ◌<◌, ◌⊎◌, inl, inr, List, [], ◌∷◌, ◌++◌, sym, ◌∙◌, ap, subst, Some}
use Rattle.std.specs.Prelude.{Contains, reverse, option_to_list}
use Rattle.std.proofs.lemmas.List.{reverse-reverse}
use Rattle.std.proofs.lemmas.List.Sorted.{IsPermutation-reverse, Contains-permutation}
use Rattle.causal_base.specs.declared.block.Block.{Block}
use Rattle.causal_base.specs.declared.block.Block.TheVariants.{One, Two}
use Rattle.causal_base.specs.declared.entry.Entry.{Entry}
use Rattle.causal_base.specs.declared.entry.Entry.TheVariants.{Came, Gone, Pair, Ended}
use Rattle.causal_base.specs.declared.event.Event.{Event}
use Rattle.causal_base.specs.declared.event_id.EventId.{EventId}
use Rattle.causal_base.specs.declared.kind.Kind.TheVariants.{Sync}
use Rattle.causal_base.specs.Types.{TypeTable}
use Rattle.causal_base.specs.Event.{IsOfKind, Pairs}
use Rattle.causal_base.specs.History.{EventBlock, alone, together, events_of, all_events, MayFollow}
use Rattle.causal_base.specs.Past.{came, delivery_of, deliveries, delivered, IsEnabled, IsLegalPast}
use Rattle.causal_base.proofs.CallerLemmas.{event_of-member, Contains-cons, Contains-here, Contains-there, Contains-nil, Contains-one, Contains-there_events, Contains-newest, Contains-split, ready_no_sync, pairs_swapped, delivery_of-one, delivery_of-two, deliveries-next}

-- a journal has the same entries oldest first and newest first
pub Contains-reversed : (journal : List Entry) (entry : Entry) → Contains journal entry → Contains (reverse journal) entry
Contains-reversed journal entry inside = Contains-permutation journal (reverse journal) entry (IsPermutation-reverse journal) inside

pub Contains-unreversed : (journal : List Entry) (entry : Entry) → Contains (reverse journal) entry → Contains journal entry
Contains-unreversed journal entry inside =
    subst (λ entries. Contains entries entry) (reverse-reverse journal) (Contains-reversed (reverse journal) entry inside)

-- two partners among the events, with these ids, the lower trace first
pub record PairAmong (types : TypeTable) (events : List Event) (a b : EventId) : Type 0 where
  pub first : Event
  pub second : Event
  pub first_is : first.id ≡ a
  pub second_is : second.id ≡ b
  pub first_among : Contains events first
  pub second_among : Contains events second
  pub pairs : Pairs types first second
  pub lower : a.trace < b.trace

-- what a block delivered is among the events delivered then
among_newest : (past : List Entry) (block : Block) (d : EventBlock) → delivery_of (came past) block ≡ Some d → (x : Event) → Contains (events_of d) x → Contains (all_events (option_to_list (delivery_of (came past) block) ++ deliveries past)) x
among_newest past block d is x inside =
    subst (λ ds. Contains (all_events ds) x) (sym (deliveries-next (came past) block d (deliveries past) is)) (Contains-newest d (deliveries past) x inside)

-- and so is what was delivered before
among_older : (past : List Entry) (block : Block) (d : EventBlock) → delivery_of (came past) block ≡ Some d → (x : Event) → Contains (delivered past) x → Contains (all_events (option_to_list (delivery_of (came past) block) ++ deliveries past)) x
among_older past block d is x inside =
    subst (λ ds. Contains (all_events ds) x) (sym (deliveries-next (came past) block d (deliveries past) is)) (Contains-there_events d (delivered past) x inside)

-- what is delivered then is of that block, or was delivered before
among_either : (past : List Entry) (block : Block) (d : EventBlock) → delivery_of (came past) block ≡ Some d → (x : Event) → Contains (all_events (option_to_list (delivery_of (came past) block) ++ deliveries past)) x → Contains (events_of d) x ⊎ Contains (delivered past) x
among_either past block d is x inside =
    Contains-split d (deliveries past) x (subst (λ ds. Contains (all_events ds) x) (deliveries-next (came past) block d (deliveries past) is) inside)

module _ (types : TypeTable) where
  pair_grows : (few more : List Event) → ((x : Event) → Contains few x → Contains more x) → (a b : EventId) → PairAmong types few a b → PairAmong types more a b
  pair_grows few more grows a b pair = record {
    first = pair.first;
    second = pair.second;
    first_is = pair.first_is;
    second_is = pair.second_is;
    first_among = grows pair.first pair.first_among;
    second_among = grows pair.second pair.second_among;
    pairs = pair.pairs;
    lower = pair.lower;
  }

  -- an enabled block of two ids delivers partners
  pair_enabled : (past : List Entry) (a b : EventId) → IsEnabled types past (Two a b) → PairAmong types (delivered (Pair a b ∷ past)) a b
  pair_enabled past a b enabled =
      let found = delivery_of-two (came past) a b enabled.delivery enabled.came_in in
      let x = found.0 in
      let y = found.1 in
      let first = event_of-member (came past) a x found.2 in
      let second = event_of-member (came past) b y found.3 in
      let follows = subst (MayFollow types (deliveries past)) found.4 enabled.may_follow in
      let is = enabled.came_in ∙ ap Some found.4 in
      let lower = subst (λ (i : EventId). i.trace < b.trace) first.1 (subst (λ (i : EventId). x.id.trace < i.trace) second.1 follows.3) in
      record {
        first = x;
        second = y;
        first_is = first.1;
        second_is = second.1;
        first_among = among_newest past (Two a b) (together x y) is x (Contains-there y (x ∷ []) x (Contains-here x []));
        second_among = among_newest past (Two a b) (together x y) is y (Contains-here y (x ∷ []));
        pairs = follows.2;
        lower = lower;
      }

  -- a pair entry of a legal past is of partners
  pub pair_entry : (past : List Entry) → IsLegalPast types past → (a b : EventId) → Contains past (Pair a b) → PairAmong types (delivered past) a b
  pair_entry [] legal a b inside = absurd (Contains-nil (Pair a b) inside)
  pair_entry (Came collector e ∷ past) legal a b inside = elim (Contains-cons (Came collector e) past (Pair a b) inside)
      [ inl is ↦ cc | inr older ↦ pair_entry past legal.1 a b older ]
  pair_entry (Ended collector ∷ past) legal a b inside = elim (Contains-cons (Ended collector) past (Pair a b) inside)
      [ inl is ↦ cc | inr older ↦ pair_entry past legal.1 a b older ]
  pair_entry (Gone id ∷ past) legal a b inside = elim (Contains-cons (Gone id) past (Pair a b) inside) [
    | inl is ↦ cc
    | inr older ↦ pair_grows (delivered past) (delivered (Gone id ∷ past)) (among_older past (One id) legal.0.enabled.delivery legal.0.enabled.came_in) a b (pair_entry past legal.1 a b older)
  ]
  pair_entry (Pair c d ∷ past) legal a b inside = elim (Contains-cons (Pair c d) past (Pair a b) inside) [
    | inl is ↦
        let firsts : c ≡ a = cc in
        let seconds : d ≡ b = cc in
        subst (λ i. PairAmong types (delivered (Pair c d ∷ past)) i b) firsts
        (subst (λ i. PairAmong types (delivered (Pair c d ∷ past)) c i) seconds (pair_enabled past c d legal.0.enabled))
    | inr older ↦ pair_grows (delivered past) (delivered (Pair c d ∷ past)) (among_older past (Two c d) legal.0.enabled.delivery legal.0.enabled.came_in) a b (pair_entry past legal.1 a b older)
  ]

  -- an event and a partner of it among the events, and their entry
  abbrev pub StandsInPair : List Entry → List Event → Event → Type 0
  StandsInPair past events e =
      (p : Event) × Contains events p × Pairs types e p
      × (((e.id.trace < p.id.trace) × Contains past (Pair e.id p.id)) ⊎ ((p.id.trace < e.id.trace) × Contains past (Pair p.id e.id)))

  stands_grows : (entry : Entry) (past : List Entry) (few more : List Event) → ((x : Event) → Contains few x → Contains more x) → (e : Event) → StandsInPair past few e → StandsInPair (entry ∷ past) more e
  stands_grows entry past few more grows e its = (
    its.0,
    grows its.0 its.1,
    its.2,
    elim its.3 [
      | inl lower ↦ inl (lower.0, Contains-there entry past (Pair e.id its.0.id) lower.1)
      | inr upper ↦ inr (upper.0, Contains-there entry past (Pair its.0.id e.id) upper.1)
    ],
  )

  stands_newest : (past : List Entry) (a b : EventId) (pair : PairAmong types (delivered (Pair a b ∷ past)) a b) (e : Event) → (pair.second ≡ e) ⊎ (pair.first ≡ e) → StandsInPair (Pair a b ∷ past) (delivered (Pair a b ∷ past)) e
  stands_newest past a b pair e which = elim which [
    | inl is ↦ subst (StandsInPair (Pair a b ∷ past) (delivered (Pair a b ∷ past))) is
        (pair.first, pair.first_among, pairs_swapped types pair.first pair.second pair.pairs, inr (lower, entry))
    | inr is ↦ subst (StandsInPair (Pair a b ∷ past) (delivered (Pair a b ∷ past))) is
        (pair.second, pair.second_among, pair.pairs, inl (lower, entry))
  ]
    where
      lower : pair.first.id.trace < pair.second.id.trace
      lower =
          subst (λ (i : EventId). i.trace < pair.second.id.trace) (sym pair.first_is)
          (subst (λ (i : EventId). a.trace < i.trace) (sym pair.second_is) pair.lower)

      entry : Contains (Pair a b ∷ past) (Pair pair.first.id pair.second.id)
      entry =
          subst (λ i. Contains (Pair a b ∷ past) (Pair i pair.second.id)) (sym pair.first_is)
          (subst (λ i. Contains (Pair a b ∷ past) (Pair a i)) (sym pair.second_is) (Contains-here (Pair a b) past))

  -- an event delivered alone is no sync event
  alone_no_sync : (past : List Entry) (id : EventId) → IsEnabled types past (One id) → (e : Event) × (e.id ≡ id) × (enabled_is : delivery_of (came past) (One id) ≡ Some (alone e)) × (IsOfKind types e Sync → ⊥)
  alone_no_sync past id enabled =
      let found = delivery_of-one (came past) id enabled.delivery enabled.came_in in
      let member = event_of-member (came past) id found.0 found.1 in
      let follows = subst (MayFollow types (deliveries past)) found.2 enabled.may_follow in
      (found.0, member.1, enabled.came_in ∙ ap Some found.2, ready_no_sync types (delivered past) found.0 follows.1)

  -- a delivered sync event stands in a pair
  pub sync_in_pair : (past : List Entry) → IsLegalPast types past → (e : Event) → Contains (delivered past) e → IsOfKind types e Sync → StandsInPair past (delivered past) e
  unfolding pair_enabled
  sync_in_pair [] legal e inside sync = absurd (Contains-nil e inside)
  sync_in_pair (Came collector x ∷ past) legal e inside sync =
      stands_grows (Came collector x) past (delivered past) (delivered past) (λ y its. its) e (sync_in_pair past legal.1 e inside sync)
  sync_in_pair (Ended collector ∷ past) legal e inside sync =
      stands_grows (Ended collector) past (delivered past) (delivered past) (λ y its. its) e (sync_in_pair past legal.1 e inside sync)
  sync_in_pair (Gone id ∷ past) legal e inside sync =
      let gone = alone_no_sync past id legal.0.enabled in
      elim (among_either past (One id) (alone gone.0) gone.2 e inside) [
        | inl newest ↦ absurd (gone.3 (subst (λ (v : Event). IsOfKind types v Sync) (sym (Contains-one gone.0 e newest)) sync))
        | inr older ↦ stands_grows (Gone id) past (delivered past) (delivered (Gone id ∷ past)) (among_older past (One id) (alone gone.0) gone.2) e (sync_in_pair past legal.1 e older sync)
      ]
  sync_in_pair (Pair a b ∷ past) legal e inside sync =
      let enabled = legal.0.enabled in
      let found = delivery_of-two (came past) a b enabled.delivery enabled.came_in in
      let is = enabled.came_in ∙ ap Some found.4 in
      elim (among_either past (Two a b) (together found.0 found.1) is e inside) [
        | inl newest ↦ stands_newest past a b (pair_enabled past a b enabled) e
            (elim (Contains-cons found.1 (found.0 ∷ []) e newest) [ inl second ↦ inl second | inr rest ↦ inr (Contains-one found.0 e rest) ])
        | inr older ↦ stands_grows (Pair a b) past (delivered past) (delivered (Pair a b ∷ past)) (among_older past (Two a b) (together found.0 found.1) is) e (sync_in_pair past legal.1 e older sync)
      ]

  -- an event among these, with this id, that is no sync event
  abbrev pub NoSyncAmong : List Event → EventId → Type 0
  NoSyncAmong events id = (e : Event) × Contains events e × (e.id ≡ id) × (IsOfKind types e Sync → ⊥)

  -- a gone entry of a legal past is of no sync event
  pub gone_entry : (past : List Entry) → IsLegalPast types past → (id : EventId) → Contains past (Gone id) → NoSyncAmong (delivered past) id
  gone_entry [] legal id inside = absurd (Contains-nil (Gone id) inside)
  gone_entry (Came collector e ∷ past) legal id inside = elim (Contains-cons (Came collector e) past (Gone id) inside)
      [ inl is ↦ cc | inr older ↦ gone_entry past legal.1 id older ]
  gone_entry (Ended collector ∷ past) legal id inside = elim (Contains-cons (Ended collector) past (Gone id) inside)
      [ inl is ↦ cc | inr older ↦ gone_entry past legal.1 id older ]
  gone_entry (Gone a ∷ past) legal id inside = elim (Contains-cons (Gone a) past (Gone id) inside) [
    | inl is ↦
        let same : a ≡ id = cc in
        let gone = alone_no_sync past a legal.0.enabled in
        (gone.0, among_newest past (One a) (alone gone.0) gone.2 gone.0 (Contains-here gone.0 []), gone.1 ∙ same, gone.3)
    | inr older ↦
        let its = gone_entry past legal.1 id older in
        (its.0, among_older past (One a) legal.0.enabled.delivery legal.0.enabled.came_in its.0 its.1, its.2, its.3)
  ]
  gone_entry (Pair a b ∷ past) legal id inside = elim (Contains-cons (Pair a b) past (Gone id) inside) [
    | inl is ↦ cc
    | inr older ↦
        let its = gone_entry past legal.1 id older in
        (its.0, among_older past (Two a b) legal.0.enabled.delivery legal.0.enabled.came_in its.0 its.1, its.2, its.3)
  ]
