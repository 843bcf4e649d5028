-- Which traces lead, as events come and blocks go.
use Rattle.std.proofs.Common.{◌≡◌, ◌≢◌, ◌<◌, ◌≤◌, ◌+◌, ◌⊎◌, ℕ, List, ◌∷◌, inl, inr, refl, sym, ◌∙◌, ap, subst, arith, Some}
use Rattle.std.specs.Prelude.{Contains}
use Rattle.std.proofs.lemmas.Bool.{cases_eq}
use Rattle.causal_base.specs.declared.block.Block.{Block}
use Rattle.causal_base.specs.declared.block.Block.TheVariants.{One, Two}
use Rattle.causal_base.specs.declared.event.Event.{Event}
use Rattle.causal_base.specs.declared.event_id.EventId.{EventId}
use Rattle.causal_base.specs.Types.{TypeTable}
use Rattle.causal_base.specs.Event.{IsFit}
use Rattle.causal_base.specs.History.{EventBlock, all_events, count_on, IsNextOfTrace, IsReady}
use Rattle.causal_base.specs.Past.{HasEvent, HasTrace, IsEnabledAmong, IsHistoryOf, IsNextAmong, HasNoNextAmong}
use Rattle.causal_base.proofs.CallerLemmas.{Contains-cons, Contains-there, enabled_from_partners, enabled_from_ready, partners_from_enabled, ready_from_enabled}
use Rattle.partner_match.specs.Waiting.{Waits, waiting_for}
use Rattle.delivery.specs.TraceSets.{IsIn}
use Rattle.delivery.specs.Leading.{first_trace, Leads}
use Rattle.delivery.specs.Deliveries.{AllWait, IsReadySet}

-- the id is one of the block's
abbrev pub IsOf : Block → EventId → Type 0
IsOf (One a) id = id ≡ a
IsOf (Two a b) id = (id ≡ a) ⊎ (id ≡ b)

pub first_has : (block : Block) → HasTrace block (first_trace block)
first_has (One a) = refl
first_has (Two a b) = inl refl

-- a block has a trace or not
pub has_or_not : (block : Block) (trace : ℕ) → HasTrace block trace ⊎ (HasTrace block trace → ⊥)
has_or_not (One a) trace = cases_eq a.trace trace
has_or_not (Two a b) trace = elim (cases_eq a.trace trace) [
  | inl first ↦ inl (inl first)
  | inr not_first ↦ elim (cases_eq b.trace trace) [
    | inl second ↦ inl (inr second)
    | inr not_second ↦ inr (λ has. elim has [ inl is ↦ not_first is | inr is ↦ not_second is ])
  ]
]

module _ (types : TypeTable) (events : List Event) (history : List EventBlock) (basis : IsHistoryOf types events history) where
  -- the lowest trace of an enabled block is one of the traces, and no greater than its others
  pub first_below : (block : Block) → IsEnabledAmong types events history block → first_trace block < types.traces
  first_below (One a) enabled =
      let e = ready_from_enabled types events history basis a enabled in
      subst (λ (i : EventId). i.trace < types.traces) e.2 (basis.fit e.0 e.1).id.trace
  first_below (Two a b) enabled =
      let p = partners_from_enabled types events history basis a b enabled in
      subst (λ (i : EventId). i.trace < types.traces) p.2 (basis.fit p.0 p.4.first_came).id.trace

  pub first_lowest : (block : Block) → IsEnabledAmong types events history block → (trace : ℕ) → HasTrace block trace → first_trace block ≤ trace
  first_lowest (One a) enabled trace has = omega (arith, has)
  first_lowest (Two a b) enabled trace has =
      let p = partners_from_enabled types events history basis a b enabled in
      let lower = p.4.lower in
      let first = ap (λ (i : EventId). i.trace) p.2 in
      let second = ap (λ (i : EventId). i.trace) p.3 in
      elim has [ inl is ↦ omega (arith, is) | inr is ↦ omega (arith, is, lower, first, second) ]

  -- each trace of an enabled block is one of the traces
  pub trace_below : (block : Block) → IsEnabledAmong types events history block → (trace : ℕ) → HasTrace block trace → trace < types.traces
  trace_below (One a) enabled trace has = subst (λ t. t < types.traces) has (first_below (One a) enabled)
  trace_below (Two a b) enabled trace has =
      let p = partners_from_enabled types events history basis a b enabled in
      elim has [
        | inl is ↦ subst (λ t. t < types.traces) is (first_below (Two a b) enabled)
        | inr is ↦ subst (λ t. t < types.traces) is (subst (λ (i : EventId). i.trace < types.traces) p.3 (basis.fit p.1 p.4.second_came).id.trace)
      ]

  module _ (ready : List ℕ) (set : IsReadySet types events history ready) (most : types.traces ≤ 256) where
    -- the enabled block that the lowest trace of the set leads is next
    pub next_from_lowest : (trace : ℕ) → ((other : ℕ) → other < 256 → IsIn ready other → trace ≤ other) → (block : Block) → HasTrace block trace → IsEnabledAmong types events history block → IsNextAmong types events history block
    next_from_lowest trace lowest block has enabled = record {
      enabled = enabled;
      trace = trace;
      has_trace = has;
      lowest = λ other its other_enabled its_has.
          let first = first_lowest other other_enabled its its_has in
          let below = first_below other other_enabled in
          let least = lowest (first_trace other) (omega (arith, below, most)) (set.complete other other_enabled) in
          omega (arith, first, least);
    }

    -- a trace of the set leads, so there is an enabled block on it
    pub some_on : (trace : ℕ) → trace < 256 → IsIn ready trace → ((block : Block) → IsEnabledAmong types events history block → HasTrace block trace → ⊥) → ⊥
    some_on trace below is none =
        let leads = set.sound trace below is in
        none leads.block leads.enabled (subst (HasTrace leads.block) leads.first (first_has leads.block))

    -- where the set is empty, nothing is enabled
    pub none_from_empty : ((trace : ℕ) → trace < 256 → IsIn ready trace → ⊥) → HasNoNextAmong types events history
    none_from_empty empty block enabled =
        let below = first_below block enabled in
        empty (first_trace block) (omega (arith, below, most)) (set.complete block enabled)

-- The same deliveries among more events.
module _ (types : TypeTable) (few events : List Event) (history : List EventBlock) (basis_few : IsHistoryOf types few history) (basis : IsHistoryOf types events history) (came_too : (e : Event) → Contains few e → Contains events e) where
  pub enabled_more : (block : Block) → IsEnabledAmong types few history block → IsEnabledAmong types events history block
  enabled_more (One a) enabled =
      let e = ready_from_enabled types few history basis_few a enabled in
      subst (λ i. IsEnabledAmong types events history (One i)) e.2 (enabled_from_ready types events history basis e.0 (came_too e.0 e.1) e.3 e.4)
  enabled_more (Two a b) enabled =
      let p = partners_from_enabled types few history basis_few a b enabled in
      let both = p.4 in
      subst (λ i. IsEnabledAmong types events history (Two i b)) p.2
      (subst (λ i. IsEnabledAmong types events history (Two p.0.id i)) p.3
      (enabled_from_partners types events history basis p.0 p.1 (record {
        first_came = came_too p.0 both.first_came;
        second_came = came_too p.1 both.second_came;
        first_next = both.first_next;
        second_next = both.second_next;
        pairs = both.pairs;
        lower = both.lower;
      })))

-- One event more came.
module _ (types : TypeTable) (e : Event) (events : List Event) (history : List EventBlock) (basis : IsHistoryOf types events history) (fit : IsFit types e) (new : HasEvent events e.id → ⊥) where
  pub history_more : IsHistoryOf types (e ∷ events) history
  history_more = record {
    fit = λ x inside. elim (Contains-cons e events x inside) [ inl is ↦ subst (IsFit types) is fit | inr before ↦ basis.fit x before ];
    own_ids = λ x y in_x in_y same. elim (Contains-cons e events x in_x) [
      | inl is_x ↦ elim (Contains-cons e events y in_y) [
        | inl is_y ↦ sym is_x ∙ is_y
        | inr before ↦ absurd (new (y, before, sym same ∙ ap (λ (v : Event). v.id) (sym is_x)))
      ]
      | inr before_x ↦ elim (Contains-cons e events y in_y) [
        | inl is_y ↦ absurd (new (x, before_x, same ∙ ap (λ (v : Event). v.id) (sym is_y)))
        | inr before_y ↦ basis.own_ids x y before_x before_y same
      ]
    ];
    causal = basis.causal;
    came_first = λ x gone. Contains-there e events x (basis.came_first x gone);
  }

  -- an event on another trace had come
  had_come : (x : Event) → Contains (e ∷ events) x → x.id.trace ≢ e.id.trace → Contains events x
  had_come x inside apart = elim (Contains-cons e events x inside) [ inl is ↦ absurd (apart (ap (λ (v : Event). v.id.trace) (sym is))) | inr before ↦ before ]

  -- what is enabled on other traces was enabled
  pub enabled_less : (block : Block) → IsEnabledAmong types (e ∷ events) history block → (HasTrace block e.id.trace → ⊥) → IsEnabledAmong types events history block
  enabled_less (One a) enabled apart =
      let x = ready_from_enabled types (e ∷ events) history history_more a enabled in
      let before = had_come x.0 x.1 (λ same. apart (ap (λ (i : EventId). i.trace) (sym x.2) ∙ same)) in
      subst (λ i. IsEnabledAmong types events history (One i)) x.2 (enabled_from_ready types events history basis x.0 before x.3 x.4)
  enabled_less (Two a b) enabled apart =
      let p = partners_from_enabled types (e ∷ events) history history_more a b enabled in
      let both = p.4 in
      subst (λ i. IsEnabledAmong types events history (Two i b)) p.2
      (subst (λ i. IsEnabledAmong types events history (Two p.0.id i)) p.3
      (enabled_from_partners types events history basis p.0 p.1 (record {
        first_came = had_come p.0 both.first_came (λ same. apart (inl (ap (λ (i : EventId). i.trace) (sym p.2) ∙ same)));
        second_came = had_come p.1 both.second_came (λ same. apart (inr (ap (λ (i : EventId). i.trace) (sym p.3) ∙ same)));
        first_next = both.first_next;
        second_next = both.second_next;
        pairs = both.pairs;
        lower = both.lower;
      })))

  -- An event behind others of its trace enables nothing.
  module _ (behind : IsNextOfTrace (all_events history) e → ⊥) where
    next_had_come : (x : Event) → Contains (e ∷ events) x → IsNextOfTrace (all_events history) x → Contains events x
    next_had_come x inside next = elim (Contains-cons e events x inside) [ inl is ↦ absurd (behind (subst (IsNextOfTrace (all_events history)) (sym is) next)) | inr before ↦ before ]

    pub enabled_behind : (block : Block) → IsEnabledAmong types (e ∷ events) history block → IsEnabledAmong types events history block
    enabled_behind (One a) enabled =
        let x = ready_from_enabled types (e ∷ events) history history_more a enabled in
        subst (λ i. IsEnabledAmong types events history (One i)) x.2 (enabled_from_ready types events history basis x.0 (next_had_come x.0 x.1 x.3) x.3 x.4)
    enabled_behind (Two a b) enabled =
        let p = partners_from_enabled types (e ∷ events) history history_more a b enabled in
        let both = p.4 in
        subst (λ i. IsEnabledAmong types events history (Two i b)) p.2
        (subst (λ i. IsEnabledAmong types events history (Two p.0.id i)) p.3
        (enabled_from_partners types events history basis p.0 p.1 (record {
          first_came = next_had_come p.0 both.first_came both.first_next;
          second_came = next_had_come p.1 both.second_came both.second_next;
          first_next = both.first_next;
          second_next = both.second_next;
          pairs = both.pairs;
          lower = both.lower;
        })))

  -- the set after the trace of the event was looked at
  pub ready_came : (ready later : List ℕ) → IsReadySet types events history ready
      → ((other : ℕ) → other < 256 → IsIn ready other → IsIn later other)
      → ((other : ℕ) → other < 256 → IsIn later other → IsIn ready other ⊎ Leads types (e ∷ events) history other)
      → ((block : Block) → IsEnabledAmong types (e ∷ events) history block → HasTrace block e.id.trace → IsIn later (first_trace block))
      → types.traces ≤ 256
      → IsReadySet types (e ∷ events) history later
  ready_came ready later set kept sound found most = record {
    sound = λ trace below is. elim (sound trace below is) [
      | inl was ↦
          let leads = set.sound trace below was in
          record { block = leads.block; enabled = enabled_more types events (e ∷ events) history basis history_more (λ x before. Contains-there e events x before) leads.block leads.enabled; first = leads.first }
      | inr leads ↦ leads
    ];
    complete = λ block enabled. elim (has_or_not block e.id.trace) [
      | inl has ↦ found block enabled has
      | inr apart ↦
          let before = enabled_less block enabled apart in
          let below = first_below types events history basis block before in
          kept (first_trace block) (omega (arith, below, most)) (set.complete block before)
    ];
  }

-- A block that was next is delivered.
module _ (types : TypeTable) (events : List Event) (history later : List EventBlock) (basis : IsHistoryOf types events history) (basis_later : IsHistoryOf types events later)
    (block : Block) (enabled : IsEnabledAmong types events history block)
    (one : (a b : Block) → IsEnabledAmong types events history a → IsEnabledAmong types events history b → (trace : ℕ) → HasTrace a trace → HasTrace b trace → a ≡ b)
    (same_count : (trace : ℕ) → (HasTrace block trace → ⊥) → count_on trace (all_events later) ≡ count_on trace (all_events history))
    (grows : (x : Event) → Contains (all_events history) x → Contains (all_events later) x)
    (split : (x : Event) → Contains (all_events later) x → Contains (all_events history) x ⊎ IsOf block x.id)
    (fresh : (id : EventId) → IsOf block id → HasEvent (all_events history) id → ⊥)
    (gone : (id : EventId) → IsOf block id → HasEvent (all_events later) id) where
  -- an event on another trace is next of it after as before
  next_later : (x : Event) → (HasTrace block x.id.trace → ⊥) → IsNextOfTrace (all_events history) x → IsNextOfTrace (all_events later) x
  next_later x apart next = next ∙ ap (λ n. n + 1) (sym (same_count x.id.trace apart))

  next_before : (x : Event) → (HasTrace block x.id.trace → ⊥) → IsNextOfTrace (all_events later) x → IsNextOfTrace (all_events history) x
  next_before x apart next = next ∙ ap (λ n. n + 1) (same_count x.id.trace apart)

  ready_later : (x : Event) → IsReady types (all_events history) x → IsReady types (all_events later) x
  ready_later x ready = elim ready [
    | inl unary ↦ inl unary
    | inr rest ↦ elim rest [ inl send ↦ inr (inl send) | inr cause ↦ inr (inr (cause.0, grows cause.0 cause.1, cause.2)) ]
  ]

  -- another block stays enabled
  enabled_later : (other : Block) → IsEnabledAmong types events history other → ((trace : ℕ) → HasTrace other trace → HasTrace block trace → ⊥) → IsEnabledAmong types events later other
  enabled_later (One a) is apart =
      let x = ready_from_enabled types events history basis a is in
      let off : HasTrace block x.0.id.trace → ⊥ = λ has. apart x.0.id.trace (ap (λ (i : EventId). i.trace) (sym x.2)) has in
      subst (λ i. IsEnabledAmong types events later (One i)) x.2 (enabled_from_ready types events later basis_later x.0 x.1 (next_later x.0 off x.3) (ready_later x.0 x.4))
  enabled_later (Two a b) is apart =
      let p = partners_from_enabled types events history basis a b is in
      let both = p.4 in
      let first_off : HasTrace block p.0.id.trace → ⊥ = λ has. apart p.0.id.trace (inl (ap (λ (i : EventId). i.trace) (sym p.2))) has in
      let second_off : HasTrace block p.1.id.trace → ⊥ = λ has. apart p.1.id.trace (inr (ap (λ (i : EventId). i.trace) (sym p.3))) has in
      subst (λ i. IsEnabledAmong types events later (Two i b)) p.2
      (subst (λ i. IsEnabledAmong types events later (Two p.0.id i)) p.3
      (enabled_from_partners types events later basis_later p.0 p.1 (record {
        first_came = both.first_came;
        second_came = both.second_came;
        first_next = next_later p.0 first_off both.first_next;
        second_next = next_later p.1 second_off both.second_next;
        pairs = both.pairs;
        lower = both.lower;
      })))

  leads_later : (trace : ℕ) → Leads types events history trace → trace ≢ first_trace block → Leads types events later trace
  leads_later trace leads apart = record {
    block = leads.block;
    enabled = enabled_later leads.block leads.enabled (λ t has_other has.
        let same = one leads.block block leads.enabled enabled t has_other has in
        apart (sym leads.first ∙ ap first_trace same));
    first = leads.first;
  }

  -- What is enabled after the delivery has one of its traces, or was enabled before, or names one of
  -- its events.
  enabled_before : (other : Block) → IsEnabledAmong types events later other
      → ((trace : ℕ) × HasTrace other trace × HasTrace block trace)
      ⊎ (IsEnabledAmong types events history other
      ⊎ ((x : Event) × (mate : EventId) × Contains events x × HasTrace other x.id.trace × (x.mate ≡ Some mate) × IsOf block mate))
  enabled_before (One a) is =
      let x = ready_from_enabled types events later basis_later a is in
      let on : a.trace ≡ x.0.id.trace = ap (λ (i : EventId). i.trace) (sym x.2) in
      elim (has_or_not block x.0.id.trace) [
        | inl has ↦ inl (x.0.id.trace, on, has)
        | inr off ↦
            let next = next_before x.0 off x.3 in
            let was : IsReady types (all_events history) x.0 → IsEnabledAmong types events history (One a) =
            λ ready. subst (λ i. IsEnabledAmong types events history (One i)) x.2 (enabled_from_ready types events history basis x.0 x.1 next ready) in
            elim x.4 [
              | inl unary ↦ inr (inl (was (inl unary)))
              | inr rest ↦ elim rest [
                | inl send ↦ inr (inl (was (inr (inl send))))
                | inr cause ↦ elim (split cause.0 cause.1) [
                  | inl old ↦ inr (inl (was (inr (inr (cause.0, old, cause.2)))))
                  | inr its ↦ inr (inr (x.0, cause.0.id, x.1, on, cause.2.names, its))
                ]
              ]
            ]
      ]
  enabled_before (Two a b) is =
      let p = partners_from_enabled types events later basis_later a b is in
      let both = p.4 in
      let on_first : a.trace ≡ p.0.id.trace = ap (λ (i : EventId). i.trace) (sym p.2) in
      let on_second : b.trace ≡ p.1.id.trace = ap (λ (i : EventId). i.trace) (sym p.3) in
      elim (has_or_not block p.0.id.trace) [
        | inl has ↦ inl (p.0.id.trace, inl on_first, has)
        | inr first_off ↦ elim (has_or_not block p.1.id.trace) [
          | inl has ↦ inl (p.1.id.trace, inr on_second, has)
          | inr second_off ↦ inr (inl (
              subst (λ i. IsEnabledAmong types events history (Two i b)) p.2
              (subst (λ i. IsEnabledAmong types events history (Two p.0.id i)) p.3
              (enabled_from_partners types events history basis p.0 p.1 (record {
                first_came = both.first_came;
                second_came = both.second_came;
                first_next = next_before p.0 first_off both.first_next;
                second_next = next_before p.1 second_off both.second_next;
                pairs = both.pairs;
                lower = both.lower;
              })))))
        ]
      ]

  -- the set after the block's traces were looked at, and those that waited for its events
  pub ready_delivered : (ready set : List ℕ) (waits : Waits) → IsReadySet types events history ready → AllWait events history waits → types.traces ≤ 256
      → ((other : ℕ) → other < 256 → IsIn ready other → other ≢ first_trace block → IsIn set other)
      → ((other : ℕ) → other < 256 → IsIn set other → (IsIn ready other × (other ≢ first_trace block)) ⊎ Leads types events later other)
      → ((other : Block) (trace : ℕ) → IsEnabledAmong types events later other → HasTrace other trace → HasTrace block trace → IsIn set (first_trace other))
      → ((other : Block) (trace : ℕ) (mate : EventId) → IsEnabledAmong types events later other → HasTrace other trace → IsOf block mate → Contains (waiting_for waits mate) trace → IsIn set (first_trace other))
      → IsReadySet types events later set
  ready_delivered ready set waits before all most kept sound found woken = record {
    sound = λ trace below is. elim (sound trace below is) [
      | inl was ↦ leads_later trace (before.sound trace below was.0) was.1
      | inr leads ↦ leads
    ];
    complete = λ other is. elim (enabled_before other is) [
      | inl shared ↦ found other shared.0 is shared.1 shared.2
      | inr rest ↦ elim rest [
        | inl was ↦ elim (cases_eq (first_trace other) (first_trace block)) [
          | inl same ↦ found other (first_trace other) is (first_has other) (subst (HasTrace block) (sym same) (first_has block))
          | inr apart ↦
              let below = first_below types events history basis other was in
              kept (first_trace other) (omega (arith, below, most)) (before.complete other was) apart
        ]
        | inr names ↦ woken other names.0.id.trace names.1 is names.3 names.5 (all names.0 names.2 names.1 names.4 (λ has. fresh names.1 names.5 has))
      ]
    ];
  }

  -- who waits after the block's events were forgotten
  pub wait_delivered : (waits after : Waits) → AllWait events history waits → ((other : EventId) → (IsOf block other → ⊥) → waiting_for after other ≡ waiting_for waits other) → AllWait events later after
  wait_delivered waits after all others e there mate names absent =
      let old = all e there mate names (λ has. absent (has.0, grows has.0 has.1, has.2)) in
      subst (λ ts. Contains ts e.id.trace) (sym (others mate (λ its. absent (gone mate its)))) old
