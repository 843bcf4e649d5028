-- Going back over a delivery: what is within the clock, and what it names.
use Rattle.std.proofs.Common.{◌≡◌, ◌≤◌, ℕ, ◌⊎◌, inl, inr, List, [], ◌∷◌, ◌++◌, sym, ◌∙◌, ap, subst, arith, Option, Some, None, refl, true, false}
use Rattle.std.specs.Prelude.{Contains, option_to_list, option_and_then, IsSome, is_some, slice_index}
use Rattle.std.specs.Option.{option_map}
use Rattle.std.proofs.lemmas.Bool.{leb-true, le-leb}
use Rattle.causal_base.specs.declared.block.Block.TheVariants.{One, Two}
use Rattle.causal_base.specs.declared.entry.Entry.{Entry}
use Rattle.causal_base.specs.declared.entry.Entry.TheVariants.{Came, Gone, Pair, Ended}
use Rattle.causal_base.specs.declared.event.Event.{Event}
use Rattle.causal_base.specs.declared.event_id.EventId.{EventId}
use Rattle.causal_base.specs.declared.kind.Kind.{Kind}
use Rattle.causal_base.specs.declared.kind.Kind.TheVariants.{Unary, Send}
use Rattle.causal_base.specs.Types.{TypeTable}
use Rattle.causal_base.specs.Event.{IsOfKind, Names, IsFit, NamesAnother, Fits}
use Rattle.causal_base.specs.Walks.{Step, Reaches}
use Rattle.causal_base.specs.History.{EventBlock, alone, together, events_of, all_events, count_on, IsCausal}
use Rattle.causal_base.specs.Past.{came, event_of, delivery_of, deliveries, delivered, IsLegalPast}
use Rattle.causal_base.specs.ClockWalks.{IsUpTo, is_within, IsClockSoFar, Raises, RaisesMate, RaisesCauses}
use Rattle.causal_base.proofs.Ids.{make_id}
use Rattle.causal_base.proofs.ClockLimits.{reaches_later}
use Rattle.causal_base.proofs.Members.{Contains-cons, Contains-here, Contains-there, Contains-one}
use Rattle.causal_base.proofs.Numbered.{IsNumbered, number_within}
use Rattle.causal_base.proofs.Histories.{Contains-there_events, same_kind, reaches_back}
use Rattle.causal_base.proofs.Pasts.{came_fit, causal, delivery_of-one, delivery_of-two, delivered_came}
use Rattle.causal_base.proofs.LegalPasts.{delivered_numbered}
use Rattle.causal_base.proofs.Reaching.{reaches_step, reaches_on, reaches_among}
use Rattle.causal_base.proofs.Newest.{Contains-newest, Contains-split, pairs_swapped, newest_reach, goes_by_source}

-- what stands no later than an id within is within
within_up_to : (clock : List ℕ) (id other : EventId) → IsUpTo id other → is_within clock id ≡ true → is_within clock other ≡ true
within_up_to clock id other up within =
    let most = leb-true id.number (slice_index clock id.trace) within in
    let most_too : id.number ≤ slice_index clock other.trace = subst (λ t. id.number ≤ slice_index clock t) (sym up.0) most in
    le-leb other.number (slice_index clock other.trace) (omega (arith, up.1, most_too))

-- an event that names another is no unary event and no send
names_no : (types : TypeTable) (e : Event) (mate : EventId) → IsFit types e → e.mate ≡ Some mate → (kind : Kind) → IsOfKind types e kind → (NamesAnother kind → ⊥) → ⊥
names_no types e mate fit names kind is none =
    let same = same_kind types e fit.kind kind fit.is_of_kind is in
    let some : IsSome e.mate = ap (λ o. is_some o) names in
    none (subst NamesAnother same (fit.mate.0 some))

module _ (types : TypeTable) (events : List Event) (d : EventBlock) (ds : List EventBlock) (causal_all : IsCausal types (d ∷ ds)) (fit : (e : Event) → Contains (events_of d) e → IsFit types e) (grows : (y : Event) → Contains (all_events (d ∷ ds)) y → Contains events y) where
  -- what an event of the newest delivery names is an event one step before it
  named_event : (w : Event) → Contains (events_of d) w → (mate : EventId) → w.mate ≡ Some mate → (y : Event) × (y.id ≡ mate) × Step types events y w
  named_event w inside mate names = go d causal_all fit grows inside
    where
      go : (v : EventBlock) → IsCausal types (v ∷ ds) → ((e : Event) → Contains (events_of v) e → IsFit types e) → ((y : Event) → Contains (all_events (v ∷ ds)) y → Contains events y) → Contains (events_of v) w → (y : Event) × (y.id ≡ mate) × Step types events y w
      go (alone e) causal_v fit_v grows_v in_v =
          let is : e ≡ w = Contains-one e w in_v in
          let fit_w : IsFit types w = fit_v w in_v in
          let ready = subst (λ (u : Event). IsOfKind types u Unary ⊎ (IsOfKind types u Send ⊎ ((cause : Event) × Contains (all_events ds) cause × Fits types u cause))) is causal_v.0.1 in
          elim ready [
            | inl unary ↦ absurd (names_no types w mate fit_w names Unary unary (λ a. a))
            | inr rest ↦ elim rest [
              | inl send ↦ absurd (names_no types w mate fit_w names Send send (λ a. a))
              | inr cause ↦
                  let one : Some cause.0.id ≡ Some mate = sym cause.2.names ∙ names in
                  let its : cause.0.id ≡ mate = cc in (
                    cause.0,
                    its,
                    record {
                      from = grows_v cause.0 (Contains-there e (all_events ds) cause.0 cause.1);
                      to = grows_v w (Contains-newest (alone e) ds w in_v);
                      cause = inr (inl cause.2);
                    },
                  )
            ]
          ]
      go (together a b) causal_v fit_v grows_v in_v =
          let a_there : Contains events a = grows_v a (Contains-there b (a ∷ all_events ds) a (Contains-here a (all_events ds))) in
          let b_there : Contains events b = grows_v b (Contains-here b (a ∷ all_events ds)) in
          elim (Contains-cons b (a ∷ []) w in_v) [
            | inl is ↦
                let one : Some a.id ≡ Some mate = sym causal_v.0.2.back ∙ (ap (λ (u : Event). u.mate) is ∙ names) in
                let its : a.id ≡ mate = cc in
                (a, its, subst (λ (u : Event). Step types events a u) is (record { from = a_there; to = b_there; cause = inr (inr causal_v.0.2) }))
            | inr rest ↦
                let is : a ≡ w = Contains-one a w rest in
                let one : Some b.id ≡ Some mate = sym causal_v.0.2.forth ∙ (ap (λ (u : Event). u.mate) is ∙ names) in
                let its : b.id ≡ mate = cc in
                (b, its, subst (λ (u : Event). Step types events b u) is (record { from = b_there; to = a_there; cause = inr (inr (pairs_swapped types a b causal_v.0.2)) }))
          ]

  module _ (numbers : IsNumbered events) (end : Event) where
    -- going back over a delivery of which nothing is within the clock
    back_over_unmarked : (clock : List ℕ) → ((e : Event) → Contains (events_of d) e → is_within clock e.id ≡ false) → IsClockSoFar types events (all_events (d ∷ ds)) end clock → IsClockSoFar types events (all_events ds) end clock
    back_over_unmarked clock unmarked so_far = record {
      sound = so_far.sound;
      complete = λ x reaches. elim (so_far.complete x reaches) [
        | inl within ↦ inl within
        | inr found ↦ elim (Contains-split d ds found.0 found.1) [
          | inl newest ↦ absurd (let clash : true ≡ false = sym found.2 ∙ unmarked found.0 newest in cc)
          | inr older ↦ inr (found.0, older, found.2, reaches_back types d ds causal_all x found.0 older found.3)
        ]
      ];
      most = so_far.most;
    }

    -- going back over a delivery of which an event is within it
    back_over_marked : (before after : List ℕ) (v : Event) → Contains (events_of d) v → is_within before v.id ≡ true → RaisesCauses (events_of d) before after → IsClockSoFar types events (all_events (d ∷ ds)) end before → IsClockSoFar types events (all_events ds) end after
    back_over_marked before after v in_v within raises so_far = record {
      sound = λ x among yes. elim (raises.no_other x.id yes) [
        | inl was ↦ so_far.sound x among was
        | inr new ↦ elim new.2 [
          | inl up ↦
              let w_there = grows new.0 (Contains-newest d ds new.0 new.1) in
              reaches_on types events x new.0 end (reaches_later types events numbers x new.0 among w_there up.0 up.1) (onward new.0 new.1)
          | inr named ↦
              let y = named_event new.0 new.1 named.0 named.1 in
              let trace : x.id.trace ≡ y.0.id.trace = named.2.0 ∙ ap (λ (i : EventId). i.trace) (sym y.1) in
              let number : x.id.number ≤ y.0.id.number = subst (λ (i : EventId). x.id.number ≤ i.number) (sym y.1) named.2.1 in
              reaches_on types events x y.0 end (reaches_later types events numbers x y.0 among y.2.from trace number) (reaches_step types events y.0 new.0 end y.2 (onward new.0 new.1))
        ]
      ];
      complete = λ x reaches. elim (so_far.complete x reaches) [
        | inl was ↦ inl (raises.kept x.id was)
        | inr found ↦ elim (Contains-split d ds found.0 found.1) [
          | inr older ↦ inr (found.0, older, raises.kept found.0.id found.2, reaches_back types d ds causal_all x found.0 older found.3)
          | inl newest ↦ elim (Contains-split d ds x found.3.among) [
            | inl newest_too ↦ inl (raises.own x newest_too)
            | inr old ↦
                let by = goes_by_source types ds d causal_all found.3.through x found.0 old newest found.3.walk in
                let source = by.2 in
                let within_too : is_within after source.0.id ≡ true = elim source.3 [
                  | inl succeeds ↦ within_up_to after by.0.id source.0.id (sym succeeds.trace, omega (arith, succeeds.number)) (raises.own by.0 by.1)
                  | inr fits ↦ raises.named by.0 by.1 source.0.id fits.names
                ] in
                inr (source.0, source.1, within_too, source.2)
          ]
        ]
      ];
      most = λ trace. elim (raises.no_other (make_id trace (slice_index after trace)) (le-leb (slice_index after trace) (slice_index after trace) (omega arith))) [
        | inl was ↦
            let below = leb-true (slice_index after trace) (slice_index before trace) was in
            let most = so_far.most trace in
            omega (arith, below, most)
        | inr new ↦ elim new.2 [
          | inl up ↦
              let its = (number_within events numbers new.0 (grows new.0 (Contains-newest d ds new.0 new.1))).1 in
              let its_too : new.0.id.number ≤ count_on trace events = subst (λ t. new.0.id.number ≤ count_on t events) (sym up.0) its in
              omega (arith, up.1, its_too)
          | inr named ↦
              let y = named_event new.0 new.1 named.0 named.1 in
              let its = (number_within events numbers y.0 y.2.from).1 in
              let its_too : named.0.number ≤ count_on named.0.trace events = subst (λ (i : EventId). i.number ≤ count_on i.trace events) y.1 its in
              let its_here : named.0.number ≤ count_on trace events = subst (λ t. named.0.number ≤ count_on t events) (sym named.2.0) its_too in
              omega (arith, named.2.1, its_here)
        ]
      ];
    }
      where
        -- each event of the delivery reaches the end
        onward : (w : Event) → Contains (events_of d) w → Reaches types events w end
        onward w in_w =
            reaches_on types events w v end (reaches_among types (all_events (d ∷ ds)) events grows w v (newest_reach types ds d causal_all w v in_w in_v))
            (so_far.sound v (grows v (Contains-newest d ds v in_v)) within)

-- an event within the clock, and what it names
pub raises_alone : (e : Event) (before after : List ℕ) → is_within before e.id ≡ true → RaisesMate e.mate before after → RaisesCauses (e ∷ []) before after
raises_alone e before after within raises = go e.mate refl raises
  where
    go : (mate : Option EventId) → e.mate ≡ mate → RaisesMate mate before after → RaisesCauses (e ∷ []) before after
    go None is same = subst (λ clock. RaisesCauses (e ∷ []) before clock) (sym same) (record {
      kept = λ id was. was;
      own = λ x inside. subst (λ (v : Event). is_within before v.id ≡ true) (Contains-one e x inside) within;
      named = λ x inside id names. absurd (let none : e.mate ≡ Some id = ap (λ (v : Event). v.mate) (Contains-one e x inside) ∙ names in let clash : ◌≡◌ {A = Option EventId} None (Some id) = sym is ∙ none in cc);
      no_other = λ id was. inl was;
    })
    go (Some mate) is raise = record {
      kept = λ id was. (raise.within id).1 (inl was);
      own = λ x inside. (raise.within x.id).1 (inl (subst (λ (v : Event). is_within before v.id ≡ true) (Contains-one e x inside) within));
      named = λ x inside id names.
          let one : Some mate ≡ Some id = sym is ∙ (ap (λ (v : Event). v.mate) (Contains-one e x inside) ∙ names) in
          let its : mate ≡ id = cc in
          (raise.within id).1 (inr (subst (λ i. IsUpTo mate i) its (refl, omega arith)));
      no_other = λ id yes. elim ((raise.within id).0 yes)
          [ inl was ↦ inl was | inr up ↦ inr (e, Contains-here e [], inr (mate, is, up)) ];
    }

-- two partners
pub raises_together : (a b : Event) (before between after : List ℕ) → Names a b → Names b a → Raises a.id before between → Raises b.id between after → RaisesCauses (b ∷ a ∷ []) before after
raises_together a b before between after forth back first second = record {
  kept = λ id was. (second.within id).1 (inl ((first.within id).1 (inl was)));
  own = λ x inside. elim (Contains-cons b (a ∷ []) x inside)
      [ inl is ↦ subst (λ (v : Event). is_within after v.id ≡ true) is b_within | inr rest ↦ subst (λ (v : Event). is_within after v.id ≡ true) (Contains-one a x rest) a_within ];
  named = λ x inside id names. elim (Contains-cons b (a ∷ []) x inside) [
    | inl is ↦
        let one : Some a.id ≡ Some id = sym back ∙ (ap (λ (v : Event). v.mate) is ∙ names) in
        let its : a.id ≡ id = cc in
        subst (λ i. is_within after i ≡ true) its a_within
    | inr rest ↦
        let one : Some b.id ≡ Some id = sym forth ∙ (ap (λ (v : Event). v.mate) (Contains-one a x rest) ∙ names) in
        let its : b.id ≡ id = cc in
        subst (λ i. is_within after i ≡ true) its b_within
  ];
  no_other = λ id yes. elim ((second.within id).0 yes) [
    | inr up ↦ inr (b, Contains-here b (a ∷ []), inl up)
    | inl was ↦ elim ((first.within id).0 was)
        [ inl earlier ↦ inl earlier | inr up ↦ inr (a, Contains-there b (a ∷ []) a (Contains-here a []), inl up) ]
  ];
}
  where
    a_within : is_within after a.id ≡ true
    a_within = (second.within a.id).1 (inl ((first.within a.id).1 (inr (refl, omega arith))))

    b_within : is_within after b.id ≡ true
    b_within = (second.within b.id).1 (inr (refl, omega arith))

-- older deliveries stay among all
delivered_grows : (newer past : List Entry) (x : Event) → Contains (delivered past) x → Contains (delivered (newer ++ past)) x
delivered_grows [] past x there = there
delivered_grows (Came collector e ∷ newer) past x there = delivered_grows newer past x there
delivered_grows (Gone a ∷ newer) past x there =
    elim (delivery_of (came (newer ++ past)) (One a)) as (λ o. Contains (all_events (option_to_list o ++ deliveries (newer ++ past))) x) [
      | None ↦ delivered_grows newer past x there
      | Some d ↦ Contains-there_events d (delivered (newer ++ past)) x (delivered_grows newer past x there)
    ]
delivered_grows (Pair a b ∷ newer) past x there =
    elim (delivery_of (came (newer ++ past)) (Two a b)) as (λ o. Contains (all_events (option_to_list o ++ deliveries (newer ++ past))) x) [
      | None ↦ delivered_grows newer past x there
      | Some d ↦ Contains-there_events d (delivered (newer ++ past)) x (delivered_grows newer past x there)
    ]
delivered_grows (Ended collector ∷ newer) past x there = delivered_grows newer past x there

-- an older part of a legal past is legal
pub legal_older : (types : TypeTable) (newer past : List Entry) → IsLegalPast types (newer ++ past) → IsLegalPast types past
legal_older types [] past legal = legal
legal_older types (entry ∷ newer) past legal = legal_older types newer past legal.1

-- one step back through a past
module _ (types : TypeTable) (newer : List Entry) where
  -- the event of an entry that delivered one
  pub gone_event : (a : EventId) (older : List Entry) → IsLegalPast types (newer ++ Gone a ∷ older) → (e : Event) × (event_of (came older) a ≡ Some e) × (deliveries (Gone a ∷ older) ≡ alone e ∷ deliveries older)
  gone_event a older legal =
      let stands = legal_older types newer (Gone a ∷ older) legal in
      let found = delivery_of-one (came older) a stands.0.enabled.delivery stands.0.enabled.came_in in
      (found.0, found.1, ap (λ o. option_to_list (option_map alone o) ++ deliveries older) found.1)

  -- the events of an entry that delivered a pair
  pub pair_events : (a b : EventId) (older : List Entry) → IsLegalPast types (newer ++ Pair a b ∷ older) → (x y : Event) × (event_of (came older) a ≡ Some x) × (event_of (came older) b ≡ Some y) × (deliveries (Pair a b ∷ older) ≡ together x y ∷ deliveries older)
  pair_events a b older legal =
      let stands = legal_older types newer (Pair a b ∷ older) legal in
      let found = delivery_of-two (came older) a b stands.0.enabled.delivery stands.0.enabled.came_in in (
        found.0,
        found.1,
        found.2,
        found.3,
        ap (λ o. option_to_list (option_and_then (λ v. option_map (together v) (event_of (came older) b)) o) ++ deliveries older) found.2
            ∙ ap (λ o. option_to_list (option_map (together found.0) o) ++ deliveries older) found.3,
      )

  module _ (end : Event) (entry : Entry) (older : List Entry) (d : EventBlock) (delivers : deliveries (entry ∷ older) ≡ d ∷ deliveries older) (legal : IsLegalPast types (newer ++ entry ∷ older)) where
    entry_causal : IsCausal types (d ∷ deliveries older)
    entry_causal = subst (IsCausal types) delivers (causal types (entry ∷ older) (legal_older types newer (entry ∷ older) legal))

    entry_so_far : (clock : List ℕ) → IsClockSoFar types (delivered (newer ++ entry ∷ older)) (delivered (entry ∷ older)) end clock → IsClockSoFar types (delivered (newer ++ entry ∷ older)) (all_events (d ∷ deliveries older)) end clock
    entry_so_far clock so_far = subst (λ ds. IsClockSoFar types (delivered (newer ++ entry ∷ older)) (all_events ds) end clock) delivers so_far

    entry_inside : (y : Event) → Contains (all_events (d ∷ deliveries older)) y → Contains (delivered (newer ++ entry ∷ older)) y
    entry_inside y inside = delivered_grows newer (entry ∷ older) y (subst (λ ds. Contains (all_events ds) y) (sym delivers) inside)

    entry_fit : (e : Event) → Contains (events_of d) e → IsFit types e
    entry_fit e its = came_fit types (newer ++ entry ∷ older) legal e (delivered_came types (newer ++ entry ∷ older) legal e (entry_inside e (Contains-newest d (deliveries older) e its)))

    pub back_over_entry_unmarked : (clock : List ℕ) → ((e : Event) → Contains (events_of d) e → is_within clock e.id ≡ false) → IsClockSoFar types (delivered (newer ++ entry ∷ older)) (delivered (entry ∷ older)) end clock → IsClockSoFar types (delivered (newer ++ entry ∷ older)) (delivered older) end clock
    back_over_entry_unmarked clock unmarked so_far =
        back_over_unmarked types (delivered (newer ++ entry ∷ older)) d (deliveries older) entry_causal entry_fit entry_inside (delivered_numbered types (newer ++ entry ∷ older) legal) end clock unmarked (entry_so_far clock so_far)

    pub back_over_entry_marked : (before after : List ℕ) (v : Event) → Contains (events_of d) v → is_within before v.id ≡ true → RaisesCauses (events_of d) before after → IsClockSoFar types (delivered (newer ++ entry ∷ older)) (delivered (entry ∷ older)) end before → IsClockSoFar types (delivered (newer ++ entry ∷ older)) (delivered older) end after
    back_over_entry_marked before after v in_v within raises so_far =
        back_over_marked types (delivered (newer ++ entry ∷ older)) d (deliveries older) entry_causal entry_fit entry_inside (delivered_numbered types (newer ++ entry ∷ older) legal) end before after v in_v within raises (entry_so_far before so_far)
