use Rattle.std.proofs.Common.{◌≡◌, inl, inr, List, [], ◌∷◌, ◌++◌, Bool, true, false, cond, refl, sym, ◌∙◌, ap, subst}
use Rattle.std.specs.Prelude.{Contains}
use Rattle.causal_base.specs.declared.event.Event.{Event}
use Rattle.causal_base.specs.declared.event_id.EventId.{EventId}
use Rattle.causal_base.specs.Types.{TypeTable}
use Rattle.causal_base.specs.History.{EventBlock, alone, together, events_of, all_events, IsCausal}
use Rattle.causal_base.specs.Past.{is_same_id}
use Rattle.causal_base.specs.Stamps.{delivers, history_of}
use Rattle.causal_base.proofs.CallerLemmas.{is_same_id-same, same_from_is_same_id, Contains-cons, Contains-here, Contains-there, Contains-nil, same_event, numbered, Contains-newest, Contains-split, newest_is_new}
use Rattle.causal_base.specs.Walks.{Reaches}
use Rattle.causal_laws.proofs.Prefixes.{Contains-grows}
use Rattle.causal_laws.proofs.Earlier.{older_are_causal, reaches_back_all}
use Rattle.std.proofs.lemmas.Bool.{or_left, or_right, or_cases}

same_id_of : (x e : Event) → x ≡ e → is_same_id e.id x.id ≡ true
same_id_of x e is = subst (λ (v : Event). is_same_id e.id v.id ≡ true) (sym is) (is_same_id-same e.id)

-- a delivery delivers its events
delivers_its : (d : EventBlock) (e : Event) → Contains (events_of d) e → delivers e.id d ≡ true
delivers_its (alone x) e inside = elim (Contains-cons x [] e inside)
    [ inl is ↦ same_id_of x e is | inr none ↦ absurd (Contains-nil e none) ]
delivers_its (together a b) e inside = elim (Contains-cons b (a ∷ []) e inside) [
  | inl is ↦ or_right (is_same_id e.id a.id) _ (same_id_of b e is)
  | inr rest ↦ elim (Contains-cons a [] e rest)
      [ inl is ↦ or_left _ (is_same_id e.id b.id) (same_id_of a e is) | inr none ↦ absurd (Contains-nil e none) ]
]

-- what a delivery delivers is one of its events
its_delivered : (d : EventBlock) (id : EventId) → delivers id d ≡ true → (e : Event) × Contains (events_of d) e × (e.id ≡ id)
its_delivered (alone x) id is = (x, Contains-here x [], sym (same_from_is_same_id id x.id is))
its_delivered (together a b) id is = elim (or_cases (is_same_id id a.id) (is_same_id id b.id) is) [
  | inl first ↦ (a, Contains-there b (a ∷ []) a (Contains-here a []), sym (same_from_is_same_id id a.id first))
  | inr second ↦ (b, Contains-here b (a ∷ []), sym (same_from_is_same_id id b.id second))
]

-- where an event was delivered: its delivery, what is older, and what is newer
pub record IsDelivered (history : List EventBlock) (e : Event) : Type 0 where
  pub delivery : EventBlock
  pub past : List EventBlock
  pub newer : List EventBlock
  pub own : history_of e.id history ≡ delivery ∷ past
  pub whole : history ≡ newer ++ delivery ∷ past
  pub delivers_it : delivers e.id delivery ≡ true

pub delivered_at : (history : List EventBlock) (e : Event) → Contains (all_events history) e → IsDelivered history e
delivered_at [] e inside = absurd (Contains-nil e inside)
delivered_at (d ∷ ds) e inside =
    elim (delivers e.id d) as (λ b. delivers e.id d ≡ b → IsDelivered (d ∷ ds) e) [
      | true ↦ λ is. record {
        delivery = d;
        past = ds;
        newer = [];
        own = ap (λ (c : Bool). cond c (d ∷ ds) (history_of e.id ds)) is;
        whole = refl;
        delivers_it = is;
      }
      | false ↦ λ not_so.
          let older : Contains (all_events ds) e = elim (Contains-split d ds e inside)
          [ inl first ↦ absurd (let it : true ≡ false = sym (delivers_its d e first) ∙ not_so in cc) | inr older ↦ older ] in
          let rest = delivered_at ds e older in
          record {
            delivery = rest.delivery;
            past = rest.past;
            newer = d ∷ rest.newer;
            own = ap (λ (c : Bool). cond c (d ∷ ds) (history_of e.id ds)) not_so ∙ rest.own;
            whole = ap (λ ds. d ∷ ds) rest.whole;
            delivers_it = rest.delivers_it;
          }
    ] refl

-- newer deliveries leave the history of an older event
pub history_of_older : (types : TypeTable) (newer older : List EventBlock) → IsCausal types (newer ++ older) → (e : Event) → Contains (all_events older) e → history_of e.id (newer ++ older) ≡ history_of e.id older
history_of_older types [] older causal e inside = refl
history_of_older types (d ∷ newer) older causal e inside =
    elim (delivers e.id d) as (λ b. delivers e.id d ≡ b → history_of e.id (d ∷ newer ++ older) ≡ history_of e.id older) [
      | true ↦ λ is.
          let x = its_delivered d e.id is in
          absurd (newest_is_new types d (newer ++ older) causal x.0 e x.1 (Contains-grows newer older e inside) x.2)
      | false ↦ λ not_so.
          ap (λ (c : Bool). cond c (d ∷ newer ++ older) (history_of e.id (newer ++ older))) not_so
          ∙ history_of_older types newer older causal.1 e inside
    ] refl

module _ (types : TypeTable) (history : List EventBlock) (causal : IsCausal types history) where
  -- an event is of its own delivery
  pub own_delivery : (e : Event) → Contains (all_events history) e → (at : IsDelivered history e) → Contains (events_of at.delivery) e
  own_delivery e inside at =
      let x = its_delivered at.delivery e.id at.delivers_it in
      let there : Contains (all_events (at.newer ++ at.delivery ∷ at.past)) x.0 = Contains-grows at.newer (at.delivery ∷ at.past) x.0 (Contains-newest at.delivery at.past x.0 x.1) in
      let among : Contains (all_events history) x.0 = subst (λ (ds : List EventBlock). Contains (all_events ds) x.0) (sym at.whole) there in
      subst (λ (v : Event). Contains (events_of at.delivery) v) (same_event (all_events history) (numbered types history causal) x.0 e among inside x.2) x.1

  -- and its own history is causal
  pub own_causal : (e : Event) → (at : IsDelivered history e) → IsCausal types (at.delivery ∷ at.past)
  own_causal e at = older_are_causal types at.newer (at.delivery ∷ at.past) (subst (IsCausal types) at.whole causal)

  -- what reaches an event was delivered with it, or before it
  pub history_within : (y f : Event) → Contains (all_events history) f → Reaches types (all_events history) y f → (between : List EventBlock) × (history_of f.id history ≡ between ++ history_of y.id history)
  history_within y f inside reaches =
      let at = delivered_at history f inside in
      let own = at.delivery ∷ at.past in
      let moved = subst (λ (ds : List EventBlock). Reaches types (all_events ds) y f) at.whole reaches in
      let whole_causal = subst (IsCausal types) at.whole causal in
      let f_there = Contains-newest at.delivery at.past f (own_delivery f inside at) in
      let y_there = (reaches_back_all types at.newer own whole_causal y f f_there moved).among in
      let found = delivered_at own y y_there in
      let same : history_of y.id history ≡ history_of y.id own = ap (history_of y.id) at.whole ∙ history_of_older types at.newer own whole_causal y y_there in
      let parts : own ≡ found.newer ++ history_of y.id own = found.whole ∙ ap (λ ds. found.newer ++ ds) (sym found.own) in
      (found.newer, at.own ∙ (parts ∙ ap (λ ds. found.newer ++ ds) (sym same)))
