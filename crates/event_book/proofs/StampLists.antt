-- The stamps after one more came, and after the journal went on.
use Rattle.std.proofs.Common.{◌≡◌, ◌≢◌, ◌<◌, ◌+◌, ◌-◌, ◌⊎◌, ℕ, List, [], ◌∷◌, ◌++◌, length, length-append, refl, sym, ◌∙◌, ap, subst, arith, inl, inr}
use Rattle.std.specs.Prelude.{Contains, slice_get, ◌==◌}
use Rattle.std.specs.List.{sum_by}
use Rattle.std.proofs.lemmas.Bool.{cases_eq, cases_order}
use Rattle.std.proofs.lemmas.List.Sums.{sum_by-cons}
use Rattle.std.proofs.lemmas.Option.{slice_get_within}
use Rattle.causal_base.specs.declared.event.Event.{Event}
use Rattle.causal_base.specs.declared.event_id.EventId.{EventId}
use Rattle.causal_base.specs.Types.{TypeTable}
use Rattle.causal_base.specs.Clusters.{Clustering, levels_of}
use Rattle.causal_base.specs.History.{EventBlock, count_on}
use Rattle.causal_base.specs.Past.{HasEvent}
use Rattle.causal_base.specs.Stamps.{ClusterTimestamp, IsStamp, level_of, members_of}
use Rattle.causal_base.proofs.CallerLemmas.{Contains-cons, Contains-here, Contains-there, count_by_agree, count_on-same, count_on-other, same_id}
use Rattle.projected_stamp.specs.StampLists.{IsAt, IsStampAt}
use Rattle.shared_list.specs.Traces.{list_of, with_item}
use Rattle.shared_list.proofs.CallerLemmas.{length-with_item, list_of-with_item_same, list_of-with_item_other, length-list_of-with_item_same, slice_get-push_before, slice_get-push_last}
use Rattle.event_book.specs.Stamping.{AreStampsAmong, parts_among, full_among}

-- a stamp stays where it is as one more comes to the end of its list
at_before : (stamps : List ClusterTimestamp) (new : ClusterTimestamp) (number : ℕ) (stamp : ClusterTimestamp) → IsAt stamps number stamp → IsAt (stamps ++ new ∷ []) number stamp
at_before stamps new number stamp at = record {
  from = at.from;
  stands = slice_get-push_before stamps new (number - 1) (slice_get_within stamps (number - 1) stamp at.stands) ∙ at.stands;
}

-- and the new one has the number after them
at_last : (stamps : List ClusterTimestamp) (new : ClusterTimestamp) (number : ℕ) → number ≡ length stamps + 1 → IsAt (stamps ++ new ∷ []) number new
at_last stamps new number is =
    let place : number - 1 ≡ length stamps = omega (arith, is) in
    record {
      from = omega (arith, is);
      stands = ap (slice_get (stamps ++ new ∷ [])) place ∙ slice_get-push_last stamps new;
    }

-- what stands in the longer list stood before, or is the last
at_either : (stamps : List ClusterTimestamp) (new : ClusterTimestamp) (number : ℕ) (stamp : ClusterTimestamp) → IsAt (stamps ++ new ∷ []) number stamp → IsAt stamps number stamp ⊎ (number ≡ length stamps + 1)
at_either stamps new number stamp at =
    let from = at.from in
    let within = slice_get_within (stamps ++ new ∷ []) (number - 1) stamp at.stands in
    let count = length-append stamps (new ∷ []) in
    elim (cases_order (number - 1) (length stamps)) [
      | inl last ↦ inr (omega (arith, last, from))
      | inr apart ↦ elim apart [
        | inl before ↦ inl (record { from = from; stands = sym (slice_get-push_before stamps new (number - 1) before) ∙ at.stands })
        | inr past ↦ absurd (omega (arith, past, within, count))
      ]
    ]

module _ (types : TypeTable) (clustering : Clustering) (history : List EventBlock) (events : List Event) (lists : List (List ClusterTimestamp)) (are : AreStampsAmong types clustering history events lists) (e : Event) (stamp : ClusterTimestamp) (its : IsStamp types clustering history e stamp) (on : e.id.trace < types.traces) (next : e.id.number ≡ count_on e.id.trace events + 1) where
  abbrev after : List (List ClusterTimestamp)
  after = with_item lists e.id.trace stamp

  there : e.id.trace < length lists
  there = let many = are.traces in omega (arith, many, on)

  -- on the event's own trace
  own : list_of after e.id.trace ≡ list_of lists e.id.trace ++ stamp ∷ []
  own = list_of-with_item_same lists e.id.trace stamp there

  -- on another
  other_list : (trace : ℕ) → trace ≢ e.id.trace → list_of after trace ≡ list_of lists trace
  other_list trace apart = list_of-with_item_other lists e.id.trace trace stamp apart

  stays : (id : EventId) (old : ClusterTimestamp) → IsStampAt lists id old → IsStampAt after id old
  stays id old at = elim (cases_eq id.trace e.id.trace) [
    | inl here ↦
        subst (λ (l : List ClusterTimestamp). IsAt l id.number old) (sym (ap (list_of after) here ∙ own))
        (at_before (list_of lists e.id.trace) stamp id.number old (subst (λ (t : ℕ). IsAt (list_of lists t) id.number old) here at))
    | inr apart ↦ subst (λ (l : List ClusterTimestamp). IsAt l id.number old) (sym (other_list id.trace apart)) at
  ]

  new_at : IsStampAt after e.id stamp
  new_at =
      let counted = are.counts e.id.trace in
      subst (λ (l : List ClusterTimestamp). IsAt l e.id.number stamp) (sym own)
      (at_last (list_of lists e.id.trace) stamp e.id.number (omega (arith, next, counted)))

  each_after : (x : Event) → Contains (e ∷ events) x → (s : ClusterTimestamp) × IsStampAt after x.id s × IsStamp types clustering history x s
  each_after x inside = elim (Contains-cons e events x inside) [
    | inl is ↦ subst (λ (y : Event). (s : ClusterTimestamp) × IsStampAt after y.id s × IsStamp types clustering history y s) is (stamp, new_at, its)
    | inr before ↦ (let had = are.each x before in (had.0, stays x.id had.0 had.1, had.2))
  ]

  only_after : (id : EventId) (s : ClusterTimestamp) → IsStampAt after id s → HasEvent (e ∷ events) id
  only_after id s at = elim (cases_eq id.trace e.id.trace) [
    | inl here ↦ elim (at_either (list_of lists e.id.trace) stamp id.number s (subst (λ (l : List ClusterTimestamp). IsAt l id.number s) (ap (list_of after) here ∙ own) at)) [
      | inl before ↦
          let had = are.only id s (subst (λ (t : ℕ). IsAt (list_of lists t) id.number s) (sym here) before) in
          (had.0, Contains-there e events had.0 had.1, had.2)
      | inr last ↦ (
          let counted = are.counts e.id.trace in
          (e, Contains-here e events, same_id e.id id (sym here) (omega (arith, last, counted, next))))
    ]
    | inr apart ↦ (
        let had = are.only id s (subst (λ (l : List ClusterTimestamp). IsAt l id.number s) (other_list id.trace apart) at) in
        (had.0, Contains-there e events had.0 had.1, had.2))
  ]

  counts_after : (trace : ℕ) → length (list_of after trace) ≡ count_on trace (e ∷ events)
  counts_after trace = elim (cases_eq trace e.id.trace) [
    | inl here ↦ (
        let long = length-list_of-with_item_same lists e.id.trace stamp there in
        let counted = are.counts e.id.trace in
        let more = count_on-same e.id.trace e events refl in
        subst (λ (t : ℕ). length (list_of after t) ≡ count_on t (e ∷ events)) (sym here) (omega (arith, long, counted, more)))
    | inr apart ↦ ap length (other_list trace apart) ∙ (are.counts trace ∙ sym (count_on-other trace e events (λ is. apart (sym is))))
  ]

  -- one stamp more
  pub stamp_added : AreStampsAmong types clustering history (e ∷ events) after
  stamp_added = record {
    traces = length-with_item lists e.id.trace stamp ∙ are.traces;
    each = each_after;
    only = only_after;
    counts = counts_after;
  }

-- equal terms have equal sums
sum_agree : (f g : Event → ℕ) (events : List Event) → ((e : Event) → Contains events e → f e ≡ g e) → sum_by f events ≡ sum_by g events
sum_agree f g [] same = refl
sum_agree f g (e ∷ events) same =
    let first = same e (Contains-here e events) in
    let rest = sum_agree f g events (λ x inside. same x (Contains-there e events x inside)) in
    let one = sum_by-cons f e events in
    let other = sum_by-cons g e events in
    omega (arith, first, rest, one, other)

-- The stamps of events by some deliveries stay theirs by others, where each event's stamp does.
module _ (types : TypeTable) (clustering : Clustering) (history later : List EventBlock) (events : List Event) (lists : List (List ClusterTimestamp)) (are : AreStampsAmong types clustering history events lists) (moves : (e : Event) → Contains events e → (stamp : ClusterTimestamp) → IsStamp types clustering history e stamp → IsStamp types clustering later e stamp) where
  pub stamps_stay : AreStampsAmong types clustering later events lists
  stamps_stay = record {
    traces = are.traces;
    each = λ e inside. let had = are.each e inside in (had.0, had.1, moves e inside had.0 had.2);
    only = are.only;
    counts = are.counts;
  }

  same_level : (e : Event) → Contains events e → level_of clustering later e.id ≡ level_of clustering history e.id
  same_level e inside = let had = are.each e inside in sym (moves e inside had.0 had.2).level ∙ had.2.level

  same_members : (e : Event) → Contains events e → members_of clustering later e.id ≡ members_of clustering history e.id
  same_members e inside = let had = are.each e inside in sym (moves e inside had.0 had.2).members ∙ had.2.members

  pub parts_stay : parts_among clustering later events ≡ parts_among clustering history events
  parts_stay =
      sum_agree (λ e. length (members_of clustering later e.id)) (λ e. length (members_of clustering history e.id)) events
      (λ e inside. ap (λ (l : List ℕ). length l) (same_members e inside))

  pub full_stay : full_among clustering later events ≡ full_among clustering history events
  full_stay =
      count_by_agree (λ e. level_of clustering later e.id == levels_of clustering + 1) (λ e. level_of clustering history e.id == levels_of clustering + 1) events
      (λ e inside. ap (λ (n : ℕ). n == levels_of clustering + 1) (same_level e inside))
