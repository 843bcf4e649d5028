use Rattle.std.proofs.Common.{◌≡◌, ◌<◌, ℕ, ◌⊎◌, inl, inr, List, [], ◌∷◌, ◌++◌, true, false, refl, sym, ◌∙◌, ap, subst, None, Some}
use Rattle.std.specs.Prelude.{Contains}
use Rattle.std.specs.Option.{option_map}
use Rattle.std.specs.List.{cons_option}
use Rattle.std.proofs.lemmas.Bool.{cases_lt}
use Rattle.causal_base.specs.declared.event.Event.{Event}
use Rattle.causal_base.specs.declared.event_id.EventId.{EventId}
use Rattle.causal_base.specs.declared.kind.Kind.TheVariants.{Sync}
use Rattle.causal_base.specs.Types.{TypeTable}
use Rattle.causal_base.specs.Event.{Fits, Pairs}
use Rattle.causal_base.specs.Walks.{Step, Walk, Reaches}
use Rattle.causal_base.specs.History.{EventBlock, alone, together, events_of, all_events, IsCausal}
use Rattle.causal_base.specs.Clusters.{Clustering, communications, partition, partition_after, traces_joined, shared_level}
use Rattle.causal_base.specs.Stamps.{history_of, joined_level, newest_level, level_of, is_member}
use Rattle.causal_base.proofs.CallerLemmas.{same_name, fits_no, Contains-cons, Contains-nil, ready_no_sync, reaches_step, step_reaches}
use Rattle.causal_laws.proofs.Partitions.{shared_grows, shares_itself, shared_swapped, shared_up_to, shared_on, shares_at_level}
use Rattle.causal_laws.proofs.OwnHistories.{delivered_at, own_delivery, own_causal, history_within}

-- a delivery joins these two traces, in one order or the other
abbrev Joins : EventBlock → ℕ → ℕ → Type 0
Joins d t u = (traces_joined d ≡ Some (t, u)) ⊎ (traces_joined d ≡ Some (u, t))

-- the delivery of an event joins its trace and that of another event which it fits, or with which it pairs
joins_its : (types : TypeTable) (d : EventBlock) (past : List EventBlock) → IsCausal types (d ∷ past) → (x y : Event) → Contains (events_of d) y → Fits types y x ⊎ Pairs types x y → Joins d y.id.trace x.id.trace
joins_its types (alone e) past causal x y inside cause = elim (Contains-cons e [] y inside) [
  | inr none ↦ absurd (Contains-nil y none)
  | inl is ↦ subst (λ (v : Event). Joins (alone e) v.id.trace x.id.trace) is
      (elim (subst (λ (v : Event). Fits types v x ⊎ Pairs types x v) (sym is) cause) [
        | inl fits ↦ inl (ap (λ mate. option_map (λ (id : EventId). (e.id.trace, id.trace)) mate) fits.names)
        | inr pairs ↦ absurd (ready_no_sync types (all_events past) e causal.0.1 pairs.second)
      ])
]
joins_its types (together a b) past causal x y inside cause = elim (Contains-cons b (a ∷ []) y inside) [
  | inl is ↦ subst (λ (v : Event). Joins (together a b) v.id.trace x.id.trace) is
      (elim (subst (λ (v : Event). Fits types v x ⊎ Pairs types x v) (sym is) cause) [
        | inl fits ↦ absurd (fits_no types b x Sync fits causal.0.2.second (λ p. cc) (λ p. cc))
        | inr pairs ↦ inr (ap (λ (id : EventId). Some (id.trace, b.id.trace)) (same_name b a x causal.0.2.back pairs.back))
      ])
  | inr rest ↦ elim (Contains-cons a [] y rest) [
    | inr none ↦ absurd (Contains-nil y none)
    | inl is ↦ subst (λ (v : Event). Joins (together a b) v.id.trace x.id.trace) is
        (elim (subst (λ (v : Event). Fits types v x ⊎ Pairs types x v) (sym is) cause) [
          | inl fits ↦ absurd (fits_no types a x Sync fits causal.0.2.first (λ p. cc) (λ p. cc))
          | inr pairs ↦ inl (ap (λ (id : EventId). Some (a.id.trace, id.trace)) (same_name a b x causal.0.2.forth pairs.back))
        ])
  ]
]

module _ (clustering : Clustering) where
  -- traces that a delivery joins share a cluster at its level
  shares_at_newest : (d : EventBlock) (past : List EventBlock) (t u : ℕ) → Joins d t u → partition_after clustering (d ∷ past) (newest_level clustering (d ∷ past)) t u ≡ true
  shares_at_newest d past t u joins = elim joins [
    | inl is ↦ at_level (t, u) is
    | inr is ↦ shared_swapped clustering (communications (d ∷ past)) (newest_level clustering (d ∷ past)) u t (at_level (u, t) is)
  ]
    where
      at_level : (traces : ℕ × ℕ) → traces_joined d ≡ Some traces → partition_after clustering (d ∷ past) (newest_level clustering (d ∷ past)) traces.0 traces.1 ≡ true
      at_level traces is =
          let level : newest_level clustering (d ∷ past) ≡ shared_level clustering (partition_after clustering (d ∷ past)) traces = ap (joined_level clustering (partition_after clustering (d ∷ past))) is in
          ap (λ k. partition_after clustering (d ∷ past) k traces.0 traces.1) level ∙ shares_at_level clustering (communications (d ∷ past)) traces

  -- clusters only grow from delivery to delivery
  pub after_grows : (newer older : List EventBlock) (level t u : ℕ) → partition_after clustering older level t u ≡ true → partition_after clustering (newer ++ older) level t u ≡ true
  after_grows [] older level t u shared = shared
  after_grows (d ∷ newer) older level t u shared =
      let rest = after_grows newer older level t u shared in
      elim (traces_joined d) as (λ o. partition clustering (cons_option o (communications (newer ++ older))) level t u ≡ true)
      [ None ↦ rest | Some traces ↦ shared_grows clustering (communications (newer ++ older)) traces level t u rest ]

module _ (types : TypeTable) (clustering : Clustering) (history : List EventBlock) (causal : IsCausal types history) where
  -- the trace of an event that an event fits, or with which it pairs, is one of its members
  pub cause_is_member : (x y : Event) → Contains (all_events history) y → Fits types y x ⊎ Pairs types x y → is_member clustering history y.id x.id.trace ≡ true
  cause_is_member x y inside cause =
      let at = delivered_at history y inside in
      let joins = joins_its types at.delivery at.past (own_causal types history causal y at) x y (own_delivery types history causal y inside at) cause in
      ap (λ (ds : List EventBlock). partition_after clustering ds (newest_level clustering ds) y.id.trace x.id.trace) at.own
      ∙ shares_at_newest clustering at.delivery at.past y.id.trace x.id.trace joins

  -- what reaches an event was delivered with it or before, and clusters only grow
  pub stays_shared : (y f : Event) → Contains (all_events history) f → Reaches types (all_events history) y f → (level t u : ℕ) → partition_after clustering (history_of y.id history) level t u ≡ true → partition_after clustering (history_of f.id history) level t u ≡ true
  stays_shared y f inside reaches level t u shared =
      let within = history_within types history causal y f inside reaches in
      ap (λ (ds : List EventBlock). partition_after clustering ds level t u) within.1
      ∙ after_grows clustering within.0 (history_of y.id history) level t u shared

  -- A step that leads from outside of the members of an event to one of them, and on to the event, ends at an event of
  -- a greater level: at a level no greater the trace outside would share the cluster then, and clusters only grow.
  pub enters_above : (x y f : Event) → Contains (all_events history) f → Step types (all_events history) x y → Reaches types (all_events history) y f → is_member clustering history f.id x.id.trace ≡ false → is_member clustering history f.id y.id.trace ≡ true → level_of clustering history f.id < level_of clustering history y.id
  enters_above x y f inside step reaches outside member = elim (cases_lt (level_of clustering history f.id) (level_of clustering history y.id)) [
    | inl above ↦ above
    | inr below ↦ elim step.cause [
      | inl succeeds ↦ absurd (clash (ap (is_member clustering history f.id) (sym succeeds.trace) ∙ member))
      | inr cause ↦
          let own : is_member clustering history y.id x.id.trace ≡ true = cause_is_member x y step.to cause in
          let up = shared_up_to clustering (communications (history_of y.id history)) (level_of clustering history y.id) (level_of clustering history f.id) y.id.trace x.id.trace below own in
          let later = stays_shared y f inside reaches (level_of clustering history f.id) y.id.trace x.id.trace up in
          absurd (clash (shared_on clustering (communications (history_of f.id history)) (level_of clustering history f.id) f.id.trace y.id.trace x.id.trace member later))
    ]
  ]
    where
      clash : is_member clustering history f.id x.id.trace ≡ true → ⊥
      clash is = let apart : true ≡ false = sym is ∙ outside in cc

  -- A walk from a to f enters the members of f: it has an event outside of them and, right after it, one of a member,
  -- which has a greater level.
  pub record Enters (a f : Event) (through : List Event) : Type 0 where
    pub earlier : List Event
    pub from : Event
    pub at : Event
    pub later : List Event
    pub is_walk : a ∷ through ≡ earlier ++ from ∷ at ∷ later
    pub outside : is_member clustering history f.id from.id.trace ≡ false
    pub member : is_member clustering history f.id at.id.trace ≡ true
    pub above : level_of clustering history f.id < level_of clustering history at.id
    pub among : Contains (all_events history) at
    pub after : Reaches types (all_events history) a at
    pub before : Reaches types (all_events history) at f

  -- a walk from outside of the members of an event to it enters them at an event of a greater level
  pub walk_enters : (through : List Event) (a f : Event) → Contains (all_events history) f → Walk types (all_events history) a through f → is_member clustering history f.id a.id.trace ≡ false → Enters a f through
  walk_enters [] a f inside walk outside =
      let own : is_member clustering history f.id f.id.trace ≡ true = shares_itself clustering (communications (history_of f.id history)) (level_of clustering history f.id) f.id.trace in
      let not_so : is_member clustering history f.id f.id.trace ≡ false = subst (λ (v : Event). is_member clustering history f.id v.id.trace ≡ false) walk outside in
      absurd (let apart : true ≡ false = sym own ∙ not_so in cc)
  walk_enters (y ∷ through) a f inside walk outside =
      elim (is_member clustering history f.id y.id.trace) as (λ b. is_member clustering history f.id y.id.trace ≡ b → Enters a f (y ∷ through)) [
        | true ↦ λ member.
            let onward : Reaches types (all_events history) y f = record { among = walk.0.to; through = through; walk = walk.1 } in
            record {
              earlier = [];
              from = a;
              at = y;
              later = through;
              is_walk = refl;
              outside = outside;
              member = member;
              above = enters_above a y f inside walk.0 onward outside member;
              among = walk.0.to;
              after = step_reaches types (all_events history) a y walk.0;
              before = onward;
            }
        | false ↦ λ still.
            let rest = walk_enters through y f inside walk.1 still in
            record {
              earlier = a ∷ rest.earlier;
              from = rest.from;
              at = rest.at;
              later = rest.later;
              is_walk = ap (λ events. a ∷ events) rest.is_walk;
              outside = rest.outside;
              member = rest.member;
              above = rest.above;
              among = rest.among;
              after = reaches_step types (all_events history) a y rest.at walk.0 rest.after;
              before = rest.before;
            }
      ] refl
