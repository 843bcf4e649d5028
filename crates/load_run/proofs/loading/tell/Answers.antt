use Rattle.std.proofs.Common.{◌≡◌, ℕ, ◌∷◌, ◌++◌, [], inl, inr, List, refl, sym, ◌∙◌, ap, subst, arith}
use Rattle.std.specs.Prelude.{Contains}
use Rattle.std.proofs.lemmas.List.Elements.{Contains-append_right}
use Rattle.causal_base.specs.declared.event.Event.{Event}
use Rattle.causal_base.specs.declared.limits.TheConstants.{MOST_EVENTS}
use Rattle.causal_base.specs.Clocks.{HasCount}
use Rattle.causal_base.specs.Journal.{IsLegal, delivered_by}
use Rattle.causal_base.specs.Walks.{IsBefore}
use Rattle.causal_base.proofs.CallerLemmas.{Contains-here}
use Rattle.event_book.specs.declared.setup.Setup.{Setup}
use Rattle.event_book.specs.Setups.{clustering_of}
use Rattle.event_book.specs.Stamping.{full_by, parts_by}
use Rattle.load_run.specs.declared.limits.TheConstants.{START, TRACES}
use Rattle.load_run.specs.Loads.{EndsWith, load_events, load_setup}
use Rattle.load_run.specs.LoadTexts.{shares}
use Rattle.load_run.proofs.Wholes.{delivered_whole}
use Rattle.load_run.proofs.loading.tell.Goals as goal
use Rattle.load_run.proofs.loading.tell.Goals.{in-Some, in-None}

-- the last event of a list is one of it
last_inside : (events first : List Event) (last : Event) → events ≡ first ++ last ∷ [] → Contains events last
last_inside events first last is = subst (λ (its : List Event). Contains its last) (sym is) (Contains-append_right first (last ∷ []) last (Contains-here last []))

pub events_before-past-requires-clause-delivered : goal.events_before-past-requires-clause-delivered
events_before-past-requires-clause-delivered c =
    let types = load_setup.types in
    let list = load_events c.args.events in
    let journal = c.args.desk.now.journal in
    let laws = c.workload_goes_whole.ensures in
    let all = laws.causal c.args.events START TRACES (omega arith) in
    let legal = c.in_turn_is_settled.ensures.legal types MOST_EVENTS (shares list) journal c.requires.in_turn in
    let settled = c.in_turn_is_settled.ensures.settled types MOST_EVENTS (shares list) journal c.requires.in_turn in
    let whole = delivered_whole types list journal (omega (arith, laws.length c.args.events START TRACES, c.requires.few)) (laws.own_ids c.args.events START TRACES)
    (c.in_turn_takes_all.ensures.all types MOST_EVENTS (shares list) journal c.requires.in_turn)
    all.0 all.1 all.2 (c.history_is_delivered.ensures types journal legal settled all.0 all.1) in
    let ends = subst (EndsWith list) c.in-Some.is c.requires.last in
    (ends.1, (whole ends.1).1 (last_inside list ends.0 ends.1 ends.2), ends.3)

pub returns-clause-told : goal.returns-clause-told
returns-clause-told c =
    let types = load_setup.types in
    let list = load_events c.args.events in
    let journal = c.args.desk.now.journal in
    let delivered = delivered_by journal in
    let laws = c.workload_goes_whole.ensures in
    let all = laws.causal c.args.events START TRACES (omega arith) in
    let legal = c.in_turn_is_settled.ensures.legal types MOST_EVENTS (shares list) journal c.requires.in_turn in
    let settled = c.in_turn_is_settled.ensures.settled types MOST_EVENTS (shares list) journal c.requires.in_turn in
    let whole = delivered_whole types list journal (omega (arith, laws.length c.args.events START TRACES, c.requires.few)) (laws.own_ids c.args.events START TRACES)
    (c.in_turn_takes_all.ensures.all types MOST_EVENTS (shares list) journal c.requires.in_turn)
    all.0 all.1 all.2 (c.history_is_delivered.ensures types journal legal settled all.0 all.1) in
    record {
      journal = journal;
      in_turn = c.requires.in_turn;
      whole = whole;
      entries = c.seen.ensures journal (record { same = refl; legal = subst (λ (setup : Setup). IsLegal setup.types journal) (sym c.requires.setup) legal });
      parts = c.total_parts.ensures ∙ ap (λ (setup : Setup). parts_by (clustering_of setup) journal) c.requires.setup;
      full = c.full_stamps.ensures ∙ ap (λ (setup : Setup). full_by (clustering_of setup) journal) c.requires.setup;
      past = elim c.match-last.branch [
        | in-Some w ↦
            let ends = subst (EndsWith list) w.in-Some.is c.requires.last in
            let counted = w.events_before-past.ensures ends.1 ((whole ends.1).1 (last_inside list ends.0 ends.1 ends.2)) ends.3 in
            inr (
              ends.0,
              ends.1,
              ends.2,
              subst (λ (n : ℕ). HasCount (λ x. IsBefore types delivered x ends.1) delivered n) (sym w.past-is)
                  (subst (λ (setup : Setup). HasCount (λ x. IsBefore setup.types delivered x ends.1) delivered w.events_before-past.result) c.requires.setup counted),
            )
        | in-None w ↦ inl (subst (EndsWith list) w.in-None.is c.requires.last, w.past-is)
      ];
    }
