-- What holds of a desk, as its journal goes on.
use Rattle.std.proofs.Common.{◌≡◌, ◌<◌, ◌≤◌, ℕ, Bool, true, false, not, List, [], ◌∷◌, ◌++◌, length, reverse, refl, sym, ◌∙◌, ap, subst, arith, inl, inr, append_assoc, append-nil, set, get_or-set_same, get_or-set_other, Some}
use Rattle.std.specs.Prelude.{◌↔◌, Contains, Option, None, IfSome, IfNone, IsTrue, slice_index_or}
use Rattle.std.specs.List.{AllByRecursion}
use Rattle.std.specs.Option.{is_some}
use Rattle.std.proofs.lemmas.Bool.{cases_eq}
use Rattle.causal_base.specs.declared.block.Block.{Block}
use Rattle.causal_base.specs.declared.block.Block.TheVariants.{One, Two}
use Rattle.causal_base.specs.declared.entry.Entry.{Entry}
use Rattle.causal_base.specs.declared.entry.Entry.TheVariants.{Came, Gone, Pair, Ended}
use Rattle.causal_base.specs.declared.event.Event.{Event}
use Rattle.causal_base.specs.declared.limits.TheConstants.{MOST_COLLECTORS, MOST_EVENTS}
use Rattle.causal_base.specs.Types.{TypeTable}
use Rattle.causal_base.specs.InTurn.{DeliversSomething}
use Rattle.causal_base.specs.Journal.{IsLegal, IsSettled, came_by}
use Rattle.causal_base.specs.Past.{HasEnded, HasNoNext, IsLegalPast, IsNext}
use Rattle.causal_base.proofs.CallerLemmas.{Contains-cons, Contains-here, Contains-there, reverse-push}
use Rattle.cluster_levels.specs.Levels as levels
use Rattle.delivery.specs.Leading.{entry_of}
use Rattle.event_book.specs.declared.report.FeedReport.{FeedReport}
use Rattle.event_book.specs.declared.setup.Setup.{Setup}
use Rattle.event_book.specs.Appending.{MayAppend}
use Rattle.event_book.specs.Desks.{AreEnded, IsDesk}
use Rattle.event_book.specs.Feeding.{Delivers, Takes, TakesOne}
use Rattle.event_book.specs.Setups.{IsOfCollectors}
use Rattle.event_book.specs.Stamping.{StampedState}
use Rattle.event_book.proofs.Blocks.{came_after}
use Rattle.event_book.proofs.Settling.{all_append, not_ended}

-- whether nothing is Next
pub settled_told : (types : TypeTable) (journal : List Entry) (next : Option Block) → IfSome next (IsNext types (reverse journal)) → IfNone next (HasNoNext types (reverse journal))
    → (told : Bool) → is_some next ≡ not told → (IsTrue told) ↔ (IsSettled types journal)
settled_told types journal None some none true is = (λ yes. none, λ settled. refl)
settled_told types journal None some none false is = absurd cc
settled_told types journal (Some block) some none true is = absurd cc
settled_told types journal (Some block) some none false is = (λ yes. absurd cc, λ settled. absurd (settled block some.enabled))

-- entries that deliver name no collector
pub no_collectors : (collectors : ℕ) (more : List Entry) → AllByRecursion DeliversSomething more → AllByRecursion (IsOfCollectors collectors) more
no_collectors collectors [] all = tt
no_collectors collectors (Came collector e ∷ more) all = absurd all.0
no_collectors collectors (Gone a ∷ more) all = (tt, no_collectors collectors more all.1)
no_collectors collectors (Pair a b ∷ more) all = (tt, no_collectors collectors more all.1)
no_collectors collectors (Ended collector ∷ more) all = absurd all.0

-- who has ended still has
pub ended_stays : (collector : ℕ) (journal more : List Entry) → HasEnded (reverse journal) collector → HasEnded (reverse (journal ++ more)) collector
ended_stays collector journal [] ended = subst (λ (l : List Entry). HasEnded (reverse l) collector) (sym (append-nil journal)) ended
ended_stays collector journal (entry ∷ more) ended =
    let one = subst (λ (l : List Entry). HasEnded l collector) (sym (reverse-push journal entry)) (Contains-there entry (reverse journal) (Ended collector) ended) in
    subst (λ (l : List Entry). HasEnded (reverse l) collector) (append_assoc journal (entry ∷ []) more) (ended_stays collector (journal ++ entry ∷ []) more one)

-- the same have ended after entries by which none does
pub ended_same : (ended : List Bool) (journal more : List Entry) → ((collector : ℕ) → HasEnded (reverse (journal ++ more)) collector → HasEnded (reverse journal) collector) → AreEnded ended journal → AreEnded ended (journal ++ more)
ended_same ended journal more none are collector below = (
  λ flag. ended_stays collector journal more ((are collector below).0 flag),
  λ has. (are collector below).1 (none collector has),
)

-- a desk of which the journal went on by entries by which no collector ends
pub desk_on : (setup : Setup) (state later : StampedState) (ended : List Bool) (more : List Entry) → IsDesk setup state ended → later.types ≡ state.types → levels.clustering_of later.levels ≡ levels.clustering_of state.levels → later.journal ≡ state.journal ++ more
    → AllByRecursion (IsOfCollectors setup.collectors) more → ((collector : ℕ) → HasEnded (reverse (state.journal ++ more)) collector → HasEnded (reverse state.journal) collector) → IsDesk setup later ended
desk_on setup state later ended more is types clustering journal all none = record {
  is_setup = is.is_setup;
  types_are = types ∙ is.types_are;
  clustering_is = clustering ∙ is.clustering_is;
  of_collectors = subst (AllByRecursion (IsOfCollectors setup.collectors)) (sym journal) (all_append (IsOfCollectors setup.collectors) state.journal more is.of_collectors all);
  are_ended = subst (AreEnded ended) (sym journal) (ended_same ended state.journal more none is.are_ended);
}

-- by deliveries
pub desk_delivers : (setup : Setup) (state later : StampedState) (ended : List Bool) → IsDesk setup state ended → later.types ≡ state.types → levels.clustering_of later.levels ≡ levels.clustering_of state.levels → Delivers state.types state.journal later.journal → IsDesk setup later ended
desk_delivers setup state later ended is types clustering on =
    desk_on setup state later ended on.more is types clustering on.goes_on (no_collectors setup.collectors on.more on.delivers) (λ collector has. not_ended collector state.journal on.more on.delivers has)

-- one more entry ends another collector, or none
pub push_ended : (journal : List Entry) (entry : Entry) (collector : ℕ) → (entry ≡ Ended collector → ⊥) → HasEnded (reverse (journal ++ entry ∷ [])) collector → HasEnded (reverse journal) collector
push_ended journal entry collector not ended = elim (Contains-cons entry (reverse journal) (Ended collector) (subst (λ (l : List Entry). HasEnded l collector) (reverse-push journal entry) ended)) [
  | inl is ↦ absurd (not is)
  | inr inside ↦ inside
]

-- a collector ended
pub desk_ended : (setup : Setup) (state later : StampedState) (ended : List Bool) (collector : ℕ) → IsDesk setup state ended → length ended ≡ MOST_COLLECTORS → collector < setup.collectors → later.types ≡ state.types → levels.clustering_of later.levels ≡ levels.clustering_of state.levels
    → later.journal ≡ state.journal ++ Ended collector ∷ [] → IsDesk setup later (set ended collector true)
desk_ended setup state later ended collector is long below types clustering journal =
    let most = is.is_setup.most in
    let within : collector < length ended = omega (arith, long, below, most) in
    let push = reverse-push state.journal (Ended collector) in
    record {
      is_setup = is.is_setup;
      types_are = types ∙ is.types_are;
      clustering_is = clustering ∙ is.clustering_is;
      of_collectors = subst (AllByRecursion (IsOfCollectors setup.collectors)) (sym journal) (all_append (IsOfCollectors setup.collectors) state.journal (Ended collector ∷ []) is.of_collectors (below, tt));
      are_ended = subst (AreEnded (set ended collector true)) (sym journal) (λ k k_in. elim (cases_eq k collector) [
        | inl same ↦ (
          λ flag. subst (λ (l : List Entry). HasEnded l k) (sym push) (subst (λ (x : ℕ). Contains (Ended collector ∷ reverse state.journal) (Ended x)) (sym same) (Contains-here (Ended collector) (reverse state.journal))),
          λ has. subst (λ (x : ℕ). slice_index_or (set ended collector true) x false ≡ true) (sym same) (get_or-set_same ended collector true false within),
        )
        | inr apart ↦ (
          λ flag. ended_stays k state.journal (Ended collector ∷ []) ((is.are_ended k k_in).0 (sym (get_or-set_other ended collector k true false apart) ∙ flag)),
          λ has. get_or-set_other ended collector k true false apart ∙ (is.are_ended k k_in).1 (push_ended state.journal (Ended collector) k (λ is_it. apart (let same : collector ≡ k = cc in sym same)) has),
        )
      ]);
    }

-- by one event that a collector brings
pub desk_takes_one : (setup : Setup) (types : TypeTable) (collector : ℕ) (e : Event) (before : List Entry) (counted : FeedReport) (after : List Entry) (report : FeedReport) → collector < setup.collectors → TakesOne types collector e before counted after report
    → (more : List Entry) × (after ≡ before ++ more) × AllByRecursion (IsOfCollectors setup.collectors) more × ((other : ℕ) → HasEnded (reverse after) other → HasEnded (reverse before) other)
desk_takes_one setup types collector e before counted after report below one =
    let first = no_collectors setup.collectors one.settles.more one.settles.delivers in
    let still : (other : ℕ) → HasEnded (reverse one.between) other → HasEnded (reverse before) other =
    λ other has. not_ended other before one.settles.more one.settles.delivers (subst (λ (l : List Entry). HasEnded (reverse l) other) one.settles.goes_on has) in
    elim one.comes [
      | inl accepted ↦ (
        one.settles.more ++ Came collector e ∷ [],
        accepted.stands ∙ (ap (λ (l : List Entry). l ++ Came collector e ∷ []) one.settles.goes_on ∙ append_assoc before one.settles.more (Came collector e ∷ [])),
        all_append (IsOfCollectors setup.collectors) one.settles.more (Came collector e ∷ []) first (below, tt),
        λ other has. still other (push_ended one.between (Came collector e) other (λ is. absurd cc) (subst (λ (l : List Entry). HasEnded (reverse l) other) accepted.stands has)),
      )
      | inr known ↦ elim known [
        | inl repeat ↦ (one.settles.more, repeat.same ∙ one.settles.goes_on, first, λ other has. still other (subst (λ (l : List Entry). HasEnded (reverse l) other) repeat.same has))
        | inr clash ↦ (one.settles.more, clash.same ∙ one.settles.goes_on, first, λ other has. still other (subst (λ (l : List Entry). HasEnded (reverse l) other) clash.same has))
      ]
    ]

-- by events
pub desk_takes : (setup : Setup) (types : TypeTable) (collector : ℕ) (events : List Event) (before : List Entry) (counted : FeedReport) (after : List Entry) (report : FeedReport) → collector < setup.collectors → Takes types collector events before counted after report
    → (more : List Entry) × (after ≡ before ++ more) × AllByRecursion (IsOfCollectors setup.collectors) more × ((other : ℕ) → HasEnded (reverse after) other → HasEnded (reverse before) other)
desk_takes setup types collector [] before counted after report below taken = (
  taken.0.more,
  taken.0.goes_on,
  no_collectors setup.collectors taken.0.more taken.0.delivers,
  λ other has. not_ended other before taken.0.more taken.0.delivers (subst (λ (l : List Entry). HasEnded (reverse l) other) taken.0.goes_on has),
)
desk_takes setup types collector (e ∷ events) before counted after report below (between, one_more, one, rest) =
    let first = desk_takes_one setup types collector e before counted between one_more below one in
    let others = desk_takes setup types collector events between one_more after report below rest in (
      first.0 ++ others.0,
      others.1 ∙ (ap (λ (l : List Entry). l ++ others.0) first.1 ∙ append_assoc before first.0 others.0),
      all_append (IsOfCollectors setup.collectors) first.0 others.0 first.2 others.2,
      λ other has. first.3 other (others.3 other has),
    )

-- a block may be appended exactly where it is Next
pub may_block : (types : TypeTable) (journal : List Entry) (block : Block) → IsLegal types journal → length (came_by journal) ≤ MOST_EVENTS → (MayAppend types journal (entry_of block)) ↔ (IsNext types (reverse journal) block)
may_block types journal (One a) legal few = (
  λ may. (subst (IsLegalPast types) (reverse-push journal (Gone a)) may.legal).0,
  λ next. record {
    legal = subst (IsLegalPast types) (sym (reverse-push journal (Gone a))) (next, legal);
    few = subst (λ (es : List Event). length es ≤ MOST_EVENTS) (sym (came_after journal (One a))) few;
  },
)
may_block types journal (Two a b) legal few = (
  λ may. (subst (IsLegalPast types) (reverse-push journal (Pair a b)) may.legal).0,
  λ next. record {
    legal = subst (IsLegalPast types) (sym (reverse-push journal (Pair a b))) (next, legal);
    few = subst (λ (es : List Event). length es ≤ MOST_EVENTS) (sym (came_after journal (Two a b))) few;
  },
)
