-- How many different ids there are among events that are taken in turn: as many as come.
use Rattle.std.proofs.Common.{◌≡◌, ◌<◌, ◌≤◌, ◌⊎◌, ℕ, inl, inr, Bool, true, false, cond, List, [], ◌∷◌, ◌++◌, length, map, reverse, refl, sym, ◌∙◌, ap, subst, arith}
use Rattle.std.specs.Prelude.{Contains}
use Rattle.std.specs.Cmp.{IsEquivalence}
use Rattle.std.specs.List.{AllByRecursion, IsDistinct}
use Rattle.std.specs.Set.{distinct_count, is_member, unique_keys}
use Rattle.std.proofs.lemmas.Bool.{or_left, or_right, or_cases}
use Rattle.std.proofs.lemmas.List.{reverse-append, length-map}
use Rattle.std.proofs.lemmas.List.Elements.{Contains-append_left, Contains-append_right}
use Rattle.std.proofs.lemmas.Map.Keys.{IsDistinct-cons}
use Rattle.std.proofs.lemmas.Map.Made.{IsDistinct-from_count, length-from_keys, length-le_from_is_member}
use Rattle.causal_base.specs.declared.entry.Entry.{Entry}
use Rattle.causal_base.specs.declared.entry.Entry.TheVariants.{Came, Gone, Pair, Ended}
use Rattle.causal_base.specs.declared.event.Event.{Event}
use Rattle.causal_base.specs.declared.event_id.EventId.{EventId}
use Rattle.causal_base.specs.Types.{TypeTable}
use Rattle.causal_base.specs.InTurn.{DeliversSomething, SettlesTo, ComesInTurn}
use Rattle.causal_base.specs.Past.{came, is_same_id, HasEvent, IsLegalPast}
use Rattle.causal_base.specs.Journal.{came_by, IsLegal}
use Rattle.causal_base.proofs.CallerLemmas.{is_same_id-same, same_from_is_same_id, reverse-push, came-append, Contains-cons, Contains-here, Contains-there, Contains-nil}
use Rattle.causal_base.specs.declared.limits.TheConstants.{MOST_EVENTS, MOST_PLAIN_EVENTS}
use Rattle.poet_top.specs.Ask.{count_of_ids}
use Rattle.poet_top.specs.Taking.{HaveSameIds, HasTaken}
use Rattle.poet_top.proofs.Turns.{took_known, took_new}

-- tests that are true together are one
one_answer : (b d : Bool) → (b ≡ true → d ≡ true) → (d ≡ true → b ≡ true) → b ≡ d
one_answer true d forth back = sym (forth refl)
one_answer false true forth back = back refl
one_answer false false forth back = refl

same_answer : (a b : EventId) → a ≡ b → is_same_id a b ≡ true
same_answer a b is = subst (λ v. is_same_id a v ≡ true) is (is_same_id-same a)

ids_are_compared : IsEquivalence is_same_id
ids_are_compared = record {
  refl = is_same_id-same;
  symm = λ x y. one_answer (is_same_id x y) (is_same_id y x) (λ is. same_answer y x (sym (same_from_is_same_id x y is))) (λ is. same_answer x y (sym (same_from_is_same_id y x is)));
  congr = λ x y z is. ap (λ v. is_same_id v z) (same_from_is_same_id x y is);
}

abbrev ids_of : List Event → List EventId
ids_of events = map (λ e. e.id) events

-- the id of an event is among the ids
member_of : (events : List Event) (id : EventId) → HasEvent events id → is_member is_same_id (ids_of events) id ≡ true
member_of [] id has = absurd (Contains-nil has.0 has.1)
member_of (e ∷ events) id has = elim (Contains-cons e events has.0 has.1) [
  | inl is ↦ or_left (is_same_id id e.id) (is_member is_same_id (ids_of events) id) (same_answer id e.id (sym has.2 ∙ ap (λ (v : Event). v.id) (sym is)))
  | inr inside ↦ or_right (is_same_id id e.id) (is_member is_same_id (ids_of events) id) (member_of events id (has.0, inside, has.2))
]

has_member : (events : List Event) (id : EventId) → is_member is_same_id (ids_of events) id ≡ true → HasEvent events id
has_member [] id member = cc
has_member (e ∷ events) id member = elim (or_cases (is_same_id id e.id) (is_member is_same_id (ids_of events) id) member) [
  | inl is ↦ (e, Contains-here e events, sym (same_from_is_same_id id e.id is))
  | inr rest ↦ let has = has_member events id rest in (has.0, Contains-there e events has.0 has.1, has.2)
]

same_members : (some others : List Event) → HaveSameIds some others → (id : EventId) → is_member is_same_id (ids_of some) id ≡ is_member is_same_id (ids_of others) id
same_members some others same id = one_answer (is_member is_same_id (ids_of some) id) (is_member is_same_id (ids_of others) id)
    (λ is. member_of others id (same.forth id (has_member some id is))) (λ is. member_of some id (same.back id (has_member others id is)))

-- one more event on both sides
pub one_more : (some others : List Event) (e : Event) → HaveSameIds some others → HaveSameIds (e ∷ some) (others ++ e ∷ [])
one_more some others e same = record {
  forth = λ id has. elim (Contains-cons e some has.0 has.1) [
    | inl is ↦ (has.0, subst (λ (v : Event). Contains (others ++ e ∷ []) v) is (at_end others), has.2)
    | inr inside ↦ (let there = same.forth id (has.0, inside, has.2) in (there.0, in_front others there.0 there.1, there.2))
  ];
  back = λ id has. elim (either others has.0 has.1) [
    | inl inside ↦ (let there = same.back id (has.0, inside, has.2) in (there.0, Contains-there e some there.0 there.1, there.2))
    | inr is ↦ (has.0, subst (λ (v : Event). Contains (e ∷ some) v) is (Contains-here e some), has.2)
  ];
}
  where
    at_end : (events : List Event) → Contains (events ++ e ∷ []) e
    at_end [] = Contains-here e []
    at_end (x ∷ events) = Contains-there x (events ++ e ∷ []) e (at_end events)

    in_front : (events : List Event) (y : Event) → Contains events y → Contains (events ++ e ∷ []) y
    in_front [] y inside = absurd (Contains-nil y inside)
    in_front (x ∷ events) y inside = elim (Contains-cons x events y inside) [
      | inl is ↦ subst (λ (v : Event). Contains (x ∷ events ++ e ∷ []) v) is (Contains-here x (events ++ e ∷ []))
      | inr rest ↦ Contains-there x (events ++ e ∷ []) y (in_front events y rest)
    ]

    either : (events : List Event) (y : Event) → Contains (events ++ e ∷ []) y → Contains events y ⊎ (e ≡ y)
    either [] y inside = elim (Contains-cons e [] y inside) [ inl is ↦ inr is | inr none ↦ absurd (Contains-nil y none) ]
    either (x ∷ events) y inside = elim (Contains-cons x (events ++ e ∷ []) y inside) [
      | inl is ↦ inl (subst (λ (v : Event). Contains (x ∷ events) v) is (Contains-here x events))
      | inr rest ↦ elim (either events y rest) [ inl older ↦ inl (Contains-there x events y older) | inr last ↦ inr last ]
    ]

-- an event of a known id on one side alone
pub known_more : (some others : List Event) (e : Event) → HaveSameIds some others → HasEvent some e.id → HaveSameIds some (others ++ e ∷ [])
known_more some others e same known =
    let more = one_more some others e same in
    record {
      forth = λ id has. more.forth id (has.0, Contains-there e some has.0 has.1, has.2);
      back = λ id has. (let there = more.back id has in elim (Contains-cons e some there.0 there.1)
          [ inl is ↦ subst (HasEvent some) (ap (λ (v : Event). v.id) is ∙ there.2) known | inr inside ↦ (there.0, inside, there.2) ]);
    }

-- a key is one of the unique ones
unique_member : (ids : List EventId) (id : EventId) → is_member is_same_id ids id ≡ true → is_member is_same_id (unique_keys is_same_id ids) id ≡ true
unique_member [] id member = member
unique_member (x ∷ ids) id member =
    elim (is_member is_same_id ids x) as (λ b. is_member is_same_id ids x ≡ b → is_member is_same_id (cond b (unique_keys is_same_id ids) (x ∷ unique_keys is_same_id ids)) id ≡ true) [
      | true ↦ λ again. elim (or_cases (is_same_id id x) (is_member is_same_id ids id) member) [
        | inl is ↦ unique_member ids id (subst (λ v. is_member is_same_id ids v ≡ true) (sym (same_from_is_same_id id x is)) again)
        | inr rest ↦ unique_member ids id rest
      ]
      | false ↦ λ once. elim (or_cases (is_same_id id x) (is_member is_same_id ids id) member) [
        | inl is ↦ or_left (is_same_id id x) (is_member is_same_id (unique_keys is_same_id ids) id) is
        | inr rest ↦ or_right (is_same_id id x) (is_member is_same_id (unique_keys is_same_id ids) id) (unique_member ids id rest)
      ]
    ] refl

-- an event with a new id is one more
new_distinct : (events : List Event) (e : Event) → (HasEvent events e.id → ⊥) → distinct_count is_same_id (ids_of events) ≡ length (ids_of events) → distinct_count is_same_id (ids_of (e ∷ events)) ≡ length (ids_of (e ∷ events))
new_distinct events e new distinct =
    elim (is_member is_same_id (ids_of events) e.id) as (λ b. is_member is_same_id (ids_of events) e.id ≡ b → length (cond b (unique_keys is_same_id (ids_of events)) (e.id ∷ unique_keys is_same_id (ids_of events))) ≡ length (ids_of (e ∷ events))) [
      | true ↦ λ is. absurd (new (has_member events e.id is))
      | false ↦ λ is. omega (arith, distinct)
    ] refl

-- what came to a legal journal has ids of its own
came_distinct : (types : TypeTable) (past : List Entry) → IsLegalPast types past → distinct_count is_same_id (ids_of (came past)) ≡ length (ids_of (came past))
came_distinct types [] legal = refl
came_distinct types (Came collector e ∷ past) legal =
    new_distinct (came past) e legal.0.new (came_distinct types past legal.1)
came_distinct types (Gone a ∷ past) legal = came_distinct types past legal.1
came_distinct types (Pair a b ∷ past) legal = came_distinct types past legal.1
came_distinct types (Ended collector ∷ past) legal = came_distinct types past legal.1

module _ (types : TypeTable) (journal : List Entry) (legal : IsLegal types journal) (events : List Event) (same : HaveSameIds (came_by journal) events) where
  -- as many ids as events that came
  pub count_is : count_of_ids events ≡ length (came_by journal)
  count_is =
      let count = length-from_keys ids_are_compared (ids_of (came_by journal)) (ids_of events)
      (IsDistinct-from_count ids_are_compared (ids_of (came_by journal)) (came_distinct types (reverse journal) legal))
      (same_members (came_by journal) events same) in
      sym count ∙ length-map (came_by journal) (λ (e : Event). e.id)

  -- and one more than these where one with a new id follows, and others
  pub count_more : (e : Event) (others : List Event) → (HasEvent (came_by journal) e.id → ⊥) → length (came_by journal) < count_of_ids (events ++ e ∷ others)
  count_more e others new =
      let came_now = came_by journal in
      let distinct = IsDistinct-from_count ids_are_compared (ids_of (e ∷ came_now)) (new_distinct came_now e new (came_distinct types (reverse journal) legal)) in
      let most = length-le_from_is_member ids_are_compared (ids_of (e ∷ came_now)) (unique_keys is_same_id (ids_of (events ++ e ∷ others))) distinct
      (λ id member. unique_member (ids_of (events ++ e ∷ others)) id (member_of (events ++ e ∷ others) id (in_all id (has_member (e ∷ came_now) id member)))) in
      let size = length-map came_now (λ (v : Event). v.id) in
      omega (arith, most, size)
    where
      in_all : (id : EventId) → HasEvent (e ∷ came_by journal) id → HasEvent (events ++ e ∷ others) id
      in_all id has = elim (Contains-cons e (came_by journal) has.0 has.1) [
        | inl is ↦ (has.0, subst (λ (v : Event). Contains (events ++ e ∷ others) v) is (Contains-append_right events (e ∷ others) e (Contains-here e others)), has.2)
        | inr inside ↦ (let there = same.forth id (has.0, inside, has.2) in (there.0, Contains-append_left events (e ∷ others) there.0 there.1, there.2))
      ]

-- deliveries bring no event
none_came : (more : List Entry) → AllByRecursion DeliversSomething more → came (reverse more) ≡ []
none_came [] delivers = refl
none_came (entry ∷ more) delivers =
    ap came (reverse-append (entry ∷ []) more) ∙ (came-append (reverse more) (entry ∷ []) ∙ (ap (λ es. es ++ came (entry ∷ [])) (none_came more delivers.1) ∙ brings_none entry delivers.0))
  where
    brings_none : (entry : Entry) → DeliversSomething entry → came (entry ∷ []) ≡ []
    brings_none (Came collector e) delivers = absurd delivers
    brings_none (Gone a) delivers = refl
    brings_none (Pair a b) delivers = refl
    brings_none (Ended collector) delivers = absurd delivers

-- what came where one event came and then deliveries settled
pub came_settled : (types : TypeTable) (before after : List Entry) (collector : ℕ) (e : Event) → SettlesTo types (before ++ Came collector e ∷ []) after → came_by after ≡ e ∷ came_by before
came_settled types before after collector e settles =
    ap came_by settles.goes_on
    ∙ (ap came (reverse-append (before ++ Came collector e ∷ []) settles.more)
    ∙ (came-append (reverse settles.more) (reverse (before ++ Came collector e ∷ []))
    ∙ (ap (λ es. es ++ came (reverse (before ++ Came collector e ∷ []))) (none_came settles.more settles.delivers)
    ∙ ap came (reverse-push before (Came collector e)))))

module _ (types : TypeTable) (events : List Event) (before : List Entry) (has : HasTaken types events before) (e : Event) where
  -- an event of a known id is passed over
  pub taken_known : HasEvent (came_by before) e.id → HasTaken types (events ++ e ∷ []) before
  taken_known known = record {
    took = took_known types events e before has.took known;
    legal = has.legal;
    same_ids = known_more (came_by before) events e has.same_ids known;
    few = has.few;
  }

  -- and one with a new id comes
  pub taken_new : (later : List Entry) → ComesInTurn types MOST_EVENTS 0 before e later → length (came_by before) < MOST_PLAIN_EVENTS → HasTaken types (events ++ e ∷ []) later
  taken_new later comes room =
      let now = came_settled types before later 0 e comes.settles in
      record {
        took = took_new types events e before later has.took comes;
        legal = comes.settles.legal;
        same_ids = subst (λ es. HaveSameIds es (events ++ e ∷ [])) (sym now) (one_more (came_by before) events e has.same_ids);
        few = (let size = ap length now in omega (arith, size, room));
      }

  -- where the list is full, there are more ids than it takes
  pub taken_many : (others : List Event) → (HasEvent (came_by before) e.id → ⊥) → length (came_by before) ≡ MOST_PLAIN_EVENTS → MOST_PLAIN_EVENTS < count_of_ids (events ++ e ∷ others)
  taken_many others new full = let more = count_more types before has.legal events has.same_ids e others new in omega (arith, more, full)

-- as many ids as the list takes, at most
pub taken_few : (types : TypeTable) (events : List Event) (journal : List Entry) → HasTaken types events journal → count_of_ids events ≤ MOST_PLAIN_EVENTS
taken_few types events journal has = let count = count_is types journal has.legal events has.same_ids in let few = has.few in omega (arith, count, few)

-- unique keys are keys, and differ
unique_from : (ids : List EventId) (id : EventId) → is_member is_same_id (unique_keys is_same_id ids) id ≡ true → is_member is_same_id ids id ≡ true
unique_from [] id member = member
unique_from (x ∷ ids) id member =
    elim (is_member is_same_id ids x) as (λ b. is_member is_same_id (cond b (unique_keys is_same_id ids) (x ∷ unique_keys is_same_id ids)) id ≡ true → is_member is_same_id (x ∷ ids) id ≡ true) [
      | true ↦ λ rest. or_right (is_same_id id x) (is_member is_same_id ids id) (unique_from ids id rest)
      | false ↦ λ either. elim (or_cases (is_same_id id x) (is_member is_same_id (unique_keys is_same_id ids) id) either) [
        | inl is ↦ or_left (is_same_id id x) (is_member is_same_id ids id) is
        | inr rest ↦ or_right (is_same_id id x) (is_member is_same_id ids id) (unique_from ids id rest)
      ]
    ] member

not_true : (b : Bool) → (b ≡ true → ⊥) → b ≡ false
not_true true not = absurd (not refl)
not_true false not = refl

none_same : (ids : List EventId) (id : EventId) → (is_member is_same_id ids id ≡ true → ⊥) → AllByRecursion (λ y. is_same_id id y ≡ false) ids
none_same [] id not = tt
none_same (x ∷ ids) id not = (
  not_true (is_same_id id x) (λ is. not (or_left (is_same_id id x) (is_member is_same_id ids id) is)),
  none_same ids id (λ rest. not (or_right (is_same_id id x) (is_member is_same_id ids id) rest)),
)

unique_distinct : (ids : List EventId) → IsDistinct is_same_id (unique_keys is_same_id ids)
unique_distinct [] = IsDistinct-from_count ids_are_compared [] refl
unique_distinct (x ∷ ids) =
    elim (is_member is_same_id ids x) as (λ b. is_member is_same_id ids x ≡ b → IsDistinct is_same_id (cond b (unique_keys is_same_id ids) (x ∷ unique_keys is_same_id ids))) [
      | true ↦ λ is. unique_distinct ids
      | false ↦ λ is. IsDistinct-cons is_same_id x (unique_keys is_same_id ids) (none_same (unique_keys is_same_id ids) x (λ member. (let there = unique_from ids x member in cc))) (unique_distinct ids)
    ] refl

-- further events have no fewer ids
pub count_front : (events others : List Event) → count_of_ids events ≤ count_of_ids (events ++ others)
count_front events others =
    length-le_from_is_member ids_are_compared (unique_keys is_same_id (ids_of events)) (unique_keys is_same_id (ids_of (events ++ others))) (unique_distinct (ids_of events))
    (λ id member. (let has = has_member events id (unique_from (ids_of events) id member) in
    unique_member (ids_of (events ++ others)) id (member_of (events ++ others) id (has.0, Contains-append_left events others has.0 has.1, has.2))))
