-- What is known of the entries of a legal journal, and how many there are at most.
use Rattle.std.proofs.Common.{◌≡◌, ℕ, ◌+◌, ◌^◌, ◌<◌, ◌≤◌, zero, suc, inl, inr, List, [], ◌∷◌, ◌++◌, length, reverse, take, drop, take-append-drop, Some, refl, sym, ◌∙◌, ap, subst, arith}
use Rattle.std.specs.Prelude.{Contains}
use Rattle.std.specs.List.{AllByRecursion}
use Rattle.std.proofs.lemmas.List.{length-reverse, reverse-append, reverse-reverse}
use Rattle.std.proofs.lemmas.Bool.{cases_eq}
use Rattle.causal_base.specs.declared.block.Block.TheVariants.{One, Two}
use Rattle.causal_base.specs.declared.entry.Entry.{Entry}
use Rattle.causal_base.specs.declared.entry.Entry.TheVariants.{Came, Gone, Pair, Ended}
use Rattle.causal_base.specs.declared.event.Event.{Event}
use Rattle.causal_base.specs.declared.event_id.EventId.{EventId}
use Rattle.causal_base.specs.declared.limits.TheConstants.{MOST_COLLECTORS, MOST_EVENTS}
use Rattle.causal_base.specs.Clusters.{numbers_below}
use Rattle.causal_base.specs.Event.{IsFit, IsInRange}
use Rattle.causal_base.specs.History.{EventBlock, alone, together, all_events}
use Rattle.causal_base.specs.Journal.{IsLegal, came_by}
use Rattle.causal_base.specs.Past.{IsLegalPast, MayStand, came, deliveries, delivered, event_of, HasEnded}
use Rattle.causal_base.specs.Types.{TypeTable}
use Rattle.causal_base.proofs.CallerLemmas.{came_fit, deliveries-next, delivery_of-one, delivery_of-two, event_of-member, history_of_past, length-delivered, without, Contains-cons, Contains-here, Contains-there, Contains-nil}
use Rattle.text_laws.proofs.Entries.{IsReadable}
use Rattle.event_book.specs.Setups.{IsOfCollectors}

-- what holds of all of a list that is parted holds of its parts
pub all_parted : {X : Type 0} (P : X → Type 0) (xs ys : List X) → AllByRecursion P (xs ++ ys) → AllByRecursion P xs × AllByRecursion P ys
all_parted P [] ys all = (tt, all)
all_parted P (x ∷ xs) ys all = let rest = all_parted P xs ys all.1 in ((all.0, rest.0), rest.1)

-- what holds of all from the back holds of all
all_reversed : {X : Type 0} (P : X → Type 0) (xs : List X) → AllByRecursion P (reverse xs) → AllByRecursion P xs
all_reversed P [] all = tt
all_reversed P (x ∷ xs) all =
    let parts = all_parted P (reverse xs) (x ∷ []) (subst (AllByRecursion P) (reverse-append (x ∷ []) xs) all) in
    (parts.1.0, all_reversed P xs parts.0)

-- what stands before something in a legal past is legal
legal_behind : (types : TypeTable) (newer past : List Entry) → IsLegalPast types (newer ++ past) → IsLegalPast types past
legal_behind types [] past legal = legal
legal_behind types (one ∷ newer) past legal = legal_behind types newer past legal.1

-- what a legal journal goes on from is legal
pub legal_before : (types : TypeTable) (journal more : List Entry) → IsLegal types (journal ++ more) → IsLegal types journal
legal_before types journal more legal = legal_behind types (reverse more) (reverse journal) (subst (IsLegalPast types) (reverse-append journal more) legal)

-- the first entries of a legal journal are legal
pub legal_taken : (types : TypeTable) (journal : List Entry) → IsLegal types journal → (entries : ℕ) → IsLegal types (take entries journal)
legal_taken types journal legal entries = legal_before types (take entries journal) (drop entries journal) (subst (IsLegal types) (sym (take-append-drop entries journal)) legal)

-- an event that came is fit, and ids that are named are in range
abbrev IsSound : TypeTable → Entry → Type 0
IsSound types (Came collector e) = IsFit types e
IsSound types (Gone id) = IsInRange types id
IsSound types (Pair a b) = IsInRange types a × IsInRange types b
IsSound types (Ended collector) = Unit {0}

-- the id of an event that came is in range
found_in_range : (types : TypeTable) (past : List Entry) (id : EventId) (e : Event) → IsLegalPast types past → event_of (came past) id ≡ Some e → IsInRange types id
found_in_range types past id e legal found =
    let member = event_of-member (came past) id e found in
    subst (IsInRange types) member.1 (came_fit types past legal e member.0).id

may_be_sound : (types : TypeTable) (past : List Entry) (entry : Entry) → IsLegalPast types past → MayStand types past entry → IsSound types entry
may_be_sound types past (Came collector e) legal may = may.fit
may_be_sound types past (Gone id) legal may =
    let found = delivery_of-one (came past) id may.enabled.delivery may.enabled.came_in in
    found_in_range types past id found.0 legal found.1
may_be_sound types past (Pair a b) legal may =
    let found = delivery_of-two (came past) a b may.enabled.delivery may.enabled.came_in in
    (found_in_range types past a found.0 legal found.2, found_in_range types past b found.1 legal found.3)
may_be_sound types past (Ended collector) legal may = tt

past_is_sound : (types : TypeTable) (past : List Entry) → IsLegalPast types past → AllByRecursion (IsSound types) past
past_is_sound types [] legal = tt
past_is_sound types (entry ∷ past) legal = (may_be_sound types past entry legal.1 legal.0, past_is_sound types past legal.1)

sound_is_readable : (types : TypeTable) (collectors : ℕ) (entry : Entry) → collectors ≤ MOST_COLLECTORS → IsSound types entry → IsOfCollectors collectors entry → IsReadable types entry
sound_is_readable types collectors (Came collector e) few sound of = (omega arith, sound)
sound_is_readable types collectors (Gone id) few sound of = sound
sound_is_readable types collectors (Pair a b) few sound of = sound
sound_is_readable types collectors (Ended collector) few sound of = omega arith

all_readable : (types : TypeTable) (collectors : ℕ) (journal : List Entry) → collectors ≤ MOST_COLLECTORS → AllByRecursion (IsSound types) journal → AllByRecursion (IsOfCollectors collectors) journal → AllByRecursion (IsReadable types) journal
all_readable types collectors [] few sound of = tt
all_readable types collectors (entry ∷ journal) few sound of =
    (sound_is_readable types collectors entry few sound.0 of.0, all_readable types collectors journal few sound.1 of.1)

-- the entries of a legal journal can be read
pub journal_is_readable : (types : TypeTable) (collectors : ℕ) (journal : List Entry) → collectors ≤ MOST_COLLECTORS → IsLegal types journal → AllByRecursion (IsOfCollectors collectors) journal → AllByRecursion (IsReadable types) journal
journal_is_readable types collectors journal few legal of =
    all_readable types collectors journal few (all_reversed (IsSound types) journal (past_is_sound types (reverse journal) legal)) of

-- the collectors that ended
abbrev ends : List Entry → List ℕ
ends [] = []
ends (Came collector e ∷ past) = ends past
ends (Gone id ∷ past) = ends past
ends (Pair a b ∷ past) = ends past
ends (Ended collector ∷ past) = collector ∷ ends past

-- each entry is an event that came, delivers something, or is an end
counted : (types : TypeTable) (past : List Entry) → IsLegalPast types past → length past ≤ length (came past) + length (delivered past) + length (ends past)
counted types [] legal = omega arith
counted types (Came collector e ∷ past) legal = let rest = counted types past legal.1 in omega (arith, rest)
counted types (Gone id ∷ past) legal =
    let rest = counted types past legal.1 in
    let enabled = legal.0.enabled in
    let found = delivery_of-one (came past) id enabled.delivery enabled.came_in in
    let is : deliveries (Gone id ∷ past) ≡ alone found.0 ∷ deliveries past = deliveries-next (came past) (One id) enabled.delivery (deliveries past) enabled.came_in ∙ ap (λ (d : EventBlock). d ∷ deliveries past) found.2 in
    let more = ap (λ (ds : List EventBlock). length (all_events ds)) is in
    omega (arith, rest, more)
counted types (Pair a b ∷ past) legal =
    let rest = counted types past legal.1 in
    let enabled = legal.0.enabled in
    let found = delivery_of-two (came past) a b enabled.delivery enabled.came_in in
    let is : deliveries (Pair a b ∷ past) ≡ together found.0 found.1 ∷ deliveries past = deliveries-next (came past) (Two a b) enabled.delivery (deliveries past) enabled.came_in ∙ ap (λ (d : EventBlock). d ∷ deliveries past) found.4 in
    let more = ap (λ (ds : List EventBlock). length (all_events ds)) is in
    omega (arith, rest, more)
counted types (Ended collector ∷ past) legal = let rest = counted types past legal.1 in omega (arith, rest)

-- no element stands twice
abbrev AreDistinct : List ℕ → Type 0
AreDistinct [] = Unit {0}
AreDistinct (n ∷ ns) = (Contains ns n → ⊥) × AreDistinct ns

-- distinct numbers that are all among others are no more than those
no_more : (ns ms : List ℕ) → AreDistinct ns → ((n : ℕ) → Contains ns n → Contains ms n) → length ns ≤ length ms
no_more [] ms distinct among = omega arith
no_more (n ∷ ns) ms distinct among =
    let rest = without ms n (among n (Contains-here n ns)) in
    let fewer = no_more ns rest.0 distinct.1 (λ m inside. rest.2 m (among m (Contains-there n ns m inside)) (λ same. distinct.0 (subst (Contains ns) same inside))) in
    let size = rest.1 in
    omega (arith, size, fewer)

below_is_there : (most n : ℕ) → n < most → Contains (numbers_below most) n
below_is_there zero n below = absurd (omega (arith, below))
below_is_there (suc most) n below = elim (cases_eq n most) [
  | inl is ↦ subst (Contains (most ∷ numbers_below most)) (sym is) (Contains-here most (numbers_below most))
  | inr other ↦ Contains-there most (numbers_below most) n (below_is_there most n (omega arith))
]

length-below : (most : ℕ) → length (numbers_below most) ≡ most
length-below zero = refl
length-below (suc most) = omega (arith, length-below most)

-- a collector that ended has an end
has_end : (past : List Entry) (collector : ℕ) → Contains (ends past) collector → HasEnded past collector
has_end [] collector there = absurd (Contains-nil collector there)
has_end (Came other e ∷ past) collector there = Contains-there _ past _ (has_end past collector there)
has_end (Gone id ∷ past) collector there = Contains-there _ past _ (has_end past collector there)
has_end (Pair a b ∷ past) collector there = Contains-there _ past _ (has_end past collector there)
has_end (Ended other ∷ past) collector there = elim (Contains-cons other (ends past) collector there) [
  | inl is ↦ subst (λ (c : ℕ). HasEnded (Ended other ∷ past) c) is (Contains-here (Ended other) past)
  | inr inside ↦ Contains-there _ past _ (has_end past collector inside)
]

-- no collector ends twice
ends_are_distinct : (types : TypeTable) (past : List Entry) → IsLegalPast types past → AreDistinct (ends past)
ends_are_distinct types [] legal = tt
ends_are_distinct types (Came collector e ∷ past) legal = ends_are_distinct types past legal.1
ends_are_distinct types (Gone id ∷ past) legal = ends_are_distinct types past legal.1
ends_are_distinct types (Pair a b ∷ past) legal = ends_are_distinct types past legal.1
ends_are_distinct types (Ended collector ∷ past) legal = ((λ there. legal.0 (has_end past collector there)), ends_are_distinct types past legal.1)

-- who ended is one of the collectors
ends_are_below : (collectors : ℕ) (past : List Entry) → AllByRecursion (IsOfCollectors collectors) past → (n : ℕ) → Contains (ends past) n → n < collectors
ends_are_below collectors [] of n there = absurd (Contains-nil n there)
ends_are_below collectors (Came collector e ∷ past) of n there = ends_are_below collectors past of.1 n there
ends_are_below collectors (Gone id ∷ past) of n there = ends_are_below collectors past of.1 n there
ends_are_below collectors (Pair a b ∷ past) of n there = ends_are_below collectors past of.1 n there
ends_are_below collectors (Ended collector ∷ past) of n there = elim (Contains-cons collector (ends past) n there) [
  | inl is ↦ subst (λ (m : ℕ). m < collectors) is of.0
  | inr inside ↦ ends_are_below collectors past of.1 n inside
]

-- what holds of all holds of all from the back
all_from_back : {X : Type 0} (P : X → Type 0) (xs : List X) → AllByRecursion P xs → AllByRecursion P (reverse xs)
all_from_back P xs all = all_reversed P (reverse xs) (subst (AllByRecursion P) (sym (reverse-reverse xs)) all)

-- a legal journal of few events has few entries
pub journal_is_short : (types : TypeTable) (collectors : ℕ) (journal : List Entry) → collectors ≤ MOST_COLLECTORS → IsLegal types journal → length (came_by journal) ≤ MOST_EVENTS → AllByRecursion (IsOfCollectors collectors) journal → length journal < 2 ^ 64
journal_is_short types collectors journal few legal few_events of =
    let past = reverse journal in
    let parts : length past ≤ length (came past) + length (delivered past) + length (ends past) = counted types past legal in
    let gone : length (delivered past) ≤ length (came past) = length-delivered types (came past) (deliveries past) (history_of_past types past legal) in
    let below : length (ends past) ≤ collectors =
    (let fewer = no_more (ends past) (numbers_below collectors) (ends_are_distinct types past legal) (λ n there. below_is_there collectors n (ends_are_below collectors past (all_from_back (IsOfCollectors collectors) journal of) n there)) in
    let size = length-below collectors in omega (arith, fewer, size)) in
    let size : length past ≡ length journal = length-reverse journal in
    let most : length (came past) ≤ MOST_EVENTS = few_events in
    omega (arith, parts, gone, below, size, most)
