-- How many entries a settled journal has.
use Rattle.std.proofs.Common.{◌≡◌, ◌≤◌, ◌+◌, ◌*◌, ℕ, inl, inr, List, [], ◌∷◌, ◌++◌, length, refl, sym, ◌∙◌, ap, subst, arith, Bool, true, false, cond, Option, None, Some}
use Rattle.std.specs.Prelude.{Contains, count_by, option_to_list}
use Rattle.causal_base.specs.declared.entry.Entry.{Entry}
use Rattle.causal_base.specs.declared.entry.Entry.TheVariants.{Came, Gone, Pair, Ended}
use Rattle.causal_base.specs.declared.event.Event.{Event}
use Rattle.causal_base.specs.declared.kind.Kind.{Kind}
use Rattle.causal_base.specs.declared.kind.Kind.TheVariants.{Unary, Send, Receive, Sync, Watch}
use Rattle.causal_base.specs.Types.{TypeTable, kind_of}
use Rattle.causal_base.specs.History.{EventBlock, alone, together, all_events, IsCausal}
use Rattle.causal_base.specs.Past.{came, deliveries, delivered, HasEnded, HasNoNext, IsLegalPast}
use Rattle.causal_base.proofs.CallerLemmas.{Contains-cons, Contains-here, Contains-there, Contains-nil, IsNumbered, history_of_past, number_within, numbered, causal, ready_no_sync, count_by-cons, without}
use Rattle.causal_laws.proofs.Enabled.{settled_has}

-- no element stands twice
abbrev AreDistinct : {A : Type 0} → List A → Type 0
AreDistinct [] = Unit {0}
AreDistinct (x ∷ xs) = (Contains xs x → ⊥) × AreDistinct xs

-- distinct elements that are all among others pass a test no more often than those
count_by-among : {A : Type 0} (test : A → Bool) (xs : List A) → AreDistinct xs → (ys : List A) → ((x : A) → Contains xs x → Contains ys x) → count_by test xs ≤ count_by test ys
count_by-among test [] h ys among = omega arith
count_by-among test (x ∷ xs) h ys among =
    let rest = without ys x (among x (Contains-here x xs)) in
    let fewer = count_by-among test xs h.1 rest.0 (λ y inside. rest.2 y (among y (Contains-there x xs y inside)) (λ same. h.0 (subst (Contains xs) same inside))) in
    let first = count_by-cons test x xs in
    let others = rest.3 test in
    omega (arith, first, others, fewer)

count_by-same : {A : Type 0} (test : A → Bool) (xs ys : List A) → AreDistinct xs → AreDistinct ys → ((x : A) → Contains xs x → Contains ys x) → ((y : A) → Contains ys y → Contains xs y) → count_by test xs ≡ count_by test ys
count_by-same test xs ys h k forth back =
    let most = count_by-among test xs h ys forth in
    let least = count_by-among test ys k xs back in
    omega (arith, most, least)

length-counted : {A : Type 0} (xs : List A) → count_by (λ _. true) xs ≡ length xs
length-counted [] = refl
length-counted {A} (x ∷ xs) =
    let first = count_by-cons (λ (y : A). true) x xs in
    let rest = length-counted xs in
    omega (arith, first, rest)

length-same : {A : Type 0} (xs ys : List A) → AreDistinct xs → AreDistinct ys → ((x : A) → Contains xs x → Contains ys x) → ((y : A) → Contains ys y → Contains xs y) → length xs ≡ length ys
length-same {A} xs ys h k forth back = sym (length-counted xs) ∙ (count_by-same (λ (x : A). true) xs ys h k forth back ∙ length-counted ys)

numbered_are_distinct : (es : List Event) → IsNumbered es → AreDistinct es
numbered_are_distinct [] h = tt
numbered_are_distinct (e ∷ es) h = ((λ inside. let most = (number_within es h.1 e inside).1 in omega (arith, most, h.0)), numbered_are_distinct es h.1)

-- whether a type's events are halves of pairs
abbrev is_sync_kind : Option Kind → Bool
is_sync_kind None = false
is_sync_kind (Some Unary) = false
is_sync_kind (Some Send) = false
is_sync_kind (Some Receive) = false
is_sync_kind (Some Sync) = true
is_sync_kind (Some Watch) = false

abbrev is_sync : TypeTable → Event → Bool
is_sync types e = is_sync_kind (kind_of types e.type_no)

is_sync-not : (kind : Option Kind) → (kind ≡ Some Sync → ⊥) → is_sync_kind kind ≡ false
is_sync-not None other = refl
is_sync-not (Some Unary) other = refl
is_sync-not (Some Send) other = refl
is_sync-not (Some Receive) other = refl
is_sync-not (Some Sync) other = absurd (other refl)
is_sync-not (Some Watch) other = refl

-- so many deliveries as events, where each pair counts once
count_of_deliveries : (types : TypeTable) (ds : List EventBlock) → IsCausal types ds → 2 * length ds + count_by (is_sync types) (all_events ds) ≡ 2 * length (all_events ds)
count_of_deliveries types [] h = refl
count_of_deliveries types (alone e ∷ ds) h =
    let not_sync = is_sync-not (kind_of types e.type_no) (λ sync. ready_no_sync types (all_events ds) e h.0.1 sync) in
    let bit : ◌≡◌ {A = ℕ} (cond (is_sync types e) 1 0) 0 = ap (λ b. cond b 1 0) not_sync in
    let first = count_by-cons (is_sync types) e (all_events ds) in
    let rest = count_of_deliveries types ds h.1 in
    omega (arith, bit, first, rest)
count_of_deliveries types (together a b ∷ ds) h =
    let a_bit : ◌≡◌ {A = ℕ} (cond (is_sync types a) 1 0) 1 = ap (λ k. cond (is_sync_kind k) 1 0) h.0.2.first in
    let b_bit : ◌≡◌ {A = ℕ} (cond (is_sync types b) 1 0) 1 = ap (λ k. cond (is_sync_kind k) 1 0) h.0.2.second in
    let first = count_by-cons (is_sync types) b (a ∷ all_events ds) in
    let second = count_by-cons (is_sync types) a (all_events ds) in
    let rest = count_of_deliveries types ds h.1 in
    omega (arith, a_bit, b_bit, first, second, rest)

-- the collectors that ended
abbrev ended : List Entry → List ℕ
ended [] = []
ended (Came collector e ∷ past) = ended past
ended (Gone a ∷ past) = ended past
ended (Pair a b ∷ past) = ended past
ended (Ended collector ∷ past) = collector ∷ ended past

ended-member : (past : List Entry) (collector : ℕ) → Contains (ended past) collector → HasEnded past collector
ended-member [] collector inside = absurd (Contains-nil collector inside)
ended-member (Came c e ∷ past) collector inside = Contains-there (Came c e) past (Ended collector) (ended-member past collector inside)
ended-member (Gone a ∷ past) collector inside = Contains-there (Gone a) past (Ended collector) (ended-member past collector inside)
ended-member (Pair a b ∷ past) collector inside = Contains-there (Pair a b) past (Ended collector) (ended-member past collector inside)
ended-member (Ended c ∷ past) collector inside = elim (Contains-cons c (ended past) collector inside) [
  | inl is ↦ subst (λ x. Contains (Ended c ∷ past) (Ended x)) is (Contains-here (Ended c) past)
  | inr rest ↦ Contains-there (Ended c) past (Ended collector) (ended-member past collector rest)
]

ended-from : (past : List Entry) (collector : ℕ) → HasEnded past collector → Contains (ended past) collector
ended-from [] collector has = absurd (Contains-nil (Ended collector) has)
ended-from (Came c e ∷ past) collector has = elim (Contains-cons (Came c e) past (Ended collector) has) [ inl is ↦ absurd cc | inr rest ↦ ended-from past collector rest ]
ended-from (Gone a ∷ past) collector has = elim (Contains-cons (Gone a) past (Ended collector) has) [ inl is ↦ absurd cc | inr rest ↦ ended-from past collector rest ]
ended-from (Pair a b ∷ past) collector has = elim (Contains-cons (Pair a b) past (Ended collector) has) [ inl is ↦ absurd cc | inr rest ↦ ended-from past collector rest ]
ended-from (Ended c ∷ past) collector has = elim (Contains-cons (Ended c) past (Ended collector) has) [
  | inl is ↦ let same : c ≡ collector = cc in subst (Contains (c ∷ ended past)) same (Contains-here c (ended past))
  | inr rest ↦ Contains-there c (ended past) collector (ended-from past collector rest)
]

module _ (types : TypeTable) where
  came_are_distinct : (past : List Entry) → IsLegalPast types past → AreDistinct (came past)
  came_are_distinct [] h = tt
  came_are_distinct (Came c e ∷ past) h = ((λ inside. h.0.new (e, inside, refl)), came_are_distinct past h.1)
  came_are_distinct (Gone a ∷ past) h = came_are_distinct past h.1
  came_are_distinct (Pair a b ∷ past) h = came_are_distinct past h.1
  came_are_distinct (Ended c ∷ past) h = came_are_distinct past h.1

  ended_are_distinct : (past : List Entry) → IsLegalPast types past → AreDistinct (ended past)
  ended_are_distinct [] h = tt
  ended_are_distinct (Came c e ∷ past) h = ended_are_distinct past h.1
  ended_are_distinct (Gone a ∷ past) h = ended_are_distinct past h.1
  ended_are_distinct (Pair a b ∷ past) h = ended_are_distinct past h.1
  ended_are_distinct (Ended c ∷ past) h = ((λ inside. h.0 (ended-member past c inside)), ended_are_distinct past h.1)

  -- each entry is of an event that came, of a delivery, or of an end
  length-parts : (past : List Entry) → IsLegalPast types past → length past ≡ length (came past) + length (deliveries past) + length (ended past)
  length-parts [] h = refl
  length-parts (Came c e ∷ past) h = let rest = length-parts past h.1 in omega (arith, rest)
  length-parts (Gone a ∷ past) h =
      let rest = length-parts past h.1 in
      let one = ap (λ o. length (option_to_list o ++ deliveries past)) h.0.enabled.came_in in
      omega (arith, rest, one)
  length-parts (Pair a b ∷ past) h =
      let rest = length-parts past h.1 in
      let one = ap (λ o. length (option_to_list o ++ deliveries past)) h.0.enabled.came_in in
      omega (arith, rest, one)
  length-parts (Ended c ∷ past) h = let rest = length-parts past h.1 in omega (arith, rest)

  pub settled_length : (past other : List Entry) → IsLegalPast types past → IsLegalPast types other → HasNoNext types past → HasNoNext types other
      → ((e : Event) → Contains (came past) e → Contains (came other) e) → ((e : Event) → Contains (came other) e → Contains (came past) e)
      → ((collector : ℕ) → HasEnded past collector → HasEnded other collector) → ((collector : ℕ) → HasEnded other collector → HasEnded past collector)
      → length past ≡ length other
  settled_length past other legal other_legal settled other_settled forth back ends ends_too =
      let came_same = length-same (came past) (came other) (came_are_distinct past legal) (came_are_distinct other other_legal) forth back in
      let ended_same = length-same (ended past) (ended other) (ended_are_distinct past legal) (ended_are_distinct other other_legal)
      (λ c inside. ended-from other c (ends c (ended-member past c inside))) (λ c inside. ended-from past c (ends_too c (ended-member other c inside))) in
      let its_causal = causal types past legal in
      let other_causal = causal types other other_legal in
      let its_distinct = numbered_are_distinct (delivered past) (numbered types (deliveries past) its_causal) in
      let other_distinct = numbered_are_distinct (delivered other) (numbered types (deliveries other) other_causal) in
      let has = λ (e : Event) (inside : Contains (delivered past) e). settled_has types (came other) (deliveries other) (came past) (deliveries past) (history_of_past types other other_legal) (history_of_past types past legal) other_settled forth e inside in
      let has_too = λ (e : Event) (inside : Contains (delivered other) e). settled_has types (came past) (deliveries past) (came other) (deliveries other) (history_of_past types past legal) (history_of_past types other other_legal) settled back e inside in
      let gone_same = length-same (delivered past) (delivered other) its_distinct other_distinct has has_too in
      let sync_same = count_by-same (is_sync types) (delivered past) (delivered other) its_distinct other_distinct has has_too in
      let one = count_of_deliveries types (deliveries past) its_causal in
      let two = count_of_deliveries types (deliveries other) other_causal in
      let parts = length-parts past legal in
      let other_parts = length-parts other other_legal in
      omega (arith, came_same, ended_same, gone_same, sync_same, one, two, parts, other_parts)
