-- What a walk takes in.
use Rattle.std.proofs.Common.{◌≡◌, ◌≤◌, ◌<◌, ◌+◌, ◌*◌, ◌-◌, ℕ, suc, List, length, true, false, ◌⊎◌, inl, inr, refl, sym, ◌∙◌, ap, subst, arith, Some}
use Rattle.std.specs.Prelude.{slice_get, slice_index, Contains}
use Rattle.std.specs.Option.{unwrap_or}
use Rattle.std.proofs.Math.Nat.{mul-le-mul_right}
use Rattle.std.proofs.lemmas.Bool.{cases_lt}
use Rattle.std.proofs.lemmas.Option.{slice_get-get_or}
use Rattle.causal_base.specs.declared.event.Event.{Event}
use Rattle.causal_base.specs.Clusters.{levels_of}
use Rattle.causal_base.specs.Journal.{deliveries_by}
use Rattle.causal_base.specs.Stamps.{ClusterTimestamp, is_member, level_of, IsLastAbove, IsEntry}
use Rattle.precedence.specs.declared.walk.Wanted.{Wanted}
use Rattle.precedence.specs.declared.walk.Wanted.TheVariants.{One, All}
use Rattle.precedence.specs.StampedJournal.{StampedJournal, IsStampIn}
use Rattle.precedence.specs.Laws.{HasLaws}
use Rattle.precedence.specs.Walking.{AreWide, bound_from, GrowsWithin, HasWanted, IsBetween, IsDelivered, IsNumber, IsOver, IsWanted, RaisesParts, TakesIn, TakesInEntries}
use Rattle.precedence.proofs.Covering.{grows_none, grows_on, grows_further, covers_after}
use Rattle.precedence.proofs.Bounds.{bound_from-size}
use Rattle.precedence.proofs.OwnMembers.{number_of_part, place_of_member, part_of_member, all_are_members, as_many_above, few_by_size}
use Rattle.precedence.proofs.Lookups.{entry_is_last}

-- Where the entries on some traces are within the numbers, nothing is to be taken in.
pub passed_over : (w : StampedJournal) (wanted : Wanted) (e : Event) (On : ℕ → Type 0) (numbers : List ℕ) → ((r : Event) → IsEntry w.types w.clustering (deliveries_by w.journal) e r → On r.id.trace → r.id.number ≤ slice_index numbers r.id.trace) → TakesInEntries w wanted e On numbers numbers
passed_over w wanted e On numbers within = record {
  grown = grows_none w e numbers;
  kept = λ trace is covers. covers;
  reached = λ trace is covers r entry on n clock. covers r entry.last.among (within r entry on) n clock;
}

-- those on some traces, and then those on others
pub taken_on : (w : StampedJournal) (wanted : Wanted) (e : Event) (On Other : ℕ → Type 0) (before between after : List ℕ) → TakesInEntries w wanted e On before between → TakesInEntries w wanted e Other between after → TakesInEntries w wanted e (λ trace. On trace ⊎ Other trace) before after
taken_on w wanted e On Other before between after one other = record {
  grown = grows_on w e before between after one.grown other.grown;
  kept = λ trace is covers. other.kept trace is (one.kept trace is covers);
  reached = λ trace is covers r entry on n clock. elim on [
    | inl first ↦ (let got = one.reached trace is covers r entry first n clock in let up = other.grown.grows trace in omega (arith, got, up))
    | inr second ↦ other.reached trace is (one.kept trace is covers) r entry second n clock
  ];
}

pub taken_only : (w : StampedJournal) (wanted : Wanted) (e : Event) (On Other : ℕ → Type 0) (before after : List ℕ) → ((trace : ℕ) → Other trace → On trace) → TakesInEntries w wanted e On before after → TakesInEntries w wanted e Other before after
taken_only w wanted e On Other before after only taken = record {
  grown = taken.grown;
  kept = taken.kept;
  reached = λ trace is covers r entry on n clock. taken.reached trace is covers r entry (only r.id.trace on) n clock;
}

module _ (w : StampedJournal) (laws : HasLaws w) (wanted : Wanted) (e : Event) (there : IsDelivered w e) where
  module _ (trace level part : ℕ) (is : level ≡ level_of w.clustering (deliveries_by w.journal) e.id) (clock : IsNumber w e trace part) (before : List ℕ) where
    -- the part is within the numbers
    pub part_known : part ≤ slice_index before trace → TakesInEntries w wanted e (λ on. on ≡ trace) before before
    part_known within = passed_over w wanted e (λ on. on ≡ trace) before (λ r entry on.
        let most = (entry_is_last w laws e trace level part is clock r entry on).most in
        let same = ap (λ t. slice_index before t) on in
        omega (arith, most, within, same))

    -- there is no entry
    pub entry_missing : ((r : Event) → IsLastAbove w.clustering (deliveries_by w.journal) trace level part r → ⊥) → TakesInEntries w wanted e (λ on. on ≡ trace) before before
    entry_missing none = passed_over w wanted e (λ on. on ≡ trace) before (λ r entry on.
        absurd (none r (entry_is_last w laws e trace level part is clock r entry on)))

    module _ (r : Event) (last : IsLastAbove w.clustering (deliveries_by w.journal) trace level part r) where
      one_entry : (x : Event) → IsEntry w.types w.clustering (deliveries_by w.journal) e x → x.id.trace ≡ trace → r ≡ x
      one_entry x entry on = laws.entry_is_one trace level part r x last (entry_is_last w laws e trace level part is clock x entry on)

      -- the entry is within the numbers
      pub entry_known : r.id.number ≤ slice_index before trace → TakesInEntries w wanted e (λ on. on ≡ trace) before before
      entry_known within = passed_over w wanted e (λ on. on ≡ trace) before (λ x entry on.
          let number = ap (λ (y : Event). y.id.number) (one_entry x entry on) in
          let same = ap (λ t. slice_index before t) on in
          omega (arith, within, number, same))

      -- the entry was taken in
      pub entry_taken : (after : List ℕ) → TakesIn w wanted r before after → TakesInEntries w wanted e (λ on. on ≡ trace) before after
      entry_taken after taken =
          let reaches = laws.entry_reaches e there trace level part clock r last in record {
            grown = grows_further w laws r e there reaches before after taken.grown;
            kept = λ t wants covers. covers_after w laws r last.among before after taken.grown t covers (taken.reached t wants covers);
            reached = λ t wants covers x entry on n its. taken.reached t wants covers n (subst (λ (y : Event). IsNumber w y t n) (sym (one_entry x entry on)) its);
          }

  module _ (stamp : ClusterTimestamp) (of_e : IsStampIn w e stamp) where
    raised_within : (before after : List ℕ) → RaisesParts stamp before after → GrowsWithin w e before after
    raised_within before after raises = record {
      grows = raises.grows;
      within = λ trace n clock. elim (raises.no_other trace) [
        | inl same ↦ omega (arith, same)
        | inr part ↦ (let number = laws.clock_is_one e trace (slice_index after trace) n (number_of_part w laws e stamp of_e trace (slice_index after trace) part) clock in omega (arith, number))
      ];
    }

    raised_at : (before after : List ℕ) → RaisesParts stamp before after → (trace : ℕ) → trace < length before → Contains stamp.members trace → (n : ℕ) → IsNumber w e trace n → n ≤ slice_index after trace
    raised_at before after raises trace within member n clock =
        let part = part_of_member w laws e stamp of_e trace member in
        let same = laws.clock_is_one e trace part.0 n (number_of_part w laws e stamp of_e trace part.0 part.1) clock in
        let most = raises.raised trace part.0 within part.1 in
        omega (arith, same, most)

    -- the stamp has the numbers that are wanted
    pub own_taken : (before after : List ℕ) → AreWide w wanted before → HasWanted wanted (length before) stamp.members → RaisesParts stamp before after → TakesIn w wanted e before after
    own_taken before after wide has raises = record {
      grown = raised_within before after raises;
      reached = λ trace is covers n clock. raised_at before after raises trace (within wanted wide trace is) (member wanted wide has trace is) n clock;
    }
      where
        within : (wants : Wanted) → AreWide w wants before → (trace : ℕ) → IsWanted w wants trace → trace < length before
        within (One one) is_wide trace is = let lt = is_wide.0 in let le = is_wide.1 in omega (arith, is, lt, le)
        within All is_wide trace is = omega (arith, is_wide, is)

        member : (wants : Wanted) → AreWide w wants before → HasWanted wants (length before) stamp.members → (trace : ℕ) → IsWanted w wants trace → Contains stamp.members trace
        member (One one) is_wide has_it trace is = subst (Contains stamp.members) (sym is) has_it
        member All is_wide has_it trace is = all_are_members w laws e stamp of_e (has_it ∙ is_wide) trace is

    wanted_within : (wants : Wanted) (numbers : List ℕ) → AreWide w wants numbers → (trace : ℕ) → IsWanted w wants trace → (trace < w.types.traces) × (trace < length numbers)
    wanted_within (One one) numbers is_wide trace is = let lt = is_wide.0 in let le = is_wide.1 in (omega (arith, is, lt), omega (arith, is, lt, le))
    wanted_within All numbers is_wide trace is = (is, omega (arith, is_wide, is))

    -- the entries on all members were taken in, and then the own parts
    pub all_taken : (before between after : List ℕ) → AreWide w wanted before → length between ≡ length before → TakesInEntries w wanted e (IsBetween stamp.members 0 (length stamp.members)) before between → RaisesParts stamp between after → TakesIn w wanted e before after
    all_taken before between after wide as_long taken raises = record {
      grown = grows_on w e before between after taken.grown (raised_within between after raises);
      reached = λ trace is covers n clock.
          let below = wanted_within wanted before wide trace is in
          let up = raises.grows trace in
          elim (is_member w.clustering (deliveries_by w.journal) e.id trace) as (λ b. is_member w.clustering (deliveries_by w.journal) e.id trace ≡ b → n ≤ slice_index after trace) [
            | true ↦ λ inside. raised_at between after raises trace (let short = below.1 in omega (arith, short, as_long)) (place_of_member w laws e stamp of_e trace below.0 inside) n clock
            | false ↦ λ outside. elim (laws.entries e there trace outside n clock).one [
              | inl none ↦ omega (arith, none)
              | inr entry ↦
                  let r = entry.0 in
                  let its = entry.1 in
                  let on = place_of_member w laws e stamp of_e r.id.trace (laws.on_a_trace r its.last.among) its.member in
                  let place = slice_get-get_or stamp.members on.0 r.id.trace on.1 ∙ ap (λ k. Some k) on.2 in
                  let got = taken.reached trace is covers r its (on.0, omega arith, on.1, place) n entry.2 in
                  omega (arith, got, up)
            ]
          ] refl;
    }

    -- above the levels with a size a stamp has the numbers that are wanted
    has_above : (wants : Wanted) (numbers : List ℕ) → AreWide w wants numbers → levels_of w.clustering < stamp.level → HasWanted wants (length numbers) stamp.members
    has_above (One one) numbers is_wide high = all_are_members w laws e stamp of_e (as_many_above w laws e stamp of_e high) one is_wide.0
    has_above All numbers is_wide high = as_many_above w laws e stamp of_e high ∙ sym is_wide

    -- Where it hasn't, as many steps as its members take from the next level on are within the bound.
    pub steps_within : (numbers : List ℕ) → AreWide w wanted numbers → (HasWanted wanted (length numbers) stamp.members → ⊥) → length stamp.members * bound_from w (stamp.level + 1) + 1 ≤ bound_from w stamp.level
    steps_within numbers wide lacks = elim (cases_lt (levels_of w.clustering) stamp.level) [
      | inl high ↦ absurd (lacks (has_above wanted numbers wide high))
      | inr low ↦
          let few = few_by_size w laws e stamp of_e low in
          let least : 1 ≤ stamp.level = let one = laws.level_least e in let is = of_e.level in omega (arith, one, is) in
          let whole = bound_from-size w laws stamp.level least low in
          let times = mul-le-mul_right (bound_from w (stamp.level + 1)) few in
          omega (arith, whole, times)
    ]

wide_longer : (w : StampedJournal) (wanted : Wanted) (before after : List ℕ) → length after ≡ length before → AreWide w wanted before → AreWide w wanted after
wide_longer w (One one) before after same wide = let le = wide.1 in (wide.0, omega (arith, le, same))
wide_longer w All before after same wide = same ∙ wide

-- a walk goes on over numbers of the same length
pub over_longer : (w : StampedJournal) (lists : List (List ClusterTimestamp)) (wanted : Wanted) (before after : List ℕ) → length after ≡ length before → IsOver w lists wanted before → IsOver w lists wanted after
over_longer w lists wanted before after same over = record { stamps = over.stamps; wide = wide_longer w wanted before after same over.wide }

-- the places of a range, and one more
pub between_more : (members : List ℕ) (from place trace : ℕ) → slice_get members place ≡ Some trace → (on : ℕ) → IsBetween members from (place + 1) on → IsBetween members from place on ⊎ (on ≡ trace)
between_more members from place trace there on (at, least, most, is) = elim (cases_lt at place) [
  | inl before ↦ inl (at, least, before, is)
  | inr last ↦ (let same : at ≡ place = omega (arith, last, most) in inr (ap (λ o. unwrap_or o on) (sym is ∙ ap (slice_get members) same ∙ there)))
]

-- the places of two ranges that make up all
pub between_all : (members : List ℕ) (middle trace : ℕ) → IsBetween members 0 (length members) trace → IsBetween members middle (length members) trace ⊎ IsBetween members 0 middle trace
between_all members middle trace (at, least, most, is) = elim (cases_lt at middle) [
  | inl before ↦ inr (at, least, before, is)
  | inr past ↦ inl (at, past, most, is)
]

-- steps over one place more, and over two ranges
pub steps_more : (place from bound start so_far after : ℕ) → from ≤ place → so_far ≤ start + (place - from) * bound → after ≤ so_far + bound → after ≤ start + (place + 1 - from) * bound
steps_more place from bound start so_far after least one other =
    let k = place - from in
    let same : place + 1 - from ≡ suc k = omega (arith, least) in
    let times : suc k * bound ≡ bound + k * bound = omega arith in
    subst (λ j. after ≤ start + j * bound) (sym same) (omega (arith, one, other, times))

pub steps_both : (middle size bound start between after : ℕ) → middle ≤ size → between ≤ start + (size - middle) * bound → after ≤ between + middle * bound → after ≤ start + size * bound
steps_both middle size bound start between after most one other =
    let k = size - middle in
    let same : k + middle ≡ size = omega (arith, most) in
    let times : (k + middle) * bound ≡ k * bound + middle * bound = omega arith in
    subst (λ j. after ≤ start + j * bound) same (omega (arith, one, other, times))
