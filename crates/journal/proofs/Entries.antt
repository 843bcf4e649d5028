-- The entries that marks stand for, as events and marks are added.
use Rattle.std.proofs.Common.{◌≡◌, ℕ, suc, zero, List, [], ◌∷◌, ◌++◌, length, length-append, refl, sym, ◌∙◌, ap, arith, None, Some, Option}
use Rattle.std.specs.Prelude.{slice_get, option_and_then, All, IsSome}
use Rattle.std.specs.Option.{is_some, option_map, option_to_list}
use Rattle.std.proofs.lemmas.List.Concat.{flat_map-append}
use Rattle.std.proofs.lemmas.List.Elements.{All-head, All-tail, All-weaker}
use Rattle.causal_base.specs.declared.entry.Entry.{Entry}
use Rattle.causal_base.specs.declared.entry.Entry.TheVariants as owned
use Rattle.causal_base.specs.declared.event.Event.{Event}
use Rattle.journal.specs.declared.mark.Mark.{Mark}
use Rattle.journal.specs.declared.mark.Mark.TheVariants.{Came, Gone, Pair, Ended}
use Rattle.journal.specs.Marks.{entry_of, entries_of}

-- an element that is there stays there when more come
pub slice_get_more : {A : Type 0} (xs ys : List A) (k : ℕ) (x : A) → slice_get xs k ≡ Some x → slice_get (xs ++ ys) k ≡ Some x
slice_get_more [] ys k x h = absurd cc
slice_get_more (z ∷ zs) ys zero x h = h
slice_get_more (z ∷ zs) ys (suc k) x h = slice_get_more zs ys k x h

pub slice_get_last : {A : Type 0} (xs : List A) (x : A) → slice_get (xs ++ x ∷ []) (length xs) ≡ Some x
slice_get_last [] x = refl
slice_get_last (z ∷ zs) x = slice_get_last zs x

-- the marks each stand for an entry
abbrev pub AreWhole : List Event → List Mark → Type 0
AreWhole events marks = All (λ mark. IsSome (entry_of events mark)) marks

module _ (events more : List Event) where
  same_event : (place : ℕ) → IsSome (slice_get events place) → slice_get (events ++ more) place ≡ slice_get events place
  same_event place h = elim (slice_get events place) as (λ o. slice_get events place ≡ o → IsSome o → slice_get (events ++ more) place ≡ o) [
    | None ↦ λ is some. absurd cc
    | Some e ↦ λ is some. slice_get_more events more place e is
  ] refl h

  some_from_map : {A B : Type 0} (f : A → B) (o : Option A) → IsSome (option_map f o) → IsSome o
  some_from_map f None h = absurd cc
  some_from_map f (Some x) h = refl

  -- a mark that stands for an entry stands for it when more events come
  pub same_entry : (mark : Mark) → IsSome (entry_of events mark) → entry_of (events ++ more) mark ≡ entry_of events mark
  same_entry (Came collector place) h = ap (option_map (λ e. owned.Came collector e)) (same_event place (some_from_map (λ e. owned.Came collector e) (slice_get events place) h))
  same_entry (Gone place) h = ap (option_map (λ (e : Event). owned.Gone e.id)) (same_event place (some_from_map (λ (e : Event). owned.Gone e.id) (slice_get events place) h))
  same_entry (Pair first second) h =
      elim (slice_get events first) as (λ o. slice_get events first ≡ o → IsSome (option_and_then (λ (a : Event). option_map (λ (b : Event). owned.Pair a.id b.id) (slice_get events second)) o) → entry_of (events ++ more) (Pair first second) ≡ option_and_then (λ (a : Event). option_map (λ (b : Event). owned.Pair a.id b.id) (slice_get events second)) o) [
        | None ↦ λ is some. absurd cc
        | Some a ↦ λ is some.
            ap (option_and_then (λ (a : Event). option_map (λ (b : Event). owned.Pair a.id b.id) (slice_get (events ++ more) second))) (slice_get_more events more first a is)
            ∙ ap (option_map (λ (b : Event). owned.Pair a.id b.id)) (same_event second (some_from_map (λ (b : Event). owned.Pair a.id b.id) (slice_get events second) some))
      ] refl h
  same_entry (Ended collector) h = refl

  pub same_entries : (marks : List Mark) → AreWhole events marks → entries_of (events ++ more) marks ≡ entries_of events marks
  same_entries [] whole = refl
  same_entries (mark ∷ marks) whole =
      ap (λ o. option_to_list o ++ entries_of (events ++ more) marks) (same_entry mark (All-head (λ m. IsSome (entry_of events m)) mark marks whole))
      ∙ ap (λ es. option_to_list (entry_of events mark) ++ es) (same_entries marks (All-tail (λ m. IsSome (entry_of events m)) mark marks whole))

  pub whole_too : (marks : List Mark) → AreWhole events marks → AreWhole (events ++ more) marks
  whole_too marks whole = All-weaker (λ m. IsSome (entry_of events m)) (λ m. IsSome (entry_of (events ++ more) m)) (λ m some. ap is_some (same_entry m some) ∙ some) marks whole

module _ (events : List Event) where
  -- one mark more is one entry more
  pub entries_push : (marks : List Mark) (mark : Mark) (entry : Entry) → entry_of events mark ≡ Some entry → entries_of events (marks ++ mark ∷ []) ≡ entries_of events marks ++ entry ∷ []
  entries_push marks mark entry is =
      flat_map-append (λ m. option_to_list (entry_of events m)) marks (mark ∷ [])
      ∙ ap (λ o. entries_of events marks ++ (option_to_list o ++ [])) is

  length_one : (o : Option Entry) → IsSome o → length (option_to_list o) ≡ 1
  length_one None h = absurd cc
  length_one (Some x) h = refl

  -- as many entries as marks
  pub length_entries : (marks : List Mark) → AreWhole events marks → length (entries_of events marks) ≡ length marks
  length_entries [] whole = refl
  length_entries (mark ∷ marks) whole =
      let one = length_one (entry_of events mark) (All-head (λ m. IsSome (entry_of events m)) mark marks whole) in
      let rest = length_entries marks (All-tail (λ m. IsSome (entry_of events m)) mark marks whole) in
      let both = length-append (option_to_list (entry_of events mark)) (entries_of events marks) in
      omega (arith, one, rest, both)

  at_or_past : (mark : Mark) (marks : List Mark) (entry : Entry) → entry_of events mark ≡ Some entry → ((k : ℕ) → slice_get (entries_of events marks) k ≡ option_and_then (entry_of events) (slice_get marks k)) → (k : ℕ) → slice_get (entry ∷ entries_of events marks) k ≡ option_and_then (entry_of events) (slice_get (mark ∷ marks) k)
  at_or_past mark marks entry is rest zero = sym is
  at_or_past mark marks entry is rest (suc k) = rest k

  -- and each at its place
  pub entry_at_place : (marks : List Mark) → AreWhole events marks → (k : ℕ) → slice_get (entries_of events marks) k ≡ option_and_then (entry_of events) (slice_get marks k)
  entry_at_place [] whole k = refl
  entry_at_place (mark ∷ marks) whole k =
      let some = All-head (λ m. IsSome (entry_of events m)) mark marks whole in
      elim (entry_of events mark) as (λ o. entry_of events mark ≡ o → IsSome o → slice_get (option_to_list o ++ entries_of events marks) k ≡ option_and_then (entry_of events) (slice_get (mark ∷ marks) k)) [
        | None ↦ λ is h. absurd cc
        | Some entry ↦ λ is h. at_or_past mark marks entry is (entry_at_place marks (All-tail (λ m. IsSome (entry_of events m)) mark marks whole)) k
      ] refl some
