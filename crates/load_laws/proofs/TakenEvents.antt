-- What one thread takes of lists of events, in turn.
use Rattle.std.proofs.Common.{◌≡◌, ◌≢◌, ◌≤◌, ◌<◌, ◌+◌, ℕ, suc, inl, inr, List, [], ◌∷◌, ◌++◌, length, refl, sym, ◌∙◌, ap, subst, arith, get_or, length-append}
use Rattle.std.specs.Prelude.{Contains, AllPairs, reverse}
use Rattle.std.specs.List.{AllByRecursion, flat_map}
use Rattle.std.proofs.Math.Seq.{get_or-append_seam}
use Rattle.std.proofs.lemmas.List.{append-nil, append_assoc, get_or_append_left, length-reverse, reverse-append, reverse-reverse}
use Rattle.std.proofs.lemmas.List.Sorted.{IsPermutation-reverse, Contains-permutation}
use Rattle.causal_base.specs.declared.entry.Entry.{Entry}
use Rattle.causal_base.specs.declared.entry.Entry.TheVariants.{Came, Gone, Pair, Ended}
use Rattle.causal_base.specs.declared.event.Event.{Event}
use Rattle.causal_base.specs.Types.{TypeTable}
use Rattle.causal_base.specs.Past.{came, HasEvent}
use Rattle.causal_base.specs.Journal.{came_by}
use Rattle.causal_base.specs.InTurn.{DeliversSomething, SettlesTo, TakesInTurn, TakesAllInTurn}
use Rattle.causal_base.proofs.CallerLemmas.{came-append}

-- an entry by which nothing came adds nothing to what came, newest first
came-reverse_other : (entry : Entry) (journal : List Entry) → came (entry ∷ []) ≡ [] → came (reverse (entry ∷ journal)) ≡ came (reverse journal)
came-reverse_other entry journal none =
    ap came (reverse-append (entry ∷ []) journal)
    ∙ (came-append (reverse journal) (entry ∷ []) ∙ (ap (λ events. came (reverse journal) ++ events) none ∙ append-nil (came (reverse journal))))

-- what came, newest first, is what came, oldest first, the other way round
came-reverse : (journal : List Entry) → came (reverse journal) ≡ reverse (came journal)
came-reverse [] = refl
came-reverse (Came collector e ∷ journal) =
    ap came (reverse-append (Came collector e ∷ []) journal)
    ∙ (came-append (reverse journal) (Came collector e ∷ [])
    ∙ (ap (λ events. events ++ e ∷ []) (came-reverse journal) ∙ sym (reverse-append (e ∷ []) (came journal))))
came-reverse (Gone a ∷ journal) = came-reverse_other (Gone a) journal refl ∙ came-reverse journal
came-reverse (Pair a b ∷ journal) = came-reverse_other (Pair a b) journal refl ∙ came-reverse journal
came-reverse (Ended collector ∷ journal) = came-reverse_other (Ended collector) journal refl ∙ came-reverse journal

-- as many came, whichever is told first
length-came_by : (journal : List Entry) → length (came_by journal) ≡ length (came journal)
length-came_by journal = ap length (came-reverse journal) ∙ length-reverse (came journal)

-- an event that came is there, whichever is told first
came_in_order : (journal : List Entry) (e : Event) → Contains (came_by journal) e → Contains (came journal) e
came_in_order journal e inside =
    let events = came_by journal in
    subst (λ (others : List Event). Contains others e) (ap reverse (came-reverse journal) ∙ reverse-reverse (came journal))
    (Contains-permutation events (reverse events) e (IsPermutation-reverse events) inside)

-- by deliveries nothing comes
came-delivers : (more : List Entry) → AllByRecursion DeliversSomething more → came more ≡ []
came-delivers [] h = refl
came-delivers (Came collector e ∷ more) h = absurd h.0
came-delivers (Gone a ∷ more) h = came-delivers more h.1
came-delivers (Pair a b ∷ more) h = came-delivers more h.1
came-delivers (Ended collector ∷ more) h = absurd h.0

-- nor by the end of a collector
came-ends : (before : List Entry) (collector : ℕ) → came (before ++ Ended collector ∷ []) ≡ came before
came-ends before collector = came-append before (Ended collector ∷ []) ∙ append-nil (came before)

-- one event more came, and what is enabled then was delivered
came-comes : (types : TypeTable) (collector : ℕ) (before : List Entry) (e : Event) (after : List Entry) → SettlesTo types (before ++ Came collector e ∷ []) after → came after ≡ came before ++ e ∷ []
came-comes types collector before e after settles =
    ap came settles.goes_on
    ∙ (came-append (before ++ Came collector e ∷ []) settles.more
    ∙ (ap (λ events. came (before ++ Came collector e ∷ []) ++ events) (came-delivers settles.more settles.delivers)
    ∙ (append-nil (came (before ++ Came collector e ∷ [])) ∙ came-append before (Came collector e ∷ []))))

-- what stands before an element is related to it, where all pairs are
related_to_later : {A : Type 0} (R : A → A → Type 0) (xs : List A) (y : A) (ys : List A) → AllPairs R (xs ++ y ∷ ys) → (x : A) → Contains xs x → R x y
related_to_later R xs y ys pairs x inside =
    let within : length xs < length (xs ++ y ∷ ys) = omega (arith, length-append xs (y ∷ ys)) in
    let its = pairs inside.0 (length xs) x inside.1 within in
    let earlier = get_or_append_left xs (y ∷ ys) x inside.0 inside.1 ∙ inside.2 in
    subst (R x) (get_or-append_seam xs y ys x) (subst (λ z. R z (get_or (xs ++ y ∷ ys) (length xs) x)) earlier its)

module _ (types : TypeTable) (limit : ℕ) where
  -- no more come than a collector brings
  takes_no_more : (number : ℕ) (events : List Event) (before after : List Entry) → TakesInTurn types limit number events before after → length (came after) ≤ length (came before) + length events
  takes_no_more number [] before after is =
      let same = ap (λ journal. length (came journal)) is ∙ ap length (came-ends before number) in
      omega (arith, same)
  takes_no_more number (e ∷ events) before after (inl known) =
      let rest = takes_no_more number events before after known.1 in
      omega (arith, rest)
  takes_no_more number (e ∷ events) before after (inr (inl full)) =
      let same = ap (λ journal. length (came journal)) full.1 ∙ ap length (came-ends before number) in
      omega (arith, same)
  takes_no_more number (e ∷ events) before after (inr (inr new)) =
      let one = ap length (came-comes types number before e new.0 new.1.settles) in
      let rest = takes_no_more number events new.0 after new.2 in
      omega (arith, one, rest, length-append (came before) (e ∷ []))

  -- nor than several collectors bring
  takes_all_no_more : (number : ℕ) (lists : List (List Event)) (before after : List Entry) → TakesAllInTurn types limit number lists before after → length (came after) ≤ length (came before) + length (flat_map (λ events. events) lists)
  takes_all_no_more number [] before after is = let same = ap (λ journal. length (came journal)) is in omega (arith, same)
  takes_all_no_more number (events ∷ lists) before after step =
      let first = takes_no_more number events before step.0 step.1 in
      let rest = takes_all_no_more (suc number) lists step.0 after step.2 in
      omega (arith, first, rest, length-append events (flat_map (λ (es : List Event). es) lists))

  -- and so for the whole journal
  pub in_turn_no_more : (lists : List (List Event)) (journal : List Entry) → TakesAllInTurn types limit 0 lists [] journal → length (came_by journal) ≤ length (flat_map (λ events. events) lists)
  in_turn_no_more lists journal takes =
      let most = takes_all_no_more 0 lists [] journal takes in
      omega (arith, most, length-came_by journal)

  -- Where what came and is still to come makes up one list, no longer than the limit, and its events
  -- have ids of their own:
  module _ (whole : List Event) (own_ids : AllPairs (λ a b. a.id ≢ b.id) whole) (fits : length whole ≤ limit) where
    -- the next event is new
    is_new : (before : List Entry) (e : Event) (others : List Event) → came before ++ e ∷ others ≡ whole → HasEvent (came_by before) e.id → ⊥
    is_new before e others all has =
        related_to_later (λ (a b : Event). a.id ≢ b.id) (came before) e others (subst (λ (events : List Event). AllPairs (λ a b. a.id ≢ b.id) events) (sym all) own_ids)
        has.0 (came_in_order before has.0 has.1) has.2

    -- and there is room for it
    has_room : (before : List Entry) (e : Event) (others : List Event) → came before ++ e ∷ others ≡ whole → limit ≤ length (came_by before) → ⊥
    has_room before e others all full =
        let parts = ap length all in
        omega (arith, fits, full, parts, length-append (came before) (e ∷ others), length-came_by before)

    -- a collector brings all its events
    takes_each : (number : ℕ) (events rest : List Event) (before after : List Entry) → TakesInTurn types limit number events before after → came before ++ (events ++ rest) ≡ whole → came after ++ rest ≡ whole
    takes_each number [] rest before after is all = ap (λ journal. came journal ++ rest) is ∙ (ap (λ events. events ++ rest) (came-ends before number) ∙ all)
    takes_each number (e ∷ events) rest before after (inl known) all = absurd (is_new before e (events ++ rest) all known.0)
    takes_each number (e ∷ events) rest before after (inr (inl full)) all = absurd (has_room before e (events ++ rest) all full.0.full)
    takes_each number (e ∷ events) rest before after (inr (inr new)) all =
        let one = ap (λ came_then. came_then ++ (events ++ rest)) (came-comes types number before e new.0 new.1.settles) in
        takes_each number events rest new.0 after new.2 (one ∙ (append_assoc (came before) (e ∷ []) (events ++ rest) ∙ all))

    -- and so do several collectors
    takes_all_each : (number : ℕ) (lists : List (List Event)) (before after : List Entry) → TakesAllInTurn types limit number lists before after → came before ++ flat_map (λ events. events) lists ≡ whole → came after ≡ whole
    takes_all_each number [] before after is all = ap came is ∙ (sym (append-nil (came before)) ∙ all)
    takes_all_each number (events ∷ lists) before after step all =
        takes_all_each (suc number) lists step.0 after step.2 (takes_each number events (flat_map (λ (es : List Event). es) lists) before step.0 step.1 all)

  -- so the journal has all events in their order
  pub in_turn_all : (lists : List (List Event)) (journal : List Entry) → TakesAllInTurn types limit 0 lists [] journal → AllPairs (λ a b. a.id ≢ b.id) (flat_map (λ events. events) lists) → length (flat_map (λ events. events) lists) ≤ limit → came_by journal ≡ reverse (flat_map (λ events. events) lists)
  in_turn_all lists journal takes own_ids fits =
      came-reverse journal ∙ ap reverse (takes_all_each (flat_map (λ events. events) lists) own_ids fits 0 lists [] journal takes refl)
