-- What one thread takes, collector after collector, is taken in turn.
use Rattle.std.proofs.Common.{◌≡◌, ◌+◌, ◌<◌, ℕ, suc, List, [], ◌∷◌, ◌++◌, length, refl, sym, ◌∙◌, ap, subst, arith, inl, inr, append_assoc, append-nil}
use Rattle.std.specs.List.{AllByRecursion}
use Rattle.causal_base.specs.declared.block.Block.TheVariants.{One, Two}
use Rattle.causal_base.specs.declared.entry.Entry.{Entry}
use Rattle.causal_base.specs.declared.entry.Entry.TheVariants.{Came, Gone, Pair, Ended}
use Rattle.causal_base.specs.declared.event.Event.{Event}
use Rattle.causal_base.specs.declared.limits.TheConstants.{MOST_EVENTS}
use Rattle.causal_base.specs.InTurn.{DeliversSomething, SettlesTo, TakesAllInTurn, TakesInTurn}
use Rattle.causal_base.specs.Journal.{IsLegal, IsSettled, came_by}
use Rattle.causal_base.specs.Past.{HasEvent, HasNoNext, IsLegalPast}
use Rattle.causal_base.specs.Types.{TypeTable}
use Rattle.causal_base.proofs.CallerLemmas.{reverse-push}
use Rattle.event_book.specs.declared.report.FeedReport.{FeedReport}
use Rattle.event_book.specs.Feeding.{Delivers, Takes, no_report}
use Rattle.event_book.proofs.CallerLemmas.{delivers_none, settles_from}
use Rattle.poet_serve.specs.Reading.{IsReadOf}
use Rattle.poet_serve.specs.Tallies.{HasCollected}
use Rattle.poet_serve.specs.Transcripts.{AreReadBy, Collected, IsMadeInTurn, HadMemory}

-- the prefixes of a legal journal are legal
abbrev pub PrefixesAreLegal : Type 0
PrefixesAreLegal = (types : TypeTable) (journal more : List Entry) → IsLegal types (journal ++ more) → IsLegal types journal

module _ (legal_prefix : PrefixesAreLegal) (types : TypeTable) where
  -- nothing goes where nothing is left that may
  none_goes : (before : List Entry) (entry : Entry) → IsSettled types before → DeliversSomething entry → IsLegal types (before ++ entry ∷ []) → ⊥
  none_goes before (Came collector e) settled delivers legal = absurd delivers
  none_goes before (Gone a) settled delivers legal = let past = subst (IsLegalPast types) (reverse-push before (Gone a)) legal in settled (One a) past.0.enabled
  none_goes before (Pair a b) settled delivers legal = let past = subst (IsLegalPast types) (reverse-push before (Pair a b)) legal in settled (Two a b) past.0.enabled
  none_goes before (Ended collector) settled delivers legal = absurd delivers

  stays : (before more : List Entry) → IsSettled types before → AllByRecursion DeliversSomething more → IsLegal types (before ++ more) → more ≡ []
  stays before [] settled delivers legal = refl
  stays before (entry ∷ more) settled delivers legal =
      absurd (none_goes before entry settled delivers.0 (legal_prefix types (before ++ entry ∷ []) more (subst (IsLegal types) (sym (append_assoc before (entry ∷ []) more)) legal)))

  same_journal : (before after : List Entry) → IsSettled types before → Delivers types before after → after ≡ before
  same_journal before after settled on =
      let none = stays before on.more settled on.delivers (subst (IsLegal types) on.goes_on on.legal) in
      on.goes_on ∙ (ap (λ (l : List Entry). before ++ l) none ∙ append-nil before)

  delivers_of : (before after : List Entry) → SettlesTo types before after → Delivers types before after
  delivers_of before after settles = record { more = settles.more; goes_on = settles.goes_on; delivers = settles.delivers; legal = settles.legal }

  -- all is delivered first that may go
  settle_first : (collector : ℕ) (events : List Event) (before after : List Entry) (counted report : FeedReport) → Takes types collector events before counted after report → IsSettled types after
      → (mid : List Entry) × SettlesTo types before mid × Takes types collector events mid counted after report
  settle_first collector [] before after counted report taken settled = (after, settles_from types before after taken.0 settled, (delivers_none types after taken.0.legal, taken.1))
  settle_first collector (e ∷ events) before after counted report (between, one_more, one, rest) settled =
      (one.between, one.settles, (between, one_more, record { between = one.between; settles = settles_from types one.between one.between (delivers_none types one.between one.settles.legal) one.settles.settled; comes = one.comes }, rest))

  -- and so the events of a collector are taken in turn
  taken_in_turn : (collector : ℕ) (events : List Event) (before after : List Entry) (counted report : FeedReport) → Takes types collector events before counted after report → IsSettled types before → IsSettled types after
      → TakesInTurn types MOST_EVENTS collector events before (after ++ Ended collector ∷ [])
  taken_in_turn collector [] before after counted report taken settled at_end = ap (λ (l : List Entry). l ++ Ended collector ∷ []) (same_journal before after settled taken.0)
  taken_in_turn collector (e ∷ events) before after counted report (between, one_more, one, rest) settled at_end =
      let here : one.between ≡ before = same_journal before one.between settled (delivers_of before one.between one.settles) in
      elim one.comes [
        | inl accepted ↦
            let new = subst (λ (l : List Entry). HasEvent (came_by l) e.id → ⊥) here accepted.new in
            let room = subst (λ (l : List Entry). length (came_by l) < MOST_EVENTS) here accepted.room in
            let next : between ≡ before ++ Came collector e ∷ [] = accepted.stands ∙ ap (λ (l : List Entry). l ++ Came collector e ∷ []) here in
            let first = settle_first collector events between after one_more report rest at_end in
            inr (inr (first.0, record { new = new; room = room; settles = subst (λ (l : List Entry). SettlesTo types l first.0) next first.1 }, taken_in_turn collector events first.0 after one_more report first.2 first.1.settled at_end))
        | inr known ↦
            let at : (between ≡ one.between) × HasEvent (came_by one.between) e.id = elim known [
              | inl repeat ↦ (repeat.same, (e, repeat.known, refl))
              | inr clash ↦ (clash.same, clash.known)
            ] in
            let same : between ≡ before = at.0 ∙ here in
            inl (
              subst (λ (l : List Entry). HasEvent (came_by l) e.id) here at.1,
              taken_in_turn collector events before after one_more report (subst (λ (l : List Entry). Takes types collector events l one_more after report) same rest) settled at_end,
            )
      ]

  -- the lists of several collectors, and one list more
  pub all_with : (first at : ℕ) (lists : List (List Event)) (events : List Event) (before mid after : List Entry) → at ≡ first + length lists → TakesAllInTurn types MOST_EVENTS first lists before mid → TakesInTurn types MOST_EVENTS at events mid after
      → TakesAllInTurn types MOST_EVENTS first (lists ++ events ∷ []) before after
  all_with first at [] events before mid after so_many taken more =
      let here : at ≡ first = so_many ∙ omega arith in
      (after, subst (λ (n : ℕ). TakesInTurn types MOST_EVENTS n events before after) here (subst (λ (l : List Entry). TakesInTurn types MOST_EVENTS at events l after) taken more), refl)
  all_with first at (list ∷ lists) events before mid after so_many (between, one, rest) more =
      (between, one, all_with (suc first) at lists events between mid after (so_many ∙ omega arith) rest more)

  -- nothing goes where nothing came
  none_enabled : IsSettled types []
  none_enabled (One a) enabled = let clash = enabled.came_in in cc
  none_enabled (Two a b) enabled = let clash = enabled.came_in in cc

  -- a collector's end lets nothing go
  settled_end : (journal : List Entry) (collector : ℕ) → IsSettled types journal → IsSettled types (journal ++ Ended collector ∷ [])
  settled_end journal collector settled = subst (λ (past : List Entry). HasNoNext types past) (sym (reverse-push journal (Ended collector))) settled

  read_with : (all : List Collected) (lists : List (List Event)) (one : Collected) (events : List Event) → AreReadBy types all lists → IsReadOf types one.before one.after one.told.stop events → AreReadBy types (all ++ one ∷ []) (lists ++ events ∷ [])
  read_with [] [] one events read is = (is, tt)
  read_with [] (list ∷ lists) one events read is = absurd read
  read_with (other ∷ all) [] one events read is = absurd read
  read_with (other ∷ all) (list ∷ lists) one events read is = (read.0, read_with all lists one events read.1 is)

  read_many : (all : List Collected) (lists : List (List Event)) → AreReadBy types all lists → length lists ≡ length all
  read_many [] [] read = refl
  read_many [] (list ∷ lists) read = absurd read
  read_many (other ∷ all) [] read = absurd read
  read_many (other ∷ all) (list ∷ lists) read = ap suc (read_many all lists read.1)

  split_all : (all : List Collected) (one : Collected) → AllByRecursion HadMemory (all ++ one ∷ []) → AllByRecursion HadMemory all × HadMemory one
  split_all [] one on = (tt, on.0)
  split_all (other ∷ all) one on = let rest = split_all all one on.1 in ((on.0, rest.0), rest.1)

  -- one collector more
  pub turn_on : (journal after_end : List Entry) (collector : ℕ) (all : List Collected) (one : Collected) → length all ≡ collector → HasCollected types collector one.before one.after one.told journal after_end
      → (AllByRecursion HadMemory all → IsMadeInTurn types all journal × IsSettled types journal) → AllByRecursion HadMemory (all ++ one ∷ []) → IsMadeInTurn types (all ++ one ∷ []) after_end × IsSettled types after_end
  turn_on journal after_end collector all one so_many has made on =
      let both = split_all all one on in
      let so_far = made both.0 in
      let at_end = has.settled both.1 so_far.1 in
      let turn = taken_in_turn collector has.events journal has.until_end no_report has.counted has.takes so_far.1 at_end in
      let many = read_many all so_far.0.lists so_far.0.read in (
        record {
          lists = so_far.0.lists ++ has.events ∷ [];
          read = read_with all so_far.0.lists one has.events so_far.0.read has.read;
          in_turn = all_with 0 collector so_far.0.lists has.events [] journal after_end (omega (arith, many, so_many)) so_far.0.in_turn (subst (λ (l : List Entry). TakesInTurn types MOST_EVENTS collector has.events journal l) (sym has.ends) turn);
        },
        subst (IsSettled types) (sym has.ends) (settled_end has.until_end collector at_end),
      )

  -- and a desk that is settled then
  pub turn_settled : (journal after : List Entry) (all : List Collected) → Delivers types journal after → (AllByRecursion HadMemory all → IsMadeInTurn types all journal × IsSettled types journal) → AllByRecursion HadMemory all → IsMadeInTurn types all after
  turn_settled journal after all delivers made on =
      let so_far = made on in
      subst (IsMadeInTurn types all) (sym (same_journal journal after so_far.1 delivers)) so_far.0

  -- where no collector is read yet
  pub turn_none : IsMadeInTurn types [] [] × IsSettled types []
  turn_none = (record { lists = []; read = tt; in_turn = refl }, none_enabled)
