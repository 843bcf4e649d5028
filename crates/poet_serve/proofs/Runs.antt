-- The parts of collectors in a journal that goes on.
use Rattle.std.proofs.Common.{◌≡◌, ◌≢◌, ◌+◌, ◌<◌, ◌≤◌, ℕ, zero, suc, Bool, true, false, List, [], ◌∷◌, ◌++◌, length, length-append, reverse, refl, sym, ◌∙◌, ap, subst, arith, inl, inr, append_assoc}
use Rattle.std.specs.Prelude.{Contains, Result, Ok, Err, OnOk}
use Rattle.std.specs.Bool.{OnFalse, OnTrue}
use Rattle.std.specs.Result.{is_ok}
use Rattle.std.specs.List.{AllByRecursion}
use Rattle.std.proofs.lemmas.List.{reverse-append}
use Rattle.std.proofs.Math.Nat.{eq-or-lt_of_le}
use Rattle.std.proofs.lemmas.List.Elements.{Contains-append_cases, Contains-append_right}
use Rattle.causal_base.specs.declared.entry.Entry.{Entry}
use Rattle.causal_base.specs.declared.entry.Entry.TheVariants.{Came, Gone, Pair, Ended}
use Rattle.causal_base.specs.declared.event.Event.{Event}
use Rattle.causal_base.specs.declared.limits.TheConstants.{MOST_EVENTS}
use Rattle.causal_base.specs.InTurn.{DeliversSomething}
use Rattle.causal_base.specs.Journal.{IsSettled, came_by}
use Rattle.causal_base.specs.Past.{HasEnded, HasEvent, came}
use Rattle.causal_base.specs.Types.{TypeTable}
use Rattle.causal_base.proofs.CallerLemmas.{Contains-cons, Contains-here, Contains-nil, came-append, reverse-push}
use Rattle.client_session.specs.declared.command.Command.{Command}
use Rattle.client_session.specs.Replies.{HaveAllEnded}
use Rattle.event_book.specs.declared.report.FeedReport.{FeedReport}
use Rattle.event_book.specs.declared.setup.Setup.{Setup}
use Rattle.event_book.specs.Feeding.{Delivers, Takes, no_report}
use Rattle.event_book.specs.Setups.{IsJournalOf, IsOfCollectors}
use Rattle.event_book.proofs.CallerLemmas.{all_append}
use Rattle.poet_io.specs.SourceState.{SourceState}
use Rattle.poet_serve.specs.declared.report.ClientReport.{ClientReport}
use Rattle.poet_serve.specs.declared.report.CollectorReport.{CollectorReport}
use Rattle.poet_serve.specs.declared.report.Stop.{Stop}
use Rattle.poet_serve.specs.declared.report.Stop.TheVariants.{End, Read, Line, Full, Memory}
use Rattle.poet_serve.specs.Asking.{IsTold}
use Rattle.poet_serve.specs.Bringing.{IsOfAnother}
use Rattle.poet_serve.specs.Collecting.{IsPartOf, MeetsLimitAt, Told, told_by}
use Rattle.poet_serve.specs.Tallies.{HasCollected}
use Rattle.poet_serve.specs.Transcripts.{AreTold, Collected, HaveParts, IsTranscript, collected_by, seen_by}
use Rattle.poet_serve.proofs.Taken.{brings_later, taken_brings}

-- the events that came in more entries come before those that came
came_more : (journal more : List Entry) → came_by (journal ++ more) ≡ came (reverse more) ++ came_by journal
came_more journal more = ap came (reverse-append journal more) ∙ came-append (reverse more) (reverse journal)

none_came : (events all : List Event) (earlier : List Event) → all ≡ events ++ earlier → length all ≤ MOST_EVENTS → MOST_EVENTS ≤ length earlier → all ≡ earlier
none_came [] all earlier is most full = is
none_came (e ∷ events) all earlier is most full =
    let long = ap length is ∙ length-append (e ∷ events) earlier in
    absurd (omega (arith, long, most, full))

-- at the limit no more events come
limit_stays : (stop : Stop) (journal more : List Entry) → length (came_by (journal ++ more)) ≤ MOST_EVENTS → MeetsLimitAt journal stop → MeetsLimitAt (journal ++ more) stop
limit_stays End journal more few meets = tt
limit_stays Read journal more few meets = tt
limit_stays (Line error) journal more few meets = tt
limit_stays (Full id) journal more few meets =
    let same = none_came (came (reverse more)) (came_by (journal ++ more)) (came_by journal) (came_more journal more) few meets.0 in
    (subst (λ (es : List Event). MOST_EVENTS ≤ length es) (sym same) meets.0, subst (λ (es : List Event). HasEvent es id → ⊥) (sym same) meets.1)
limit_stays Memory journal more few meets = tt

-- a part stays where the journal goes on without its collector
pub part_stays : (types : TypeTable) (journal more : List Entry) (collector : ℕ) (before after : SourceState) (told : Told) → AllByRecursion (IsOfAnother collector) more → length (came_by (journal ++ more)) ≤ MOST_EVENTS
    → IsPartOf types journal collector before after told → IsPartOf types (journal ++ more) collector before after told
part_stays types journal more collector before after told others few part = record {
  events = part.events;
  read = part.read;
  counted = part.counted;
  until_end = part.until_end;
  brings = part.brings;
  told_is = part.told_is;
  behind = part.behind ++ more;
  whole = ap (λ (l : List Entry). l ++ more) part.whole ∙ append_assoc part.until_end (Ended collector ∷ part.behind) more;
  nothing_more = all_append (IsOfAnother collector) part.behind more part.nothing_more others;
  limit = limit_stays told.stop journal more few part.limit;
}

-- and so do those of all
pub parts_stay : (types : TypeTable) (journal more : List Entry) (first upto : ℕ) (all : List Collected) → upto ≡ first + length all → ((collector : ℕ) → collector < upto → AllByRecursion (IsOfAnother collector) more) → length (came_by (journal ++ more)) ≤ MOST_EVENTS
    → HaveParts types journal first all → HaveParts types (journal ++ more) first all
parts_stay types journal more first upto [] so_many others few parts = tt
parts_stay types journal more first upto (one ∷ all) so_many others few parts = (
  part_stays types journal more first one.before one.after one.told (others first (omega (arith, so_many))) few parts.0,
  parts_stay types journal more (suc first) upto all (omega (arith, so_many)) others few parts.1,
)

-- one part more
pub parts_with : (types : TypeTable) (journal : List Entry) (first at : ℕ) (all : List Collected) (one : Collected) → at ≡ first + length all → HaveParts types journal first all → IsPartOf types journal at one.before one.after one.told → HaveParts types journal first (all ++ one ∷ [])
parts_with types journal first at [] one so_many parts part = (subst (λ n. IsPartOf types journal n one.before one.after one.told) (so_many ∙ omega arith) part, tt)
parts_with types journal first at (other ∷ all) one so_many parts part = (parts.0, parts_with types journal (suc first) at all one (so_many ∙ omega arith) parts.1 part)

-- the collectors have ended
ended_in : (until_end behind : List Entry) (collector : ℕ) → HasEnded (reverse (until_end ++ Ended collector ∷ behind)) collector
ended_in until_end behind collector =
    let end : Contains (reverse (until_end ++ Ended collector ∷ [])) (Ended collector) = subst (λ (l : List Entry). Contains l (Ended collector)) (sym (reverse-push until_end (Ended collector))) (Contains-here (Ended collector) (reverse until_end)) in
    subst (λ (l : List Entry). Contains l (Ended collector)) (sym (ap reverse (sym (append_assoc until_end (Ended collector ∷ []) behind)) ∙ reverse-append (until_end ++ Ended collector ∷ []) behind))
    (Contains-append_right (reverse behind) (reverse (until_end ++ Ended collector ∷ [])) (Ended collector) end)

pub all_ended : (types : TypeTable) (journal : List Entry) (first collector : ℕ) (all : List Collected) → HaveParts types journal first all → first ≤ collector → collector < first + length all → HasEnded (reverse journal) collector
all_ended types journal first collector [] parts from within = absurd (omega (arith, from, within))
all_ended types journal first collector (one ∷ all) parts from within = elim (eq-or-lt_of_le from) [
  | inl is ↦ subst (λ n. HasEnded (reverse journal) n) is (subst (λ (l : List Entry). HasEnded (reverse l) first) (sym parts.0.whole) (ended_in parts.0.until_end parts.0.behind first))
  | inr other ↦ all_ended types journal (suc first) collector all parts.1 (omega (arith, from, other)) (omega (arith, within))
]

-- an entry is of one collector alone, or delivers
abbrev IsOnlyOf : ℕ → Entry → Type 0
IsOnlyOf collector (Came other e) = other ≡ collector
IsOnlyOf collector (Gone a) = Unit {0}
IsOnlyOf collector (Pair a b) = Unit {0}
IsOnlyOf collector (Ended other) = other ≡ collector

only_delivers : (collector : ℕ) (entries : List Entry) → AllByRecursion DeliversSomething entries → AllByRecursion (IsOnlyOf collector) entries
only_delivers collector [] all = tt
only_delivers collector (Came other e ∷ entries) all = absurd all.0
only_delivers collector (Gone a ∷ entries) all = (tt, only_delivers collector entries all.1)
only_delivers collector (Pair a b ∷ entries) all = (tt, only_delivers collector entries all.1)
only_delivers collector (Ended other ∷ entries) all = absurd all.0

pub only_others : (collector other : ℕ) → other ≢ collector → (entries : List Entry) → AllByRecursion (IsOnlyOf other) entries → AllByRecursion (IsOfAnother collector) entries
only_others collector other apart [] all = tt
only_others collector other apart (Came one e ∷ entries) all = ((λ is. apart (sym all.0 ∙ is)), only_others collector other apart entries all.1)
only_others collector other apart (Gone a ∷ entries) all = (tt, only_others collector other apart entries all.1)
only_others collector other apart (Pair a b ∷ entries) all = (tt, only_others collector other apart entries all.1)
only_others collector other apart (Ended one ∷ entries) all = ((λ is. apart (sym all.0 ∙ is)), only_others collector other apart entries all.1)

only_low : (collector : ℕ) (entries : List Entry) → AllByRecursion (IsOnlyOf collector) entries → AllByRecursion (IsOfCollectors (suc collector)) entries
only_low collector [] all = tt
only_low collector (Came one e ∷ entries) all = (let is = all.0 in omega (arith, is), only_low collector entries all.1)
only_low collector (Gone a ∷ entries) all = (tt, only_low collector entries all.1)
only_low collector (Pair a b ∷ entries) all = (tt, only_low collector entries all.1)
only_low collector (Ended one ∷ entries) all = (let is = all.0 in omega (arith, is), only_low collector entries all.1)

low_more : (collectors : ℕ) (entries : List Entry) → AllByRecursion (IsOfCollectors collectors) entries → AllByRecursion (IsOfCollectors (suc collectors)) entries
low_more collectors [] all = tt
low_more collectors (Came one e ∷ entries) all = (let is = all.0 in omega (arith, is), low_more collectors entries all.1)
low_more collectors (Gone a ∷ entries) all = (tt, low_more collectors entries all.1)
low_more collectors (Pair a b ∷ entries) all = (tt, low_more collectors entries all.1)
low_more collectors (Ended one ∷ entries) all = (let is = all.0 in omega (arith, is), low_more collectors entries all.1)

low_others : (collectors : ℕ) (entries : List Entry) → AllByRecursion (IsOfCollectors collectors) entries → AllByRecursion (IsOfAnother collectors) entries
low_others collectors [] all = tt
low_others collectors (Came one e ∷ entries) all = ((λ same. (let is = all.0 in omega (arith, is, same))), low_others collectors entries all.1)
low_others collectors (Gone a ∷ entries) all = (tt, low_others collectors entries all.1)
low_others collectors (Pair a b ∷ entries) all = (tt, low_others collectors entries all.1)
low_others collectors (Ended one ∷ entries) all = ((λ same. (let is = all.0 in omega (arith, is, same))), low_others collectors entries all.1)

not_end : (collectors : ℕ) (entry : Entry) → IsOfCollectors collectors entry → entry ≡ Ended collectors → ⊥
not_end collectors (Came one e) low is = absurd cc
not_end collectors (Gone a) low is = absurd cc
not_end collectors (Pair a b) low is = absurd cc
not_end collectors (Ended one) low is = let same : one ≡ collectors = cc in omega (arith, low, same)

-- deliveries are of no collector
delivers_others : (collector : ℕ) (entries : List Entry) → AllByRecursion DeliversSomething entries → AllByRecursion (IsOfAnother collector) entries
delivers_others collector [] all = tt
delivers_others collector (Came other e ∷ entries) all = absurd all.0
delivers_others collector (Gone a ∷ entries) all = (tt, delivers_others collector entries all.1)
delivers_others collector (Pair a b ∷ entries) all = (tt, delivers_others collector entries all.1)
delivers_others collector (Ended other ∷ entries) all = absurd all.0

-- a collector of which there is no entry hasn't ended
pub low_open : (collectors : ℕ) (entries : List Entry) → AllByRecursion (IsOfCollectors collectors) entries → HasEnded (reverse entries) collectors → ⊥
low_open collectors [] low ended = Contains-nil (Ended collectors) ended
low_open collectors (entry ∷ entries) low ended = elim (Contains-append_cases (reverse entries) (entry ∷ []) (Ended collectors) (subst (λ (l : List Entry). Contains l (Ended collectors)) (reverse-append (entry ∷ []) entries) ended)) [
  | inl inside ↦ low_open collectors entries low.1 inside
  | inr one ↦ elim (Contains-cons entry [] (Ended collectors) one) [
    | inl is ↦ not_end collectors entry low.0 is
    | inr inside ↦ Contains-nil (Ended collectors) inside
  ]
]

-- what is taken adds entries of this collector alone, and deliveries
taken_entries : (types : TypeTable) (collector : ℕ) (events : List Event) (before after : List Entry) (counted report : FeedReport) → Takes types collector events before counted after report → (more : List Entry) × (after ≡ before ++ more) × AllByRecursion (IsOnlyOf collector) more
taken_entries types collector [] before after counted report taken = (taken.0.more, taken.0.goes_on, only_delivers collector taken.0.more taken.0.delivers)
taken_entries types collector (e ∷ events) before after counted report (between, one_more, one, rest) =
    let later = taken_entries types collector events between after one_more report rest in
    let settled : one.between ≡ before ++ one.settles.more = one.settles.goes_on in
    let first : (more : List Entry) × (between ≡ before ++ more) × AllByRecursion (IsOnlyOf collector) more = elim one.comes [
      | inl accepted ↦ (
        one.settles.more ++ Came collector e ∷ [],
        accepted.stands ∙ (ap (λ (l : List Entry). l ++ Came collector e ∷ []) settled ∙ append_assoc before one.settles.more (Came collector e ∷ [])),
        all_append (IsOnlyOf collector) one.settles.more (Came collector e ∷ []) (only_delivers collector one.settles.more one.settles.delivers) (refl, tt),
      )
      | inr known ↦ elim known [
        | inl repeat ↦ (one.settles.more, repeat.same ∙ settled, only_delivers collector one.settles.more one.settles.delivers)
        | inr clash ↦ (one.settles.more, clash.same ∙ settled, only_delivers collector one.settles.more one.settles.delivers)
      ]
    ] in
    (first.0 ++ later.0, later.1 ∙ (ap (λ (l : List Entry). l ++ later.0) first.1 ∙ append_assoc before first.0 later.0), all_append (IsOnlyOf collector) first.0 later.0 first.2 later.2)

-- one collector more
pub collects_on : (types : TypeTable) (journal after_end : List Entry) (collector : ℕ) (all : List Collected) (one : Collected) → length all ≡ collector → AllByRecursion (IsOfCollectors collector) journal → length (came_by after_end) ≤ MOST_EVENTS
    → HasCollected types collector one.before one.after one.told journal after_end → HaveParts types journal 0 all → HaveParts types after_end 0 (all ++ one ∷ []) × AllByRecursion (IsOfCollectors (suc collector)) after_end
collects_on types journal after_end collector all one so_many low few has parts =
    let taken = taken_entries types collector has.events journal has.until_end no_report has.counted has.takes in
    let more : List Entry = taken.0 ++ Ended collector ∷ [] in
    let only = all_append (IsOnlyOf collector) taken.0 (Ended collector ∷ []) taken.2 (refl, tt) in
    let whole : after_end ≡ journal ++ more = has.ends ∙ (ap (λ (l : List Entry). l ++ Ended collector ∷ []) taken.1 ∙ append_assoc journal taken.0 (Ended collector ∷ [])) in
    let fewer = subst (λ (l : List Entry). length (came_by l) ≤ MOST_EVENTS) whole few in
    let others : (c : ℕ) → c < collector → AllByRecursion (IsOfAnother c) more = λ c within. only_others c collector (λ is. (let same = is in omega (arith, within, same))) more only in
    let stay = parts_stay types journal more 0 collector all (sym so_many ∙ omega arith) others fewer parts in
    let part : IsPartOf types after_end collector one.before one.after one.told = record {
      events = has.events;
      read = has.read;
      counted = has.counted;
      until_end = has.until_end;
      brings = brings_later collector has.events [] journal has.until_end no_report has.counted (record { more = journal; goes_on = refl; of_others = low_others collector journal low })
          (taken_brings types collector has.events journal has.until_end no_report has.counted has.takes);
      told_is = has.told_is;
      behind = [];
      whole = has.ends;
      nothing_more = tt;
      limit = subst (λ (l : List Entry). MeetsLimitAt l one.told.stop) (sym has.ends) (limit_stays one.told.stop has.until_end (Ended collector ∷ []) (subst (λ (l : List Entry). length (came_by l) ≤ MOST_EVENTS) has.ends few) has.limit);
    } in (
      parts_with types after_end 0 collector all one (sym so_many ∙ omega arith) (subst (λ (l : List Entry). HaveParts types l 0 all) (sym whole) stay) part,
      subst (λ (l : List Entry). AllByRecursion (IsOfCollectors (suc collector)) l) (sym whole) (all_append (IsOfCollectors (suc collector)) journal more (low_more collector journal low) (only_low collector more only)),
    )

-- and a settled desk
pub settles_parts : (types : TypeTable) (journal after : List Entry) (all : List Collected) → Delivers types journal after → length (came_by after) ≤ MOST_EVENTS → HaveParts types journal 0 all → HaveParts types after 0 all
settles_parts types journal after all on few parts =
    subst (λ (l : List Entry). HaveParts types l 0 all) (sym on.goes_on)
    (parts_stay types journal on.more 0 (length all) all (omega arith) (λ c within. delivers_others c on.more on.delivers) (subst (λ (l : List Entry). length (came_by l) ≤ MOST_EVENTS) on.goes_on few) parts)

-- the sources and reports of one more
pub collected_with : {S : Type 0} (state : S → SourceState) (sources : List S) (reports : List (CollectorReport S)) (source : S) (report : CollectorReport S) → length reports ≡ length sources
    → collected_by state (sources ++ source ∷ []) (reports ++ report ∷ []) ≡ collected_by state sources reports ++ record { before = state source; after = state report.source; told = told_by report } ∷ []
collected_with state [] [] source report same = refl
collected_with state [] (other ∷ reports) source report same = absurd (omega (arith, same))
collected_with state (other ∷ sources) [] source report same = absurd (omega (arith, same))
collected_with state (other ∷ sources) (one ∷ reports) source report same = ap (λ (rest : List Collected). record { before = state other; after = state one.source; told = told_by one } ∷ rest) (collected_with state sources reports source report (omega (arith, same)))

pub collected_many : {S : Type 0} (state : S → SourceState) (sources : List S) (reports : List (CollectorReport S)) → length reports ≡ length sources → length (collected_by state sources reports) ≡ length sources
collected_many state [] reports same = refl
collected_many state (other ∷ sources) [] same = absurd (omega (arith, same))
collected_many state (other ∷ sources) (one ∷ reports) same = ap suc (collected_many state sources reports (omega (arith, same)))

pub nil_from_length : {A : Type 0} (xs : List A) → length xs ≡ 0 → xs ≡ []
nil_from_length [] none = refl
nil_from_length (x ∷ xs) none = absurd (omega (arith, none))

pub none_from : (n : ℕ) → (0 < n → ⊥) → n ≡ 0
none_from zero none = refl
none_from (suc n) none = absurd (none (omega arith))

-- where each collector has its part, all have ended
pub ended_by_parts : (setup : Setup) (journal : List Entry) (all : List Collected) → length all ≡ setup.collectors → HaveParts setup.types journal 0 all → HaveAllEnded (seen_by setup journal)
ended_by_parts setup journal all so_many parts collector within = all_ended setup.types journal 0 collector all parts (omega arith) (omega (arith, so_many, within))

-- the parts, once all is delivered that may go
pub settled_parts : (setup collected settled : Setup) (types : TypeTable) (journal after : List Entry) (all : List Collected) → types ≡ setup.types → collected ≡ setup → settled ≡ collected → Delivers collected.types journal after → IsJournalOf settled after
    → HaveParts types journal 0 all → HaveParts settled.types after 0 all
settled_parts setup collected settled types journal after all types_are same later on is_journal parts =
    let its : types ≡ collected.types = types_are ∙ ap (λ (s : Setup). s.types) (sym same) in
    subst (λ (t : TypeTable). HaveParts t after 0 all) (ap (λ (s : Setup). s.types) (sym later))
    (settles_parts collected.types journal after all on is_journal.few (subst (λ (t : TypeTable). HaveParts t journal 0 all) its parts))

false_then : {P : Type 0} (b : Bool) → OnFalse b P → b ≡ false → P
false_then true holds is = absurd cc
false_then false holds is = holds

-- what a run leaves is a transcript
pub transcript : (setup settled : Setup) (journal : List Entry) (all : List Collected) (scripts : List (List Command)) (clients : List ClientReport) (last : List Command) (closing : ClientReport) → settled ≡ setup → IsJournalOf settled journal → length all ≡ settled.collectors
    → HaveParts settled.types journal 0 all → AreTold (seen_by settled journal) scripts clients → IsTold (seen_by settled journal) last (length journal) closing.lines closing.memory → OnFalse closing.memory (IsSettled settled.types journal) → IsTranscript setup journal all scripts clients last closing
transcript setup settled journal all scripts clients last closing same is_journal as_many parts told closing_is at_end = subst (λ (s : Setup). IsTranscript s journal all scripts clients last closing) same (record {
  is_journal = is_journal;
  as_many = as_many;
  parts = parts;
  clients_are = told;
  closing_is = closing_is;
  settled = false_then closing.memory at_end;
})

-- what holds where a call gave a value holds where it is told so
pub if_ok : {T E : Type 0} (P : Type 0) (r : Result T E) (b : Bool) → b ≡ is_ok r → OnOk r P → OnTrue b P
if_ok P (Ok value) b is holds = subst (λ (x : Bool). OnTrue x P) (sym is) holds
if_ok P (Err error) b is holds = subst (λ (x : Bool). OnTrue x P) (sym is) tt
