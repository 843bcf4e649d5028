-- What a source has given so far, and what holds of all its bytes.
use Rattle.std.proofs.Common.{◌≡◌, ◌<◌, ◌≤◌, ◌-◌, ℕ, Bool, List, [], ◌∷◌, ◌++◌, length, Option, Some, None, refl, sym, ◌∙◌, ap, subst, arith, append-nil, length-append}
use Rattle.std.specs.Prelude.{IfSome, ◌↔◌}
use Rattle.causal_base.specs.declared.answer.Answer.{Answer}
use Rattle.causal_base.specs.declared.entry.Entry.{Entry}
use Rattle.causal_base.specs.declared.entry.Entry.TheVariants.{Ended}
use Rattle.causal_base.specs.declared.event_id.EventId.{EventId}
use Rattle.causal_base.specs.Types.{TypeTable}
use Rattle.causal_base.specs.Journal.{delivered_by}
use Rattle.causal_base.specs.Asked.{IsBeforeAnswer}
use Rattle.poet_io.specs.Takes.{TakesPrefix}
use Rattle.raw_reader.specs.ReaderState.{ReaderState, HasRead}
use Rattle.raw_reader.specs.declared.limits.TheConstants.{MOST_INPUT}
use Rattle.raw_reader.specs.Texts.{events_of, IsOpenText}
use Rattle.raw_reader.proofs.CallerLemmas.{goes_on, is_open}
use Rattle.poet_top.specs.declared.fault.Fault.{Fault}
use Rattle.poet_top.specs.declared.fault.Fault.TheVariants.{Words, Open, Read, Line, Memory, Full}
use Rattle.poet_top.specs.declared.limits.TheConstants.{MOST_READ}
use Rattle.poet_top.specs.Ask.{IsAnswerOver, IsUndecided}
use Rattle.poet_top.specs.FaultOutcome.{ShowsFault, HasNoAnswer}
use Rattle.poet_top.specs.Taking.{HasTakenFrom, HasTakenAll}
use Rattle.poet_top.proofs.Counted.{taken_few}
use Rattle.poet_top.proofs.Turns.{took_all}

-- what holds of the bytes so far and of what is left, whatever that is, holds of all bytes
pub from_prefix : (P : List ℕ → List ℕ → Type 0) (before after : Option (List ℕ)) (fed : List ℕ) → TakesPrefix before after fed → ((left : List ℕ) → after ≡ Some left → P (fed ++ left) left) → IfSome before (λ bytes. IfSome after (P bytes))
from_prefix P before None fed takes holds = subst (λ o. IfSome o (λ bytes. IfSome None (P bytes))) (sym takes) tt
from_prefix P before (Some left) fed takes holds = subst (λ o. IfSome o (λ bytes. IfSome (Some left) (P bytes))) (sym takes) (holds left refl)

-- what was read where nothing was refused and nothing waits is undecided
pub undecided : (reader : ReaderState) (fed : List ℕ) (journal : List Entry) → HasTakenFrom HasRead reader fed journal → reader.refusal ≡ None → reader.waiting ≡ [] → IsUndecided reader.types fed
undecided reader fed journal has going none_waits = record {
  batches = has.taken;
  text = subst (IsOpenText reader.types fed) (ap (λ waiting. has.taken ++ waiting) none_waits ∙ append-nil has.taken) (is_open reader fed has.taken (goes_on reader fed has.taken going has.stands));
  few = taken_few reader.types (events_of has.taken) journal has.events;
}

-- a fault shows in the last piece, and no more was read
pub stopped : (types : TypeTable) (earlier piece left : List ℕ) (fault : Fault) → IsUndecided types earlier → length piece ≤ MOST_READ → ShowsFault types ((earlier ++ piece) ++ left) fault → HasNoAnswer types ((earlier ++ piece) ++ left) left fault
stopped types earlier piece left Words so_far short shows = shows
stopped types earlier piece left (Open name) so_far short shows = shows
stopped types earlier piece left (Read name) so_far short shows = absurd shows
stopped types earlier piece left (Line error) so_far short shows = (shows, record { earlier = earlier; piece = piece; whole = refl; short = short; undecided = so_far })
stopped types earlier piece left Memory so_far short shows = tt
stopped types earlier piece left Full so_far short shows = (shows, record { earlier = earlier; piece = piece; whole = refl; short = short; undecided = so_far })

-- so it is at the end of the text, behind which nothing is left
pub stopped_at_end : (types : TypeTable) (fed piece left : List ℕ) (fault : Fault) → IsUndecided types fed → piece ≡ [] → left ≡ [] → ShowsFault types fed fault → HasNoAnswer types ((fed ++ piece) ++ left) left fault
stopped_at_end types fed piece left fault so_far no_piece none shows =
    let size = ap length no_piece in
    let whole : fed ≡ (fed ++ piece) ++ left = sym (ap (λ l. (fed ++ piece) ++ l) none ∙ (append-nil (fed ++ piece) ∙ (ap (λ p. fed ++ p) no_piece ∙ append-nil fed))) in
    stopped types fed piece left fault so_far (omega (arith, size)) (subst (λ bytes. ShowsFault types bytes fault) whole shows)

-- where a read gave nothing, nothing is left
pub nothing_left : (before after : Option (List ℕ)) (piece : List ℕ) (n : ℕ) → TakesPrefix before after piece → IfSome before (λ bytes. (n ≡ 0) ↔ (bytes ≡ [])) → n ≡ 0 → IfSome after (λ left. left ≡ [])
nothing_left before None piece n takes end none = tt
nothing_left before (Some left) [] n takes end none = let ended = subst (λ o. IfSome o (λ bytes. (n ≡ 0) ↔ (bytes ≡ []))) takes end in ended.0 none
nothing_left before (Some left) (byte ∷ piece) n takes end none =
    let ended = subst (λ o. IfSome o (λ bytes. (n ≡ 0) ↔ (bytes ≡ []))) takes end in
    let is = ended.0 none in
    absurd (cc)

-- a piece of the text takes room
pub room_taken : (reader later : ReaderState) (fed piece : List ℕ) (before after : List Entry) → HasTakenFrom HasRead reader fed before → reader.refusal ≡ None → HasTakenFrom HasRead later (fed ++ piece) after → later.refusal ≡ None → 0 < length piece → MOST_INPUT - later.size < MOST_INPUT - reader.size
room_taken reader later fed piece before after has going now still some =
    let old = goes_on reader fed has.taken going has.stands in
    let new = goes_on later (fed ++ piece) now.taken still now.stands in
    let size = length-append fed piece in
    let old_size = old.size_is in
    let new_size = new.size_is in
    let within = new.within in
    omega (arith, size, old_size, new_size, within, some)

-- the answer over all events that were taken
answer_over : (types : TypeTable) (bytes : List ℕ) (journal : List Entry) (a b : EventId) (answer : Answer Bool) → HasTakenAll types bytes journal → IsBeforeAnswer types (delivered_by journal) a b answer → IsAnswerOver types bytes a b answer
answer_over types bytes journal a b answer all answered = record {
  batches = all.batches;
  good = all.good;
  few = taken_few types (events_of all.batches) journal all.events;
  asked = record { journal = journal; in_turn = (journal ++ Ended 0 ∷ [], took_all types (events_of all.batches) journal all.events.took, refl); answered = answered };
}

-- where they are told
pub answer_told : (types : TypeTable) (told : Option (List ℕ)) (journal : List Entry) (a b : EventId) (answer : Answer Bool) → IfSome told (λ bytes. HasTakenAll types bytes journal) → IsBeforeAnswer types (delivered_by journal) a b answer → IfSome told (λ bytes. IsAnswerOver types bytes a b answer)
answer_told types None journal a b answer all answered = tt
answer_told types (Some bytes) journal a b answer all answered = answer_over types bytes journal a b answer all answered
