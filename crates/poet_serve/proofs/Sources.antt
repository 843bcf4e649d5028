-- What a source has given so far, and what holds of all its bytes.
use Rattle.std.proofs.Common.{◌≡◌, ◌<◌, ◌-◌, ℕ, List, [], ◌∷◌, ◌++◌, length, Option, Some, None, refl, sym, ◌∙◌, ap, subst, arith, append-nil, length-append, inl}
use Rattle.std.specs.Prelude.{IfSome, ◌↔◌}
use Rattle.causal_base.specs.declared.entry.Entry.{Entry}
use Rattle.causal_base.specs.declared.entry.Entry.TheVariants.{Ended}
use Rattle.causal_base.specs.Journal.{IsLegal, IsSettled}
use Rattle.causal_base.specs.Types.{TypeTable}
use Rattle.event_book.specs.declared.report.FeedReport.{FeedReport}
use Rattle.event_book.specs.Feeding.{no_report}
use Rattle.event_book.proofs.CallerLemmas.{delivers_none}
use Rattle.poet_io.specs.SourceState.{SourceState}
use Rattle.poet_io.specs.Takes.{TakesPrefix}
use Rattle.raw_reader.specs.ReaderState.{ReaderState, HasRead}
use Rattle.raw_reader.specs.declared.limits.TheConstants.{MOST_INPUT}
use Rattle.raw_reader.specs.Texts.{events_of, IsOpenText}
use Rattle.raw_reader.proofs.CallerLemmas.{goes_on, is_open}
use Rattle.poet_serve.specs.declared.report.Stop.{Stop}
use Rattle.poet_serve.specs.declared.report.Stop.TheVariants.{Memory, Read}
use Rattle.poet_serve.specs.Collecting.{MeetsLimitAt, Told, told_of}
use Rattle.poet_serve.specs.Reading.{AreReadOf, CountsStop, IsReadOf}
use Rattle.poet_serve.specs.Tallies.{TallyState, HasBrought, HasCollected, HasTaken, HasTakenFrom, IsStopped, tally_of}

-- what holds of the bytes so far and of what is left, whatever that is, holds of all bytes
from_prefix : (P : List ℕ → List ℕ → Type 0) (before after : Option (List ℕ)) (fed : List ℕ) → TakesPrefix before after fed → ((left : List ℕ) → after ≡ Some left → P (fed ++ left) left) → IfSome before (λ bytes. IfSome after (P bytes))
from_prefix P before None fed takes holds = subst (λ o. IfSome o (λ bytes. IfSome None (P bytes))) (sym takes) tt
from_prefix P before (Some left) fed takes holds = subst (λ o. IfSome o (λ bytes. IfSome (Some left) (P bytes))) (sym takes) (holds left refl)

-- where a read gave nothing, nothing is left
pub nothing_left : (before after : Option (List ℕ)) (piece : List ℕ) (n : ℕ) → TakesPrefix before after piece → IfSome before (λ bytes. (n ≡ 0) ↔ (bytes ≡ [])) → n ≡ 0 → IfSome after (λ left. left ≡ [])
nothing_left before None piece n takes end none = tt
nothing_left before (Some left) [] n takes end none = let ended = subst (λ o. IfSome o (λ bytes. (n ≡ 0) ↔ (bytes ≡ []))) takes end in ended.0 none
nothing_left before (Some left) (byte ∷ piece) n takes end none =
    let ended = subst (λ o. IfSome o (λ bytes. (n ≡ 0) ↔ (bytes ≡ []))) takes end in
    let is = ended.0 none in
    absurd (cc)

-- a piece of the text takes room
pub room_taken : (collector : ℕ) (start : List Entry) (reader later : ReaderState) (fed piece : List ℕ) (before after : List Entry) (tally tally' : TallyState) → HasTakenFrom HasRead collector start reader fed before tally → reader.refusal ≡ None
    → HasTakenFrom HasRead collector start later (fed ++ piece) after tally' → later.refusal ≡ None → 0 < length piece → MOST_INPUT - later.size < MOST_INPUT - reader.size
room_taken collector start reader later fed piece before after tally tally' has going now still some =
    let old = goes_on reader fed has.batches going has.stands in
    let new = goes_on later (fed ++ piece) now.batches still now.stands in
    let size = length-append fed piece in
    let old_size = old.size_is in
    let new_size = new.size_is in
    let within = new.within in
    omega (arith, size, old_size, new_size, within, some)

none_is_some : {left : List ℕ} → None ≡ Some left → ⊥
none_is_some is = absurd cc

one_left : {left other : List ℕ} → Some left ≡ Some other → left ≡ other
one_left is = cc

module _ (types : TypeTable) (collector : ℕ) (start : List Entry) (before after : SourceState) (fed : List ℕ) (given : TakesPrefix before.left after.left fed) (same_name : after.name ≡ before.name) (journal : List Entry) (tally : TallyState) where
  -- a read failed, and what was read before is an open text
  pub at_read : (reader : ReaderState) → HasTakenFrom HasRead collector start reader fed journal tally → reader.refusal ≡ None → reader.waiting ≡ [] → reader.types ≡ types → CountsStop Read before.faults after.faults → HasBrought types collector start before after Read journal tally
  at_read reader has going none_waits its_types raised =
      let text = subst (IsOpenText reader.types fed) (ap (λ waiting. has.batches ++ waiting) none_waits ∙ append-nil has.batches) (is_open reader fed has.batches (goes_on reader fed has.batches going has.stands)) in
      record {
        events = events_of has.batches;
        read = record {
          same_name = same_name;
          rest = (fed, given);
          faults = raised;
          told = from_prefix (λ bytes left. AreReadOf types bytes left Read (events_of has.batches)) before.left after.left fed given
              (λ left is. (fed, has.batches, refl, subst (λ (t : TypeTable). IsOpenText t fed has.batches) its_types text, refl));
        };
        taken = subst (λ (t : TypeTable). HasTaken t collector start (events_of has.batches) journal tally) its_types has.taken;
        limit = tt;
        settled = λ memory. subst (λ (t : TypeTable). IsSettled t start → IsSettled t journal) its_types has.settled;
      }

  -- it stopped, whatever is left
  by_told : (its : TypeTable) → its ≡ types → (stop : Stop) → ((left : List ℕ) → IsStopped its collector start (fed ++ left) left stop journal tally) → CountsStop stop before.faults after.faults → (told : Option (List ℕ)) → after.left ≡ told → HasBrought types collector start before after stop journal tally
  by_told its is stop stopped counts None told =
      let at = subst (λ (t : TypeTable). IsStopped t collector start (fed ++ []) [] stop journal tally) is (stopped []) in
      record {
        events = at.events;
        read = record {
          same_name = same_name;
          rest = (fed, given);
          faults = counts;
          told = from_prefix (λ bytes left. AreReadOf types bytes left stop at.events) before.left after.left fed given (λ left there. absurd (none_is_some (sym told ∙ there)));
        };
        taken = at.taken;
        limit = at.limit;
        settled = at.settled;
      }
  by_told its is stop stopped counts (Some left) told =
      let at = subst (λ (t : TypeTable). IsStopped t collector start (fed ++ left) left stop journal tally) is (stopped left) in
      record {
        events = at.events;
        read = record {
          same_name = same_name;
          rest = (fed, given);
          faults = counts;
          told = from_prefix (λ bytes left. AreReadOf types bytes left stop at.events) before.left after.left fed given
              (λ other there. subst (λ (l : List ℕ). AreReadOf types (fed ++ l) l stop at.events) (one_left (sym told ∙ there)) at.read);
        };
        taken = at.taken;
        limit = at.limit;
        settled = at.settled;
      }

  pub at_stop : (its : TypeTable) → its ≡ types → (stop : Stop) → ((left : List ℕ) → IsStopped its collector start (fed ++ left) left stop journal tally) → CountsStop stop before.faults after.faults → HasBrought types collector start before after stop journal tally
  at_stop its is stop stopped counts = by_told its is stop stopped counts after.left refl

  -- it stopped at the end, with nothing left
  pub at_end : (its : TypeTable) → its ≡ types → (stop : Stop) (read : List ℕ) → fed ≡ read → IfSome after.left (λ left. left ≡ []) → IsStopped its collector start read [] stop journal tally → CountsStop stop before.faults after.faults → HasBrought types collector start before after stop journal tally
  at_end its is stop read same none stopped counts =
      let at = subst (λ (t : TypeTable). IsStopped t collector start read [] stop journal tally) is stopped in
      record {
        events = at.events;
        read = record {
          same_name = same_name;
          rest = (fed, given);
          faults = counts;
          told = from_prefix (λ bytes left. AreReadOf types bytes left stop at.events) before.left after.left fed given
              (λ left there.
              let gone : left ≡ [] = subst (λ o. IfSome o (λ l. l ≡ [])) there none in
              rw gone (subst (λ (l : List ℕ). AreReadOf types l [] stop at.events) (sym same ∙ sym (append-nil fed)) at.read));
        };
        taken = at.taken;
        limit = at.limit;
        settled = at.settled;
      }

-- and then the collector ended
pub collected : (types : TypeTable) (collector : ℕ) (start journal after_end : List Entry) (before after source : SourceState) (stop : Stop) (tally : TallyState) (told : Told) → HasBrought types collector start before after stop journal tally
    → after_end ≡ journal ++ Ended collector ∷ [] → source ≡ after → ((counted : FeedReport) → tally ≡ tally_of counted → told ≡ told_of counted stop) → HasCollected types collector before source told start after_end
collected types collector start journal after_end before after source stop tally told has ends same tells =
    let told_is = tells has.taken.counted has.taken.tally_is in
    let stop_is : told.stop ≡ stop = ap (λ (t : Told). t.stop) told_is in
    record {
      events = has.events;
      read = subst (λ (s : SourceState). IsReadOf types before s told.stop has.events) (sym same) (subst (λ (s : Stop). IsReadOf types before after s has.events) (sym stop_is) has.read);
      counted = has.taken.counted;
      until_end = journal;
      takes = has.taken.takes;
      told_is = told_is ∙ ap (told_of has.taken.counted) (sym stop_is);
      ends = ends;
      limit = subst (MeetsLimitAt journal) (sym stop_is) has.limit;
      settled = subst (λ (s : Stop). (s ≡ Memory → ⊥) → IsSettled types start → IsSettled types journal) (sym stop_is) has.settled;
    }

-- nothing was read of these bytes
no_events : (types : TypeTable) (told : Option (List ℕ)) → IfSome told (λ bytes. IfSome told (λ left. AreReadOf types bytes left Memory []))
no_events types None = tt
no_events types (Some bytes) = ([], [], inl (record { lines = []; fit = tt; rest = bytes; whole = refl; within = omega arith; closed = refl }), refl)

-- what is left without nothing of it
takes_nothing : (left : Option (List ℕ)) → TakesPrefix left left []
takes_nothing None = refl
takes_nothing (Some left) = refl

-- a collector that read nothing, for want of memory
pub none_brought : (types : TypeTable) (collector : ℕ) (journal : List Entry) (source : SourceState) → IsLegal types journal → HasBrought types collector journal source source Memory journal (tally_of no_report)
none_brought types collector journal source legal = record {
  events = [];
  read = record { same_name = refl; rest = ([], takes_nothing source.left); faults = refl; told = no_events types source.left };
  taken = record { counted = no_report; takes = (delivers_none types journal legal, refl); tally_is = refl };
  limit = tt;
  settled = λ memory settled. settled;
}

-- the same counts are told in the same way
pub same_told : (counted others : FeedReport) (stop : Stop) → tally_of counted ≡ tally_of others → told_of counted stop ≡ told_of others stop
same_told counted others stop same = ap (λ (t : TallyState). record { accepted = t.accepted; repeats = t.repeats; clashes = t.clashes; first = t.first; stop = stop }) same
