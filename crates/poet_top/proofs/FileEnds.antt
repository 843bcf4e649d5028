-- How a question ends over its file.
use Rattle.std.proofs.Common.{◌≡◌, ℕ, inl, inr, Bool, List, [], Option, Some, None, Result, Ok, Err, refl, ◌∙◌, subst}
use Rattle.std.specs.Prelude.{IfSome, IfOk, IfErr, OnOk, MatchResult}
use Rattle.causal_base.specs.declared.answer.Answer.{Answer}
use Rattle.causal_base.specs.declared.event_id.EventId.{EventId}
use Rattle.poet_io.specs.declared.files.OpenError.{OpenError}
use Rattle.poet_io.specs.declared.files.OpenError.TheVariants as open_error
use Rattle.poet_io.specs.FilesState.{FilesState}
use Rattle.poet_io.specs.GivenBack.{IsGivenBack, IsNotOpened}
use Rattle.poet_io.proofs.CallerLemmas.{FileLife, told_left}
use Rattle.run_files.specs.Files.{TellsOf}
use Rattle.run_files.proofs.CallerLemmas.{above_none, failed_ends, no_fault_ends, tells_of, whatever_left}
use Rattle.poet_top.specs.Ends.{EndsOver}
use Rattle.poet_top.specs.declared.fault.Fault.{Fault}
use Rattle.poet_top.specs.declared.fault.Fault.TheVariants.{Words, Open, Read, Line, Memory, Full}
use Rattle.poet_top.specs.Ask.{asked_types, IsAnswerOver}
use Rattle.poet_top.specs.FaultOutcome.{outcome_of, outcome_of_fault, outcome_of_open, HasNoAnswer, CountsFault}
use Rattle.poet_top.specs.Outcome.{Answered}

-- a file that wasn't opened
pub open_ends : (name : List ℕ) (a b : EventId) (before after : FilesState) (error : OpenError) → IsNotOpened error name before after → EndsOver name a b before after (outcome_of_open error name)
open_ends name a b before after open_error.Absent not_opened = (refl, inr not_opened)
open_ends name a b before after open_error.Failed not_opened = (refl, inl not_opened)
open_ends name a b before after open_error.Oom not_opened = inl not_opened

module _ (name : List ℕ) (before after : FilesState) (life : FileLife name before after) where
  -- a file over which there is no answer
  pub fault_ends : (a b : EventId) (fault : Fault) → life.first.faults ≡ 0 → CountsFault name fault life.first.faults life.last.faults → TellsOf before name (λ bytes. HasNoAnswer asked_types bytes (told_left life.last.left) fault) → EndsOver name a b before after (outcome_of_fault fault)
  fault_ends a b Words none counts caused = absurd counts
  fault_ends a b (Open its) none counts caused = absurd counts
  fault_ends a b (Read its) none counts caused = (counts.0, (told_left life.last.left, failed_ends name before after life (above_none life.first.faults life.last.faults none counts.1), caused))
  fault_ends a b (Line error) none counts caused = (told_left life.last.left, no_fault_ends name before after life (counts ∙ none), caused)
  fault_ends a b Memory none counts caused = inr (told_left life.last.left, no_fault_ends name before after life (counts ∙ none))
  fault_ends a b Full none counts caused = (told_left life.last.left, no_fault_ends name before after life (counts ∙ none), caused)

  -- a file that was read to its end
  pub answer_ends : (a b : EventId) (answer : Answer Bool) → life.last.faults ≡ 0 → IfSome life.last.left (λ left. left ≡ []) → TellsOf before name (λ bytes. IsAnswerOver asked_types bytes a b answer) → EndsOver name a b before after (Answered answer)
  answer_ends a b answer none at_end says = (subst (λ left. IsGivenBack name left before after) (nothing_left life.last.left at_end) (no_fault_ends name before after life none), says)
    where
      nothing_left : (left : Option (List ℕ)) → IfSome left (λ bytes. bytes ≡ []) → told_left left ≡ []
      nothing_left None at_end = refl
      nothing_left (Some left) at_end = at_end

  -- a file that was read, with an answer or a fault
  pub source_ends : (a b : EventId) (result : Result (Answer Bool) Fault) → life.first.faults ≡ 0
      → MatchResult result (λ _. life.last.faults ≡ life.first.faults) (λ fault. CountsFault name fault life.first.faults life.last.faults)
      → OnOk result (IfSome life.last.left (λ left. left ≡ []))
      → IfOk result (λ answer. IfSome life.first.left (λ bytes. IsAnswerOver asked_types bytes a b answer))
      → IfErr result (λ fault. IfSome life.first.left (λ bytes. IfSome life.last.left (λ left. HasNoAnswer asked_types bytes left fault)))
      → EndsOver name a b before after (outcome_of result)
  source_ends a b (Ok answer) none counts at_end says caused =
      answer_ends a b answer (counts ∙ none) at_end (tells_of name before after life (λ bytes left. IsAnswerOver asked_types bytes a b answer) (whatever_left (λ bytes. IsAnswerOver asked_types bytes a b answer) life.first.left life.last.left says))
  source_ends a b (Err fault) none counts at_end says caused =
      fault_ends a b fault none counts (tells_of name before after life (λ bytes left. HasNoAnswer asked_types bytes left fault) caused)
