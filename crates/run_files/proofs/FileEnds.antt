-- What a file gave that was opened, read and given back.
use Rattle.std.proofs.Common.{◌≡◌, ◌<◌, ℕ, inl, inr, List, [], ◌∷◌, Option, Some, None, length, refl, sym, ◌∙◌, ap, subst, arith}
use Rattle.std.specs.Prelude.{IfSome, nat_lt}
use Rattle.std.proofs.lemmas.Bool.{lt-ltb}
use Rattle.poet_io.specs.declared.reading.ReadAllError.{ReadAllError}
use Rattle.poet_io.specs.declared.reading.ReadAllError.TheVariants.{Failed, TooLong, Oom}
use Rattle.poet_io.specs.Faults.{IsRaised}
use Rattle.poet_io.specs.FilesState.{FilesState}
use Rattle.poet_io.specs.Folder.{Folder, IsOpenedAt}
use Rattle.poet_io.specs.GivenBack.{AreGivenBack, IsGivenBack, HasFailedToRead}
use Rattle.poet_io.specs.ReadAllError.{CountsReadAllError}
use Rattle.poet_io.specs.SourceState.{SourceState}
use Rattle.poet_io.specs.Takes.{LeavesRest}
use Rattle.poet_io.proofs.CallerLemmas.{FileLife, told_left, given_back}
use Rattle.run_files.specs.declared.limits.TheConstants.{MOST_FILE}
use Rattle.run_files.specs.Files.{TellsOf, WasNotRead, fault_of_reading}

-- a count that rose from 0 is above it
pub above_none : (old new : ℕ) → old ≡ 0 → IsRaised old new → 0 < new
above_none old new none raised = elim raised.more_or_last [ inl more ↦ omega (arith, more) | inr last ↦ omega (arith, last) ]

-- what holds of the bytes of a file as it was opened, and of what is left of them, holds of what stands in the folder
told_of : (P : List ℕ → List ℕ → Type 0) (name : List ℕ) (told_folder : Option Folder) (first : SourceState) (first_left last_left : Option (List ℕ)) → first.left ≡ first_left → LeavesRest first_left last_left
    → IfSome told_folder (λ folder. IsOpenedAt folder name first) → IfSome first_left (λ bytes. IfSome last_left (P bytes)) → IfSome told_folder (λ folder. (bytes : List ℕ) × (folder name ≡ Some bytes) × P bytes (told_left last_left))
told_of P name None first first_left last_left is rest opened holds = tt
told_of P name (Some folder) first None last_left is rest opened holds = absurd (
    let none : folder name ≡ None = sym opened.whole ∙ is in
    let there = opened.there in
    cc)
told_of P name (Some folder) first (Some bytes) None is rest opened holds = absurd (let none : Some bytes ≡ None = rest.1 in cc)
told_of P name (Some folder) first (Some bytes) (Some left) is rest opened holds = (bytes, sym opened.whole ∙ is, holds)

-- what holds of the bytes alone
pub whatever_left : (P : List ℕ → Type 0) (first_left last_left : Option (List ℕ)) → IfSome first_left P → IfSome first_left (λ bytes. IfSome last_left (λ left. P bytes))
whatever_left P None last_left holds = tt
whatever_left P (Some bytes) None holds = tt
whatever_left P (Some bytes) (Some left) holds = holds

module _ (name : List ℕ) (before after : FilesState) (life : FileLife name before after) where
  pub tells_of : (P : List ℕ → List ℕ → Type 0) → IfSome life.first.left (λ bytes. IfSome life.last.left (P bytes)) → TellsOf before name (λ bytes. P bytes (told_left life.last.left))
  tells_of P holds = told_of P name before.folder life.first life.first.left life.last.left refl life.rest life.opened holds

  -- a file that came to no fault
  pub no_fault_ends : life.last.faults ≡ 0 → IsGivenBack name (told_left life.last.left) before after
  no_fault_ends none = subst (λ failed. AreGivenBack (record { name = name; left = told_left life.last.left; failed = failed } ∷ []) before after) (ap (nat_lt 0) none) (given_back name before after life)

  -- a file a read of which failed
  pub failed_ends : 0 < life.last.faults → HasFailedToRead name (told_left life.last.left) before after
  failed_ends some = subst (λ failed. AreGivenBack (record { name = name; left = told_left life.last.left; failed = failed } ∷ []) before after) (lt-ltb 0 life.last.faults some) (given_back name before after life)

  -- a file that wasn't read to its end
  pub not_read : (error : ReadAllError) → life.first.faults ≡ 0 → CountsReadAllError error life.first.faults life.last.faults → (error ≡ TooLong → IfSome life.first.left (λ left. MOST_FILE < length left)) → WasNotRead (fault_of_reading error) name before after
  not_read Failed none counts long = (told_left life.last.left, failed_ends (above_none life.first.faults life.last.faults none counts))
  not_read TooLong none counts long = ((told_left life.last.left, no_fault_ends (counts ∙ none)), tells_of (λ bytes left. MOST_FILE < length bytes) (whatever_left (λ bytes. MOST_FILE < length bytes) life.first.left life.last.left (long refl)))
  not_read Oom none counts long = inr (told_left life.last.left, no_fault_ends (counts ∙ none))
