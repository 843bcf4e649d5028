-- What a run over opened sources leaves of them.
use Rattle.std.proofs.Common.{◌≡◌, ℕ, suc, List, [], ◌∷◌, ◌++◌, map, length, Option, Some, None, refl, sym, ◌∙◌, ap, arith}
use Rattle.std.specs.Prelude.{IfSome, IsSome}
use Rattle.std.specs.Option.{option_map}
use Rattle.std.specs.List.{AllByRecursion}
use Rattle.causal_base.specs.declared.entry.Entry.{Entry}
use Rattle.causal_base.specs.Types.{TypeTable}
use Rattle.poet_io.specs.Folder.{Folder, IsOpenedAt}
use Rattle.poet_io.specs.SourceState.{SourceState}
use Rattle.poet_io.specs.Takes.{LeavesRest}
use Rattle.poet_serve.specs.declared.report.CollectorReport.{CollectorReport}
use Rattle.poet_serve.specs.Collecting.{Told, told_by}
use Rattle.poet_serve.specs.Transcripts.{Collected, HaveParts, collected_by}
use Rattle.run_files.specs.Sources.{AreOpenedAt, IsOpenFile, IsOpenIn}

-- as many sources were opened as there are names
pub opened_many : (told : Option Folder) (names : List (List ℕ)) (sources : List SourceState) → AreOpenedAt told names sources → length sources ≡ length names
opened_many told [] [] opened = refl
opened_many told [] (s ∷ ss) opened = absurd opened
opened_many told (n ∷ ns) [] opened = absurd opened
opened_many told (n ∷ ns) (s ∷ ss) opened = ap suc (opened_many told ns ss opened.1)

module _ {S : Type 0} (state : S → SourceState) where
  -- the sources as they were before, as they are after, and what is told of each
  pub before_are : (sources : List S) (reports : List (CollectorReport S)) → length reports ≡ length sources → map (λ (one : Collected). one.before) (collected_by state sources reports) ≡ map state sources
  before_are [] [] same = refl
  before_are [] (report ∷ reports) same = absurd (omega (arith, same))
  before_are (source ∷ sources) [] same = absurd (omega (arith, same))
  before_are (source ∷ sources) (report ∷ reports) same = ap (λ (rest : List SourceState). state source ∷ rest) (before_are sources reports (omega (arith, same)))

  pub after_are : (sources : List S) (reports : List (CollectorReport S)) → length reports ≡ length sources → map (λ (one : Collected). one.after) (collected_by state sources reports) ≡ map (λ (report : CollectorReport S). state report.source) reports
  after_are [] [] same = refl
  after_are [] (report ∷ reports) same = absurd (omega (arith, same))
  after_are (source ∷ sources) [] same = absurd (omega (arith, same))
  after_are (source ∷ sources) (report ∷ reports) same = ap (λ (rest : List SourceState). state report.source ∷ rest) (after_are sources reports (omega (arith, same)))

  pub told_are : (sources : List S) (reports : List (CollectorReport S)) → length reports ≡ length sources → map told_by reports ≡ map (λ (one : Collected). one.told) (collected_by state sources reports)
  told_are [] [] same = refl
  told_are [] (report ∷ reports) same = absurd (omega (arith, same))
  told_are (source ∷ sources) [] same = absurd (omega (arith, same))
  told_are (source ∷ sources) (report ∷ reports) same = ap (λ (rest : List Told). told_by report ∷ rest) (told_are sources reports (omega (arith, same)))

-- a source that was opened and read is open
open_read : (told : Option Folder) (name : List ℕ) (before after : SourceState) → IfSome told (λ folder. IsOpenedAt folder name before) → after.name ≡ before.name → LeavesRest before.left after.left → IsOpenIn told after
open_read None name before after opened same rest = tt
open_read (Some folder) name before after opened same rest = there (folder name) refl opened.there
  where
    is_left : (bytes : List ℕ) → folder name ≡ Some bytes → (left : Option (List ℕ)) → after.left ≡ left → Some bytes ≡ option_map (λ (l : List ℕ). rest.0 ++ l) left → IsOpenFile folder after
    is_left bytes is None none takes = absurd (let no = takes in cc)
    is_left bytes is (Some left) some takes = record { name = name; name_is = same ∙ opened.named; left = left; left_is = some; read = rest.0; whole = is ∙ takes }

    there : (stands : Option (List ℕ)) → folder name ≡ stands → IsSome (folder name) → IsOpenFile folder after
    there None is some = absurd (let none = is in cc)
    there (Some bytes) is some = is_left bytes is after.left refl (sym is ∙ (sym opened.whole ∙ rest.1))

-- all sources are open after a run
pub open_after : (told : Option Folder) (types : TypeTable) (journal : List Entry) (n : ℕ) (names : List (List ℕ)) (all : List Collected) → AreOpenedAt told names (map (λ (one : Collected). one.before) all) → HaveParts types journal n all → AllByRecursion (IsOpenIn told) (map (λ (one : Collected). one.after) all)
open_after told types journal n [] [] opened parts = tt
open_after told types journal n [] (one ∷ all) opened parts = absurd opened
open_after told types journal n (name ∷ names) [] opened parts = absurd opened
open_after told types journal n (name ∷ names) (one ∷ all) opened parts =
    (open_read told name one.before one.after opened.0.0 parts.0.read.same_name parts.0.read.rest, open_after told types journal (suc n) names all opened.1 parts.1)
