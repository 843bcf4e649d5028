-- No collector ran out of memory, where no report says so.
use Rattle.std.proofs.Common.{◌≡◌, true, false, List, [], ◌∷◌, ap, refl}
use Rattle.std.specs.Prelude.{◌||◌}
use Rattle.std.specs.List.{AllByRecursion, list_any}
use Rattle.poet_io.specs.SourceState.{SourceState}
use Rattle.poet_serve.specs.declared.report.CollectorReport.{CollectorReport}
use Rattle.poet_serve.specs.Transcripts.{HadMemory, collected_by}
use Rattle.load_run.specs.Loads.{is_memory}

pub none_ran_out : {S : Type 0} (state : S → SourceState) (sources : List S) (reports : List (CollectorReport S)) → list_any (λ report. is_memory report.stop) reports ≡ false → AllByRecursion HadMemory (collected_by state sources reports)
none_ran_out state [] reports none = tt
none_ran_out state (source ∷ sources) [] none = tt
none_ran_out state (source ∷ sources) (report ∷ reports) none =
    elim (is_memory report.stop) as (λ b. is_memory report.stop ≡ b → (b || list_any (λ other. is_memory other.stop) reports) ≡ false → AllByRecursion HadMemory (collected_by state (source ∷ sources) (report ∷ reports))) [
      | true ↦ λ is wrong. absurd cc
      | false ↦ λ is rest. ((λ same. let memory : is_memory report.stop ≡ true = ap is_memory same in absurd cc), none_ran_out state sources reports rest)
    ] refl none
