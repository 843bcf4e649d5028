use Rattle.std.proofs.Common.{◌≡◌, ℕ, List, [], ◌∷◌, Some, Result, Ok, Err, OnOk, IfErr, ◌∙◌, ap, refl, arith, reverse}
use Rattle.std.specs.Prelude.{MatchResult, IsErrOf, None}
use Rattle.std.proofs.lemmas.Grind.{common_steps}
use Rattle.std.proofs.lemmas.List.{reverse-append}
use Rattle.std.proofs.lemmas.Result.{IfOk-weaker}
use Rattle.poet_io.specs.declared.files.OpenError.{OpenError}
use Rattle.poet_io.specs.declared.files.OpenError.TheVariants.{Absent, Failed, Oom}
use Rattle.poet_io.specs.declared.uses.Use.TheVariants.{Refused}
use Rattle.poet_io.specs.Faults.{IsRaised}
use Rattle.poet_io.specs.FilesState.{FilesState}
use Rattle.poet_io.specs.GivenBack.{IsNotOpened}
use Rattle.poet_io.specs.MemFolder.{MemFolderState, LeavesFolder, bytes_at, file_at}
use Rattle.poet_io.proofs.StoredFiles.{opened_at}
use Rattle.poet_io.proofs.mem_folder.MemFolderFiles.TheImpl.Goals as goal

-- what a folder in memory tells
abbrev told : MemFolderState → FilesState
told folder = record { faults = folder.faults; folder = Some (bytes_at folder.files); uses = Some (reverse folder.uses) }

-- a refusal to open
refused : {T : Type 0} (result : Result T OpenError) (name : List ℕ) (old new : MemFolderState) → MatchResult result (λ _. new ≡ old) (λ e. LeavesFolder e name old new)
    → (IsErrOf result Absent → file_at old.files name ≡ None) → (IsErrOf result Failed → IsRaised old.faults new.faults) → IfErr result (λ e. IsNotOpened e name (told old) (told new))
refused (Ok file) name old new leaves absent fault = tt
refused (Err Absent) name old new leaves absent fault = (ap told leaves, (let none = absent refl in rw none refl))
refused (Err Failed) name old new leaves absent fault = record {
  same_folder = ap (λ (f : MemFolderState). Some (bytes_at f.files)) leaves;
  fault = fault refl;
  noted = ap (λ (f : MemFolderState). Some (reverse f.uses)) leaves ∙ ap Some (reverse-append (Refused name ∷ []) old.uses);
}
refused (Err Oom) name old new leaves absent fault = ap told leaves

same : {T : Type 0} (result : Result T OpenError) (name : List ℕ) (old new : MemFolderState) → MatchResult result (λ _. new ≡ old) (λ e. LeavesFolder e name old new) → OnOk result (told new ≡ told old)
same (Ok file) name old new leaves = ap told leaves
same (Err error) name old new leaves = tt

pub open-tells : goal.open-tells
open-tells c = record {
  opened = IfOk-weaker c.result _ _ (opened_at c.args.self.now.files c.args.name.now) c.ensures.opened;
  fresh = grind (arith, common_steps);
  same = same c.result c.args.name.now c.args.self.now c.new.self.now c.ensures.folder;
  refused = refused c.result c.args.name.now c.args.self.now c.new.self.now c.ensures.folder c.ensures.absent c.ensures.fault;
}
