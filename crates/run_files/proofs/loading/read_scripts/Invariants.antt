use Rattle.std.proofs.Common.{map, take}
use Rattle.run_files.specs.Loading.{SayScripts}
use Rattle.run_files.proofs.loading.read_scripts.Given as goal

-- the files of the first names say the scripts so far
abbrev pub invariant-loop-number : goal.invariant-loop-number
invariant-loop-number g l =
    SayScripts l.target.types 0 (map (λ n. n.now) (take l.number l.names)) (g.F.Files.state l.fn.files) (g.F.Files.state l.files) l.scripts.items
