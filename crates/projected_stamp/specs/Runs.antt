-- The numbers of stamps, in blocks, and where those of one stamp lie.
use Rattle.std.specs.Prelude.{◌≡◌, ℕ, ◌+◌, ◌<◌, ◌≤◌, List, length, map, min, take, drop}
use Rattle.shared_list.specs.Traces.{list_of}
use Rattle.projected_stamp.specs.declared.numbers.Run.{Run}

-- the numbers of each block, and for how many more runs there is room
pub record NumberBlocks : Type 0 where
  pub blocks : List (List ℕ)
  pub room : ℕ

-- The run's block has so many numbers from the run's place on.
pub record HasRun (blocks : List (List ℕ)) (run : Run) (count : ℕ) : Type 0 where
  pub block : run.block < length blocks
  pub within : run.from + count ≤ length (list_of blocks run.block)

-- these numbers
abbrev pub run_of : List (List ℕ) → Run → ℕ → List ℕ
run_of blocks run count = take count (drop run.from (list_of blocks run.block))

-- The run is of these numbers.
pub record IsRun (blocks : List (List ℕ)) (run : Run) (numbers : List ℕ) : Type 0 where
  pub has : HasRun blocks run (length numbers)
  pub same : run_of blocks run (length numbers) ≡ numbers

-- What runs there are among the earlier blocks are among the later ones, with the same numbers.
abbrev pub Stay : List (List ℕ) → List (List ℕ) → Type 0
Stay earlier later = (run : Run) (count : ℕ) → HasRun earlier run count
    → HasRun later run count × (run_of later run count ≡ run_of earlier run count)

-- the room of each trace: the lesser of that for its stamps and of that for runs
abbrev pub spares_within : ℕ → List ℕ → List ℕ
spares_within room spare = map (λ n. min n room) spare
