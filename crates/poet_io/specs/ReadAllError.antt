-- How the count of faults goes on where a source was not read to its end.
use Rattle.std.specs.Prelude.{◌≡◌, ℕ}
use Rattle.poet_io.specs.Faults.{IsRaised}
use Rattle.poet_io.specs.declared.reading.ReadAllError.{ReadAllError}
use Rattle.poet_io.specs.declared.reading.ReadAllError.TheVariants.{Failed, TooLong, Oom}

-- a source that failed raised the count, and each other refusal left it
abbrev pub CountsReadAllError : ReadAllError → (old new : ℕ) → Type 0
CountsReadAllError Failed old new = IsRaised old new
CountsReadAllError TooLong old new = new ≡ old
CountsReadAllError Oom old new = new ≡ old
