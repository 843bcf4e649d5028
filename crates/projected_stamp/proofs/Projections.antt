-- A stamp that is made of a whole clock.
use Rattle.std.proofs.Common.{◌≡◌, ℕ, List, length, ◌∙◌, ap, subst}
use Rattle.std.specs.Prelude.{slice_index}
use Rattle.std.proofs.lemmas.List.{length-map}
use Rattle.causal_base.specs.Stamps.{ClusterTimestamp}
use Rattle.projected_stamp.specs.declared.numbers.Run.{Run}
use Rattle.projected_stamp.specs.Parts.{numbers_for, projected}
use Rattle.projected_stamp.specs.Runs.{IsRun}

module _ (level : ℕ) (members clock : List ℕ) (stamp : ClusterTimestamp) (is : projected level members clock ≡ stamp) where
  pub as_many : length stamp.clock ≡ length stamp.members
  as_many = subst (λ (s : ClusterTimestamp). length s.clock ≡ length s.members) is (length-map members (λ trace. slice_index clock trace))

  -- what is put of the clock for its members is its numbers
  pub run_is : (blocks : List (List ℕ)) (run : Run) (traces : List ℕ) → traces ≡ members → IsRun blocks run (numbers_for clock traces) → IsRun blocks run stamp.clock
  run_is blocks run traces same =
      subst (IsRun blocks run) (ap (numbers_for clock) same ∙ ap (λ (s : ClusterTimestamp). s.clock) is)
