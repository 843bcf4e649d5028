-- How a list of sizes is read: its first size, and what stands behind the comma after it.
use Rattle.std.specs.Prelude.{◌≡◌, ◌≢◌, ℕ, ◌≤◌, List, [], ◌++◌, All, Option, None, Some, codes, decimal}
use Rattle.cluster_levels.specs.declared.limits.TheConstants.{MOST_SIZE}

-- a comma and what stands behind it, if anything does
abbrev pub comma_before : Option (List ℕ) → List ℕ
comma_before None = []
comma_before (Some more) = codes "," ++ more

-- The text is this size, and what stands behind the comma after it, if there is one.
pub record IsNextSize (text : List ℕ) (size : ℕ) (behind : Option (List ℕ)) : Type 0 where
  pub spelled : text ≡ decimal size ++ comma_before behind
  pub small : size ≤ MOST_SIZE

-- The text is a part without a comma, and what stands behind the comma after it, if there is one.
pub record IsListPart (text part : List ℕ) (behind : Option (List ℕ)) : Type 0 where
  pub whole : text ≡ part ++ comma_before behind
  pub first : All (λ byte. byte ≢ 44) part
