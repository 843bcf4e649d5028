use Rattle.std.specs.Prelude.{◌≡◌, ℕ, List, codes, decimal}
use Rattle.std.specs.List.{join_by}
use Rattle.cluster_levels.specs.Sizes.{AreSizes}

-- The text is these sizes in decimal, with a comma between each two, and they are sizes of levels.
pub record IsSizeList (text sizes : List ℕ) : Type 0 where
  pub spelled : text ≡ join_by decimal (codes ",") sizes
  pub are_sizes : AreSizes sizes
