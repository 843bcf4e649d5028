use Rattle.std.specs.Prelude.{◌≡◌, ◌≤◌, ◌^◌, List, [], ◌∷◌, ◌++◌, length, All}
use Rattle.std.specs.List.{flat_map}
use Rattle.std.specs.Arc.{arc_value}
use Rattle.std.specs.declared.alloc.Global.{Global}
use Rattle.std.specs.declared.sync.Arc.{Arc}
use Rattle.std.specs.declared.vec.Vec.{Vec}

-- what lists share: some parts, held by several owners
abbrev pub Held : Type 0 → Type 0
Held P = Arc (Vec P Global) Global

-- the parts that are held
abbrev pub parts_of : {P : Type 0} → Held P → List P
parts_of held = (arc_value held).items

-- all parts became one that is held, past those that were
abbrev pub Closes : {P : Type 0} → List (Held P) → List (Held P) → List P → Type 0
Closes {P} old new parts = (held : Held P) × (new ≡ old ++ held ∷ []) × (parts_of held ≡ parts)

module _ {T : Type 0} where
  -- the items of a block
  abbrev pub block_items : Held T → List T
  block_items block = parts_of block

  -- the items of a branch of blocks
  abbrev pub branch_items : Held (Held T) → List T
  branch_items branch = flat_map block_items (parts_of branch)

  -- the items of a limb of branches
  abbrev pub limb_items : Held (Held (Held T)) → List T
  limb_items limb = flat_map branch_items (parts_of limb)

  -- a full block has 64 items
  abbrev pub IsFullBlock : Held T → Type 0
  IsFullBlock block = length (block_items block) ≡ 64

  -- a full branch has 8 blocks, each of them full
  pub record IsFullBranch (branch : Held (Held T)) : Type 0 where
    pub count : length (parts_of branch) ≡ 8
    pub full : All IsFullBlock (parts_of branch)

  -- a full limb has 32 branches, each of them full
  pub record IsFullLimb (limb : Held (Held (Held T))) : Type 0 where
    pub count : length (parts_of limb) ≡ 32
    pub full : All IsFullBranch (parts_of limb)

  -- the items of limbs, then of the branches past them, then of the blocks past those
  abbrev pub spine_items :
      List (Held (Held (Held T))) → List (Held (Held T)) → List (Held T) → List T
  spine_items limbs branches blocks =
      flat_map limb_items limbs ++ (flat_map branch_items branches ++ flat_map block_items blocks)

  -- all limbs, branches and blocks are full, and past each there are no more than make one
  pub record IsSpine
      (limbs : List (Held (Held (Held T)))) (branches : List (Held (Held T)))
      (blocks : List (Held T)) :
      Type 0 where
    pub limbs_full : All IsFullLimb limbs
    pub branches_full : All IsFullBranch branches
    pub blocks_full : All IsFullBlock blocks
    pub limbs_few : length limbs ≤ 2 ^ 40
    pub branches_few : length branches ≤ 32
    pub blocks_few : length blocks ≤ 8
