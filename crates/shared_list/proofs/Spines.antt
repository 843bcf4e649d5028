use Rattle.std.proofs.Common.{◌≡◌, ℕ, ◌+◌, ◌*◌, ◌<◌, ◌≤◌, ◌^◌, List, [], ◌∷◌, ◌++◌, length, length-append, refl, sym, ◌∙◌, ap, subst, arith, append_assoc, append-nil}
use Rattle.std.specs.Prelude.{slice_get, All}
use Rattle.std.specs.Arc.{arc_value}
use Rattle.std.specs.List.{AllZip, flat_map}
use Rattle.std.specs.declared.alloc.Global.{Global}
use Rattle.std.specs.declared.vec.Vec.{Vec}
use Rattle.std.proofs.lemmas.List.Concat.{flat_map-append}
use Rattle.std.proofs.lemmas.List.Elements.{All-nil, All-cons, All-head, All-tail, All-weaker, All-push}
use Rattle.shared_list.specs.Blocks.{Held, parts_of, Closes, block_items, branch_items, limb_items, spine_items, IsFullBlock, IsFullBranch, IsFullLimb, IsSpine}
use Rattle.shared_list.proofs.Pieces.{length-pieces, slice_get-append_left, slice_get-append_right}

module _ {T : Type 0} where
  -- a full branch has 512 items
  pub branches_of_512 : (branches : List (Held (Held T))) → All IsFullBranch branches → All (λ branch. length (branch_items branch) ≡ 512) branches
  branches_of_512 branches full =
      All-weaker IsFullBranch (λ branch. length (branch_items branch) ≡ 512) (λ branch is. length-pieces block_items 64 (parts_of branch) is.full ∙ ap (λ n. n * 64) is.count) branches full

  -- a full limb has 16,384 items
  pub limbs_of_16384 : (limbs : List (Held (Held (Held T)))) → All IsFullLimb limbs → All (λ limb. length (limb_items limb) ≡ 16384) limbs
  limbs_of_16384 limbs full =
      All-weaker IsFullLimb (λ limb. length (limb_items limb) ≡ 16384) (λ limb is. length-pieces branch_items 512 (parts_of limb) (branches_of_512 (parts_of limb) is.full) ∙ ap (λ n. n * 512) is.count) limbs full

  module _ (limbs : List (Held (Held (Held T)))) (branches : List (Held (Held T))) (blocks : List (Held T)) (spine : IsSpine limbs branches blocks) where
    length-limbs : length (flat_map limb_items limbs) ≡ length limbs * 16384
    length-limbs = length-pieces limb_items 16384 limbs (limbs_of_16384 limbs spine.limbs_full)

    length-branches : length (flat_map branch_items branches) ≡ length branches * 512
    length-branches = length-pieces branch_items 512 branches (branches_of_512 branches spine.branches_full)

    pub length-spine_items : length limbs * 16384 + length branches * 512 + length blocks * 64 ≡ length (spine_items limbs branches blocks)
    length-spine_items =
        let blocks_length : length (flat_map block_items blocks) ≡ length blocks * 64 = length-pieces block_items 64 blocks spine.blocks_full in
        omega (arith, length-append (flat_map limb_items limbs) (flat_map branch_items branches ++ flat_map block_items blocks), length-append (flat_map branch_items branches) (flat_map block_items blocks), length-limbs, length-branches)

    -- an item of the limbs
    pub slice_get-limbs : (at : ℕ) → at < length limbs * 16384 → slice_get (flat_map limb_items limbs) at ≡ slice_get (spine_items limbs branches blocks) at
    slice_get-limbs at h = sym (slice_get-append_left (flat_map limb_items limbs) (flat_map branch_items branches ++ flat_map block_items blocks) at (omega (arith, length-limbs)))

    -- an item of the branches past them
    pub slice_get-branches : (at k : ℕ) → at ≡ length limbs * 16384 + k → k < length branches * 512 → slice_get (flat_map branch_items branches) k ≡ slice_get (spine_items limbs branches blocks) at
    slice_get-branches at k e h =
        sym (slice_get-append_right (flat_map limb_items limbs) (flat_map branch_items branches ++ flat_map block_items blocks) at k (omega (arith, length-limbs))
        ∙ slice_get-append_left (flat_map branch_items branches) (flat_map block_items blocks) k (omega (arith, length-branches)))

    -- an item of the blocks past those
    pub slice_get-blocks : (at k : ℕ) → at ≡ length limbs * 16384 + (length branches * 512 + k) → slice_get (flat_map block_items blocks) k ≡ slice_get (spine_items limbs branches blocks) at
    slice_get-blocks at k e =
        sym (slice_get-append_right (flat_map limb_items limbs) (flat_map branch_items branches ++ flat_map block_items blocks) at (length branches * 512 + k) (omega (arith, length-limbs))
        ∙ slice_get-append_right (flat_map branch_items branches) (flat_map block_items blocks) (length branches * 512 + k) k (omega (arith, length-branches)))

    -- a full open branch is closed
    pub IsSpine-close_branch : (branches' : List (Held (Held T))) → length branches < 32 → length blocks ≡ 8 → Closes branches branches' blocks → IsSpine limbs branches' []
    IsSpine-close_branch branches' room full closes =
        let is : IsFullBranch closes.0 = record { count = ap length closes.2 ∙ full; full = subst (All IsFullBlock) (sym closes.2) spine.blocks_full } in
        record {
          limbs_full = spine.limbs_full;
          branches_full = subst (All IsFullBranch) (sym closes.1) (All-push IsFullBranch branches closes.0 spine.branches_full is);
          blocks_full = All-nil IsFullBlock;
          limbs_few = spine.limbs_few;
          branches_few = let longer = ap length closes.1 ∙ length-append branches (closes.0 ∷ []) in omega arith;
          blocks_few = omega arith;
        }

    -- a full open limb is closed
    pub IsSpine-close_limb : (limbs' : List (Held (Held (Held T)))) → length limbs < 2 ^ 40 → length branches ≡ 32 → Closes limbs limbs' branches → IsSpine limbs' [] blocks
    IsSpine-close_limb limbs' room full closes =
        let is : IsFullLimb closes.0 = record { count = ap length closes.2 ∙ full; full = subst (All IsFullBranch) (sym closes.2) spine.branches_full } in
        record {
          limbs_full = subst (All IsFullLimb) (sym closes.1) (All-push IsFullLimb limbs closes.0 spine.limbs_full is);
          branches_full = All-nil IsFullBranch;
          blocks_full = spine.blocks_full;
          limbs_few = let longer = ap length closes.1 ∙ length-append limbs (closes.0 ∷ []) in omega arith;
          branches_few = omega arith;
          blocks_few = spine.blocks_few;
        }

-- closing changes no item
flat_map-closes : {P T : Type 0} (f : P → List T) (old new : List (Held P)) (parts : List P) → Closes old new parts → flat_map (λ held. flat_map f (parts_of held)) new ≡ flat_map (λ held. flat_map f (parts_of held)) old ++ flat_map f parts
flat_map-closes {P} {T} f old new parts closes =
    let g : Held P → List T = λ held. flat_map f (parts_of held) in
    ap (flat_map g) closes.1 ∙ flat_map-append g old (closes.0 ∷ []) ∙ ap (λ xs. flat_map g old ++ xs) (append-nil (g closes.0) ∙ ap (flat_map f) closes.2)

module _ {T : Type 0} where
  pub spine_items-close_branch : (limbs : List (Held (Held (Held T)))) (branches branches' : List (Held (Held T))) (blocks : List (Held T)) → Closes branches branches' blocks → spine_items limbs branches' [] ≡ spine_items limbs branches blocks
  spine_items-close_branch limbs branches branches' blocks closes =
      ap (λ (xs : List T). flat_map limb_items limbs ++ xs) (append-nil (flat_map branch_items branches') ∙ flat_map-closes block_items branches branches' blocks closes)

  pub spine_items-close_limb : (limbs limbs' : List (Held (Held (Held T)))) (branches : List (Held (Held T))) (blocks : List (Held T)) → Closes limbs limbs' branches → spine_items limbs' [] blocks ≡ spine_items limbs branches blocks
  spine_items-close_limb limbs limbs' branches blocks closes =
      ap (λ (xs : List T). xs ++ flat_map block_items blocks) (flat_map-closes branch_items limbs limbs' branches closes)
      ∙ append_assoc (flat_map limb_items limbs) (flat_map branch_items branches) (flat_map block_items blocks)

module _ {P : Type 0} where
  -- clones hold the same parts
  abbrev pub AreClones : List (Held P) → List (Held P) → Type 0
  AreClones xs ys = AllZip (λ c d. arc_value d ≡ arc_value c) xs ys

  pub flat_map-clones : {A : Type 0} (f : List P → List A) (xs ys : List (Held P)) → AreClones xs ys → flat_map (λ c. f (parts_of c)) ys ≡ flat_map (λ c. f (parts_of c)) xs
  flat_map-clones f [] [] same = refl
  flat_map-clones f [] (y ∷ ys) same = absurd same
  flat_map-clones f (x ∷ xs) [] same = absurd same
  flat_map-clones f (x ∷ xs) (y ∷ ys) same =
      ap (λ (v : Vec P Global). f v.items ++ flat_map (λ c. f (parts_of c)) ys) same.0 ∙ ap (λ rest. f (parts_of x) ++ rest) (flat_map-clones f xs ys same.1)

  pub All-clones : (Q : List P → Type 0) (xs ys : List (Held P)) → AreClones xs ys → All (λ c. Q (parts_of c)) xs → All (λ c. Q (parts_of c)) ys
  All-clones Q [] [] same all = all
  All-clones Q [] (y ∷ ys) same all = absurd same
  All-clones Q (x ∷ xs) [] same all = absurd same
  All-clones Q (x ∷ xs) (y ∷ ys) same all =
      let At : Held P → Type 0 = λ c. Q (parts_of c) in
      All-cons At y ys (subst (λ (v : Vec P Global). Q v.items) (sym same.0) (All-head At x xs all)) (All-clones Q xs ys same.1 (All-tail At x xs all))

  pub length-clones : (xs ys : List (Held P)) → AreClones xs ys → length ys ≡ length xs
  length-clones [] [] same = refl
  length-clones [] (y ∷ ys) same = absurd same
  length-clones (x ∷ xs) [] same = absurd same
  length-clones (x ∷ xs) (y ∷ ys) same = let rest = length-clones xs ys same.1 in omega arith

module _ {T : Type 0} (limbs limbs' : List (Held (Held (Held T)))) (branches branches' : List (Held (Held T))) (blocks blocks' : List (Held T)) (same_limbs : AreClones limbs limbs') (same_branches : AreClones branches branches') (same_blocks : AreClones blocks blocks') where
  -- clones of all handles hold the same items
  pub spine_items-clones : spine_items limbs' branches' blocks' ≡ spine_items limbs branches blocks
  spine_items-clones =
      ap (λ (xs : List T). xs ++ (flat_map branch_items branches' ++ flat_map block_items blocks')) (flat_map-clones (flat_map branch_items) limbs limbs' same_limbs)
      ∙ ap (λ (xs : List T). flat_map limb_items limbs ++ (xs ++ flat_map block_items blocks')) (flat_map-clones (flat_map block_items) branches branches' same_branches)
      ∙ ap (λ (xs : List T). flat_map limb_items limbs ++ (flat_map branch_items branches ++ xs)) (flat_map-clones (λ xs. xs) blocks blocks' same_blocks)

  pub IsSpine-clones : IsSpine limbs branches blocks → IsSpine limbs' branches' blocks'
  IsSpine-clones spine =
      let FullLimb : List (Held (Held T)) → Type 0 = λ parts. (length parts ≡ 32) × All IsFullBranch parts in
      let FullBranch : List (Held T) → Type 0 = λ parts. (length parts ≡ 8) × All IsFullBlock parts in
      let limbs_full = All-clones FullLimb limbs limbs' same_limbs (All-weaker IsFullLimb (λ limb. FullLimb (parts_of limb)) (λ limb is. (is.count, is.full)) limbs spine.limbs_full) in
      let branches_full = All-clones FullBranch branches branches' same_branches (All-weaker IsFullBranch (λ branch. FullBranch (parts_of branch)) (λ branch is. (is.count, is.full)) branches spine.branches_full) in
      record {
        limbs_full = All-weaker (λ limb. FullLimb (parts_of limb)) IsFullLimb (λ limb is. record { count = is.0; full = is.1 }) limbs' limbs_full;
        branches_full = All-weaker (λ branch. FullBranch (parts_of branch)) IsFullBranch (λ branch is. record { count = is.0; full = is.1 }) branches' branches_full;
        blocks_full = All-clones (λ parts. length parts ≡ 64) blocks blocks' same_blocks spine.blocks_full;
        limbs_few = subst (λ n. n ≤ 2 ^ 40) (sym (length-clones limbs limbs' same_limbs)) spine.limbs_few;
        branches_few = subst (λ n. n ≤ 32) (sym (length-clones branches branches' same_branches)) spine.branches_few;
        blocks_few = subst (λ n. n ≤ 8) (sym (length-clones blocks blocks' same_blocks)) spine.blocks_few;
      }
