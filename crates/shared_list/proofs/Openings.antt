use Rattle.std.proofs.Common.{◌≡◌, List, [], ◌++◌, ◌∙◌, ap, append_assoc, ◌+◌, max, length, length-append, length-drop, arith, take, drop}
use Rattle.std.proofs.lemmas.List.{take-append-drop}

module _ {T : Type 0} (spine opened block next end : List T) (front : block ≡ take 64 opened) (fresh : next ≡ []) (back : end ≡ next ++ drop 64 opened) where
  back_alone : end ≡ drop 64 opened
  back_alone = back ∙ ap (λ xs. xs ++ drop 64 opened) fresh

  -- the front of an open block goes to the spine, and the others stay open
  pub items-sealed : (spine ++ block) ++ end ≡ spine ++ opened
  items-sealed =
      append_assoc spine block end
      ∙ ap (λ xs. spine ++ (xs ++ end)) front
      ∙ ap (λ xs. spine ++ (take 64 opened ++ xs)) back_alone
      ∙ ap (λ xs. spine ++ xs) (take-append-drop 64 opened)

  -- a front that was refused, with the others at its end again
  pub items-restored : (again : List T) → again ≡ block ++ drop 0 end → again ≡ opened
  items-restored again e = e ∙ ap (λ xs. xs ++ end) front ∙ ap (λ xs. take 64 opened ++ xs) back_alone ∙ take-append-drop 64 opened

-- what goes to the next open block is what is past the first 64 items
pub length-end : {T : Type 0} (opened next end : List T) → next ≡ [] → end ≡ next ++ drop 64 opened → length end + 64 ≡ max 64 (length opened)
length-end opened next end fresh back = omega (arith, ap length back, ap length fresh, length-append next (drop 64 opened), length-drop 64 opened)
