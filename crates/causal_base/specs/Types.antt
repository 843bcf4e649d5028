use Rattle.std.specs.Prelude.{◌≡◌, ℕ, List, [], ◌∷◌, Option, None, Some, slice_get, option_and_then, codes}
use Rattle.std.specs.Option.{option_map}
use Rattle.causal_base.specs.declared.kind.Kind.{Kind}
use Rattle.causal_base.specs.declared.kind.Kind.TheVariants.{Unary, Send, Receive, Sync}
use Rattle.causal_base.specs.declared.type_row.TypeRow.{TypeRow}

-- How many traces there are, and the types that their events may have.
pub record TypeTable : Type 0 where
  pub traces : ℕ
  pub rows : List TypeRow

-- what the events of the type with this number do, where there is such a type
abbrev pub kind_of : TypeTable → ℕ → Option Kind
kind_of types type_no = option_map (λ row. row.kind) (slice_get types.rows type_no)

-- the number of the type that it mates with, where it has one
abbrev pub mate_of : TypeTable → ℕ → Option ℕ
mate_of types type_no = option_and_then (λ row. row.mate) (slice_get types.rows type_no)

-- Two types are mates when each of them has the other as its mate.
pub record AreMates (types : TypeTable) (a b : ℕ) : Type 0 where
  pub forth : mate_of types a ≡ Some b
  pub back : mate_of types b ≡ Some a

-- the four types that are there without a target file: `u` unary, `s` send and `r` receive, which
-- mate with each other, and `y` sync, which mates with itself
abbrev pub builtin_types : ℕ → TypeTable
builtin_types traces = record {
  traces = traces;
  rows = record { name = codes "u"; kind = Unary; mate = None }
      ∷ record { name = codes "s"; kind = Send; mate = Some 2 }
      ∷ record { name = codes "r"; kind = Receive; mate = Some 1 }
      ∷ record { name = codes "y"; kind = Sync; mate = Some 3 }
      ∷ [];
}
