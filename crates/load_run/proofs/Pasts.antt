-- How many events are before one of a kind.
use Rattle.std.proofs.Common.{◌≡◌, ℕ, ◌+◌, ◌-◌, ◌≤◌, refl, subst, arith}
use Rattle.causal_base.specs.declared.event.Event.{Event}
use Rattle.causal_base.specs.declared.kind.Kind.{Kind}
use Rattle.causal_base.specs.declared.kind.Kind.TheVariants.{Unary, Send, Receive, Sync, Watch}
use Rattle.causal_base.specs.Event.{IsOfKind}
use Rattle.causal_base.specs.Types.{TypeTable}

module _ (types : TypeTable) (e : Event) (total size : ℕ) (IsPast : ℕ → Type 0)
    (alone : (IsOfKind types e Sync → ⊥) → (n : ℕ) × (total ≡ n + 1) × IsPast n)
    (paired : IsOfKind types e Sync → (n : ℕ) × (total ≡ n + 2) × IsPast n) where
  -- a sync stands with its partner, and all else alone
  past_and_block : (kind : Kind) → IsOfKind types e kind → (kind ≡ Sync → size ≡ 2) → ((kind ≡ Sync → ⊥) → size ≡ 1) → (n : ℕ) × (total ≡ n + size) × IsPast n
  past_and_block Sync is two one = let past = paired is in (past.0, omega (arith, past.1, two refl), past.2)
  past_and_block Unary is two one = let past = alone (λ sync. absurd cc) in (past.0, omega (arith, past.1, one (λ same. absurd cc)), past.2)
  past_and_block Send is two one = let past = alone (λ sync. absurd cc) in (past.0, omega (arith, past.1, one (λ same. absurd cc)), past.2)
  past_and_block Receive is two one = let past = alone (λ sync. absurd cc) in (past.0, omega (arith, past.1, one (λ same. absurd cc)), past.2)
  past_and_block Watch is two one = let past = alone (λ sync. absurd cc) in (past.0, omega (arith, past.1, one (λ same. absurd cc)), past.2)

  module _ (kind : Kind) (is : IsOfKind types e kind) (two : kind ≡ Sync → size ≡ 2) (one : (kind ≡ Sync → ⊥) → size ≡ 1) where
    -- so its block is counted
    pub block_within : size ≤ total
    block_within = omega (arith, (past_and_block kind is two one).1)

    -- and the rest is before it
    pub rest_is_past : IsPast (total - size)
    rest_is_past =
        let past = past_and_block kind is two one in
        subst IsPast (omega (arith, past.1)) past.2
