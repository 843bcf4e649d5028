-- The search by halves for the first event of a trace that an event reaches: what holds of each
-- half, and how few halves there are.
use Rattle.std.proofs.Common.{◌≡◌, ◌<◌, ◌≤◌, ◌+◌, ◌-◌, ◌*◌, ◌^◌, ℕ, suc, zero, List, inl, inr, sym, ◌∙◌, arith}
use Rattle.std.specs.Prelude.{Contains}
use Rattle.std.proofs.lemmas.Bool.{cases_lt}
use Rattle.std.proofs.Math.Nat.{pow-suc}
use Rattle.causal_base.specs.declared.entry.Entry.{Entry}
use Rattle.causal_base.specs.declared.event.Event.{Event}
use Rattle.causal_base.specs.Journal.{IsLegal, delivered_by}
use Rattle.causal_base.specs.Types.{TypeTable}
use Rattle.causal_base.specs.Walks.{Reaches}
use Rattle.cut_scroll.specs.Parts.{IsUnreached}
use Rattle.cut_scroll.proofs.DeliveredEvents.{number_least, reaches_past}

-- e reaches no event of the trace up to the number low, and those after the number high
pub record IsHalved (types : TypeTable) (journal : List Entry) (e : Event) (trace most low high : ℕ) : Type 0 where
  pub below : (x : Event) → Contains (delivered_by journal) x → x.id.trace ≡ trace → x.id.number ≤ low → Reaches types (delivered_by journal) e x → ⊥
  pub above : (x : Event) → Contains (delivered_by journal) x → x.id.trace ≡ trace → high < x.id.number → x.id.number ≤ most → Reaches types (delivered_by journal) e x

module _ (types : TypeTable) (journal : List Entry) (legal : IsLegal types journal) (e : Event) (trace most : ℕ) where
  pub halved_none : IsHalved types journal e trace most 0 most
  halved_none = record {
    below = λ x there on few reaches. let least = number_least types journal legal x there in omega (arith, few, least);
    above = λ x there on out inside. absurd (omega (arith, out, inside));
  }

  module _ (low high : ℕ) (halved : IsHalved types journal e trace most low high) (x : Event) (there : Contains (delivered_by journal) x) (on : x.id.trace ≡ trace) where
    -- e reaches an event, and so the later ones
    pub halved_to : (middle : ℕ) → x.id.number ≡ middle + 1 → Reaches types (delivered_by journal) e x → IsHalved types journal e trace most low middle
    halved_to middle number reaches = record {
      below = halved.below;
      above = λ y in_y on_y out inside. reaches_past types journal legal e x y in_y (on ∙ sym on_y) (omega (arith, number, out)) reaches;
    }

    -- it doesn't reach one, and so none of the earlier ones
    pub halved_from : (middle : ℕ) → x.id.number ≡ middle → (Reaches types (delivered_by journal) e x → ⊥) → IsHalved types journal e trace most middle high
    halved_from middle number free = record {
      below = λ y in_y on_y few reaches. free (reaches_past types journal legal e y x there (on_y ∙ sym on) (omega (arith, number, few)) reaches);
      above = halved.above;
    }

  pub halved_all : (low high : ℕ) → low ≤ high → high ≤ low → high ≤ most → IsHalved types journal e trace most low high → IsUnreached types (delivered_by journal) e trace most low
  halved_all low high order done within halved = record {
    within = omega (arith, order, within);
    from = λ x there on few. (
      (λ reaches. elim (cases_lt low x.id.number) [ inl out ↦ out | inr inside ↦ absurd (halved.below x there on inside reaches) ]),
      (λ out. halved.above x there on (omega (arith, done, out)) few),
    );
  }

-- So many halves may be left, for each of which there are steps.
pub record HasRounds (low high bound steps start : ℕ) : Type 0 where
  pub rounds : ℕ
  pub room : high < low + 2 ^ rounds
  pub left : steps + rounds * bound ≤ start + 20 * bound

pub rounds_none : (most bound start : ℕ) → most ≤ 1000000 → HasRounds 0 most bound start start
rounds_none most bound start few = record { rounds = 20; room = omega (arith, few); left = omega arith }

-- one half more
pub rounds_more : (low high bound steps start : ℕ) → HasRounds low high bound steps start → low < high → (next_low next_high after : ℕ) → 2 * (next_high - next_low) ≤ high - low → after ≤ steps + bound → HasRounds next_low next_high bound after start
rounds_more low high bound steps start has open_yet next_low next_high after half took = go has.rounds has.room has.left
  where
    go : (rounds : ℕ) → high < low + 2 ^ rounds → steps + rounds * bound ≤ start + 20 * bound → HasRounds next_low next_high bound after start
    go zero room left = absurd (omega (arith, room, open_yet))
    go (suc rounds) room left =
        let twice : 2 ^ suc rounds ≡ 2 ^ rounds * 2 = pow-suc 2 rounds in
        let times : suc rounds * bound ≡ bound + rounds * bound = omega arith in
        record {
          rounds = rounds;
          room = omega (arith, room, half, open_yet, twice);
          left = omega (arith, left, times, took);
        }

pub rounds_within : (low high bound steps start : ℕ) → HasRounds low high bound steps start → steps ≤ start + 20 * bound
rounds_within low high bound steps start has = let left = has.left in omega (arith, left)
