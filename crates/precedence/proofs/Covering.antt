-- Numbers that grow by what events know, and cover what they have within.
use Rattle.std.proofs.Common.{◌≤◌, ℕ, List, inl, inr, refl, arith}
use Rattle.std.specs.Prelude.{slice_index}
use Rattle.std.proofs.lemmas.Bool.{cases_lt}
use Rattle.causal_base.specs.declared.event.Event.{Event}
use Rattle.causal_base.specs.Walks.{Reaches}
use Rattle.causal_base.specs.Journal.{delivered_by}
use Rattle.precedence.specs.StampedJournal.{StampedJournal}
use Rattle.precedence.specs.Laws.{HasLaws}
use Rattle.precedence.specs.Walking.{IsDelivered, IsNumber, Covers, GrowsWithin}

pub grows_none : (w : StampedJournal) (e : Event) (numbers : List ℕ) → GrowsWithin w e numbers numbers
grows_none w e numbers = record { grows = λ trace. omega arith; within = λ trace n clock. omega arith }

pub grows_on : (w : StampedJournal) (e : Event) (before between after : List ℕ) → GrowsWithin w e before between → GrowsWithin w e between after → GrowsWithin w e before after
grows_on w e before between after one other = record {
  grows = λ trace. let a = one.grows trace in let b = other.grows trace in omega (arith, a, b);
  within = λ trace n clock. let a = one.within trace n clock in let b = other.within trace n clock in omega (arith, a, b);
}

module _ (w : StampedJournal) (laws : HasLaws w) where
  -- what grows within the clock of what reaches an event grows within its clock
  pub grows_further : (r e : Event) → IsDelivered w e → Reaches w.types (delivered_by w.journal) r e → (before after : List ℕ) → GrowsWithin w r before after → GrowsWithin w e before after
  grows_further r e there reaches before after grown = record {
    grows = grown.grows;
    within = λ trace n clock.
        let m = laws.clock_exists r reaches.among trace in
        let most = grown.within trace m.0 m.1 in
        let less = laws.grows r e there reaches trace m.0 n m.1 clock in
        omega (arith, most, less);
  }

  -- Numbers that grew within the clock of an event cover what they did, where they reach its clock.
  pub covers_after : (e : Event) → IsDelivered w e → (before after : List ℕ) → GrowsWithin w e before after → (trace : ℕ) → Covers w before trace → ((n : ℕ) → IsNumber w e trace n → n ≤ slice_index after trace) → Covers w after trace
  covers_after e there before after grown trace covers reached x x_there within m clock =
      let k = laws.clock_exists e there x.id.trace in
      let most = grown.within x.id.trace k.0 k.1 in
      elim (cases_lt (slice_index before x.id.trace) x.id.number) [
        | inr old ↦ (let low = covers x x_there old m clock in let up = grown.grows trace in omega (arith, low, up))
        | inl new ↦
            let least : x.id.number ≤ k.0 = omega (arith, within, most, new) in
            let reach = (laws.tells_reach e there x.id.trace k.0 k.1 x x_there refl).1 least in
            let n = laws.clock_exists e there trace in
            let less = laws.grows x e there reach trace m n.0 clock n.1 in
            let got = reached n.0 n.1 in
            omega (arith, less, got)
      ]
