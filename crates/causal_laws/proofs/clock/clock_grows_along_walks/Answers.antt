-- What reaches the one reaches the other.
use Rattle.std.proofs.Common.{inl, inr, arith}
use Rattle.std.specs.Prelude.{reverse}
use Rattle.std.proofs.lemmas.Bool.{cases_lt}
use Rattle.causal_base.specs.Journal.{delivered_by, deliveries_by}
use Rattle.causal_base.proofs.CallerLemmas.{causal, delivered_numbered, event_at, reaches_on}
use Rattle.causal_laws.proofs.Entries.{limit_from_clock}
use Rattle.causal_laws.proofs.clock.clock_grows_along_walks.Goals as goal

pub returns : goal.returns
returns c types journal legal a b in_b reaches trace m n one other =
    let history = deliveries_by journal in
    let its = limit_from_clock types history (causal types (reverse journal) legal) a reaches.among trace m one in
    let also = limit_from_clock types history (causal types (reverse journal) legal) b in_b trace n other in
    elim (cases_lt n m) [
      | inr most ↦ most
      | inl less ↦
          let x = event_at (delivered_by journal) (delivered_numbered types (reverse journal) legal) trace m (omega arith) its.most in
          let to_a = its.to x.0 x.1 x.2 (omega (arith, x.3)) in
          let most = also.from x.0 x.1 x.2 (reaches_on types (delivered_by journal) x.0 a b to_a reaches) in
          omega (arith, most, x.3, less)
    ]
