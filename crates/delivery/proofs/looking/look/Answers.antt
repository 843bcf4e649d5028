use Rattle.std.proofs.Common.{◌≡◌, reverse, inl, inr, sym, ◌∙◌, ap, arith}
use Rattle.causal_base.specs.Past.{came, deliveries}
use Rattle.delivery.specs.Leading.{first_trace}
use Rattle.delivery.proofs.Leaders.{first_below, trace_below}
use Rattle.delivery.proofs.looking.look.Goals as goal

pub insert-requires : goal.insert-requires
insert-requires c =
    let past = reverse c.args.journal.now in
    let below = first_below c.args.types.now (came past) (deliveries past) c.requires c.in-Some.block c.in-Some.ensures.some.1 in
    omega (arith, below, c.trace_of.ensures, c.traces.ensures.table.most_traces)

pub returns-in-Some-clause-sound : goal.returns-in-Some-clause-sound
returns-in-Some-clause-sound c other below is = elim ((c.insert.ensures other below).0 is) [
  | inl was ↦ inl was
  | inr here ↦ inr (record { block = c.in-Some.block; enabled = c.in-Some.ensures.some.1; first = sym c.trace_of.ensures ∙ sym here })
]

pub returns-in-Some-clause-found : goal.returns-in-Some-clause-found
returns-in-Some-clause-found c block enabled has =
    let past = reverse c.args.journal.now in
    let same = c.next_is_one.ensures.shared c.args.types.now (came past) (deliveries past) c.requires c.in-Some.block block c.in-Some.ensures.some.1 enabled c.args.trace c.in-Some.ensures.some.0 has in
    let first : first_trace block ≡ c.trace_of.result = sym (c.trace_of.ensures ∙ ap first_trace same) in
    let below = first_below c.args.types.now (came past) (deliveries past) c.requires block enabled in
    (c.insert.ensures (first_trace block) (omega (arith, below, c.traces.ensures.table.most_traces))).1 (inr first)

pub returns-then-trace-traces-clause-found : goal.returns-then-trace-traces-clause-found
returns-then-trace-traces-clause-found c block enabled has =
    let past = reverse c.args.journal.now in
    let below = trace_below c.args.types.now (came past) (deliveries past) c.requires block enabled c.args.trace has in
    absurd (omega (arith, below, c.if-trace-traces.true, c.traces.ensures.number))
