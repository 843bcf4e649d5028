use Rattle.std.proofs.Common.{◌≡◌, ◌+◌, ℕ, List, reverse, sym, ◌∙◌, ap, subst, arith}
use Rattle.causal_base.specs.declared.entry.Entry.{Entry}
use Rattle.causal_base.specs.declared.entry.Entry.TheVariants.{Came}
use Rattle.causal_base.specs.History.{IsNextOfTrace, count_on}
use Rattle.causal_base.specs.Past.{came, deliveries, delivered, HasTrace}
use Rattle.causal_base.proofs.CallerLemmas.{count-le-most, reverse-push}
use Rattle.delivery.specs.Deliveries.{AreParts}
use Rattle.delivery.proofs.Looks.{AreLooked}
use Rattle.delivery.proofs.Moves.{basis_came, looked_behind, parts_came, parts_waiting}
use Rattle.delivery.proofs.delivery.take_in.Goals as goal

pub returns-in_err-wait_for_mate-clause-parts : goal.returns-in_err-wait_for_mate-clause-parts
returns-in_err-wait_for_mate-clause-parts c =
    parts_waiting c.args.types.now (reverse c.args.journal.now) c.args.waiting.now c.args.ready.now c.requires.parts c.wait_for_mate.new.waiting c.wait_for_mate.ensures.kept

pub returns-in_err-push_came-clause-parts : goal.returns-in_err-push_came-clause-parts
returns-in_err-push_came-clause-parts c =
    subst (λ (j : List Entry). AreParts c.args.types.now (reverse j) c.wait_for_mate.new.waiting c.args.ready.now) (sym c.in_err-push_came.ensures.err)
    (parts_waiting c.args.types.now (reverse c.args.journal.now) c.args.waiting.now c.args.ready.now c.requires.parts c.wait_for_mate.new.waiting c.wait_for_mate.ensures.kept)

pub look-requires : goal.look-requires
look-requires c =
    basis_came c.args.types.now (reverse c.args.journal.now) c.args.waiting.now c.args.ready.now c.requires.parts c.args.collector c.args.event c.requires.fit c.requires.new (reverse c.push_came.new.self)
    (ap reverse c.in_ok-push_came.ensures.ok ∙ reverse-push c.args.journal.now (Came c.args.collector c.args.event))

pub overflow_add-delivered_on : goal.overflow_add-delivered_on
overflow_add-delivered_on c =
    let after = reverse c.push_came.new.self in
    let basis = basis_came c.args.types.now (reverse c.args.journal.now) c.args.waiting.now c.args.ready.now c.requires.parts c.args.collector c.args.event c.requires.fit c.requires.new after
    (ap reverse c.in_ok-push_came.ensures.ok ∙ reverse-push c.args.journal.now (Came c.args.collector c.args.event)) in
    let most = count-le-most c.args.types.now (came after) (deliveries after) basis c.args.event.id.trace in
    omega (arith, most, c.delivered_on.ensures)

pub returns-then-id-delivered_on-clause-parts : goal.returns-then-id-delivered_on-clause-parts
returns-then-id-delivered_on-clause-parts c =
    let after = reverse c.push_came.new.self in
    let looked : AreLooked c.args.types.now (came after) (deliveries after) (λ trace. trace ≡ c.args.event.id.trace) c.args.ready.now c.look.new.ready = record {
      kept = c.look.ensures.kept;
      sound = c.look.ensures.sound;
      found = λ block trace enabled has is. c.look.ensures.found block enabled (subst (HasTrace block) is has);
    } in
    parts_came c.args.types.now (reverse c.args.journal.now) c.args.waiting.now c.args.ready.now c.requires.parts c.args.collector c.args.event c.requires.fit c.requires.new after
    (ap reverse c.in_ok-push_came.ensures.ok ∙ reverse-push c.args.journal.now (Came c.args.collector c.args.event))
    c.look.new.ready c.wait_for_mate.new.waiting looked c.wait_for_mate.ensures.kept c.in_ok-wait_for_mate.ensures.waits

pub returns-else-id-delivered_on-clause-parts : goal.returns-else-id-delivered_on-clause-parts
returns-else-id-delivered_on-clause-parts c =
    let past = reverse c.args.journal.now in
    let after = reverse c.push_came.new.self in
    let is_past = ap reverse c.in_ok-push_came.ensures.ok ∙ reverse-push c.args.journal.now (Came c.args.collector c.args.event) in
    let count = c.delivered_on.ensures ∙ ap (λ (p : List Entry). count_on c.args.event.id.trace (delivered p)) is_past in
    let behind : IsNextOfTrace (delivered past) c.args.event → ⊥ = λ next. c.if-id-delivered_on.false (next ∙ ap (λ (n : ℕ). n + 1) (sym count)) in
    parts_came c.args.types.now past c.args.waiting.now c.args.ready.now c.requires.parts c.args.collector c.args.event c.requires.fit c.requires.new after is_past
    c.args.ready.now c.wait_for_mate.new.waiting
    (looked_behind c.args.types.now past c.args.waiting.now c.args.ready.now c.requires.parts c.args.collector c.args.event c.requires.fit c.requires.new after is_past behind)
    c.wait_for_mate.ensures.kept c.in_ok-wait_for_mate.ensures.waits
