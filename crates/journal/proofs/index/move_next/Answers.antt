use Rattle.std.proofs.Common.{◌≡◌, ◌<◌, ◌+◌, ◌++◌, ◌∷◌, [], length, set, sym, ◌∙◌, ap, subst, arith, Some}
use Rattle.std.specs.Prelude.{slice_get}
use Rattle.std.proofs.lemmas.Option.{slice_get-get_or}
use Rattle.journal.specs.Places.{place_of}
use Rattle.journal.proofs.Orders.{moved}
use Rattle.journal.proofs.index.move_next.Goals as goal

pub returns-in-Some-take-clause-same : goal.returns-in-Some-take-clause-same
returns-in-Some-take-clause-same c id =
    let next = c.in-Some.id in
    let trace : next.trace ≡ c.args.trace = c.in-Some.ensures.0 in
    let in_order = c.args.in_order.now.items in
    let old = c.index_mut-places.result.now in
    let inside : c.args.trace < length in_order = omega (arith, c.if-len-trace.false, c.len.ensures, c.args.in_order.now.ok.0) in
    subst (λ t. place_of (record { in_order = set in_order t c.push.new.self; early = c.take.new.self }) id ≡ place_of (record { in_order = in_order; early = c.args.early.now }) id) trace
    (moved in_order next old c.push.new.self c.in-Some-take.place
    (subst (λ t. t < length in_order) (sym trace) inside)
    (subst (λ t. slice_get in_order t ≡ Some old) (sym trace) (slice_get-get_or in_order c.args.trace old inside ∙ ap Some (sym c.index_mut-places.ensures.value)))
    (c.push.ensures.items ∙ ap (λ xs. xs ++ c.in-Some-take.place ∷ []) c.reserve.ensures.items)
    (c.in-Some.ensures.1 ∙ ap (λ n. n + 1) c.len-2.ensures)
    c.args.early.now c.take.new.self
    (sym c.take.ensures.value ∙ c.in-Some-take.is)
    c.take.ensures.others id)
