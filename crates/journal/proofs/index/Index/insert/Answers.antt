use Rattle.std.proofs.Common.{◌++◌, ◌∷◌, [], sym, ◌∙◌, ap, arith, Some}
use Rattle.std.specs.Option.{option_or}
use Rattle.std.proofs.lemmas.Option.{slice_get-get_or}
use Rattle.trace_queue.specs.Held.{held_at}
use Rattle.journal.specs.Places.{PlaceIndex, place_of}
use Rattle.journal.proofs.Orders.{same_others}
use Rattle.journal.proofs.index.Index.insert.Goals as goal

pub returns-clause-others : goal.returns-clause-others
returns-clause-others c other ne =
    let in_order = c.grow.new.in_order.items in
    let old = c.index_mut-places.result.now in
    let inside = c.in_ok-grow.ensures.ok in
    c.catch_up.ensures.same other
    ∙ (ap (λ o. option_or o (held_at c.self.inside.early other))
    (same_others in_order c.args.id old c.push.new.self c.args.place inside
    (slice_get-get_or in_order c.args.id.trace old inside ∙ ap Some (sym c.index_mut-places.ensures.value))
    (c.push.ensures.items ∙ ap (λ xs. xs ++ c.args.place ∷ []) c.reserve.ensures.items)
    (omega (arith, c.if-from-len.false, c.from.ensures, c.len.ensures, c.if-id-eq0.false)) other ne ∙ c.grow.ensures.same other)
    ∙ ap (λ (index : PlaceIndex). place_of index other) c.self.view_is)
