use Rattle.std.proofs.Common.{List, length, map, sym, ◌∙◌, ap, subst}
use Rattle.std.specs.Prelude.{ℕ, replicate}
use Rattle.shared_list.specs.Shared.{Shared, unspared}
use Rattle.shared_list.specs.Traces.{lists_of, spares_of, ArePlaces}
use Rattle.shared_list.proofs.Places.{lists_of-unspared, ArePlaces-unspared, length-lists_of}
use Rattle.shared_list.proofs.Rooms.{spares_of-unspared}
use Rattle.shared_list.proofs.trace_lists.TraceLists.share.Goals as goal

pub invariant_of-result : goal.invariant_of-result
invariant_of-result g c =
    let t = c.self.inside in
    let places = c.in_ok-shares.ensures ∙ ap (map unspared) c.deref.ensures.value in
    subst (λ (ps : List (Shared ℕ)). ArePlaces c.in_ok-share.field-0 ps) (sym places)
    (ArePlaces-unspared t.items c.in_ok-share.field-0 t.places.items c.in_ok-share.ensures.items c.in_ok-share.ensures.spare c.self.invariant)

pub returns-clause-lists : goal.returns-clause-lists
returns-clause-lists g c =
    let t = c.self.inside in
    let places = c.in_ok-shares.ensures ∙ ap (map unspared) c.deref.ensures.value in
    ap (λ items. lists_of items c.in_ok-shares.field-0.items) c.in_ok-share.ensures.items ∙ ap (lists_of t.items.items) places
    ∙ lists_of-unspared t.items.items t.places.items ∙ ap (λ v. v.lists) c.self.view_is

pub returns-clause-spare : goal.returns-clause-spare
returns-clause-spare g c =
    let t = c.self.inside in
    let places = c.in_ok-shares.ensures ∙ ap (map unspared) c.deref.ensures.value in
    ap (spares_of c.in_ok-share.field-0.spare) places ∙ spares_of-unspared c.in_ok-share.field-0.spare c.in_ok-share.ensures.spare t.places.items
    ∙ ap (λ n. replicate n 0) (length-lists_of t.items.items t.places.items ∙ ap (λ v. length v.lists) c.self.view_is)
