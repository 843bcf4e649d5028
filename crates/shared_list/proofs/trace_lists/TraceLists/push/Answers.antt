use Rattle.std.proofs.Common.{◌+◌, ◌≤◌, ◌++◌, [], ◌∷◌, set, sym, ◌∙◌, ap, subst, arith}
use Rattle.std.specs.Prelude.{slice_index}
use Rattle.shared_list.specs.Traces.{Traces, with_item, spares_of}
use Rattle.shared_list.proofs.Places.{lists_of-push, ArePlaces-push}
use Rattle.shared_list.proofs.Rooms.{room_of, slice_index-spares_of-set}
use Rattle.shared_list.proofs.trace_lists.TraceLists.push.Goals as goal

pub push-requires : goal.push-requires
push-requires g c =
    let t = c.self.inside in
    (room_of t.items.spare t.places.items c.args.trace (subst (λ (v : Traces g.row.T.Denot). 1 ≤ slice_index v.spare c.args.trace) (sym c.self.view_is) c.requires)).0

pub invariant_of-self : goal.invariant_of-self
invariant_of-self g c =
    let t = c.self.inside in
    let within = (room_of t.items.spare t.places.items c.args.trace (subst (λ (v : Traces g.row.T.Denot). 1 ≤ slice_index v.spare c.args.trace) (sym c.self.view_is) c.requires)).1 in
    let old = c.index_mut.result.now in
    let pushed = c.push-2.ensures.items ∙ ap (λ n. old.items ++ n ∷ []) c.len-place.ensures in
    ArePlaces-push t.items c.push.new.self c.args.item t.places.items c.self.invariant c.push.ensures.items c.args.trace old c.push-2.new.self within c.index_mut.ensures.value pushed c.push.ensures.spare

pub returns-clause-lists : goal.returns-clause-lists
returns-clause-lists g c =
    let t = c.self.inside in
    let within = (room_of t.items.spare t.places.items c.args.trace (subst (λ (v : Traces g.row.T.Denot). 1 ≤ slice_index v.spare c.args.trace) (sym c.self.view_is) c.requires)).1 in
    let old = c.index_mut.result.now in
    let pushed = c.push-2.ensures.items ∙ ap (λ n. old.items ++ n ∷ []) c.len-place.ensures in
    lists_of-push t.items c.push.new.self c.args.item t.places.items c.self.invariant c.push.ensures.items c.args.trace old c.push-2.new.self within c.index_mut.ensures.value pushed
    ∙ ap (λ v. with_item v.lists c.args.trace c.args.item) c.self.view_is

pub returns-clause-spare : goal.returns-clause-spare
returns-clause-spare g c =
    let t = c.self.inside in
    let old = c.index_mut.result.now in
    let items : t.items.spare ≤ c.push.new.self.spare + 1 = omega (arith, c.push.ensures.spare) in
    let places : old.spare ≤ c.push-2.new.self.spare + 1 = omega (arith, c.push-2.ensures.spare) in
    λ k. subst (λ (v : Traces g.row.T.Denot). slice_index v.spare k ≤ slice_index (spares_of c.push.new.self.spare (set t.places.items c.args.trace c.push-2.new.self)) k + 1) c.self.view_is
    (slice_index-spares_of-set t.items.spare c.push.new.self.spare 1 items t.places.items c.args.trace old c.push-2.new.self c.index_mut.ensures.value places k)
