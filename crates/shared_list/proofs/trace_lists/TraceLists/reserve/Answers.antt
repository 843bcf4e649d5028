use Rattle.std.proofs.Common.{◌+◌, ◌≤◌, ◌<◌, length, set, ◌∙◌, ap, subst, arith}
use Rattle.std.specs.Prelude.{slice_index}
use Rattle.std.proofs.lemmas.Result.{on_ok_weaker}
use Rattle.shared_list.specs.Traces.{Traces, spares_of}
use Rattle.shared_list.proofs.Places.{lists_of-set_same, length-lists_of}
use Rattle.shared_list.proofs.Rooms.{room_made, slice_index-spares_of-set}
use Rattle.shared_list.proofs.trace_lists.TraceLists.reserve.Goals as goal

pub returns-clause-lists : goal.returns-clause-lists
returns-clause-lists g c =
    let t = c.self.inside in
    let within : c.args.trace < length t.places.items = omega (arith, c.requires, ap (λ v. length v.lists) c.self.view_is, length-lists_of t.items.items t.places.items) in
    lists_of-set_same t.items.items c.reserve.new.self.items t.places.items c.args.trace c.index_mut.result.now c.reserve-2.new.self c.in_ok-reserve.ensures.items within c.index_mut.ensures.value c.reserve-2.ensures.items
    ∙ ap (λ v. v.lists) c.self.view_is

pub returns-clause-room : goal.returns-clause-room
returns-clause-room g c =
    let t = c.self.inside in
    let within : c.args.trace < length t.places.items = omega (arith, c.requires, ap (λ v. length v.lists) c.self.view_is, length-lists_of t.items.items t.places.items) in
    on_ok_weaker c.reserve-2.result (λ (two : 2 ≤ c.reserve-2.new.self.spare). room_made c.reserve.new.self.spare 2 t.places.items c.args.trace c.reserve-2.new.self within c.in_ok-reserve.ensures.room two) c.reserve-2.ensures.room

pub returns-clause-kept : goal.returns-clause-kept
returns-clause-kept g c =
    let t = c.self.inside in
    let old = c.index_mut.result.now in
    let items : t.items.spare ≤ c.reserve.new.self.spare + 0 = omega (arith, c.in_ok-reserve.ensures.kept) in
    let places : old.spare ≤ c.reserve-2.new.self.spare + 0 = omega (arith, c.reserve-2.ensures.kept) in
    λ k. subst (λ (v : Traces g.row.T.Denot). slice_index v.spare k ≤ slice_index (spares_of c.reserve.new.self.spare (set t.places.items c.args.trace c.reserve-2.new.self)) k) c.self.view_is
    (omega (arith, slice_index-spares_of-set t.items.spare c.reserve.new.self.spare 0 items t.places.items c.args.trace old c.reserve-2.new.self c.index_mut.ensures.value places k))
