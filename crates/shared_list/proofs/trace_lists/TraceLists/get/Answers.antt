use Rattle.std.proofs.Common.{◌∙◌, ap}
use Rattle.std.specs.Prelude.{slice_get, None}
use Rattle.shared_list.specs.Traces.{list_of}
use Rattle.shared_list.proofs.Places.{list_of-none, slice_get-list_of}
use Rattle.shared_list.proofs.trace_lists.TraceLists.get.Goals as goal

pub returns-in_err-nth : goal.returns-in_err-nth
returns-in_err-nth g c =
    let t = c.self.inside in
    let missing = c.in_err-nth.ensures ∙ ap (λ ps. slice_get ps c.args.trace) c.deref.ensures.value in
    rw c.from_residual.ensures
    (ap (λ xs. slice_get xs c.args.at) (list_of-none t.items.items t.places.items c.args.trace missing) ∙ ap (λ v. slice_get (list_of v.lists c.args.trace) c.args.at) c.self.view_is)

pub returns-in_err-place : goal.returns-in_err-place
returns-in_err-place g c =
    let t = c.self.inside in
    let p = c.in_ok-nth.field-0.now in
    let found = c.in_ok-nth.ensures ∙ ap (λ ps. slice_get ps c.args.trace) c.deref.ensures.value in
    let missing = c.in_err-place.ensures.item ∙ ap (slice_get p.items) c.from.ensures in
    rw c.from_residual-in_err-place.ensures
    (slice_get-list_of t.items t.places.items c.self.invariant c.args.trace p found c.args.at None missing ∙ ap (λ v. slice_get (list_of v.lists c.args.trace) c.args.at) c.self.view_is)

pub returns : goal.returns
returns g c =
    let t = c.self.inside in
    let p = c.in_ok-nth.field-0.now in
    let found = c.in_ok-nth.ensures ∙ ap (λ ps. slice_get ps c.args.trace) c.deref.ensures.value in
    let place = c.in_ok-place.ensures.item ∙ ap (slice_get p.items) c.from.ensures in
    c.get-2.ensures.item ∙ ap (slice_get t.items.items) c.from-2.ensures
    ∙ slice_get-list_of t.items t.places.items c.self.invariant c.args.trace p found c.args.at _ place ∙ ap (λ v. slice_get (list_of v.lists c.args.trace) c.args.at) c.self.view_is
