use Rattle.std.proofs.Common.{length, ◌∙◌, ap}
use Rattle.std.specs.Prelude.{slice_get}
use Rattle.shared_list.specs.Traces.{list_of}
use Rattle.shared_list.proofs.Places.{list_of-none, length-list_of}
use Rattle.shared_list.proofs.trace_lists.TraceLists.len.Goals as goal

pub returns-in-Some : goal.returns-in-Some
returns-in-Some g c =
    let t = c.self.inside in
    let found = c.in-Some.ensures ∙ ap (λ ps. slice_get ps c.args.trace) c.deref.ensures.value in
    c.len.ensures ∙ length-list_of t.items t.places.items c.self.invariant c.args.trace c.in-Some.places.now found
    ∙ ap (λ v. length (list_of v.lists c.args.trace)) c.self.view_is

pub returns-in-None : goal.returns-in-None
returns-in-None g c =
    let t = c.self.inside in
    let missing = c.in-None.ensures ∙ ap (λ ps. slice_get ps c.args.trace) c.deref.ensures.value in
    ap length (list_of-none t.items.items t.places.items c.args.trace missing) ∙ ap (λ v. length (list_of v.lists c.args.trace)) c.self.view_is
