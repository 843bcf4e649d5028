use Rattle.std.proofs.Common.{◌≡◌, Bool, List, reverse, refl, sym, ◌∙◌, ap, subst, Some}
use Rattle.std.specs.Prelude.{Contains, IfSome, vec_capacity}
use Rattle.std.specs.Option.{option_map}
use Rattle.causal_base.specs.declared.entry.Entry.{Entry}
use Rattle.causal_base.specs.declared.event.Event.{Event}
use Rattle.causal_base.specs.Past.{came}
use Rattle.journal.specs.Naming.{names_another}
use Rattle.journal.proofs.Stores.{found}
use Rattle.journal.proofs.journal.Journal.names_another.Goals as goal

pub returns-clause-some : goal.returns-clause-some
returns-clause-some c =
    let j = c.self.inside in
    let its = found j.events.items j.marks.items (vec_capacity j.marks) j.index j.counts j.delivered c.self.invariant c.args.id c.in_ok-place.field-0 (sym c.place.ensures ∙ c.in_ok-place.was) in
    let names : c.names_another.result ≡ Some (names_another its.0) = c.names_another.ensures ∙ ap (option_map names_another) its.1 in
    subst (λ o. IfSome o (λ (names : Bool). (x : Event) × Contains (came (reverse c.args.self.now)) x × (x.id ≡ c.args.id) × (names ≡ names_another x))) (sym names)
    (its.0, subst (λ (es : List Entry). Contains (came (reverse es)) its.0) c.self.view_is its.2, its.3, refl)
