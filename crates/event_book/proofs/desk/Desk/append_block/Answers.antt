use Rattle.std.proofs.Common.{◌≡◌, ◌≤◌, true, false, List, [], ◌∷◌, ◌++◌, length, reverse, refl, sym, ◌∙◌, ap, subst}
use Rattle.std.specs.Prelude.{◌↔◌, Option, IfSome, IfNone, IsTrue}
use Rattle.causal_base.specs.declared.block.Block.{Block}
use Rattle.causal_base.specs.declared.entry.Entry.{Entry}
use Rattle.causal_base.specs.declared.limits.TheConstants.{MOST_EVENTS}
use Rattle.causal_base.specs.Journal.{IsLegal, came_by}
use Rattle.causal_base.specs.Past.{HasNoNext, IsNext}
use Rattle.causal_base.specs.Types.{TypeTable}
use Rattle.event_book.specs.Desks.{DeskState}
use Rattle.event_book.specs.Stamping.{StampedState}
use Rattle.delivery.specs.Leading.{entry_of}
use Rattle.event_book.specs.Appending.{MayAppend}
use Rattle.event_book.specs.Delivering.{entries_of}
use Rattle.event_book.proofs.Blocks.{went_is}
use Rattle.event_book.proofs.Desks.{desk_on, may_block, no_collectors}
use Rattle.event_book.proofs.Settling.{entries_deliver, not_ended}
use Rattle.event_book.proofs.desk.Desk.append_block.Goals as goal

pub returns-then-not-is_block-clause-legal : goal.returns-then-not-is_block-clause-legal
returns-then-not-is_block-clause-legal c =
    let j = c.self.inside.deliverer.journal in
    let types = c.self.inside.deliverer.types in
    let legal = subst (λ (t : TypeTable). IsLegal t j) (sym c.self.invariant.types_are) (subst (λ (v : DeskState). IsLegal v.setup.types v.journal) (sym c.self.view_is) c.setup-setup.ensures.is_journal.legal) in
    let few = subst (λ (v : DeskState). length (came_by v.journal) ≤ MOST_EVENTS) (sym c.self.view_is) c.setup-setup.ensures.is_journal.few in
    let some = subst (λ (v : StampedState). IfSome c.next_block.result (IsNext v.types (reverse v.journal))) c.stamped.ensures.value c.next_block.ensures.some in
    let none = subst (λ (v : StampedState). IfNone c.next_block.result (HasNoNext v.types (reverse v.journal))) c.stamped.ensures.value c.next_block.ensures.none in
    let never : MayAppend types j (entry_of c.args.block) → ⊥ =
    λ may.
    let next = (may_block types j c.args.block legal few).0 may in
    let went = went_is types j legal c.args.block next c.next_block.result (c.next_is_one.ensures.journal types j legal) some none in
    let clash : true ≡ false = sym (c.is_block.ensures.1 went) ∙ c.if-not-is_block.true in
    cc in
    subst (λ (v : DeskState). (IsTrue false) ↔ (MayAppend v.setup.types v.journal (entry_of c.args.block))) c.self.view_is
    (subst (λ (t : TypeTable). (IsTrue false) ↔ (MayAppend t j (entry_of c.args.block))) c.self.invariant.types_are (λ yes. absurd cc, λ may. absurd (never may)))

pub invariant_of-self-2 : goal.invariant_of-self-2
invariant_of-self-2 c =
    let on = c.in_ok-deliver_next.ensures.delivered in
    let went = c.in_ok-deliver_next.field-0 in
    desk_on c.self.inside.setup.value c.self.inside.deliverer c.deliver_next.new.self c.self.inside.ended (entries_of went) c.self.invariant on.types on.clustering on.journal
    (no_collectors c.self.inside.setup.value.collectors (entries_of went) (entries_deliver went))
    (λ collector has. not_ended collector c.self.inside.deliverer.journal (entries_of went) (entries_deliver went) has)

pub returns-clause-legal : goal.returns-clause-legal
returns-clause-legal c =
    let j = c.self.inside.deliverer.journal in
    let types = c.self.inside.deliverer.types in
    let legal = subst (λ (t : TypeTable). IsLegal t j) (sym c.self.invariant.types_are) (subst (λ (v : DeskState). IsLegal v.setup.types v.journal) (sym c.self.view_is) c.setup-setup.ensures.is_journal.legal) in
    let few = subst (λ (v : DeskState). length (came_by v.journal) ≤ MOST_EVENTS) (sym c.self.view_is) c.setup-setup.ensures.is_journal.few in
    let some = subst (λ (v : StampedState). IfSome c.next_block.result (IsNext v.types (reverse v.journal))) c.stamped.ensures.value c.next_block.ensures.some in
    let next = subst (λ (r : Option Block). IfSome r (IsNext types (reverse j))) (c.is_block.ensures.0 c.if-not-is_block.false) some in
    subst (λ (v : DeskState). (IsTrue true) ↔ (MayAppend v.setup.types v.journal (entry_of c.args.block))) c.self.view_is
    (subst (λ (t : TypeTable). (IsTrue true) ↔ (MayAppend t j (entry_of c.args.block))) c.self.invariant.types_are (λ yes. (may_block types j c.args.block legal few).1 next, λ may. refl))

pub returns-clause-appended : goal.returns-clause-appended
returns-clause-appended c told =
    let j = c.self.inside.deliverer.journal in
    let types = c.self.inside.deliverer.types in
    let legal = subst (λ (t : TypeTable). IsLegal t j) (sym c.self.invariant.types_are) (subst (λ (v : DeskState). IsLegal v.setup.types v.journal) (sym c.self.view_is) c.setup-setup.ensures.is_journal.legal) in
    let few = subst (λ (v : DeskState). length (came_by v.journal) ≤ MOST_EVENTS) (sym c.self.view_is) c.setup-setup.ensures.is_journal.few in
    let some = subst (λ (v : StampedState). IfSome c.next_block.result (IsNext v.types (reverse v.journal))) c.stamped.ensures.value c.next_block.ensures.some in
    let next = subst (λ (r : Option Block). IfSome r (IsNext types (reverse j))) (c.is_block.ensures.0 c.if-not-is_block.false) some in
    let went = went_is types j legal c.args.block next c.in_ok-deliver_next.field-0 (c.next_is_one.ensures.journal types j legal) c.in_ok-deliver_next.ensures.some c.in_ok-deliver_next.ensures.none in
    ap (λ (l : List Entry). let d : DeskState = record { setup = c.self.inside.setup.value; journal = l } in d) (c.in_ok-deliver_next.ensures.delivered.journal ∙ ap (λ (r : Option Block). j ++ entries_of r) went)
    ∙ ap (λ (v : DeskState). let d : DeskState = record { setup = v.setup; journal = v.journal ++ entry_of c.args.block ∷ [] } in d) c.self.view_is
