use Rattle.std.proofs.Common.{◌≡◌, ◌<◌, ◌≤◌, Bool, true, false, List, [], ◌∷◌, length, reverse, refl, sym, ◌∙◌, subst, arith, Ok, Err, Result}
use Rattle.std.specs.Prelude.{◌↔◌, IfOk, OnOk, OnErr, IsTrue}
use Rattle.causal_base.specs.declared.entry.Entry.{Entry}
use Rattle.causal_base.specs.declared.entry.Entry.TheVariants.{Came}
use Rattle.causal_base.specs.declared.limits.TheConstants.{MOST_EVENTS}
use Rattle.causal_base.specs.declared.refusal.Refusal.{Refusal}
use Rattle.causal_base.specs.declared.refusal.Refusal.TheVariants.{Repeat, Clash, Full}
use Rattle.causal_base.specs.Event.{IsFit}
use Rattle.causal_base.specs.Journal.{IsLegal, IsSettled, came_by}
use Rattle.causal_base.specs.Past.{came, HasEnded, HasEvent, HasNoNext, IsLegalPast, MayCome}
use Rattle.causal_base.specs.Types.{TypeTable}
use Rattle.causal_base.proofs.CallerLemmas.{reverse-push}
use Rattle.event_book.specs.Desks.{DeskState, IsDesk}
use Rattle.event_book.specs.Stamping.{StampedState}
use Rattle.event_book.specs.Appending.{MayAppend}
use Rattle.event_book.specs.Delivering.{GoesOn}
use Rattle.event_book.proofs.Desks.{desk_on, push_ended}
use Rattle.event_book.proofs.desk.Desk.append_came.Goals as goal
use Rattle.event_book.proofs.desk.Desk.append_came.Goals.{in-Ok, in-Err-Repeat, in-Err-Clash, in-Err-Full, in-Err-Oom}

pub accept-requires-clause-settled : goal.accept-requires-clause-settled
accept-requires-clause-settled c =
    subst (λ (t : TypeTable). HasNoNext t (reverse c.self.inside.deliverer.journal)) (sym c.self.invariant.types_are)
    (subst (λ (v : DeskState). IsSettled v.setup.types v.journal) (sym c.self.view_is) (c.settled.ensures.0 c.if-not-settled.false))

pub invariant_of-self : goal.invariant_of-self
invariant_of-self c =
    let setup = c.self.inside.setup.value in
    let old = c.self.inside.deliverer in
    let new = c.accept.new.self in
    let below = subst (λ (v : DeskState). c.args.collector < v.setup.collectors) (sym c.self.view_is) c.requires.collector in
    elim c.accept.result as (λ r. OnOk r (GoesOn old new (Came c.args.collector c.args.event ∷ [])) → OnErr r (new ≡ old) → IsDesk setup new c.self.inside.ended) [
      | Ok t ↦ λ on same. desk_on setup old new c.self.inside.ended (Came c.args.collector c.args.event ∷ []) c.self.invariant on.types on.clustering on.journal (below, tt)
          (λ collector has. push_ended old.journal (Came c.args.collector c.args.event) collector (λ is. absurd cc) has)
      | Err e ↦ λ on same. subst (λ (v : StampedState). IsDesk setup v c.self.inside.ended) (sym same) c.self.invariant
    ] c.accept.ensures.came c.accept.ensures.err

pub returns-clause-legal : goal.returns-clause-legal
returns-clause-legal c =
    let j = c.self.inside.deliverer.journal in
    let types = c.self.inside.deliverer.types in
    let legal = subst (λ (t : TypeTable). IsLegal t j) (sym c.self.invariant.types_are) (subst (λ (v : DeskState). IsLegal v.setup.types v.journal) (sym c.self.view_is) c.setup-setup.ensures.is_journal.legal) in
    let few = subst (λ (v : DeskState). length (came_by v.journal) ≤ MOST_EVENTS) (sym c.self.view_is) c.setup-setup.ensures.is_journal.few in
    let e = c.args.event in
    let entry = Came c.args.collector e in
    let push = reverse-push j entry in
    let most = c.setup-setup.ensures.is_setup.most in
    let fit = subst (λ (t : TypeTable). IsFit t e) (sym c.self.invariant.types_are) (subst (λ (v : DeskState). IsFit v.setup.types e) (sym c.self.view_is) c.requires.fit) in
    let settled = subst (λ (t : TypeTable). HasNoNext t (reverse j)) (sym c.self.invariant.types_are) (subst (λ (v : DeskState). IsSettled v.setup.types v.journal) (sym c.self.view_is) (c.settled.ensures.0 c.if-not-settled.false)) in
    let open_yet : HasEnded (reverse j) c.args.collector → ⊥ =
    λ has.
    let flag = (c.self.invariant.are_ended c.args.collector (omega (arith, most, c.requires.collector))).1 has in
    let clash : true ≡ false = sym flag ∙ c.if-self-collector.false in
    cc in
    let comes : MayAppend types j entry → MayCome types (reverse j) c.args.collector e = λ may. (subst (IsLegalPast types) push may.legal).0 in
    let Says : Bool → Type 0 = λ yes. (IsTrue yes) ↔ (MayAppend types j entry) in
    let says : IfOk c.match-accept.result Says = elim c.match-accept.branch [
      | in-Ok w ↦
          let is = w.in-Ok.is in
          let new = subst (λ (r : Result (Unit {0}) Refusal). OnOk r ((HasEvent (came_by j) e.id → ⊥) × (length (came_by j) < MOST_EVENTS))) is c.accept.ensures.new in
          let may : MayAppend types j entry = record {
            legal = subst (IsLegalPast types) (sym push) (record { settled = settled; fit = fit; new = new.0; open_yet = open_yet }, legal);
            few = subst (λ (past : List Entry). length (came past) ≤ MOST_EVENTS) (sym push) (let room = new.1 in omega (arith, room));
          } in
          subst (λ r. IfOk r Says) (sym w.result-is) (λ yes. may, λ m. refl)
      | in-Err-Repeat w ↦
          let is : c.accept.result ≡ Err Repeat = cc in
          subst (λ r. IfOk r Says) (sym w.result-is) (λ yes. absurd cc, λ may. absurd ((comes may).new (e, c.accept.ensures.repeat.0 is, refl)))
      | in-Err-Clash w ↦
          let is : c.accept.result ≡ Err Clash = cc in
          subst (λ r. IfOk r Says) (sym w.result-is) (λ yes. absurd cc, λ may. absurd ((comes may).new (c.accept.ensures.clash.0 is).0))
      | in-Err-Full w ↦
          let is : c.accept.result ≡ Err Full = cc in
          let many = (c.accept.ensures.full.0 is).1 in
          let never : MayAppend types j entry → ⊥ = λ may. (let over = subst (λ (past : List Entry). length (came past) ≤ MOST_EVENTS) push may.few in omega (arith, over, many)) in
          subst (λ r. IfOk r Says) (sym w.result-is) (λ yes. absurd cc, λ may. absurd (never may))
      | in-Err-Oom w ↦ subst (λ r. IfOk r Says) (sym w.result-is) tt
    ] in
    subst (λ (v : DeskState). IfOk c.match-accept.result (λ yes. (IsTrue yes) ↔ (MayAppend v.setup.types v.journal entry))) c.self.view_is
    (subst (λ (t : TypeTable). IfOk c.match-accept.result (λ yes. (IsTrue yes) ↔ (MayAppend t j entry))) c.self.invariant.types_are says)
