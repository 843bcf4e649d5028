use Rattle.std.proofs.Common.{◌≡◌, ◌<◌, true, false, refl, sym, subst}
use Rattle.std.specs.Prelude.{Option, None, Some, IfNone}
use Rattle.std.proofs.lemmas.Option.{IfSome_then}
use Rattle.causal_base.specs.declared.event_id.EventId.{EventId}
use Rattle.causal_base.specs.Journal.{deliveries_by}
use Rattle.causal_base.specs.Stamps.{is_member}
use Rattle.precedence.proofs.Lookups.{event_of_stamp, none_without}
use Rattle.precedence.proofs.OwnMembers.{member_of_part, number_of_part, place_of_member}
use Rattle.precedence.proofs.stamp.part.Goals as goal

pub returns-in-Some-clause-some : goal.returns-in-Some-clause-some
returns-in-Some-clause-some c = IfSome_then c.part.result c.part.ensures.some (λ n part w are.
    let e = event_of_stamp w c.args.stamps.now.lists are c.args.id c.in-Some.stamp c.in-Some.ensures.some in (
      record { e = e.0; among = e.1; id_is = e.2; clock = number_of_part w (c.laws.ensures w) e.0 c.in-Some.stamp e.3 c.args.trace n part },
      subst (λ (i : EventId). is_member w.clustering (deliveries_by w.journal) i c.args.trace ≡ true) e.2
          (member_of_part w (c.laws.ensures w) e.0 c.in-Some.stamp e.3 c.args.trace n part),
    ))

-- what follows where there is no value
if_none_then : {X P Q : Type 0} (r : Option X) → IfNone r P → (P → Q) → IfNone r Q
if_none_then None p then = then p
if_none_then (Some x) p then = tt

pub returns-in-Some-clause-none : goal.returns-in-Some-clause-none
returns-in-Some-clause-none c = if_none_then c.part.result c.part.ensures.none (λ none w are there.
    let e = event_of_stamp w c.args.stamps.now.lists are c.args.id c.in-Some.stamp c.in-Some.ensures.some in
    elim (is_member w.clustering (deliveries_by w.journal) c.args.id c.args.trace) as (λ b. is_member w.clustering (deliveries_by w.journal) c.args.id c.args.trace ≡ b → is_member w.clustering (deliveries_by w.journal) c.args.id c.args.trace ≡ false) [
      | true ↦ λ member. absurd (none (place_of_member w (c.laws.ensures w) e.0 c.in-Some.stamp e.3 c.args.trace (subst (λ n. c.args.trace < n) are.traces c.requires)
          (subst (λ (i : EventId). is_member w.clustering (deliveries_by w.journal) i c.args.trace ≡ true) (sym e.2) member)))
      | false ↦ λ out. out
    ] refl)

pub returns-in-None-clause-none : goal.returns-in-None-clause-none
returns-in-None-clause-none c w are there = absurd (none_without w c.args.stamps.now.lists are c.args.id c.in-None.ensures.none there)
