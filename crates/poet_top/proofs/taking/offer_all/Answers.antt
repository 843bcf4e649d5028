use Rattle.std.proofs.Common.{◌≡◌, ◌<◌, ◌⊎◌, inl, inr, ◌++◌, ◌∷◌, [], List, refl, sym, ◌∙◌, ap, subst, append_assoc, append-nil}
use Rattle.std.specs.Vec.Iter.{into_iter_items}
use Rattle.causal_base.specs.declared.event.Event.{Event}
use Rattle.causal_base.specs.Types.{TypeTable}
use Rattle.poet_top.specs.declared.fault.Fault.{Fault}
use Rattle.poet_top.specs.declared.fault.Fault.TheVariants.{Memory, Full}
use Rattle.causal_base.specs.declared.limits.TheConstants.{MOST_PLAIN_EVENTS}
use Rattle.poet_top.specs.Ask.{count_of_ids}
use Rattle.poet_top.specs.Taking.{HasTaken}
use Rattle.poet_top.proofs.Exits.{if_err_from}
use Rattle.poet_top.proofs.Turns.{taken_front, taken_all}
use Rattle.poet_top.proofs.taking.offer_all.Goals as goal

pub loop-event-init : goal.loop-event-init
loop-event-init c = record { can = tt; ends = tt; types = refl; took = λ events has. subst (λ es. HasTaken c.args.plain.now.types es c.args.plain.now.journal) (sym (append-nil events)) has }

pub loop-event-preserved : goal.loop-event-preserved
loop-event-preserved c =
    let before = c.loop-event.plain in
    let later = c.offer.new.plain in
    let same = c.loop-event.invariant.types in
    record {
      can = tt;
      ends = tt;
      types = c.in_ok-offer.ensures.types ∙ same;
      took = λ events has.
          let so_far = subst (λ (t : TypeTable). HasTaken t (events ++ c.loop-event.yielded) before.journal) (sym same) (c.loop-event.invariant.took events has) in
          let more = c.in_ok-offer.ensures.taken (events ++ c.loop-event.yielded) so_far in
          subst (λ es. HasTaken c.args.plain.now.types es later.journal) (append_assoc events c.loop-event.yielded (c.in-Some.event ∷ []))
          (subst (λ (t : TypeTable). HasTaken t ((events ++ c.loop-event.yielded) ++ c.in-Some.event ∷ []) later.journal) same more);
    }

pub returns-clause-taken : goal.returns-clause-taken
returns-clause-taken c events has =
    let last = c.loop-event.plain in
    let gives : into_iter_items c.into_iter-event-iterator.result ≡ c.into_vec-event-items.result.items = c.into_iter-event-iterator.ensures.into_iter_gives.0 in
    let all : c.loop-event.yielded ≡ c.args.batch =
    sym (taken_all c.into_iter-event-iterator.result c.loop-event.yielded c.loop-event.event-iterator c.loop-event.yielded_by c.in-None.ensures.steps.0)
    ∙ (gives ∙ c.into_vec-event-items.ensures.events) in
    subst (λ es. HasTaken c.args.plain.now.types (events ++ es) last.journal) all (c.loop-event.invariant.took events has)

pub returns-in_err-offer-clause-err : goal.returns-in_err-offer-clause-err
returns-in_err-offer-clause-err c =
    let before = c.loop-event.plain in
    let fault = c.in_err-offer.field-0.0 in
    let Caused : Fault → Type 0 = λ f. (f ≡ Memory) ⊎ ((f ≡ Full) × ((events others : List Event) → HasTaken c.args.plain.now.types events c.args.plain.now.journal
    → MOST_PLAIN_EVENTS < count_of_ids (events ++ (c.args.batch ++ others)))) in
    let gives : into_iter_items c.into_iter-event-iterator.result ≡ c.into_vec-event-items.result.items = c.into_iter-event-iterator.ensures.into_iter_gives.0 in
    let rest = into_iter_items c.next.new.self in
    let all : c.loop-event.yielded ++ c.in-Some.event ∷ rest ≡ c.args.batch =
    sym (taken_front c.into_iter-event-iterator.result c.loop-event.yielded c.loop-event.event-iterator c.loop-event.yielded_by ∙ ap (λ es. c.loop-event.yielded ++ es) c.in-Some.ensures.steps.0)
    ∙ (gives ∙ c.into_vec-event-items.ensures.events) in
    let caused : Caused fault = elim c.in_err-offer.ensures.err [
      | inl memory ↦ inl memory
      | inr full ↦ inr (
        full.0,
        λ events others has.
            let so_far = subst (λ (t : TypeTable). HasTaken t (events ++ c.loop-event.yielded) before.journal) (sym c.loop-event.invariant.types) (c.loop-event.invariant.took events has) in
            let many = full.1 (events ++ c.loop-event.yielded) (rest ++ others) so_far in
            subst (λ es. MOST_PLAIN_EVENTS < count_of_ids (events ++ (es ++ others))) all
            (subst (λ es. MOST_PLAIN_EVENTS < count_of_ids (events ++ es)) (sym (append_assoc c.loop-event.yielded (c.in-Some.event ∷ rest) others))
            (subst (λ es. MOST_PLAIN_EVENTS < count_of_ids es) (append_assoc events c.loop-event.yielded (c.in-Some.event ∷ (rest ++ others))) many)),
      )
    ] in
    if_err_from Caused c.from_residual.result fault c.from_residual.ensures.1 caused
