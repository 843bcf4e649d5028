-- A legal journal after the block that is Next was delivered.
use Rattle.std.proofs.Common.{◌≡◌, List, [], ◌∷◌, ◌++◌, reverse, sym, ◌∙◌, ap, subst, Some}
use Rattle.std.specs.Prelude.{Option, None, IfSome, IfNone}
use Rattle.causal_base.specs.declared.block.Block.{Block}
use Rattle.causal_base.specs.declared.block.Block.TheVariants.{One, Two}
use Rattle.causal_base.specs.declared.entry.Entry.{Entry}
use Rattle.causal_base.specs.declared.entry.Entry.TheVariants.{Gone, Pair}
use Rattle.causal_base.specs.declared.event.Event.{Event}
use Rattle.causal_base.specs.declared.event_id.EventId.{EventId}
use Rattle.causal_base.specs.Types.{TypeTable}
use Rattle.causal_base.specs.History.{alone, together, IsCausal}
use Rattle.causal_base.specs.Journal.{IsLegal, came_by, deliveries_by}
use Rattle.causal_base.specs.Past.{came, deliveries, event_of, HasNoNext, IsLegalPast, IsNext}
use Rattle.causal_base.proofs.CallerLemmas.{causal, deliveries-next, delivery_of-one, delivery_of-two, reverse-push}
use Rattle.delivery.specs.Leading.{entry_of}

-- the journal is legal
pub legal_after : (types : TypeTable) (journal : List Entry) (block : Block) → IsLegal types journal → IsNext types (reverse journal) block → IsLegal types (journal ++ entry_of block ∷ [])
legal_after types journal (One a) legal next = subst (IsLegalPast types) (sym (reverse-push journal (Gone a))) (next, legal)
legal_after types journal (Two a b) legal next = subst (IsLegalPast types) (sym (reverse-push journal (Pair a b))) (next, legal)

-- the same events came
pub came_after : (journal : List Entry) (block : Block) → came_by (journal ++ entry_of block ∷ []) ≡ came_by journal
came_after journal (One a) = ap came (reverse-push journal (Gone a))
came_after journal (Two a b) = ap came (reverse-push journal (Pair a b))

-- and one delivery more stands before the others
pub deliveries_after : (types : TypeTable) (journal : List Entry) (block : Block) (next : IsNext types (reverse journal) block) → deliveries_by (journal ++ entry_of block ∷ []) ≡ next.enabled.delivery ∷ deliveries_by journal
deliveries_after types journal (One a) next =
    ap deliveries (reverse-push journal (Gone a))
    ∙ deliveries-next (came_by journal) (One a) next.enabled.delivery (deliveries_by journal) next.enabled.came_in
deliveries_after types journal (Two a b) next =
    ap deliveries (reverse-push journal (Pair a b))
    ∙ deliveries-next (came_by journal) (Two a b) next.enabled.delivery (deliveries_by journal) next.enabled.came_in

-- the deliveries are causal with it
pub causal_after : (types : TypeTable) (journal : List Entry) (block : Block) → IsLegal types journal → (next : IsNext types (reverse journal) block) → IsCausal types (next.enabled.delivery ∷ deliveries_by journal)
causal_after types journal block legal next = (next.enabled.may_follow, causal types (reverse journal) legal)

-- the event that goes
pub one_found : (types : TypeTable) (journal : List Entry) (id : EventId) (next : IsNext types (reverse journal) (One id)) → (e : Event) × (event_of (came_by journal) id ≡ Some e) × (next.enabled.delivery ≡ alone e)
one_found types journal id next = delivery_of-one (came_by journal) id next.enabled.delivery next.enabled.came_in

-- the partners that go
pub two_found : (types : TypeTable) (journal : List Entry) (first second : EventId) (next : IsNext types (reverse journal) (Two first second))
    → (a b : Event) × (event_of (came_by journal) first ≡ Some a) × (event_of (came_by journal) second ≡ Some b) × (next.enabled.delivery ≡ together a b)
two_found types journal first second next = delivery_of-two (came_by journal) first second next.enabled.delivery next.enabled.came_in

-- what was delivered is the block that is Next
pub went_is : (types : TypeTable) (journal : List Entry) → IsLegal types journal → (block : Block) → IsNext types (reverse journal) block → (went : Option Block)
    → ((a b : Block) → IsNext types (reverse journal) a → IsNext types (reverse journal) b → a ≡ b)
    → IfSome went (IsNext types (reverse journal)) → IfNone went (HasNoNext types (reverse journal)) → went ≡ Some block
went_is types journal legal block next None one some none = absurd (none block next.enabled)
went_is types journal legal block next (Some b) one some none = ap (λ (x : Block). Some x) (one b block some next)
