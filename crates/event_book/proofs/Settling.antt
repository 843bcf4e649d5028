-- A journal that goes on by deliveries alone.
use Rattle.std.proofs.Common.{◌≡◌, ◌<◌, ◌-◌, ℕ, true, false, List, [], ◌∷◌, ◌++◌, length, reverse, refl, sym, ◌∙◌, ap, subst, arith, inl, inr, append_assoc, append-nil, Some}
use Rattle.std.specs.Prelude.{Option, None}
use Rattle.std.specs.List.{AllByRecursion}
use Rattle.std.specs.Option.{is_some}
use Rattle.causal_base.specs.declared.block.Block.{Block}
use Rattle.causal_base.specs.declared.block.Block.TheVariants.{One, Two}
use Rattle.causal_base.specs.declared.entry.Entry.{Entry}
use Rattle.causal_base.specs.declared.entry.Entry.TheVariants.{Ended}
use Rattle.causal_base.specs.declared.event.Event.{Event}
use Rattle.causal_base.specs.Types.{TypeTable}
use Rattle.causal_base.specs.History.{EventBlock, alone, together, all_events}
use Rattle.causal_base.specs.InTurn.{DeliversSomething, SettlesTo}
use Rattle.causal_base.specs.Journal.{IsLegal, IsSettled, came_by, delivered_by, deliveries_by}
use Rattle.causal_base.specs.Past.{HasEnded, IsNext}
use Rattle.causal_base.proofs.CallerLemmas.{Contains-cons, history_of_past, length-delivered, reverse-push}
use Rattle.delivery.specs.Leading.{entry_of}
use Rattle.event_book.specs.Delivering.{entries_of}
use Rattle.event_book.specs.Feeding.{Delivers}
use Rattle.event_book.proofs.Blocks.{came_after, deliveries_after, legal_after}

pub all_append : {A : Type 0} (P : A → Type 0) (xs ys : List A) → AllByRecursion P xs → AllByRecursion P ys → AllByRecursion P (xs ++ ys)
all_append P [] ys all also = also
all_append P (x ∷ xs) ys all also = (all.0, all_append P xs ys all.1 also)

-- whether there is one tells of which it is
pub is_there : {X : Type 0} (r : Option X) → is_some r ≡ true → (x : X) × (r ≡ Some x)
is_there None is = absurd cc
is_there (Some x) is = (x, refl)

pub is_absent : {X : Type 0} (r : Option X) → is_some r ≡ false → r ≡ None
is_absent None is = refl
is_absent (Some x) is = absurd cc

entry_delivers : (block : Block) → DeliversSomething (entry_of block)
entry_delivers (One a) = tt
entry_delivers (Two a b) = tt

pub entries_deliver : (block : Option Block) → AllByRecursion DeliversSomething (entries_of block)
entries_deliver None = tt
entries_deliver (Some block) = (entry_delivers block, tt)

-- by none
pub delivers_none : (types : TypeTable) (journal : List Entry) → IsLegal types journal → Delivers types journal journal
delivers_none types journal legal = record { more = []; goes_on = sym (append-nil journal); delivers = tt; legal = legal }

-- by some and then others
pub delivers_on : (types : TypeTable) (a b c : List Entry) → Delivers types a b → Delivers types b c → Delivers types a c
delivers_on types a b c first second = record {
  more = first.more ++ second.more;
  goes_on = second.goes_on ∙ (ap (λ (l : List Entry). l ++ second.more) first.goes_on ∙ append_assoc a first.more second.more);
  delivers = all_append DeliversSomething first.more second.more first.delivers second.delivers;
  legal = second.legal;
}

-- by the block that is Next
pub delivers_next : (types : TypeTable) (journal : List Entry) (block : Block) → IsLegal types journal → IsNext types (reverse journal) block → Delivers types journal (journal ++ entry_of block ∷ [])
delivers_next types journal block legal next = record { more = entry_of block ∷ []; goes_on = refl; delivers = (entry_delivers block, tt); legal = legal_after types journal block legal next }

-- until nothing is left that may go
pub settles_from : (types : TypeTable) (a b : List Entry) → Delivers types a b → IsSettled types b → SettlesTo types a b
settles_from types a b on settled = record { more = on.more; goes_on = on.goes_on; delivers = on.delivers; legal = on.legal; settled = settled }

pub settles_on : (types : TypeTable) (a b c : List Entry) → Delivers types a b → SettlesTo types b c → SettlesTo types a c
settles_on types a b c first second =
    settles_from types a c (delivers_on types a b c first (record { more = second.more; goes_on = second.goes_on; delivers = second.delivers; legal = second.legal })) second.settled

one_more : (d : EventBlock) (ds : List EventBlock) → length (all_events ds) < length (all_events (d ∷ ds))
one_more (alone e) ds = omega arith
one_more (together a b) ds = omega arith

-- fewer events are left then
pub fewer_left : (types : TypeTable) (journal after : List Entry) (block : Block) → IsLegal types journal → IsNext types (reverse journal) block → after ≡ journal ++ entry_of block ∷ []
    → length (came_by after) - length (delivered_by after) < length (came_by journal) - length (delivered_by journal)
fewer_left types journal after block legal next is =
    let legal_then = subst (IsLegal types) (sym is) (legal_after types journal block legal next) in
    let gone = length-delivered types (came_by after) (deliveries_by after) (history_of_past types (reverse after) legal_then) in
    let came_same : length (came_by after) ≡ length (came_by journal) = ap (λ (l : List Entry). length (came_by l)) is ∙ ap (λ (es : List Event). length es) (came_after journal block) in
    let more : length (delivered_by after) ≡ length (all_events (next.enabled.delivery ∷ deliveries_by journal)) = ap (λ (l : List Entry). length (delivered_by l)) is ∙ ap (λ (ds : List EventBlock). length (all_events ds)) (deliveries_after types journal block next) in
    let one = one_more next.enabled.delivery (deliveries_by journal) in
    omega (arith, gone, came_same, more, one)

-- no collector ends by deliveries
pub not_ended : (collector : ℕ) (journal more : List Entry) → AllByRecursion DeliversSomething more → HasEnded (reverse (journal ++ more)) collector → HasEnded (reverse journal) collector
not_ended collector journal [] all ended = subst (λ (l : List Entry). HasEnded (reverse l) collector) (append-nil journal) ended
not_ended collector journal (entry ∷ more) all ended =
    let before = not_ended collector (journal ++ entry ∷ []) more all.1 (subst (λ (l : List Entry). HasEnded (reverse l) collector) (sym (append_assoc journal (entry ∷ []) more)) ended) in
    elim (Contains-cons entry (reverse journal) (Ended collector) (subst (λ (l : List Entry). HasEnded l collector) (reverse-push journal entry) before)) [
      | inl is ↦ absurd (subst DeliversSomething is all.0)
      | inr inside ↦ inside
    ]
