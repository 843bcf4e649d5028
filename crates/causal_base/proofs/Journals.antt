use Rattle.std.proofs.Common.{◌≡◌, ℕ, suc, zero, List, [], ◌∷◌, ◌++◌, refl, sym, ◌∙◌, ap, subst, Some}
use Rattle.std.specs.Prelude.{Contains, option_and_then, option_to_list, reverse, slice_get}
use Rattle.std.specs.Option.{option_map}
use Rattle.std.proofs.lemmas.List.{reverse-append}
use Rattle.std.proofs.lemmas.List.Elements.{Contains-append_left, Contains-append_right}
use Rattle.causal_base.specs.declared.entry.Entry.{Entry}
use Rattle.causal_base.specs.declared.entry.Entry.TheVariants.{Came, Gone, Pair, Ended}
use Rattle.causal_base.specs.declared.event.Event.{Event}
use Rattle.causal_base.specs.declared.event_id.EventId.{EventId}
use Rattle.causal_base.specs.History.{alone, together, all_events}
use Rattle.causal_base.specs.Past.{came, deliveries, delivered, event_of}
use Rattle.causal_base.proofs.Members.{Contains-here}

-- a journal with one more entry, newest first
pub reverse-push : (journal : List Entry) (entry : Entry) → reverse (journal ++ entry ∷ []) ≡ entry ∷ reverse journal
reverse-push journal entry = reverse-append journal (entry ∷ [])

-- the events that came in two parts of a journal
pub came-append : (xs ys : List Entry) → came (xs ++ ys) ≡ came xs ++ came ys
came-append [] ys = refl
came-append (Came collector e ∷ xs) ys = ap (λ es. e ∷ es) (came-append xs ys)
came-append (Gone a ∷ xs) ys = came-append xs ys
came-append (Pair a b ∷ xs) ys = came-append xs ys
came-append (Ended collector ∷ xs) ys = came-append xs ys

reverse-cons : (entry : Entry) (journal : List Entry) → reverse (entry ∷ journal) ≡ reverse journal ++ entry ∷ []
reverse-cons entry journal = reverse-append (entry ∷ []) journal

-- an event that came at some place is among those that came
pub came_from_place : (journal : List Entry) (place : ℕ) (collector : ℕ) (e : Event) → slice_get journal place ≡ Some (Came collector e) → Contains (came (reverse journal)) e
came_from_place [] place collector e is = absurd cc
came_from_place (x ∷ journal) zero collector e is =
    let first : x ≡ Came collector e = cc in
    subst (λ es. Contains es e) (sym (ap came (reverse-cons x journal) ∙ came-append (reverse journal) (x ∷ [])))
    (Contains-append_right (came (reverse journal)) (came (x ∷ [])) e (subst (λ (y : Entry). Contains (came (y ∷ [])) e) (sym first) (Contains-here e [])))
came_from_place (x ∷ journal) (suc place) collector e is =
    subst (λ es. Contains es e) (sym (ap came (reverse-cons x journal) ∙ came-append (reverse journal) (x ∷ [])))
    (Contains-append_left (came (reverse journal)) (came (x ∷ [])) e (came_from_place journal place collector e is))

-- what is delivered once one event more is
pub delivered-gone : (journal : List Entry) (id : EventId) (e : Event) → event_of (came (reverse journal)) id ≡ Some e → delivered (reverse (journal ++ Gone id ∷ [])) ≡ e ∷ delivered (reverse journal)
delivered-gone journal id e found =
    ap delivered (reverse-push journal (Gone id))
    ∙ ap (λ o. all_events (option_to_list (option_map alone o) ++ deliveries (reverse journal))) found

-- and once two partners more are
pub delivered-pair : (journal : List Entry) (a b : EventId) (x y : Event) → event_of (came (reverse journal)) a ≡ Some x → event_of (came (reverse journal)) b ≡ Some y → delivered (reverse (journal ++ Pair a b ∷ [])) ≡ y ∷ x ∷ delivered (reverse journal)
delivered-pair journal a b x y found_a found_b =
    ap delivered (reverse-push journal (Pair a b))
    ∙ (ap (λ o. all_events (option_to_list (option_and_then (λ v. option_map (together v) (event_of (came (reverse journal)) b)) o) ++ deliveries (reverse journal))) found_a
    ∙ ap (λ o. all_events (option_to_list (option_map (together x) o) ++ deliveries (reverse journal))) found_b)
