use Rattle.std.proofs.Common.{◌≡◌, inl, inr, List, [], ◌∷◌, ◌++◌, length, refl, sym, ◌∙◌, ap, subst, arith, append_assoc, append-nil}
use Rattle.std.specs.Vec.Iter.{into_iter_items, into_iter_len, into_iter_steps}
use Rattle.std.specs.declared.vec.IntoIter.{IntoIter}
use Rattle.std.specs.Iterator.{Yields}
use Rattle.causal_base.specs.declared.entry.Entry.{Entry}
use Rattle.causal_base.specs.declared.entry.Entry.TheVariants.{Ended}
use Rattle.causal_base.specs.declared.event.Event.{Event}
use Rattle.causal_base.specs.Types.{TypeTable}
use Rattle.causal_base.specs.Past.{HasEvent}
use Rattle.causal_base.specs.Journal.{came_by}
use Rattle.causal_base.specs.InTurn.{TakesInTurn, ComesInTurn}
use Rattle.causal_base.specs.declared.limits.TheConstants.{MOST_EVENTS}
use Rattle.poet_top.specs.Taking.{TookInTurn}

nil_from_length : {A : Type 0} (xs : List A) → length xs ≡ 0 → xs ≡ []
nil_from_length [] none = refl
nil_from_length (x ∷ xs) none = absurd (omega arith)

-- what the iterator of a vector has given is a prefix of its items
pub taken_front : {X A : Type 0} (s : IntoIter X A) (xs : List X) (t : IntoIter X A) → Yields into_iter_steps s xs t → into_iter_items s ≡ xs ++ into_iter_items t
taken_front s [] t y = ap into_iter_items y
taken_front s (x ∷ xs) t y = y.1.0 ∙ ap (λ ys. x ∷ ys) (taken_front y.0 xs t y.2)

-- where the iterator of a vector has nothing left, it has given all items
pub taken_all : {X A : Type 0} (s : IntoIter X A) (xs : List X) (t : IntoIter X A) → Yields into_iter_steps s xs t → into_iter_len t ≡ 0 → into_iter_items s ≡ xs
taken_all s xs t yields none =
    taken_front s xs t yields ∙ ap (λ rest. xs ++ rest) (nil_from_length (into_iter_items t) (sym t.rest.ok.0 ∙ none)) ∙ append-nil xs

module _ (types : TypeTable) where
  -- an event of a known id is passed over
  pub took_known : (events : List Event) (e : Event) (journal : List Entry) → TookInTurn types events [] journal → HasEvent (came_by journal) e.id → TookInTurn types (events ++ e ∷ []) [] journal
  took_known events e journal took known others after takes = rw append_assoc (took (e ∷ others) after (inl (known, takes)))

  -- and one with a new id comes
  pub took_new : (events : List Event) (e : Event) (before later : List Entry) → TookInTurn types events [] before → ComesInTurn types MOST_EVENTS 0 before e later → TookInTurn types (events ++ e ∷ []) [] later
  took_new events e before later took comes others after takes = rw append_assoc (took (e ∷ others) after (inr (inr (later, comes, takes))))

  -- all events were taken
  pub took_all : (events : List Event) (journal : List Entry) → TookInTurn types events [] journal → TakesInTurn types MOST_EVENTS 0 events [] (journal ++ Ended 0 ∷ [])
  took_all events journal took = subst (λ es. TakesInTurn types MOST_EVENTS 0 es [] (journal ++ Ended 0 ∷ [])) (append-nil events) (took [] (journal ++ Ended 0 ∷ []) refl)
