-- The stamp that gathered parts show.
use Rattle.std.proofs.Common.{◌≡◌, ◌+◌, ℕ, suc, Bool, true, false, List, [], ◌∷◌, ◌++◌, refl, sym, ◌∙◌, ap, subst, arith, append-nil}
use Rattle.std.specs.Prelude.{Contains, map, reverse, filter, ◌↔◌}
use Rattle.std.specs.List.{AllByRecursion, zip}
use Rattle.std.proofs.lemmas.List.{map-append, reverse-append}
use Rattle.std.proofs.lemmas.List.Elements.{filter-append}
use Rattle.answer_text.specs.declared.reply.Reply.TheVariants as reply
use Rattle.causal_base.specs.declared.event.Event as event
use Rattle.causal_base.specs.declared.event_id.EventId.{EventId}
use Rattle.causal_base.specs.Clocks.{HasClock, IsClock}
use Rattle.causal_base.specs.Clusters.{numbers_below}
use Rattle.causal_base.specs.History.{all_events}
use Rattle.causal_base.specs.Journal.{deliveries_by}
use Rattle.causal_base.specs.Past.{HasEvent}
use Rattle.causal_base.specs.Stamps.{AreClocks, history_of, is_member, level_of, members_of}
use Rattle.causal_base.specs.Types.{TypeTable}
use Rattle.client_session.specs.Replies.{Seen, ShowsStamp, delivered_in}
use Rattle.client_session.specs.StampParts.{ArePartsBelow}

all_push : {A : Type 0} (P : A → Type 0) (xs : List A) (y : A) → AllByRecursion P xs → P y → AllByRecursion P (xs ++ y ∷ [])
all_push P [] y all last = (last, tt)
all_push P (x ∷ xs) y all last = (all.0, all_push P xs y all.1 last)

-- the traces, and one more
one_more : (traces : ℕ) → reverse (numbers_below (traces + 1)) ≡ reverse (numbers_below traces) ++ traces ∷ []
one_more traces = let next : traces + 1 ≡ suc traces = omega arith in rw next (reverse-append (traces ∷ []) (numbers_below traces))

filter_yes : {A : Type 0} (p : A → Bool) (xs : List A) (y : A) → p y ≡ true → filter p (xs ++ y ∷ []) ≡ filter p xs ++ y ∷ []
filter_yes p xs y passes = filter-append p xs (y ∷ []) ∙ (rw passes refl)

filter_no : {A : Type 0} (p : A → Bool) (xs : List A) (y : A) → p y ≡ false → filter p (xs ++ y ∷ []) ≡ filter p xs
filter_no p xs y fails = filter-append p xs (y ∷ []) ∙ (rw fails (append-nil (filter p xs)))

module _ (seen : Seen) (id : EventId) (trace : ℕ) (parts : List (ℕ × ℕ)) (so_far : ArePartsBelow seen id trace parts) where
  -- the next trace is a member
  pub with_part : (number : ℕ) → HasClock seen.types (delivered_in seen) id trace number → is_member seen.clustering (deliveries_by seen.journal) id trace ≡ true → ArePartsBelow seen id (trace + 1) (parts ++ (trace, number) ∷ [])
  with_part number clock member = record {
    members = map-append (λ part. part.0) parts ((trace, number) ∷ []) ∙ (ap (λ l. l ++ trace ∷ []) so_far.members
        ∙ (sym (filter_yes (is_member seen.clustering (deliveries_by seen.journal) id) (reverse (numbers_below trace)) trace member)
        ∙ ap (filter (is_member seen.clustering (deliveries_by seen.journal) id)) (sym (one_more trace))));
    clocks = all_push (λ part. HasClock seen.types (delivered_in seen) id part.0 part.1) parts (trace, number) so_far.clocks clock;
  }

  -- it is none
  pub without_part : is_member seen.clustering (deliveries_by seen.journal) id trace ≡ false → ArePartsBelow seen id (trace + 1) parts
  without_part none = record {
    members = so_far.members ∙ (sym (filter_no (is_member seen.clustering (deliveries_by seen.journal) id) (reverse (numbers_below trace)) trace none)
        ∙ ap (filter (is_member seen.clustering (deliveries_by seen.journal) id)) (sym (one_more trace)));
    clocks = so_far.clocks;
  }

-- the second of each
abbrev clocks_of : List (ℕ × ℕ) → List ℕ
clocks_of parts = map (λ part. part.1) parts

zip_parts : (parts : List (ℕ × ℕ)) → parts ≡ zip (map (λ part. part.0) parts) (clocks_of parts)
zip_parts [] = refl
zip_parts (part ∷ parts) = ap (λ rest. part ∷ rest) (zip_parts parts)

-- each clock, over the deliveries up to that of the event
are_clocks : (types : TypeTable) (events own : List event.Event) (e : event.Event) → ((a b : event.Event) → Contains events a → Contains events b → a.id ≡ b.id → a ≡ b) → Contains events e
    → ((trace n : ℕ) → IsClock types own e trace n ↔ IsClock types events e trace n)
    → (parts : List (ℕ × ℕ)) → AllByRecursion (λ part. HasClock types events e.id part.0 part.1) parts → AreClocks types own e (map (λ part. part.0) parts) (clocks_of parts)
are_clocks types events own e one there same [] all = tt
are_clocks types events own e one there same (part ∷ parts) all =
    let is = one all.0.e e all.0.among there all.0.id_is in
    ((same part.0 part.1).1 (subst (λ x. IsClock types events x part.0 part.1) is all.0.clock), are_clocks types events own e one there same parts all.1)

-- all parts of a delivered event, with its level
pub shown : (seen : Seen) (id : EventId) (level : ℕ) (parts : List (ℕ × ℕ)) → ((a b : event.Event) → Contains (delivered_in seen) a → Contains (delivered_in seen) b → a.id ≡ b.id → a ≡ b)
    → ((e : event.Event) → Contains (delivered_in seen) e → (trace n : ℕ) → IsClock seen.types (all_events (history_of e.id (deliveries_by seen.journal))) e trace n ↔ IsClock seen.types (delivered_in seen) e trace n)
    → HasEvent (delivered_in seen) id → level ≡ level_of seen.clustering (deliveries_by seen.journal) id → ArePartsBelow seen id seen.clustering.traces parts → ShowsStamp seen id (reply.Stamped level parts)
shown seen id level parts one same there level_is parts_are =
    let e = there.0 in
    let is : e.id ≡ id = there.2 in
    record {
      event = e;
      delivered = there.1;
      id = is;
      stamp = record { level = level; members = map (λ part. part.0) parts; clock = clocks_of parts };
      is_stamp = record {
        delivered = there.1;
        level = level_is ∙ ap (λ i. level_of seen.clustering (deliveries_by seen.journal) i) (sym is);
        members = parts_are.members ∙ ap (λ i. members_of seen.clustering (deliveries_by seen.journal) i) (sym is);
        clock = are_clocks seen.types (delivered_in seen) (all_events (history_of e.id (deliveries_by seen.journal))) e one there.1 (same e there.1) parts
            (subst (λ i. AllByRecursion (λ part. HasClock seen.types (delivered_in seen) i part.0 part.1) parts) (sym is) parts_are.clocks);
      };
      shows = ap (reply.Stamped level) (zip_parts parts);
    }
