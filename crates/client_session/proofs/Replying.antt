-- What is said, from what its parts say.
use Rattle.std.proofs.Common.{◌≡◌, ◌<◌, ◌≤◌, ◌-◌, ℕ, inl, inr, List, [], ◌∷◌, length, Option, None, Result, Ok, Err, IfOk, refl, sym, subst, ◌∙◌, arith}
use Rattle.std.specs.Prelude.{All, Contains, OnErr, reverse}
use Rattle.answer_text.specs.declared.reply.Reply.{Reply}
use Rattle.answer_text.specs.declared.reply.Reply.TheVariants as reply
use Rattle.causal_base.specs.declared.answer.Answer.TheVariants.{Known}
use Rattle.causal_base.specs.declared.entry.Entry.{Entry}
use Rattle.causal_base.specs.declared.event.Event as event
use Rattle.causal_base.specs.declared.event_id.EventId.{EventId}
use Rattle.causal_base.specs.declared.related.Related.{Related}
use Rattle.causal_base.specs.Answers.{IsAnswer}
use Rattle.causal_base.specs.Clusters.{Clustering}
use Rattle.causal_base.specs.Journal.{IsLegal, came_by, delivered_by, deliveries_by}
use Rattle.causal_base.specs.Past.{HasEvent}
use Rattle.causal_base.specs.Types.{TypeTable}
use Rattle.causal_base.proofs.CallerLemmas.{history_of_past, length-delivered}
use Rattle.cut_scroll.specs.Cuts.{IsConsistent, MovesFor}
use Rattle.cut_scroll.specs.Neighbours.{NamesGreatestBefore, NamesLeastAfter}
use Rattle.precedence.specs.Relations.{IsRelationAnswer}
use Rattle.client_session.specs.declared.command.Command.{Command}
use Rattle.client_session.specs.declared.command.Command.TheVariants.{Relation, Event, Stamp, GreatestBefore, LeastAfter, Count}
use Rattle.client_session.specs.Replies.{Seen, HasReply, IsEmptyCut, IsReply, ShowsStamp, delivered_in, id_or_nothing, seen_of, word_of}

-- no more are delivered than came
pub delivered_few : (types : TypeTable) (journal : List Entry) → IsLegal types journal → length (delivered_by journal) ≤ length (came_by journal)
delivered_few types journal legal = length-delivered types (came_by journal) (deliveries_by journal) (history_of_past types (reverse journal) legal)

module _ (seen : Seen) where
  pub relation_known : (a b : EventId) (lies : Related) (said : Reply) → said ≡ word_of lies → IsRelationAnswer seen.types (delivered_in seen) a b (Known lies) → HasReply seen (Relation a b) said
  relation_known a b lies said is says cut = inr (says.0, ((lies, says.1, is), refl))

  pub event_missing : (a : EventId) → (HasEvent (delivered_in seen) a → ⊥) → HasReply seen (Event a) (reply.NotYet a)
  event_missing a missing cut = inl (a, inl (refl, missing), refl, refl)

  pub stamp_known : (a : EventId) (said : Reply) → ShowsStamp seen a said → HasReply seen (Stamp a) said
  stamp_known a said shows cut = inr (((shows.event, shows.delivered, shows.id), tt), (shows, refl))

  -- no event is of a trace that there isn't
  pub none_before : (a : EventId) (trace : ℕ) → HasEvent (delivered_in seen) a → ((e : event.Event) → Contains (delivered_in seen) e → e.id.trace < seen.types.traces) → seen.types.traces ≤ trace → HasReply seen (GreatestBefore a trace) reply.Nothing
  none_before a trace has on beyond cut =
      inr ((has, tt), ((None, (has.0, has.1, has.2, λ x is_on before. let inside = on x is_on.among in let its = is_on.on in absurd (omega (arith, inside, its, beyond))), refl), refl))

  pub none_after : (a : EventId) (trace : ℕ) → HasEvent (delivered_in seen) a → ((e : event.Event) → Contains (delivered_in seen) e → e.id.trace < seen.types.traces) → seen.types.traces ≤ trace → HasReply seen (LeastAfter a trace) reply.Nothing
  none_after a trace has on beyond cut =
      inr ((has, tt), ((None, (has.0, has.1, has.2, λ x is_on after. let inside = on x is_on.among in let its = is_on.on in absurd (omega (arith, inside, its, beyond))), refl), refl))

  pub greatest_known : (a : EventId) (trace : ℕ) (found : Option EventId) (said : Reply) → said ≡ id_or_nothing found
      → IsAnswer (delivered_in seen) (a ∷ []) (λ named. MovesFor (delivered_in seen) a (NamesGreatestBefore seen.types (delivered_in seen) trace named)) (Known found) → HasReply seen (GreatestBefore a trace) said
  greatest_known a trace found said is says cut = inr (says.0, ((found, says.1, is), refl))

  pub least_known : (a : EventId) (trace : ℕ) (found : Option EventId) (said : Reply) → said ≡ id_or_nothing found
      → IsAnswer (delivered_in seen) (a ∷ []) (λ named. MovesFor (delivered_in seen) a (NamesLeastAfter seen.types (delivered_in seen) trace named)) (Known found) → HasReply seen (LeastAfter a trace) said
  least_known a trace found said is says cut = inr (says.0, ((found, says.1, is), refl))

  pub count_known : (accepted delivered : ℕ) → accepted ≡ length (came_by seen.journal) → delivered ≡ length (delivered_in seen) → HasReply seen Count (reply.Counted accepted delivered (accepted - delivered))
  count_known accepted delivered came went cut = rw came (rw went (inr (tt, (refl, refl))))

-- the reply to a command that is this one, of the same types
pub moved_to : (types others : TypeTable) → types ≡ others → (clustering : Clustering) (collectors : ℕ) (journal : List Entry) (command its : Command) → command ≡ its → (said : Reply) (cut after : List ℕ)
    → IsReply (seen_of others clustering collectors journal) cut its said after → IsReply (seen_of types clustering collectors journal) cut command said after
moved_to types others same clustering collectors journal command its is said cut after has =
    subst (λ (t : TypeTable). IsReply (seen_of t clustering collectors journal) cut command said after) (sym same)
    (subst (λ (k : Command). IsReply (seen_of others clustering collectors journal) cut k said after) (sym is) has)

-- and the reply to one that keeps the cut
pub reply_to : (types others : TypeTable) → types ≡ others → (clustering : Clustering) (collectors : ℕ) (journal : List Entry) (command its : Command) → command ≡ its → (said : Reply)
    → HasReply (seen_of others clustering collectors journal) its said → (cut : List ℕ) → IsReply (seen_of types clustering collectors journal) cut command said cut
reply_to types others same clustering collectors journal command its is said has cut = moved_to types others same clustering collectors journal command its is said cut cut (has cut)

-- a cut that is made empty, or stays where there is no memory, is consistent
pub consistent_after_none : {T E : Type 0} (types : TypeTable) (events : List event.Event) (result : Result T E) (before after : List ℕ) → IfOk result (λ said. IsEmptyCut (length before) after) → OnErr result (after ≡ before)
    → ((cut : List ℕ) → length cut ≡ types.traces → All (λ count. count ≡ 0) cut → IsConsistent types events cut) → IsConsistent types events before → IsConsistent types events after
consistent_after_none types events (Ok said) before after empty stays ends was = ends after (empty.as_many ∙ was.is_cut.traces) empty.none
consistent_after_none types events (Err error) before after empty stays ends was = subst (IsConsistent types events) (sym stays) was
