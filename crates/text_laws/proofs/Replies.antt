-- A command has one reply on a journal at a cut, where it isn't told to wait, and leaves one cut.
use Rattle.std.proofs.Common.{◌≡◌, ◌≢◌, ℕ, Bool, true, false, inl, inr, List, [], ◌∷◌, reverse, IsTrue, refl, sym, ◌∙◌, ap, subst}
use Rattle.std.specs.Prelude.{Contains, zip}
use Rattle.std.specs.List.{AllByRecursion}
use Rattle.answer_text.specs.declared.reply.Reply.{Reply}
use Rattle.answer_text.specs.declared.reply.Reply.TheVariants as reply
use Rattle.causal_base.specs.declared.entry.Entry.{Entry}
use Rattle.causal_base.specs.declared.event.Event as event
use Rattle.causal_base.specs.declared.event_id.EventId.{EventId}
use Rattle.causal_base.specs.declared.related.Related.{Related}
use Rattle.causal_base.specs.Answers.{IsFirstMissing}
use Rattle.causal_base.specs.Asked.{SaysWhetherBefore}
use Rattle.causal_base.specs.Clusters.{Clustering}
use Rattle.causal_base.specs.Journal.{IsLegal, delivered_by, deliveries_by}
use Rattle.causal_base.specs.Past.{HasEvent}
use Rattle.causal_base.specs.Stamps.{ClusterTimestamp, IsStamp}
use Rattle.causal_base.specs.Types.{TypeTable}
use Rattle.causal_base.specs.Walks.{AreRelated, IsBefore}
use Rattle.causal_base.proofs.CallerLemmas.{delivered_came, same_came}
use Rattle.client_session.specs.declared.command.Command.{Command}
use Rattle.client_session.specs.declared.command.Command.TheVariants.{Before, Relation, Event, Stamp, GreatestBefore, LeastAfter, CutNone, CutAll, CutTo, CutBack, CutHas, Count, Await}
use Rattle.cut_scroll.specs.Cuts.{IsGreatestWithout, IsLeastWith}
use Rattle.cut_scroll.specs.Neighbours.{NamesGreatestBefore, NamesLeastAfter}
use Rattle.client_session.specs.Replies.{IsAwaited, IsReply, IsSaid, id_or_nothing, needed_by, seen_of, word_of, yes_or_no}
use Rattle.text_laws.proofs.CutsOnce.{back_once, empty_once, forward_once, whole_once}
use Rattle.text_laws.proofs.NearestOnce.{greatest_once, least_once}

-- there is one first id that is missing
missing_once : (events : List event.Event) (ids : List EventId) (a b : EventId) → IsFirstMissing events ids a → IsFirstMissing events ids b → a ≡ b
missing_once events [] a b first second = absurd first
missing_once events (named ∷ ids) a b first second = elim first [
  | inl here ↦ elim second [ inl also ↦ here.0 ∙ sym also.0 | inr past ↦ absurd (here.1 past.0) ]
  | inr past ↦ elim second [ inl also ↦ absurd (also.1 past.0) | inr other ↦ missing_once events ids a b past.1 other.1 ]
]

-- and none where all are there
none_missing : (events : List event.Event) (ids : List EventId) (id : EventId) → IsFirstMissing events ids id → AllByRecursion (HasEvent events) ids → ⊥
none_missing events [] id missing all = missing
none_missing events (named ∷ ids) id missing all = elim missing [ inl here ↦ here.1 all.0 | inr past ↦ none_missing events ids id past.1 all.1 ]

-- What the laws say: two events are related in one way, and an event has one stamp.
pub record Laws : Type 0 where
  pub relation_is_one : (types : TypeTable) (journal : List Entry) → IsLegal types journal
      → (a b : event.Event) → Contains (delivered_by journal) a → Contains (delivered_by journal) b
      → (related other : Related) → AreRelated types (delivered_by journal) a b related
      → AreRelated types (delivered_by journal) a b other → related ≡ other
  pub stamp_is_one : (types : TypeTable) (clustering : Clustering) (journal : List Entry)
      → (e : event.Event) (stamp other : ClusterTimestamp)
      → IsStamp types clustering (deliveries_by journal) e stamp
      → IsStamp types clustering (deliveries_by journal) e other
      → stamp ≡ other

-- two tests of one thing are one
tests_once : (a b : Bool) → (IsTrue a → IsTrue b) → (IsTrue b → IsTrue a) → a ≡ b
tests_once true true forth back = refl
tests_once true false forth back = sym (forth refl)
tests_once false true forth back = back refl
tests_once false false forth back = refl

-- a cut that is shown is shown in one way
shown_once : (said other : Reply) (after behind : List ℕ) → after ≡ behind → said ≡ reply.Cut after → other ≡ reply.Cut behind → (said ≡ other) × (after ≡ behind)
shown_once said other after behind same shows also = (shows ∙ (ap (λ (cut : List ℕ). reply.Cut cut) same ∙ sym also), same)

module _ (laws : Laws) (types : TypeTable) (clustering : Clustering) (n m : ℕ) (journal : List Entry) (legal : IsLegal types journal) where
  -- a delivered event is told by its id
  same_event : (a b : event.Event) → Contains (delivered_by journal) a → Contains (delivered_by journal) b → a.id ≡ b.id → a ≡ b
  same_event a b in_a in_b same =
      same_came types (reverse journal) legal a b (delivered_came types (reverse journal) legal a in_a) (delivered_came types (reverse journal) legal b in_b) same

  before_once : (a b : EventId) (said other : Bool) → SaysWhetherBefore types (delivered_by journal) a b said → SaysWhetherBefore types (delivered_by journal) a b other → said ≡ other
  before_once a b said other says also =
      let firsts : says.first ≡ also.first = same_event says.first also.first says.first_among also.first_among (says.first_id ∙ sym also.first_id) in
      let seconds : says.second ≡ also.second = same_event says.second also.second says.second_among also.second_among (says.second_id ∙ sym also.second_id) in
      let forth : IsBefore types (delivered_by journal) says.first says.second → IsBefore types (delivered_by journal) also.first also.second =
      λ before. subst (λ (x : event.Event). IsBefore types (delivered_by journal) x also.second) firsts (subst (IsBefore types (delivered_by journal) says.first) seconds before) in
      let back : IsBefore types (delivered_by journal) also.first also.second → IsBefore types (delivered_by journal) says.first says.second =
      λ before. subst (λ (x : event.Event). IsBefore types (delivered_by journal) x says.second) (sym firsts) (subst (IsBefore types (delivered_by journal) also.first) (sym seconds) before) in
      tests_once said other (λ is. also.says.1 (forth (says.says.0 is))) (λ is. says.says.1 (back (also.says.0 is)))

  awaited_once : (a : EventId) (said other : Reply) → said ≢ reply.Later → other ≢ reply.Later → IsAwaited (seen_of types clustering n journal) a said → IsAwaited (seen_of types clustering m journal) a other → said ≡ other
  awaited_once a said other now now_too says also = elim says [
    | inl here ↦ elim also [ inl too ↦ here.1 ∙ sym too.1 | inr absent ↦ absurd (absent.0 here.0) ]
    | inr absent ↦ elim also [
      | inl here ↦ absurd (absent.0 here.0)
      | inr too ↦ elim absent.1 [
        | inl closed ↦ elim too.1 [ inl closed_too ↦ closed.1 ∙ sym closed_too.1 | inr later ↦ absurd (now_too later.1) ]
        | inr later ↦ absurd (now later.1)
      ]
    ]
  ]

  said_once : (command : Command) (cut : List ℕ) (said other : Reply) (after behind : List ℕ) → said ≢ reply.Later → other ≢ reply.Later → IsSaid (seen_of types clustering n journal) cut command said after → IsSaid (seen_of types clustering m journal) cut command other behind → (said ≡ other) × (after ≡ behind)
  said_once (Before a b) cut said other after behind now now_too says also =
      let same = before_once a b says.0.0 also.0.0 says.0.1 also.0.1 in
      (says.0.2 ∙ (ap yes_or_no same ∙ sym also.0.2), says.1 ∙ sym also.1)
  said_once (Relation a b) cut said other after behind now now_too says also =
      let one = says.0.1 in
      let two = also.0.1 in
      let firsts : two.first ≡ one.first = same_event two.first one.first two.first_among one.first_among (two.first_id ∙ sym one.first_id) in
      let seconds : two.second ≡ one.second = same_event two.second one.second two.second_among one.second_among (two.second_id ∙ sym one.second_id) in
      let so : AreRelated types (delivered_by journal) one.first one.second also.0.0 =
      subst (λ (x : event.Event). AreRelated types (delivered_by journal) x one.second also.0.0) firsts (subst (λ (x : event.Event). AreRelated types (delivered_by journal) two.first x also.0.0) seconds two.is_so) in
      let same = laws.relation_is_one types journal legal one.first one.second one.first_among one.second_among says.0.0 also.0.0 one.is_so so in
      (says.0.2 ∙ (ap word_of same ∙ sym also.0.2), says.1 ∙ sym also.1)
  said_once (Event a) cut said other after behind now now_too says also =
      let same = same_event says.0.0 also.0.0 says.0.1 also.0.1 (says.0.2 ∙ sym also.0.2) in
      (says.0.3 ∙ (ap reply.Shown same ∙ sym also.0.3), says.1 ∙ sym also.1)
  said_once (Stamp a) cut said other after behind now now_too says also =
      let one = says.0 in
      let two = also.0 in
      let events : two.event ≡ one.event = same_event two.event one.event two.delivered one.delivered (two.id ∙ sym one.id) in
      let is_stamp : IsStamp types clustering (deliveries_by journal) one.event two.stamp = subst (λ (x : event.Event). IsStamp types clustering (deliveries_by journal) x two.stamp) events two.is_stamp in
      let same = laws.stamp_is_one types clustering journal one.event one.stamp two.stamp one.is_stamp is_stamp in
      (one.shows ∙ (ap (λ (s : ClusterTimestamp). reply.Stamped s.level (zip s.members s.clock)) same ∙ sym two.shows), says.1 ∙ sym also.1)
  said_once (GreatestBefore a trace) cut said other after behind now now_too says also =
      let one = says.0.1 in
      let two = also.0.1 in
      let events : two.0 ≡ one.0 = same_event two.0 one.0 two.1 one.1 (two.2 ∙ sym one.2) in
      let names = subst (NamesGreatestBefore types (delivered_by journal) trace also.0.0) events two.3 in
      (says.0.2 ∙ (ap id_or_nothing (greatest_once types (delivered_by journal) trace one.0 says.0.0 also.0.0 one.3 names) ∙ sym also.0.2), says.1 ∙ sym also.1)
  said_once (LeastAfter a trace) cut said other after behind now now_too says also =
      let one = says.0.1 in
      let two = also.0.1 in
      let events : two.0 ≡ one.0 = same_event two.0 one.0 two.1 one.1 (two.2 ∙ sym one.2) in
      let names = subst (NamesLeastAfter types (delivered_by journal) trace also.0.0) events two.3 in
      (says.0.2 ∙ (ap id_or_nothing (least_once types (delivered_by journal) trace one.0 says.0.0 also.0.0 one.3 names) ∙ sym also.0.2), says.1 ∙ sym also.1)
  said_once CutNone cut said other after behind now now_too says also =
      shown_once said other after behind (empty_once types.traces after behind says.0 also.0) says.1 also.1
  said_once CutAll cut said other after behind now now_too says also =
      shown_once said other after behind (whole_once types (delivered_by journal) after behind says.0 also.0) says.1 also.1
  said_once (CutTo a) cut said other after behind now now_too says also =
      let one = says.0 in
      let two = also.0 in
      let events : two.0 ≡ one.0 = same_event two.0 one.0 two.1 one.1 (two.2 ∙ sym one.2) in
      let moves = subst (λ (e : event.Event). IsLeastWith types (delivered_by journal) cut e behind) events two.3 in
      shown_once said other after behind (forward_once types (delivered_by journal) cut one.0 after behind one.3 moves) says.1 also.1
  said_once (CutBack a) cut said other after behind now now_too says also =
      let one = says.0 in
      let two = also.0 in
      let events : two.0 ≡ one.0 = same_event two.0 one.0 two.1 one.1 (two.2 ∙ sym one.2) in
      let moves = subst (λ (e : event.Event). IsGreatestWithout types (delivered_by journal) cut e behind) events two.3 in
      shown_once said other after behind (back_once types (delivered_by journal) cut one.0 after behind one.3 moves) says.1 also.1
  said_once (CutHas a) cut said other after behind now now_too says also =
      let same = tests_once says.0.0 also.0.0 (λ is. also.0.1.1 (says.0.1.0 is)) (λ is. says.0.1.1 (also.0.1.0 is)) in
      (says.0.2 ∙ (ap yes_or_no same ∙ sym also.0.2), says.1 ∙ sym also.1)
  said_once Count cut said other after behind now now_too says also = (says.0 ∙ sym also.0, says.1 ∙ sym also.1)
  said_once (Await a) cut said other after behind now now_too says also = (awaited_once a said other now now_too says.0 also.0, says.1 ∙ sym also.1)

  -- a reply that isn't 'later' is one, and so is the cut after it
  pub reply_once : (command : Command) (cut : List ℕ) (said other : Reply) (after behind : List ℕ) → said ≢ reply.Later → other ≢ reply.Later → IsReply (seen_of types clustering n journal) cut command said after → IsReply (seen_of types clustering m journal) cut command other behind → (said ≡ other) × (after ≡ behind)
  reply_once command cut said other after behind now now_too is also = elim is [
    | inl missing ↦ elim also [
      | inl too ↦ (missing.2 ∙ (ap reply.NotYet (missing_once (delivered_by journal) (needed_by command) missing.0 too.0 missing.1 too.1) ∙ sym too.2), missing.3 ∙ sym too.3)
      | inr says ↦ absurd (none_missing (delivered_by journal) (needed_by command) missing.0 missing.1 says.0)
    ]
    | inr says ↦ elim also [
      | inl missing ↦ absurd (none_missing (delivered_by journal) (needed_by command) missing.0 missing.1 says.0)
      | inr too ↦ said_once command cut said other after behind now now_too says.1 too.1
    ]
  ]
