-- What each event of the list is like: it is fit, and its spelling is short.
use Rattle.std.proofs.Common.{◌≡◌, ◌+◌, ◌-◌, ◌<◌, ◌≤◌, ◌⊎◌, ℕ, inl, inr, List, [], ◌∷◌, ◌++◌, length, All, Option, None, Some, refl, sym, ap, subst, length-append, arith}
use Rattle.std.specs.Prelude.{IsSome, IfSome, codes, decimal, ◌↔◌}
use Rattle.std.proofs.lemmas.Bool.{false≢true}
use Rattle.std.proofs.lemmas.Fmt.{length-decimal-le}
use Rattle.std.proofs.lemmas.List.Elements.{All-append, All-cons, All-contains, All-nil}
use Rattle.causal_base.specs.declared.event.Event.{Event}
use Rattle.causal_base.specs.declared.event_id.EventId.{EventId}
use Rattle.causal_base.specs.declared.kind.Kind.{Kind}
use Rattle.causal_base.specs.declared.kind.Kind.TheVariants.{Unary, Send, Receive, Sync}
use Rattle.causal_base.specs.declared.limits.TheConstants.{MOST_EVENTS, MOST_TRACES}
use Rattle.causal_base.specs.Event.{IsFit, IsInRange, NamesAnother}
use Rattle.causal_base.specs.Spelling.{id_text, mate_text, name_of, spelling, text_part}
use Rattle.causal_base.specs.Types.{builtin_types, kind_of}
use Rattle.causal_base.proofs.CallerLemmas.{Contains-nil}
use Rattle.workload.specs.Workload.{unary, send, receive, sync, last_send, next_id, next_event, step, workload}
use Rattle.workload.proofs.Counts.{count_on-le-length}
use Rattle.workload.proofs.LastSends.{last_send-member}
use Rattle.workload.proofs.Steps.{step_is, made_keeps}

module _ (n traces : ℕ) where
  -- an id of one of the traces, with a number from 1 to n
  pub record IsIdWithin (id : EventId) : Type 0 where
    pub trace : id.trace < traces
    pub least : 1 ≤ id.number
    pub most : id.number ≤ n

  -- it names an event by such an id
  abbrev pub NamesOne : Option EventId → Type 0
  NamesOne mate = (other : EventId) × (mate ≡ Some other) × IsIdWithin other

  -- Its id is one of these, its time is below n, its text is empty, and it names another event where
  -- its type does.
  pub record IsMade (e : Event) : Type 0 where
    pub id : IsIdWithin e.id
    pub time : e.time < n
    pub text : e.text ≡ []
    pub names : ((e.type_no ≡ unary) × (e.mate ≡ None)) ⊎ (((e.type_no ≡ send) × (e.mate ≡ None))
        ⊎ (((e.type_no ≡ receive) × NamesOne e.mate) ⊎ ((e.type_no ≡ sync) × NamesOne e.mate)))

  -- the next id of a trace is one of these ids
  next_within : (events : List Event) (trace : ℕ) → length events < n → trace < traces → IsIdWithin (next_id events trace)
  next_within events trace few within =
      let most = count_on-le-length trace events in
      record { trace = within; least = omega arith; most = omega (arith, most) }

  -- and so is the last send of a trace
  sent_within : (events : List Event) (trace : ℕ) (id : EventId) → All IsMade events → last_send events trace ≡ Some id → IsIdWithin id
  sent_within events trace id each found =
      let e = last_send-member events trace id found in
      subst IsIdWithin e.2 (All-contains IsMade events e.0 each e.1).id

  -- what a step adds is made so
  step_is_made : (events : List Event) (p choice q : ℕ) → length events < n → p < traces → q < traces → All IsMade events → All IsMade (events ++ step events (n - length events) p choice q)
  step_is_made events p choice q few p_within q_within each =
      let id : IsIdWithin (next_id events p) = next_within events p few p_within in
      let one_more = λ (e : Event) (is : IsMade e). All-append IsMade events (e ∷ []) each (All-cons IsMade e [] is (All-nil IsMade)) in
      step_is (λ added. All IsMade (events ++ added)) events (n - length events) p q
      (one_more (next_event events p unary None) (record { id = id; time = few; text = refl; names = inl (refl, refl) }))
      (one_more (next_event events p send None) (record { id = id; time = few; text = refl; names = inr (inl (refl, refl)) }))
      (λ other is. one_more (next_event events p receive (Some other)) (record {
        id = id;
        time = few;
        text = refl;
        names = inr (inr (inl (refl, (other, refl, sent_within events q other each is))));
      }))
      (λ apart two.
      let first = next_event events p sync (Some (next_id events q)) in
      let second = next_event (events ++ first ∷ []) q sync (Some first.id) in
      let longer : length (events ++ first ∷ []) ≡ length events + 1 = length-append events (first ∷ []) in
      let first_is : IsMade first = record {
        id = id;
        time = few;
        text = refl;
        names = inr (inr (inr (refl, (next_id events q, refl, next_within events q few q_within))));
      } in
      let second_is : IsMade second = record {
        id = next_within (events ++ first ∷ []) q (omega (arith, longer, two)) q_within;
        time = omega (arith, longer, two);
        text = refl;
        names = inr (inr (inr (refl, (first.id, refl, id))));
      } in
      All-append IsMade events (first ∷ second ∷ []) each (All-cons IsMade first (second ∷ []) first_is (All-cons IsMade second [] second_is (All-nil IsMade))))
      choice

  -- and so is the whole list
  pub workload_is_made : (start : ℕ) → 1 ≤ traces → All IsMade (workload n start traces)
  workload_is_made start some = made_keeps (λ events. All IsMade events) n traces (λ events p choice q few first second each. step_is_made events p choice q few (first some) (second some) each) n [] start (All-nil IsMade)

-- Such an event is fit, where n is no more than how many events are accepted.
module _ (n traces : ℕ) (few : n ≤ MOST_EVENTS) where
  id_in_range : (id : EventId) → IsIdWithin n traces id → IsInRange (builtin_types traces) id
  id_in_range id within = record { trace = within.trace; least = within.least; most = omega (arith, within.most, few) }

  -- what an event that is made has of what a fit one needs, whatever its kind is
  fit_of : (e : Event) → IsMade n traces e → (kind : Kind) → kind_of (builtin_types traces) e.type_no ≡ Some kind → IsSome e.mate ↔ NamesAnother kind → IfSome e.mate (IsInRange (builtin_types traces)) → IsFit (builtin_types traces) e
  fit_of e is kind of_kind mate mate_in_range = record {
    id = id_in_range e.id is.id;
    kind = kind;
    is_of_kind = of_kind;
    mate = mate;
    mate_in_range = mate_in_range;
    time = omega (arith, is.time, few);
    text_length = rw is.text (omega arith);
    one_line = λ inside. Contains-nil 10 (rw is.text at inside);
  }

  -- one that names no other is fit, of a kind whose events name none
  names_none : (e : Event) → IsMade n traces e → (kind : Kind) → kind_of (builtin_types traces) e.type_no ≡ Some kind → (NamesAnother kind → ⊥) → e.mate ≡ None → IsFit (builtin_types traces) e
  names_none e is kind of_kind none no_mate =
      fit_of e is kind of_kind (subst (λ m. IsSome m ↔ NamesAnother kind) (sym no_mate) ((λ h. absurd (false≢true h)), (λ h. absurd (none h)))) (subst (λ m. IfSome m (IsInRange (builtin_types traces))) (sym no_mate) tt)

  -- and one that names another is, of a kind whose events name one
  names_one : (e : Event) → IsMade n traces e → (kind : Kind) → kind_of (builtin_types traces) e.type_no ≡ Some kind → NamesAnother kind → NamesOne n traces e.mate → IsFit (builtin_types traces) e
  names_one e is kind of_kind names one =
      fit_of e is kind of_kind (subst (λ m. IsSome m ↔ NamesAnother kind) (sym one.1) ((λ h. names), (λ h. refl))) (subst (λ m. IfSome m (IsInRange (builtin_types traces))) (sym one.1) (id_in_range one.0 one.2))

  pub made_is_fit : (e : Event) → IsMade n traces e → IsFit (builtin_types traces) e
  made_is_fit e is =
      let its_kind = kind_of (builtin_types traces) in
      elim is.names [
        | inl none ↦ names_none e is Unary (ap its_kind none.0) (λ h. h) none.1
        | inr others ↦ elim others [
          | inl none ↦ names_none e is Send (ap its_kind none.0) (λ h. h) none.1
          | inr another ↦ elim another [
            | inl one ↦ names_one e is Receive (ap its_kind one.0) tt one.1
            | inr one ↦ names_one e is Sync (ap its_kind one.0) tt one.1
          ]
        ]
      ]

-- Its spelling is short, where there are no more traces than may be.
module _ (n traces : ℕ) (few : n ≤ MOST_EVENTS) (few_traces : traces ≤ MOST_TRACES) where
  length-id_text : (id : EventId) → IsIdWithin n traces id → length (id_text id) ≤ 10
  length-id_text id within =
      let whole = length-append (decimal id.trace) (codes "." ++ decimal id.number) in
      let part = length-append (codes ".") (decimal id.number) in
      let trace = length-decimal-le 3 id.trace (omega arith) (omega (arith, within.trace, few_traces)) (omega (arith, within.trace, few_traces)) in
      let number = length-decimal-le 6 id.number (omega arith) (omega (arith, within.most, few)) (omega (arith, within.most, few)) in
      omega (arith, whole, part, trace, number)

  length-name : (e : Event) → IsMade n traces e → length (name_of (builtin_types traces) e.type_no) ≡ 1
  length-name e is =
      let name = λ (type_no : ℕ). length (name_of (builtin_types traces) type_no) in
      elim is.names [
        | inl none ↦ ap name none.0
        | inr others ↦ elim others [
          | inl none ↦ ap name none.0
          | inr another ↦ elim another [ inl one ↦ ap name one.0 | inr one ↦ ap name one.0 ]
        ]
      ]

  length-mate_text : (e : Event) → IsMade n traces e → length (mate_text e.mate) ≤ 10
  length-mate_text e is =
      let short = λ (mate : Option EventId). length (mate_text mate) ≤ 10 in
      let of_one = λ (one : NamesOne n traces e.mate). subst short (sym one.1) (length-id_text one.0 one.2) in
      elim is.names [
        | inl none ↦ subst short (sym none.1) (omega arith)
        | inr others ↦ elim others [
          | inl none ↦ subst short (sym none.1) (omega arith)
          | inr another ↦ elim another [ inl one ↦ of_one one.1 | inr one ↦ of_one one.1 ]
        ]
      ]

  pub made_is_short : (e : Event) → IsMade n traces e → length (spelling (builtin_types traces) e) ≤ 31
  made_is_short e is =
      let types = builtin_types traces in
      let id = simp length-append at (length-id_text e.id is.id) in
      let name = length-name e is in
      let mate = length-mate_text e is in
      let time = length-decimal-le 6 e.time (omega arith) (omega (arith, is.time, few)) (omega (arith, is.time, few)) in
      let text : length (text_part e.text) ≡ 0 = ap (λ t. length (text_part t)) is.text in
      simp length-append (omega (arith, id, name, mate, time, text))
