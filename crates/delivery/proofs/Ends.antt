-- The entries of a delivery's journal, and the room for them.
use Rattle.std.proofs.Common.{◌≡◌, ◌<◌, ◌≤◌, ◌+◌, ◌*◌, ℕ, List, [], ◌∷◌, ◌++◌, length, length-append, reverse, set, inl, inr, refl, sym, ◌∙◌, ap, subst, arith, Some, None, Option, Result, Ok, Err, Bool, true, false, cond}
use Rattle.std.specs.Prelude.{Contains, IfNone, IfSome, count_by, slice_index_or}
use Rattle.std.specs.Result.{IfErr, OnOk}
use Rattle.std.proofs.lemmas.Bool.{cases_eq}
use Rattle.std.proofs.lemmas.List.{get_or-set_other, length-set}
use Rattle.std.proofs.lemmas.List.Sums.{count_by-le-length, sum_by-set}
use Rattle.causal_base.specs.declared.block.Block.TheVariants.{One, Two}
use Rattle.causal_base.specs.declared.entry.Entry.{Entry}
use Rattle.causal_base.specs.declared.entry.Entry.TheVariants.{Came, Gone, Pair, Ended}
use Rattle.causal_base.specs.declared.event.Event.{Event}
use Rattle.causal_base.specs.declared.event_id.EventId.{EventId}
use Rattle.causal_base.specs.declared.refusal.Refusal.{Refusal}
use Rattle.causal_base.specs.declared.refusal.Refusal.TheVariants.{Oom}
use Rattle.causal_base.specs.Types.{TypeTable}
use Rattle.causal_base.specs.Past.{came, deliveries, delivered, HasEnded, IsEnabled}
use Rattle.causal_base.proofs.CallerLemmas.{Contains-here, Contains-there, delivered-gone, delivered-pair, length-delivered, reverse-push}
use Rattle.partner_match.specs.Waiting.{Waits}
use Rattle.delivery.specs.Deliveries.{AreParts, IsDelivery}
use Rattle.delivery.proofs.Moves.{fewer_one, fewer_two, the_event, the_first, the_second}

pub if_none : {A P : Type 0} (r : Option A) → P → IfNone r P
if_none None p = p
if_none (Some x) p = tt

pub on_ok : {T E P : Type 0} (r : Result T E) → P → OnOk r P
on_ok (Ok value) p = p
on_ok (Err error) p = tt

-- what is refused for want of memory is refused as that
pub refused_so : {T : Type 0} (Q : Type 0) (r : Result T Refusal) → IfErr r (λ refusal. (refusal ≡ Oom) × Q) → (error : Refusal) → r ≡ Err error → error ≡ Oom
refused_so Q (Ok value) h error is = absurd cc
refused_so Q (Err refusal) h error is = let same : refusal ≡ error = cc in sym same ∙ h.0

pub if_some_weaker : {A : Type 0} {P Q : A → Type 0} (r : Option A) → ((x : A) → P x → Q x) → IfSome r P → IfSome r Q
if_some_weaker None weaker h = tt
if_some_weaker (Some x) weaker h = weaker x h

module _ (types : TypeTable) (journal : List Entry) (waits : Waits) (ready : List ℕ) (ended : List Bool) (delivery : IsDelivery types journal waits ready ended) (size : length ended ≡ 16) where
  few_flags : count_by (λ (flag : Bool). flag) ended ≤ 16
  few_flags = let most = count_by-le-length (λ (flag : Bool). flag) ended in omega (arith, most, size)

  -- who has ended has ended when the journal goes on
  still_ended : (entry : Entry) (collector : ℕ) → HasEnded (reverse journal) collector → HasEnded (reverse (journal ++ entry ∷ [])) collector
  still_ended entry collector has = subst (λ past. Contains past (Ended collector)) (sym (reverse-push journal entry)) (Contains-there entry (reverse journal) (Ended collector) has)

  pub room_one : (id : EventId) → IsEnabled types (reverse journal) (One id) → length journal < 2 * length (came (reverse journal)) + 16
  room_one id enabled =
      let fewer = fewer_one types (reverse journal) waits ready delivery.parts id enabled in
      omega (arith, fewer, delivery.balance, few_flags)

  pub room_two : (a b : EventId) → IsEnabled types (reverse journal) (Two a b) → length journal < 2 * length (came (reverse journal)) + 16
  room_two a b enabled =
      let fewer = fewer_two types (reverse journal) waits ready delivery.parts a b enabled in
      omega (arith, fewer, delivery.balance, few_flags)

  pub delivery_came : (collector : ℕ) (e : Event) (later : Waits) (set : List ℕ) (after : List Entry) → after ≡ journal ++ Came collector e ∷ [] → AreParts types (reverse after) later set → IsDelivery types after later set ended
  delivery_came collector e later set after is parts =
      let past : reverse after ≡ Came collector e ∷ reverse journal = ap reverse is ∙ reverse-push journal (Came collector e) in
      record {
        parts = parts;
        balance =
            let size = ap length is ∙ length-append journal (Came collector e ∷ []) in
            let more = ap (λ p. length (came p)) past in
            let same = ap (λ p. length (delivered p)) past in
            omega (arith, size, more, same, delivery.balance);
        flags = λ c below flag. subst (λ (j : List Entry). HasEnded (reverse j) c) (sym is) (still_ended (Came collector e) c (delivery.flags c below flag));
      }

  pub delivery_gone : (id : EventId) → IsEnabled types (reverse journal) (One id) → (later : Waits) (set : List ℕ) (after : List Entry) → after ≡ journal ++ Gone id ∷ [] → AreParts types (reverse after) later set → IsDelivery types after later set ended
  delivery_gone id enabled later set after is parts =
      let e = the_event types (reverse journal) waits ready delivery.parts id enabled in
      record {
        parts = parts;
        balance =
            let size = ap length is ∙ length-append journal (Gone id ∷ []) in
            let same = ap (λ (j : List Entry). length (came (reverse j))) is ∙ ap (λ p. length (came p)) (reverse-push journal (Gone id)) in
            let more = ap (λ (j : List Entry). length (delivered (reverse j))) is ∙ ap length (delivered-gone journal id e.0 e.1) in
            omega (arith, size, more, same, delivery.balance);
        flags = λ c below flag. subst (λ (j : List Entry). HasEnded (reverse j) c) (sym is) (still_ended (Gone id) c (delivery.flags c below flag));
      }

  pub delivery_pair : (a b : EventId) → IsEnabled types (reverse journal) (Two a b) → (later : Waits) (set : List ℕ) (after : List Entry) → after ≡ journal ++ Pair a b ∷ [] → AreParts types (reverse after) later set → IsDelivery types after later set ended
  delivery_pair a b enabled later set after is parts =
      let x = the_first types (reverse journal) waits ready delivery.parts a b enabled in
      let y = the_second types (reverse journal) waits ready delivery.parts a b enabled in
      record {
        parts = parts;
        balance =
            let size = ap length is ∙ length-append journal (Pair a b ∷ []) in
            let same = ap (λ (j : List Entry). length (came (reverse j))) is ∙ ap (λ p. length (came p)) (reverse-push journal (Pair a b)) in
            let more = ap (λ (j : List Entry). length (delivered (reverse j))) is ∙ ap length (delivered-pair journal a b x.0 y.0 x.1 y.1) in
            omega (arith, size, more, same, delivery.balance);
        flags = λ c below flag. subst (λ (j : List Entry). HasEnded (reverse j) c) (sym is) (still_ended (Pair a b) c (delivery.flags c below flag));
      }

  -- the same journal, of which more wait
  pub delivery_same : (later : Waits) (set : List ℕ) (after : List Entry) → after ≡ journal → AreParts types (reverse after) later set → IsDelivery types after later set ended
  delivery_same later set after is parts = record {
    parts = parts;
    balance =
        let size = ap length is in
        let same = ap (λ (j : List Entry). length (came (reverse j))) is in
        let too = ap (λ (j : List Entry). length (delivered (reverse j))) is in
        omega (arith, size, same, too, delivery.balance);
    flags = λ c below flag. subst (λ (j : List Entry). HasEnded (reverse j) c) (sym is) (delivery.flags c below flag);
  }

  -- a new event came, or there was no memory for it
  pub delivery_either : {T : Type 0} (collector : ℕ) (e : Event) (later : Waits) (set : List ℕ) (after : List Entry) (r : Result T Refusal) → OnOk r (after ≡ journal ++ Came collector e ∷ []) → IfErr r (λ refusal. (refusal ≡ Oom) × (after ≡ journal)) → AreParts types (reverse after) later set → IsDelivery types after later set ended
  delivery_either collector e later set after (Ok value) ok err parts = delivery_came collector e later set after ok parts
  delivery_either collector e later set after (Err refusal) ok err parts = delivery_same later set after err.1 parts

  -- A collector ends.
  module _ (collector : ℕ) (below : collector < 16) (open_yet : HasEnded (reverse journal) collector → ⊥) where
    no_flag : ◌≡◌ {A = ℕ} (cond (slice_index_or ended collector false) 1 0) 0
    no_flag = elim (slice_index_or ended collector false) as (λ b. slice_index_or ended collector false ≡ b → ◌≡◌ {A = ℕ} (cond b 1 0) 0) [
      | true ↦ λ is. absurd (open_yet (delivery.flags collector below is))
      | false ↦ λ is. refl
    ] refl

    one_flag_more : count_by (λ (flag : Bool). flag) (set ended collector true) ≡ count_by (λ (flag : Bool). flag) ended + 1
    one_flag_more =
        let sums = sum_by-set (λ (flag : Bool). cond flag 1 0) ended collector true false (omega (arith, below, size)) in
        omega (arith, sums, no_flag)

    pub room_ended : length journal < 2 * length (came (reverse journal)) + 16
    room_ended =
        let most = count_by-le-length (λ (flag : Bool). flag) (set ended collector true) in
        let same = length-set ended collector true in
        let fewer = length-delivered types (came (reverse journal)) (deliveries (reverse journal)) delivery.parts.history in
        omega (arith, most, same, one_flag_more, fewer, delivery.balance, size)

    pub delivery_ended : (after : List Entry) → after ≡ journal ++ Ended collector ∷ [] → IsDelivery types after waits ready (set ended collector true)
    delivery_ended after is =
        let past : reverse after ≡ Ended collector ∷ reverse journal = ap reverse is ∙ reverse-push journal (Ended collector) in
        record {
          parts = subst (λ (p : List Entry). AreParts types p waits ready) (sym past) (record {
            table = delivery.parts.table;
            history = delivery.parts.history;
            ready_set = delivery.parts.ready_set;
            all_wait = delivery.parts.all_wait;
          });
          balance =
              let long = ap length is ∙ length-append journal (Ended collector ∷ []) in
              let same = ap (λ p. length (came p)) past in
              let too = ap (λ p. length (delivered p)) past in
              omega (arith, long, same, too, one_flag_more, delivery.balance);
          flags = λ c low flag. elim (cases_eq c collector) [
            | inl is_it ↦ subst (λ (p : List Entry). HasEnded p c) (sym past) (subst (λ k. Contains (Ended collector ∷ reverse journal) (Ended k)) (sym is_it) (Contains-here (Ended collector) (reverse journal)))
            | inr other ↦ subst (λ (j : List Entry). HasEnded (reverse j) c) (sym is) (still_ended (Ended collector) c (delivery.flags c low (sym (get_or-set_other ended collector c true false other) ∙ flag)))
          ];
        }
