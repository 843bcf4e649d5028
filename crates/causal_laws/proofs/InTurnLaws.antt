-- What one thread makes in turn is legal and settled at each moment.
use Rattle.std.proofs.Common.{◌≡◌, ◌<◌, ◌+◌, ℕ, suc, inl, inr, List, [], ◌∷◌, ◌++◌, length, sym, subst, arith}
use Rattle.std.specs.Prelude.{Contains, reverse}
use Rattle.std.specs.List.{AllByRecursion}
use Rattle.std.proofs.lemmas.Bool.{cases_lt}
use Rattle.std.proofs.lemmas.List.Elements.{Contains-append_left, Contains-append_right, Contains-append_cases}
use Rattle.causal_base.specs.declared.block.Block.{Block}
use Rattle.causal_base.specs.declared.block.Block.TheVariants.{One, Two}
use Rattle.causal_base.specs.declared.entry.Entry.{Entry}
use Rattle.causal_base.specs.declared.entry.Entry.TheVariants.{Came, Gone, Pair, Ended}
use Rattle.causal_base.specs.declared.event.Event.{Event}
use Rattle.causal_base.specs.Types.{TypeTable}
use Rattle.causal_base.specs.Past.{HasNoNext, IsEnabled, IsLegalPast}
use Rattle.causal_base.specs.Journal.{IsLegal, IsSettled}
use Rattle.causal_base.specs.InTurn.{DeliversSomething, SettlesTo, TakesInTurn, TakesAllInTurn}
use Rattle.causal_base.proofs.CallerLemmas.{Contains-cons, Contains-here, Contains-nil, reverse-push}
use Rattle.causal_laws.proofs.PairBlocks.{Contains-unreversed}

-- a journal that is legal and settled, in which the collectors below this number have ended
pub record IsAfterCollectors (types : TypeTable) (number : ℕ) (journal : List Entry) : Type 0 where
  pub legal : IsLegal types journal
  pub settled : IsSettled types journal
  pub ended : (collector : ℕ) → Contains journal (Ended collector) → collector < number
  pub all : (collector : ℕ) → collector < number → Contains journal (Ended collector)

-- an entry that delivers is no end
no_end : (more : List Entry) → AllByRecursion DeliversSomething more → (collector : ℕ) → Contains more (Ended collector) → ⊥
no_end [] h collector inside = Contains-nil (Ended collector) inside
no_end (Came c e ∷ more) h collector inside = absurd h.0
no_end (Gone a ∷ more) h collector inside = elim (Contains-cons (Gone a) more (Ended collector) inside) [ inl is ↦ cc | inr rest ↦ no_end more h.1 collector rest ]
no_end (Pair a b ∷ more) h collector inside = elim (Contains-cons (Pair a b) more (Ended collector) inside) [ inl is ↦ cc | inr rest ↦ no_end more h.1 collector rest ]
no_end (Ended c ∷ more) h collector inside = absurd h.0

module _ (types : TypeTable) (limit : ℕ) where
  -- the collector ends
  ends : (number : ℕ) (before : List Entry) → IsAfterCollectors types number before → IsAfterCollectors types (suc number) (before ++ Ended number ∷ [])
  ends number before h =
      let past : reverse (before ++ Ended number ∷ []) ≡ Ended number ∷ reverse before = reverse-push before (Ended number) in
      record {
        legal = subst (IsLegalPast types) (sym past) ((λ has. let low = h.ended number (Contains-unreversed before (Ended number) has) in omega (arith, low)), h.legal);
        settled = subst (HasNoNext types) (sym past) h.settled;
        ended = λ collector inside. elim (Contains-append_cases before (Ended number ∷ []) (Ended collector) inside) [
          | inl earlier ↦ (let low = h.ended collector earlier in omega (arith, low))
          | inr last ↦ elim (Contains-cons (Ended number) [] (Ended collector) last) [
            | inl is ↦ (let same : number ≡ collector = cc in omega (arith, same))
            | inr none ↦ absurd (Contains-nil (Ended collector) none)
          ]
        ];
        all = λ collector low. elim (cases_lt collector number) [
          | inl earlier ↦ Contains-append_left before (Ended number ∷ []) (Ended collector) (h.all collector earlier)
          | inr high ↦
              let same : number ≡ collector = omega (arith, low, high) in
              subst (λ c. Contains (before ++ Ended number ∷ []) (Ended c)) same (Contains-append_right before (Ended number ∷ []) (Ended number) (Contains-here (Ended number) []))
        ];
      }

  -- an event comes, and what is enabled then is delivered
  comes : (number collector : ℕ) (e : Event) (before after : List Entry) → IsAfterCollectors types number before → SettlesTo types (before ++ Came collector e ∷ []) after → IsAfterCollectors types number after
  comes number collector e before after h settles = record {
    legal = settles.legal;
    settled = settles.settled;
    ended = λ c inside. elim (Contains-append_cases (before ++ Came collector e ∷ []) settles.more (Ended c) (subst (λ j. Contains j (Ended c)) settles.goes_on inside)) [
      | inr delivers ↦ absurd (no_end settles.more settles.delivers c delivers)
      | inl earlier ↦ elim (Contains-append_cases before (Came collector e ∷ []) (Ended c) earlier) [
        | inl there ↦ h.ended c there
        | inr last ↦ elim (Contains-cons (Came collector e) [] (Ended c) last) [ inl is ↦ absurd cc | inr none ↦ absurd (Contains-nil (Ended c) none) ]
      ]
    ];
    all = λ c low. subst (λ j. Contains j (Ended c)) (sym settles.goes_on)
        (Contains-append_left (before ++ Came collector e ∷ []) settles.more (Ended c) (Contains-append_left before (Came collector e ∷ []) (Ended c) (h.all c low)));
  }

  takes : (number : ℕ) (events : List Event) (before after : List Entry) → IsAfterCollectors types number before → TakesInTurn types limit number events before after → IsAfterCollectors types (suc number) after
  takes number [] before after h is = subst (IsAfterCollectors types (suc number)) (sym is) (ends number before h)
  takes number (e ∷ events) before after h (inl known) = takes number events before after h known.1
  takes number (e ∷ events) before after h (inr (inl full)) = subst (IsAfterCollectors types (suc number)) (sym full.1) (ends number before h)
  takes number (e ∷ events) before after h (inr (inr new)) =
      takes number events new.0 after (comes number number e before new.0 h new.1.settles) new.2

  takes_all : (number : ℕ) (lists : List (List Event)) (before after : List Entry) → IsAfterCollectors types number before → TakesAllInTurn types limit number lists before after → IsAfterCollectors types (number + length lists) after
  takes_all number [] before after h is =
      let same : number ≡ number + 0 = omega arith in
      subst (IsAfterCollectors types (number + 0)) (sym is) (subst (λ n. IsAfterCollectors types n before) same h)
  takes_all number (events ∷ lists) before after h step =
      let rest = takes_all (suc number) lists step.0 after (takes number events before step.0 h step.1) step.2 in
      let same : suc number + length lists ≡ number + length (events ∷ lists) = omega arith in
      subst (λ n. IsAfterCollectors types n after) same rest

  pub in_turn_stands : (lists : List (List Event)) (journal : List Entry) → TakesAllInTurn types limit 0 lists [] journal → IsAfterCollectors types (length lists) journal
  in_turn_stands lists journal takes_them =
      let same : 0 + length lists ≡ length lists = omega arith in
      subst (λ n. IsAfterCollectors types n journal) same (takes_all 0 lists [] journal (record {
        legal = tt;
        settled = nothing_enabled;
        ended = λ c inside. absurd (Contains-nil (Ended c) inside);
        all = λ c low. absurd (omega (arith, low));
      }) takes_them)
    where
      nothing_enabled : (block : Block) → IsEnabled types [] block → ⊥
      nothing_enabled (One a) enabled = let clash = enabled.came_in in cc
      nothing_enabled (Two a b) enabled = let clash = enabled.came_in in cc
