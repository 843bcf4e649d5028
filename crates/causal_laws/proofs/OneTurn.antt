-- One thread makes one journal: at each moment at most one entry may stand next.
use Rattle.std.proofs.Common.{◌≡◌, ℕ, suc, inl, inr, List, [], ◌∷◌, ◌++◌, refl, sym, ◌∙◌, ap, subst, arith}
use Rattle.std.proofs.lemmas.List.{append-nil, append_assoc}
use Rattle.std.specs.Prelude.{reverse}
use Rattle.std.specs.List.{AllByRecursion}
use Rattle.causal_base.specs.declared.block.Block.{Block}
use Rattle.causal_base.specs.declared.block.Block.TheVariants.{One, Two}
use Rattle.causal_base.specs.declared.entry.Entry.{Entry}
use Rattle.causal_base.specs.declared.entry.Entry.TheVariants.{Came, Gone, Pair, Ended}
use Rattle.causal_base.specs.declared.event.Event.{Event}
use Rattle.causal_base.specs.Types.{TypeTable}
use Rattle.causal_base.specs.Past.{came, deliveries, IsLegalPast, IsNext, MayStand}
use Rattle.causal_base.specs.Journal.{IsLegal, IsSettled}
use Rattle.causal_base.specs.InTurn.{DeliversSomething, SettlesTo, TakesInTurn, TakesAllInTurn}
use Rattle.causal_base.proofs.CallerLemmas.{history_of_past, reverse-push}
use Rattle.causal_laws.proofs.Blocks.{next_is_one}
use Rattle.causal_laws.proofs.Prefixes.{prefix_is_legal}

-- an entry that delivers a block, which is Next then
record IsNextEntry (types : TypeTable) (past : List Entry) (entry : Entry) : Type 0 where
  block : Block
  next : IsNext types past block

next_entry : (types : TypeTable) (past : List Entry) (entry : Entry) → DeliversSomething entry → MayStand types past entry → IsNextEntry types past entry
next_entry types past (Came c e) delivers stands = absurd delivers
next_entry types past (Gone a) delivers stands = record { block = One a; next = stands }
next_entry types past (Pair a b) delivers stands = record { block = Two a b; next = stands }
next_entry types past (Ended c) delivers stands = absurd delivers

same_entry : (types : TypeTable) (past : List Entry) → IsLegalPast types past → (x y : Entry) → DeliversSomething x → DeliversSomething y → MayStand types past x → MayStand types past y → x ≡ y
same_entry types past legal (Came c e) y dx dy sx sy = absurd dx
same_entry types past legal (Ended c) y dx dy sx sy = absurd dx
same_entry types past legal x (Came c e) dx dy sx sy = absurd dy
same_entry types past legal x (Ended c) dx dy sx sy = absurd dy
same_entry types past legal (Gone a) (Gone b) dx dy sx sy = (let is = next_is_one types (came past) (deliveries past) (history_of_past types past legal) (One a) (One b) sx sy in cc)
same_entry types past legal (Gone a) (Pair b c) dx dy sx sy = (let is = next_is_one types (came past) (deliveries past) (history_of_past types past legal) (One a) (Two b c) sx sy in absurd cc)
same_entry types past legal (Pair a b) (Gone c) dx dy sx sy = (let is = next_is_one types (came past) (deliveries past) (history_of_past types past legal) (Two a b) (One c) sx sy in absurd cc)
same_entry types past legal (Pair a b) (Pair c d) dx dy sx sy = (let is = next_is_one types (came past) (deliveries past) (history_of_past types past legal) (Two a b) (Two c d) sx sy in cc)

module _ (types : TypeTable) where
  -- what stands next in a legal journal may stand there
  stands_next : (before : List Entry) (entry : Entry) (more : List Entry) → IsLegal types (before ++ entry ∷ more) → MayStand types (reverse before) entry × IsLegalPast types (reverse before)
  stands_next before entry more legal =
      let whole : IsLegal types ((before ++ entry ∷ []) ++ more) = subst (IsLegal types) (sym (append_assoc before (entry ∷ []) more)) legal in
      let first : IsLegalPast types (reverse (before ++ entry ∷ [])) = prefix_is_legal types (before ++ entry ∷ []) more whole in
      subst (IsLegalPast types) (reverse-push before entry) first

  settles_one : (before more other : List Entry) → AllByRecursion DeliversSomething more → AllByRecursion DeliversSomething other
      → IsLegal types (before ++ more) → IsLegal types (before ++ other) → IsSettled types (before ++ more) → IsSettled types (before ++ other) → more ≡ other
  settles_one before [] [] d e legal its settled also = refl
  settles_one before [] (y ∷ other) d e legal its settled also =
      let stands = stands_next before y other its in
      let next = next_entry types (reverse before) y e.0 stands.0 in
      let none : IsSettled types before = subst (IsSettled types) (append-nil before) settled in
      absurd (none next.block next.next.enabled)
  settles_one before (x ∷ more) [] d e legal its settled also =
      let stands = stands_next before x more legal in
      let next = next_entry types (reverse before) x d.0 stands.0 in
      let none : IsSettled types before = subst (IsSettled types) (append-nil before) also in
      absurd (none next.block next.next.enabled)
  settles_one before (x ∷ more) (y ∷ other) d e legal its settled also =
      let stands = stands_next before x more legal in
      let its_stands = stands_next before y other its in
      let is : x ≡ y = same_entry types (reverse before) stands.1 x y d.0 e.0 stands.0 its_stands.0 in
      let shift = λ (l : List Entry). sym (append_assoc before (x ∷ []) l) in
      let its_x = subst (λ z. IsLegal types (before ++ z ∷ other)) (sym is) its in
      let also_x = subst (λ z. IsSettled types (before ++ z ∷ other)) (sym is) also in
      let rest = settles_one (before ++ x ∷ []) more other d.1 e.1
      (subst (IsLegal types) (shift more) legal) (subst (IsLegal types) (shift other) its_x)
      (subst (IsSettled types) (shift more) settled) (subst (IsSettled types) (shift other) also_x) in
      ap (λ l. x ∷ l) rest ∙ ap (λ z. z ∷ other) is

  settles_to_one : (before after other : List Entry) → SettlesTo types before after → SettlesTo types before other → after ≡ other
  settles_to_one before after other h i =
      let is = settles_one before h.more i.more h.delivers i.delivers
      (subst (IsLegal types) h.goes_on h.legal) (subst (IsLegal types) i.goes_on i.legal)
      (subst (IsSettled types) h.goes_on h.settled) (subst (IsSettled types) i.goes_on i.settled) in
      h.goes_on ∙ (ap (λ more. before ++ more) is ∙ sym i.goes_on)

  module _ (limit : ℕ) where
    takes_one : (number : ℕ) (events : List Event) (before after other : List Entry) → TakesInTurn types limit number events before after → TakesInTurn types limit number events before other → after ≡ other
    takes_one number [] before after other h i = h ∙ sym i
    takes_one number (e ∷ events) before after other (inl h) (inl i) = takes_one number events before after other h.1 i.1
    takes_one number (e ∷ events) before after other (inl h) (inr (inl i)) = absurd (i.0.new h.0)
    takes_one number (e ∷ events) before after other (inl h) (inr (inr i)) = absurd (i.1.new h.0)
    takes_one number (e ∷ events) before after other (inr (inl h)) (inl i) = absurd (h.0.new i.0)
    takes_one number (e ∷ events) before after other (inr (inl h)) (inr (inl i)) = h.1 ∙ sym i.1
    takes_one number (e ∷ events) before after other (inr (inl h)) (inr (inr i)) = (let full = h.0.full in let room = i.1.room in absurd (omega (arith, full, room)))
    takes_one number (e ∷ events) before after other (inr (inr h)) (inl i) = absurd (h.1.new i.0)
    takes_one number (e ∷ events) before after other (inr (inr h)) (inr (inl i)) = (let full = i.0.full in let room = h.1.room in absurd (omega (arith, full, room)))
    takes_one number (e ∷ events) before after other (inr (inr h)) (inr (inr i)) =
        let is = settles_to_one (before ++ Came number e ∷ []) h.0 i.0 h.1.settles i.1.settles in
        takes_one number events h.0 after other h.2 (subst (λ between. TakesInTurn types limit number events between other) (sym is) i.2)

    pub takes_all_one : (number : ℕ) (lists : List (List Event)) (before after other : List Entry) → TakesAllInTurn types limit number lists before after → TakesAllInTurn types limit number lists before other → after ≡ other
    takes_all_one number [] before after other h i = h ∙ sym i
    takes_all_one number (events ∷ lists) before after other h i =
        let is = takes_one number events before h.0 i.0 h.1 i.1 in
        takes_all_one (suc number) lists h.0 after other h.2 (subst (λ between. TakesAllInTurn types limit (suc number) lists between other) (sym is) i.2)
