-- Each step keeps the turnstile's rule.
use Rattle.std.proofs.Common.{◌≡◌, ℕ, zero, suc, ◌+◌, ◌%◌, ◌<◌, ◌≤◌, eqb, ◌≢◌, ◌⊎◌, List, [], ◌∷◌, ◌++◌, length, get_or, set, Option, None, Some, refl, sym, ap, ◌∙◌, subst, inl, inr, ⊎_elim, arith}
use mathlib.Core.Logic.{dite}
use mathlib.Core.List.{IsPrefix}
use mathlib.Core.Option.{some, some-injective}
use mathlib.Core.Option as maybe
use native.Mathlib.Decide.{ℕ_discrete}
use lib.ListN.{get_elem?}
use prog.Atomic.{either}
use Rattle.atomic_table.specs.Table.{State, Me, step, rest, put_back, keeps, takes, gives, stepped, Allows}
use Rattle.atomic_table.proofs.Lists.{at_set, exchanged}
use Rattle.causal_base.specs.declared.entry.Entry.{Entry}
use Rattle.turnstile.specs.declared.rule.Opening.{Opening}
use Rattle.turnstile.specs.declared.view.Stage.{Stage}
use Rattle.turnstile.specs.declared.view.Stage.TheVariants.{Resting, Drawn, Read, Appended, Joined}
use Rattle.turnstile.specs.declared.view.Standing.{Standing}
use Rattle.turnstile.specs.declared.view.View.{View}
use Rattle.turnstile.specs.Entries.{entries_of, GoesOnWithout, GoesOnBy}
use Rattle.turnstile.specs.Views.{turn_of, slot_of, standing, turns_out, slots_out, cover_of, IsLive}
use Rattle.turnstile.specs.Rule.{FitsStage, Knows, IsHome, IsOrderly}
use Rattle.turnstile.specs.Plays.{stage_drawn, as_one, Draws, Looks, Appends, Serves, FindsRoom, Settles, Reads}
use Rattle.turnstile.proofs.Sums.{sum_by-set}
use Rattle.turnstile.proofs.Journals.{prefix-self, prefix-trans, goes_on, others_stay, none_before}
use Rattle.turnstile.proofs.Passes.{at_here, live_set, live_else, apart_at, only_turn, slots_drawn, slots_taken}

fits_drawn : (found own : ℕ) (seen journal : List Entry) → FitsStage (stage_drawn found) own seen journal
fits_drawn zero own seen journal = tt
fits_drawn (suc n) own seen journal = tt

slot_drawn : (found : ℕ) → slot_of (stage_drawn found) ≡ 0
slot_drawn zero = refl
slot_drawn (suc n) = refl

-- the journal may change beside a pass without a turn
fits_idle : (stage : Stage) (own : ℕ) (seen journal journal' : List Entry) → turn_of stage ≡ 0 → FitsStage stage own seen journal → FitsStage stage own seen journal'
fits_idle Resting own seen journal journal' idle fits = tt
fits_idle Drawn own seen journal journal' idle fits = tt
fits_idle Read own seen journal journal' idle fits = absurd (omega arith)
fits_idle Appended own seen journal journal' idle fits = absurd (omega arith)
fits_idle (Joined first number second) own seen journal journal' idle fits = fits

module _ {F : Type 0} where
  -- the pass, with other things seen, drawn and got, at another stage
  abbrev stands : Standing F → List Entry → List ℕ → List ℕ → Stage → Standing F
  stands x seen draws turns stage = standing (record x.view { seen = seen; draws = draws; turns = turns }) stage

module _ {V F : Type 0} (journal_of : V → List Entry) (fixed_of : V → F) (opening : Opening V) where
  abbrev pub St : Type 0
  St = State (Option V) (Standing F)

  abbrev pub Sat : Type 0
  Sat = Me (Option V) (Standing F)

  abbrev pub Orderly : St → Type 0
  Orderly = IsOrderly journal_of fixed_of opening

  abbrev pub part : F
  part = fixed_of opening.value.value

  abbrev pub Known : List Entry → Standing F → Type 0
  Known = Knows opening.seats part

  -- some live pass has seen the whole journal
  abbrev pub IsSeen : List Entry → List (Standing F) → Type 0
  IsSeen journal passes = (journal ≡ []) ⊎ ((seat : ℕ) × (pass : Standing F) × IsLive passes seat pass × (pass.view.seen ≡ journal))

  pub seen_here : (passes : List (Standing F)) (id : ℕ) (x y : Standing F) (journal : List Entry) → IsLive passes id x → y.view.lo < y.view.hi
      → y.view.seen ≡ journal → IsSeen journal (set passes id y)
  seen_here passes id x y journal live has whole = inr (id, y, record { at = at_here passes id x y live.at; live = has }, whole)

  -- a step of one pass, which leaves its range, its weight and its fixed part
  pub changed : (s : St) (o : Orderly s) (id : ℕ) (x : Standing F) → IsLive s.views id x
      → (seen : List Entry) (draws turns : List ℕ) (stage : Stage) (journal : List Entry) (turn slot : ℕ)
      → (words : List ℕ) (homes : List (maybe.Option (Option V)))
      → words ≡ length journal ∷ turn ∷ [] → turn + turn_of x.stage ≡ turns_out s.views + turn_of stage → turn ≤ 1
      → slot + slot_of x.stage ≡ slots_out s.views + slot_of stage
      → (slot ≡ 1 → homes ≡ maybe.none ∷ []) → (slot ≡ 0 → IsHome journal_of fixed_of journal part homes)
      → Known journal (stands x seen draws turns stage) → ((j : ℕ) (u : Standing F) → j ≢ id → IsLive s.views j u → Known journal u)
      → IsSeen journal (set s.views id (stands x seen draws turns stage))
      → Orderly record { words = words; homes = homes; views = set s.views id (stands x seen draws turns stage) }
  changed s o id x live seen draws turns stage journal turn slot words homes words_are turn_is few slot_is out home mine others known =
      let y : Standing F = stands x seen draws turns stage in
      let turns_are : turns_out (set s.views id y) ≡ turn = omega (arith, sum_by-set (λ (p : Standing F). turn_of p.stage) s.views id x y live.at) in
      let slots_are : slots_out (set s.views id y) ≡ slot = omega (arith, sum_by-set (λ (p : Standing F). slot_of p.stage) s.views id x y live.at) in record {
        journal = journal;
        words = words_are ∙ ap (λ (n : ℕ). length journal ∷ n ∷ []) (sym turns_are);
        one_turn = omega arith;
        alive = λ j u there has. ⊎_elim (λ (t : (j ≡ id) × (y ≡ u)). record { at = there; live = subst (λ (p : Standing F). p.view.lo < p.view.hi) t.1 live.live })
            (λ (t : (j ≢ id) × (get_elem? s.views j ≡ some u)). record { at = there; live = (o.alive j u t.1 has).live }) (at_set s.views id j y u there);
        out = λ is. out (sym slots_are ∙ is);
        home = λ is. home (sym slots_are ∙ is);
        each = λ j u there. ⊎_elim (λ (t : (j ≡ id) × (y ≡ u)). subst (Known journal) t.1 mine) (λ (t : (j ≢ id) × IsLive s.views j u). others j u t.0 t.1)
            (live_set s.views id y j u there);
        known = known;
        weights = omega (arith, sum_by-set (λ (p : Standing F). p.view.weight) s.views id x y live.at, o.weights);
        apart = λ number. omega (arith, sum_by-set (cover_of number) s.views id x y live.at, o.apart number);
      }

  -- a pass that had seen the whole has seen it after its step
  pub seen_still : (passes : List (Standing F)) (id : ℕ) (x y : Standing F) (journal : List Entry) → IsLive passes id x → y.view.lo < y.view.hi
      → (x.view.seen ≡ journal → y.view.seen ≡ journal) → IsSeen journal passes → IsSeen journal (set passes id y)
  seen_still passes id x y journal live has still known = ⊎_elim inl
      (λ (t : (seat : ℕ) × (pass : Standing F) × IsLive passes seat pass × (pass.view.seen ≡ journal)). let there = t.2 in
      dite (ℕ_discrete t.0 id)
      (λ same. let it : t.1 ≡ x = some-injective t.1 x (sym there.at ∙ (ap (get_elem? passes) same ∙ live.at)) in
      seen_here passes id x y journal live has (still (ap (λ (p : Standing F). p.view.seen) (sym it) ∙ t.3)))
      (λ apart. inr (t.0, t.1, live_else passes id y t.0 t.1 apart there, t.3)))
      known

  -- a step that tells of the stage, what was drawn and what was got, and of nothing that was seen
  stayed : (s : St) (o : Orderly s) (id : ℕ) (x : Standing F) → IsLive s.views id x
      → (draws turns : List ℕ) (stage : Stage) (turn slot : ℕ) (words : List ℕ) (homes : List (maybe.Option (Option V)))
      → words ≡ length o.journal ∷ turn ∷ [] → turn + turn_of x.stage ≡ turns_out s.views + turn_of stage → turn ≤ 1
      → slot + slot_of x.stage ≡ slots_out s.views + slot_of stage
      → (slot ≡ 1 → homes ≡ maybe.none ∷ []) → (slot ≡ 0 → IsHome journal_of fixed_of o.journal part homes)
      → FitsStage stage x.view.lo x.view.seen o.journal
      → Orderly record { words = words; homes = homes; views = set s.views id (stands x x.view.seen draws turns stage) }
  stayed s o id x live draws turns stage turn slot words homes words_are turn_is few slot_is out home fits =
      let k = o.each id x live in
      changed s o id x live x.view.seen draws turns stage o.journal turn slot words homes words_are turn_is few slot_is out home
      (record { seen = k.seen; stage = fits; range = k.range; weight = k.weight; own = k.own; others = k.others; fixed = k.fixed })
      (λ j u apart there. o.each j u there)
      (seen_still s.views id x (stands x x.view.seen draws turns stage) o.journal live live.live (λ e. e) o.known)

  length_found : (s : St) (o : Orderly s) → get_or s.words 0 0 ≡ length o.journal
  length_found s o = ap (λ (ws : List ℕ). get_or ws 0 0) o.words

  turn_found : (s : St) (o : Orderly s) → get_or s.words 1 0 ≡ turns_out s.views
  turn_found s o = ap (λ (ws : List ℕ). get_or ws 1 0) o.words

  pub draws : (slots id : ℕ) (m : Sat) → m.0.stage ≡ Resting → m.0.view.lo < m.0.view.hi
      → Allows Orderly slots id m 1 (λ n. either (eqb n 0) 1 n) (Draws (step slots 1 0 1 maybe.none) m)
  draws slots id m rests live s o wide at small =
      let found : ℕ = get_or s.words 1 0 in let is : found ≡ turns_out s.views = turn_found s o in
      let idle : turn_of m.0.stage ≡ 0 = ap turn_of rests in let empty : slot_of m.0.stage ≡ 0 = ap slot_of rests in
      let none_yet = slot_drawn found in let few = o.one_turn in
      let w : Standing F = standing (record m.0.view { draws = m.0.view.draws ++ found ∷ [] }) (stage_drawn found) in
      let goes : (k : ℕ) → k ≡ turns_out s.views + turn_of (stage_drawn found) → k ≤ 1 → Orderly (stepped s 1 k id m.1 w keeps) = λ k sum few.
      stayed s o id m.0 (record { at = at; live = live }) (m.0.view.draws ++ found ∷ []) m.0.view.turns (stage_drawn found) k (slots_out s.views)
      (set s.words 1 k) s.homes (ap (λ (ws : List ℕ). set ws 1 k) o.words) (omega arith) few (omega arith) o.out o.home (fits_drawn found m.0.view.lo m.0.view.seen o.journal) in (
        w,
        keeps,
        tt,
        exchanged found 0 1 (λ k. Orderly (stepped s 1 k id m.1 w keeps))
            (λ hit. goes 1 (omega (arith, ap (λ (n : ℕ). turn_of (stage_drawn n)) hit)) (omega arith))
            (λ miss. let one : found ≡ 1 = omega arith in goes found (omega (arith, ap (λ (n : ℕ). turn_of (stage_drawn n)) one)) (omega arith)),
        (omega arith, refl),
      )

  pub looks : (slots id : ℕ) (m : Sat) → m.0.stage ≡ Resting → m.0.view.lo < m.0.view.hi
      → Allows Orderly slots id m 0 (λ n. n) (Looks (step slots 0 0 0 maybe.none) m)
  looks slots id m rests live s o wide at small =
      let x : Standing F = m.0 in let J : List Entry = o.journal in let found : ℕ = get_or s.words 0 0 in
      let here : IsLive s.views id x = record { at = at; live = live } in let k = o.each id x here in (
        standing (record x.view { seen = J }) x.stage,
        keeps,
        tt,
        changed s o id x here J x.view.draws x.view.turns x.stage J (turns_out s.views) (slots_out s.views) (set s.words 0 found) s.homes
            (ap (λ (ws : List ℕ). set ws 0 found) o.words ∙ ap (λ (n : ℕ). n ∷ turns_out s.views ∷ []) (length_found s o))
            (omega arith) o.one_turn (omega arith) o.out o.home
            (record { seen = prefix-self J; stage = subst (λ (t : Stage). FitsStage t x.view.lo J J) (sym rests) tt; range = k.range; weight = k.weight; own = refl; others = k.others; fixed = k.fixed })
            (λ j u apart there. o.each j u there) (seen_here s.views id x (standing (record x.view { seen = J }) x.stage) J here live refl),
        (J, refl, length_found s o, goes_on x.view.lo x.view.seen J k.seen k.own),
      )

  reads : (slots id : ℕ) (m : Sat) → m.0.stage ≡ Drawn → m.0.view.lo < m.0.view.hi
      → Allows Orderly slots id m 0 (λ n. n) (Reads journal_of fixed_of (step slots 0 0 0 maybe.none) m)
  reads slots id m drawn live s o wide at small =
      let x : Standing F = m.0 in let J : List Entry = o.journal in let found : ℕ = get_or s.words 0 0 in
      let here : IsLive s.views id x = record { at = at; live = live } in let k = o.each id x here in
      let has : turn_of x.stage ≡ 1 = ap turn_of drawn in let none_yet : slot_of x.stage ≡ 0 = ap slot_of drawn in
      let empty : slots_out s.views ≡ 0 = slots_drawn s.views id x o.one_turn at has none_yet in
      let home = o.home empty in let S : List Entry = journal_of home.value in
      let turns : List ℕ = x.view.turns ++ found ∷ [] in (
        standing (record x.view { seen = S; turns = turns }) Read,
        takes 0 (Some home.value),
        ap (λ (hs : List (maybe.Option (Option V))). get_elem? hs 0) home.home,
        changed s o id x here S x.view.draws turns Read J (turns_out s.views) 1 (set s.words 0 found) (set s.homes 0 maybe.none)
            (ap (λ (ws : List ℕ). set ws 0 found) o.words ∙ ap (λ (n : ℕ). n ∷ turns_out s.views ∷ []) (length_found s o))
            (omega arith) o.one_turn (omega arith)
            (λ _. ap (λ (hs : List (maybe.Option (Option V))). set hs 0 maybe.none) home.home) (λ e. absurd (omega arith))
            (record {
              seen = subst (λ (l : List Entry). IsPrefix l J) (sym home.stands) (prefix-self J);
              stage = home.stands;
              range = k.range;
              weight = k.weight;
              own = ap (entries_of x.view.lo) (sym home.stands);
              others = k.others;
              fixed = k.fixed;
            })
            (λ j u apart there. o.each j u there) (seen_here s.views id x (standing (record x.view { seen = S; turns = turns }) Read) J here live home.stands),
        (
          home.value,
          refl,
          length_found s o ∙ ap (λ (l : List Entry). length l) (sym home.stands),
          subst (λ (l : List Entry). GoesOnWithout x.view.lo x.view.seen l) (sym home.stands) (goes_on x.view.lo x.view.seen J k.seen k.own),
          k.fixed ∙ ap Some (sym home.fixed),
        ),
      )

  pub reads_drawn : (slots id : ℕ) (m : Sat) (v : View F) (found : ℕ) (carried : List (ℕ × Option V)) → m ≡ (standing v (stage_drawn found), carried)
      → found ≡ 0 → v.lo < v.hi → Allows Orderly slots id m 0 (λ n. n) (Reads journal_of fixed_of (step slots 0 0 0 maybe.none) m)
  reads_drawn slots id m v found carried is free live =
      subst (λ (z : Sat). Allows Orderly slots id z 0 (λ n. n) (Reads journal_of fixed_of (step slots 0 0 0 maybe.none) z)) (sym is)
      (reads slots id (standing v (stage_drawn found), carried) (ap stage_drawn free) live)

  -- the journal that the entries of one pass make leaves what another knows
  known_beside : (s : St) (o : Orderly s) (id : ℕ) (x : Standing F) (journal : List Entry) → IsLive s.views id x → turn_of x.stage ≡ 1
      → x.view.seen ≡ o.journal → GoesOnBy x.view.lo x.view.seen journal → (j : ℕ) (u : Standing F) → j ≢ id → IsLive s.views j u → Known journal u
  known_beside s o id x journal here has whole on j u apart there =
      let k = o.each j u there in let low = here.live in let its_low = there.live in
      let begins : IsPrefix o.journal journal = (on.added, ap (λ l. l ++ on.added) (sym whole) ∙ sym on.whole) in
      let same : (number : ℕ) → x.view.lo ≢ number → entries_of number journal ≡ entries_of number o.journal = λ number other.
      others_stay x.view.lo number x.view.seen journal other on ∙ ap (entries_of number) whole in record {
        seen = prefix-trans u.view.seen o.journal journal k.seen begins;
        stage = fits_idle u.stage u.view.lo u.view.seen o.journal journal (only_turn s.views id j x u o.one_turn apart here.at there.at has) k.stage;
        range = k.range;
        weight = k.weight;
        own = same u.view.lo (λ e. apart_at s.views id j u.view.lo x u (o.apart u.view.lo) apart here there (omega arith) (omega arith) (omega arith) its_low) ∙ k.own;
        others = λ number a b. same number (λ e. apart_at s.views id j number x u (o.apart number) apart here there (omega arith) (omega arith) (omega arith) b) ∙ k.others number a b;
        fixed = k.fixed;
      }

  pub appends : (slots id : ℕ) (m : Sat) (journal : List Entry) (count : ℕ) → m.0.stage ≡ Read → m.0.view.lo < m.0.view.hi
      → GoesOnBy m.0.view.lo m.0.view.seen journal → length m.0.view.seen + count ≡ length journal → length journal < 18446744073709551616
      → Allows Orderly slots id m 0 (λ n. (n + count) % 18446744073709551616) (Appends journal (step slots 0 count 0 maybe.none) m)
  appends slots id m journal count read live on grown fits s o wide at small =
      let x : Standing F = m.0 in let found : ℕ = get_or s.words 0 0 in
      let here : IsLive s.views id x = record { at = at; live = live } in let k = o.each id x here in
      let whole : x.view.seen ≡ o.journal = subst (λ (t : Stage). FitsStage t x.view.lo x.view.seen o.journal) read k.stage in
      let has : turn_of x.stage ≡ 1 = ap turn_of read in let taken = slots_taken s.views id x o.one_turn at (ap slot_of read) in
      let its_slot : slot_of x.stage ≡ 1 = ap slot_of read in
      let sum : (found + count) % 18446744073709551616 ≡ length journal = omega (arith, length_found s o, ap (λ (l : List Entry). length l) whole) in
      let w : Standing F = standing (record x.view { seen = journal }) Appended in (
        w,
        keeps,
        tt,
        changed s o id x here journal x.view.draws x.view.turns Appended journal (turns_out s.views) (slots_out s.views)
            (set s.words 0 ((found + count) % 18446744073709551616)) s.homes
            (ap (λ (ws : List ℕ). set ws 0 ((found + count) % 18446744073709551616)) o.words ∙ ap (λ (n : ℕ). n ∷ turns_out s.views ∷ []) sum)
            (omega arith) o.one_turn (omega arith) o.out (λ e. absurd (omega arith))
            (record {
              seen = prefix-self journal;
              stage = refl;
              range = k.range;
              weight = k.weight;
              own = refl;
              fixed = k.fixed;
              others = λ number a b. others_stay x.view.lo number x.view.seen journal (λ e. omega arith) on ∙ (ap (entries_of number) whole ∙ k.others number a b);
            })
            (known_beside s o id x journal here has whole on)
            (seen_here s.views id x w journal here live refl),
        refl,
      )

  serves : (slots id : ℕ) (m : Sat) (value : V) → m.0.stage ≡ Appended → m.0.view.lo < m.0.view.hi → m.1 ≡ (0, Some value) ∷ []
      → journal_of value ≡ m.0.view.seen → m.0.view.fixed ≡ Some (fixed_of value)
      → Allows Orderly slots id m 1 (λ _. 0) (Serves (step slots 1 0 0 maybe.none) m)
  serves slots id m value appended live carries stands_for fixed s o wide at small =
      let x : Standing F = m.0 in let here : IsLive s.views id x = record { at = at; live = live } in let k = o.each id x here in
      let whole : x.view.seen ≡ o.journal = subst (λ (t : Stage). FitsStage t x.view.lo x.view.seen o.journal) appended k.stage in
      let taken = slots_taken s.views id x o.one_turn at (ap slot_of appended) in let its_slot : slot_of x.stage ≡ 1 = ap slot_of appended in
      let same : fixed_of value ≡ part = let its = k.fixed in cc in (
        standing x.view Resting,
        gives,
        tt,
        stayed s o id x here x.view.draws x.view.turns Resting 0 0 (set s.words 1 0) (put_back s.homes m.1) (ap (λ (ws : List ℕ). set ws 1 0) o.words)
            (omega arith) (omega arith) (omega arith) (λ e. absurd (omega arith))
            (λ _. record {
              value = value;
              home = ap (put_back s.homes) carries ∙ ap (λ (hs : List (maybe.Option (Option V))). set hs 0 (some (Some value))) (o.out taken.0);
              stands = stands_for ∙ whole;
              fixed = same;
            }) tt,
        refl,
      )

  -- the same after the value was put into the slot that the pass b carried empty
  pub serves_home : (slots id : ℕ) (m b : Sat) (v : View F) (carried : List (ℕ × Option V)) (value : V) → m ≡ (b.0, (0, Some value) ∷ rest b.1)
      → b ≡ (standing v Appended, carried) → carried ≡ (0, None) ∷ [] → v.lo < v.hi → journal_of value ≡ v.seen → v.fixed ≡ Some (fixed_of value)
      → Allows Orderly slots id m 1 (λ _. 0) (Serves (step slots 1 0 0 maybe.none) m)
  serves_home slots id m b v carried value put before empty live stands_for fixed =
      let is : m ≡ (standing v Appended, (0, Some value) ∷ []) = put ∙ (ap (λ (z : Sat). (z.0, (0, Some value) ∷ rest z.1)) before
      ∙ ap (λ (l : List (ℕ × Option V)). (standing v Appended, (0, Some value) ∷ rest l)) empty) in
      subst (λ (z : Sat). Allows Orderly slots id z 1 (λ _. 0) (Serves (step slots 1 0 0 maybe.none) z)) (sym is)
      (serves slots id (standing v Appended, (0, Some value) ∷ []) value refl live refl stands_for fixed)

  -- a load that leaves the pass as it is
  unmoved : (s : St) (o : Orderly s) (id : ℕ) (m : Sat) → IsLive s.views id m.0 → Orderly (stepped s 0 (get_or s.words 0 0) id m.1 m.0 keeps)
  unmoved s o id m here = let x : Standing F = m.0 in let found : ℕ = get_or s.words 0 0 in
      stayed s o id x here x.view.draws x.view.turns x.stage (turns_out s.views) (slots_out s.views) (set s.words 0 found) s.homes
      (ap (λ (ws : List ℕ). set ws 0 found) o.words ∙ ap (λ (n : ℕ). n ∷ turns_out s.views ∷ []) (length_found s o))
      (omega arith) o.one_turn (omega arith) o.out o.home (o.each id x here).stage

  pub finds_room : (slots id : ℕ) (m : Sat) → m.0.view.lo < m.0.view.hi
      → Allows Orderly slots id m 0 (λ n. n) (FindsRoom (step slots 0 0 0 maybe.none) m)
  finds_room slots id m live s o wide at small = let here : IsLive s.views id m.0 = record { at = at; live = live } in let k = o.each id m.0 here in
      (m.0, keeps, tt, unmoved s o id m here, (refl, λ number a b. none_before number m.0.view.seen o.journal k.seen (k.others number a b)))

  settles : (slots id : ℕ) (m : Sat) (first : List Entry) (number : ℕ) (second : List Entry) → m.0.stage ≡ Joined first number second → m.0.view.lo < m.0.view.hi
      → Allows Orderly slots id m 0 (λ n. n) (Settles (step slots 0 0 0 maybe.none) m)
  settles slots id m first number second joined live s o wide at small =
      let x : Standing F = m.0 in let found : ℕ = get_or s.words 0 0 in let here : IsLive s.views id x = record { at = at; live = live } in let k = o.each id x here in
      let idle : turn_of x.stage ≡ 0 = ap turn_of joined in let empty : slot_of x.stage ≡ 0 = ap slot_of joined in (
        standing x.view Resting,
        keeps,
        tt,
        stayed s o id x here x.view.draws x.view.turns Resting (turns_out s.views) (slots_out s.views) (set s.words 0 found) s.homes
            (ap (λ (ws : List ℕ). set ws 0 found) o.words ∙ ap (λ (n : ℕ). n ∷ turns_out s.views ∷ []) (length_found s o))
            (omega arith) o.one_turn (omega arith) o.out o.home tt,
        λ a n b is. let begin = subst (λ (t : Stage). FitsStage t x.view.lo x.view.seen o.journal) is k.stage in (refl, begin.0, begin.1),
      )

  pub settles_joined : (slots id : ℕ) (m : Sat) (x u : Standing F) (carried : List (ℕ × Option V)) → m ≡ (as_one x u, carried) → x.view.lo < x.view.hi
      → Allows Orderly slots id m 0 (λ n. n) (Settles (step slots 0 0 0 maybe.none) m)
  settles_joined slots id m x u carried is live =
      subst (λ (z : Sat). Allows Orderly slots id z 0 (λ n. n) (Settles (step slots 0 0 0 maybe.none) z)) (sym is)
      (settles slots id (as_one x u, carried) x.view.seen u.view.lo u.view.seen refl live)
