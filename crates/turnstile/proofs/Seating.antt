-- A pass that is split, two that are joined, the first one and the last keep the turnstile's rule.
use Rattle.std.proofs.Common.{◌≡◌, ℕ, zero, suc, ◌+◌, ◌<◌, ◌≢◌, ◌⊎◌, cond, ◌&&◌, nat_le, nat_lt, List, [], ◌∷◌, ◌++◌, length, set, Option, Some, refl, sym, ap, ◌∙◌, subst, inl, inr, ⊎_elim, arith}
use Rattle.std.proofs.lemmas.Bool.Decides.{nat_tests}
use Rattle.std.specs.List.{sum_by}
use Rattle.std.proofs.lemmas.List.Sums.{sum_by_push}
use mathlib.Core.Logic.{dite}
use mathlib.Core.List.{IsPrefix}
use mathlib.Core.Option.{some, some-injective, some-ne-none}
use mathlib.Core.Option as maybe
use native.Mathlib.Decide.{ℕ_discrete}
use lib.ListN.{get_elem?}
use Rattle.atomic_table.specs.Table.{Me, step, opening, Splits, Joins, Final, Seen}
use Rattle.atomic_table.proofs.Lists.{at_set, at_snoc, at_longer, set_else}
use Rattle.causal_base.specs.declared.entry.Entry.{Entry}
use Rattle.turnstile.specs.declared.rule.Opening.{Opening}
use Rattle.turnstile.specs.declared.view.Stage.TheVariants.{Resting}
use Rattle.turnstile.specs.declared.view.Standing.{Standing}
use Rattle.turnstile.specs.Entries.{GoesOnWithout}
use Rattle.turnstile.specs.Views.{turn_of, slot_of, longer, standing, turns_out, slots_out, cover_of, IsLive, left_over}
use Rattle.turnstile.specs.Rule.{IsHome}
use Rattle.turnstile.specs.Plays.{Settles, first_part, second_part, as_one}
use Rattle.turnstile.proofs.Sums.{sum_by-set, sum_by-none, terms_le}
use Rattle.turnstile.proofs.Journals.{goes_on, none_before, prefix_length, prefix-whole, longer-prefix, all_between}
use Rattle.turnstile.proofs.Passes.{at_here, live_set, live_else, cover_le, slot_le, turn_le}
use Rattle.turnstile.proofs.Keeping.{St, Orderly, part, Known, seen_still}

abbrev range_of : ℕ → ℕ → ℕ → ℕ
range_of lo hi number = cond (nat_le lo number && nat_lt number hi) 1 0

-- a range that is cut has its numbers once in the two parts
range-cut : (lo at hi number : ℕ) → lo < at → at < hi → range_of lo at number + range_of at hi number ≡ range_of lo hi number
range-cut lo at hi number low high = grind (arith, nat_tests)

range-empty : (number : ℕ) → range_of 0 0 number ≡ 0
range-empty number = grind (arith, nat_tests)

-- the longer of two beginnings of which one is the whole is the whole
longer-whole : (xs ys journal : List Entry) → IsPrefix xs journal → IsPrefix ys journal → (xs ≡ journal) ⊎ (ys ≡ journal) → longer xs ys ≡ journal
longer-whole xs ys journal a b one = let l = longer-prefix xs ys journal a b in prefix-whole (longer xs ys) journal l.0
    (⊎_elim (λ (e : xs ≡ journal). omega (arith, prefix_length xs (longer xs ys) l.1, ap (λ (z : List Entry). length z) e))
    (λ (e : ys ≡ journal). omega (arith, prefix_length ys (longer xs ys) l.2, ap (λ (z : List Entry). length z) e)) one)

module _ {F : Type 0} where
  live_more : (passes more : List (Standing F)) (j : ℕ) (u : Standing F) → IsLive passes j u → IsLive (passes ++ more) j u
  live_more passes more j u there = record { at = at_longer passes more j u there.at; live = there.live }

only_one : {A : Type 0} (x u : A) (j : ℕ) → get_elem? (x ∷ []) j ≡ some u → x ≡ u
only_one x u zero at = some-injective x u at
only_one x u (suc j) at = absurd (some-ne-none u (sym at))

-- what is told once two passes were joined
pub joined_told : {S F : Type 0} (x u : Standing F) (carried : List (ℕ × S)) (m n : Me S (Standing F))
    → m ≡ (as_one x u, carried) → Settles (step 0 0 0 0 maybe.none) m 0 n
    → (n ≡ (standing (as_one x u).view Resting, carried))
    × GoesOnWithout x.view.lo x.view.seen (longer x.view.seen u.view.seen) × GoesOnWithout u.view.lo u.view.seen (longer x.view.seen u.view.seen)
joined_told x u carried m n is told =
    let here = subst (λ z. Settles (step 0 0 0 0 maybe.none) z 0 n) is told in here x.view.seen u.view.lo u.view.seen refl

module _ {V F : Type 0} (journal_of : V → List Entry) (fixed_of : V → F) (opened : Opening V) where
  pub splits : (id : ℕ) (x : Standing F) (at : ℕ) → x.stage ≡ Resting → x.view.lo < at → at < x.view.hi
      → Splits (Orderly journal_of fixed_of opened) id x (first_part at x) (second_part at x)
  splits id x at rests low high s o there =
      let J : List Entry = o.journal in
      let K : Standing F → Type 0 = Known journal_of fixed_of opened J in
      let here : IsLive s.views id x = record { at = there; live = omega arith } in let k = o.each id x here in
      let y : Standing F = first_part at x in let z : Standing F = second_part at x in
      let passes : List (Standing F) = set s.views id y in
      let idle : turn_of x.stage ≡ 0 = ap turn_of rests in let empty : slot_of x.stage ≡ 0 = ap slot_of rests in
      let range = k.weight in
      let added : (f : Standing F → ℕ) → sum_by f (passes ++ z ∷ []) + f x ≡ sum_by f s.views + f y + f z = λ f.
      omega (arith, sum_by-set f s.views id x y there, sum_by_push f passes z) in
      let turns_are : turns_out (passes ++ z ∷ []) ≡ turns_out s.views = omega (arith, added (λ p. turn_of p.stage)) in
      let slots_are : slots_out (passes ++ z ∷ []) ≡ slots_out s.views = omega (arith, added (λ p. slot_of p.stage)) in
      let first_knows : K y = record {
        seen = k.seen;
        stage = k.stage;
        range = omega (arith, k.range);
        weight = omega arith;
        own = k.own;
        others = λ number a b. k.others number a (omega arith);
        fixed = k.fixed;
      } in
      let second_knows : K z = record {
        seen = k.seen;
        stage = tt;
        range = k.range;
        weight = omega arith;
        own = k.others at low high ∙ sym (none_before at x.view.seen J k.seen (k.others at low high));
        others = λ number a b. k.others number (omega arith) b;
        fixed = k.fixed;
      } in
      record {
        journal = J;
        words = o.words ∙ ap (λ (n : ℕ). length J ∷ n ∷ []) (sym turns_are);
        one_turn = omega (arith, o.one_turn);
        alive = λ j u found has. ⊎_elim
            (λ (old : get_elem? passes j ≡ some u). ⊎_elim
            (λ (t : (j ≡ id) × (y ≡ u)). absurd (omega (arith, ap (λ (p : Standing F). turn_of p.stage) t.1)))
            (λ (t : (j ≢ id) × (get_elem? s.views j ≡ some u)). record { at = found; live = (o.alive j u t.1 has).live }) (at_set s.views id j y u old))
            (λ (new : z ≡ u). absurd (omega (arith, ap (λ (p : Standing F). turn_of p.stage) new)))
            (at_snoc passes z u j found);
        out = λ is. o.out (sym slots_are ∙ is);
        home = λ is. o.home (sym slots_are ∙ is);
        each = λ j u found. ⊎_elim
            (λ (old : get_elem? passes j ≡ some u). ⊎_elim (λ (t : (j ≡ id) × (y ≡ u)). subst K t.1 first_knows) (λ (t : (j ≢ id) × IsLive s.views j u). o.each j u t.1)
            (live_set s.views id y j u (record { at = old; live = found.live })))
            (λ (new : z ≡ u). subst K new second_knows)
            (at_snoc passes z u j found.at);
        known = ⊎_elim inl
            (λ (t : (seat : ℕ) × (pass : Standing F) × IsLive passes seat pass × (pass.view.seen ≡ J)). inr (t.0, t.1, live_more passes (z ∷ []) t.0 t.1 t.2, t.3))
            (seen_still journal_of fixed_of opened s.views id x y J here low (λ e. e) o.known);
        weights = omega (arith, added (λ p. p.view.weight), o.weights);
        apart = λ number. omega (arith, added (cover_of number), o.apart number, range-cut x.view.lo at x.view.hi number low high);
      }

  pub joins : (id : ℕ) (x : Standing F) (other : ℕ) (u : Standing F) → x.stage ≡ Resting → x.view.lo < x.view.hi → u.stage ≡ Resting → u.view.lo < u.view.hi
      → Joins (Orderly journal_of fixed_of opened) id x other u (as_one x u) left_over
  joins id x other u rests live its_rest its_live s o there apart found =
      let J : List Entry = o.journal in
      let K : Standing F → Type 0 = Known journal_of fixed_of opened J in
      let y : Standing F = as_one x u in let passes : List (Standing F) = set s.views id y in
      let its_at : get_elem? s.views other ≡ some u = sym (set_else s.views id other y apart) ∙ found in
      let here : IsLive s.views id x = record { at = there; live = live } in let k = o.each id x here in
      let its_here : IsLive s.views other u = record { at = its_at; live = its_live } in let its_k = o.each other u its_here in
      let l = longer-prefix x.view.seen u.view.seen J k.seen its_k.seen in
      let idle : turn_of x.stage ≡ 0 = ap turn_of rests in let empty : slot_of x.stage ≡ 0 = ap slot_of rests in
      let its_idle : turn_of u.stage ≡ 0 = ap turn_of its_rest in let its_empty : slot_of u.stage ≡ 0 = ap slot_of its_rest in
      let range = k.weight in
      let one_less : (f : Standing F → ℕ) → sum_by f (set passes other left_over) + f x + f u ≡ sum_by f s.views + f y + f left_over = λ f.
      omega (arith, sum_by-set f s.views id x y there, sum_by-set f passes other u left_over found) in
      let turns_are : turns_out (set passes other left_over) ≡ turns_out s.views = omega (arith, one_less (λ p. turn_of p.stage)) in
      let slots_are : slots_out (set passes other left_over) ≡ slots_out s.views = omega (arith, one_less (λ p. slot_of p.stage)) in
      let more : List Entry = longer x.view.seen u.view.seen in
      let own = all_between x.view.lo x.view.seen more J l.1 l.0 k.own in let its_own = all_between u.view.lo u.view.seen more J l.2 l.0 its_k.own in
      let both_know : K y = record {
        seen = l.0;
        stage = (goes_on x.view.lo x.view.seen more l.1 (sym own ∙ k.own), goes_on u.view.lo u.view.seen more l.2 (sym its_own ∙ its_k.own));
        range = k.range;
        weight = omega arith;
        own = own;
        others = k.others;
        fixed = k.fixed;
      } in
      let both_live : IsLive (set passes other left_over) id y = live_else passes other left_over id y (λ e. apart (sym e))
      (record { at = at_here s.views id x y there; live = live }) in
      record {
        journal = J;
        words = o.words ∙ ap (λ (n : ℕ). length J ∷ n ∷ []) (sym turns_are);
        one_turn = omega (arith, o.one_turn);
        alive = λ j v at has. ⊎_elim (λ (t : (j ≡ other) × (left_over ≡ v)). absurd (omega (arith, ap (λ (p : Standing F). turn_of p.stage) t.1)))
            (λ (t : (j ≢ other) × (get_elem? passes j ≡ some v)). ⊎_elim (λ (w : (j ≡ id) × (y ≡ v)). absurd (omega (arith, ap (λ (p : Standing F). turn_of p.stage) w.1)))
            (λ (w : (j ≢ id) × (get_elem? s.views j ≡ some v)). record { at = at; live = (o.alive j v w.1 has).live }) (at_set s.views id j y v t.1))
            (at_set passes other j left_over v at);
        out = λ is. o.out (sym slots_are ∙ is);
        home = λ is. o.home (sym slots_are ∙ is);
        each = λ j v at. ⊎_elim (λ (t : (j ≡ other) × (left_over ≡ v)). absurd (subst (λ (p : Standing F). p.view.lo < p.view.hi → ⊥) t.1 (λ h. omega arith) at.live))
            (λ (t : (j ≢ other) × IsLive passes j v). ⊎_elim (λ (w : (j ≡ id) × (y ≡ v)). subst K w.1 both_know) (λ (w : (j ≢ id) × IsLive s.views j v). o.each j v w.1)
            (live_set s.views id y j v t.1))
            (live_set passes other left_over j v at);
        known = ⊎_elim inl
            (λ (t : (seat : ℕ) × (pass : Standing F) × IsLive s.views seat pass × (pass.view.seen ≡ J)). let seat : ℕ = t.0 in let pass : Standing F = t.1 in let is = t.2 in
            dite (ℕ_discrete seat id)
            (λ same. let it : pass ≡ x = some-injective pass x (sym is.at ∙ (ap (get_elem? s.views) same ∙ there)) in
            inr (id, y, both_live, longer-whole x.view.seen u.view.seen J k.seen its_k.seen (inl (ap (λ (p : Standing F). p.view.seen) (sym it) ∙ t.3))))
            (λ not_first. dite (ℕ_discrete seat other)
            (λ same. let it : pass ≡ u = some-injective pass u (sym is.at ∙ (ap (get_elem? s.views) same ∙ its_at)) in
            inr (id, y, both_live, longer-whole x.view.seen u.view.seen J k.seen its_k.seen (inr (ap (λ (p : Standing F). p.view.seen) (sym it) ∙ t.3))))
            (λ not_second. inr (seat, pass, live_else passes other left_over seat pass not_second (live_else s.views id y seat pass not_first is), t.3))))
            o.known;
        weights = omega (arith, one_less (λ p. p.view.weight), o.weights);
        apart = λ number. omega (arith, one_less (cover_of number), o.apart number, range-empty number);
      }

  abbrev first_pass : Standing F
  first_pass = standing
      (record { lo = 0; hi = opened.seats; weight = opened.seats; fixed = Some (fixed_of opened.value.value); seen = []; draws = []; turns = [] }) Resting

  -- the first pass has all seats, and has seen the empty journal
  opens_with : (seats : ℕ) (value : V) → opened.seats ≡ seats → opened.value.value ≡ value → 0 < seats → journal_of value ≡ []
      → Orderly journal_of fixed_of opened (opening (0 ∷ 0 ∷ []) (Some value ∷ []) first_pass)
  opens_with seats value count is some_seat none =
      let knows : Known journal_of fixed_of opened [] first_pass = record {
        seen = ([], refl);
        stage = tt;
        range = omega arith;
        weight = omega arith;
        own = refl;
        others = λ number a b. refl;
        fixed = refl;
      } in
      record {
        journal = [];
        words = refl;
        one_turn = omega arith;
        alive = λ j u at has. absurd (omega (arith, ap (λ (p : Standing F). turn_of p.stage) (only_one first_pass u j at)));
        out = λ e. absurd (omega arith);
        home = λ _. record { value = value; home = refl; stands = none; fixed = ap fixed_of (sym is) };
        each = λ j u there. subst (Known journal_of fixed_of opened []) (only_one first_pass u j there.at) knows;
        known = inl refl;
        weights = omega arith;
        apart = λ number. omega (arith, cover_le number first_pass);
      }

  pub opens : (seats : ℕ) (value : V) (slots : List (Option V)) → slots ≡ Some value ∷ [] → opened.seats ≡ seats → opened.value.value ≡ value → 0 < seats
      → journal_of value ≡ [] → Orderly journal_of fixed_of opened (opening (0 ∷ 0 ∷ []) slots first_pass)
  opens seats value slots filled count is some_seat none =
      subst (λ (xs : List (Option V)). Orderly journal_of fixed_of opened (opening (0 ∷ 0 ∷ []) xs first_pass)) (sym filled)
      (opens_with seats value count is some_seat none)

  -- a pass beside which no other is live has the slot of nobody else
  idle_slot : (s : St journal_of fixed_of opened) → Orderly journal_of fixed_of opened s → (id : ℕ) (x : Standing F) → get_elem? s.views id ≡ some x → x.stage ≡ Resting
      → ((j : ℕ) (u : Standing F) → IsLive s.views j u → j ≡ id) → (j : ℕ) (u : Standing F) → get_elem? s.views j ≡ some u → slot_of u.stage ≡ 0
  idle_slot s o id x at rests alone j u there = dite (ℕ_discrete (slot_of u.stage) 0) (λ e. e)
      (λ full. let few = slot_le u.stage in let most = turn_le u.stage in let has : turn_of u.stage ≡ 1 = omega arith in
      let same : u ≡ x = some-injective u x (sym there ∙ (ap (get_elem? s.views) (alone j u (o.alive j u there has)) ∙ at)) in
      absurd (omega (arith, ap (λ (p : Standing F). turn_of p.stage) same, ap turn_of rests)))

  -- where one resting pass has the weight of all seats, the value is home and stands for what the pass has seen
  pub closes : (s : St journal_of fixed_of opened) → Orderly journal_of fixed_of opened s → (id : ℕ) (x : Standing F) → get_elem? s.views id ≡ some x → x.stage ≡ Resting
      → x.view.lo < x.view.hi → x.view.weight ≡ opened.seats
      → IsHome journal_of fixed_of x.view.seen (part journal_of fixed_of opened) s.homes × (x.view.fixed ≡ Some (part journal_of fixed_of opened))
  closes s o id x at rests live all =
      let J : List Entry = o.journal in let here : IsLive s.views id x = record { at = at; live = live } in let k = o.each id x here in
      let alone : (j : ℕ) (u : Standing F) → IsLive s.views j u → j ≡ id = λ j u there. dite (ℕ_discrete j id) (λ e. e)
      (λ apart. absurd (omega (arith, terms_le (λ (p : Standing F). p.view.weight) s.views id j x u apart at there.at, o.weights, (o.each j u there).weight, there.live))) in
      let empty : slots_out s.views ≡ 0 = sum_by-none (λ (p : Standing F). slot_of p.stage) s.views (λ j u there. idle_slot s o id x at rests alone j u there) in
      let home = o.home empty in
      let whole : x.view.seen ≡ J = ⊎_elim (λ (none : J ≡ []). prefix-whole x.view.seen J k.seen (omega (arith, ap (λ (z : List Entry). length z) none)))
      (λ (t : (seat : ℕ) × (pass : Standing F) × IsLive s.views seat pass × (pass.view.seen ≡ J)).
      let it : t.1 ≡ x = some-injective t.1 x (sym t.2.at ∙ (ap (get_elem? s.views) (alone t.0 t.1 t.2) ∙ at)) in
      ap (λ (p : Standing F). p.view.seen) (sym it) ∙ t.3) o.known in
      (record { value = home.value; home = home.home; stands = home.stands ∙ sym whole; fixed = home.fixed }, k.fixed)

  -- what is taken out of a closed table is that value
  pub found_home : (id : ℕ) (x : Standing F) (words : List ℕ) (slots : List (Option V)) (taken : Option V) → x.stage ≡ Resting → x.view.lo < x.view.hi
      → x.view.weight ≡ opened.seats → Final (Seen (Orderly journal_of fixed_of opened) id x) words slots → get_elem? slots 0 ≡ some taken
      → (value : V) × (taken ≡ Some value) × (journal_of value ≡ x.view.seen) × (x.view.fixed ≡ Some (fixed_of value))
  found_home id x words slots taken rests live all final here =
      let closed = closes final.0 final.1.0 id x final.1.1 rests live all in let home = closed.0 in
      let there = final.4 0 (Some home.value) (ap (λ (hs : List (maybe.Option (Option V))). get_elem? hs 0) home.home) in
      (home.value, some-injective taken (Some home.value) (sym here ∙ there), home.stands, closed.1 ∙ ap Some (sym home.fixed))
