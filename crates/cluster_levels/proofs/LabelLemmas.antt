-- The clusters of one level, by the labels of their traces.
use Rattle.std.proofs.Common.{◌≡◌, ◌≢◌, ◌+◌, ◌<◌, ◌≤◌, ℕ, ◌⊎◌, inl, inr, take, drop, ◌++◌, List, ◌∷◌, length, set, replicate, Bool, true, false, cond, refl, sym, ◌∙◌, ap, subst, arith, get_or, get_or-set_other, get_or-set_same}
use Rattle.std.specs.Prelude.{count_by, ◌==◌, ◌&&◌}
use Rattle.std.proofs.lemmas.Bool.{cases_eq, eq-eqb, ne_eqb, eqb-false, or_left, or_right, and_from, and_left, and_right, or_from}
use Rattle.std.proofs.lemmas.Grind.{get_or_default_zero}
use Rattle.std.proofs.lemmas.List.{length-set, length-replicate, get_or-replicate}
use Rattle.std.proofs.Math.Seq.{take-append_seam}
use Rattle.causal_base.specs.declared.limits.TheConstants.{MOST_TRACES}
use Rattle.causal_base.specs.Clusters.{numbers_below}
use Rattle.causal_base.proofs.CallerLemmas.{count_by-cons}
use Rattle.cluster_levels.specs.Tallies.{TallyTable, tally, counted}
use Rattle.cluster_levels.specs.Clusters.{LevelClusters, AreClusters, AreOn, AreTallied, AreJoined, label_of, shares, count_of}
use Rattle.cluster_levels.proofs.Counting.{count_few, count_sum, count_agree, count_none, count_one}
use Rattle.cluster_levels.proofs.Joins.{joins_by, joined_by, moved_label, kept_label, gone_label, both_labels, other_label, joined_swapped, joined_sum, joined_kept}

-- a cluster has no more traces than there are
pub size_few : (labels sizes : List ℕ) (width trace label size : ℕ) → AreClusters labels sizes width → trace < length labels → label ≡ get_or labels trace label → size ≡ get_or sizes label size → size ≤ MOST_TRACES
size_few labels sizes width trace label size are within is_label is_size =
    let label_is = is_label ∙ get_or_default_zero labels trace label within in
    let label_in : label < length labels = omega (arith, label_is, are.are_labels trace within) in
    let size_in : label < length sizes = omega (arith, label_in, are.long) in
    let size_is = is_size ∙ get_or_default_zero sizes label size size_in in
    let counts = are.are_sizes label label_in in
    let few = count_few (λ x. label == get_or labels x 0) (length labels) in
    omega (arith, size_is, counts, few, are.few)

-- one label became another, and the sizes followed
module _ (labels sizes : List ℕ) (width kept gone : ℕ) (are : AreClusters labels sizes width) (kept_in : kept < length labels) (gone_in : gone < length labels) (apart : kept ≢ gone) where
  -- no two clusters have more traces together than there are
  pub sum_few : get_or sizes kept 0 + get_or sizes gone 0 ≤ MOST_TRACES + MOST_TRACES
  sum_few =
      let one = count_few (λ x. kept == get_or labels x 0) (length labels) in
      let other = count_few (λ x. gone == get_or labels x 0) (length labels) in
      omega (arith, one, other, are.are_sizes kept kept_in, are.are_sizes gone gone_in, are.few)

  pub clusters_merged : (new : List ℕ) → length new ≡ length labels → ((x : ℕ) → x < length labels → get_or new x 0 ≡ cond (get_or labels x 0 == gone) kept (get_or labels x 0))
      → AreClusters new (set (set sizes kept (get_or sizes kept 0 + get_or sizes gone 0)) gone 0) width
  clusters_merged new long relabeled = record {
    few = omega (arith, are.few, long);
    are_labels = λ x within. elim (cases_eq (get_or labels x 0) gone) [
      | inl same ↦ omega (arith, moved_label gone kept apart (get_or labels x 0) (get_or new x 0) (relabeled x (omega (arith, within, long))) same, kept_in, long)
      | inr other ↦ omega (arith, kept_label gone kept apart (get_or labels x 0) (get_or new x 0) (relabeled x (omega (arith, within, long))) other, are.are_labels x (omega (arith, within, long)), long)
    ];
    long = omega (arith, are.long, long, length-set (set sizes kept (get_or sizes kept 0 + get_or sizes gone 0)) gone 0, length-set sizes kept (get_or sizes kept 0 + get_or sizes gone 0));
    are_sizes = λ label within. elim (cases_eq label gone) [
      | inl same ↦ at_gone label same
      | inr not_gone ↦ elim (cases_eq label kept) [
        | inl same ↦ at_kept label same not_gone
        | inr not_kept ↦ at_other label not_gone not_kept (omega (arith, within, long))
      ]
    ];
    wide = λ some. are.wide some ∙ sym long;
  }
    where
      at_gone : (label : ℕ) → label ≡ gone → get_or (set (set sizes kept (get_or sizes kept 0 + get_or sizes gone 0)) gone 0) label 0 ≡ count_of new label
      at_gone label same =
          let inside : gone < length (set sizes kept (get_or sizes kept 0 + get_or sizes gone 0)) = omega (arith, gone_in, are.long, length-set sizes kept (get_or sizes kept 0 + get_or sizes gone 0)) in
          let none = count_none (λ x. gone == get_or new x 0) (length new) (λ x within. gone_label gone kept apart (get_or labels x 0) (get_or new x 0) (relabeled x (omega (arith, within, long)))) in
          ap (λ n. get_or (set (set sizes kept (get_or sizes kept 0 + get_or sizes gone 0)) gone 0) n 0) same
          ∙ (get_or-set_same (set sizes kept (get_or sizes kept 0 + get_or sizes gone 0)) gone 0 0 inside ∙ (sym none ∙ ap (λ n. count_of new n) (sym same)))

      at_kept : (label : ℕ) → label ≡ kept → (label ≡ gone → ⊥) → get_or (set (set sizes kept (get_or sizes kept 0 + get_or sizes gone 0)) gone 0) label 0 ≡ count_of new label
      at_kept label same not_gone =
          let inside : kept < length sizes = omega (arith, kept_in, are.long) in
          let sum = count_sum (λ x. kept == get_or new x 0) (λ x. kept == get_or labels x 0) (λ x. gone == get_or labels x 0) (length labels)
          (λ x within. both_labels gone kept apart (get_or labels x 0) (get_or new x 0) (relabeled x within)) in
          let all = ap (λ n. count_by (λ x. kept == get_or new x 0) (numbers_below n)) long in
          let one = are.are_sizes kept kept_in in
          let other = are.are_sizes gone gone_in in
          let written = get_or-set_same sizes kept (get_or sizes kept 0 + get_or sizes gone 0) 0 inside in
          let is : get_or sizes kept 0 + get_or sizes gone 0 ≡ count_of new kept = omega (arith, sum, all, one, other) in
          ap (λ n. get_or (set (set sizes kept (get_or sizes kept 0 + get_or sizes gone 0)) gone 0) n 0) same
          ∙ (get_or-set_other (set sizes kept (get_or sizes kept 0 + get_or sizes gone 0)) gone kept 0 0 apart ∙ (written ∙ (is ∙ ap (λ n. count_of new n) (sym same))))

      at_other : (label : ℕ) → (label ≡ gone → ⊥) → (label ≡ kept → ⊥) → label < length labels → get_or (set (set sizes kept (get_or sizes kept 0 + get_or sizes gone 0)) gone 0) label 0 ≡ count_of new label
      at_other label not_gone not_kept within =
          let same = count_agree (λ x. label == get_or new x 0) (λ x. label == get_or labels x 0) (length labels)
          (λ x inside. other_label gone kept apart label (get_or labels x 0) (get_or new x 0) not_kept not_gone (relabeled x inside)) in
          let all = ap (λ n. count_by (λ x. label == get_or new x 0) (numbers_below n)) long in
          get_or-set_other (set sizes kept (get_or sizes kept 0 + get_or sizes gone 0)) gone label 0 0 not_gone
          ∙ (get_or-set_other sizes kept label (get_or sizes kept 0 + get_or sizes gone 0) 0 not_kept
          ∙ (are.are_sizes label within ∙ (sym same ∙ sym all)))

-- what the tallies of two clusters say of the labels of two traces
tallied_as : (clusters : LevelClusters) (so_far : List (ℕ × ℕ)) → AreTallied clusters so_far → (p q a b : ℕ) → p < length clusters.labels → q < length clusters.labels → label_of clusters p ≡ a → label_of clusters q ≡ b → a ≢ b
    → tally clusters.tallies a b ≡ counted (joined_by clusters.labels a b so_far)
tallied_as clusters so_far are p q a b p_in q_in p_is q_is apart =
    let away : shares clusters p q ≡ false = ne_eqb (label_of clusters p) (label_of clusters q) (λ same. apart (sym p_is ∙ (same ∙ q_is))) in
    let says = are.tallied p q p_in q_in away in
    ap (λ n. tally clusters.tallies n b) (sym p_is) ∙ (ap (λ n. tally clusters.tallies (label_of clusters p) n) (sym q_is)
    ∙ (says ∙ (ap (λ n. counted (joined_by clusters.labels n (label_of clusters q) so_far)) p_is ∙ ap (λ n. counted (joined_by clusters.labels a n so_far)) q_is)))

counted_sum : (m n : ℕ) → counted (counted m + counted n) ≡ counted (m + n)
counted_sum m n = omega arith

-- the clusters of p and q became one
module _ (old new : LevelClusters) (p q kept gone : ℕ) (p_in : p < length old.labels) (q_in : q < length old.labels) (kept_is : label_of old p ≡ kept) (gone_is : label_of old q ≡ gone) (apart : kept ≢ gone)
    (long : length new.labels ≡ length old.labels)
    (relabeled : (x : ℕ) → x < length old.labels → label_of new x ≡ cond (label_of old x == gone) kept (label_of old x))
    (row : (j : ℕ) → j < length old.labels → j ≢ kept → j ≢ gone → tally new.tallies kept j ≡ counted (tally old.tallies kept j + tally old.tallies gone j))
    (column : (j : ℕ) → j < length old.labels → j ≢ kept → j ≢ gone → tally new.tallies j kept ≡ counted (tally old.tallies j kept + tally old.tallies j gone))
    (others : (i j : ℕ) → i < length old.labels → j < length old.labels → i ≢ kept → j ≢ kept → tally new.tallies i j ≡ tally old.tallies i j)
    (are_labels : (x : ℕ) → x < length old.labels → label_of old x < length old.labels)
    (so_far : List (ℕ × ℕ)) (on : AreOn (length old.labels) so_far) (are : AreTallied old so_far) where
  -- a trace whose label isn't the one that is kept has the label that it had
  same_label : (x : ℕ) → x < length old.labels → label_of new x ≢ kept → label_of new x ≡ label_of old x
  same_label x x_in away = elim (cases_eq (label_of old x) gone) [
    | inl same ↦ absurd (away (moved_label gone kept apart (label_of old x) (label_of new x) (relabeled x x_in) same))
    | inr other ↦ kept_label gone kept apart (label_of old x) (label_of new x) (relabeled x x_in) other
  ]

  not_gone : (x : ℕ) → x < length old.labels → label_of new x ≢ gone
  not_gone x x_in here = eqb-false gone (label_of new x) (gone_label gone kept apart (label_of old x) (label_of new x) (relabeled x x_in)) (sym here)

  -- a third cluster and the one that two became
  third : (x c : ℕ) → x < length old.labels → label_of old x ≡ c → c ≢ kept → c ≢ gone
      → (tally new.tallies kept c ≡ counted (joined_by new.labels kept c so_far)) × (tally new.tallies c kept ≡ counted (joined_by new.labels c kept so_far))
  third x c x_in is not_kept away =
      let c_in : c < length old.labels = omega (arith, is, are_labels x x_in) in
      let sum = joined_sum gone kept apart old.labels new.labels (length old.labels) relabeled c not_kept away so_far on in
      let back = joined_swapped new.labels kept c so_far (λ same. not_kept (sym same)) in
      let kept_back = joined_swapped old.labels kept c so_far (λ same. not_kept (sym same)) in
      let gone_back = joined_swapped old.labels gone c so_far (λ same. away (sym same)) in
      let one = tallied_as old so_far are p x kept c p_in x_in kept_is is (λ same. not_kept (sym same)) in
      let two = tallied_as old so_far are q x gone c q_in x_in gone_is is (λ same. away (sym same)) in
      let three = tallied_as old so_far are x p c kept x_in p_in is kept_is not_kept in
      let four = tallied_as old so_far are x q c gone x_in q_in is gone_is away in (
        row c c_in not_kept away ∙ (ap (λ n. counted (n + tally old.tallies gone c)) one ∙ (ap (λ n. counted (counted (joined_by old.labels kept c so_far) + n)) two
            ∙ (counted_sum (joined_by old.labels kept c so_far) (joined_by old.labels gone c so_far) ∙ ap (λ n. counted n) (sym sum)))),
        column c c_in not_kept away ∙ (ap (λ n. counted (n + tally old.tallies c gone)) three ∙ (ap (λ n. counted (counted (joined_by old.labels c kept so_far) + n)) four
            ∙ (counted_sum (joined_by old.labels c kept so_far) (joined_by old.labels c gone so_far) ∙ (ap (λ n. counted n) (omega (arith, sum, back, kept_back, gone_back)))))),
      )

  pub tallied_merged : AreTallied new so_far
  tallied_merged = record { tallied = λ x y x_in y_in away. at x y (omega (arith, x_in, long)) (omega (arith, y_in, long)) (eqb-false (label_of new x) (label_of new y) away) }
    where
      at : (x y : ℕ) → x < length old.labels → y < length old.labels → label_of new x ≢ label_of new y → tally new.tallies (label_of new x) (label_of new y) ≡ counted (joined_by new.labels (label_of new x) (label_of new y) so_far)
      at x y x_in y_in away = elim (cases_eq (label_of new x) kept) [
        | inl first ↦
            let not_kept : label_of new y ≢ kept = λ here. away (first ∙ sym here) in
            let says = (third y (label_of new y) y_in (sym (same_label y y_in not_kept)) not_kept (not_gone y y_in)).0 in
            subst (λ n. tally new.tallies n (label_of new y) ≡ counted (joined_by new.labels n (label_of new y) so_far)) (sym first) says
        | inr not_first ↦ elim (cases_eq (label_of new y) kept) [
          | inl second ↦
              let says = (third x (label_of new x) x_in (sym (same_label x x_in not_first)) not_first (not_gone x x_in)).1 in
              subst (λ n. tally new.tallies (label_of new x) n ≡ counted (joined_by new.labels (label_of new x) n so_far)) (sym second) says
          | inr not_second ↦
              let x_is = same_label x x_in not_first in
              let y_is = same_label y y_in not_second in
              others (label_of new x) (label_of new y) (omega (arith, x_is, are_labels x x_in)) (omega (arith, y_is, are_labels y y_in)) not_first not_second
              ∙ (tallied_as old so_far are x y (label_of new x) (label_of new y) x_in y_in (sym x_is) (sym y_is) away
              ∙ ap (λ n. counted n) (sym (joined_kept gone kept apart old.labels new.labels (length old.labels) relabeled (label_of new x) (label_of new y) not_first (not_gone x x_in) not_second (not_gone y y_in) so_far on)))
        ]
      ]

counted_more : (n : ℕ) → counted (counted n + 1) ≡ counted (n + 1)
counted_more n = omega arith

cases_both : (a x b y : ℕ) → ((a ≡ x) × (b ≡ y)) ⊎ (a ≡ x → b ≡ y → ⊥)
cases_both a x b y = elim (cases_eq a x) [
  | inl here ↦ elim (cases_eq b y) [ inl there ↦ inl (here, there) | inr away ↦ inr (λ one other. away other) ]
  | inr away ↦ inr (λ one other. away one)
]

-- a communication of p and q came
module _ (old new : LevelClusters) (p q first second : ℕ) (first_is : label_of old p ≡ first) (second_is : label_of old q ≡ second) (p_in : p < length old.labels) (q_in : q < length old.labels)
    (same : new.labels ≡ old.labels)
    (are_labels : (x : ℕ) → x < length old.labels → label_of old x < length old.labels) where
  -- within a cluster nothing joins two
  joins_none : (a b : ℕ) → a ≢ b → first ≡ second → joins_by old.labels a b (p, q) ≡ false
  joins_none a b apart one = or_from _ _ (neither (label_of old p) (label_of old q) (first_is ∙ (one ∙ sym second_is))) (neither (label_of old q) (label_of old p) (second_is ∙ (sym one ∙ sym first_is)))
    where
      neither : (x y : ℕ) → x ≡ y → ((a == x) && (b == y)) ≡ false
      neither x y is = elim (cases_eq a x) [
        | inl here ↦ and_right (a == x) (b == y) (ne_eqb b y (λ there. apart (here ∙ (is ∙ sym there))))
        | inr away ↦ and_left (a == x) (b == y) (ne_eqb a x away)
      ]

  joins_no : (a b : ℕ) → (a ≡ first → b ≡ second → ⊥) → (a ≡ second → b ≡ first → ⊥) → joins_by old.labels a b (p, q) ≡ false
  joins_no a b not_so nor = or_from _ _ (neither (label_of old p) (label_of old q) (λ x y. not_so (x ∙ first_is) (y ∙ second_is))) (neither (label_of old q) (label_of old p) (λ x y. nor (x ∙ second_is) (y ∙ first_is)))
    where
      neither : (x y : ℕ) → (a ≡ x → b ≡ y → ⊥) → ((a == x) && (b == y)) ≡ false
      neither x y not_both = elim (cases_eq a x) [
        | inl here ↦ and_right (a == x) (b == y) (ne_eqb b y (λ there. not_both here there))
        | inr away ↦ and_left (a == x) (b == y) (ne_eqb a x away)
      ]

  -- what the tallies have to say of two labels
  Says : List (ℕ × ℕ) → Type 0
  Says so_far = (a b : ℕ) → a < length old.labels → b < length old.labels → a ≢ b → (tally old.tallies a b ≡ counted (joined_by old.labels a b so_far)) → tally new.tallies a b ≡ counted (joined_by old.labels a b ((p, q) ∷ so_far))

  carried : (so_far : List (ℕ × ℕ)) → ((a b : ℕ) → a < length old.labels → b < length old.labels → a ≢ b → (tally old.tallies a b ≡ counted (joined_by old.labels a b so_far)) → tally new.tallies a b ≡ counted (joined_by old.labels a b ((p, q) ∷ so_far)))
      → AreTallied old so_far → AreTallied new ((p, q) ∷ so_far)
  carried so_far says are = record {
    tallied = λ x y x_in y_in away.
        let long : length new.labels ≡ length old.labels = ap (λ (labels : List ℕ). length labels) same in
        let x_old : x < length old.labels = omega (arith, x_in, long) in
        let y_old : y < length old.labels = omega (arith, y_in, long) in
        let away_old : label_of old x ≢ label_of old y = eqb-false (label_of old x) (label_of old y) (subst (λ (labels : List ℕ). (get_or labels x 0 == get_or labels y 0) ≡ false) same away) in
        subst (λ (labels : List ℕ). tally new.tallies (get_or labels x 0) (get_or labels y 0) ≡ counted (joined_by labels (get_or labels x 0) (get_or labels y 0) ((p, q) ∷ so_far))) (sym same)
        (says (label_of old x) (label_of old y) (are_labels x x_old) (are_labels y y_old) away_old
        (tallied_as old so_far are x y (label_of old x) (label_of old y) x_old y_old refl refl away_old));
  }

  pub tallied_within : first ≡ second → ((a b : ℕ) → tally new.tallies a b ≡ tally old.tallies a b) → (so_far : List (ℕ × ℕ)) → AreTallied old so_far → AreTallied new ((p, q) ∷ so_far)
  tallied_within one unchanged so_far = carried so_far (λ a b a_in b_in apart said.
      let none : ◌≡◌ {A = ℕ} (cond (joins_by old.labels a b (p, q)) 1 0) 0 = ap (λ (v : Bool). cond v 1 0) (joins_none a b apart one) in
      let more = count_by-cons (joins_by old.labels a b) (p, q) so_far in
      unchanged a b ∙ (said ∙ ap (λ n. counted n) (omega (arith, none, more))))

  pub tallied_more : first ≢ second
      → tally new.tallies first second ≡ counted (tally old.tallies first second + 1)
      → tally new.tallies second first ≡ counted (tally old.tallies second first + 1)
      → ((a b : ℕ) → a < length old.labels → b < length old.labels → (a ≡ first → b ≡ second → ⊥) → (a ≡ second → b ≡ first → ⊥) → tally new.tallies a b ≡ tally old.tallies a b)
      → (so_far : List (ℕ × ℕ)) → AreTallied old so_far → AreTallied new ((p, q) ∷ so_far)
  tallied_more away forth back others so_far = carried so_far (λ a b a_in b_in apart said.
      let more = count_by-cons (joins_by old.labels a b) (p, q) so_far in
      elim (cases_both a first b second) [
        | inl both ↦
            let joins : joins_by old.labels a b (p, q) ≡ true = or_left _ _ (and_from _ _ (eq-eqb a (label_of old p) (both.0 ∙ sym first_is)) (eq-eqb b (label_of old q) (both.1 ∙ sym second_is))) in
            let one : ◌≡◌ {A = ℕ} (cond (joins_by old.labels a b (p, q)) 1 0) 1 = ap (λ (v : Bool). cond v 1 0) joins in
            ap (λ n. tally new.tallies n b) both.0 ∙ (ap (λ n. tally new.tallies first n) both.1 ∙ (forth ∙ (ap (λ n. counted (tally old.tallies n second + 1)) (sym both.0) ∙ (ap (λ n. counted (tally old.tallies a n + 1)) (sym both.1)
            ∙ (ap (λ n. counted (n + 1)) said ∙ (counted_more (joined_by old.labels a b so_far) ∙ ap (λ n. counted n) (omega (arith, one, more))))))))
        | inr not_forth ↦ elim (cases_both a second b first) [
          | inl both ↦
              let joins : joins_by old.labels a b (p, q) ≡ true = or_right _ _ (and_from _ _ (eq-eqb a (label_of old q) (both.0 ∙ sym second_is)) (eq-eqb b (label_of old p) (both.1 ∙ sym first_is))) in
              let one : ◌≡◌ {A = ℕ} (cond (joins_by old.labels a b (p, q)) 1 0) 1 = ap (λ (v : Bool). cond v 1 0) joins in
              ap (λ n. tally new.tallies n b) both.0 ∙ (ap (λ n. tally new.tallies second n) both.1 ∙ (back ∙ (ap (λ n. counted (tally old.tallies n first + 1)) (sym both.0) ∙ (ap (λ n. counted (tally old.tallies a n + 1)) (sym both.1)
              ∙ (ap (λ n. counted (n + 1)) said ∙ (counted_more (joined_by old.labels a b so_far) ∙ ap (λ n. counted n) (omega (arith, one, more))))))))
          | inr not_back ↦
              let none : ◌≡◌ {A = ℕ} (cond (joins_by old.labels a b (p, q)) 1 0) 0 = ap (λ (v : Bool). cond v 1 0) (joins_no a b not_forth not_back) in
              others a b a_in b_in not_forth not_back ∙ (said ∙ ap (λ n. counted n) (omega (arith, none, more)))
        ]
      ])

-- what is seen of labels and tallies
abbrev pub viewed : List ℕ → TallyTable → LevelClusters
viewed labels tallies = record { labels = labels; tallies = tallies }

-- The labels that a merge writes.
pub record IsWritten (labels got new : List ℕ) (len kept gone : ℕ) : Type 0 where
  pub full : len ≡ length labels
  pub was : got ≡ labels
  pub as_long : length new ≡ length got
  pub relabeled : (x : ℕ) → x < length got → get_or new x 0 ≡ cond (get_or got x 0 == gone) kept (get_or got x 0)

-- the labels as they are written
abbrev pub refilled : List ℕ → List ℕ → ℕ → List ℕ
refilled labels new len = take len (new ++ drop (length new) labels)

long_as : (labels got new : List ℕ) (len kept gone : ℕ) → IsWritten labels got new len kept gone → length new ≡ length labels
long_as labels got new len kept gone wrote = wrote.as_long ∙ ap (λ (xs : List ℕ). length xs) wrote.was

refilled_is : (labels got new : List ℕ) (len kept gone : ℕ) → IsWritten labels got new len kept gone → refilled labels new len ≡ new
refilled_is labels got new len kept gone wrote = ap (λ n. take n (new ++ drop (length new) labels)) (wrote.full ∙ sym (long_as labels got new len kept gone wrote)) ∙ take-append_seam new (drop (length new) labels)

relabeled_as : (labels got new : List ℕ) (len kept gone : ℕ) → IsWritten labels got new len kept gone → (x : ℕ) → x < length labels → get_or new x 0 ≡ cond (get_or labels x 0 == gone) kept (get_or labels x 0)
relabeled_as labels got new len kept gone wrote = subst (λ (xs : List ℕ). (x : ℕ) → x < length xs → get_or new x 0 ≡ cond (get_or xs x 0 == gone) kept (get_or xs x 0)) wrote.was wrote.relabeled

-- The labels and the sizes that a merge reads.
pub record IsRead (labels sizes : List ℕ) (p q kept gone kept_size gone_size : ℕ) : Type 0 where
  pub p_in : p < length labels
  pub q_in : q < length labels
  pub kept_is : get_or labels p 0 ≡ kept
  pub gone_is : get_or labels q 0 ≡ gone
  pub kept_in : kept < length labels
  pub gone_in : gone < length labels
  pub apart : kept ≢ gone
  pub kept_size_is : get_or sizes kept 0 ≡ kept_size
  pub gone_size_is : get_or sizes gone 0 ≡ gone_size

pub reads : (labels sizes : List ℕ) (tallies : TallyTable) (value : LevelClusters) (p q kept gone kept_size gone_size : ℕ) → AreClusters labels sizes tallies.width → viewed labels tallies ≡ value
    → p < length value.labels → q < length value.labels → shares value p q ≡ false
    → kept ≡ get_or labels p kept → gone ≡ get_or labels q gone → kept_size ≡ get_or sizes kept kept_size → gone_size ≡ get_or sizes gone gone_size → IsRead labels sizes p q kept gone kept_size gone_size
reads labels sizes tallies value p q kept gone kept_size gone_size are is p_inside q_inside away kept_read gone_read kept_size_read gone_size_read =
    let long = ap (λ (clusters : LevelClusters). length clusters.labels) is in
    let p_in : p < length labels = omega (arith, p_inside, long) in
    let q_in : q < length labels = omega (arith, q_inside, long) in
    let apart = subst (λ (clusters : LevelClusters). shares clusters p q ≡ false) (sym is) away in
    let kept_is = sym (kept_read ∙ get_or_default_zero labels p kept p_in) in
    let gone_is = sym (gone_read ∙ get_or_default_zero labels q gone q_in) in
    let kept_in : kept < length labels = omega (arith, kept_is, are.are_labels p p_in) in
    let gone_in : gone < length labels = omega (arith, gone_is, are.are_labels q q_in) in
    let kept_place : kept < length sizes = omega (arith, kept_in, are.long) in
    let gone_place : gone < length sizes = omega (arith, gone_in, are.long) in
    record {
      p_in = p_in;
      q_in = q_in;
      kept_is = kept_is;
      gone_is = gone_is;
      kept_in = kept_in;
      gone_in = gone_in;
      apart = λ same. eqb-false (get_or labels p 0) (get_or labels q 0) apart (kept_is ∙ (same ∙ sym gone_is));
      kept_size_is = sym (kept_size_read ∙ get_or_default_zero sizes kept kept_size kept_place);
      gone_size_is = sym (gone_size_read ∙ get_or_default_zero sizes gone gone_size gone_place);
    }

-- the sizes that are read have a sum
pub read_sum : (labels sizes : List ℕ) (width p q kept gone kept_size gone_size : ℕ) → AreClusters labels sizes width → IsRead labels sizes p q kept gone kept_size gone_size → kept_size + gone_size ≤ 512
read_sum labels sizes width p q kept gone kept_size gone_size are read =
    let few = sum_few labels sizes width kept gone are read.kept_in read.gone_in read.apart in
    omega (arith, few, read.kept_size_is, read.gone_size_is)

-- what a merge leaves
pub read_merged : (labels sizes got new : List ℕ) (len width p q kept gone kept_size gone_size : ℕ) → AreClusters labels sizes width → IsRead labels sizes p q kept gone kept_size gone_size → IsWritten labels got new len kept gone
    → AreClusters (refilled labels new len) (set (set sizes kept (kept_size + gone_size)) gone 0) width
read_merged labels sizes got new len width p q kept gone kept_size gone_size are read wrote =
    let merged = clusters_merged labels sizes width kept gone are read.kept_in read.gone_in read.apart new (long_as labels got new len kept gone wrote) (relabeled_as labels got new len kept gone wrote) in
    let one = subst (λ n. AreClusters new (set (set sizes kept (n + get_or sizes gone 0)) gone 0) width) read.kept_size_is merged in
    let both = subst (λ n. AreClusters new (set (set sizes kept (kept_size + n)) gone 0) width) read.gone_size_is one in
    subst (λ (xs : List ℕ). AreClusters xs (set (set sizes kept (kept_size + gone_size)) gone 0) width) (sym (refilled_is labels got new len kept gone wrote)) both

-- the two clusters are one
pub read_joined : (labels sizes got new : List ℕ) (tallies table : TallyTable) (value : LevelClusters) (len p q kept gone kept_size gone_size : ℕ) → viewed labels tallies ≡ value → table.width ≡ tallies.width
    → IsRead labels sizes p q kept gone kept_size gone_size → IsWritten labels got new len kept gone → AreJoined value (viewed (refilled labels new len) table) p q
read_joined labels sizes got new tallies table value len p q kept gone kept_size gone_size is wide read wrote =
    let says : AreJoined (viewed labels tallies) (viewed new table) p q = record {
      traces = long_as labels got new len kept gone wrote;
      width = wide;
      joined = λ x x_in. subst (λ g. get_or new x 0 ≡ cond (get_or labels x 0 == g) (get_or labels p 0) (get_or labels x 0)) (sym read.gone_is)
          (subst (λ k. get_or new x 0 ≡ cond (get_or labels x 0 == gone) k (get_or labels x 0)) (sym read.kept_is) (relabeled_as labels got new len kept gone wrote x x_in));
    } in
    subst (λ (old : LevelClusters). AreJoined old (viewed (refilled labels new len) table) p q) is
    (subst (λ (xs : List ℕ). AreJoined (viewed labels tallies) (viewed xs table) p q) (sym (refilled_is labels got new len kept gone wrote)) says)

-- the tallies are those of the clusters that a merge leaves
pub read_tallied : (labels sizes got new : List ℕ) (tallies table : TallyTable) (value : LevelClusters) (len p q kept gone kept_size gone_size : ℕ) → AreClusters labels sizes tallies.width → viewed labels tallies ≡ value
    → IsRead labels sizes p q kept gone kept_size gone_size → IsWritten labels got new len kept gone
    → ((j : ℕ) → j < tallies.width → j ≢ kept → j ≢ gone → tally table kept j ≡ counted (tally tallies kept j + tally tallies gone j))
    → ((j : ℕ) → j < tallies.width → j ≢ kept → j ≢ gone → tally table j kept ≡ counted (tally tallies j kept + tally tallies j gone))
    → ((i j : ℕ) → i < tallies.width → j < tallies.width → i ≢ kept → j ≢ kept → tally table i j ≡ tally tallies i j)
    → (so_far : List (ℕ × ℕ)) → AreOn (length value.labels) so_far → 0 < value.tallies.width → AreTallied value so_far → AreTallied (viewed (refilled labels new len) table) so_far
read_tallied labels sizes got new tallies table value len p q kept gone kept_size gone_size are is read wrote row column others so_far =
    subst (λ (old : LevelClusters). AreOn (length old.labels) so_far → 0 < old.tallies.width → AreTallied old so_far → AreTallied (viewed (refilled labels new len) table) so_far) is
    (λ on some said.
    let wide = are.wide some in
    subst (λ (xs : List ℕ). AreTallied (viewed xs table) so_far) (sym (refilled_is labels got new len kept gone wrote))
    (tallied_merged (viewed labels tallies) (viewed new table) p q kept gone read.p_in read.q_in read.kept_is read.gone_is read.apart (long_as labels got new len kept gone wrote) (relabeled_as labels got new len kept gone wrote)
    (λ j j_in. row j (omega (arith, j_in, wide))) (λ j j_in. column j (omega (arith, j_in, wide))) (λ i j i_in j_in. others i j (omega (arith, i_in, wide)) (omega (arith, j_in, wide))) are.are_labels so_far on said))

-- a communication of two labels
pub read_noted : (labels sizes : List ℕ) (tallies mid table : TallyTable) (value : LevelClusters) (p q first second : ℕ) → AreClusters labels sizes tallies.width → viewed labels tallies ≡ value → p < length value.labels → q < length value.labels → 0 < value.tallies.width
    → first ≡ get_or labels p first → second ≡ get_or labels q second → first ≢ second → mid.width ≡ tallies.width
    → tally mid first second ≡ counted (tally tallies first second + 1)
    → ((i j : ℕ) → i < tallies.width → j < tallies.width → (i ≡ first → j ≡ second → ⊥) → tally mid i j ≡ tally tallies i j)
    → tally table second first ≡ counted (tally mid second first + 1)
    → ((i j : ℕ) → i < mid.width → j < mid.width → (i ≡ second → j ≡ first → ⊥) → tally table i j ≡ tally mid i j)
    → (so_far : List (ℕ × ℕ)) → AreTallied value so_far → AreTallied (viewed labels table) ((p, q) ∷ so_far)
read_noted labels sizes tallies mid table value p q first second are is p_inside q_inside some first_read second_read apart same_width forth others back others_back so_far =
    let long = ap (λ (clusters : LevelClusters). length clusters.labels) is in
    let p_in : p < length labels = omega (arith, p_inside, long) in
    let q_in : q < length labels = omega (arith, q_inside, long) in
    let first_is = sym (first_read ∙ get_or_default_zero labels p first p_in) in
    let second_is = sym (second_read ∙ get_or_default_zero labels q second q_in) in
    let width_is = ap (λ (clusters : LevelClusters). clusters.tallies.width) is in
    let wide = are.wide (omega (arith, some, width_is)) in
    let first_in : first < tallies.width = omega (arith, first_is, are.are_labels p p_in, wide) in
    let second_in : second < tallies.width = omega (arith, second_is, are.are_labels q q_in, wide) in
    let forth_after = others_back first second (omega (arith, first_in, same_width)) (omega (arith, second_in, same_width)) (λ one other. apart one) ∙ forth in
    let before = others second first second_in first_in (λ one other. apart other) in
    let back_after = back ∙ ap (λ n. counted (n + 1)) before in
    subst (λ (old : LevelClusters). AreTallied old so_far → AreTallied (viewed labels table) ((p, q) ∷ so_far)) is
    (tallied_more (viewed labels tallies) (viewed labels table) p q first second first_is second_is p_in q_in refl are.are_labels apart forth_after back_after
    (λ a b a_in b_in not_forth not_back.
    let a_wide : a < tallies.width = omega (arith, a_in, wide) in
    let b_wide : b < tallies.width = omega (arith, b_in, wide) in
    others_back a b (omega (arith, a_wide, same_width)) (omega (arith, b_wide, same_width)) not_back ∙ others a b a_wide b_wide not_forth)
    so_far)

-- or of one label
pub read_within : (value : LevelClusters) (labels sizes : List ℕ) (tallies : TallyTable) (p q first second : ℕ) → AreClusters labels sizes tallies.width → viewed labels tallies ≡ value → p < length value.labels → q < length value.labels
    → first ≡ get_or labels p first → second ≡ get_or labels q second → first ≡ second → (so_far : List (ℕ × ℕ)) → AreTallied value so_far → AreTallied value ((p, q) ∷ so_far)
read_within value labels sizes tallies p q first second are is p_inside q_inside first_read second_read one so_far =
    let long = ap (λ (clusters : LevelClusters). length clusters.labels) is in
    let p_in : p < length labels = omega (arith, p_inside, long) in
    let q_in : q < length labels = omega (arith, q_inside, long) in
    let first_is = sym (first_read ∙ get_or_default_zero labels p first p_in) in
    let second_is = sym (second_read ∙ get_or_default_zero labels q second q_in) in
    subst (λ (old : LevelClusters). AreTallied old so_far → AreTallied old ((p, q) ∷ so_far)) is
    (tallied_within (viewed labels tallies) (viewed labels tallies) p q first second first_is second_is p_in q_in refl are.are_labels one (λ a b. refl) so_far)

-- each alone
pub alone_are_clusters : (labels sizes : List ℕ) (width traces : ℕ) → traces ≤ MOST_TRACES → length labels ≡ traces → ((x : ℕ) → x < traces → get_or labels x 0 ≡ x) → sizes ≡ replicate traces 1 → (0 < width → width ≡ traces) → AreClusters labels sizes width
alone_are_clusters labels sizes width traces few long own ones wide = record {
  few = omega (arith, few, long);
  are_labels = λ x within. omega (arith, own x (omega (arith, within, long)), within);
  long = ap (λ (xs : List ℕ). length xs) ones ∙ (length-replicate traces 1 ∙ sym long);
  are_sizes = λ label within.
      let inside : label < traces = omega (arith, within, long) in
      let one = ap (λ (xs : List ℕ). get_or xs label 0) ones ∙ get_or-replicate traces label 1 0 inside in
      let same = count_agree (λ x. label == get_or labels x 0) (λ x. label == x) (length labels) (λ x x_in. ap (λ n. label == n) (own x (omega (arith, x_in, long)))) in
      one ∙ sym (same ∙ count_one label (length labels) within);
  wide = λ some. wide some ∙ sym long;
}
