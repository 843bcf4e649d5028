-- A line is words in one way.
use Rattle.std.proofs.Common.{◌≡◌, ℕ, List, [], ◌∷◌, ◌++◌, refl, sym, ◌∙◌, append-nil}
use Rattle.std.specs.List.{AllByRecursion, flat_map}
use Rattle.causal_base.proofs.CallerLemmas.{has_none, split_in_one_way}
use Rattle.client_session.specs.Scripts.{AreWords, IsOneWord}

-- words, each behind a space
abbrev pub each_behind : List (List ℕ) → List ℕ
each_behind words = flat_map (λ word. 32 ∷ word) words

-- a word and those behind it are parted in one way
parted_once : (first other : List ℕ) (words others : List (List ℕ)) → IsOneWord first → IsOneWord other → AllByRecursion IsOneWord words → AllByRecursion IsOneWord others
    → first ++ each_behind words ≡ other ++ each_behind others → (first ≡ other) × (words ≡ others)
parted_once first other [] [] one also ones alsos same = (sym (append-nil first) ∙ (same ∙ append-nil other), refl)
parted_once first other [] (w ∷ others) one also ones alsos same = absurd (has_none 32 first other (w ++ each_behind others) one (sym (append-nil first) ∙ same))
parted_once first other (v ∷ words) [] one also ones alsos same = absurd (has_none 32 other first (v ++ each_behind words) also (sym (append-nil other) ∙ sym same))
parted_once first other (v ∷ words) (w ∷ others) one also ones alsos same =
    let parts : (first ≡ other) × (v ++ each_behind words ≡ w ++ each_behind others) = split_in_one_way 32 (first ++ 32 ∷ (v ++ each_behind words)) first (v ++ each_behind words) other (w ++ each_behind others)
    (record { whole = refl; first = one }) (record { whole = same; first = also }) in
    let later : (v ≡ w) × (words ≡ others) = parted_once v w words others ones.0 alsos.0 ones.1 alsos.1 parts.1 in
    (parts.0, let head : v ≡ w = later.0 in let tail : words ≡ others = later.1 in cc)

pub words_once : (line first other : List ℕ) (words others : List (List ℕ)) → AreWords line first words → AreWords line other others → (first ≡ other) × (words ≡ others)
words_once line first other words others are also =
    parted_once first other words others are.one_word also.one_word are.one_word_each also.one_word_each (sym are.whole ∙ also.whole)
