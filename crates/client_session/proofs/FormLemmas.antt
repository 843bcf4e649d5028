-- The first fault of a line's words.
use Rattle.std.proofs.Common.{◌≡◌, ◌≢◌, ℕ, inl, inr, List, [], ◌∷◌, ◌++◌, length, Bool, true, false, Option, Result, IfErr, refl, sym, ap, subst, ◌∙◌, arith}
use Rattle.std.specs.Prelude.{Contains, IsErrAnd, codes, ◌==◌}
use Rattle.std.specs.List.{AllByRecursion}
use Rattle.std.proofs.lemmas.Bool.{eqb-true, eqb-false}
use Rattle.std.proofs.lemmas.List.{append_cancel_left}
use Rattle.causal_base.specs.declared.event_id.EventId.{EventId}
use Rattle.causal_base.specs.declared.fields.IdFault.TheVariants as id_fault
use Rattle.causal_base.specs.Fields.{IsIdInRange, NamesNoNumber}
use Rattle.causal_base.specs.Refusals.{ArePassed, IsFirst, IsPassed, refuses}
use Rattle.causal_base.proofs.CallerLemmas.{Contains-here, Contains-there, fault_excludes, id_once}
use Rattle.client_session.specs.declared.own_words.CutWord.{CutWord}
use Rattle.client_session.specs.declared.own_words.CutWord.TheVariants as cut
use Rattle.client_session.specs.declared.own_words.FirstWord.{FirstWord}
use Rattle.client_session.specs.declared.script_error.ScriptCause.{ScriptCause}
use Rattle.client_session.specs.declared.script_error.ScriptCause.TheVariants.{BadNumber, NoCommand, NotInClosing, Shape}
use Rattle.client_session.specs.Scripts.{AnId, Argument, Form, IsWordsCause, IsWritten, arguments_faults, forms, id_faults, one_word}
use Rattle.client_session.specs.Words.{AreAllWords, AreOthers, HasWordsCause, IsBadShape, IsNextWord, IsWordBefore, LacksNextWord, behind, cut_arguments, cut_text, first_text, words_faults, written_faults}
use Rattle.client_session.proofs.Exits.{if_err_from}
use Rattle.client_session.proofs.Forms.{cut_form, cut_stands, first_of_form, forms_apart, one_form, second_of_cut}
use Rattle.client_session.proofs.WordLemmas.{next_is, none_empty, same_words, some_others}

-- an id of one of the traces with a bad number has no earlier fault
pub bad_number_first : (traces : ℕ) (word : List ℕ) → NamesNoNumber word traces → IsFirst (id_faults traces word) BadNumber
bad_number_first traces word fault = inr (
  (λ error no_id. no_id.0 fault.trace fault.number fault.is_id),
  inr (
    (λ error none. let other = none.0 in let same = id_once word fault.trace fault.number other.trace other.number fault.is_id other.is_id in let among = fault.among in let beyond = other.beyond in omega (arith, same.0, among, beyond)),
    inl (fault, refl),
  ),
)

-- an id in range has no fault
pub id_has_none : (traces : ℕ) (word : List ℕ) (id : EventId) → IsIdInRange word traces id → ArePassed (id_faults traces word)
id_has_none traces word id range = (
  (λ error bad. fault_excludes word traces id id_fault.BadId range bad.0),
  ((λ error bad. fault_excludes word traces id id_fault.NoTrace range bad.0), ((λ error bad. fault_excludes word traces id id_fault.BadNumber range bad.0), tt)),
)

-- so many words, none of them empty, are of the right shape
pub shape_passed : (bytes : List ℕ) (words : List (List ℕ)) → AreAllWords bytes words → IsPassed (refuses (IsBadShape (length words) words) Shape)
shape_passed bytes words all error bad = elim bad.0 [ inl other ↦ other refl | inr empty ↦ none_empty words all.some_each empty ]

-- and words of the right shape are so many, none of them empty
some_from : (words : List (List ℕ)) → (Contains words [] → ⊥) → AllByRecursion (λ word. word ≢ []) words
some_from [] none = tt
some_from (word ∷ words) none = (
  (λ empty. none (subst (λ w. Contains (w ∷ words) []) (sym empty) (Contains-here [] words))),
  some_from words (λ there. none (Contains-there word words [] there)),
)

as_many_from : (m n : ℕ) (is : Bool) → (m == n) ≡ is → (m ≢ n → ⊥) → m ≡ n
as_many_from m n true is not_other = eqb-true m n is
as_many_from m n false is not_other = absurd (not_other (eqb-false m n is))

-- the first fault of all words is that of the arguments, whichever words they are
pub words_fault : (traces : ℕ) (arguments : List Argument) (bytes : List ℕ) (words : List (List ℕ)) (cause : ScriptCause) → length words ≡ length arguments → AreAllWords bytes words
    → IsFirst (arguments_faults traces arguments words) cause → (others : List (List ℕ)) → AreOthers bytes others → IsFirst (words_faults traces arguments others) cause
words_fault traces arguments bytes words cause many all first others are =
    subst (λ ws. IsFirst (words_faults traces arguments ws) cause) (same_words bytes words others all are)
    (inr (subst (λ n. IsPassed (refuses (IsBadShape n words) Shape)) many (shape_passed bytes words all), first))

-- and so it is of a form that may stand in the script
pub form_fault : (traces : ℕ) (closing : Bool) (form : Form) (words : List (List ℕ)) (cause : ScriptCause) → ((closing ≡ true) × (form.first ≡ codes "stamp") → ⊥)
    → IsFirst (words_faults traces form.arguments words) cause → IsFirst (written_faults traces closing form words) cause
form_fault traces closing form words cause may (inl shape) = inl shape
form_fault traces closing form words cause may (inr first) = inr (first.0, inr ((λ error stamp. may stamp.0), first.1))

-- a stamp in a closing script, whichever words stand behind it
pub closing_fault : (traces : ℕ) (closing : Bool) (bytes : List ℕ) (word : List ℕ) → closing ≡ true → AreAllWords bytes (word ∷ [])
    → (others : List (List ℕ)) → AreOthers bytes others → IsFirst (written_faults traces closing (one_word (codes "stamp") (AnId ∷ [])) others) NotInClosing
closing_fault traces closing bytes word closes all others are =
    subst (λ ws. IsFirst (written_faults traces closing (one_word (codes "stamp") (AnId ∷ [])) ws) NotInClosing) (same_words bytes (word ∷ []) others all are)
    (inr (shape_passed bytes (word ∷ []) all, inl ((closes, refl), refl)))

-- words of the wrong shape for a form are written in none
in_no_form : (form : Form) (words : List (List ℕ)) → Contains forms form → IsBadShape (length form.arguments) words
    → (other : Form) (arguments : List (List ℕ)) → Contains forms other → IsWritten other form.first (form.second ++ words) arguments → ⊥
in_no_form form words stands bad other arguments has written =
    let same : form ≡ other = one_form forms forms_apart form other stands has words arguments written.first_is written.others_are in
    let its : IsWritten form form.first (form.second ++ words) arguments = subst (λ f. IsWritten f form.first (form.second ++ words) arguments) (sym same) written in
    let words_are : words ≡ arguments = append_cancel_left form.second words arguments its.others_are in
    elim bad [
      | inl other_many ↦ other_many (ap length words_are ∙ its.as_many)
      | inr empty ↦ none_empty arguments its.some_each (subst (λ ws. Contains ws []) words_are empty)
    ]

-- the first fault of the words behind those of a form's own is what is wrong with the line
pub form_cause : (traces : ℕ) (closing : Bool) (form : Form) (words : List (List ℕ)) (cause : ScriptCause) → Contains forms form
    → IsFirst (written_faults traces closing form words) cause → IsWordsCause traces closing form.first (form.second ++ words) cause
form_cause traces closing form words cause stands (inl shape) = inr (inl ((form, stands, refl), in_no_form form words stands shape.0, shape.1))
form_cause traces closing form words cause stands (inr first) =
    let right = first.0 in
    inr (inr (
      form,
      words,
      stands,
      record {
        first_is = refl;
        others_are = refl;
        as_many = as_many_from (length words) (length form.arguments) (length words == length form.arguments) refl (λ other. right Shape (inl other, refl));
        some_each = some_from words (λ empty. right Shape (inr empty, refl));
      },
      first.1,
    ))

-- the words of a line are wrong as those behind its first word are
pub line_cause : (traces : ℕ) (closing : Bool) (line first word : List ℕ) (others : Option (List ℕ)) (cause : ScriptCause) → IsWordBefore line first (behind others) → first ≡ word
    → ((words : List (List ℕ)) → AreOthers (behind others) words → IsWordsCause traces closing word words cause) → HasWordsCause traces closing line cause
line_cause traces closing line first word others cause before is wrong =
    let words = some_others others in (
      first,
      words.0,
      record {
        whole = before.whole ∙ ap (λ rest. first ++ rest) words.1.whole;
        one_word = before.one_word;
        one_word_each = words.1.one_word_each;
      },
      subst (λ w. IsWordsCause traces closing w words.0 cause) (sym is) (wrong words.0 words.1),
    )

-- a word that no command has first
pub no_command : (traces : ℕ) (closing : Bool) (word : List ℕ) (words : List (List ℕ)) → ((first : FirstWord) → word ≢ first_text first) → IsWordsCause traces closing word words NoCommand
no_command traces closing word words none = inl ((λ form has is. let first = first_of_form form has in none first.0 (is ∙ first.1)), refl)

-- words behind `cut` of which the first is none of its second words
no_cut : (traces : ℕ) (closing : Bool) (words : List (List ℕ)) → ((second : CutWord) (rest : List (List ℕ)) → words ≡ cut_text second ∷ rest → ⊥) → IsWordsCause traces closing (codes "cut") words Shape
no_cut traces closing words none = inr (inl (
  (cut_form cut.None, cut_stands cut.None, refl),
  (λ form arguments has written. let second = second_of_cut form has (sym written.first_is) in none second.0 arguments (written.others_are ∙ ap (λ own. own ++ arguments) second.1)),
  refl,
))

cut_some : (second : CutWord) → cut_text second ≢ []
cut_some cut.None empty = absurd cc
cut_some cut.All empty = absurd cc
cut_some cut.To empty = absurd cc
cut_some cut.Back empty = absurd cc
cut_some cut.Has empty = absurd cc

module _ (traces : ℕ) (closing : Bool) (bytes : List ℕ) where
  -- no next word behind `cut`
  pub cut_lacks : LacksNextWord bytes → (words : List (List ℕ)) → AreOthers bytes words → IsWordsCause traces closing (codes "cut") words Shape
  cut_lacks lacks words are = no_cut traces closing words (λ second rest is. elim (lacks words are) [
    | inl none ↦ absurd (let clash : [] ≡ cut_text second ∷ rest = sym none ∙ is in cc)
    | inr empty ↦ let same : [] ∷ empty.0 ≡ cut_text second ∷ rest = sym empty.1 ∙ is in let first : [] ≡ cut_text second = cc in cut_some second (sym first)
  ])

  module _ (word : List ℕ) (rest : Option (List ℕ)) (next : IsNextWord bytes word (behind rest)) where
    -- a next word that is none of the second words
    pub cut_unknown : ((second : CutWord) → word ≢ cut_text second) → (words : List (List ℕ)) → AreOthers bytes words → IsWordsCause traces closing (codes "cut") words Shape
    cut_unknown none words are =
        let parts = next_is bytes word rest words next are in
        no_cut traces closing words (λ second more is. let same : word ∷ parts.0 ≡ cut_text second ∷ more = sym parts.1 ∙ is in let first : word ≡ cut_text second = cc in none second first)

    -- one that is, with a fault behind it
    pub cut_cause : (second : CutWord) (cause : ScriptCause) → word ≡ cut_text second → ((words : List (List ℕ)) → AreOthers (behind rest) words → IsFirst (words_faults traces (cut_arguments second) words) cause)
        → (words : List (List ℕ)) → AreOthers bytes words → IsWordsCause traces closing (codes "cut") words cause
    cut_cause second cause is wrong words are =
        let parts = next_is bytes word rest words next are in
        let same : words ≡ cut_text second ∷ parts.0 = parts.1 ∙ ap (λ w. w ∷ parts.0) is in
        subst (λ ws. IsWordsCause traces closing (codes "cut") ws cause) (sym same)
        (form_cause traces closing (cut_form second) parts.0 cause (cut_stands second) (form_fault traces closing (cut_form second) parts.0 cause (λ both. let other = both.1 in cc) (wrong parts.0 parts.2)))

-- an error that goes on to the caller, for what is wrong with the words behind a first word
pub first_exit : {T : Type 0} (traces : ℕ) (closing : Bool) (bytes : List ℕ) (result : Result T ScriptCause) (cause : ScriptCause) (first its : FirstWord) (arguments : List Argument)
    → IsErrAnd result (λ error. error ≡ cause) → first ≡ its → Contains forms (one_word (first_text its) arguments)
    → ((words : List (List ℕ)) → AreOthers bytes words → IsFirst (written_faults traces closing (one_word (first_text its) arguments) words) cause)
    → IfErr result (λ error. (words : List (List ℕ)) → AreOthers bytes words → IsWordsCause traces closing (first_text first) words error)
first_exit traces closing bytes result cause first its arguments was is stands wrong =
    if_err_from (λ error. (words : List (List ℕ)) → AreOthers bytes words → IsWordsCause traces closing (first_text first) words error) result cause was
    (subst (λ word. (words : List (List ℕ)) → AreOthers bytes words → IsWordsCause traces closing (first_text word) words cause) (sym is)
    (λ words are. form_cause traces closing (one_word (first_text its) arguments) words cause stands (wrong words are)))

-- the same, where it may stand in a closing script
pub plain_exit : {T : Type 0} (traces : ℕ) (closing : Bool) (bytes : List ℕ) (result : Result T ScriptCause) (cause : ScriptCause) (first its : FirstWord) (arguments : List Argument)
    → IsErrAnd result (λ error. error ≡ cause) → first ≡ its → Contains forms (one_word (first_text its) arguments) → first_text its ≢ codes "stamp"
    → ((words : List (List ℕ)) → AreOthers bytes words → IsFirst (words_faults traces arguments words) cause)
    → IfErr result (λ error. (words : List (List ℕ)) → AreOthers bytes words → IsWordsCause traces closing (first_text first) words error)
plain_exit traces closing bytes result cause first its arguments was is stands no_stamp wrong =
    first_exit traces closing bytes result cause first its arguments was is stands
    (λ words are. form_fault traces closing (one_word (first_text its) arguments) words cause (λ both. no_stamp both.1) (wrong words are))

-- the same, for what is wrong with the words behind a second word
pub cut_exit : {T : Type 0} (traces : ℕ) (bytes : List ℕ) (result : Result T ScriptCause) (cause : ScriptCause) (second its : CutWord) → IsErrAnd result (λ error. error ≡ cause) → second ≡ its
    → ((words : List (List ℕ)) → AreOthers bytes words → IsFirst (words_faults traces (cut_arguments its) words) cause)
    → IfErr result (λ error. (words : List (List ℕ)) → AreOthers bytes words → IsFirst (words_faults traces (cut_arguments second) words) error)
cut_exit traces bytes result cause second its was is wrong =
    if_err_from (λ error. (words : List (List ℕ)) → AreOthers bytes words → IsFirst (words_faults traces (cut_arguments second) words) error) result cause was
    (subst (λ word. (words : List (List ℕ)) → AreOthers bytes words → IsFirst (words_faults traces (cut_arguments word) words) cause) (sym is) wrong)
