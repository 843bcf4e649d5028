-- What is wrong with a line is one cause.
use Rattle.std.proofs.Common.{◌≡◌, ℕ, inl, inr, Bool, List, [], ◌∷◌, sym, subst, ◌∙◌, arith}
use Rattle.causal_base.specs.Refusals.{IsFirst}
use Rattle.causal_base.proofs.CallerLemmas.{has_none, passed_first, split_in_one_way}
use Rattle.client_session.specs.declared.script_error.ScriptCause.{ScriptCause}
use Rattle.client_session.specs.Scripts.{Argument, AnId, ATrace, Form, IsLineCause, IsRestCause, IsWordsCause, argument_faults, arguments_faults, form_faults, line_faults}
use Rattle.file_laws.proofs.FirstOnce.{HaveOneError, first_once, one_of_both}
use Rattle.file_laws.proofs.FormsOnce.{form_once}
use Rattle.file_laws.proofs.WordsOnce.{words_once}

-- each fault of an argument has one cause, and so has each of a form, and of a line
argument_causes : (traces : ℕ) (argument : Argument) (word : List ℕ) → HaveOneError (argument_faults traces argument word)
argument_causes traces AnId word = ((λ cause other one two. one.1 ∙ sym two.1), ((λ cause other one two. one.1 ∙ sym two.1), ((λ cause other one two. one.1 ∙ sym two.1), tt)))
argument_causes traces ATrace word = ((λ cause other one two. one.1 ∙ sym two.1), ((λ cause other one two. one.1 ∙ sym two.1), tt))

arguments_causes : (traces : ℕ) (arguments : List Argument) (words : List (List ℕ)) → HaveOneError (arguments_faults traces arguments words)
arguments_causes traces [] words = tt
arguments_causes traces (argument ∷ arguments) [] = tt
arguments_causes traces (argument ∷ arguments) (word ∷ words) =
    one_of_both (argument_faults traces argument word) (arguments_faults traces arguments words) (argument_causes traces argument word) (arguments_causes traces arguments words)

form_causes : (traces : ℕ) (closing : Bool) (form : Form) (words : List (List ℕ)) → HaveOneError (form_faults traces closing form words)
form_causes traces closing form words = ((λ cause other one two. one.1 ∙ sym two.1), arguments_causes traces form.arguments words)

line_causes : (number : ℕ) (line : List ℕ) → HaveOneError (line_faults number line)
line_causes number line = ((λ cause other one two. one.1 ∙ sym two.1), ((λ cause other one two. one.1 ∙ sym two.1), tt))

-- what is wrong with words
words_cause_once : (traces : ℕ) (closing : Bool) (first : List ℕ) (words : List (List ℕ)) (cause other : ScriptCause) → IsWordsCause traces closing first words cause → IsWordsCause traces closing first words other → cause ≡ other
words_cause_once traces closing first words cause other one two = elim one [
  | inl none ↦ elim two [
    | inl also ↦ none.1 ∙ sym also.1
    | inr (inl shape) ↦ absurd (none.0 shape.0.0 shape.0.1 shape.0.2)
    | inr (inr form) ↦ absurd (none.0 form.0 form.2 form.3.first_is)
  ]
  | inr (inl shape) ↦ elim two [
    | inl none ↦ absurd (none.0 shape.0.0 shape.0.1 shape.0.2)
    | inr (inl also) ↦ shape.2 ∙ sym also.2
    | inr (inr form) ↦ absurd (shape.1 form.0 form.1 form.2 form.3)
  ]
  | inr (inr form) ↦ elim two [
    | inl none ↦ absurd (none.0 form.0 form.2 form.3.first_is)
    | inr (inl shape) ↦ absurd (shape.1 form.0 form.1 form.2 form.3)
    | inr (inr also) ↦
        let same = form_once first words also.0 form.0 also.1 form.1 also.2 form.2 also.3 form.3 in
        first_once (form_faults traces closing form.0 form.1) cause other (form_causes traces closing form.0 form.1) form.4
        (subst (λ it. IsFirst (form_faults traces closing it form.1) other) same.0 (subst (λ arguments. IsFirst (form_faults traces closing also.0 arguments) other) same.1 also.4))
  ]
]

-- what is wrong with an ended line
line_cause_once : (traces : ℕ) (closing : Bool) (number : ℕ) (line : List ℕ) (cause other : ScriptCause) → IsLineCause traces closing number line cause → IsLineCause traces closing number line other → cause ≡ other
line_cause_once traces closing number line cause other one two = elim one [
  | inl first ↦ elim two [
    | inl also ↦ first_once (line_faults number line) cause other (line_causes number line) first also
    | inr later ↦ absurd (passed_first (line_faults number line) cause later.0 first)
  ]
  | inr later ↦ elim two [
    | inl first ↦ absurd (passed_first (line_faults number line) other later.0 first)
    | inr also ↦
        let mine = later.1 in
        let others = also.1 in
        let same = words_once line others.0 mine.0 others.1 mine.1 others.2 mine.2 in
        words_cause_once traces closing mine.0 mine.1 cause other mine.3
        (subst (λ first. IsWordsCause traces closing first mine.1 other) same.0 (subst (λ words. IsWordsCause traces closing others.0 words other) same.1 others.3))
  ]
]

-- what is wrong with the rest of a file
pub rest_cause_once : (traces : ℕ) (closing : Bool) (number : ℕ) (rest : List ℕ) (cause other : ScriptCause) → IsRestCause traces closing number rest cause → IsRestCause traces closing number rest other → cause ≡ other
rest_cause_once traces closing number rest cause other one two = elim one [
  | inl ended ↦ elim two [
    | inl also ↦
        let same = (split_in_one_way 10 rest also.0 also.1 ended.0 ended.1 (record { whole = also.2; first = also.3 }) (record { whole = ended.2; first = ended.3 })).0 in
        line_cause_once traces closing number ended.0 cause other ended.4 (subst (λ line. IsLineCause traces closing number line other) same also.4)
    | inr still ↦ absurd (has_none 10 rest ended.0 ended.1 still.1 ended.2)
  ]
  | inr still ↦ elim two [
    | inl ended ↦ absurd (has_none 10 rest ended.0 ended.1 still.1 ended.2)
    | inr also ↦ elim still.2 [
      | inl long ↦ elim also.2 [ inl longer ↦ long.1 ∙ sym longer.1 | inr short ↦ (let over = long.0 in let under = short.0 in absurd (omega (arith, over, under))) ]
      | inr short ↦ elim also.2 [ inl long ↦ (let over = long.0 in let under = short.0 in absurd (omega (arith, over, under))) | inr shorter ↦ short.1 ∙ sym shorter.1 ]
    ]
  ]
]
