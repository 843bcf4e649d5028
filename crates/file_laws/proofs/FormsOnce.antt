-- The words of a line are written in one form.
use Rattle.std.proofs.Common.{◌≡◌, ◌&&◌, List, ◌++◌, ℕ, Option, Some, refl, sym, ap, ◌∙◌}
use Rattle.std.specs.Prelude.{Contains, bytes_eq, find}
use Rattle.std.specs.List.{starts_with}
use Rattle.std.proofs.lemmas.List.{append_cancel_left}
use Rattle.std.proofs.lemmas.List.Elements.{All-contains, All-from_recursion}
use Rattle.client_session.specs.Scripts.{Form, IsWritten, forms}

-- the form that has this first word, and with whose second word, if it has one, these begin
abbrev form_with : List ℕ → List (List ℕ) → Option Form
form_with first others = find (λ form. bytes_eq form.first first && starts_with bytes_eq others form.second) forms

-- a form is told by its words, whatever stands behind them
abbrev IsTold : List (List ℕ) → Form → Type 0
IsTold arguments form = form_with form.first (form.second ++ arguments) ≡ Some form

told : (arguments : List (List ℕ)) (form : Form) → Contains forms form → IsTold arguments form
told arguments form has =
    All-contains (IsTold arguments) forms form
    (All-from_recursion (IsTold arguments) forms (refl, (refl, (refl, (refl, (refl, (refl, (refl, (refl, (refl, (refl, (refl, (refl, (refl, tt))))))))))))))
    has

-- so words tell the form in which they are written
told_by_words : (first : List ℕ) (others : List (List ℕ)) (form : Form) (arguments : List (List ℕ)) → Contains forms form → IsWritten form first others arguments → form_with first others ≡ Some form
told_by_words first others form arguments has written =
    ap (λ word. form_with word others) written.first_is ∙ (ap (form_with form.first) written.others_are ∙ told arguments form has)

-- and its arguments
pub form_once : (first : List ℕ) (others : List (List ℕ)) (form other : Form) (arguments words : List (List ℕ)) → Contains forms form → Contains forms other
    → IsWritten form first others arguments → IsWritten other first others words → (form ≡ other) × (arguments ≡ words)
form_once first others form other arguments words has also written again =
    let both : Some form ≡ Some other = sym (told_by_words first others form arguments has written) ∙ told_by_words first others other words also again in
    let same : form ≡ other = cc in
    let behind : form.second ++ arguments ≡ form.second ++ words = sym written.others_are ∙ (again.others_are ∙ ap (λ f. f.second ++ words) (sym same)) in
    (same, append_cancel_left form.second arguments words behind)
