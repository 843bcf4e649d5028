use Rattle.std.proofs.Common.{◌≡◌, ◌==◌, ℕ, false, List, [], ◌∷◌, ◌++◌, length, refl, sym, ◌∙◌, subst}
use Rattle.std.specs.Prelude.{codes}
use Rattle.causal_base.specs.Spelling.{text_part}
use Rattle.poet_io.specs.Writes.{Writes}
use Rattle.poet_io.proofs.CallerLemmas.{writes_after}
use Rattle.answer_text.proofs.event.put_text.Goals as goal

-- a text that isn't empty stands behind a space
text_part-shown : (text : List ℕ) → (text ≡ [] → ⊥) → text_part text ≡ codes " " ++ text
text_part-shown [] shown = absurd (shown refl)
text_part-shown (byte ∷ bytes) shown = refl

is_nonempty : (text : List ℕ) → (length text == 0) ≡ false → text ≡ [] → ⊥
is_nonempty [] shown none = cc
is_nonempty (byte ∷ bytes) shown none = cc

pub returns : goal.returns
returns g c =
    let state = g.K.Sink.state in
    let text = c.args.text.now in
    let after = state c.put-2.new.out in
    let shown : text_part text ≡ codes " " ++ text = text_part-shown text (λ none. absurd (is_nonempty text (sym c.is_empty.ensures ∙ c.if-is_empty.false) none)) in
    subst (λ bytes. Writes (state c.args.out.now) after bytes c.put-2.result) (sym shown)
    (writes_after after text c.put-2.result c.in_ok-put.ensures c.put-2.ensures)
