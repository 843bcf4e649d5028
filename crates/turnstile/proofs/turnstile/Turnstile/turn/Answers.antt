use Rattle.std.proofs.Common.{◌≡◌, ℕ, ◌+◌, List, [], ◌∷◌, ◌++◌, replicate, ap, ◌∙◌, append_assoc}
use Rattle.std.proofs.lemmas.List.{replicate_more}
use Rattle.turnstile.specs.declared.view.View.{View}
use Rattle.turnstile.proofs.turnstile.Turnstile.turn.Goals as goal

-- one more draw found 1
busier : {F : Type 0} (first before after : View F) (busy : ℕ) → before ≡ record first { draws = first.draws ++ replicate busy 1 }
    → after ≡ record before { draws = before.draws ++ 1 ∷ [] } → after ≡ record first { draws = first.draws ++ replicate (busy + 1) 1 }
busier {F} first before after busy so_far one =
    one ∙ (ap (λ (v : View F). record v { draws = v.draws ++ 1 ∷ [] }) so_far
    ∙ ap (λ (l : List ℕ). record first { draws = l }) (append_assoc first.draws (replicate busy 1) (1 ∷ []) ∙ ap (λ l. first.draws ++ l) (replicate_more busy 1)))

pub loop-preserved : goal.loop-preserved
loop-preserved g c = let before = c.loop.invariant.1 in
    (c.in-Busy.ensures.its_pass, (before.0 + 1, busier _ _ _ before.0 before.1 c.in-Busy.ensures.busy))
