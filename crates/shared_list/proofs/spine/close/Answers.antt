use Rattle.std.proofs.Common.{◌++◌, ◌∷◌, [], ◌∙◌, ap}
use Rattle.shared_list.proofs.spine.close.Goals as goal

pub returns-in-Ok-clause-ok : goal.returns-in-Ok-clause-ok
returns-in-Ok-clause-ok g c =
    (c.in-Ok.part, c.push_reserved.ensures.items ∙ ap (λ xs. xs ++ c.in-Ok.part ∷ []) c.reserve.ensures.items, ap (λ v. v.items) (c.in-Ok.ensures.ok ∙ c.replace-full.ensures.value))
