use Rattle.std.proofs.Common.{◌∙◌, ℕ, List, ap, None}
use Rattle.partner_match.specs.Waiting.{waiting_under}
use Rattle.partner_match.proofs.Numbers.{others_stay, waiting_as}
use Rattle.partner_match.proofs.waiters.Waiters.forget.Goals as goal

pub returns-clause-gone : goal.returns-clause-gone
returns-clause-gone c = waiting_as (λ traces. traces.items) c.remove.new.self.entries c.remove-2.new.self.entries c.args.number None None c.remove.ensures.updates.1 c.remove-2.ensures.updates.1

pub returns-clause-others : goal.returns-clause-others
returns-clause-others c other ne =
    others_stay (λ traces. traces.items) c.self.inside.alone.entries c.remove.new.self.entries c.self.inside.several.entries c.remove-2.new.self.entries c.args.number
    c.remove.ensures.updates.2 c.remove-2.ensures.updates.2 other ne
    ∙ ap (λ (w : List (ℕ × List ℕ)). waiting_under w other) c.self.view_is
