use Rattle.std.proofs.Common.{◌≡◌, ◌∙◌, ◌⊎◌, ◌↔◌, ℕ, List, [], ◌∷◌, ap, subst, None, Some}
use Rattle.std.specs.Prelude.{Contains}
use Rattle.partner_match.specs.Waiting.{waiting_under}
use Rattle.partner_match.proofs.Numbers.{one_more, others_stay, waiting_as, waits_of}
use Rattle.partner_match.proofs.waiters.Waiters.wait_beside.Goals as goal

pub returns-clause-here : goal.returns-clause-here
returns-clause-here c =
    let more : (other : ℕ) → Contains c.add.new.traces.items other ↔ (Contains (c.args.first ∷ []) other ⊎ (other ≡ c.args.trace)) =
    subst (λ (had : List ℕ). (other : ℕ) → Contains c.add.new.traces.items other ↔ (Contains had other ⊎ (other ≡ c.args.trace))) c.in_ok-traces.ensures.ok c.in_ok-add.ensures.ok in
    one_more (waiting_under c.args.self.now c.args.number) (waiting_under (waits_of (λ traces. traces.items) c.remove.new.self.entries c.insert.new.self.entries) c.args.number)
    (c.args.first ∷ []) c.add.new.traces.items c.args.trace c.requires
    (waiting_as (λ traces. traces.items) c.remove.new.self.entries c.insert.new.self.entries c.args.number None (Some c.add.new.traces) c.remove.ensures.updates.1 c.in_ok-insert.ensures.updates.1)
    more

pub returns-clause-elsewhere : goal.returns-clause-elsewhere
returns-clause-elsewhere c other ne =
    others_stay (λ traces. traces.items) c.self.inside.alone.entries c.remove.new.self.entries c.self.inside.several.entries c.insert.new.self.entries c.args.number
    c.remove.ensures.updates.2 c.in_ok-insert.ensures.updates.2 other ne
    ∙ ap (λ (w : List (ℕ × List ℕ)). waiting_under w other) c.self.view_is
