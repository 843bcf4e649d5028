use Rattle.std.proofs.Common.{◌∙◌, ℕ, List, ap, refl, sym, None, Some}
use Rattle.std.specs.BTreeMap.{is_at}
use Rattle.std.specs.Map.{lookup}
use Rattle.std.specs.Ordering.{nat_cmp}
use Rattle.partner_match.specs.Waiting.{waiting_under}
use Rattle.partner_match.proofs.Numbers.{waiting_as}
use Rattle.partner_match.proofs.waiters.Waiters.woken.Goals as goal

pub returns-in-Some : goal.returns-in-Some
returns-in-Some c =
    c.from_ref.ensures.value ∙ (sym (waiting_as (λ traces. traces.items) c.self.inside.alone.entries c.self.inside.several.entries c.args.number
    (Some c.in-Some.trace.now) (lookup (is_at (nat_cmp c.args.number)) c.self.inside.several.entries) (sym c.in-Some.ensures.value) refl)
    ∙ ap (λ (w : List (ℕ × List ℕ)). waiting_under w c.args.number) c.self.view_is)

pub returns-in-Some-get : goal.returns-in-Some-get
returns-in-Some-get c =
    c.as_slice.ensures ∙ (sym (waiting_as (λ traces. traces.items) c.self.inside.alone.entries c.self.inside.several.entries c.args.number
    None (Some c.in-Some-get.traces.now) (sym c.in_default.ensures.value) (sym c.in-Some-get.ensures.value))
    ∙ ap (λ (w : List (ℕ × List ℕ)). waiting_under w c.args.number) c.self.view_is)

pub returns-in-None : goal.returns-in-None
returns-in-None c =
    sym (waiting_as (λ traces. traces.items) c.self.inside.alone.entries c.self.inside.several.entries c.args.number
    None None (sym c.in_default.ensures.value) (sym c.in-None.ensures.value))
    ∙ ap (λ (w : List (ℕ × List ℕ)). waiting_under w c.args.number) c.self.view_is
