use Rattle.std.proofs.Common.{◌≡◌, ◌<◌, ◌≤◌, ◌⊎◌, ◌↔◌, ◌∙◌, ℕ, List, length, slice_set, arith, ap, subst}
use Rattle.std.specs.Prelude.{Contains}
use Rattle.partner_match.specs.Waiting.{Waits, waiting_under, WaitsToo}
use Rattle.partner_match.proofs.WaitLists.{both_ok, changed_too, new_too}
use Rattle.partner_match.proofs.matcher.Matcher.wait.Goals as goal

pub returns-then-on-len-clause-ok : goal.returns-then-on-len-clause-ok
returns-then-on-len-clause-ok c =
    let waits = c.self.inside.waiting.items in
    let inside : c.args.on.trace < length waits = omega (arith, c.if-on-len.true, c.len.ensures) in
    both_ok c.wait.result c.wait.ensures.here c.wait.ensures.elsewhere (λ more kept.
    subst (λ (old : Waits). WaitsToo old (slice_set waits c.args.on.trace c.wait.new.self) c.args.on c.args.trace) c.self.view_is
    (changed_too waits c.args.on c.args.trace c.index_mut.result.now c.wait.new.self inside c.index_mut.ensures.value kept more))

pub returns-clause-ok : goal.returns-clause-ok
returns-clause-ok c =
    let past : length c.self.inside.waiting.items ≤ c.args.on.trace = omega (arith, c.if-on-len.false, c.len.ensures) in
    both_ok c.put_behind.result c.put_behind.ensures.here c.put_behind.ensures.elsewhere (λ here elsewhere.
    subst (λ (old : Waits). WaitsToo old c.put_behind.new.waiting.items c.args.on c.args.trace) c.self.view_is
    (new_too c.self.inside.waiting.items c.put_behind.new.waiting.items c.args.on c.args.trace c.wait-2.new.self past
    (λ other. subst (λ (none : List (ℕ × List ℕ)). Contains (waiting_under c.wait-2.new.self c.args.on.number) other ↔ (Contains (waiting_under none c.args.on.number) other ⊎ (other ≡ c.args.trace))) c.new-waiters.ensures (c.in_ok-wait.ensures.here other))
    (λ number ne. c.in_ok-wait.ensures.elsewhere number ne ∙ ap (λ none. waiting_under none number) c.new-waiters.ensures)
    here elsewhere))
