use Rattle.std.proofs.Common.{◌≡◌, ◌≤◌, ◌⊎◌, ◌↔◌, ℕ, List, length, sym, subst}
use Rattle.std.specs.Prelude.{Contains}
use Rattle.std.specs.List.{insert}
use Rattle.partner_match.proofs.Numbers.{put_in}
use Rattle.partner_match.proofs.waiters.add.Goals as goal

pub returns-in_ok-insert-clause-ok : goal.returns-in_ok-insert-clause-ok
returns-in_ok-insert-clause-ok c = λ other.
    let within = subst (λ (xs : List ℕ). c.in-Err.at ≤ length xs) c.as_slice.ensures c.in-Err.ensures.bound in
    let put : c.insert.new.self.items ≡ insert c.args.traces.now.items c.in-Err.at c.args.trace = c.in_ok-insert.ensures.ok in
    subst (λ (xs : List ℕ). Contains xs other ↔ (Contains c.args.traces.now.items other ⊎ (other ≡ c.args.trace))) (sym put) (put_in c.args.traces.now.items c.in-Err.at c.args.trace other within)
