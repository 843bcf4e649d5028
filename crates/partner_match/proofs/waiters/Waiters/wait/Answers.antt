use Rattle.std.proofs.Common.{◌≡◌, ◌∙◌, ℕ, List, [], ◌∷◌, ap, refl, sym, subst, None, Some}
use Rattle.std.specs.BTreeMap.{is_at}
use Rattle.std.specs.Map.{lookup, set_value}
use Rattle.std.specs.Option.{is_some}
use Rattle.std.specs.Ordering.{nat_cmp}
use Rattle.std.proofs.lemmas.Map.Steps.{set_value_same}
use Rattle.std.proofs.lemmas.Result.{on_err_weaker, on_ok_weaker}
use Rattle.partner_match.specs.Waiting.{waiting_under}
use Rattle.partner_match.proofs.Numbers.{one_more, only_one, others_stay, waiting_as, waits_of}
use Rattle.partner_match.proofs.waiters.Waiters.wait.Goals as goal

pub wait_beside-requires : goal.wait_beside-requires
wait_beside-requires c =
    sym (ap (λ (w : List (ℕ × List ℕ)). waiting_under w c.args.number) c.self.view_is)
    ∙ waiting_as (λ traces. traces.items) c.self.inside.alone.entries c.self.inside.several.entries c.args.number
    (Some c.in-Some.first) (lookup (is_at (nat_cmp c.args.number)) c.self.inside.several.entries) (sym (c.in-Some.ensures ∙ c.get.ensures.value)) refl

pub returns-in-Some-get_mut-clause-here : goal.returns-in-Some-get_mut-clause-here
returns-in-Some-get_mut-clause-here c =
    let updates = (c.get_mut.follows.holds c.add.new.traces).3 (ap is_some (sym c.in-Some-get_mut.ensures.value)) in
    let alone = sym (c.in_default.ensures ∙ c.get.ensures.value) in
    on_ok_weaker c.add.result (λ more.
    one_more (waiting_under c.args.self.now c.args.number) (waiting_under (waits_of (λ traces. traces.items) c.self.inside.alone.entries (c.get_mut.follows.lender c.add.new.traces).entries) c.args.number)
    c.in-Some-get_mut.traces.now.items c.add.new.traces.items c.args.trace
    (sym (ap (λ (w : List (ℕ × List ℕ)). waiting_under w c.args.number) c.self.view_is)
    ∙ waiting_as (λ traces. traces.items) c.self.inside.alone.entries c.self.inside.several.entries c.args.number None (Some c.in-Some-get_mut.traces.now) alone (sym c.in-Some-get_mut.ensures.value))
    (waiting_as (λ traces. traces.items) c.self.inside.alone.entries (c.get_mut.follows.lender c.add.new.traces).entries c.args.number None (Some c.add.new.traces) alone updates.1)
    more) c.add.ensures.ok

pub returns-in-Some-get_mut-clause-elsewhere : goal.returns-in-Some-get_mut-clause-elsewhere
returns-in-Some-get_mut-clause-elsewhere c =
    let updates = (c.get_mut.follows.holds c.add.new.traces).3 (ap is_some (sym c.in-Some-get_mut.ensures.value)) in
    on_ok_weaker c.add.result (λ more other ne.
    others_stay (λ traces. traces.items) c.self.inside.alone.entries c.self.inside.alone.entries c.self.inside.several.entries (c.get_mut.follows.lender c.add.new.traces).entries c.args.number
    (λ each apart. refl) updates.2 other ne
    ∙ ap (λ (w : List (ℕ × List ℕ)). waiting_under w other) c.self.view_is) c.add.ensures.ok

pub returns-in-Some-get_mut-clause-err : goal.returns-in-Some-get_mut-clause-err
returns-in-Some-get_mut-clause-err c =
    on_err_weaker c.add.result (λ same.
    let written = (c.get_mut.follows.holds c.add.new.traces).0 in
    ap (waits_of (λ traces. traces.items) c.self.inside.alone.entries) (written ∙ subst (λ v. set_value (is_at (nat_cmp c.args.number)) c.self.inside.several.entries v ≡ c.self.inside.several.entries) (sym same) (set_value_same (is_at (nat_cmp c.args.number)) c.self.inside.several.entries c.in-Some-get_mut.traces.now (sym c.in-Some-get_mut.ensures.value)))
    ∙ c.self.view_is) c.add.ensures.err

pub returns-in_ok-insert-in-None-clause-here : goal.returns-in_ok-insert-in-None-clause-here
returns-in_ok-insert-in-None-clause-here c =
    let none = sym (c.in_default.ensures ∙ c.get.ensures.value) in
    let stays = ap (λ m. lookup (is_at (nat_cmp c.args.number)) m.entries) c.get_mut.follows.holds-at-none ∙ sym c.in-None.ensures.value in
    one_more (waiting_under c.args.self.now c.args.number) (waiting_under (waits_of (λ traces. traces.items) c.insert.new.self.entries c.get_mut.follows.lender-at-none.entries) c.args.number)
    [] (c.args.trace ∷ []) c.args.trace
    (sym (ap (λ (w : List (ℕ × List ℕ)). waiting_under w c.args.number) c.self.view_is)
    ∙ waiting_as (λ traces. traces.items) c.self.inside.alone.entries c.self.inside.several.entries c.args.number None None none (sym c.in-None.ensures.value))
    (waiting_as (λ traces. traces.items) c.insert.new.self.entries c.get_mut.follows.lender-at-none.entries c.args.number (Some c.args.trace) None c.in_ok-insert-in-None.ensures.updates.1 stays)
    (only_one c.args.trace)

pub returns-in_ok-insert-in-None-clause-elsewhere : goal.returns-in_ok-insert-in-None-clause-elsewhere
returns-in_ok-insert-in-None-clause-elsewhere c other ne =
    others_stay (λ traces. traces.items) c.self.inside.alone.entries c.insert.new.self.entries c.self.inside.several.entries c.get_mut.follows.lender-at-none.entries c.args.number
    c.in_ok-insert-in-None.ensures.updates.2 (λ each apart. ap (λ m. lookup (is_at (nat_cmp each)) m.entries) c.get_mut.follows.holds-at-none) other ne
    ∙ ap (λ (w : List (ℕ × List ℕ)). waiting_under w other) c.self.view_is
