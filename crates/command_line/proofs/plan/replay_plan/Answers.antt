use Rattle.std.proofs.Common.{ℕ, List, ◌∷◌, length, map, string_bytes, Option, Bor, ap, arith}
use Rattle.std.specs.Option.{option_map}
use Rattle.command_line.proofs.Exits.{if_none}
use Rattle.command_line.proofs.ItemLemmas.{files_once}
use Rattle.command_line.proofs.PlanLemmas.{then_after, then_files, then_levels}
use Rattle.command_line.proofs.plan.replay_plan.Goals as goal

pub returns-in_default-clause-none : goal.returns-in_default-clause-none
returns-in_default-clause-none c = λ asked are.
    c.in_default.ensures.none are.middle asked.sizes (then_levels (map string_bytes c.args.words.now) (map string_bytes c.in_ok-behind.behind.now) asked c.in_ok-behind.ensures.some are)

pub returns-in_err-after-clause-none : goal.returns-in_err-after-clause-none
returns-in_err-after-clause-none c =
    if_none c.from_residual-in_err-after.result (λ asked are.
    c.in_err-after.ensures.none (asked.target ∷ are.files) asked.after
    (then_after (map string_bytes c.args.words.now) (map string_bytes c.in_ok-behind.behind.now) asked c.in_ok-behind.ensures.some are (map string_bytes c.in-Some.middle.now) c.in-Some.sizes c.in-Some.ensures.some))

pub returns-in_default-of-clause-none : goal.returns-in_default-of-clause-none
returns-in_default-of-clause-none c = λ asked are.
    let found = then_files (map string_bytes c.args.words.now) (map string_bytes c.in_ok-behind.behind.now) asked c.in_ok-behind.ensures.some are
    (map string_bytes c.in-Some.middle.now) (map string_bytes c.in_ok-after.named.now) (map string_bytes c.in_ok-target.others.now) c.in-Some.sizes c.in_ok-target.target.now c.in_ok-after.after
    c.in-Some.ensures.some c.in_ok-after.ensures.some c.in_ok-target.ensures.some in
    c.in_default-of.ensures.none asked.events asked.clients asked.closing found.1

pub returns-then-is_empty-clause-none : goal.returns-then-is_empty-clause-none
returns-then-is_empty-clause-none c = λ asked are.
    let found = then_files (map string_bytes c.args.words.now) (map string_bytes c.in_ok-behind.behind.now) asked c.in_ok-behind.ensures.some are
    (map string_bytes c.in-Some.middle.now) (map string_bytes c.in_ok-after.named.now) (map string_bytes c.in_ok-target.others.now) c.in-Some.sizes c.in_ok-target.target.now c.in_ok-after.after
    c.in-Some.ensures.some c.in_ok-after.ensures.some c.in_ok-target.ensures.some in
    let files = c.in-Some-of.files in
    let closing : Option (List ℕ) = option_map (λ (name : Bor (List ℕ)). name.now) files.closing in
    let same = files_once (map string_bytes c.in_ok-target.others.now) asked.events files.events asked.clients files.clients asked.closing closing found.1 c.in-Some-of.ensures.some in
    omega (arith, are.some_events, ap length same.0, ap length (c.is_empty.ensures.0 c.if-is_empty.true))
