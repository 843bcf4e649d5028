use Rattle.std.proofs.Common.{rules, ◌≡◌, ◌++◌, ◌∷◌, [], inr, List, map, take, ◌+◌, sym, subst}
use Rattle.client_session.specs.declared.command.Command.{Command}
use Rattle.run_files.specs.declared.fault.Fault.{Fault}
use Rattle.run_files.specs.Loading.{LackScripts, SayScripts}
use Rattle.run_files.specs.Troubles.{NoMemory, trouble_of}
use Rattle.run_files.proofs.Exits.{if_err_from}
use Rattle.run_files.proofs.Scripts.{lacks_next, says_next}
use Rattle.run_files.proofs.loading.read_scripts.Goals as goal

pub returns-in_err-script-clause-err : goal.returns-in_err-script-clause-err
returns-in_err-script-clause-err g c =
    let files = g.F.Files.state in
    let types = c.args.target.now.types in
    if_err_from (λ (fault : Fault). LackScripts types 0 (map (λ n. n.now) c.args.names.now) (files c.args.files.now) (files c.read_script.new.files) (trouble_of fault)) c.from_residual.result _ c.from_residual.ensures.1
    (lacks_next types (λ n. n.now) c.args.names.now c.loop-number.number (record { ref_ptr = (0, 0); now = [] }) c.loop-number-test.true c.loop-number.scripts.items (files c.args.files.now) (files c.loop-number.files) (files c.read_script.new.files)
    (trouble_of _) c.loop-number.invariant c.in_err-script.ensures.err)

pub returns-then-is_err-clause-err : goal.returns-then-is_err-clause-err
returns-then-is_err-clause-err g c =
    let files = g.F.Files.state in
    lacks_next c.args.target.now.types (λ n. n.now) c.args.names.now c.loop-number.number (record { ref_ptr = (0, 0); now = [] }) c.loop-number-test.true c.loop-number.scripts.items (files c.args.files.now) (files c.loop-number.files) (files c.read_script.new.files)
    NoMemory c.loop-number.invariant (inr ([], c.in_ok-script.ensures.ok.1.given_back))

pub loop-number-preserved : goal.loop-number-preserved
loop-number-preserved g c =
    let files = g.F.Files.state in
    let types = c.args.target.now.types in
    let pushed : c.push.new.self.items ≡ c.loop-number.scripts.items ++ c.in_ok-script.script ∷ [] = search rules in
    subst (λ (scripts : List (List Command)). SayScripts types 0 (map (λ n. n.now) (take (c.loop-number.number + 1) c.args.names.now)) (files c.args.files.now) (files c.read_script.new.files) scripts) (sym pushed)
    (says_next types (λ n. n.now) c.args.names.now c.loop-number.number (record { ref_ptr = (0, 0); now = [] }) c.loop-number-test.true c.loop-number.scripts.items (files c.args.files.now) (files c.loop-number.files) (files c.read_script.new.files)
    c.in_ok-script.script c.loop-number.invariant c.in_ok-script.ensures.ok)
