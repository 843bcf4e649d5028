use Rattle.std.proofs.Common.{◌≡◌, ◌+◌, ℕ, inr, length, sym, subst, ◌∙◌}
use Rattle.causal_base.specs.Types.{TypeTable}
use Rattle.client_session.specs.Scripts.{IsRefused, IsRestCause}
use Rattle.client_session.proofs.ScriptLemmas.{refused_at}
use Rattle.client_session.proofs.script.Script.read.Goals as goal

pub returns-in-Err-clause-err : goal.returns-in-Err-clause-err
returns-in-Err-clause-err c =
    let types = c.types-types.result.now in
    let bytes = c.args.bytes.now in
    let rest = c.loop-types.rest.now in
    let commands = c.loop-types.commands.items in
    let cause = c.in-Err.cause in
    let count : c.len.result ≡ length commands = c.len.ensures ∙ c.loop-types.commands.ok.0 in
    let wrong = subst (λ (n : ℕ). IsRestCause types.traces c.args.closing (n + 1) rest cause) count c.in-Err.ensures.err in
    let refused = refused_at types c.args.closing bytes commands rest cause c.if-bytes-gt-MOST_SCRIPT.false c.loop-types.invariant.whole c.loop-types.invariant.few c.loop-types.invariant.may_stand wrong in
    inr (subst (λ (t : TypeTable). IsRefused t c.args.closing bytes (record { line = c.len.result + 1; cause = cause })) c.types-types.ensures.types
    (subst (λ (n : ℕ). IsRefused types c.args.closing bytes (record { line = n + 1; cause = cause })) (sym count) refused))
