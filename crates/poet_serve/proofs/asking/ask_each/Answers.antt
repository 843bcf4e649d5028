use Rattle.std.proofs.Common.{◌+◌, ◌<◌, List, [], ◌∷◌, length, length-append, refl, sym, ◌∙◌, ap, subst, arith}
use Rattle.causal_base.specs.Journal.{IsLegal}
use Rattle.causal_base.specs.Types.{TypeTable}
use Rattle.client_session.specs.Replies.{IsEmptyCut}
use Rattle.poet_serve.specs.declared.report.Line.{Line}
use Rattle.poet_serve.specs.Chains.{LeadTo}
use Rattle.poet_serve.specs.Transcripts.{seen_by}
use Rattle.poet_serve.proofs.Lines.{command_there, leads_on, no_lines, whole_line}
use Rattle.poet_serve.proofs.asking.ask_each.Goals as goal

pub returns-in_err-session-clause-lines : goal.returns-in_err-session-clause-lines
returns-in_err-session-clause-lines c = no_lines (seen_by c.args.desk.now.setup c.args.desk.now.journal) c.args.script.now c.args.types.now.traces c.args.lines.now.items c.requires.none

pub unreachable-requires : goal.unreachable-requires
unreachable-requires c =
    let within : c.loop-place.place < length c.args.script.now = subst (λ n. c.loop-place.place < n) c.len-place-end.ensures c.loop-place-test.true in
    command_there c.args.script.now c.loop-place.place within (sym c.in_default.ensures)

pub loop-place-init : goal.loop-place-init
loop-place-init c =
    let seen = seen_by c.args.desk.now.setup c.args.desk.now.journal in
    let cut = c.in_ok-session.session in
    let empty = subst (λ n. IsEmptyCut n cut) c.traces.ensures.number c.in_ok-session.ensures in
    record {
      cut = cut;
      empty = empty;
      leads = subst (λ (lines : List Line). LeadTo seen c.args.script.now 0 (length c.args.desk.now.journal) cut lines cut) (sym c.requires.none) refl;
      so_many = ap (λ (lines : List Line). length lines) c.requires.none;
      consistent = c.ends_are_consistent.ensures.empty c.args.types.now c.args.desk.now.journal
          (subst (λ (t : TypeTable). IsLegal t c.args.desk.now.journal) (sym c.requires.types) c.setup-setup.ensures.is_journal.legal)
          cut empty.as_many empty.none;
    }

pub loop-place-preserved : goal.loop-place-preserved
loop-place-preserved c =
    let seen = seen_by c.args.desk.now.setup c.args.desk.now.journal in
    let before = c.loop-place.invariant in
    let at = c.seen.ensures c.args.desk.now.journal (record { same = refl; legal = c.setup-setup.ensures.is_journal.legal }) in
    let line : Line = record { at = c.seen.result; place = c.loop-place.place; reply = c.in_ok-reply.reply } in
    record {
      cut = before.cut;
      empty = before.empty;
      leads = subst (λ (lines : List Line). LeadTo seen c.args.script.now 0 (length c.args.desk.now.journal) before.cut lines c.ask_one.new.session) (sym c.in_ok-push.ensures.items)
          (leads_on seen c.args.script.now 0 c.loop-place.place (length c.args.desk.now.journal) before.cut c.loop-place.lines.items c.loop-place.session before.leads (let many = before.so_many in omega (arith, many)) line c.ask_one.new.session at
          (whole_line seen c.args.script.now c.loop-place.place c.loop-place.session line c.ask_one.new.session c.in-Some.command.now at refl (sym c.in-Some.ensures) c.in_ok-reply.ensures.reply c.in_ok-reply.ensures.told));
      so_many = ap (λ (lines : List Line). length lines) c.in_ok-push.ensures.items ∙ (length-append c.loop-place.lines.items (line ∷ []) ∙ ap (λ n. n + 1) before.so_many);
      consistent = c.ask_one.ensures.consistent;
    }
