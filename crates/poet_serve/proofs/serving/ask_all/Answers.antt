use Rattle.std.proofs.Common.{rules, ◌++◌, List, [], ◌∷◌, take, length, sym, ◌∙◌, ap, subst, arith}
use Rattle.std.proofs.lemmas.List.{length-take-le, take_more}
use Rattle.client_session.specs.declared.command.Command.{Command}
use Rattle.poet_serve.specs.declared.report.ClientReport.{ClientReport}
use Rattle.poet_serve.specs.Transcripts.{AreToldFrom, seen_by}
use Rattle.poet_serve.proofs.Lines.{told_many, told_with}
use Rattle.poet_serve.proofs.serving.ask_all.Goals as goal

pub push_reserved-requires : goal.push_reserved-requires
push_reserved-requires c =
    let many = told_many (seen_by c.args.desk.now.setup c.args.desk.now.journal) (length c.args.desk.now.journal) (take c.loop-script.script-index c.args.scripts.now) c.loop-script.reports.items c.loop-script.invariant.told in
    let taken = length-take-le c.loop-script.script-index c.args.scripts.now c.loop-script.auto.script-index-end in
    let room = c.loop-script.invariant.room in
    let vec = c.loop-script.reports.ok.0 in
    omega (arith, many, taken, room, vec, c.requires.room, c.loop-script-test.true)

pub loop-script-preserved : goal.loop-script-preserved
loop-script-preserved c =
    let seen = seen_by c.args.desk.now.setup c.args.desk.now.journal in
    record {
      told = subst (λ (scripts : List (List Command)). AreToldFrom seen (length c.args.desk.now.journal) scripts c.push_reserved.new.self.items) (sym (take_more c.args.scripts.now c.loop-script.script-index c.script-item.result c.loop-script-test.true ∙ ap (λ (script : List Command). take c.loop-script.script-index c.args.scripts.now ++ script ∷ []) (sym c.script-item.is)))
          (subst (λ (reports : List ClientReport). AreToldFrom seen (length c.args.desk.now.journal) (take c.loop-script.script-index c.args.scripts.now ++ c.script-item.result ∷ []) reports) (sym c.push_reserved.ensures.items)
          (told_with seen (length c.args.desk.now.journal) (take c.loop-script.script-index c.args.scripts.now) c.loop-script.reports.items c.script-item.result c.ask_in_turn.result c.loop-script.invariant.told
          c.ask_in_turn.ensures));
      room = search rules;
    }
