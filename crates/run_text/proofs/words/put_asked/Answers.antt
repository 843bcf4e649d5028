use Rattle.std.proofs.Common.{◌++◌}
use Rattle.std.specs.Prelude.{codes}
use Rattle.answer_text.specs.Texts.{text_of_reply}
use Rattle.client_session.specs.Commands.{command_text}
use Rattle.poet_io.proofs.CallerLemmas.{cut_after, cut_more, ends_cut, writes_after, written_both}
use Rattle.run_text.proofs.words.put_asked.Goals as goal

pub returns-in_err-put_with_number : goal.returns-in_err-put_with_number
returns-in_err-put_with_number g c =
    ends_cut c.from_residual.result _ c.from_residual.ensures.1
    (cut_more (codes " = " ++ text_of_reply c.args.types.now c.args.reply.now)
    (cut_more (codes " " ++ command_text c.args.command.now) c.in_err-put_with_number.ensures))

pub returns-in_err-put : goal.returns-in_err-put
returns-in_err-put g c =
    ends_cut c.from_residual-in_err-put.result _ c.from_residual-in_err-put.ensures.1
    (cut_more (codes " = " ++ text_of_reply c.args.types.now c.args.reply.now)
    (cut_after c.in_ok-put_with_number.ensures (cut_more (command_text c.args.command.now) c.in_err-put.ensures)))

pub returns-in_err-put_command : goal.returns-in_err-put_command
returns-in_err-put_command g c =
    ends_cut c.from_residual-in_err-put_command.result _ c.from_residual-in_err-put_command.ensures.1
    (cut_more (codes " = " ++ text_of_reply c.args.types.now c.args.reply.now)
    (cut_after c.in_ok-put_with_number.ensures (cut_after c.in_ok-put.ensures c.in_err-put_command.ensures)))

pub returns-in_err-put-2 : goal.returns-in_err-put-2
returns-in_err-put-2 g c =
    ends_cut c.from_residual-in_err-put-2.result _ c.from_residual-in_err-put-2.ensures.1
    (cut_after (written_both c.in_ok-put_with_number.ensures (written_both c.in_ok-put.ensures c.in_ok-put_command.ensures))
    (cut_more (text_of_reply c.args.types.now c.args.reply.now) c.in_err-put-2.ensures))

pub returns : goal.returns
returns g c =
    let after = g.K.Sink.state c.put_reply.new.out in
    let reply = text_of_reply c.args.types.now c.args.reply.now in
    writes_after after (codes " = " ++ reply) c.put_reply.result
    (written_both c.in_ok-put_with_number.ensures (written_both c.in_ok-put.ensures c.in_ok-put_command.ensures))
    (writes_after after reply c.put_reply.result c.in_ok-put-2.ensures c.put_reply.ensures)
