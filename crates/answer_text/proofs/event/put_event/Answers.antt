use Rattle.std.proofs.Common.{◌++◌, subst}
use Rattle.std.specs.Prelude.{codes, decimal}
use Rattle.causal_base.specs.Spelling.{name_of, mate_text, text_part}
use Rattle.causal_base.proofs.CallerLemmas.{type_in_range}
use Rattle.poet_io.specs.Writes.{IsWritten, IsCutShort, Writes}
use Rattle.poet_io.proofs.CallerLemmas.{cut_after, cut_more, ends_cut, writes_after}
use Rattle.answer_text.proofs.event.put_event.Goals as goal

pub name-requires : goal.name-requires
name-requires g c = type_in_range c.args.types.now c.args.event.now c.requires

pub returns-in_err-put_id : goal.returns-in_err-put_id
returns-in_err-put_id g c = ends_cut c.from_residual.result _ c.from_residual.ensures.1 (cut_more _ c.in_err-put_id.ensures)

pub returns-in_err-put : goal.returns-in_err-put
returns-in_err-put g c =
    ends_cut c.from_residual-in_err-put.result _ c.from_residual-in_err-put.ensures.1
    (cut_after c.in_ok-put_id.ensures (cut_more _ c.in_err-put.ensures))

pub returns-in_err-put-2 : goal.returns-in_err-put-2
returns-in_err-put-2 g c =
    let state = g.K.Sink.state in
    let name = subst (IsCutShort (state c.put.new.out) (state c.put-2.new.out)) c.name.ensures c.in_err-put-2.ensures in
    ends_cut c.from_residual-in_err-put-2.result _ c.from_residual-in_err-put-2.ensures.1
    (cut_after c.in_ok-put_id.ensures (cut_after c.in_ok-put.ensures (cut_more _ name)))

pub returns-in_err-put-3 : goal.returns-in_err-put-3
returns-in_err-put-3 g c =
    let state = g.K.Sink.state in
    let name = subst (IsWritten (state c.put.new.out) (state c.put-2.new.out)) c.name.ensures c.in_ok-put-2.ensures in
    ends_cut c.from_residual-in_err-put-3.result _ c.from_residual-in_err-put-3.ensures.1
    (cut_after c.in_ok-put_id.ensures (cut_after c.in_ok-put.ensures (cut_after name (cut_more _ c.in_err-put-3.ensures))))

pub returns-in_err-put_mate : goal.returns-in_err-put_mate
returns-in_err-put_mate g c =
    let state = g.K.Sink.state in
    let name = subst (IsWritten (state c.put.new.out) (state c.put-2.new.out)) c.name.ensures c.in_ok-put-2.ensures in
    ends_cut c.from_residual-in_err-put_mate.result _ c.from_residual-in_err-put_mate.ensures.1
    (cut_after c.in_ok-put_id.ensures (cut_after c.in_ok-put.ensures (cut_after name
    (cut_after c.in_ok-put-3.ensures (cut_more _ c.in_err-put_mate.ensures)))))

pub returns-in_err-put-4 : goal.returns-in_err-put-4
returns-in_err-put-4 g c =
    let state = g.K.Sink.state in
    let name = subst (IsWritten (state c.put.new.out) (state c.put-2.new.out)) c.name.ensures c.in_ok-put-2.ensures in
    ends_cut c.from_residual-in_err-put-4.result _ c.from_residual-in_err-put-4.ensures.1
    (cut_after c.in_ok-put_id.ensures (cut_after c.in_ok-put.ensures (cut_after name
    (cut_after c.in_ok-put-3.ensures (cut_after c.in_ok-put_mate.ensures (cut_more _ c.in_err-put-4.ensures))))))

pub returns-in_err-put_number : goal.returns-in_err-put_number
returns-in_err-put_number g c =
    let state = g.K.Sink.state in
    let name = subst (IsWritten (state c.put.new.out) (state c.put-2.new.out)) c.name.ensures c.in_ok-put-2.ensures in
    ends_cut c.from_residual-in_err-put_number.result _ c.from_residual-in_err-put_number.ensures.1
    (cut_after c.in_ok-put_id.ensures (cut_after c.in_ok-put.ensures (cut_after name
    (cut_after c.in_ok-put-3.ensures (cut_after c.in_ok-put_mate.ensures (cut_after c.in_ok-put-4.ensures (cut_more _ c.in_err-put_number.ensures)))))))

pub returns : goal.returns
returns g c =
    let state = g.K.Sink.state in
    let event = c.args.event.now in
    let after = state c.put_text.new.out in
    let result = c.put_text.result in
    let name = subst (IsWritten (state c.put.new.out) (state c.put-2.new.out)) c.name.ensures c.in_ok-put-2.ensures in
    let text = subst (λ bytes. Writes (state c.put_number.new.out) after (text_part bytes) result) c.bytes.ensures c.put_text.ensures in
    let from_time = decimal event.time ++ text_part event.text in
    let from_mate = mate_text event.mate ++ (codes " " ++ from_time) in
    let from_name = name_of c.args.types.now event.type_no ++ (codes " " ++ from_mate) in
    writes_after after (codes " " ++ from_name) result c.in_ok-put_id.ensures
    (writes_after after from_name result c.in_ok-put.ensures
    (writes_after after (codes " " ++ from_mate) result name
    (writes_after after from_mate result c.in_ok-put-3.ensures
    (writes_after after (codes " " ++ from_time) result c.in_ok-put_mate.ensures
    (writes_after after from_time result c.in_ok-put-4.ensures
    (writes_after after (text_part event.text) result c.in_ok-put_number.ensures text))))))
