use Rattle.text_buffer.proofs.HandedOn.{gathers_handed}
use Rattle.text_buffer.proofs.buffer.Buffer.hand_on_if_full.Goals as goal

pub returns : goal.returns
returns g c =
    gathers_handed (g.K.Sink.state c.args.out.now) (g.K.Sink.state c.hand_on.new.out) c.args.self.now c.hand_on.new.self c.hand_on.result c.hand_on.ensures.empty c.hand_on.ensures.writes
