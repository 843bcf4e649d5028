use Rattle.std.proofs.Common.{sym, ◌∙◌}
use Rattle.client_session.proofs.cuts.cut_back_reply.Goals as goal

pub shown-requires : goal.shown-requires
shown-requires g c =
    let some = c.traces-traces.ensures.stands in
    let was = (c.requires some.0 some.1).is_cut.traces in
    let is = (c.in-Known.ensures.moved some.0 some.1).1.3.consistent.is_cut.traces in
    c.in_ok-room.ensures ∙ (was ∙ sym is)
