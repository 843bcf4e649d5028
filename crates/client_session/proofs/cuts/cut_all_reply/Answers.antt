use Rattle.std.proofs.Common.{◌∙◌}
use Rattle.client_session.proofs.cuts.cut_all_reply.Goals as goal

pub returns-clause-consistent : goal.returns-clause-consistent
returns-clause-consistent g c journal stands =
    let types = g.B.Causal.types c.args.book.now in
    c.ends_are_consistent.ensures.whole types journal (g.B.Causal.legal c.args.book.now journal stands) c.all.new.self
    (c.all.ensures.length ∙ (c.requires journal stands).is_cut.traces) (c.all.ensures.all journal stands)
