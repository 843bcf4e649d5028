use Rattle.std.proofs.Common.{◌∙◌}
use Rattle.causal_base.specs.Journal.{delivered_by}
use Rattle.cut_scroll.specs.Cuts.{IsGreatestWithout, IsLeastWith}
use Rattle.order_tests.proofs.Keeping.{consistent_after}
use Rattle.order_tests.proofs.cuts.go.Goals as goal

pub returns-in-Clear-clause-consistent : goal.returns-in-Clear-clause-consistent
returns-in-Clear-clause-consistent g c journal stands =
    c.ends_are_consistent.ensures.empty (g.C.Causal.types c.args.book.now) journal (g.C.Causal.legal c.args.book.now journal stands) c.clear.new.self (c.clear.ensures.length ∙ c.requires.length) c.clear.ensures.empty

pub returns-in-All-clause-consistent : goal.returns-in-All-clause-consistent
returns-in-All-clause-consistent g c journal stands =
    c.ends_are_consistent.ensures.whole (g.C.Causal.types c.args.book.now) journal (g.C.Causal.legal c.args.book.now journal stands) c.all.new.self (c.all.ensures.length ∙ c.requires.length) (c.all.ensures.all journal stands)

pub returns-in-To-clause-consistent : goal.returns-in-To-clause-consistent
returns-in-To-clause-consistent g c journal stands =
    let types = g.C.Causal.types c.args.book.now in
    let events = delivered_by journal in
    consistent_after types events c.id_of.result c.args.cut.now c.to-answer.new.self (λ e. IsLeastWith types events c.args.cut.now e c.to-answer.new.self) (λ e moves. moves.consistent) c.to-answer.result (c.to-answer.ensures.moved journal stands) c.to-answer.ensures.stays (c.requires.consistent journal stands)

pub returns-in-Back-clause-consistent : goal.returns-in-Back-clause-consistent
returns-in-Back-clause-consistent g c journal stands =
    let types = g.C.Causal.types c.args.book.now in
    let events = delivered_by journal in
    consistent_after types events c.id_of-in-Back.result c.args.cut.now c.back-answer.new.self (λ e. IsGreatestWithout types events c.args.cut.now e c.back-answer.new.self) (λ e moves. moves.consistent) c.back-answer.result (c.back-answer.ensures.moved journal stands) c.back-answer.ensures.stays (c.requires.consistent journal stands)
