use Rattle.std.proofs.Common.{◌∙◌, ap, sym, subst}
use Rattle.causal_base.specs.Journal.{IsLegal}
use Rattle.causal_base.specs.Types.{TypeTable}
use Rattle.event_book.specs.Feeding.{no_report}
use Rattle.poet_serve.specs.declared.report.Stop.TheVariants.{Memory}
use Rattle.poet_serve.specs.Collecting.{told_by}
use Rattle.poet_serve.specs.Tallies.{tally_of}
use Rattle.poet_serve.proofs.Sources.{collected, none_brought, same_told}
use Rattle.poet_serve.proofs.collecting.collect_in_turn.Goals as goal

pub returns-clause-collected : goal.returns-clause-collected
returns-clause-collected g c =
    let state = g.S.Source.state in
    collected c.args.types.now c.args.collector c.args.desk.now.journal c.read_and_feed-stop.new.desk.journal c.end_collector-2.new.desk.journal (state c.args.source) (state c.read_and_feed-stop.new.source) (state c.into_report.result.source)
    c.read_and_feed-stop.result c.read_and_feed-stop.new.tally (told_by c.into_report.result) c.read_and_feed-stop.ensures.brought (ap (λ d. d.journal) c.end_collector-2.ensures.ended) (ap state c.into_report.ensures.source) c.into_report.ensures.counts

pub returns-in_default-clause-collected : goal.returns-in_default-clause-collected
returns-in_default-clause-collected g c =
    let state = g.S.Source.state in
    let legal = subst (λ (t : TypeTable). IsLegal t c.args.desk.now.journal) (sym c.requires.types) c.setup-setup.ensures.is_journal.legal in
    collected c.args.types.now c.args.collector c.args.desk.now.journal c.args.desk.now.journal c.end_collector.new.desk.journal (state c.args.source) (state c.args.source) (state c.nothing_read.result.source)
    Memory (tally_of no_report) (told_by c.nothing_read.result) (none_brought c.args.types.now c.args.collector c.args.desk.now.journal (state c.args.source) legal) (ap (λ d. d.journal) c.end_collector.ensures.ended) (ap state c.nothing_read.ensures.source)
    (λ counted is. c.nothing_read.ensures.told ∙ same_told no_report counted Memory is)
