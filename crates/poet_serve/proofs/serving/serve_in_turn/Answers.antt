use Rattle.std.proofs.Common.{◌≡◌, List, length, sym, ◌∙◌, ap, subst}
use Rattle.std.specs.List.{AllByRecursion}
use Rattle.causal_base.specs.Types.{TypeTable}
use Rattle.event_book.specs.Feeding.{Delivers}
use Rattle.event_book.specs.declared.setup.Setup.{Setup}
use Rattle.poet_serve.specs.declared.report.ClientReport.{ClientReport}
use Rattle.poet_serve.specs.declared.report.CollectorReport.{CollectorReport}
use Rattle.poet_serve.specs.Transcripts.{AreTold, AreToldFrom, HadMemory, IsMadeInTurn, IsTranscript, collected_by, seen_by}
use Rattle.poet_serve.proofs.Lines.{told_whole}
use Rattle.poet_serve.proofs.Runs.{ended_by_parts, settled_parts, transcript}
use Rattle.poet_serve.proofs.Turns.{turn_settled}
use Rattle.poet_serve.proofs.serving.serve_in_turn.Goals as goal

pub ask_all-requires-clause-ended : goal.ask_all-requires-clause-ended
ask_all-requires-clause-ended g c =
    let all = collected_by g.S.Source.state c.args.sources.items c.collect_all.new.reports.items in
    let settled = c.settle_whole-settled.new.desk in
    let so_many : length all ≡ settled.setup.collectors = c.collect_all.ensures.as_many ∙ (sym c.requires.collectors ∙ ap (λ (s : Setup). s.collectors) (sym (c.settle_whole-settled.ensures.setup ∙ c.collect_all.ensures.setup))) in
    ended_by_parts settled.setup settled.journal all so_many
    (settled_parts c.args.desk.setup c.collect_all.new.desk.setup settled.setup c.args.types.now c.collect_all.new.desk.journal settled.journal all c.requires.types c.collect_all.ensures.setup c.settle_whole-settled.ensures.setup c.settle_whole-settled.ensures.delivers c.settle_whole-settled.ensures.is_journal c.collect_all.ensures.parts)

pub ask_last-closing-requires-clause-ended : goal.ask_last-closing-requires-clause-ended
ask_last-closing-requires-clause-ended g c =
    let all = collected_by g.S.Source.state c.args.sources.items c.collect_all.new.reports.items in
    let settled = c.settle_whole-settled.new.desk in
    let so_many : length all ≡ settled.setup.collectors = c.collect_all.ensures.as_many ∙ (sym c.requires.collectors ∙ ap (λ (s : Setup). s.collectors) (sym (c.settle_whole-settled.ensures.setup ∙ c.collect_all.ensures.setup))) in
    ended_by_parts settled.setup settled.journal all so_many
    (settled_parts c.args.desk.setup c.collect_all.new.desk.setup settled.setup c.args.types.now c.collect_all.new.desk.journal settled.journal all c.requires.types c.collect_all.ensures.setup c.settle_whole-settled.ensures.setup c.settle_whole-settled.ensures.delivers c.settle_whole-settled.ensures.is_journal c.collect_all.ensures.parts)

pub returns-clause-transcript : goal.returns-clause-transcript
returns-clause-transcript g c =
    let all = collected_by g.S.Source.state c.args.sources.items c.collect_all.new.reports.items in
    let settled = c.settle_whole-settled.new.desk in
    let same = c.settle_whole-settled.ensures.setup ∙ c.collect_all.ensures.setup in
    let so_many : length all ≡ settled.setup.collectors = c.collect_all.ensures.as_many ∙ (sym c.requires.collectors ∙ ap (λ (s : Setup). s.collectors) (sym same)) in
    let parts = settled_parts c.args.desk.setup c.collect_all.new.desk.setup settled.setup c.args.types.now c.collect_all.new.desk.journal settled.journal all c.requires.types c.collect_all.ensures.setup c.settle_whole-settled.ensures.setup c.settle_whole-settled.ensures.delivers c.settle_whole-settled.ensures.is_journal c.collect_all.ensures.parts in
    let told = subst (λ (reports : List ClientReport). AreTold (seen_by settled.setup settled.journal) c.args.scripts.now reports) (sym c.new-2.ensures) (told_whole (seen_by settled.setup settled.journal) (length settled.journal) c.args.scripts.now c.ask_all.new.reports.items c.ask_all.ensures) in
    subst (λ (reports : List (CollectorReport g.row.S.Denot)). IsTranscript c.args.desk.setup settled.journal (collected_by g.S.Source.state c.args.sources.items reports) c.args.scripts.now c.new-2.result c.args.closing.now c.ask_last-closing.result) (sym c.new.ensures)
    (transcript c.args.desk.setup settled.setup settled.journal all c.args.scripts.now c.new-2.result c.args.closing.now c.ask_last-closing.result same c.settle_whole-settled.ensures.is_journal so_many parts told c.ask_last-closing.ensures.told c.ask_last-closing.ensures.settled)

pub returns-clause-in_turn : goal.returns-clause-in_turn
returns-clause-in_turn g c =
    let all = collected_by g.S.Source.state c.args.sources.items c.collect_all.new.reports.items in
    let settled = c.settle_whole-settled.new.desk in
    let types_are : c.collect_all.new.desk.setup.types ≡ c.args.types.now = ap (λ (s : Setup). s.types) c.collect_all.ensures.setup ∙ sym c.requires.types in
    let delivers = subst (λ (types : TypeTable). Delivers types c.collect_all.new.desk.journal settled.journal) types_are c.settle_whole-settled.ensures.delivers in
    let made : (AllByRecursion HadMemory all → IsMadeInTurn c.args.types.now all settled.journal) = turn_settled c.legal_prefix.ensures c.args.types.now c.collect_all.new.desk.journal settled.journal all delivers c.collect_all.ensures.in_turn in
    subst (λ (reports : List (CollectorReport g.row.S.Denot)). AllByRecursion HadMemory (collected_by g.S.Source.state c.args.sources.items reports) → IsMadeInTurn c.args.desk.setup.types (collected_by g.S.Source.state c.args.sources.items reports) settled.journal) (sym c.new.ensures)
    (subst (λ (types : TypeTable). AllByRecursion HadMemory all → IsMadeInTurn types all settled.journal) c.requires.types made)

pub returns-clause-one_each : goal.returns-clause-one_each
returns-clause-one_each g c = ap length c.new.ensures ∙ c.collect_all.ensures.one_each

pub returns-clause-clients_whole : goal.returns-clause-clients_whole
returns-clause-clients_whole g c =
    let settled = c.settle_whole-settled.new.desk in
    let same = c.settle_whole-settled.ensures.setup ∙ c.collect_all.ensures.setup in
    subst (λ (setup : Setup). AreToldFrom (seen_by setup settled.journal) (length settled.journal) c.args.scripts.now c.new-2.result) same
    (subst (λ (reports : List ClientReport). AreToldFrom (seen_by settled.setup settled.journal) (length settled.journal) c.args.scripts.now reports) (sym c.new-2.ensures) c.ask_all.ensures)
