use Rattle.std.proofs.Common.{◌≡◌, ℕ, false, List, sym, ◌∙◌, ap, subst}
use Rattle.std.specs.List.{AllByRecursion, list_any}
use Rattle.causal_base.specs.Types.{TypeTable}
use Rattle.event_book.specs.Desks.{DeskState}
use Rattle.poet_serve.specs.declared.report.CollectorReport.{CollectorReport}
use Rattle.poet_serve.specs.Transcripts.{HadMemory, HaveParts, IsMadeInTurn, collected_by}
use Rattle.causal_base.specs.declared.limits.TheConstants.{MOST_EVENTS}
use Rattle.load_run.specs.Loads.{is_memory}
use Rattle.load_run.specs.LoadTexts.{never_failing}
use Rattle.load_run.proofs.Memory.{none_ran_out}
use Rattle.load_run.proofs.Readings.{shares_in_turn}
use Rattle.load_run.proofs.ShortLines.{shares_read_back}
use Rattle.load_run.proofs.loading.serve.Goals as goal

pub returns-clause-in_turn : goal.returns-clause-in_turn
returns-clause-in_turn c = λ events loadable are.
    let types = c.args.types.now in
    let sources = c.args.sources.items in
    let reports = c.in-Ok.run'.collectors in
    let journal = c.in-Ok.run'.desk.journal in
    let ran_out = λ (report : CollectorReport (List ℕ)). is_memory report.stop in
    let none : list_any ran_out reports ≡ false = sym (ap (list_any ran_out) c.as_slice.ensures) ∙ (sym c.ran_out.ensures ∙ c.if-ran_out.false) in
    let had = none_ran_out never_failing sources reports none in
    let same : c.in_ok-desk.desk.setup.types ≡ types = ap (λ (desk : DeskState). desk.setup.types) c.in_ok-desk.ensures ∙ c.in_ok-copy.ensures in
    let parts = subst (λ (table : TypeTable). HaveParts table journal 0 (collected_by never_failing sources reports)) same c.in-Ok.ensures.transcript.parts in
    let made = subst (λ (table : TypeTable). IsMadeInTurn table (collected_by never_failing sources reports) journal) same (c.in-Ok.ensures.in_turn had) in
    shares_in_turn types c.traces-traces.ensures.table journal events loadable.few
    (shares_read_back types events loadable (c.lines_are_read_back.ensures types))
    (λ lists in_turn. c.in_turn_takes_all.ensures.no_more types MOST_EVENTS lists journal in_turn)
    reports (c.in-Ok.ensures.one_each ∙ c.requires.collectors)
    (subst (λ texts. HaveParts types journal 0 (collected_by never_failing texts reports)) are parts)
    (subst (λ texts. AllByRecursion HadMemory (collected_by never_failing texts reports)) are had)
    (subst (λ texts. IsMadeInTurn types (collected_by never_failing texts reports) journal) are made)
