use Rattle.std.proofs.Common.{◌∙◌, ap, arith}
use Rattle.std.specs.Option.{option_copied}
use Rattle.journal.specs.Delivered.{delivered_at}
use Rattle.event_book.specs.Views.{ViewState}
use Rattle.event_book.proofs.Viewing.{each_journal, no_journal, number_least, told_none, told_some, trace_within}
use Rattle.event_book.proofs.view.ViewCausal.event.Goals as goal

pub returns-then-id-ge-MOST_TRACES-clause-none : goal.returns-then-id-ge-MOST_TRACES-clause-none
returns-then-id-ge-MOST_TRACES-clause-none c journal is there = let low = trace_within c.args.self.now journal is c.args.id there in omega (arith, low)

pub returns-then-id-eq0-clause-none : goal.returns-then-id-eq0-clause-none
returns-then-id-eq0-clause-none c journal is there = let least = number_least c.args.self.now journal is c.args.id there in omega (arith, least)

pub returns-clause-some : goal.returns-clause-some
returns-clause-some c =
    let told = c.event.ensures ∙ ap (λ (v : ViewState). delivered_at v.delivered c.args.id) c.self.view_is in
    each_journal c.args.self.now c.args.id c.event.result (λ journal is. told_some c.args.self.now journal is c.args.id (omega arith) (omega arith) (option_copied c.event.result) told)

pub returns-clause-none : goal.returns-clause-none
returns-clause-none c =
    let told = c.event.ensures ∙ ap (λ (v : ViewState). delivered_at v.delivered c.args.id) c.self.view_is in
    no_journal c.args.self.now c.args.id c.event.result (λ journal is. told_none c.args.self.now journal is c.args.id (omega arith) (omega arith) (option_copied c.event.result) told)
