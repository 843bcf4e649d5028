use Rattle.std.proofs.Common.{◌∙◌, ap, subst}
use Rattle.std.proofs.Common.{Option}
use Rattle.event_book.specs.declared.report.FeedReport.{FeedReport}
use Rattle.event_book.specs.declared.report.FeedStop.{FeedStop}
use Rattle.event_book.specs.declared.report.FeedStop.TheVariants.{Oom}
use Rattle.event_book.specs.FeedStops.{IsFeedStop}
use Rattle.poet_serve.proofs.Batches.{fed_more, fits_fed, fits_full, fits_so_far, full_cut, memory_cut, open_fed, open_full, open_so_far}
use Rattle.poet_serve.proofs.collecting.feed_batch.Goals as goal

pub add-requires : goal.add-requires
add-requires c = fits_fed c.args.desk.now.setup.types c.args.collector c.args.desk.now.journal c.feed.new.self.journal c.args.batch c.args.tally.now c.in-Ok.report c.requires.few c.in-Ok.ensures.ok

pub returns-in-Ok-clause-ok : goal.returns-in-Ok-clause-ok
returns-in-Ok-clause-ok c start events has = fed_more c.args.desk.now.setup.types c.args.collector c.args.desk.now.journal c.feed.new.self.journal c.args.batch start events c.args.tally.now c.add.new.self has c.in-Ok.report c.add.ensures c.in-Ok.ensures.ok

pub returns-in-Ok-clause-open : goal.returns-in-Ok-clause-open
returns-in-Ok-clause-open c = open_fed c.args.desk.now.setup.types c.args.collector c.args.desk.now.journal c.feed.new.self.journal c.args.batch c.in-Ok.report c.requires.open c.in-Ok.ensures.ok

-- at the limit

pub add-requires-in-Err-Full : goal.add-requires-in-Err-Full
add-requires-in-Err-Full c =
    let full = subst (λ (stop : FeedStop). IsFeedStop c.args.desk.now.setup.types c.args.collector c.args.batch c.args.desk.now.journal c.feed.new.self.journal stop) c.in-Err-Full.field-0-is c.in-Err-Full.ensures.err in
    fits_full c.args.desk.now.setup.types c.args.collector c.args.desk.now.journal c.feed.new.self.journal c.args.batch c.args.tally.now c.in-Err-Full.id c.in-Err-Full.report c.requires.few full

pub returns-in-Err-Full-clause-err : goal.returns-in-Err-Full-clause-err
returns-in-Err-Full-clause-err c start events has =
    let full = subst (λ (stop : FeedStop). IsFeedStop c.args.desk.now.setup.types c.args.collector c.args.batch c.args.desk.now.journal c.feed.new.self.journal stop) c.in-Err-Full.field-0-is c.in-Err-Full.ensures.err in
    full_cut c.args.desk.now.setup.types c.args.collector c.args.desk.now.journal c.feed.new.self.journal c.args.batch start events c.args.tally.now c.add-in-Err-Full.new.self has c.in-Err-Full.id c.in-Err-Full.report c.add-in-Err-Full.ensures full

pub returns-in-Err-Full-clause-open : goal.returns-in-Err-Full-clause-open
returns-in-Err-Full-clause-open c =
    let full = subst (λ (stop : FeedStop). IsFeedStop c.args.desk.now.setup.types c.args.collector c.args.batch c.args.desk.now.journal c.feed.new.self.journal stop) c.in-Err-Full.field-0-is c.in-Err-Full.ensures.err in
    open_full c.args.desk.now.setup.types c.args.collector c.args.desk.now.journal c.feed.new.self.journal c.args.batch c.in-Err-Full.id c.in-Err-Full.report c.requires.open full

-- where memory ran out

pub add-requires-in-Some : goal.add-requires-in-Some
add-requires-in-Some c =
    let cut = subst (λ (stop : FeedStop). IsFeedStop c.args.desk.now.setup.types c.args.collector c.args.batch c.args.desk.now.journal c.feed.new.self.journal stop) (c.in-Err-Oom.field-0-is ∙ ap (λ (r : Option FeedReport). Oom c.in-Err-Oom.field-0-0 r) c.in-Some.is) c.in-Err-Oom.ensures.err in
    fits_so_far c.args.desk.now.setup.types c.args.collector c.args.desk.now.journal c.feed.new.self.journal c.args.batch c.args.tally.now c.in-Err-Oom.field-0-0 c.in-Some.report c.requires.few cut

pub returns-in-Some-clause-err : goal.returns-in-Some-clause-err
returns-in-Some-clause-err c start events has =
    let cut = subst (λ (stop : FeedStop). IsFeedStop c.args.desk.now.setup.types c.args.collector c.args.batch c.args.desk.now.journal c.feed.new.self.journal stop) (c.in-Err-Oom.field-0-is ∙ ap (λ (r : Option FeedReport). Oom c.in-Err-Oom.field-0-0 r) c.in-Some.is) c.in-Err-Oom.ensures.err in
    memory_cut c.args.desk.now.setup.types c.args.collector c.args.desk.now.journal c.feed.new.self.journal c.args.batch start events c.args.tally.now c.add-in-Some.new.self has c.in-Err-Oom.field-0-0 c.in-Some.report c.add-in-Some.ensures cut

pub returns-in-Some-clause-open : goal.returns-in-Some-clause-open
returns-in-Some-clause-open c =
    let cut = subst (λ (stop : FeedStop). IsFeedStop c.args.desk.now.setup.types c.args.collector c.args.batch c.args.desk.now.journal c.feed.new.self.journal stop) (c.in-Err-Oom.field-0-is ∙ ap (λ (r : Option FeedReport). Oom c.in-Err-Oom.field-0-0 r) c.in-Some.is) c.in-Err-Oom.ensures.err in
    open_so_far c.args.desk.now.setup.types c.args.collector c.args.desk.now.journal c.feed.new.self.journal c.args.batch c.in-Err-Oom.field-0-0 c.in-Some.report c.requires.open cut
