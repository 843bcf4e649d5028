use Rattle.std.proofs.Common.{refl}
use Rattle.causal_base.specs.Journal.{delivered_by}
use Rattle.precedence.proofs.laws.laws.Goals as goal

pub returns : goal.returns
returns c w = record {
  on_a_trace = c.delivered_is_on_a_trace.ensures w.types w.journal w.legal;
  numbered = λ e there. ((c.delivered_are_numbered.ensures w.types w.journal w.legal e.id.trace e.id.number).1 (e, there, refl, refl)).0;
  clock_is_one = c.clock_is_one.ensures w.types (delivered_by w.journal);
  clock_exists = c.clock_exists.ensures w.types w.journal w.legal;
  tells_reach = c.clock_tells_reach.ensures w.types w.journal w.legal;
  grows = c.clock_grows_along_walks.ensures w.types w.journal w.legal;
  own_history = c.own_history_has_clock.ensures w.types w.journal w.legal;
  entries = λ e there trace outside n clock. (c.clock_is_greatest_of_entries.ensures w.types w.clustering w.journal w.legal e there trace outside n).0 clock;
  entry_reaches = c.entry_is_found.ensures.reaches w.types w.clustering w.journal w.legal;
  entry_is_one = c.entry_is_found.ensures.one w.types w.clustering w.journal w.legal;
  level_least = c.level_is_in_range.ensures.least w.clustering w.journal;
  few_members = c.members_are_few.ensures.few w.clustering w.journal;
  all_members = c.members_are_few.ensures.all w.clustering w.journal;
  bound_sizes = c.bound_by_level.ensures.sizes;
}
