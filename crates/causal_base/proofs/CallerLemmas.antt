-- The lemmas that the proofs of other crates cite.
pub use Rattle.causal_base.proofs.Counting.{All-from_members, and_true, count_by_agree, count_by-cons, count_by_skip}
pub use Rattle.causal_base.proofs.Decimals.{below_two_to_64, own_digits}
pub use Rattle.causal_base.proofs.Histories.{Contains-there_events, fits_no, numbered, reaches_back, reaches_grows, same_name, walk_back}
pub use Rattle.causal_base.proofs.IdTexts.{fault_excludes, id_once, no_id_unsplit, number_once}
pub use Rattle.causal_base.proofs.Ids.{event_of-member, event_of-only, is_same_id-same, make_id, same_from_is_same_id, same_id}
pub use Rattle.causal_base.proofs.Indexes.{counts_next, same_from_is_at}
pub use Rattle.causal_base.proofs.Journals.{came-append, delivered-gone, delivered-pair, reverse-push}
pub use Rattle.causal_base.proofs.ClockLimits.{IsLimit, clock_from_limit, reaches_later}
pub use Rattle.causal_base.proofs.Members.{Contains-cons, Contains-here, Contains-nil, Contains-one, Contains-there}
pub use Rattle.causal_base.proofs.Newest.{Contains-newest, Contains-split, ReachesSource, goes_by_source, newest_is_new, newest_is_next, newest_reach, pairs_swapped, partner_is_new, ready_no_sync}
pub use Rattle.causal_base.proofs.Numbered.{IsNumbered, count_on-grows, count_on-other, count_on-same, event_at, number_within, same_event}
pub use Rattle.causal_base.proofs.OnceSplit.{has_none, split_in_one_way, unsplit}
pub use Rattle.causal_base.proofs.LegalPasts.{delivered_from_number, delivered_numbered, history_of_past, number_from_delivered}
pub use Rattle.causal_base.proofs.Partners.{AreNextPartners, enabled_event, enabled_from_partners, enabled_pair, enabled_with, next_of_trace_is_one, pair_came, partners_from_enabled}
pub use Rattle.causal_base.proofs.Ready.{cause_is_named, count-le-came, count-le-most, delivered_from_number_among, delivered_numbered_among, enabled_from_ready, event_of-among, length-delivered, length-delivered-lt, mate_in_range, number_from_delivered_among, ready_from_enabled, trace_of_enabled, type_in_range}
pub use Rattle.causal_base.proofs.Pasts.{came_fit, causal, delivered_came, deliveries-next, delivery_inside, delivery_of-one, delivery_of-two, event_of-came, same_came}
pub use Rattle.causal_base.proofs.Pigeons.{without}
pub use Rattle.causal_base.proofs.Reaching.{reaches_itself, reaches_on, reaches_step, step_reaches}
pub use Rattle.causal_base.proofs.RefusalLemmas.{first_of_more, first_of_some, passed_both, passed_first}
