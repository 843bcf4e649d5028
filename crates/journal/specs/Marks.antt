-- What is kept of each entry, beside the events that came.
use Rattle.std.specs.Prelude.{List, Option, Some, slice_get, option_and_then}
use Rattle.std.specs.List.{flat_map}
use Rattle.std.specs.Option.{option_map, option_to_list}
use Rattle.causal_base.specs.declared.entry.Entry.{Entry}
use Rattle.causal_base.specs.declared.entry.Entry.TheVariants as owned
use Rattle.causal_base.specs.declared.event.Event.{Event}
use Rattle.journal.specs.declared.mark.Mark.{Mark}
use Rattle.journal.specs.declared.mark.Mark.TheVariants.{Came, Gone, Pair, Ended}

-- the entry that a mark stands for, among these events
abbrev pub entry_of : List Event → Mark → Option Entry
entry_of events (Came collector place) = option_map (λ e. owned.Came collector e)
    (slice_get events place)
entry_of events (Gone place) = option_map (λ e. owned.Gone e.id) (slice_get events place)
entry_of events (Pair first second) = option_and_then
    (λ a. option_map (λ b. owned.Pair a.id b.id) (slice_get events second)) (slice_get events first)
entry_of events (Ended collector) = Some (owned.Ended collector)

-- the entries that marks stand for
abbrev pub entries_of : List Event → List Mark → List Entry
entries_of events marks = flat_map (λ mark. option_to_list (entry_of events mark)) marks
