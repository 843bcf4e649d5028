use Rattle.causal_base.specs.declared.entry.Entry.{Entry}
use Rattle.causal_base.specs.declared.entry.Entry.TheVariants as owned
use Rattle.causal_base.specs.declared.entry.EntryRef.{EntryRef}
use Rattle.causal_base.specs.declared.entry.EntryRef.TheVariants.{Came, Gone, Pair, Ended}

-- the entry that a borrowed one stands for
abbrev pub entry_of : EntryRef → Entry
entry_of (Came collector e) = owned.Came collector e.now
entry_of (Gone a) = owned.Gone a
entry_of (Pair a b) = owned.Pair a b
entry_of (Ended collector) = owned.Ended collector
