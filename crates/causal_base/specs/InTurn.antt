use Rattle.std.specs.Prelude.{◌≡◌, ℕ, suc, ◌<◌, ◌≤◌, ◌⊎◌, List, [], ◌∷◌, ◌++◌, length}
use Rattle.std.specs.List.{AllByRecursion}
use Rattle.causal_base.specs.declared.entry.Entry.{Entry}
use Rattle.causal_base.specs.declared.entry.Entry.TheVariants.{Came, Gone, Pair, Ended}
use Rattle.causal_base.specs.declared.event.Event.{Event}
use Rattle.causal_base.specs.Types.{TypeTable}
use Rattle.causal_base.specs.Past.{HasEvent}
use Rattle.causal_base.specs.Journal.{IsLegal, IsSettled, came_by}

-- the entry delivers something
abbrev pub DeliversSomething : Entry → Type 0
DeliversSomething (Came collector e) = ⊥
DeliversSomething (Gone a) = Unit {0}
DeliversSomething (Pair a b) = Unit {0}
DeliversSomething (Ended collector) = ⊥

-- A journal goes on by deliveries alone, one Next after another, until there is none.
pub record SettlesTo (types : TypeTable) (before after : List Entry) : Type 0 where
  pub more : List Entry
  pub goes_on : after ≡ before ++ more
  pub delivers : AllByRecursion DeliversSomething more
  pub legal : IsLegal types after
  pub settled : IsSettled types after

-- An event with a new id comes, where fewer came than the limit, and all that is enabled then is
-- delivered.
pub record ComesInTurn (types : TypeTable) (limit collector : ℕ) (before : List Entry) (e : Event)
    (after : List Entry) : Type 0 where
  pub new : HasEvent (came_by before) e.id → ⊥
  pub room : length (came_by before) < limit
  pub settles : SettlesTo types (before ++ Came collector e ∷ []) after

-- An event with a new id meets as many as the limit.
pub record MeetsLimit (limit : ℕ) (before : List Entry) (e : Event) : Type 0 where
  pub new : HasEvent (came_by before) e.id → ⊥
  pub full : limit ≤ length (came_by before)

-- One thread takes the events of a collector in turn: one whose id came before is passed over, and
-- a new one comes. The collector ends at the end of its events, or at the first that meets the
-- limit.
abbrev pub TakesInTurn : TypeTable → ℕ → ℕ → List Event → List Entry → List Entry → Type 0
TakesInTurn types limit collector [] before after = after ≡ before ++ Ended collector ∷ []
TakesInTurn types limit collector (e ∷ events) before after =
    (HasEvent (came_by before) e.id × TakesInTurn types limit collector events before after)
    ⊎ ((MeetsLimit limit before e × (after ≡ before ++ Ended collector ∷ []))
    ⊎ ((between : List Entry) × ComesInTurn types limit collector before e between
    × TakesInTurn types limit collector events between after))

-- the lists of events of several collectors, one list after another, from the collector of this
-- number on
abbrev pub TakesAllInTurn : TypeTable → ℕ → ℕ → List (List Event) → List Entry → List Entry → Type 0
TakesAllInTurn types limit collector [] before after = after ≡ before
TakesAllInTurn types limit collector (events ∷ lists) before after = (between : List Entry)
    × TakesInTurn types limit collector events before between
    × TakesAllInTurn types limit (suc collector) lists between after

-- the journal that one thread makes of lists of events, one list a collector
abbrev pub IsInTurn : TypeTable → ℕ → List (List Event) → List Entry → Type 0
IsInTurn types limit lists journal = TakesAllInTurn types limit 0 lists [] journal
