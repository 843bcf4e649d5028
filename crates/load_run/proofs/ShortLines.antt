-- The lines of short events are a short text, which is read back.
use Rattle.std.proofs.Common.{ℕ, ◌*◌, ◌≤◌, List, [], ◌∷◌, ◌++◌, length, arith}
use Rattle.std.specs.Prelude.{All}
use Rattle.std.specs.List.{AllByRecursion}
use Rattle.std.proofs.lemmas.List.{length-append}
use Rattle.std.proofs.lemmas.List.Elements.{All-filter, recursion_from_All}
use Rattle.std.proofs.lemmas.List.Sums.{count_by-le-length, length-filter}
use Rattle.causal_base.specs.declared.event.Event.{Event}
use Rattle.causal_base.specs.Event.{IsFit}
use Rattle.causal_base.specs.Spelling.{spelling}
use Rattle.causal_base.specs.Types.{TypeTable}
use Rattle.raw_reader.specs.declared.limits.TheConstants.{MOST_INPUT}
use Rattle.load_run.specs.Loads.{IsLoadable}
use Rattle.load_run.specs.LoadTexts.{lines_of, share, shares}
use Rattle.load_run.proofs.Parting.{is_in_share}
use Rattle.load_run.proofs.Readings.{AreReadBack}

-- the spelling of the event has at most 31 bytes
abbrev IsShort : TypeTable → Event → Type 0
IsShort types e = length (spelling types e) ≤ 31

-- a line has one byte more
lines_short : (types : TypeTable) (its : List Event) → AllByRecursion (IsShort types) its → length (lines_of types its) ≤ 32 * length its
lines_short types [] short = omega arith
lines_short types (e ∷ its) short =
    let rest = lines_short types its short.1 in
    let line = spelling types e ++ 10 ∷ [] in
    omega (arith, short.0, rest, length-append (spelling types e) (10 ∷ []), length-append line (lines_of types its))

module _ (types : TypeTable) (events : List Event) (loadable : IsLoadable types events)
    (read_back : (its : List Event) → All (IsFit types) its → length (lines_of types its) ≤ MOST_INPUT → AreReadBack types its) where
  -- the text of a collector is read back
  share_read_back : (collector : ℕ) → AreReadBack types (share events collector)
  share_read_back collector =
      let its = share events collector in
      let short = lines_short types its (recursion_from_All (IsShort types) its (All-filter (is_in_share collector) (IsShort types) events loadable.short)) in
      let fewer = length-filter (is_in_share collector) events in
      let counted = count_by-le-length (is_in_share collector) events in
      read_back its (All-filter (is_in_share collector) (IsFit types) events loadable.fit) (omega (arith, short, fewer, counted, loadable.few))

  -- and so are all of them
  pub shares_read_back : AllByRecursion (AreReadBack types) (shares events)
  shares_read_back = (share_read_back 0, (share_read_back 1, (share_read_back 2, tt)))
