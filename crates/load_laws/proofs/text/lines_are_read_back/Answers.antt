use Rattle.std.proofs.Common.{refl, sym, map, ◌++◌, ◌∷◌, []}
use Rattle.std.proofs.lemmas.List.Elements.{recursion_from_All}
use Rattle.std.proofs.lemmas.List.Folds.{flat_map-map}
use Rattle.causal_base.specs.Event.{IsFit}
use Rattle.raw_reader.specs.Texts.{TextLine, says, batches_of, closed_off, line_bytes}
use Rattle.load_laws.proofs.LinesOfEvents.{events_of-lines, says_fit}
use Rattle.load_laws.proofs.text.lines_are_read_back.Goals as goal

pub returns : goal.returns
returns c types events fit within = (
  (closed_off (batches_of (map says events))).closed,
  record {
    lines = map says events;
    fit = says_fit types events (recursion_from_All (IsFit types) events fit);
    whole = sym (flat_map-map (λ (line : TextLine). line_bytes types line ++ 10 ∷ []) says events);
    within = within;
    closed = refl;
  },
  events_of-lines events,
)
