-- Lines as they are gathered, with the cut that the last one leaves.
use Rattle.std.specs.Prelude.{◌≡◌, ℕ, suc, List, [], ◌∷◌}
use Rattle.client_session.specs.declared.command.Command.{Command}
use Rattle.client_session.specs.Replies.{Seen}
use Rattle.poet_serve.specs.declared.report.Line.{Line}
use Rattle.poet_serve.specs.Asking.{IsLine}

-- The lines are those of the commands from this place on, from one cut to another, each on as many
-- entries.
abbrev pub LeadTo : Seen → List Command → (place entries : ℕ) → (cut : List ℕ) → List Line
    → (last : List ℕ) → Type 0
LeadTo seen commands place entries cut [] last = last ≡ cut
LeadTo seen commands place entries cut (line ∷ lines) last = (after : List ℕ)
    × (line.at ≡ entries) × IsLine seen commands place entries cut line after
    × LeadTo seen commands (suc place) entries after lines last
