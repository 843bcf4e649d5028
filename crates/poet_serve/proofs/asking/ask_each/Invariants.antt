use Rattle.std.proofs.Common.{◌≡◌, ℕ, List, length}
use Rattle.causal_base.specs.Journal.{delivered_by}
use Rattle.client_session.specs.Replies.{IsEmptyCut}
use Rattle.cut_scroll.specs.Cuts.{IsConsistent}
use Rattle.poet_serve.specs.Chains.{LeadTo}
use Rattle.poet_serve.specs.Transcripts.{seen_by}
use Rattle.poet_serve.proofs.asking.ask_each.Given as goal

-- the lines so far lead to the session's cut, which is consistent
abbrev pub invariant-loop-place : goal.invariant-loop-place
invariant-loop-place l = record {
  cut : List ℕ;
  empty : IsEmptyCut l.types.traces cut;
  leads : LeadTo (seen_by l.desk.setup l.desk.journal) l.script 0 (length l.desk.journal) cut l.lines.items l.session;
  so_many : length l.lines.items ≡ l.place;
  consistent : IsConsistent l.types (delivered_by l.desk.journal) l.session;
}

-- nobody counts these steps
abbrev pub ghosts-ask_one : goal.ghosts-ask_one
ghosts-ask_one a = record { name = a.blank.name; parts = a.blank.parts }
