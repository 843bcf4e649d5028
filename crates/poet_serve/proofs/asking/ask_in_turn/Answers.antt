use Rattle.std.proofs.Common.{subst}
use Rattle.causal_base.specs.Types.{TypeTable}
use Rattle.client_session.specs.Replies.{IsEmptyCut}
use Rattle.poet_serve.specs.Transcripts.{seen_by}
use Rattle.poet_serve.proofs.Lines.{told_lines, where_ok}
use Rattle.poet_serve.proofs.asking.ask_in_turn.Goals as goal

pub returns : goal.returns
returns c =
    let gathered = c.ask_each-asked.ensures.lines in
    told_lines (seen_by c.args.desk.now.setup c.args.desk.now.journal) c.args.script.now c.new.result c.ask_each-asked.new.lines.items c.is_err.result c.new.ensures gathered.0 gathered.1
    (subst (λ (t : TypeTable). IsEmptyCut t.traces gathered.0) c.requires.types gathered.2) gathered.3
    (where_ok c.ask_each-asked.result c.is_err.result c.is_err.ensures.value c.ask_each-asked.ensures.all)
