use Rattle.std.proofs.Common.{List, sym, subst}
use Rattle.causal_base.specs.declared.event.Event.{Event}
use Rattle.causal_base.specs.declared.limits.TheConstants.{MOST_EVENTS}
use Rattle.causal_base.specs.InTurn.{IsInTurn}
use Rattle.poet_serve.proofs.Readings.{lists_once}
use Rattle.poet_serve.proofs.law.journal_in_turn_is_one.Goals as goal

pub returns : goal.returns
returns c types table all is journal other made again =
    let laws = c.text_is_read_in_one_way.ensures in
    let same = lists_once types (laws.open_text types table) (laws.good types table) (laws.faulty types table) all made.lists again.lists is made.read again.read in
    c.in_turn_is_one.ensures types MOST_EVENTS made.lists journal other made.in_turn (subst (λ (lists : List (List Event)). IsInTurn types MOST_EVENTS lists other) (sym same) again.in_turn)
