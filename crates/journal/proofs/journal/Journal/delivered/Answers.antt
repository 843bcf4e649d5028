use Rattle.std.proofs.Common.{List, length, reverse, ◌∙◌, ap}
use Rattle.causal_base.specs.declared.entry.Entry.{Entry}
use Rattle.causal_base.specs.Past.{delivered}
use Rattle.journal.proofs.journal.Journal.delivered.Goals as goal

pub returns : goal.returns
returns c = c.self.invariant.gone_is ∙ ap (λ (es : List Entry). length (delivered (reverse es))) c.self.view_is
