-- What was next alone waits for no partner.
use Rattle.std.proofs.Common.{reverse, sym, subst}
use Rattle.causal_base.specs.declared.entry.Entry.TheVariants.{Gone}
use Rattle.causal_base.specs.declared.event.Event.{Event}
use Rattle.causal_base.specs.declared.kind.Kind.TheVariants.{Sync}
use Rattle.causal_base.specs.Event.{IsOfKind}
use Rattle.causal_base.specs.Journal.{delivered_by}
use Rattle.causal_base.proofs.CallerLemmas.{same_event, delivered_numbered}
use Rattle.causal_laws.proofs.PairBlocks.{gone_entry, Contains-reversed}
use Rattle.causal_laws.proofs.pair.sync_never_goes_alone.Goals as goal

pub returns : goal.returns
returns c types journal legal e inside sync gone =
    let its = gone_entry types (reverse journal) legal e.id (Contains-reversed journal (Gone e.id) gone) in
    let same = same_event (delivered_by journal) (delivered_numbered types (reverse journal) legal) its.0 e its.1 inside its.2 in
    its.3 (subst (λ (v : Event). IsOfKind types v Sync) (sym same) sync)
