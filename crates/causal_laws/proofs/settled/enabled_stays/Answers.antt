-- What may follow some of the deliveries may follow them all, or is one of them.
use Rattle.causal_base.specs.History.{events_of}
use Rattle.causal_base.specs.Past.{came, deliveries, delivered, IsEnabled}
use Rattle.causal_base.specs.declared.entry.Entry.{Entry}
use Rattle.causal_base.specs.declared.event.Event.{Event}
use Rattle.causal_base.proofs.CallerLemmas.{history_of_past}
use Rattle.causal_laws.proofs.Prefixes.{Contains-grows, added, delivered_with_added, legal_behind, newest_first, prefix_is_legal}
use Rattle.causal_laws.proofs.Enabled.{came_grows, stays_enabled}
use Rattle.std.proofs.Common.{List, ◌++◌, ◌⊎◌, sym, subst}
use Rattle.std.specs.Prelude.{Contains, reverse}
use Rattle.causal_laws.proofs.settled.enabled_stays.Goals as goal

pub returns-clause-among : goal.returns-clause-among
returns-clause-among c types few events before history basis_before basis came_too grows block enabled =
    stays_enabled types few before events history basis_before basis came_too grows block enabled

pub returns-clause-journal : goal.returns-clause-journal
returns-clause-journal c types journal more legal block enabled =
    let newest = newest_first types journal more legal in
    let past = reverse more ++ reverse journal in
    subst (λ (past : List Entry). IsEnabled types past block ⊎ ((e : Event) → Contains (events_of enabled.delivery) e → Contains (delivered past) e)) (sym newest)
    (stays_enabled types (came (reverse journal)) (deliveries (reverse journal)) (came past) (deliveries past)
    (history_of_past types (reverse journal) (prefix_is_legal types journal more legal)) (history_of_past types past (legal_behind types journal more legal))
    (λ e inside. came_grows (reverse more) (reverse journal) e inside)
    (λ e inside. subst (λ (past : List Entry). Contains (delivered past) e) newest
    (subst (λ es. Contains es e) (sym (delivered_with_added types journal more legal)) (Contains-grows (added types journal more legal) (deliveries (reverse journal)) e inside)))
    block enabled)
