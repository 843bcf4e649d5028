use Rattle.std.proofs.Common.{◌≡◌, ◌≤◌, true, false, List, length, reverse, refl, sym, ◌∙◌, subst, arith}
use Rattle.causal_base.specs.declared.entry.Entry.{Entry}
use Rattle.causal_base.specs.declared.entry.Entry.TheVariants.{Ended}
use Rattle.causal_base.specs.declared.limits.TheConstants.{MOST_EVENTS}
use Rattle.causal_base.specs.Past.{came, HasEnded, IsLegalPast}
use Rattle.causal_base.proofs.CallerLemmas.{reverse-push}
use Rattle.event_book.specs.Desks.{DeskState}
use Rattle.event_book.proofs.desk.Desk.append_end.Goals as goal

pub returns-clause-legal : goal.returns-clause-legal
returns-clause-legal c =
    let setup = c.args.self.now.setup in
    let journal = c.args.self.now.journal in
    let push = reverse-push journal (Ended c.args.collector) in
    let most = c.setup-setup.ensures.is_setup.most in
    let open_yet : HasEnded (reverse journal) c.args.collector → ⊥ =
    λ has.
    let flag = (c.self.invariant.are_ended c.args.collector (omega (arith, most, c.requires))).1 (subst (λ (v : DeskState). HasEnded (reverse v.journal) c.args.collector) (sym c.self.view_is) has) in
    let clash : true ≡ false = sym flag ∙ c.if-self-collector.false in
    cc in (
      λ yes. record {
        legal = subst (IsLegalPast setup.types) (sym push) (open_yet, c.setup-setup.ensures.is_journal.legal);
        few = subst (λ (past : List Entry). length (came past) ≤ MOST_EVENTS) (sym push) c.setup-setup.ensures.is_journal.few;
      },
      λ may. refl,
    )
