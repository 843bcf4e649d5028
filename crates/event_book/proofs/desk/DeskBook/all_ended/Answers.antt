use Rattle.std.proofs.Common.{◌≡◌, List, sym, ap, subst, arith}
use Rattle.std.specs.Prelude.{◌↔◌, IsTrue}
use Rattle.causal_base.specs.declared.entry.Entry.{Entry}
use Rattle.event_book.specs.declared.setup.Setup.{Setup}
use Rattle.event_book.specs.Desks.{DeskState}
use Rattle.event_book.specs.Stamping.{IsOwn}
use Rattle.event_book.specs.Views.{HaveAllEnded}
use Rattle.event_book.proofs.desk.DeskBook.all_ended.Goals as goal

pub returns : goal.returns
returns c =
    let setup = c.self.inside.setup.value in
    let journal = c.self.inside.deliverer.journal in
    let most = c.self.invariant.is_setup.most in
    let many : c.deref.result.now.collectors ≡ setup.collectors = ap (λ (s : Setup). s.collectors) c.deref.ensures in
    let told : (IsTrue c.have_all_ended.result) ↔ (HaveAllEnded setup.collectors journal) = (
      λ yes collector below. (c.self.invariant.are_ended collector (omega (arith, below, most))).0 (c.have_all_ended.ensures.0 yes collector (omega (arith, below, many))),
      λ all. c.have_all_ended.ensures.1 (λ collector below. (c.self.invariant.are_ended collector (omega (arith, below, most, many))).1 (all collector (omega (arith, below, many)))),
    ) in
    subst (λ (v : DeskState). (j : List Entry) → IsOwn v.setup.types v.journal j → (IsTrue c.have_all_ended.result) ↔ (HaveAllEnded v.setup.collectors j)) c.self.view_is
    (λ j own. subst (λ (l : List Entry). (IsTrue c.have_all_ended.result) ↔ (HaveAllEnded setup.collectors l)) (sym own.same) told)
