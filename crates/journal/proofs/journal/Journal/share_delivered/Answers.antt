use Rattle.std.proofs.Common.{ℕ, List, ◌∙◌, ap, subst, arith}
use Rattle.std.specs.Prelude.{vec_capacity}
use Rattle.causal_base.specs.declared.entry.Entry.{Entry}
use Rattle.shared_list.specs.Shared.{Shared}
use Rattle.journal.specs.Delivered.{AreOfJournal}
use Rattle.journal.specs.Places.{place_in_order}
use Rattle.journal.proofs.Shares.{are_of_journal}
use Rattle.journal.proofs.Stores.{kept_store}
use Rattle.journal.proofs.journal.Journal.share_delivered.Goals as goal

pub returns-clause-shared : goal.returns-clause-shared
returns-clause-shared c =
    let j = c.self.inside in
    let index = c.catch_up_all.new.self in
    let reach = c.if-not-reaches.ensures in
    let store = kept_store j.events.items j.marks.items (vec_capacity j.marks) j.index j.counts j.delivered c.self.invariant (vec_capacity j.marks) index (omega arith) c.catch_up_all.ensures.same c.catch_up_all.ensures.held in
    subst (λ (es : List Entry). AreOfJournal es c.new.result) c.self.view_is
    (are_of_journal j.events.items j.marks.items (vec_capacity j.marks) index j.counts j.delivered store c.new.result
    (c.new.ensures.events ∙ c.in_ok-share.ensures.items) c.new.ensures.counts
    (λ id. ap (λ (xs : List (Shared ℕ)). place_in_order xs id) c.new.ensures.in_order ∙ c.in_ok-share_in_order.ensures id)
    (λ id below least most. reach id below least most))
