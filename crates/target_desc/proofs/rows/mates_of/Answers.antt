use Rattle.std.proofs.Common.{◌≡◌, ◌++◌, ◌∷◌, [], length, arith, rules, sym, subst, ap, ℕ}
use Rattle.std.specs.Prelude.{slice_index_or}
use Rattle.std.proofs.lemmas.List.{length_push}
use Rattle.target_desc.proofs.RowLemmas.{numbers_more}
use Rattle.target_desc.proofs.rows.mates_of.Goals as goal

pub loop-draft-preserved : goal.loop-draft-preserved
loop-draft-preserved c =
    let drafts = c.args.drafts.now in
    let numbers = c.loop-draft.mates.items in
    let pushed : c.push.new.self.items ≡ numbers ++ c.mate_of.result ∷ [] = search rules in
    let count = c.loop-draft.invariant.count in
    let is = subst (λ (n : ℕ). c.draft-item.result ≡ slice_index_or drafts n c.draft-item.result) (sym count) c.draft-item.is in
    record {
      count = omega (arith, count, length_push numbers c.mate_of.result, ap length pushed);
      each = rw pushed (numbers_more drafts numbers c.draft-item.result c.mate_of.result c.loop-draft.invariant.each (omega (arith, count, c.loop-draft-test.true)) is c.mate_of.ensures);
    }
