use Rattle.std.proofs.Common.{◌<◌, get_or, length, sym, ◌∙◌, arith}
use Rattle.std.proofs.lemmas.Option.{slice_get-get_or, slice_get_within}
use Rattle.cluster_levels.proofs.LevelLemmas.{noted_more}
use Rattle.cluster_levels.proofs.levels.note_at_each.Goals as goal

pub note-requires-clause-p : goal.note-requires-clause-p
note-requires-clause-p c =
    let i = c.loop-clusters.clusters-index in
    let within : i < length c.loop-clusters.levels = omega (arith, c.loop-clusters-test.true, c.loop-clusters.auto.levels) in
    c.requires.p i (get_or c.loop-clusters.levels i c.clusters-item.result) (sym (c.loop-clusters.invariant.left i (omega arith)) ∙ slice_get-get_or c.loop-clusters.levels i c.clusters-item.result within)

pub note-requires-clause-q : goal.note-requires-clause-q
note-requires-clause-q c =
    let i = c.loop-clusters.clusters-index in
    let within : i < length c.loop-clusters.levels = omega (arith, c.loop-clusters-test.true, c.loop-clusters.auto.levels) in
    c.requires.q i (get_or c.loop-clusters.levels i c.clusters-item.result) (sym (c.loop-clusters.invariant.left i (omega arith)) ∙ slice_get-get_or c.loop-clusters.levels i c.clusters-item.result within)

pub note-requires-clause-kept : goal.note-requires-clause-kept
note-requires-clause-kept c =
    let i = c.loop-clusters.clusters-index in
    let within : i < length c.loop-clusters.levels = omega (arith, c.loop-clusters-test.true, c.loop-clusters.auto.levels) in
    c.requires.kept i (get_or c.loop-clusters.levels i c.clusters-item.result) (sym (c.loop-clusters.invariant.left i (omega arith)) ∙ slice_get-get_or c.loop-clusters.levels i c.clusters-item.result within)

pub loop-clusters-preserved : goal.loop-clusters-preserved
loop-clusters-preserved c =
    let i = c.loop-clusters.clusters-index in
    let within : i < length c.loop-clusters.levels = omega (arith, c.loop-clusters-test.true, c.loop-clusters.auto.levels) in
    let more = noted_more c.args.levels.now c.loop-clusters.levels i c.args.p c.args.q (get_or c.loop-clusters.levels i c.clusters-item.result) c.note.new.self within
    (slice_get-get_or c.loop-clusters.levels i c.clusters-item.result within)
    (record { labels = c.note.ensures.labels; width = c.note.ensures.width; tallied = c.note.ensures.tallied })
    c.loop-clusters.invariant.done c.loop-clusters.invariant.left in
    record { done = more.0; left = more.1 }

pub returns : goal.returns
returns c = record {
  as_many = c.loop-clusters.auto.levels;
  each = λ i before after was now. c.loop-clusters.invariant.done i before after (omega (arith, slice_get_within c.args.levels.now i before was, c.loop-clusters-test.false)) was now;
}
