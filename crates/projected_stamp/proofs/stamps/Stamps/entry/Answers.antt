use Rattle.std.proofs.Common.{◌∙◌, sym, ap, length, map}
use Rattle.std.proofs.lemmas.List.{length-map}
use Rattle.causal_base.specs.Stamps.{ClusterTimestamp}
use Rattle.shared_list.specs.Traces.{list_of}
use Rattle.projected_stamp.specs.Above.{levels_of, stamp_of}
use Rattle.projected_stamp.specs.StampLists.{StampLists}
use Rattle.projected_stamp.proofs.Entries.{is_last, none_above}
use Rattle.projected_stamp.proofs.StampsOf.{levels-stamps, list_is}
use Rattle.projected_stamp.proofs.stamps.Stamps.entry.Goals as goal

pub returns-in-Some-clause-some : goal.returns-in-Some-clause-some
returns-in-Some-clause-some g c =
    let blocks = c.self.inside.numbers.blocks in
    let kept = list_of c.self.inside.kept.lists c.args.trace in
    let stamps = list_of c.args.self.now.lists c.args.trace in
    let its = list_is blocks c.self.inside.kept.lists c.args.self.now (ap (λ (v : StampLists). v.lists) c.self.view_is) c.args.trace 0 in
    let levels = ap (map (λ (s : ClusterTimestamp). s.level)) its ∙ levels-stamps blocks kept in
    let count = c.len.ensures ∙ sym (ap length its ∙ length-map kept (stamp_of blocks)) in
    is_last stamps (levels_of kept) levels c.len.result c.args.upto c.lesser-within.result c.args.level c.number_above-number.result count c.lesser-within.ensures.second c.lesser-within.ensures.one c.number_above-number.ensures c.in-Some.stamp c.in-Some.ensures.some

pub returns-in-None-clause-none : goal.returns-in-None-clause-none
returns-in-None-clause-none g c =
    let blocks = c.self.inside.numbers.blocks in
    let kept = list_of c.self.inside.kept.lists c.args.trace in
    let stamps = list_of c.args.self.now.lists c.args.trace in
    let its = list_is blocks c.self.inside.kept.lists c.args.self.now (ap (λ (v : StampLists). v.lists) c.self.view_is) c.args.trace 0 in
    let levels = ap (map (λ (s : ClusterTimestamp). s.level)) its ∙ levels-stamps blocks kept in
    let count = c.len.ensures ∙ sym (ap length its ∙ length-map kept (stamp_of blocks)) in
    none_above stamps (levels_of kept) levels c.len.result c.args.upto c.lesser-within.result c.args.level c.number_above-number.result count c.lesser-within.ensures.second c.lesser-within.ensures.one c.number_above-number.ensures c.in-None.ensures.none
