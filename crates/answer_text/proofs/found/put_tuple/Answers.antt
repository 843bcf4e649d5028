use Rattle.std.proofs.Common.{◌≡◌, ◌≤◌, List, [], ◌∷◌, ◌++◌, length, get_or, drop, refl, sym, subst, arith}
use Rattle.std.proofs.lemmas.List.{take_rest}
use Rattle.std.specs.Prelude.{codes}
use Rattle.std.specs.List.{flat_map, join_by}
use Rattle.causal_base.specs.declared.event_id.EventId.{EventId}
use Rattle.causal_base.specs.Spelling.{id_text}
use Rattle.poet_io.specs.Writes.{Writes}
use Rattle.poet_io.proofs.CallerLemmas.{cut_after, cut_more, ends_cut, writes_after}
use Rattle.answer_text.proofs.found.put_tuple.Goals as goal

-- ids with commas between them: the first, and each other one behind a comma
joined : (ids : List EventId) (default : EventId) → 1 ≤ length ids → join_by id_text (codes ",") ids ≡ id_text (get_or ids 0 default) ++ flat_map (λ id. codes "," ++ id_text id) (drop 1 ids)
joined [] default some = absurd (omega arith)
joined (id ∷ ids) default some = refl

pub returns-in_err-put_id-in-len1-up : goal.returns-in_err-put_id-in-len1-up
returns-in_err-put_id-in-len1-up g c =
    let state = g.K.Sink.state in
    let result = c.from_residual-in_err-put_id-in-len1-up.result in
    subst (λ ids. Writes (state c.args.out.now) (state c.put_id.new.out) (codes " " ++ ids) result)
    (sym (joined c.args.ids.now (record { trace = 0; number = 0 }) c.in-len1-up.len_at_least))
    (ends_cut result _ c.from_residual-in_err-put_id-in-len1-up.ensures.1 (cut_after c.in_ok-put.ensures (cut_more _ c.in_err-put_id-in-len1-up.ensures)))

pub returns-in_ok-put_id-in-len1-up : goal.returns-in_ok-put_id-in-len1-up
returns-in_ok-put_id-in-len1-up g c =
    let state = g.K.Sink.state in
    let ids = c.args.ids.now in
    let first : EventId = record { trace = 0; number = 0 } in
    let after = state c.put_next_ids.new.out in
    let result = c.put_next_ids.result in
    let rest = flat_map (λ (id : EventId). codes "," ++ id_text id) (drop 1 ids) in
    let others = subst (λ (items : List EventId). Writes (state c.put_id.new.out) after (flat_map (λ id. codes "," ++ id_text id) items) result) (take_rest ids 1) c.put_next_ids.ensures in
    subst (λ ids. Writes (state c.args.out.now) after (codes " " ++ ids) result) (sym (joined ids first c.in-len1-up.len_at_least))
    (writes_after after (id_text (get_or ids 0 first) ++ rest) result c.in_ok-put.ensures
    (writes_after after rest result c.in_ok-put_id-in-len1-up.ensures others))
