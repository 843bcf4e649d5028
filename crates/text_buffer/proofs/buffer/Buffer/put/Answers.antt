use Rattle.std.proofs.Common.{◌≡◌, ◌++◌, [], ap, ◌∙◌, subst}
use Rattle.poet_io.specs.Writes.{IsWritten, IsCutShort}
use Rattle.text_buffer.proofs.Gatherers.{ends_cut_behind}
use Rattle.text_buffer.proofs.HandedOn.{comes_gathered, comes_in_place, cut_behind_gathered, gathers_directly, gathers_on}
use Rattle.text_buffer.proofs.buffer.Buffer.put.Goals as goal

pub returns-then-gather : goal.returns-then-gather
returns-then-gather g c =
    let state = g.K.Sink.state in
    let more = g.T.Printed.text c.args.one.now in
    let is : c.gather.new.self ≡ c.args.self.now ++ more =
    c.if-gather.ensures.all ∙ ap (λ gathered. gathered ++ more) c.self.view_is in
    gathers_on (state c.hand_on_if_full.new.out) c.hand_on_if_full.new.self c.hand_on_if_full.result
    (comes_gathered (state c.args.out.now) c.args.self.now c.gather.new.self more is) c.hand_on_if_full.ensures

pub returns-in_err-hand_on : goal.returns-in_err-hand_on
returns-in_err-hand_on g c =
    let state = g.K.Sink.state in
    let same : c.gather.new.self ≡ c.args.self.now = c.if-gather.ensures.same ∙ c.self.view_is in
    ends_cut_behind c.hand_on.new.self c.from_residual.result _ c.from_residual.ensures.1
    (cut_behind_gathered (g.T.Printed.text c.args.one.now)
    (subst (IsCutShort (state c.args.out.now) (state c.hand_on.new.out)) same c.in_err-hand_on.ensures.writes))

pub returns-then-gather-2 : goal.returns-then-gather-2
returns-then-gather-2 g c =
    let state = g.K.Sink.state in
    let more = g.T.Printed.text c.args.one.now in
    let same : c.gather.new.self ≡ c.args.self.now = c.if-gather.ensures.same ∙ c.self.view_is in
    let is : c.gather-2.new.self ≡ more =
    c.if-gather-2.ensures.all ∙ ap (λ gathered. gathered ++ more) (c.self-2.view_is ∙ c.in_ok-hand_on.ensures.empty) in
    let after = c.hand_on_if_full-then-gather-2 in
    gathers_on (state after.new.out) after.new.self after.result
    (comes_in_place (subst (IsWritten (state c.args.out.now) (state c.hand_on.new.out)) same c.in_ok-hand_on.ensures.writes) is) after.ensures

pub returns : goal.returns
returns g c =
    let state = g.K.Sink.state in
    let same : c.gather.new.self ≡ c.args.self.now = c.if-gather.ensures.same ∙ c.self.view_is in
    let is : c.gather-2.new.self ≡ [] =
    c.if-gather-2.ensures.same ∙ (c.self-2.view_is ∙ c.in_ok-hand_on.ensures.empty) in
    gathers_directly (state c.put.new.out) c.gather-2.new.self (g.T.Printed.text c.args.one.now) c.put.result is
    (subst (IsWritten (state c.args.out.now) (state c.hand_on.new.out)) same c.in_ok-hand_on.ensures.writes) c.put.ensures
