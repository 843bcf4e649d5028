use Rattle.std.proofs.Common.{◌≡◌, ◌<◌, ◌≤◌, ◌++◌, ℕ, List, [], take, length, sym, ◌∙◌, ap, subst, arith, append-nil}
use Rattle.std.proofs.lemmas.List.{length-take-le}
use Rattle.poet_io.specs.Takes.{TakesPrefix}
use Rattle.poet_io.proofs.CallerLemmas.{TakesPrefix-append}
use Rattle.poet_serve.specs.declared.report.Stop.TheVariants.{Read}
use Rattle.poet_serve.specs.Reading.{CountsStop}
use Rattle.poet_serve.proofs.Sources.{at_end, at_read, at_stop, nothing_left, room_taken}
use Rattle.poet_serve.proofs.collecting.read_and_feed.Goals as goal

pub loop-count-smaller : goal.loop-count-smaller
loop-count-smaller g c =
    let before = c.loop-count.invariant in
    let within : c.in-Ok.count ≤ length c.read.new.buf = c.in-Ok.ensures.bound in
    let piece = take c.in-Ok.count c.read.new.buf in
    let size : length piece ≡ c.in-Ok.count = length-take-le c.in-Ok.count c.read.new.buf within in
    let some : 0 < length piece = omega (arith, size, c.if-count-eq0.false) in
    room_taken c.args.collector c.args.desk.now.journal c.loop-count.reader c.feed_piece.new.reader before.fed piece c.loop-count.desk.journal c.feed_piece.new.desk.journal c.loop-count.tally c.feed_piece.new.tally before.taken before.going
    (c.in_default-feed_piece.ensures.ok c.args.desk.now.journal before.fed before.taken) c.in_default-feed_piece.ensures.going some

pub loop-count-preserved : goal.loop-count-preserved
loop-count-preserved g c =
    let before = c.loop-count.invariant in
    let state = g.S.Source.state in
    let piece = take c.in-Ok.count c.read.new.buf in
    let moved : TakesPrefix (state c.loop-count.source).left (state c.read.new.self).left piece = c.in-Ok.ensures.moved in
    let no_fault : (state c.read.new.self).faults ≡ (state c.loop-count.source).faults = c.in-Ok.ensures.no_fault in
    record {
      fed = before.fed ++ piece;
      given = TakesPrefix-append (state c.args.source.now).left (state c.loop-count.source).left (state c.read.new.self).left before.fed piece before.given moved;
      taken = c.in_default-feed_piece.ensures.ok c.args.desk.now.journal before.fed before.taken;
      going = c.in_default-feed_piece.ensures.going;
      none_waits = c.in_default-feed_piece.ensures.none_waits;
      setup = c.in_default-feed_piece.ensures.setup ∙ before.setup;
      types = c.in_default-feed_piece.ensures.types ∙ before.types;
      still = c.in_default-feed_piece.ensures.open;
      no_fault = no_fault ∙ before.no_fault;
      same_name = c.read.ensures.same_name ∙ before.same_name;
    }

pub returns-in_default-clause-brought : goal.returns-in_default-clause-brought
returns-in_default-clause-brought g c =
    let before = c.loop-count.invariant in
    let state = g.S.Source.state in
    let given = subst (λ left. TakesPrefix (state c.args.source.now).left left before.fed) (sym c.in_default.ensures.unmoved) before.given in
    at_read c.args.types.now c.args.collector c.args.desk.now.journal (state c.args.source.now) (state c.read.new.self) before.fed given (c.read.ensures.same_name ∙ before.same_name) c.loop-count.desk.journal c.loop-count.tally
    c.loop-count.reader before.taken before.going before.none_waits (before.types ∙ sym c.requires.types) (subst (λ n. CountsStop Read n (state c.read.new.self).faults) before.no_fault c.in_default.ensures.fault)

pub returns-then-count-eq0-clause-brought : goal.returns-then-count-eq0-clause-brought
returns-then-count-eq0-clause-brought g c =
    let before = c.loop-count.invariant in
    let state = g.S.Source.state in
    let piece = take c.in-Ok.count c.read.new.buf in
    let no_piece : piece ≡ [] = ap (λ n. take n c.read.new.buf) c.if-count-eq0.true in
    let moved : TakesPrefix (state c.loop-count.source).left (state c.read.new.self).left piece = c.in-Ok.ensures.moved in
    let given = TakesPrefix-append (state c.args.source.now).left (state c.loop-count.source).left (state c.read.new.self).left before.fed piece before.given moved in
    let none = nothing_left (state c.loop-count.source).left (state c.read.new.self).left piece c.in-Ok.count moved c.in-Ok.ensures.end c.if-count-eq0.true in
    at_end c.args.types.now c.args.collector c.args.desk.now.journal (state c.args.source.now) (state c.read.new.self) (before.fed ++ piece) given (c.read.ensures.same_name ∙ before.same_name) c.feed_end.new.desk.journal c.feed_end.new.tally
    c.loop-count.reader.types (before.types ∙ sym c.requires.types) c.feed_end.result before.fed (ap (λ (l : List ℕ). before.fed ++ l) no_piece ∙ append-nil before.fed) none
    (c.feed_end.ensures.stopped c.args.desk.now.journal before.fed before.taken)
    (subst (λ n. CountsStop c.feed_end.result (state c.args.source.now).faults n) (sym (c.in-Ok.ensures.no_fault ∙ before.no_fault)) (c.feed_end.ensures.no_count (state c.args.source.now).faults))

pub returns-in-Err-clause-brought : goal.returns-in-Err-clause-brought
returns-in-Err-clause-brought g c =
    let before = c.loop-count.invariant in
    let state = g.S.Source.state in
    let piece = take c.in-Ok.count c.read.new.buf in
    let moved : TakesPrefix (state c.loop-count.source).left (state c.read.new.self).left piece = c.in-Ok.ensures.moved in
    let given = TakesPrefix-append (state c.args.source.now).left (state c.loop-count.source).left (state c.read.new.self).left before.fed piece before.given moved in
    at_stop c.args.types.now c.args.collector c.args.desk.now.journal (state c.args.source.now) (state c.read.new.self) (before.fed ++ piece) given (c.read.ensures.same_name ∙ before.same_name) c.feed_piece.new.desk.journal c.feed_piece.new.tally
    c.loop-count.reader.types (before.types ∙ sym c.requires.types) c.in-Err.stop
    (λ left. c.in-Err.ensures.err c.args.desk.now.journal before.fed left left before.taken)
    (subst (λ n. CountsStop c.in-Err.stop (state c.args.source.now).faults n) (sym (c.in-Ok.ensures.no_fault ∙ before.no_fault)) (c.in-Err.ensures.no_count (state c.args.source.now).faults))
