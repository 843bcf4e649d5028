use Rattle.std.proofs.Common.{◌≡◌, ◌<◌, ◌≤◌, ◌++◌, ℕ, List, [], None, take, length, refl, sym, ◌∙◌, ap, subst, arith}
use Rattle.std.specs.Prelude.{IfSome}
use Rattle.std.proofs.lemmas.Result.{IfErr-weaker}
use Rattle.std.proofs.lemmas.List.{length-take-le}
use Rattle.causal_base.specs.Types.{TypeTable}
use Rattle.poet_io.specs.Takes.{TakesPrefix}
use Rattle.poet_io.proofs.CallerLemmas.{TakesPrefix-append}
use Rattle.poet_top.specs.declared.fault.Fault.{Fault}
use Rattle.causal_base.specs.PlainList.{TypedJournal}
use Rattle.raw_reader.specs.ReaderState.{ReaderState, HasRead}
use Rattle.poet_top.specs.declared.limits.TheConstants.{MOST_READ}
use Rattle.poet_top.specs.Ask.{IsUndecided, IsUndecidedUpTo}
use Rattle.poet_top.specs.Taking.{HasTakenFrom}
use Rattle.poet_top.specs.FaultOutcome.{ShowsFault, HasNoAnswer}
use Rattle.poet_top.proofs.Exits.{if_err_from}
use Rattle.poet_top.proofs.Sources.{from_prefix, nothing_left, room_taken, stopped, stopped_at_end, undecided}
use Rattle.poet_top.proofs.taking.take_events.Goals as goal

pub loop-count-smaller : goal.loop-count-smaller
loop-count-smaller g c =
    let before = c.loop-count.invariant in
    let within : c.in-Ok.count ≤ length c.read.new.buf = c.in-Ok.ensures.bound in
    let piece = take c.in-Ok.count c.read.new.buf in
    let size : length piece ≡ c.in-Ok.count = length-take-le c.in-Ok.count c.read.new.buf within in
    let some : 0 < length piece = omega (arith, size, c.if-count-eq0.false) in
    room_taken c.loop-count.reader c.take_piece.new.reader before.fed piece c.loop-count.plain.journal c.take_piece.new.plain.journal before.taken before.going
    (c.in_ok-take_piece.ensures.ok before.fed before.taken) c.in_ok-take_piece.ensures.going some

pub loop-count-preserved : goal.loop-count-preserved
loop-count-preserved g c =
    let before = c.loop-count.invariant in
    let state = g.S.Source.state in
    let piece = take c.in-Ok.count c.read.new.buf in
    let moved : TakesPrefix (state c.loop-count.source).left (state c.read.new.self).left piece = c.in-Ok.ensures.moved in
    let no_fault : (state c.read.new.self).faults ≡ (state c.loop-count.source).faults = c.in-Ok.ensures.no_fault in
    record {
      fed = before.fed ++ piece;
      given = TakesPrefix-append (state c.args.source.now).left (state c.loop-count.source).left (state c.read.new.self).left before.fed piece before.given moved;
      taken = c.in_ok-take_piece.ensures.ok before.fed before.taken;
      going = c.in_ok-take_piece.ensures.going;
      none_waits = c.in_ok-take_piece.ensures.none_waits;
      same_types = c.in_ok-take_piece.ensures.same_types ∙ before.same_types;
      types = c.in_ok-take_piece.ensures.its_types ∙ (before.types ∙ sym c.in_ok-take_piece.ensures.same_types);
      no_fault = no_fault ∙ before.no_fault;
      same_name = c.read.ensures.same_name ∙ before.same_name;
    }

-- what was read before is undecided, over the types that the list had at first
so_far : (types : TypeTable) (reader : ReaderState) (plain : TypedJournal) (fed : List ℕ) → HasTakenFrom HasRead reader fed plain.journal → reader.refusal ≡ None → reader.waiting ≡ [] → reader.types ≡ plain.types → plain.types ≡ types → IsUndecided types fed
so_far types reader plain fed has going none_waits its_types same_types =
    subst (λ (t : TypeTable). IsUndecided t fed) (its_types ∙ same_types) (undecided reader fed plain.journal has going none_waits)

pub returns-in_default-clause-err : goal.returns-in_default-clause-err
returns-in_default-clause-err g c =
    let before = c.loop-count.invariant in
    let state = g.S.Source.state in
    let types = c.args.plain.now.types in
    let given = subst (λ left. TakesPrefix (state c.args.source.now).left left before.fed) (sym c.in_default.ensures.unmoved) before.given in
    from_prefix (IsUndecidedUpTo types) (state c.args.source.now).left (state c.read.new.self).left before.fed given
    (λ left told. record { read = before.fed; whole = refl; undecided = so_far types c.loop-count.reader c.loop-count.plain before.fed before.taken before.going before.none_waits before.types before.same_types })

pub returns-then-count-eq0-clause-err : goal.returns-then-count-eq0-clause-err
returns-then-count-eq0-clause-err g c =
    let before = c.loop-count.invariant in
    let state = g.S.Source.state in
    let types = c.args.plain.now.types in
    let piece = take c.in-Ok.count c.read.new.buf in
    let no_piece : piece ≡ [] = ap (λ n. take n c.read.new.buf) c.if-count-eq0.true in
    let moved : TakesPrefix (state c.loop-count.source).left (state c.read.new.self).left piece = c.in-Ok.ensures.moved in
    let given = TakesPrefix-append (state c.args.source.now).left (state c.loop-count.source).left (state c.read.new.self).left before.fed piece before.given moved in
    let at_end = nothing_left (state c.loop-count.source).left (state c.read.new.self).left piece c.in-Ok.count moved c.in-Ok.ensures.end c.if-count-eq0.true in
    IfErr-weaker c.take_end.result _ _ (λ fault shows. from_prefix (λ bytes left. HasNoAnswer types bytes left fault) (state c.args.source.now).left (state c.read.new.self).left (before.fed ++ piece) given
    (λ left told. stopped_at_end types before.fed piece left fault (so_far types c.loop-count.reader c.loop-count.plain before.fed before.taken before.going before.none_waits before.types before.same_types)
    no_piece (subst (λ o. IfSome o (λ l. l ≡ [])) told at_end) (subst (λ (t : TypeTable). ShowsFault t before.fed fault) before.same_types (shows before.fed before.taken)))) c.take_end.ensures.err

pub returns-in_err-take_piece-clause-err : goal.returns-in_err-take_piece-clause-err
returns-in_err-take_piece-clause-err g c =
    let before = c.loop-count.invariant in
    let state = g.S.Source.state in
    let types = c.args.plain.now.types in
    let fault = c.in_err-take_piece.field-0.0 in
    let piece = take c.in-Ok.count c.read.new.buf in
    let within : c.in-Ok.count ≤ length c.read.new.buf = c.in-Ok.ensures.bound in
    let size : length piece ≡ c.in-Ok.count = length-take-le c.in-Ok.count c.read.new.buf within in
    let short : length piece ≤ MOST_READ = omega (arith, size, within) in
    let moved : TakesPrefix (state c.loop-count.source).left (state c.read.new.self).left piece = c.in-Ok.ensures.moved in
    let given = TakesPrefix-append (state c.args.source.now).left (state c.loop-count.source).left (state c.read.new.self).left before.fed piece before.given moved in
    let Caused : Fault → Type 0 = λ f. IfSome (state c.args.source.now).left (λ bytes. IfSome (state c.read.new.self).left (λ left. HasNoAnswer types bytes left f)) in
    if_err_from Caused c.from_residual.result fault c.from_residual.ensures.1
    (from_prefix (λ bytes left. HasNoAnswer types bytes left fault) (state c.args.source.now).left (state c.read.new.self).left (before.fed ++ piece) given
    (λ left told. stopped types before.fed piece left fault (so_far types c.loop-count.reader c.loop-count.plain before.fed before.taken before.going before.none_waits before.types before.same_types) short
    (subst (λ (t : TypeTable). ShowsFault t (before.fed ++ piece ++ left) fault) before.same_types (c.in_err-take_piece.ensures.err before.fed left before.taken))))

pub returns-in_err-take_piece-clause-rest : goal.returns-in_err-take_piece-clause-rest
returns-in_err-take_piece-clause-rest g c =
    let before = c.loop-count.invariant in
    let state = g.S.Source.state in
    let piece = take c.in-Ok.count c.read.new.buf in
    let moved : TakesPrefix (state c.loop-count.source).left (state c.read.new.self).left piece = c.in-Ok.ensures.moved in
    (before.fed ++ piece, TakesPrefix-append (state c.args.source.now).left (state c.loop-count.source).left (state c.read.new.self).left before.fed piece before.given moved)
