use Rattle.std.proofs.Common.{◌≢◌, ◌<◌, suc, ◌∷◌, ◌++◌, take, drop, refl, sym, ◌∙◌, ap, arith, All, drop-cons}
use Rattle.std.proofs.lemmas.Bool.{eqb-true, eq-eqb}
use Rattle.std.proofs.lemmas.List.{get_or-take, length-take-le, take-append-drop}
use Rattle.std.proofs.lemmas.List.Elements.{All-contains, All-from_get_or}
use Rattle.raw_reader.proofs.split.first_line.Goals as goal

pub returns-clause-ended : goal.returns-clause-ended
returns-clause-ended c =
    let bytes = c.args.bytes.now in
    let end = c.in_ok-end.end in
    let found = c.in_ok-end.ensures in
    let rest = drop (suc end) bytes in
    let behind = drop-cons bytes end 0 found.0.high ∙ ap (λ byte. byte ∷ rest) (eqb-true _ 10 found.1) in
    (rest, sym (take-append-drop end bytes) ∙ ap (λ more. take end bytes ++ more) behind)

pub returns-clause-one_line : goal.returns-clause-one_line
returns-clause-one_line c =
    let bytes = c.args.bytes.now in
    let end = c.in_ok-end.end in
    let found = c.in_ok-end.ensures in
    let within = found.0.high in
    let none : All (λ byte. byte ≢ 10) (take end bytes) = All-from_get_or (λ byte. byte ≢ 10) (take end bytes) 0 (λ i inside same.
    let size = length-take-le end bytes (omega (arith, within)) in
    let below : i < end = omega (arith, size, inside) in
    found.0.before i (omega arith) below (eq-eqb _ 10 (sym (get_or-take end bytes i 0 below) ∙ same))) in
    λ has. All-contains (λ byte. byte ≢ 10) (take end bytes) 10 none has refl
