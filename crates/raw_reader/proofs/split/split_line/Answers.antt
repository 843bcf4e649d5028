use Rattle.std.proofs.Common.{List, ℕ}
use Rattle.causal_base.proofs.CallerLemmas.{unsplit}
use Rattle.raw_reader.specs.Splits.{IsSplit}
use Rattle.raw_reader.proofs.Exits.{if_none}
use Rattle.raw_reader.proofs.Splitting.{id_cut, name_cut, mate_cut, time_left, after_id, after_name, after_mate}
use Rattle.raw_reader.proofs.split.split_line.Goals as goal

-- the line is split in no way
abbrev IsUnsplit : List ℕ → Type 0
IsUnsplit line = (id name mate time text : List ℕ) → IsSplit line id name mate time text → ⊥

pub returns-in_err-id-clause-none : goal.returns-in_err-id-clause-none
returns-in_err-id-clause-none c = if_none (IsUnsplit c.args.line.now) _
    (λ id name mate time text split. unsplit 32 c.args.line.now id _ c.in_err-id.ensures.none (id_cut _ id name mate time text split))

pub returns-in_err-name-clause-none : goal.returns-in_err-name-clause-none
returns-in_err-name-clause-none c = if_none (IsUnsplit c.args.line.now) _ (λ id name mate time text split.
    let rest = (after_id _ _ _ id name mate time text c.in_ok-id.ensures.found split).1 in
    unsplit 32 _ name _ c.in_err-name.ensures.none (name_cut _ _ id name mate time text rest split))

pub returns-in_err-mate-clause-none : goal.returns-in_err-mate-clause-none
returns-in_err-mate-clause-none c = if_none (IsUnsplit c.args.line.now) _ (λ id name mate time text split.
    let rest = (after_id _ _ _ id name mate time text c.in_ok-id.ensures.found split).1 in
    let more = (after_name _ _ _ _ id name mate time text c.in_ok-name.ensures.found rest split).1 in
    unsplit 32 _ mate _ c.in_err-mate.ensures.none (mate_cut _ _ id name mate time text more split))

pub returns-in_err-time-clause-none : goal.returns-in_err-time-clause-none
returns-in_err-time-clause-none c = if_none (IsUnsplit c.args.line.now) _ (λ id name mate time text split.
    let rest = (after_id _ _ _ id name mate time text c.in_ok-id.ensures.found split).1 in
    let more = (after_name _ _ _ _ id name mate time text c.in_ok-name.ensures.found rest split).1 in
    let last = (after_mate _ _ _ _ id name mate time text c.in_ok-mate.ensures.found more split).1 in
    c.in_err-time.ensures.none time text (time_left _ _ id name mate time text last split))
