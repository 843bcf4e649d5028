use Rattle.std.proofs.Common.{◌≡◌, ◌<◌, ◌+◌, ℕ, List, Result, Ok, Err, length, take, set, sym, subst, ◌∙◌, length-set, arith}
use Rattle.std.specs.Prelude.{IfErr, IfNone}
use Rattle.std.specs.Option.{option_copied}
use Rattle.std.specs.Result.{result_ok}
use Rattle.cluster_levels.specs.Sizes.{AreSizes, sizes_refusals}
use Rattle.cluster_levels.specs.declared.sizes_error.SizesError.{SizesError}
use Rattle.causal_base.specs.Refusals.{IsFirst}
use Rattle.command_line.specs.ListParts.{IsNextSize}
use Rattle.command_line.specs.SizeLists.{IsSizeList}
use Rattle.command_line.proofs.Exits.{if_none}
use Rattle.command_line.proofs.ListLemmas.{last_is, next_small, read_more}
use Rattle.command_line.proofs.SizeLemmas.{not_refused}
use Rattle.command_line.proofs.size_list.sizes_of.Goals as goal

pub returns-in_err-size-clause-none : goal.returns-in_err-size-clause-none
returns-in_err-size-clause-none c =
    if_none c.from_residual.result (λ sizes is.
    let left = c.loop-level.invariant.is_read.forth sizes is in
    c.in_err-size.ensures.none left.0 left.1 (next_small (take c.loop-level.level c.loop-level.numbers) left.0 left.1 sizes is.are_sizes left.2) left.3)

pub loop-level-preserved : goal.loop-level-preserved
loop-level-preserved c =
    let within : c.loop-level.level < length c.loop-level.numbers = omega (arith, c.loop-level.invariant.room) in
    record {
      room = length-set c.loop-level.numbers c.loop-level.level c.in_ok-size.size ∙ c.loop-level.invariant.room;
      is_read = read_more c.args.text.now c.loop-level.numbers c.loop-level.rest.now c.in-Some.more.now c.loop-level.level c.in_ok-size.size within c.loop-level.invariant.is_read
          (subst (λ behind. IsNextSize c.loop-level.rest.now c.in_ok-size.size (option_copied behind)) c.in-Some.is c.in_ok-size.ensures.some);
    }

-- a list that isn't of sizes isn't the one that the text lists
none_listed : (text list : List ℕ) (result : Result (List ℕ) SizesError) → IfErr result (IsFirst (sizes_refusals list)) → ((sizes : List ℕ) → IsSizeList text sizes → sizes ≡ list) → IfNone (result_ok result) ((sizes : List ℕ) → IsSizeList text sizes → ⊥)
none_listed text list (Ok sizes) refused only = tt
none_listed text list (Err error) refused only = λ sizes is. not_refused list error (subst AreSizes (only sizes is) is.are_sizes) refused

pub returns-in_default-clause-none : goal.returns-in_default-clause-none
returns-in_default-clause-none c =
    let within : c.loop-level.level < length c.loop-level.numbers = omega (arith, c.loop-level.invariant.room) in
    let next = subst (λ behind. IsNextSize c.loop-level.rest.now c.in_ok-size.size (option_copied behind)) c.in_default.is c.in_ok-size.ensures.some in
    subst (λ option. IfNone option ((sizes : List ℕ) → IsSizeList c.args.text.now sizes → ⊥)) (sym c.ok.ensures.value)
    (none_listed c.args.text.now (take (c.loop-level.level + 1) (set c.loop-level.numbers c.loop-level.level c.in_ok-size.size)) c.new.result c.new.ensures.err
    (last_is c.args.text.now c.loop-level.numbers c.loop-level.rest.now c.loop-level.level c.in_ok-size.size within c.loop-level.invariant.is_read next))
