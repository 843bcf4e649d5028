use Rattle.std.proofs.Common.{◌<◌, ◌+◌, ℕ, List, length, map, take, drop, string_bytes, Option, Bor, sym, subst, arith}
use Rattle.std.specs.Option.{option_map}
use Rattle.command_line.specs.Asking.{item_of}
use Rattle.command_line.specs.Items.{IsItem, NameFiles}
use Rattle.command_line.proofs.Exits.{if_none}
use Rattle.command_line.proofs.ItemLemmas.{around, names_more, no_files, too_many, up_to}
use Rattle.command_line.proofs.files.Files.of.Goals as goal

pub returns-in_err-item-clause-none : goal.returns-in_err-item-clause-none
returns-in_err-item-clause-none c =
    let words = c.args.words.now in
    let i = c.loop-word.word-index in
    let within : i < length words = omega arith in
    let whole = around string_bytes words i c.word-item.result within c.word-item.is in
    if_none c.from_residual.result (λ events clients closing named.
    no_files (map string_bytes (take i words)) (string_bytes c.word-item.result) (map string_bytes (drop (i + 1) words))
    (λ item is. c.in_err-item.ensures.none item (subst (λ word. IsItem word item) (sym c.as_str.ensures.value) is))
    events clients closing (subst (λ all. NameFiles all events clients closing) whole named))

pub returns-then-not-add-clause-none : goal.returns-then-not-add-clause-none
returns-then-not-add-clause-none c = λ events clients closing named.
    let words = c.args.words.now in
    let i = c.loop-word.word-index in
    let within : i < length words = omega arith in
    let whole = around string_bytes words i c.word-item.result within c.word-item.is in
    let so_far = c.loop-word.invariant in
    let is = subst (λ word. IsItem word (item_of c.in_ok-item.item)) c.as_str.ensures.value c.in_ok-item.ensures.some in
    too_many (map string_bytes (take i words)) (string_bytes c.word-item.result) (map string_bytes (drop (i + 1) words)) so_far.items (item_of c.in_ok-item.item) so_far.spelled is (c.if-not-add.ensures.full so_far.items so_far.files)
    events clients closing (subst (λ all. NameFiles all events clients closing) whole named)

pub loop-word-preserved : goal.loop-word-preserved
loop-word-preserved c =
    let words = c.args.words.now in
    let i = c.loop-word.word-index in
    let within : i < length words = omega arith in
    let so_far = c.loop-word.invariant in
    let new = c.add.new.self in
    let closing : Option (List ℕ) = option_map (λ (name : Bor (List ℕ)). name.now) new.closing in
    let is = subst (λ word. IsItem word (item_of c.in_ok-item.item)) c.as_str.ensures.value c.in_ok-item.ensures.some in
    subst (λ all. NameFiles all new.events new.clients closing) (sym (up_to string_bytes words i c.word-item.result within c.word-item.is))
    (names_more (map string_bytes (take i words)) (string_bytes c.word-item.result) (item_of c.in_ok-item.item) c.loop-word.files.events c.loop-word.files.clients new.events new.clients (option_map (λ (name : Bor (List ℕ)). name.now) c.loop-word.files.closing) closing so_far is (c.if-not-add.ensures.added so_far.items so_far.files))
