use Rattle.std.proofs.Common.{◌≡◌, ◌++◌, get_or, sym, subst, arith}
use Rattle.std.specs.Prelude.{codes}
use Rattle.std.proofs.lemmas.Option.{get_or_from_slice_get, slice_get_within}
use Rattle.answer_text.specs.Texts.{text_of_entry, IsPrintableEntry}
use Rattle.causal_base.specs.declared.entry.Entry.{Entry}
use Rattle.causal_base.specs.Entry.{entry_of}
use Rattle.event_book.specs.declared.setup.Setup.{Setup}
use Rattle.text_buffer.proofs.CallerLemmas.{Comes, IsCutBehind, each_comes, ends_cut_behind}
use Rattle.run_text.proofs.Lines.{all_mapped_come, mapped_cut, past_end}
use Rattle.run_text.proofs.Printables.{entry_printable}
use Rattle.run_text.proofs.run.put_entries.Goals as goal

pub put-requires : goal.put-requires
put-requires g c =
    let desk = c.args.desk.now in
    subst (λ (s : Setup). IsPrintableEntry s.types (entry_of c.in-Some.entry)) (sym c.setup.ensures.value)
    (entry_printable desk.setup.types desk.journal c.loop-entry.at (entry_of c.in-Some.entry) c.setup.ensures.is_journal.legal (sym c.in-Some.ensures))

pub returns-in_err-put : goal.returns-in_err-put
returns-in_err-put g c =
    let state = g.K.Sink.state in
    let desk = c.args.desk.now in
    let at = c.loop-entry.at in
    let one : Entry = entry_of c.in-Some.entry in
    let there : get_or desk.journal at one ≡ one = get_or_from_slice_get desk.journal at one one (sym c.in-Some.ensures) in
    ends_cut_behind c.put.new.self c.from_residual.result _ c.from_residual.ensures.1
    (mapped_cut (text_of_entry desk.setup.types) desk.journal at one (slice_get_within desk.journal at one (sym c.in-Some.ensures)) c.loop-entry.invariant
    (subst (λ (e : Entry). IsCutBehind (state c.loop-entry.out) c.loop-entry.buffer (state c.put.new.out) (text_of_entry desk.setup.types e ++ codes "\n")) (sym there)
    (subst (λ (s : Setup). IsCutBehind (state c.loop-entry.out) c.loop-entry.buffer (state c.put.new.out) (text_of_entry s.types one ++ codes "\n")) c.setup.ensures.value c.in_err-put.ensures)))

pub overflow_add-at : goal.overflow_add-at
overflow_add-at g c =
    let within = slice_get_within c.args.desk.now.journal c.loop-entry.at (entry_of c.in-Some.entry) (sym c.in-Some.ensures) in
    omega (arith, within, c.count_entries-entries.ensures)

pub loop-entry-smaller : goal.loop-entry-smaller
loop-entry-smaller g c =
    let within = slice_get_within c.args.desk.now.journal c.loop-entry.at (entry_of c.in-Some.entry) (sym c.in-Some.ensures) in
    omega (arith, within)

pub loop-entry-preserved : goal.loop-entry-preserved
loop-entry-preserved g c =
    let state = g.K.Sink.state in
    let desk = c.args.desk.now in
    let at = c.loop-entry.at in
    let one : Entry = entry_of c.in-Some.entry in
    let there : get_or desk.journal at one ≡ one = get_or_from_slice_get desk.journal at one one (sym c.in-Some.ensures) in
    each_comes (λ (e : Entry). text_of_entry desk.setup.types e ++ codes "\n") desk.journal at one (slice_get_within desk.journal at one (sym c.in-Some.ensures)) c.loop-entry.invariant
    (subst (λ (e : Entry). Comes (state c.loop-entry.out) c.loop-entry.buffer (state c.put.new.out) c.put.new.self (text_of_entry desk.setup.types e ++ codes "\n")) (sym there)
    (subst (λ (s : Setup). Comes (state c.loop-entry.out) c.loop-entry.buffer (state c.put.new.out) c.put.new.self (text_of_entry s.types one ++ codes "\n")) c.setup.ensures.value c.in_ok-put.ensures))

pub returns : goal.returns
returns g c =
    let desk = c.args.desk.now in
    all_mapped_come (text_of_entry desk.setup.types) desk.journal c.loop-entry.at (past_end desk.journal c.loop-entry.at (sym c.in_default.ensures)) c.loop-entry.invariant
