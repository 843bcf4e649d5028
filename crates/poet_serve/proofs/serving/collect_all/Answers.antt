use Rattle.std.proofs.Common.{rules, ◌≡◌, ◌+◌, ◌++◌, ℕ, suc, List, [], ◌∷◌, length, length-append, sym, ◌∙◌, ap, subst, arith, append_assoc, append-nil, refl}
use Rattle.std.specs.Vec.Iter.{into_iter_items, into_iter_len}
use Rattle.std.specs.List.{AllByRecursion}
use Rattle.causal_base.specs.declared.entry.Entry.{Entry}
use Rattle.causal_base.specs.Journal.{IsSettled}
use Rattle.event_book.specs.Setups.{IsOfCollectors}
use Rattle.poet_serve.specs.declared.report.CollectorReport.{CollectorReport}
use Rattle.poet_serve.specs.Collecting.{told_by}
use Rattle.poet_serve.specs.Transcripts.{Collected, HadMemory, HaveParts, IsMadeInTurn, collected_by}
use Rattle.poet_serve.proofs.Runs.{collected_many, collected_with, collects_on, low_open, nil_from_length, none_from}
use Rattle.poet_serve.proofs.Turns.{turn_none, turn_on}
use Rattle.poet_serve.proofs.serving.collect_all.Goals as goal

pub overflow_add-collector : goal.overflow_add-collector
overflow_add-collector g c =
    let before = c.loop-source.invariant in
    let long = ap length before.sources ∙ length-append before.done (into_iter_items c.loop-source.rest) in
    let most = c.setup-setup.ensures.is_setup.most in
    let many = before.so_many in
    let all = c.requires.collectors in
    omega (arith, long, most, many, all)

pub loop-source-init : goal.loop-source-init
loop-source-init g c = record {
  done = [];
  sources = sym c.into_iter-rest.ensures.rest;
  so_many = refl;
  as_many = ap length c.requires.none;
  parts = tt;
  turn = λ on. subst (λ (journal : List Entry). IsMadeInTurn c.args.types.now [] journal × IsSettled c.args.types.now journal) (sym c.requires.new) (turn_none c.legal_prefix.ensures c.args.types.now);
  low = subst (λ (journal : List Entry). AllByRecursion (IsOfCollectors 0) journal) (sym c.requires.new) tt;
  room = search rules;
  setup = search rules;
}

pub collect_in_turn-requires-clause-open : goal.collect_in_turn-requires-clause-open
collect_in_turn-requires-clause-open g c = low_open c.loop-source.collector c.loop-source.desk.journal c.loop-source.invariant.low

pub loop-source-preserved : goal.loop-source-preserved
loop-source-preserved g c =
    let state = g.S.Source.state in
    let before = c.loop-source.invariant in
    let report = c.collect_in_turn.result in
    let one : Collected = record { before = state c.in-Some.source; after = state report.source; told = told_by report } in
    let long = length-append before.done (c.in-Some.source ∷ []) in
    let longer = ap length c.push_reserved.ensures.items ∙ length-append c.loop-source.reports.items (report ∷ []) in
    let as_many = before.as_many in
    let so_many = before.so_many in
    let next : c.loop-source.collector + 1 ≡ suc c.loop-source.collector = omega arith in
    let on = collects_on c.args.types.now c.loop-source.desk.journal c.collect_in_turn.new.desk.journal c.loop-source.collector (collected_by state before.done c.loop-source.reports.items) one
    (collected_many state before.done c.loop-source.reports.items before.as_many ∙ before.so_many) before.low c.collect_in_turn.ensures.few c.collect_in_turn.ensures.collected before.parts in
    let turn = turn_on c.legal_prefix.ensures c.args.types.now c.loop-source.desk.journal c.collect_in_turn.new.desk.journal c.loop-source.collector (collected_by state before.done c.loop-source.reports.items) one
    (collected_many state before.done c.loop-source.reports.items before.as_many ∙ before.so_many) c.collect_in_turn.ensures.collected before.turn in
    let all_same = sym (ap (λ (reports : List (CollectorReport g.row.S.Denot)). collected_by state (before.done ++ c.in-Some.source ∷ []) reports) c.push_reserved.ensures.items
    ∙ collected_with state before.done c.loop-source.reports.items c.in-Some.source report before.as_many) in
    record {
      done = before.done ++ c.in-Some.source ∷ [];
      sources = before.sources ∙ (ap (λ l. before.done ++ l) c.in-Some.ensures.items ∙ sym (append_assoc before.done (c.in-Some.source ∷ []) (into_iter_items c.next.new.self)));
      so_many = omega (arith, long, so_many);
      as_many = omega (arith, long, longer, as_many);
      parts = subst (λ (all : List Collected). HaveParts c.args.types.now c.collect_in_turn.new.desk.journal 0 all) all_same on.0;
      turn = subst (λ (all : List Collected). AllByRecursion HadMemory all → IsMadeInTurn c.args.types.now all c.collect_in_turn.new.desk.journal × IsSettled c.args.types.now c.collect_in_turn.new.desk.journal) all_same turn;
      low = subst (λ (n : ℕ). AllByRecursion (IsOfCollectors n) c.collect_in_turn.new.desk.journal) (sym next) on.1;
      room = search rules;
      setup = c.collect_in_turn.ensures.setup ∙ before.setup;
    }

pub returns-clause-as_many : goal.returns-clause-as_many
returns-clause-as_many g c =
    let state = g.S.Source.state in
    let before = c.loop-source.invariant in
    let whole : c.args.sources.items ≡ before.done = before.sources ∙ (ap (λ l. before.done ++ l) (nil_from_length (into_iter_items c.loop-source.rest) (sym c.loop-source.rest.rest.ok.0 ∙ none_from (into_iter_len c.loop-source.rest) (λ some. (let other = c.in_default.ensures.variant.1 some in absurd cc)))) ∙ append-nil before.done) in
    subst (λ (all : List g.row.S.Denot). length (collected_by state all c.loop-source.reports.items) ≡ length all) (sym whole) (collected_many state before.done c.loop-source.reports.items before.as_many)

pub returns-clause-one_each : goal.returns-clause-one_each
returns-clause-one_each g c =
    let before = c.loop-source.invariant in
    let whole : c.args.sources.items ≡ before.done = before.sources ∙ (ap (λ l. before.done ++ l) (nil_from_length (into_iter_items c.loop-source.rest) (sym c.loop-source.rest.rest.ok.0 ∙ none_from (into_iter_len c.loop-source.rest) (λ some. (let other = c.in_default.ensures.variant.1 some in absurd cc)))) ∙ append-nil before.done) in
    before.as_many ∙ ap length (sym whole)

pub returns-clause-in_turn : goal.returns-clause-in_turn
returns-clause-in_turn g c =
    let state = g.S.Source.state in
    let before = c.loop-source.invariant in
    let whole : c.args.sources.items ≡ before.done = before.sources ∙ (ap (λ l. before.done ++ l) (nil_from_length (into_iter_items c.loop-source.rest) (sym c.loop-source.rest.rest.ok.0 ∙ none_from (into_iter_len c.loop-source.rest) (λ some. (let other = c.in_default.ensures.variant.1 some in absurd cc)))) ∙ append-nil before.done) in
    subst (λ (sources : List g.row.S.Denot). AllByRecursion HadMemory (collected_by state sources c.loop-source.reports.items) → IsMadeInTurn c.args.types.now (collected_by state sources c.loop-source.reports.items) c.loop-source.desk.journal × IsSettled c.args.types.now c.loop-source.desk.journal) (sym whole) before.turn
