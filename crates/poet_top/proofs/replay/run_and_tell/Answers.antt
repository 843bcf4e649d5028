use Rattle.std.proofs.Common.{ℕ, inl, inr, List, map, length, refl, sym, ◌∙◌, ap, subst}
use Rattle.std.proofs.lemmas.List.{length-map}
use Rattle.std.specs.List.{AllByRecursion}
use Rattle.poet_io.specs.FilesState.{FilesState}
use Rattle.poet_io.specs.SourceState.{SourceState}
use Rattle.poet_serve.specs.declared.report.CollectorReport.{CollectorReport}
use Rattle.poet_serve.specs.Transcripts.{collected_by}
use Rattle.run_files.specs.Sources.{AreOpenedAt, IsOpenIn, LackSources, WereGivenBack}
use Rattle.run_files.specs.Troubles.{trouble_of}
use Rattle.run_files.proofs.CallerLemmas.{are_open}
use Rattle.run_text.specs.Runs.{run_told}
use Rattle.poet_top.specs.Outcome.{NotBegun, Ran}
use Rattle.poet_top.proofs.Ran.{after_are, before_are, open_after, opened_many, told_are}
use Rattle.poet_top.proofs.replay.run_and_tell.Goals as goal

pub run_over-requires-clause-collectors : goal.run_over-requires-clause-collectors
run_over-requires-clause-collectors g c =
    let state = g.F.In.Source.state in
    let folder = (g.F.Files.state c.args.files.now).folder in
    sym (length-map c.in-Ok.sources.items state)
    ∙ (opened_many folder (map (λ n. n.now) c.as_slice.result.now) (map state c.in-Ok.sources.items) c.in-Ok.ensures.ok ∙ ap length c.as_slice.ensures)

pub tell_run-requires-clause-open : goal.tell_run-requires-clause-open
tell_run-requires-clause-open g c κs within =
    let state = g.F.In.Source.state in
    let run = c.in-Ok-run_over.run' in
    let all = collected_by state c.in-Ok.sources.items run.collectors in
    let before = before_are state c.in-Ok.sources.items run.collectors c.in-Ok-run_over.ensures.one_each in
    let opened = subst (λ (sources : List SourceState). AreOpenedAt (g.F.Files.state c.args.files.now).folder (map (λ n. n.now) c.as_slice.result.now) sources) (sym before) c.in-Ok.ensures.ok in
    let opens = open_after (g.F.Files.state c.args.files.now).folder run.desk.setup.types run.desk.journal 0 (map (λ n. n.now) c.as_slice.result.now) all opened c.in-Ok-run_over.ensures.transcript.parts in
    subst (λ (s : FilesState). AllByRecursion (IsOpenIn s.folder) (map (λ (r : CollectorReport g.row.F-In.Denot). state r.source) run.collectors)) (sym c.in-Ok.ensures.same)
    (subst (λ (sources : List SourceState). AllByRecursion (IsOpenIn (g.F.Files.state c.args.files.now).folder) sources) (after_are state c.in-Ok.sources.items run.collectors c.in-Ok-run_over.ensures.one_each) opens)

pub returns-in-Ok-run_over : goal.returns-in-Ok-run_over
returns-in-Ok-run_over g c =
    let state = g.F.In.Source.state in
    let run = c.in-Ok-run_over.run' in
    let all = collected_by state c.in-Ok.sources.items run.collectors in
    let one_each = c.in-Ok-run_over.ensures.one_each in
    let opened = subst (λ (sources : List SourceState). AreOpenedAt (g.F.Files.state c.args.files.now).folder (map (λ n. n.now) c.as_slice.result.now) sources) (sym (before_are state c.in-Ok.sources.items run.collectors one_each)) c.in-Ok.ensures.ok in (
      Ran (run_told run c.args.scripts.now c.args.closing.now),
      inr (
        run_told run c.args.scripts.now c.args.closing.now,
        record {
          setup_is = c.in-Ok-run_over.ensures.setup;
          scripts_are = refl;
          last_is = refl;
          collected = all;
          collectors_are = told_are state c.in-Ok.sources.items run.collectors one_each;
          opened = subst (λ (names : List (List ℕ)). AreOpenedAt (g.F.Files.state c.args.files.now).folder names (map (λ one. one.before) all)) c.as_slice.ensures opened;
          transcript = c.in-Ok-run_over.ensures.transcript;
          clients_whole = c.in-Ok-run_over.ensures.clients_whole;
          in_turn = c.in-Ok-run_over.ensures.in_turn;
          given_back = subst (λ (s : FilesState). WereGivenBack (map (λ one. one.after) all) s (g.F.Files.state c.tell_run.new.files)) c.in-Ok.ensures.same
              (subst (λ (sources : List SourceState). WereGivenBack sources (g.F.Files.state c.open_sources.new.files) (g.F.Files.state c.tell_run.new.files)) (sym (after_are state c.in-Ok.sources.items run.collectors one_each)) c.tell_run.ensures.given_back);
        },
        refl,
      ),
      c.tell_run.ensures.told,
    )

pub returns-in-Err : goal.returns-in-Err
returns-in-Err g c =
    let trouble = trouble_of c.in-Err.fault in
    let lack = subst (λ (names : List (List ℕ)). LackSources names (g.F.Files.state c.args.files.now) (g.F.Files.state c.open_sources.new.files) trouble) c.as_slice.ensures c.in-Err.ensures.err in
    (NotBegun trouble, inl (trouble, inl lack, refl), c.refuse_run.ensures)

pub give_back_all-requires-after_bounds : goal.give_back_all-requires-after_bounds
give_back_all-requires-after_bounds g c κs within =
    let state = g.F.In.Source.state in
    let opens = are_open (g.F.Files.state c.args.files.now).folder (map (λ n. n.now) c.as_slice.result.now) (map state c.in-Ok.sources.items) c.in-Ok.ensures.ok in
    subst (λ (sources : List g.row.F-In.Denot). AllByRecursion (IsOpenIn (g.F.Files.state c.open_sources.new.files).folder) (map state sources)) (sym c.in-Err-run_over.ensures.handed_back)
    (subst (λ (s : FilesState). AllByRecursion (IsOpenIn s.folder) (map state c.in-Ok.sources.items)) (sym c.in-Ok.ensures.same) opens)
