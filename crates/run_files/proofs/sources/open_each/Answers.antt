use Rattle.std.proofs.Common.{rules, ◌∷◌, [], List, ◌+◌, ℕ, get_or, map, take, length, sym, ◌∙◌, ap, subst, arith}
use Rattle.std.specs.Prelude.{IfSome}
use Rattle.std.proofs.lemmas.List.{map-append, length-append}
use Rattle.poet_io.specs.FilesState.{FilesState}
use Rattle.poet_io.specs.Folder.{IsOpenedAt}
use Rattle.poet_io.specs.GivenBack.{IsNotOpened}
use Rattle.poet_io.specs.SourceState.{SourceState}
use Rattle.run_files.specs.Sources.{AreOpenedAt, IsStuck}
use Rattle.run_files.specs.Troubles.{Trouble}
use Rattle.run_files.proofs.Openings.{opened_next, stuck}
use Rattle.run_files.proofs.sources.open_each.Goals as goal

pub returns-in-Err-clause-err : goal.returns-in-Err-clause-err
returns-in-Err-clause-err g c =
    let state = g.F.In.Source.state in
    let files = g.F.Files.state in
    let before = c.loop-at.invariant in
    let name : List ℕ = (get_or c.args.names.now c.loop-at.at (record { ref_ptr = (0, 0); now = [] })).now in
    subst (λ (trouble : Trouble). IsStuck (map (λ n. n.now) c.args.names.now) (files c.args.files.now) (files c.open.new.self) (map state c.loop-at.sources.items) trouble) (sym c.of_open.ensures)
    (stuck (λ n. n.now) c.args.names.now c.loop-at.at (record { ref_ptr = (0, 0); now = [] }) c.loop-at-test.true (files c.args.files.now) (files c.open.new.self) (map state c.loop-at.sources.items) c.in-Err.error
    (subst (λ (s : FilesState). IsNotOpened c.in-Err.error name s (files c.open.new.self)) before.same c.in-Err.ensures.refused) before.opened)

pub loop-at-preserved : goal.loop-at-preserved
loop-at-preserved g c =
    let state = g.F.In.Source.state in
    let files = g.F.Files.state in
    let before = c.loop-at.invariant in
    let many = before.many in
    let name : List ℕ = (get_or c.args.names.now c.loop-at.at (record { ref_ptr = (0, 0); now = [] })).now in
    let longer = ap length c.push_reserved.ensures.items ∙ length-append c.loop-at.sources.items (c.in-Ok.source ∷ []) in
    record {
      opened = subst (λ (sources : List SourceState). AreOpenedAt (files c.args.files.now).folder (map (λ n. n.now) (take (c.loop-at.at + 1) c.args.names.now)) sources)
          (sym (ap (map state) c.push_reserved.ensures.items ∙ map-append state c.loop-at.sources.items (c.in-Ok.source ∷ [])))
          (opened_next (λ n. n.now) c.args.names.now c.loop-at.at (record { ref_ptr = (0, 0); now = [] }) c.loop-at-test.true (files c.args.files.now).folder (map state c.loop-at.sources.items) (state c.in-Ok.source) before.opened
          (subst (λ (s : FilesState). IfSome s.folder (λ folder. IsOpenedAt folder name (state c.in-Ok.source))) before.same c.in-Ok.ensures.opened) c.in-Ok.ensures.fresh);
      many = omega (arith, longer, many);
      room = search rules;
      same = c.in-Ok.ensures.same ∙ before.same;
    }
