use Rattle.std.proofs.Common.{◌++◌, ◌∷◌, [], List, map, sym, ap, subst}
use Rattle.std.specs.List.{AllByRecursion}
use Rattle.std.specs.Vec.Iter.{into_iter_items}
use Rattle.run_files.specs.Sources.{IsOpenIn}
use Rattle.run_files.proofs.Openings.{back_first, back_more, none_back, open_first}
use Rattle.run_files.proofs.sources.give_back_all.Goals as goal

pub loop-source-init : goal.loop-source-init
loop-source-init g c =
    let state = g.F.In.Source.state in
    record {
      back = [];
      whole = ap (map state) (sym c.into_iter-rest.ensures.rest);
      were = none_back (g.F.Files.state c.args.files.now);
      open_still = subst (λ (items : List g.row.F-In.Denot). AllByRecursion (IsOpenIn (g.F.Files.state c.args.files.now).folder) (map state items)) (sym c.into_iter-rest.ensures.rest) c.requires;
    }

pub loop-source-preserved : goal.loop-source-preserved
loop-source-preserved g c =
    let state = g.F.In.Source.state in
    let before = c.loop-source.invariant in
    let folder = (g.F.Files.state c.args.files.now).folder in
    record {
      back = before.back ++ state c.in-Some.source ∷ [];
      whole = back_first state c.args.sources.items (into_iter_items c.loop-source.rest) c.in-Some.source (into_iter_items c.next.new.self) before.back before.whole c.in-Some.ensures.items;
      were = back_more before.back (state c.in-Some.source ∷ []) (g.F.Files.state c.args.files.now) (g.F.Files.state c.loop-source.files) (g.F.Files.state c.give_back.new.files) before.were c.give_back.ensures;
      open_still = (open_first state folder (into_iter_items c.loop-source.rest) c.in-Some.source (into_iter_items c.next.new.self) c.in-Some.ensures.items before.open_still).1;
    }
