use Rattle.std.proofs.Common.{◌≡◌, ◌≢◌, ◌+◌, ◌*◌, ◌<◌, ap, ◌∙◌, arith, get_or-set_other}
use Rattle.cluster_levels.specs.Tallies.{TallyTable, tally}
use Rattle.cluster_levels.proofs.TallyLines.{same_place}
use Rattle.cluster_levels.proofs.tallies.Tallies.raise.Goals as goal

pub returns-clause-others : goal.returns-clause-others
returns-clause-others c = λ i j one other apart.
    let wide : c.self.inside.width ≡ c.args.self.now.width = ap (λ (table : TallyTable). table.width) c.self.view_is in
    let within : j < c.self.inside.width = omega (arith, other, wide) in
    let column_in : c.args.column < c.self.inside.width = omega (arith, c.requires.column, wide) in
    let away : i * c.self.inside.width + j ≢ c.place_in-place.result =
    λ same. let places = same_place c.self.inside.width i j c.args.row c.args.column within column_in (same ∙ c.place_in-place.ensures.place) in apart places.0 places.1 in
    get_or-set_other c.self.inside.numbers.items c.place_in-place.result (i * c.self.inside.width + j) c.saturating_add.result 0 away
    ∙ ap (λ (table : TallyTable). tally table i j) c.self.view_is
