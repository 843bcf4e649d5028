use Rattle.std.proofs.Common.{inl, inr, refl}
use Rattle.target_desc.proofs.mates.check_mates.Goals as goal

pub returns-in-Some-first_unmutual_mate-clause-err : goal.returns-in-Some-first_unmutual_mate-clause-err
returns-in-Some-first_unmutual_mate-clause-err c = inr (
  (λ error unknown. c.in_default.ensures.none unknown.0 unknown.1.has),
  inl (c.in-Some-first_unmutual_mate.place, c.in-Some-first_unmutual_mate.ensures.found, refl),
)

pub returns-in-None-clause-good : goal.returns-in-None-clause-good
returns-in-None-clause-good c = record { known = c.in_default.ensures.none; mutual_mates = c.in-None.ensures.none }
