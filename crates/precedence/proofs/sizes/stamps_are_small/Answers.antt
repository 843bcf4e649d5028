use Rattle.std.proofs.Common.{◌∙◌, arith}
use Rattle.precedence.proofs.OwnMembers.{as_many_parts, as_many_above, few_by_size}
use Rattle.precedence.proofs.Lookups.{event_of_stamp}
use Rattle.precedence.proofs.sizes.stamps_are_small.Goals as goal

pub returns-clause-few : goal.returns-clause-few
returns-clause-few c w lists are id stamp at low =
    let e = event_of_stamp w lists are id stamp at in
    let few = few_by_size w (c.laws.ensures w) e.0 stamp e.3 low in
    let count = as_many_parts w (c.laws.ensures w) e.0 stamp e.3 in
    omega (arith, few, count)

pub returns-clause-all : goal.returns-clause-all
returns-clause-all c w lists are id stamp at high =
    let e = event_of_stamp w lists are id stamp at in
    as_many_parts w (c.laws.ensures w) e.0 stamp e.3 ∙ as_many_above w (c.laws.ensures w) e.0 stamp e.3 high
