use Rattle.order_tests.proofs.cuts.runs_are_those_worked_out.Given as goal

-- each count has a ledger of its own
abbrev pub ghosts-are_near : goal.ghosts-are_near
ghosts-are_near g a = record { name = a.blank.name; parts = a.blank.parts }

abbrev pub ghosts-are_moved : goal.ghosts-are_moved
ghosts-are_moved g a = record { name = a.blank.name; parts = a.blank.parts }
