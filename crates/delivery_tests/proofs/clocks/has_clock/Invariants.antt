use Rattle.delivery_tests.proofs.clocks.has_clock.Given as goal

-- each walk has a ledger of its own
abbrev pub ghosts-write_clock : goal.ghosts-write_clock
ghosts-write_clock a = record { name = a.blank.name; parts = a.blank.parts }
