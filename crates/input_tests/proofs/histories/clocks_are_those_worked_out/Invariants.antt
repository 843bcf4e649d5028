use Rattle.input_tests.proofs.histories.clocks_are_those_worked_out.Given as goal

-- a ledger of this one count
abbrev pub ghosts-have_clocks : goal.ghosts-have_clocks
ghosts-have_clocks g a = record { name = a.blank.name; parts = a.blank.parts }
