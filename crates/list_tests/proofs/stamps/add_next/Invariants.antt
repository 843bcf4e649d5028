use Rattle.list_tests.proofs.stamps.add_next.Given as goal

-- each count has a ledger of its own
abbrev pub ghosts-keeps_own_number : goal.ghosts-keeps_own_number
ghosts-keeps_own_number a = record { name = a.blank.name; parts = a.blank.parts }
