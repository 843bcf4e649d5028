use Rattle.list_tests.proofs.stamps.the_last_above_is_found.Given as goal

-- each count has a ledger of its own
abbrev pub ghosts-entries : goal.ghosts-entries
ghosts-entries g a = record { name = a.blank.name; parts = a.blank.parts }
