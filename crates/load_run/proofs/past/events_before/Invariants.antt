use Rattle.load_run.proofs.past.events_before.Given as goal

-- nobody counts these steps
abbrev pub ghosts-read_clock : goal.ghosts-read_clock
ghosts-read_clock a = record { name = a.blank.name; parts = a.blank.parts }
