use Rattle.precedence.proofs.stamp.part.Given as goal

-- nobody counts this step
abbrev pub ghosts-read : goal.ghosts-read
ghosts-read a = record { name = a.blank.name; parts = a.blank.parts }
