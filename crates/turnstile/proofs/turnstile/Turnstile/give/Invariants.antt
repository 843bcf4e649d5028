use Rattle.turnstile.proofs.turnstile.Turnstile.give.Given as goal

abbrev pub ghosts-append : goal.ghosts-append
ghosts-append g a = record { journal = g.V.StandsFor.journal_of a.value.now }
