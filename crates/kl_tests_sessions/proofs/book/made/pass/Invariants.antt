use Rattle.kl_tests_sessions.proofs.book.made.pass.Given as goal

abbrev pub ghosts-appraised : goal.ghosts-appraised
ghosts-appraised a = record { name = a.blank.name; parts = a.blank.parts }
