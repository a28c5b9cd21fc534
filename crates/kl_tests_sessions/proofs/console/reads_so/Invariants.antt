use Rattle.kl_tests_sessions.proofs.console.reads_so.Given as goal

-- the count is that of the blank
abbrev pub ghosts-run_counted : goal.ghosts-run_counted
ghosts-run_counted a = record { name = a.blank.name; parts = a.blank.parts }
