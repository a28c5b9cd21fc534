use Rattle.kl_tests_sessions.proofs.incr.evidence_is_appraised_and_a_key_fault_gives_the_ticket_back.Given as goal

abbrev pub ghosts-appraised : goal.ghosts-appraised
ghosts-appraised g a = record { name = a.blank.name; parts = a.blank.parts }
