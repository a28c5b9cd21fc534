use Rattle.kl_tests_sessions.proofs.session.a_pattern_is_asked_for_once_and_what_is_open_is_closed_at_the_end.Given as goal

abbrev pub ghosts-first_other : goal.ghosts-first_other
ghosts-first_other g a = record { name = a.blank.name; parts = a.blank.parts }
