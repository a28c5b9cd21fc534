use Rattle.keylime.proofs.main.Given as goal

-- the count is that of the blank
abbrev pub ghosts-start : goal.ghosts-start
ghosts-start a = record { name = a.blank.name; parts = a.blank.parts }
