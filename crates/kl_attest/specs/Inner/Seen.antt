-- What clauses see of a cursor, and of what it reads.
use Rattle.kl_attest.specs.declared.cursor.BankSelection.{BankSelection}
use Rattle.kl_attest.specs.declared.cursor.ClockInfo.{ClockInfo}
use Rattle.kl_attest.specs.declared.cursor.Cursor.{Cursor}
use Rattle.kl_attest.specs.Grammar.{Selection}
use Rattle.kl_attest.specs.Inner.Reading.{Clock, Place}

abbrev pub place_of : Cursor → Place
place_of c = record { at = c.at; rest = c.rest.now }

abbrev pub selection_of : BankSelection → Selection
selection_of s = record { alg = s.alg; select = s.select.now }

abbrev pub clock_of : ClockInfo → Clock
clock_of c = record { clock = c.clock; reset = c.reset; restart = c.restart; safe = c.safe }

-- a cursor behind the header, which holds nothing else
abbrev pub passed : Cursor → (Unit {0} × Unit {0}) × Place
passed c = ((tt, tt), place_of c)
