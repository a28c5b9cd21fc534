use Rattle.keylime.proofs.Numbers.{said}
use Rattle.keylime.proofs.starting.answer.Goals as goal

pub returns-then-is_only_word-clause-statuses : goal.returns-then-is_only_word-clause-statuses
returns-then-is_only_word-clause-statuses g c = said _ c.say.ensures.statuses

pub returns-then-is_only_word-2-clause-statuses : goal.returns-then-is_only_word-2-clause-statuses
returns-then-is_only_word-2-clause-statuses g c = said _ c.say-then-is_only_word-2.ensures.statuses
