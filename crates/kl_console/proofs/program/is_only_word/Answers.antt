use Rattle.std.proofs.Common.{rules}
use Rattle.kl_console.proofs.Words.{one_word}
use Rattle.kl_console.proofs.program.is_only_word.Goals as goal

pub returns-then-words-eq1 : goal.returns-then-words-eq1
returns-then-words-eq1 c =
    one_word _ c.args.words.now c.index-words-0.result _ c.eq.result c.if-words-eq1.true c.index-words-0.is (search rules)
