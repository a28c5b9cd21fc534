use Rattle.kl_console.proofs.Newlines.{newline_found, newline_missing}
use Rattle.kl_console.proofs.line_reader.newline_at.Goals as goal

pub returns-clause-found : goal.returns-clause-found
returns-clause-found c = newline_found c.args.bytes.now c.memchr.result c.memchr.ensures

pub returns-clause-none : goal.returns-clause-none
returns-clause-none c = newline_missing c.args.bytes.now c.memchr.result c.memchr.ensures
