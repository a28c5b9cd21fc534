use Rattle.kl_quote.proofs.OneForm.{alone_from, formless_from}
use Rattle.kl_quote.proofs.Splitting.{only_from}
use Rattle.kl_quote.proofs.quote.read_quote.Goals as goal

pub returns-clause-only : goal.returns-clause-only
returns-clause-only c = only_from c.args.text.now c.decode.result c.decode.ensures.found c.decode.ensures.fault

pub returns-clause-alone : goal.returns-clause-alone
returns-clause-alone c = alone_from c.args.text.now c.decode.result c.decode.ensures.found c.decode.ensures.fault

pub returns-clause-formless : goal.returns-clause-formless
returns-clause-formless c = formless_from c.args.text.now c.decode.result c.decode.ensures.found c.decode.ensures.fault c.decode.ensures.memory
