use Rattle.kl_entry.proofs.Spelling.{only_entry, only_fault}
use Rattle.kl_entry.proofs.reading.read_entry.Goals as goal

pub returns-clause-only : goal.returns-clause-only
returns-clause-only c = only_entry c.args.line.now c.first_fault.result c.first_fault.ensures.found c.first_fault.ensures.fault

pub returns-clause-alone : goal.returns-clause-alone
returns-clause-alone c = only_fault c.args.line.now c.first_fault.result c.first_fault.ensures.found c.first_fault.ensures.fault
