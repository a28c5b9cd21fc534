use Rattle.std.proofs.Common.{arith}
use Rattle.kl_attest.proofs.FirstFaults.{is_found, is_only, is_fault, is_alone}
use Rattle.kl_attest.proofs.reading.read_attest.Goals as goal

pub returns-clause-found : goal.returns-clause-found
returns-clause-found c = is_found c.args.bytes.now c.read_whole.result (λ i. omega (arith, c.type_inv.bytes i)) c.read_whole.ensures

pub returns-clause-only : goal.returns-clause-only
returns-clause-only c = λ q spells. is_only c.args.bytes.now c.read_whole.result q c.read_whole.ensures spells

pub returns-clause-fault : goal.returns-clause-fault
returns-clause-fault c = is_fault c.args.bytes.now c.read_whole.result (λ i. omega (arith, c.type_inv.bytes i)) c.read_whole.ensures

pub returns-clause-alone : goal.returns-clause-alone
returns-clause-alone c = λ f first. is_alone c.args.bytes.now c.read_whole.result f (λ i. omega (arith, c.type_inv.bytes i)) c.read_whole.ensures first
