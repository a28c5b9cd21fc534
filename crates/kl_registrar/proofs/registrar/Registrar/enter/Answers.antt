use Rattle.kl_registrar.specs.Calls.{registration}
use Rattle.kl_registrar.proofs.Keeping.{keeps_register}
use Rattle.kl_registrar.proofs.registrar.Registrar.enter.Goals as goal

pub returns-clause-done : goal.returns-clause-done
returns-clause-done c past keeps =
    keeps_register c.args.self.now c.put.new.self past c.args.id (registration c.args.ek.now c.args.ak.now c.args.contact.now c.args.secret)
    c.in_ok-record.record keeps c.in_ok-record.ensures.told c.in_ok-record.ensures.inactive c.in_ok-put.ensures.done
