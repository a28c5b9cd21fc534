use Rattle.std.proofs.Common.{refl}
use Rattle.std.proofs.lemmas.Result.{IfOk-weaker, IfErr-weaker}
use Rattle.kl_script.specs.declared.command.RegistrarCommand.TheVariants.{Activate, Forget}
use Rattle.kl_session.specs.Registering.{RegistrarDoes}
use Rattle.kl_session.proofs.Standing.{register_stopped, leads_alone, leads_short}
use Rattle.kl_session.proofs.registering.obey_registrar.Goals as goal

pub returns-in-Register-clause-done : goal.returns-in-Register-clause-done
unfolding RegistrarDoes
returns-in-Register-clause-done g c = rw c.in-Register.is c.register_agent.ensures.done

pub returns-in-Register-clause-stopped : goal.returns-in-Register-clause-stopped
returns-in-Register-clause-stopped g c =
    rw c.in-Register.is
    (IfErr-weaker c.register_agent.result _ _
    (λ why short maker steps calls keeps.
    let (calls', kept, stopped) = short maker steps calls keeps in
    (calls', kept, register_stopped why _ _ c.in-Register.register calls calls' stopped))
    c.register_agent.ensures.stopped)

pub returns-in-Activate-clause-done : goal.returns-in-Activate-clause-done
unfolding RegistrarDoes
returns-in-Activate-clause-done g c =
    rw c.in-Activate.is
    (IfOk-weaker c.activate_agent.result _ _
    (λ line did maker steps. leads_alone _ _ _ _ did)
    c.activate_agent.ensures.done)

pub returns-in-Activate-clause-stopped : goal.returns-in-Activate-clause-stopped
unfolding RegistrarDoes
returns-in-Activate-clause-stopped g c =
    rw c.in-Activate.is
    (IfErr-weaker c.activate_agent.result _ _ (λ why short maker steps. leads_short why _ _ _ (Activate c.in-Activate.activate) _ (λ calls calls' line did. (refl, did)) short)
    c.activate_agent.ensures.short)

pub returns-in-Forget-clause-done : goal.returns-in-Forget-clause-done
unfolding RegistrarDoes
returns-in-Forget-clause-done g c =
    rw c.in-Forget.is
    (IfOk-weaker c.forget_agent.result _ _
    (λ line did maker steps. leads_alone _ _ _ _ did)
    c.forget_agent.ensures.done)

pub returns-in-Forget-clause-stopped : goal.returns-in-Forget-clause-stopped
unfolding RegistrarDoes
returns-in-Forget-clause-stopped g c =
    rw c.in-Forget.is
    (IfErr-weaker c.forget_agent.result _ _ (λ why short maker steps. leads_short why _ _ _ (Forget c.in-Forget.agent) _ (λ calls calls' line did. (refl, did)) short)
    c.forget_agent.ensures.short)

pub returns-in-Record-clause-done : goal.returns-in-Record-clause-done
unfolding RegistrarDoes
returns-in-Record-clause-done g c =
    rw c.in-Record.is
    (IfOk-weaker c.record_of.result _ _
    (λ line did maker steps. leads_alone _ _ _ _ did)
    c.record_of.ensures.done)

pub returns-in-Records-clause-done : goal.returns-in-Records-clause-done
unfolding RegistrarDoes
returns-in-Records-clause-done g c =
    rw c.in-Records.is
    (IfOk-weaker c.list_agents.result _ _
    (λ line did maker steps. leads_alone _ _ _ _ did)
    c.list_agents.ensures.done)
