use Rattle.kl_session.proofs.polling.nonce_of.Goals as goal

pub returns-in-Some-draw-clause-some : goal.returns-in-Some-draw-clause-some
returns-in-Some-draw-clause-some g c =
    rw c.in-None.is (λ keys maker steps. (c.in-Some-draw.drawn, c.in-Some-draw.ensures.some keys maker steps, c.nonce_from.ensures))
