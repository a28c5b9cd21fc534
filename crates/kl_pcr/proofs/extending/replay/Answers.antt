-- A replay of digests goes on with the entries that are measured as them.
use Rattle.std.proofs.Common.{ℕ, List, ap, sym, ◌∙◌}
use Rattle.std.proofs.lemmas.List.{take_all}
use Rattle.kl_pcr.specs.Replay.{folded, replay_of}
use Rattle.kl_pcr.proofs.ReplayFacts.{replay_of-from}
use Rattle.kl_pcr.proofs.extending.replay.Goals as goal

pub returns-clause-entries : goal.returns-clause-entries
returns-clause-entries c first more begins same =
    c.loop-digest.invariant.value
    ∙ ap (folded c.args.bank c.args.start.now) (take_all c.loop-digest.digest-index c.args.with.now c.loop-digest-test.false)
    ∙ ap (λ (held : List ℕ). folded c.args.bank held c.args.with.now) begins
    ∙ ap (folded c.args.bank (replay_of c.args.bank first)) same
    ∙ sym (replay_of-from c.args.bank first more)
