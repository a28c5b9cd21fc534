-- What the records of one agent say, looked back over from the newest. Each of these is asked of the records that belong to
-- the agent alone.
use Rattle.std.specs.Prelude.{ℕ, suc, Bool, true, false, ◌||◌, [], ◌∷◌, Option, Some, None}
use Rattle.kl_quote.specs.declared.evidence.Evidence.{Evidence}
use Rattle.kl_states.specs.declared.verdict.Verdict.TheVariants as verdict
use Rattle.kl_states.specs.declared.outcome.Outcome.TheVariants as outcome
use Rattle.kl_appraise.specs.Terms.{TermsFields}
use Rattle.kl_history.specs.declared.record.Record.{Record}
use Rattle.kl_history.specs.declared.record.Record.TheVariants.{Install, Verdict, Restart, Lost, Settled, Remove}
use Rattle.kl_history.specs.Records.{Past}

-- what an agent is installed with
pub record Installed : Type 0 where
  pub generation : ℕ
  pub terms : TermsFields

-- what the last Install installed, where no Remove follows it
abbrev pub installed : Past → Option Installed
installed [] = None
installed (Install a g t w ∷ earlier) = Some (record { generation = g; terms = t })
installed (Remove a ∷ earlier) = None
installed (_ ∷ earlier) = installed earlier

-- a record of this kind came since the last Install
abbrev pub came : (Record → Bool) → Past → Bool
came is_so [] = false
came is_so (Install a g t w ∷ earlier) = false
came is_so (r ∷ earlier) = is_so r || came is_so earlier

-- how many current losses there were since the last Install, current Verdict or current Restart; what was dropped neither
-- counts nor ends the count
abbrev pub losses : Past → ℕ
losses [] = 0
losses (Install a g t w ∷ earlier) = 0
losses (Verdict p e s v true ∷ earlier) = 0
losses (Restart p e s true ∷ earlier) = 0
losses (Lost p w true ∷ earlier) = suc (losses earlier)
losses (_ ∷ earlier) = losses earlier

-- how many current deliveries were missed since the last Install or current delivery that arrived; what was withdrawn
-- neither counts nor ends the count
abbrev pub missed : Past → ℕ
missed [] = 0
missed (Install a g t w ∷ earlier) = 0
missed (Settled n outcome.Arrived true ∷ earlier) = 0
missed (Settled n outcome.Missed true ∷ earlier) = suc (missed earlier)
missed (_ ∷ earlier) = missed earlier

-- a poll that passed, and the evidence of its reply
pub record Passing : Type 0 where
  pub poll : ℕ
  pub evidence : Evidence

-- the pass, where the last of Install, current Restart and current Verdict is one
abbrev pub last_pass : Past → Option Passing
last_pass [] = None
last_pass (Install a g t w ∷ earlier) = None
last_pass (Restart p e s true ∷ earlier) = None
last_pass (Verdict p e s (verdict.Pass cut) true ∷ earlier) = Some (record { poll = p; evidence = e })
last_pass (Verdict p e s (verdict.Failed why) true ∷ earlier) = None
last_pass (Verdict p e s (verdict.Invalid why) true ∷ earlier) = None
last_pass (_ ∷ earlier) = last_pass earlier
