-- When what a command does follows from the session that it finds.
use Rattle.std.specs.Prelude.{◌≡◌, ℕ, ◌≤◌, Bool, true, false, List, ◌++◌, All, Some}
use Rattle.kl_io.specs.Calls.{Rose}
use Rattle.kl_keys.specs.Relations.{Relations}
use Rattle.kl_states.specs.declared.outcome.DropWhy.TheVariants as why
use Rattle.kl_script.specs.Commands.{CommandFields}
use Rattle.kl_history.specs.declared.record.Record.{Record}
use Rattle.kl_history.specs.declared.record.Record.TheVariants.{Dropped}
use Rattle.kl_history.specs.Records.{History}
use Rattle.kl_history.specs.Legal.{Legal}
use Rattle.kl_session.specs.declared.stop.Stop.TheVariants.{NoNonce}
use Rattle.kl_session.specs.Outside.{Outside}
use Rattle.kl_session.specs.Calls.{SessionFields}
use Rattle.kl_session.specs.Session.{Does, Follows}
use Rattle.kl_session.specs.Stopped.{IsStopped}

-- the record drops a poll for want of memory
abbrev pub is_short : Record → Bool
is_short (Dropped p why.Memory) = true
is_short _ = false

-- the history is legal, and no poll was dropped for want of memory
pub record LacksNothing (H : History) : Type 0 where
  pub legal : Legal H
  pub ample : All (λ r. is_short r ≡ false) H

-- The key object tells that it answers by these relations, and the words tell that these bytes are left; from the one moment to
-- the other no count of faults rose, and no pattern was refused as too large.
pub record IsFaultless (relations : Relations) (words : List ℕ) (o o' : Outside) : Type 0 where
  pub related : o.keys.relations ≡ Some relations
  pub left : o.words.left ≡ Some words
  pub keys : ¬ (Rose o.keys.calls.faults o'.keys.calls.faults)
  pub drawn : ¬ (Rose o.words.calls.faults o'.words.calls.faults)
  pub made : ¬ (Rose o.maker.calls.faults o'.maker.calls.faults)

-- From the one moment to the other the key object keeps its relations, no count of faults falls, and it stays known which words
-- are left.
pub record GoesOn (o o' : Outside) : Type 0 where
  pub related : o'.keys.relations ≡ o.keys.relations
  pub keys : o.keys.calls.faults ≤ o'.keys.calls.faults
  pub drawn : o.words.calls.faults ≤ o'.words.calls.faults
  pub made : o.maker.calls.faults ≤ o'.maker.calls.faults
  pub left : (words : List ℕ) → o.words.left ≡ Some words → (rest : List ℕ) × (o'.words.left ≡ Some rest)

-- the history of the session's verifier has more records, behind those that it had
abbrev pub Grows : SessionFields → SessionFields → Type 0
Grows s s' = (made : List Record) × (s'.verifier.history ≡ s.verifier.history ++ made)

-- Where the key object answers by these relations, and these words are left: without a fault and for want of nothing the command
-- leads from the one session to the other, prints this line and leaves these words.
pub record Steps (relations : Relations) (words : List ℕ) (s : SessionFields) (c : CommandFields) (s' : SessionFields) (line rest : List ℕ) : Type 0 where
  pub before : Outside
  pub after : Outside
  pub faultless : IsFaultless relations words before after
  pub does : Does before after s c s' line
  pub unwanting : LacksNothing s'.verifier.history
  pub left : after.words.left ≡ Some rest

-- the same of commands, one after the other
pub record Runs (relations : Relations) (words : List ℕ) (s : SessionFields) (commands : List CommandFields) (last : SessionFields)
    (lines : List (List ℕ)) (rest : List ℕ) : Type 0 where
  pub before : Outside
  pub after : Outside
  pub faultless : IsFaultless relations words before after
  pub follows : Follows before after s commands lines last
  pub unwanting : LacksNothing last.verifier.history
  pub left : after.words.left ≡ Some rest

-- A run of some commands and then of more, which prints these lines: it goes through the session in which a run of the first ones
-- ends, with the same words left, prints what that prints, and runs on from there.
pub record GoesThrough (relations : Relations) (s : SessionFields) (words : List ℕ) (more : List CommandFields) (last : SessionFields)
    (first lines : List (List ℕ)) (rest : List ℕ) : Type 0 where
  pub others : List (List ℕ)
  pub parts : lines ≡ first ++ others
  pub runs : Runs relations words s more last others rest

-- without a fault no nonce or no secret can be drawn for the command, since too few words are left
pub record IsDry (relations : Relations) (words : List ℕ) (s : SessionFields) (c : CommandFields) (s' : SessionFields) (rest : List ℕ) : Type 0 where
  pub before : Outside
  pub after : Outside
  pub faultless : IsFaultless relations words before after
  pub stopped : IsStopped NoNonce before after s c s'
  pub left : after.words.left ≡ Some rest
