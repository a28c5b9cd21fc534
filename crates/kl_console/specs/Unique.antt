-- What a script prints.
use Rattle.std.specs.Prelude.{◌≡◌, ◌⊎◌, ℕ, false, List, ◌++◌, All, Some}
use Rattle.kl_keys.specs.Relations.{Relations}
use Rattle.kl_core.specs.Books.{BookFields}
use Rattle.kl_session.specs.Unique.{is_short, IsFaultless}
use Rattle.kl_console.specs.Run.{Moment, IsDone, IsFaulty, LacksWords, IsOver}

-- A run ended with this status, 0, 3, 6 or 8, and dropped no poll for want of memory: its source told these bytes, all that it had
-- left; its key object told that it answers by these relations, and its words that these bytes are left; their counts of faults
-- did not rise; and its output, which told its bytes, came to hold these behind those that it held before.
pub record Prints (script : List ℕ) (relations : Relations) (words : List ℕ) (status : ℕ) (written : List ℕ) : Type 0 where
  pub before : Moment
  pub after : Moment
  pub book : BookFields
  pub whole : before.script.left ≡ Some script
  pub faultless : IsFaultless relations words before.outside after.outside
  pub ample : All (λ r. is_short r ≡ false) book.history
  pub held : List ℕ
  pub held_before : before.out.held ≡ Some held
  pub held_after : after.out.held ≡ Some (held ++ written)
  pub ends :
      ((status ≡ 0) × IsDone before after book)
      ⊎ (((status ≡ 3) × IsFaulty before after book)
      ⊎ (((status ≡ 6) × LacksWords before after book) ⊎ ((status ≡ 8) × IsOver before after book)))
