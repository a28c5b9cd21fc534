-- What the commands do that ask which agent is polled next, and that deliver notices.
use Rattle.std.specs.Prelude.{◌≡◌, ℕ, Bool, true, false, List, Option}
use Rattle.kl_core.specs.Books.{with_marks}
use Rattle.kl_core.specs.Notices.{next_notice, MarkAnswers, marks_of}
use Rattle.kl_core.specs.Picks.{PickAnswers}
use Rattle.kl_session.specs.Calls.{VerifierFields, past, book_of, verifier_of}
use Rattle.kl_session.specs.Texts.{picked_line, notice_line, noticed_line, no_notice_line}

-- the agent that is polled next at the moment
abbrev pub SaysPicked : VerifierFields → List ℕ → Type 0
SaysPicked s line = (picked : Option (List ℕ)) × PickAnswers s.moment picked (past s) × (line ≡ picked_line picked)

-- the first notice that is not delivered
abbrev pub SaysNotice : VerifierFields → List ℕ → Type 0
SaysNotice s line = line ≡ notice_line (next_notice (book_of s))

abbrev pub says_noticed : ℕ → Bool → List ℕ
says_noticed number true = noticed_line number
says_noticed number false = no_notice_line number

-- the first notice that is not delivered is marked as delivered, where it has this number
pub record DoesMark (number : ℕ) (s s' : VerifierFields) (line : List ℕ) : Type 0 where
  pub answer : Bool
  pub answers : MarkAnswers number answer (book_of s)
  pub after : s' ≡ verifier_of (with_marks (marks_of answer) (book_of s)) s.moment
  pub said : line ≡ says_noticed number answer
