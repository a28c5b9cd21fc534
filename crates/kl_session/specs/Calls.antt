-- What a session's parts do by one call.
use Rattle.std.specs.Prelude.{◌≡◌, ℕ, Bool, false, List, [], ◌++◌, Option, Some}
use Rattle.kl_history.specs.declared.record.Record.{Record}
use Rattle.kl_history.specs.Records.{History, Past, past_of, is_open, is_unsettled}
use Rattle.kl_core.specs.Books.{BookFields}
use Rattle.kl_core.specs.Texts.{refusal_text}
use Rattle.kl_core.specs.declared.refusal.Refusal.{Refusal}
use Rattle.kl_core.specs.declared.refusal.Refusal.TheVariants.{NoPoll, NoRelease}
use Rattle.kl_registrar.specs.Calls.{Call, Log}
use Rattle.kl_registrar.specs.Records.{Keeps}
use Rattle.kl_registrar.specs.declared.record.RegRecord.{RegRecord}
use Rattle.kl_session.specs.Texts.{refused_line}

-- how far a verifier has come: the history of its polls, how many of the notices that it makes are delivered, and the moment, in
-- milliseconds
pub record VerifierFields : Type 0 where
  pub history : History
  pub marks : ℕ
  pub moment : ℕ

-- how far a session has come: its verifier, and the calls that its registrar did, the newest first
pub record SessionFields : Type 0 where
  pub verifier : VerifierFields
  pub calls : Log

-- a session in which nothing was done
abbrev pub empty : SessionFields
empty = record { verifier = record { history = []; marks = 0; moment = 0 }; calls = [] }

-- what a session keeps: its verifier, and the records of its registrar
pub record Kept : Type 0 where
  pub verifier : VerifierFields
  pub records : List (List ℕ × RegRecord)

-- what is kept stands for a session that has come so far
pub record Stands (kept : Kept) (s : SessionFields) : Type 0 where
  pub verifier : s.verifier ≡ kept.verifier
  pub registrar : Keeps kept.records s.calls

-- ---- the verifier

-- a verifier with this book, at this moment
abbrev pub verifier_of : BookFields → ℕ → VerifierFields
verifier_of b moment = record { history = b.history; marks = b.marks; moment = moment }

-- its history, and how far its notices are delivered
abbrev pub book_of : VerifierFields → BookFields
book_of s = record { history = s.history; marks = s.marks }

-- what happened so far, the newest record first
abbrev pub past : VerifierFields → Past
past s = past_of s.history

-- the verifier with these records more
abbrev pub with_more : List Record → VerifierFields → VerifierFields
with_more made s = record { history = s.history ++ made; marks = s.marks; moment = s.moment }

-- A call of the desk was answered so: it has made its records, and the line says what it answered. An answer of which nothing
-- is said ends the session.
pub record Answered {A : Type 0} (Answers : A → Past → Type 0) (makes : A → Past → List Record) (says : A → Option (List ℕ))
    (s s' : VerifierFields) (line : List ℕ) : Type 0 where
  pub answer : A
  pub answers : Answers answer (past s)
  pub after : s' ≡ with_more (makes answer (past s)) s
  pub said : says answer ≡ Some line

-- what the command names is not open, so it is refused for this reason and changes nothing
abbrev pub FindsNone : Bool → Refusal → VerifierFields → VerifierFields → List ℕ → Type 0
FindsNone opened why s s' line = (opened ≡ false) × (s' ≡ s) × (line ≡ refused_line (refusal_text why))

-- a poll, or a release, by its number
abbrev pub FindsNoPoll : ℕ → VerifierFields → VerifierFields → List ℕ → Type 0
FindsNoPoll p s s' line = FindsNone (is_open (past s) p) (NoPoll p) s s' line

abbrev pub FindsNoRelease : ℕ → VerifierFields → VerifierFields → List ℕ → Type 0
FindsNoRelease n s s' line = FindsNone (is_unsettled (past s) n) (NoRelease n) s s' line

-- ---- the registrar

-- A call of the registrar was answered so: it stands before those that were done, if it was done, and the line says what it answered.
pub record Called {A : Type 0} (Answers : A → Log → Type 0) (makes : A → List Call) (says : A → List ℕ)
    (calls calls' : Log) (line : List ℕ) : Type 0 where
  pub answer : A
  pub answers : Answers answer calls
  pub after : calls' ≡ makes answer ++ calls
  pub said : line ≡ says answer
