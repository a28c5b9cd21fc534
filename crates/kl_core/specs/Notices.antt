-- What the calls that deliver notices answer, by the records and the marks that they found.
use Rattle.std.specs.Prelude.{◌≡◌, ℕ, Bool, if◌then◌else◌, Option, Some, slice_get, IsTrue, ◌↔◌}
use Rattle.kl_notice.specs.declared.notice.Notice.{Notice}
use Rattle.kl_history.specs.Notices.{notices}
use Rattle.kl_core.specs.Books.{BookFields}

-- the first notice that is not delivered, none where all are
abbrev pub next_notice : BookFields → Option Notice
next_notice b = slice_get (notices b.history) b.marks

abbrev pub NoticeAnswers : Option Notice → BookFields → Type 0
NoticeAnswers answer b = answer ≡ next_notice b

-- the first notice that is not delivered has this number
abbrev pub IsNext : ℕ → BookFields → Type 0
IsNext number b = (n : Notice) × (next_notice b ≡ Some n) × (n.number ≡ number)

abbrev pub MarkAnswers : ℕ → Bool → BookFields → Type 0
MarkAnswers number answer b = IsTrue answer ↔ IsNext number b

-- how many notices an answer marks
abbrev pub marks_of : Bool → ℕ
marks_of answer = if answer then 1 else 0
