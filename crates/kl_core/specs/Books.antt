-- A history, and how far its notices are delivered.
use Rattle.std.specs.Prelude.{ℕ, ◌+◌, List, ◌++◌}
use Rattle.kl_history.specs.declared.record.Record.{Record}
use Rattle.kl_history.specs.Records.{History, Past, past_of}

-- the records, and how many of the notices that they make are delivered: the first so many
pub record BookFields : Type 0 where
  pub history : History
  pub marks : ℕ

-- the records, the newest first
abbrev pub past : BookFields → Past
past b = past_of b.history

-- with these records more
abbrev pub with_more : List Record → BookFields → BookFields
with_more made b = record { history = b.history ++ made; marks = b.marks }

-- with so many more of its notices delivered
abbrev pub with_marks : ℕ → BookFields → BookFields
with_marks marked b = record { history = b.history; marks = b.marks + marked }
