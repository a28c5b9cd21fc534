-- The text of a verdict: words with one space between two, numbers in decimal.
use Rattle.std.specs.Prelude.{ℕ, List, ◌++◌, codes, decimal}
use Rattle.kl_states.specs.declared.verdict.Verdict.{Verdict}
use Rattle.kl_states.specs.declared.verdict.Verdict.TheVariants.{Pass, Failed, Invalid}
use Rattle.kl_states.specs.declared.verdict.FailedCause.{FailedCause}
use Rattle.kl_states.specs.declared.verdict.FailedCause.TheVariants.{Pcr, Line, ListFull, Unmatched, Entry}
use Rattle.kl_states.specs.declared.verdict.InvalidCause.{InvalidCause}
use Rattle.kl_states.specs.declared.verdict.InvalidCause.TheVariants.{Form, Bank, Attest, Signature, Nonce, Selection, PcrLength, PcrDigest, Binding, Start}
use Rattle.kl_states.specs.declared.verdict.AttestCause.{AttestCause}
use Rattle.kl_states.specs.declared.verdict.AttestCause.TheVariants.{Short, Magic, AttestType, Safe, Tail}
use Rattle.kl_states.specs.declared.verdict.LineCause.{LineCause}
use Rattle.kl_states.specs.declared.verdict.LineCause.TheVariants as line
use Rattle.kl_states.specs.declared.verdict.EntryCause.{EntryCause}
use Rattle.kl_states.specs.declared.verdict.EntryCause.TheVariants as entry

abbrev pub line_text : LineCause → List ℕ
line_text line.TooLong = codes "toolong"
line_text line.Pcr = codes "pcr"
line_text line.HashText = codes "hash"
line_text line.Template = codes "template"
line_text line.Digest = codes "digest"
line_text line.Path = codes "path"

abbrev pub entry_text : EntryCause → List ℕ
entry_text entry.Violation = codes "violation"
entry_text entry.Inconsistent = codes "inconsistent"
entry_text entry.Unknown = codes "unknown"
entry_text entry.Digest = codes "digest"

abbrev pub attest_text : AttestCause → List ℕ
attest_text (Short at) = codes "short " ++ decimal at
attest_text Magic = codes "magic"
attest_text AttestType = codes "type"
attest_text Safe = codes "safe"
attest_text (Tail at) = codes "tail " ++ decimal at

abbrev pub failed_text : FailedCause → List ℕ
failed_text (Pcr n) = codes "pcr " ++ decimal n
failed_text (Line i cause) = codes "line " ++ decimal i ++ codes " " ++ line_text cause
failed_text ListFull = codes "listfull"
failed_text Unmatched = codes "unmatched"
failed_text (Entry i cause) = codes "entry " ++ decimal i ++ codes " " ++ entry_text cause

abbrev pub invalid_text : InvalidCause → List ℕ
invalid_text (Form part) = codes "form " ++ decimal part
invalid_text Bank = codes "bank"
invalid_text (Attest cause) = codes "attest " ++ attest_text cause
invalid_text Signature = codes "signature"
invalid_text Nonce = codes "nonce"
invalid_text Selection = codes "selection"
invalid_text PcrLength = codes "pcrlength"
invalid_text PcrDigest = codes "pcrdigest"
invalid_text Binding = codes "binding"
invalid_text Start = codes "start"

abbrev pub verdict_text : Verdict → List ℕ
verdict_text (Pass cut) = codes "pass " ++ decimal cut
verdict_text (Failed cause) = codes "failed " ++ failed_text cause
verdict_text (Invalid cause) = codes "invalid " ++ invalid_text cause
