use Rattle.std.proofs.Common.{length}
use denote.Text.{Utf8}
use denote.Shadow.{shadow}
use Rattle.std.specs.String.{string_bytes}
use Rattle.kl_script.proofs.Escapes.{ReadsOn}
use Rattle.kl_script.proofs.words.unescape_rest.Given as goal

abbrev pub invariant-loop-stretch : goal.invariant-loop-stretch
invariant-loop-stretch l = record { utf8 : shadow (Utf8 l.rest); so_far : ReadsOn l.written l.rest (string_bytes l.text) }

abbrev pub decreases-loop-stretch : goal.decreases-loop-stretch
decreases-loop-stretch l = length l.rest
