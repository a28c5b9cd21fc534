use Rattle.std.proofs.Common.{◌≡◌, flat_map}
use Rattle.std.proofs.Math.Utf8.{encodes}
use Rattle.std.specs.String.{string_bytes}
use Rattle.kl_script.specs.Words.{spelling_of}
use Rattle.kl_script.proofs.words.write_chars.Given as goal

abbrev pub invariant-loop-character : goal.invariant-loop-character
invariant-loop-character l = string_bytes l.field ≡ flat_map spelling_of (encodes l.yielded)
