-- The first newline of some bytes, by what a search for it says.
use Rattle.std.proofs.Common.{◌≡◌, ℕ, ◌<◌, List, length, get_or, Option, Some, None, refl, eq-eqb, arith, length-take, sym, ◌∙◌, add-one}
use Rattle.std.specs.Prelude.{IfSome, IfNone}
use Rattle.std.proofs.lemmas.Bool.{eqb-true}
use Rattle.std.proofs.lemmas.List.{get_or-take, get_or_default}
use Rattle.std.proofs.Math.Seq.{split_at}
use Rattle.memchr.specs.Find.{IsFirstByte, is_byte}
use Rattle.kl_entry.specs.Lines.{HasNo}
use Rattle.kl_console.specs.Inner.Reading.{IsNewlineAt}

pub newline_found : (bytes : List ℕ) (r : Option ℕ) → IsFirstByte (is_byte 10) bytes r → IfSome r (IsNewlineAt bytes)
newline_found bytes None h = tt
newline_found bytes (Some at) h = record {
  inside = h.0.high;
  before = λ has.
      let k = has.0 in
      let below : k < at = omega (arith, has.1, length-take at bytes) in
      let inside : k < length bytes = omega (arith, h.0.high) in
      let same : get_or bytes k 0 ≡ 10 = get_or_default bytes k 0 10 inside ∙ sym (get_or-take at bytes k 10 below) ∙ has.2
      in h.0.before k (omega arith) below (eq-eqb _ _ same);
  parts =
      let here : get_or bytes at 0 ≡ 10 = eqb-true _ _ h.1 in
      split_at bytes at 0 h.0.high ∙ rw (here, ← add-one at) refl;
}

pub newline_missing : (bytes : List ℕ) (r : Option ℕ) → IsFirstByte (is_byte 10) bytes r → IfNone r (HasNo 10 bytes)
newline_missing bytes (Some at) h = tt
newline_missing bytes None h = λ has. h has.0 (omega arith) has.1 (eq-eqb _ _ (get_or_default bytes has.0 0 10 has.1 ∙ has.2))
