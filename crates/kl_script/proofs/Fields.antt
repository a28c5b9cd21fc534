-- What is a field and what is none, and that a field spells one text.
use Rattle.std.proofs.Common.{◌≡◌, ◌≢◌, inl, inr, ℕ, ◌≤◌, List, [], ◌∷◌, length, sym, ap, subst, ◌∙◌, arith}
use Rattle.std.proofs.lemmas.List.{nil_from_length}
use Rattle.kl_script.specs.Words.{HasNo, IsEscaped, IsField}
use Rattle.kl_script.proofs.Escapes.{length-escaped, nothing_written, IsEscaped-same, zero_is_no_escape}

pub field_found : (written text : List ℕ) → length written ≢ 0 → HasNo 32 written → IsEscaped written text → IsField written text
field_found written [] some h e = absurd (some (ap length e))
field_found written (byte ∷ text) some h e = (h, inl ((λ x. absurd cc), e))

pub empty_is_none : (written text : List ℕ) → length written ≡ 0 → ¬ (IsField written text)
empty_is_none written text none (h, inl p) = p.0 (nothing_written text (subst (λ (w : List ℕ). IsEscaped w text) (nil_from_length written none) p.1))
empty_is_none written text none (h, inr p) = absurd (omega (arith, ap length p.1))

pub IsField-same : (written text other : List ℕ) → IsField written text → IsField written other → text ≡ other
IsField-same written text other (h, inl p) (g, inl q) = IsEscaped-same written text other p.1 q.1
IsField-same written text other (h, inl p) (g, inr q) = absurd (zero_is_no_escape text (subst (λ (w : List ℕ). IsEscaped w text) q.1 p.1))
IsField-same written text other (h, inr p) (g, inl q) = absurd (zero_is_no_escape other (subst (λ (w : List ℕ). IsEscaped w other) p.1 q.1))
IsField-same written text other (h, inr p) (g, inr q) = p.0 ∙ sym q.0

-- a text is no longer than its field
pub length-field : (written text : List ℕ) → IsField written text → length text ≤ length written
length-field written text (h, inl p) = length-escaped written text p.1
length-field written text (h, inr p) = omega (arith, ap length p.0)
