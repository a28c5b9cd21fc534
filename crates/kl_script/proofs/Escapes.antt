-- What is written spells one text, and how far a reader has come.
use Rattle.std.proofs.Common.{◌≡◌, ◌≢◌, inl, inr, ℕ, ◌<◌, ◌≤◌, List, [], ◌∷◌, ◌++◌, length, refl, sym, ap, subst, ◌∙◌, append_assoc, arith, length-append}
use Rattle.std.proofs.lemmas.List.{append-nil}
use Rattle.kl_script.specs.Words.{HasNo, StandsFor, SpellsByte, IsEscaped}
use Rattle.kl_script.proofs.Splitting.{heads, tails, HasNo-head, HasNo-tail}

-- no byte is a backslash
abbrev pub IsPlain : List ℕ → Type 0
IsPlain bytes = HasNo 92 bytes

StandsFor-same : (letter byte other : ℕ) → StandsFor letter byte → StandsFor letter other → byte ≡ other
StandsFor-same letter byte other (inl a) (inl b) = a.1 ∙ sym b.1
StandsFor-same letter byte other (inl a) (inr (inl b)) = absurd (omega (arith, a.0, b.0))
StandsFor-same letter byte other (inl a) (inr (inr b)) = absurd (omega (arith, a.0, b.0))
StandsFor-same letter byte other (inr (inl a)) (inl b) = absurd (omega (arith, a.0, b.0))
StandsFor-same letter byte other (inr (inl a)) (inr (inl b)) = a.1 ∙ sym b.1
StandsFor-same letter byte other (inr (inl a)) (inr (inr b)) = absurd (omega (arith, a.0, b.0))
StandsFor-same letter byte other (inr (inr a)) (inl b) = absurd (omega (arith, a.0, b.0))
StandsFor-same letter byte other (inr (inr a)) (inr (inl b)) = absurd (omega (arith, a.0, b.0))
StandsFor-same letter byte other (inr (inr a)) (inr (inr b)) = a.1 ∙ sym b.1

pub StandsFor-ascii : (letter byte : ℕ) → StandsFor letter byte → byte < 128
StandsFor-ascii letter byte (inl a) = omega (arith, a.1)
StandsFor-ascii letter byte (inr (inl a)) = omega (arith, a.1)
StandsFor-ascii letter byte (inr (inr a)) = omega (arith, a.1)

-- ---- the first byte that is spelled

plain_first : (x : ℕ) (xs text : List ℕ) → x ≢ 92 → IsEscaped (x ∷ xs) text → (behind : List ℕ) × (text ≡ x ∷ behind) × IsEscaped xs behind
plain_first x xs [] ne e = absurd cc
plain_first x xs (byte ∷ text) ne (spelling, rest, e, inl p, h) =
    let whole : x ∷ xs ≡ byte ∷ rest = e ∙ ap (λ (s : List ℕ). s ++ rest) p.1 in
    (text, ap (λ (b : ℕ). b ∷ text) (sym (heads whole)), subst (λ (r : List ℕ). IsEscaped r text) (sym (tails whole)) h)
plain_first x xs (byte ∷ text) ne (spelling, rest, e, inr p, h) =
    let whole : x ∷ xs ≡ 92 ∷ p.0 ∷ rest = e ∙ ap (λ (s : List ℕ). s ++ rest) p.2 in
    absurd (ne (heads whole))

-- what stands behind a backslash
pub record IsEscape (xs text : List ℕ) : Type 0 where
  pub letter : ℕ
  pub byte : ℕ
  pub rest : List ℕ
  pub behind : List ℕ
  pub reads : xs ≡ letter ∷ rest
  pub stands : StandsFor letter byte
  pub begins : text ≡ byte ∷ behind
  pub goes_on : IsEscaped rest behind

escape_first : (xs text : List ℕ) → IsEscaped (92 ∷ xs) text → IsEscape xs text
escape_first xs [] e = absurd cc
escape_first xs (byte ∷ text) (spelling, rest, e, inl p, h) =
    let whole : 92 ∷ xs ≡ byte ∷ rest = e ∙ ap (λ (s : List ℕ). s ++ rest) p.1 in
    absurd (p.0 (sym (heads whole)))
escape_first xs (byte ∷ text) (spelling, rest, e, inr p, h) =
    let whole : 92 ∷ xs ≡ 92 ∷ p.0 ∷ rest = e ∙ ap (λ (s : List ℕ). s ++ rest) p.2 in
    record { letter = p.0; byte = byte; rest = rest; behind = text; reads = tails whole; stands = p.1; begins = refl; goes_on = h }

-- nothing spells the empty text alone
pub nothing_written : (text : List ℕ) → IsEscaped [] text → text ≡ []
nothing_written [] e = refl
nothing_written (byte ∷ text) (spelling, rest, e, inl p, h) =
    let whole : [] ≡ byte ∷ rest = e ∙ ap (λ (s : List ℕ). s ++ rest) p.1 in absurd cc
nothing_written (byte ∷ text) (spelling, rest, e, inr p, h) =
    let whole : [] ≡ 92 ∷ p.0 ∷ rest = e ∙ ap (λ (s : List ℕ). s ++ rest) p.2 in absurd cc

-- what spells a byte is not empty
spelling_len : (spelling : List ℕ) (byte : ℕ) → SpellsByte spelling byte → 1 ≤ length spelling
spelling_len spelling byte (inl p) = omega (arith, ap length p.1)
spelling_len spelling byte (inr p) = omega (arith, ap length p.2)

-- a text is no longer than what spells it
pub length-escaped : (written text : List ℕ) → IsEscaped written text → length text ≤ length written
length-escaped written [] e = omega arith
length-escaped written (byte ∷ text) (spelling, rest, e, s, h) =
    omega (arith, ap length e, length-append spelling rest, spelling_len spelling byte s, length-escaped rest text h)

-- ---- a stretch without a backslash

plain_on : (stretch rest text : List ℕ) → IsPlain stretch → IsEscaped rest text → IsEscaped (stretch ++ rest) (stretch ++ text)
plain_on [] rest text p h = h
plain_on (x ∷ xs) rest text p h = (x ∷ [], xs ++ rest, refl, inl (HasNo-head 92 x xs p, refl), plain_on xs rest text (HasNo-tail 92 x xs p) h)

plain_back : (stretch rest whole : List ℕ) → IsPlain stretch → IsEscaped (stretch ++ rest) whole → (text : List ℕ) × (whole ≡ stretch ++ text) × IsEscaped rest text
plain_back [] rest whole p h = (whole, refl, h)
plain_back (x ∷ xs) rest whole p h =
    let first = plain_first x (xs ++ rest) whole (HasNo-head 92 x xs p) h in
    let more = plain_back xs rest first.0 (HasNo-tail 92 x xs p) first.2 in
    (more.0, first.1 ∙ ap (λ (t : List ℕ). x ∷ t) more.1, more.2)

-- ---- a text is spelled by what is written, once what is left spells the rest of it

pub record ReadsOn (written rest done : List ℕ) : Type 0 where
  pub on : (text : List ℕ) → IsEscaped rest text → IsEscaped written (done ++ text)
  pub back : (whole : List ℕ) → IsEscaped written whole → (text : List ℕ) × (whole ≡ done ++ text) × IsEscaped rest text

pub ReadsOn-stretch : (written rest done stretch behind : List ℕ) → ReadsOn written rest done → rest ≡ stretch ++ behind → IsPlain stretch → ReadsOn written behind (done ++ stretch)
ReadsOn-stretch written rest done stretch behind r e p = record {
  on = λ text h.
      subst (λ (t : List ℕ). IsEscaped written t) (sym (append_assoc done stretch text))
      (r.on (stretch ++ text) (subst (λ (s : List ℕ). IsEscaped s (stretch ++ text)) (sym e) (plain_on stretch behind text p h)));
  back = λ whole h.
      let before = r.back whole h in
      let after = plain_back stretch behind before.0 p (subst (λ (s : List ℕ). IsEscaped s before.0) e before.2) in
      (after.0, before.1 ∙ ap (λ (t : List ℕ). done ++ t) after.1 ∙ sym (append_assoc done stretch after.0), after.2);
}

pub ReadsOn-escape : (written done : List ℕ) (letter byte : ℕ) (behind : List ℕ) → ReadsOn written (92 ∷ letter ∷ behind) done → StandsFor letter byte → ReadsOn written behind (done ++ byte ∷ [])
ReadsOn-escape written done letter byte behind r s = record {
  on = λ text h.
      subst (λ (t : List ℕ). IsEscaped written t) (sym (append_assoc done (byte ∷ []) text))
      (r.on (byte ∷ text) (92 ∷ letter ∷ [], behind, refl, inr (letter, s, refl), h));
  back = λ whole h.
      let before = r.back whole h in
      let x = escape_first (letter ∷ behind) before.0 before.2 in
      let same_letter : letter ≡ x.letter = heads x.reads in
      let same_byte : x.byte ≡ byte = StandsFor-same letter x.byte byte (subst (λ (l : ℕ). StandsFor l x.byte) (sym same_letter) x.stands) s in
      let begins : before.0 ≡ byte ∷ x.behind = x.begins ∙ ap (λ (b : ℕ). b ∷ x.behind) same_byte in
      (x.behind, before.1 ∙ ap (λ (t : List ℕ). done ++ t) begins ∙ sym (append_assoc done (byte ∷ []) x.behind), subst (λ (t : List ℕ). IsEscaped t x.behind) (sym (tails x.reads)) x.goes_on);
}

pub ReadsOn-end : (written rest done : List ℕ) → ReadsOn written rest done → IsPlain rest → IsEscaped written (done ++ rest)
ReadsOn-end written rest done r p =
    let spelled : IsEscaped rest rest = subst (λ (t : List ℕ). IsEscaped t t) (append-nil rest) (plain_on rest [] [] p refl) in
    r.on rest spelled

pub ReadsOn-stuck : (written behind done whole : List ℕ) → ReadsOn written (92 ∷ behind) done → ((letter byte : ℕ) (rest : List ℕ) → behind ≡ letter ∷ rest → ¬ (StandsFor letter byte)) → IsEscaped written whole → ⊥
ReadsOn-stuck written behind done whole r none h =
    let before = r.back whole h in
    let x = escape_first behind before.0 before.2 in
    none x.letter x.byte x.rest x.reads x.stands

-- ---- what is written spells one text

pub IsEscaped-same : (written text other : List ℕ) → IsEscaped written text → IsEscaped written other → text ≡ other
IsEscaped-same written [] other e h = sym (nothing_written other (subst (λ (w : List ℕ). IsEscaped w other) e h))
IsEscaped-same written (byte ∷ text) other (spelling, rest, e, inl p, h) g =
    let whole : written ≡ byte ∷ rest = e ∙ ap (λ (s : List ℕ). s ++ rest) p.1 in
    let first = plain_first byte rest other p.0 (subst (λ (w : List ℕ). IsEscaped w other) whole g) in
    ap (λ (t : List ℕ). byte ∷ t) (IsEscaped-same rest text first.0 h first.2) ∙ sym first.1
IsEscaped-same written (byte ∷ text) other (spelling, rest, e, inr p, h) g =
    let whole : written ≡ 92 ∷ p.0 ∷ rest = e ∙ ap (λ (s : List ℕ). s ++ rest) p.2 in
    let x = escape_first (p.0 ∷ rest) other (subst (λ (w : List ℕ). IsEscaped w other) whole g) in
    let same_letter : p.0 ≡ x.letter = heads x.reads in
    let same_byte : byte ≡ x.byte = StandsFor-same p.0 byte x.byte p.1 (subst (λ (l : ℕ). StandsFor l x.byte) (sym same_letter) x.stands) in
    let goes_on : IsEscaped rest x.behind = subst (λ (t : List ℕ). IsEscaped t x.behind) (sym (tails x.reads)) x.goes_on in
    ap (λ (b : ℕ). b ∷ text) same_byte ∙ ap (λ (t : List ℕ). x.byte ∷ t) (IsEscaped-same rest text x.behind h goes_on) ∙ sym x.begins

-- no letter that stands for a byte is in front
pub no_letter : (text : List ℕ) → ((rest : List ℕ) → text ≢ 115 ∷ rest) → ((rest : List ℕ) → text ≢ 110 ∷ rest) → ((rest : List ℕ) → text ≢ 92 ∷ rest)
    → (letter byte : ℕ) (behind : List ℕ) → text ≡ letter ∷ behind → ¬ (StandsFor letter byte)
no_letter text s n b letter byte behind e (inl p) = s behind (e ∙ ap (λ (l : ℕ). l ∷ behind) p.0)
no_letter text s n b letter byte behind e (inr (inl p)) = n behind (e ∙ ap (λ (l : ℕ). l ∷ behind) p.0)
no_letter text s n b letter byte behind e (inr (inr p)) = b behind (e ∙ ap (λ (l : ℕ). l ∷ behind) p.0)

no_zero : (letter byte : ℕ) → 48 ≡ letter → ¬ (StandsFor letter byte)
no_zero letter byte e (inl p) = omega (arith, e, p.0)
no_zero letter byte e (inr (inl p)) = omega (arith, e, p.0)
no_zero letter byte e (inr (inr p)) = omega (arith, e, p.0)

-- `\0` is no escape
pub zero_is_no_escape : (text : List ℕ) → ¬ (IsEscaped (92 ∷ 48 ∷ []) text)
zero_is_no_escape text h =
    let x = escape_first (48 ∷ []) text h in
    no_zero x.letter x.byte (heads x.reads) x.stands
