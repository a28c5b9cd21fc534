-- A line spells one entry at most, and none where it has a fault; it has one fault at most.
use Rattle.std.proofs.Common.{◌≡◌, ℕ, zero, suc, ◌<◌, ◌≤◌, List, ◌∷◌, ◌++◌, length, refl, sym, ap, ◌∙◌, subst, append_assoc, arith, inl, inr, codes, Result, Ok, Err, IfOk, IfErr}
use Rattle.std.proofs.lemmas.Bool.{cases_lt}
use Rattle.hex.specs.Hex.{encode_lower}
use Rattle.kl_entry.specs.declared.fault.LineFault.{LineFault}
use Rattle.kl_entry.specs.declared.fault.LineFault.TheVariants.{TooLong, Pcr, HashText, Template, Digest, Path}
use Rattle.kl_entry.specs.Entries.{EntryFields}
use Rattle.kl_base.specs.Bytes.{IsBytes}
use Rattle.kl_base.specs.Digits.{is_lower_digit}
use Rattle.kl_entry.specs.Lines.{is_name_byte, line_of, IsName, IsDigestText, IsPath, Spells, AfterPcr, AfterHash, AfterTemplate, AfterDigest, PassesTest, order, IsLineFault}
use Rattle.kl_entry.proofs.Hexadecimal.{hash_text, digest_text, same_bytes}
use Rattle.kl_entry.proofs.Parts.{cut_same}

-- ---- the parts of a line

-- a line with its parts one in the other
abbrev pub parts : List ℕ → List ℕ → List ℕ → List ℕ → List ℕ
parts hash name digest path = codes "10 " ++ (hash ++ 32 ∷ (codes "ima-ng " ++ (name ++ 58 ∷ (digest ++ 32 ∷ path))))

pub line_parts : (e : EntryFields) → line_of e ≡ parts (encode_lower e.hash) e.alg (encode_lower e.digest) e.path
unfolding line_of
line_parts e = simp append_assoc

-- what follows each part is one
pub pcr_same : (line a b : List ℕ) → AfterPcr line a → AfterPcr line b → a ≡ b
pcr_same line a b p q = let e : codes "10 " ++ a ≡ codes "10 " ++ b = sym p ∙ q in cc

pub hash_same : (line a b : List ℕ) → AfterHash line a → AfterHash line b → a ≡ b
hash_same line a b (s, hs, p) (t, ht, q) = (cut_same is_lower_digit s t a b 32 32 hs.digits ht.digits refl refl (pcr_same line (s ++ 32 ∷ a) (t ++ 32 ∷ b) p q)).2

pub template_same : (line a b : List ℕ) → AfterTemplate line a → AfterTemplate line b → a ≡ b
template_same line a b p q = let e : codes "ima-ng " ++ a ≡ codes "ima-ng " ++ b = hash_same line (codes "ima-ng " ++ a) (codes "ima-ng " ++ b) p q in cc

pub digest_same : (line a b : List ℕ) → AfterDigest line a → AfterDigest line b → a ≡ b
digest_same line a b (n, s, hn, hs, p) (m, t, hm, ht, q) =
    let behind = (cut_same is_name_byte n m (s ++ 32 ∷ a) (t ++ 32 ∷ b) 58 58 hn.bytes hm.bytes refl refl (template_same line (n ++ 58 ∷ (s ++ 32 ∷ a)) (m ++ 58 ∷ (t ++ 32 ∷ b)) p q)).2 in
    (cut_same is_lower_digit s t a b 32 32 hs.digits ht.digits refl refl behind).2

-- ---- an entry that is spelled passes each test

pub passes_all : (line : List ℕ) (e : EntryFields) → Spells line e → (f : LineFault) → PassesTest f line
passes_all line e (is, spelled) TooLong = omega (arith, ap length spelled, is.short)
passes_all line e (is, spelled) Pcr = (_, spelled ∙ line_parts e)
passes_all line e (is, spelled) HashText = (_, (encode_lower e.hash, hash_text e.hash is.hash is.hash_bytes, spelled ∙ line_parts e))
passes_all line e (is, spelled) Template = (_, (encode_lower e.hash, hash_text e.hash is.hash is.hash_bytes, spelled ∙ line_parts e))
passes_all line e (is, spelled) Digest = (e.path, (e.alg, encode_lower e.digest, is.alg, digest_text e.digest is.digest is.digest_bytes, (encode_lower e.hash, hash_text e.hash is.hash is.hash_bytes, spelled ∙ line_parts e)))
passes_all line e (is, spelled) Path = (e.path, (e.alg, encode_lower e.digest, is.alg, digest_text e.digest is.digest is.digest_bytes, (encode_lower e.hash, hash_text e.hash is.hash is.hash_bytes, spelled ∙ line_parts e)), is.path)

-- A line with a fault spells no entry.
pub fault_spells_none : (line : List ℕ) (f : LineFault) (e : EntryFields) → IsLineFault line f → Spells line e → ⊥
fault_spells_none line f e fault spelled = fault.fails (passes_all line e spelled f)

-- ---- one entry

same_fields : (a b : EntryFields) → a.hash ≡ b.hash → a.alg ≡ b.alg → a.digest ≡ b.digest → a.path ≡ b.path → a ≡ b
same_fields a b h l d p =
    ap (λ (x : List ℕ). record { hash = x; alg = a.alg; digest = a.digest; path = a.path }) h ∙ ap (λ (x : List ℕ). record { hash = b.hash; alg = x; digest = a.digest; path = a.path }) l
    ∙ ap (λ (x : List ℕ). record { hash = b.hash; alg = b.alg; digest = x; path = a.path }) d ∙ ap (λ (x : List ℕ). record { hash = b.hash; alg = b.alg; digest = b.digest; path = x }) p

-- Two entries that one line spells are equal.
pub one_entry : (line : List ℕ) (a b : EntryFields) → Spells line a → Spells line b → a ≡ b
one_entry line a b (ia, sa) (ib, sb) =
    let ha = hash_text a.hash ia.hash ia.hash_bytes in
    let hb = hash_text b.hash ib.hash ib.hash_bytes in
    let da = digest_text a.digest ia.digest ia.digest_bytes in
    let db = digest_text b.digest ib.digest ib.digest_bytes in
    let whole : parts (encode_lower a.hash) a.alg (encode_lower a.digest) a.path ≡ parts (encode_lower b.hash) b.alg (encode_lower b.digest) b.path = sym (line_parts a) ∙ sym sa ∙ sb ∙ line_parts b in
    let hash = cut_same is_lower_digit (encode_lower a.hash) (encode_lower b.hash) _ _ 32 32 ha.digits hb.digits refl refl (pcr_same line _ _ (sa ∙ line_parts a) (sb ∙ line_parts b)) in
    let after : a.alg ++ 58 ∷ (encode_lower a.digest ++ 32 ∷ a.path) ≡ b.alg ++ 58 ∷ (encode_lower b.digest ++ 32 ∷ b.path) = let e = hash.2 in cc in
    let alg = cut_same is_name_byte a.alg b.alg _ _ 58 58 ia.alg.bytes ib.alg.bytes refl refl after in
    let digest = cut_same is_lower_digit (encode_lower a.digest) (encode_lower b.digest) a.path b.path 32 32 da.digits db.digits refl refl alg.2 in
    same_fields a b (same_bytes a.hash b.hash ia.hash_bytes ib.hash_bytes hash.0) alg.0 (same_bytes a.digest b.digest ia.digest_bytes ib.digest_bytes digest.0) digest.2

-- ---- one fault

fault_at : ℕ → LineFault
fault_at zero = TooLong
fault_at (suc zero) = Pcr
fault_at (suc (suc zero)) = HashText
fault_at (suc (suc (suc zero))) = Template
fault_at (suc (suc (suc (suc zero)))) = Digest
fault_at _ = Path

fault_at-order : (f : LineFault) → fault_at (order f) ≡ f
unfolding fault_at
fault_at-order TooLong = refl
fault_at-order Pcr = refl
fault_at-order HashText = refl
fault_at-order Template = refl
fault_at-order Digest = refl
fault_at-order Path = refl

-- A line has one fault at most.
pub one_fault : (line : List ℕ) (f g : LineFault) → IsLineFault line f → IsLineFault line g → f ≡ g
one_fault line f g hf hg =
    elim (cases_lt (order f) (order g)) [
      | inl lt ↦ absurd (hf.fails (hg.earlier f lt))
      | inr le ↦ elim (cases_lt (order g) (order f)) [
        | inl lt ↦ absurd (hg.fails (hf.earlier g lt))
        | inr ge ↦ let e : order f ≡ order g = omega arith in sym (fault_at-order f) ∙ ap fault_at e ∙ fault_at-order g
      ]
    ]

-- ---- the faults, as a reader meets them

pub fault_template : (line rest : List ℕ) → length line ≤ 8192 → AfterHash line rest → ((after : List ℕ) → rest ≡ codes "ima-ng " ++ after → ⊥) → IsLineFault line Template
fault_template line rest short hash none = record { earlier = earlier; fails = λ (after, p). none after (hash_same line rest (codes "ima-ng " ++ after) hash p) }
  where
    earlier : (f : LineFault) → order f < 3 → PassesTest f line
    earlier TooLong lt = short
    earlier Pcr lt = (_, hash.2)
    earlier HashText lt = (rest, hash)
    earlier Template lt = absurd (omega arith)
    earlier Digest lt = absurd (omega arith)
    earlier Path lt = absurd (omega arith)

pub fault_digest : (line rest : List ℕ) → length line ≤ 8192 → AfterTemplate line rest → ((name digits after : List ℕ) → IsName name → IsDigestText digits → rest ≡ name ++ 58 ∷ (digits ++ 32 ∷ after) → ⊥) → IsLineFault line Digest
fault_digest line rest short template none = record { earlier = earlier; fails = λ (after, (name, digits, is_name, is_digits, p)). none name digits after is_name is_digits (template_same line rest (name ++ 58 ∷ (digits ++ 32 ∷ after)) template p) }
  where
    earlier : (f : LineFault) → order f < 4 → PassesTest f line
    earlier TooLong lt = short
    earlier Pcr lt = (_, template.2)
    earlier HashText lt = (_, template)
    earlier Template lt = (rest, template)
    earlier Digest lt = absurd (omega arith)
    earlier Path lt = absurd (omega arith)

pub fault_path : (line rest : List ℕ) → length line ≤ 8192 → AfterDigest line rest → ¬ (IsPath rest) → IsLineFault line Path
fault_path line rest short digest none = record { earlier = earlier; fails = λ (after, p, is). none (subst IsPath (sym (digest_same line rest after digest p)) is) }
  where
    earlier : (f : LineFault) → order f < 5 → PassesTest f line
    earlier TooLong lt = short
    earlier Pcr lt = (_, digest.4.2)
    earlier HashText lt = (_, digest.4)
    earlier Template lt = (_, digest.4)
    earlier Digest lt = (rest, digest)
    earlier Path lt = absurd (omega arith)

-- ---- how a reader goes on

pub after_hash : (line behind hash rest : List ℕ) → AfterPcr line behind → behind ≡ encode_lower hash ++ 32 ∷ rest → length hash ≡ 20 → IsBytes hash → AfterHash line rest
after_hash line behind hash rest pcr is len bytes = (encode_lower hash, hash_text hash len bytes, pcr ∙ ap (λ (t : List ℕ). codes "10 " ++ t) is)

pub after_template : (line behind rest : List ℕ) → AfterHash line behind → behind ≡ codes "ima-ng " ++ rest → AfterTemplate line rest
after_template line behind rest hash is = subst (λ (t : List ℕ). AfterHash line t) is hash

pub after_digest : (line behind name digest path : List ℕ) → AfterTemplate line behind → behind ≡ name ++ 58 ∷ (encode_lower digest ++ 32 ∷ path) → IsName name → length digest ≤ 64 → IsBytes digest → AfterDigest line path
after_digest line behind name digest path template is is_name len bytes = (name, encode_lower digest, is_name, digest_text digest len bytes, subst (λ (t : List ℕ). AfterTemplate line t) is template)

-- an entry of the parts that were read
pub made_of : (line : List ℕ) (e : EntryFields) (a b c : List ℕ) → length line ≤ 8192 → AfterPcr line a → a ≡ encode_lower e.hash ++ 32 ∷ b → b ≡ codes "ima-ng " ++ c → c ≡ e.alg ++ 58 ∷ (encode_lower e.digest ++ 32 ∷ e.path)
    → length e.hash ≡ 20 → IsBytes e.hash → IsName e.alg → length e.digest ≤ 64 → IsBytes e.digest → IsPath e.path → Spells line e
made_of line e a b c short pa pb pc pd len hash name digest digest_bytes path =
    let spelled : line ≡ line_of e =
    pa ∙ ap (λ (t : List ℕ). codes "10 " ++ t) pb ∙ ap (λ (t : List ℕ). codes "10 " ++ (encode_lower e.hash ++ 32 ∷ t)) pc
    ∙ ap (λ (t : List ℕ). codes "10 " ++ (encode_lower e.hash ++ 32 ∷ (codes "ima-ng " ++ t))) pd ∙ sym (line_parts e) in
    (record { hash = len; hash_bytes = hash; alg = name; digest = digest; digest_bytes = digest_bytes; path = path; short = omega (arith, ap length spelled, short) }, spelled)

-- ---- what a reader that answers an entry or the fault answers

pub only_entry : (line : List ℕ) (r : Result EntryFields LineFault) → IfOk r (λ e. Spells line e) → IfErr r (λ f. IsLineFault line f) → (e : EntryFields) → Spells line e → r ≡ Ok e
only_entry line (Ok x) found fault e spelled = ap Ok (one_entry line x e found spelled)
only_entry line (Err f) found fault e spelled = absurd (fault_spells_none line f e fault spelled)

pub only_fault : (line : List ℕ) (r : Result EntryFields LineFault) → IfOk r (λ e. Spells line e) → IfErr r (λ f. IsLineFault line f) → (f : LineFault) → IsLineFault line f → r ≡ Err f
only_fault line (Ok x) found fault f is = absurd (fault_spells_none line f x is found)
only_fault line (Err g) found fault f is = ap Err (one_fault line g f fault is)

-- ---- what a writer writes

pub line_pushed : (e : EntryFields) (r0 r1 r2 r3 r4 r5 r6 r7 hash alg digest path : List ℕ) → r0 ≡ codes "10 " → r1 ≡ r0 ++ hash → r2 ≡ r1 ++ codes " ima-ng " → r3 ≡ r2 ++ alg → r4 ≡ r3 ++ codes ":" → r5 ≡ r4 ++ digest → r6 ≡ r5 ++ codes " " → r7 ≡ r6 ++ path
    → hash ≡ encode_lower e.hash → alg ≡ e.alg → digest ≡ encode_lower e.digest → path ≡ e.path → r7 ≡ line_of e
unfolding line_of
line_pushed e r0 r1 r2 r3 r4 r5 r6 r7 hash alg digest path p0 p1 p2 p3 p4 p5 p6 p7 h a d p = rw (p7, p6, p5, p4, p3, p2, p1, p0, h, a, d, p) refl
