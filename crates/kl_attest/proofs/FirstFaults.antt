-- All of the bytes: a quote is read exactly where they spell it, and else the fault is that of the first field that misfits.
use Rattle.std.proofs.Common.{◌≡◌, ℕ, ◌+◌, cond, eqb, List, [], ◌++◌, length, Result, Ok, Err, refl, sym, ap, subst, ◌∙◌, arith, inl, inr}
use Rattle.std.specs.Prelude.{IfOk, IfErr, IsOkAnd}
use Rattle.std.proofs.lemmas.Bool.{cases_eq, eq-eqb, ne_eqb}
use Rattle.std.proofs.lemmas.List.{append-nil, nil_from_length}
use Rattle.kl_base.specs.Bytes.{IsBytes}
use Rattle.kl_attest.specs.declared.fault.AttestFault.{AttestFault}
use Rattle.kl_attest.specs.declared.fault.AttestFault.TheVariants.{Tail}
use Rattle.kl_attest.specs.declared.attest.Attest.{Attest}
use Rattle.kl_attest.specs.Grammar.{Quoted, joined, fields_of, text_of, Spells}
use Rattle.kl_attest.specs.FirstFault.{Misfits, HasMisfit, HasTail, IsFirstFault}
use Rattle.kl_attest.specs.Inner.Reading.{◌>>=◌, Gives, Place, start, quoted_at, all_of}
use Rattle.kl_attest.specs.Views.{view}
use Rattle.kl_attest.proofs.Readers.{bind_ok, bind_err, ok_is}
use Rattle.kl_attest.proofs.Quotes.{quoted_reads}

abbrev Whole : Type 0
Whole = Result Quoted AttestFault

abbrev failed : AttestFault → Whole
failed f = Err f

-- what is answered behind a quote
abbrev ended : Quoted × Place → Whole
ended x = cond (eqb (length x.1.rest) 0) (Ok x.0) (Err (Tail x.1.at))

ended_whole : (x : Quoted × Place) → length x.1.rest ≡ 0 → ended x ≡ Ok x.0
ended_whole x none = rw (eq-eqb (length x.1.rest) 0 none) refl

ended_tail : (x : Quoted × Place) → ¬ (length x.1.rest ≡ 0) → ended x ≡ Err (Tail x.1.at)
ended_tail x some = rw (ne_eqb (length x.1.rest) 0 some) refl

-- a place that is counted from the beginning
from_start : (n : ℕ) → 0 + n ≡ n
from_start n = omega arith

-- ---- A quote is read exactly where the bytes spell it.

all_of-Spells : (bytes : List ℕ) (q : Quoted) → Spells bytes q → all_of bytes ≡ Ok q
unfolding all_of text_of
all_of-Spells bytes q spells =
    let g = quoted_reads.again q [] (start bytes) spells.fits (spells.text ∙ sym (append-nil (joined (fields_of q)))) in
    ap (λ (r : Result (Quoted × Place) AttestFault). r >>= ended) g.is ∙ ended_whole (q, g.to) (ap length g.left)

Spells-all_of : (bytes : List ℕ) (q : Quoted) → IsBytes bytes → all_of bytes ≡ Ok q → Spells bytes q
unfolding all_of text_of
Spells-all_of bytes q fits e =
    let a = bind_ok (quoted_at (start bytes)) ended q e in
    let t = quoted_reads.takes (start bytes) a.0 fits a.1 in
    elim (cases_eq (length a.0.1.rest) 0) [
      | inl none ↦
          let same : a.0.0 ≡ q = ok_is a.0.0 q (sym (ended_whole a.0 none) ∙ a.2) in
          let text : bytes ≡ joined (fields_of a.0.0) = t.0.parts ∙ ap (λ (r : List ℕ). joined (fields_of a.0.0) ++ r) (nil_from_length a.0.1.rest none) ∙ append-nil (joined (fields_of a.0.0)) in
          subst (λ (v : Quoted). Spells bytes v) same (record { fits = t.1; text = text })
      | inr some ↦ absurd (let bad = sym (ended_tail a.0 some) ∙ a.2 in cc)
    ]

-- ---- What else is answered is the first fault, which is one.

IsFirstFault-all_of : (bytes : List ℕ) (f : AttestFault) → IsBytes bytes → all_of bytes ≡ Err f → IsFirstFault bytes f
unfolding all_of text_of
IsFirstFault-all_of bytes f fits e =
    elim (bind_err (quoted_at (start bytes)) ended f e) [
      | inl first ↦
          let b = quoted_reads.fault (start bytes) f fits first in
          let misfit = subst (λ (k : ℕ). Misfits b.field k b.rest f) (from_start (length (joined b.before))) b.misfit in
          inl (record { quoted = b.value; fits = b.fits; before = b.before; field = b.field; after = b.after; fields = b.is; rest = b.rest; bytes_are = b.parts; misfit = misfit })
      | inr (x, read, err) ↦
          let t = quoted_reads.takes (start bytes) x fits read in
          elim (cases_eq (length x.1.rest) 0) [
            | inl none ↦ absurd (let bad = sym (ended_whole x none) ∙ err in cc)
            | inr some ↦
                let tail : f ≡ Tail x.1.at = let both = sym (ended_tail x some) ∙ err in cc in
                inr (record { quoted = x.0; fits = t.1; rest = x.1.rest; bytes_are = t.0.parts; some = omega (arith, some); fault_is = tail ∙ ap Tail (t.0.at ∙ from_start (length (joined (fields_of x.0)))) })
          ]
    ]

all_of-HasMisfit : (bytes : List ℕ) (f : AttestFault) → IsBytes bytes → HasMisfit bytes f → all_of bytes ≡ Err f
unfolding all_of
all_of-HasMisfit bytes f fits m =
    let misfit = subst (λ (k : ℕ). Misfits m.field k m.rest f) (sym (from_start (length (joined m.before)))) m.misfit in
    let err = quoted_reads.cut (start bytes) f fits (record { value = m.quoted; fits = m.fits; before = m.before; field = m.field; after = m.after; is = m.fields; rest = m.rest; parts = m.bytes_are; misfit = misfit }) in
    ap (λ (r : Result (Quoted × Place) AttestFault). r >>= ended) err

all_of-HasTail : (bytes : List ℕ) (f : AttestFault) → HasTail bytes f → all_of bytes ≡ Err f
unfolding all_of text_of
all_of-HasTail bytes f t =
    let g = quoted_reads.again t.quoted t.rest (start bytes) t.fits t.bytes_are in
    let some : ¬ (length g.to.rest ≡ 0) = λ none. omega (arith, none, ap length g.left, t.some) in
    let at : g.to.at ≡ length (joined (fields_of t.quoted)) = g.at ∙ from_start (length (joined (fields_of t.quoted))) in
    ap (λ (r : Result (Quoted × Place) AttestFault). r >>= ended) g.is ∙ ended_tail (t.quoted, g.to) some ∙ ap failed (ap Tail at ∙ sym t.fault_is)

all_of-IsFirstFault : (bytes : List ℕ) (f : AttestFault) → IsBytes bytes → IsFirstFault bytes f → all_of bytes ≡ Err f
all_of-IsFirstFault bytes f fits (inl m) = all_of-HasMisfit bytes f fits m
all_of-IsFirstFault bytes f fits (inr t) = all_of-HasTail bytes f t

-- ---- Bytes spell one quote or have one fault, and not both.

pub spells-unique : (bytes : List ℕ) (q r : Quoted) → Spells bytes q → Spells bytes r → q ≡ r
spells-unique bytes q r first second = ok_is q r (sym (all_of-Spells bytes q first) ∙ all_of-Spells bytes r second)

pub first_fault-unique : (bytes : List ℕ) (f g : AttestFault) → IsBytes bytes → IsFirstFault bytes f → IsFirstFault bytes g → f ≡ g
first_fault-unique bytes f g fits first second =
    let same : failed f ≡ failed g = sym (all_of-IsFirstFault bytes f fits first) ∙ all_of-IsFirstFault bytes g fits second in
    cc

pub first_fault-unspelled : (bytes : List ℕ) (f : AttestFault) (q : Quoted) → IsBytes bytes → IsFirstFault bytes f → ¬ (Spells bytes q)
first_fault-unspelled bytes f q fits first spells =
    let both : failed f ≡ Ok q = sym (all_of-IsFirstFault bytes f fits first) ∙ all_of-Spells bytes q spells in
    cc

-- ---- The reader's clauses

pub is_found : (bytes : List ℕ) (r : Result Attest AttestFault) → IsBytes bytes → Gives view r (all_of bytes) → IfOk r (λ a. Spells bytes (view a))
is_found bytes (Ok a) fits given = Spells-all_of bytes (view a) fits given
is_found bytes (Err e) fits given = tt

pub is_only : (bytes : List ℕ) (r : Result Attest AttestFault) (q : Quoted) → Gives view r (all_of bytes) → Spells bytes q → IsOkAnd r (λ a. view a ≡ q)
is_only bytes (Ok a) q given spells = ok_is (view a) q (sym given ∙ all_of-Spells bytes q spells)
is_only bytes (Err e) q given spells =
    let both : failed e ≡ Ok q = sym given ∙ all_of-Spells bytes q spells in
    absurd cc

pub is_fault : (bytes : List ℕ) (r : Result Attest AttestFault) → IsBytes bytes → Gives view r (all_of bytes) → IfErr r (IsFirstFault bytes)
is_fault bytes (Ok a) fits given = tt
is_fault bytes (Err e) fits given = IsFirstFault-all_of bytes e fits given

pub is_alone : (bytes : List ℕ) (r : Result Attest AttestFault) (f : AttestFault) → IsBytes bytes → Gives view r (all_of bytes) → IsFirstFault bytes f → r ≡ Err f
is_alone bytes (Ok a) f fits given first =
    let both : failed f ≡ Ok (view a) = sym (all_of-IsFirstFault bytes f fits first) ∙ given in
    absurd cc
is_alone bytes (Err e) f fits given first =
    let both : failed e ≡ failed f = sym given ∙ all_of-IsFirstFault bytes f fits first in
    let same : e ≡ f = cc in
    ap (λ (d : AttestFault). let x : Result Attest AttestFault = Err d in x) same
