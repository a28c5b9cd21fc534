-- What excludes each rule on the quote, and which rule is the first that applies.
use Rattle.std.proofs.Common.{◌≡◌, ◌≢◌, ℕ, ◌*◌, Bool, true, false, List, length, count_ones, not, Option, Some, Ok, Err, refl, sym, ◌∙◌, subst, inl, inr}
use Rattle.std.proofs.lemmas.Bool.{true≢false, false≢true, not-true, not-false}
use Rattle.std.specs.Str.{bytes_eq}
use Rattle.std.proofs.lemmas.Slice.Eq.{bytes_eq-Decides}
use Rattle.sha2.specs.Sha256.{sha256}
use Rattle.kl_bank.specs.declared.bank.Bank.{Bank as PcrBank}
use Rattle.kl_bank.specs.Banks.{alg_of, name_of, size_of}
use Rattle.kl_attest.specs.Grammar.{Quoted, Selection, Spells}
use Rattle.kl_attest.proofs.FirstFaults.{spells-unique, first_fault-unspelled}
use Rattle.kl_attest.specs.Pcrs.{OneSet}
use Rattle.kl_pcr.specs.Values.{value_at, binding_of}
use Rattle.kl_quote.specs.declared.evidence.Evidence.{Evidence}
use Rattle.kl_quote.specs.QuoteText.{IsQuoteText, IsFormFault}
use Rattle.kl_quote.proofs.Splitting.{quote_unique, quote_faultless}
use Rattle.kl_states.specs.declared.verdict.InvalidCause.{InvalidCause}
use Rattle.kl_states.specs.declared.verdict.InvalidCause.TheVariants.{Form, Signature, Selection as OtherSelection, PcrLength, PcrDigest, Binding}
use Rattle.kl_keys.specs.Relations.{Relations, Answers}
use Rattle.kl_keys.specs.Told.{KeysTold}
use Rattle.kl_appraise.specs.Asking.{Asked}
use Rattle.kl_appraise.specs.Evidence.{Check, Attests, HasValues}
use Rattle.kl_appraise.specs.QuoteRules.{ByForm, ByBank, ByAttest, BySignature, ByNonce, BySelection, ByPcrLength, ByPcrDigest, ByBinding, SignedRules, UnreadRules, QuoteRules, MeetsRules, IsSoundQuote, IsUnasked, IsAnswered, ◌otherwise◌}
use Rattle.kl_appraise.specs.Inner.Checked.{IsReadable}

-- ---- A quote text holds one attestation and one list of values.

pub attests_unique : (quote : List ℕ) (t u : Quoted) → Attests quote t → Attests quote u → t ≡ u
attests_unique quote t u (a, s, v, q, spells) (b, s2, v2, p, also) =
    let same : a ≡ b = (quote_unique quote a s v b s2 v2 q p).0 in
    spells-unique b t u (subst (λ (x : List ℕ). Spells x t) same spells) also

pub values_unique : (quote v w : List ℕ) → HasValues quote v → HasValues quote w → v ≡ w
values_unique quote v w (a, s, q) (b, t, p) = (quote_unique quote a s v b t w q p).2

-- a selection of one algorithm and one mask
pub set_is : (ss : List Selection) (alg mask a m : ℕ) → OneSet ss alg mask → alg ≡ a → mask ≡ m → OneSet ss a m
set_is ss alg mask a m set e f =
    subst (λ (x : ℕ). OneSet ss x m) e (subst (λ (y : ℕ). OneSet ss alg y) f set)

-- ---- What `!=` says of two lists of bytes

pub same_bytes : (xs ys : List ℕ) (ne : Bool) → ne ≡ not (bytes_eq xs ys) → ne ≡ false → xs ≡ ys
same_bytes xs ys ne is no_other = (bytes_eq-Decides xs ys).0 (not-false _ (sym is ∙ no_other))

pub other_bytes : (xs ys : List ℕ) (ne : Bool) → ne ≡ not (bytes_eq xs ys) → ne ≡ true → xs ≢ ys
other_bytes xs ys ne is other = λ e. true≢false (sym ((bytes_eq-Decides xs ys).1 e) ∙ not-true _ (sym is ∙ other))

-- ---- What excludes each rule

pub not_form : (k : Check) (a s v : List ℕ) → IsQuoteText k.evidence.quote a s v → (why : InvalidCause) → ¬ (ByForm k why)
not_form k a s v q why (part, fault, _) = quote_faultless k.evidence.quote a s v part q fault

pub not_bank : (k : Check) → k.evidence.bank ≡ name_of k.bank → (why : InvalidCause) → ¬ (ByBank k why)
not_bank k e why (other, _) = other e

pub not_attest : (k : Check) (t : Quoted) → Attests k.evidence.quote t → (why : InvalidCause) → ¬ (ByAttest k why)
not_attest k t (a, s, v, q, spells) why (b, s2, v2, f, p, fault, _) =
    let same : a ≡ b = (quote_unique k.evidence.quote a s v b s2 v2 q p).0 in
    first_fault-unspelled b f t p.attest_bytes fault (subst (λ (x : List ℕ). Spells x t) same spells)

pub not_signature : (k : Check) → k.signed ≡ true → (why : InvalidCause) → ¬ (BySignature k why)
not_signature k signed why (unsigned, _) = false≢true (sym unsigned ∙ signed)

pub not_nonce : (k : Check) (t : Quoted) → Attests k.evidence.quote t → t.extra ≡ k.nonce → (why : InvalidCause) → ¬ (ByNonce k why)
not_nonce k t a e why (u, b, other, _) =
    other (subst (λ (x : Quoted). x.extra ≡ k.nonce) (attests_unique k.evidence.quote t u a b) e)

pub not_selection : (k : Check) (t : Quoted) → Attests k.evidence.quote t → OneSet t.selections (alg_of k.bank) k.mask → (why : InvalidCause) → ¬ (BySelection k why)
not_selection k t a set why (u, b, other, _) =
    other (subst (λ (x : Quoted). OneSet x.selections (alg_of k.bank) k.mask) (attests_unique k.evidence.quote t u a b) set)

pub not_length : (k : Check) (v : List ℕ) → HasValues k.evidence.quote v → length v ≡ size_of k.bank * count_ones k.mask → (why : InvalidCause) → ¬ (ByPcrLength k why)
not_length k v h e why (w, i, other, _) =
    other (subst (λ (x : List ℕ). length x ≡ size_of k.bank * count_ones k.mask) (values_unique k.evidence.quote v w h i) e)

pub not_digest : (k : Check) (t : Quoted) (v : List ℕ) → Attests k.evidence.quote t → HasValues k.evidence.quote v → t.pcr_digest ≡ sha256 v → (why : InvalidCause) → ¬ (ByPcrDigest k why)
not_digest k t v a h e why (u, w, b, i, other, _) =
    let here : u.pcr_digest ≡ sha256 v = subst (λ (x : Quoted). x.pcr_digest ≡ sha256 v) (attests_unique k.evidence.quote t u a b) e in
    other (subst (λ (x : List ℕ). u.pcr_digest ≡ sha256 x) (values_unique k.evidence.quote v w h i) here)

pub not_binding : (k : Check) (v : List ℕ) → HasValues k.evidence.quote v → value_at k.bank k.mask v 16 ≡ binding_of k.bank k.evidence.public → (why : InvalidCause) → ¬ (ByBinding k why)
not_binding k v h e why (w, i, other, _) =
    other (subst (λ (x : List ℕ). value_at k.bank k.mask x 16 ≡ binding_of k.bank k.evidence.public) (values_unique k.evidence.quote v w h i) e)

-- ---- Which of rules 5 to 9 is the first, where the tests before it are met

pub by_selection : (k : Check) (t : Quoted) → Attests k.evidence.quote t → t.extra ≡ k.nonce → ¬ (OneSet t.selections (alg_of k.bank) k.mask) → SignedRules k OtherSelection
by_selection k t a nonce other = inr (not_nonce k t a nonce, inl (t, a, other, refl))

pub by_length : (k : Check) (t : Quoted) (v : List ℕ) → Attests k.evidence.quote t → HasValues k.evidence.quote v → t.extra ≡ k.nonce → OneSet t.selections (alg_of k.bank) k.mask
    → length v ≢ size_of k.bank * count_ones k.mask → SignedRules k PcrLength
by_length k t v a h nonce set other = inr (not_nonce k t a nonce, inr (not_selection k t a set, inl (v, h, other, refl)))

pub by_digest : (k : Check) (t : Quoted) (v : List ℕ) → Attests k.evidence.quote t → HasValues k.evidence.quote v → t.extra ≡ k.nonce → OneSet t.selections (alg_of k.bank) k.mask
    → length v ≡ size_of k.bank * count_ones k.mask → t.pcr_digest ≢ sha256 v → SignedRules k PcrDigest
by_digest k t v a h nonce set sized other =
    inr (not_nonce k t a nonce, inr (not_selection k t a set, inr (not_length k v h sized, inl (t, v, a, h, other, refl))))

pub by_binding : (k : Check) (t : Quoted) (v : List ℕ) → Attests k.evidence.quote t → HasValues k.evidence.quote v → t.extra ≡ k.nonce → OneSet t.selections (alg_of k.bank) k.mask
    → length v ≡ size_of k.bank * count_ones k.mask → t.pcr_digest ≡ sha256 v → value_at k.bank k.mask v 16 ≢ binding_of k.bank k.evidence.public → SignedRules k Binding
by_binding k t v a h nonce set sized digest other =
    inr (not_nonce k t a nonce, inr (not_selection k t a set, inr (not_length k v h sized, inr (not_digest k t v a h digest, (v, h, other, refl)))))

-- ---- What a quote that can be read shows

pub read_attests : (bank : PcrBank) (e : Evidence) (a s v : List ℕ) (t : Quoted) → IsReadable bank e a s v t → Attests e.quote t
read_attests bank e a s v t r = (a, s, v, r.text, r.spells)

-- ---- Which of rules 1 to 3 is the first

pub unread_form : (k : Check) (part : ℕ) → IsFormFault k.evidence.quote part → UnreadRules k (Form part)
unread_form k part fault = inl (part, fault, refl)

pub unread_later : (k : Check) (a s v : List ℕ) (why : InvalidCause) → IsQuoteText k.evidence.quote a s v → (ByBank k otherwise ByAttest k) why → UnreadRules k why
unread_later k a s v why q rule = inr (not_form k a s v q, rule)

-- ---- Which of all nine is

pub by_unread : (k : Check) (why : InvalidCause) → UnreadRules k why → QuoteRules k why
by_unread k why (inl x) = inl x
by_unread k why (inr (form, inl x)) = inr (form, inl x)
by_unread k why (inr (form, inr (bank, x))) = inr (form, inr (bank, inl x))

by_signing : (k : Check) (a s v : List ℕ) (t : Quoted) (why : InvalidCause) → IsReadable k.bank k.evidence a s v t → (BySignature k otherwise SignedRules k) why → QuoteRules k why
by_signing k a s v t why r rule =
    inr (not_form k a s v r.text, inr (not_bank k r.named, inr (not_attest k t (read_attests k.bank k.evidence a s v t r), rule)))

pub by_signature : (k : Check) (a s v : List ℕ) (t : Quoted) → IsReadable k.bank k.evidence a s v t → k.signed ≡ false → QuoteRules k Signature
by_signature k a s v t r unsigned = by_signing k a s v t Signature r (inl (unsigned, refl))

pub by_signed : (k : Check) (a s v : List ℕ) (t : Quoted) (why : InvalidCause) → IsReadable k.bank k.evidence a s v t → k.signed ≡ true → SignedRules k why → QuoteRules k why
by_signed k a s v t why r signed unmet = by_signing k a s v t why r (inr (not_signature k signed, unmet))

-- ---- No rule applies

not_signed_rules : (k : Check) (t : Quoted) (v : List ℕ) → MeetsRules k t v → (why : InvalidCause) → ¬ (SignedRules k why)
not_signed_rules k t v m why (inl x) = not_nonce k t m.attests m.nonce why x
not_signed_rules k t v m why (inr (_, inl x)) = not_selection k t m.attests m.selection why x
not_signed_rules k t v m why (inr (_, inr (_, inl x))) = not_length k v m.has_values m.sized why x
not_signed_rules k t v m why (inr (_, inr (_, inr (_, inl x)))) = not_digest k t v m.attests m.has_values m.digest why x
not_signed_rules k t v m why (inr (_, inr (_, inr (_, inr (_, x))))) = not_binding k v m.has_values m.binding why x

pub sound_by : (k : Check) (t : Quoted) (v : List ℕ) → MeetsRules k t v → IsSoundQuote k
sound_by k t v m why (inl x) = let (a, s, w, q, _) = m.attests in not_form k a s w q why x
sound_by k t v m why (inr (_, inl x)) = not_bank k m.bank why x
sound_by k t v m why (inr (_, inr (_, inl x))) = not_attest k t m.attests why x
sound_by k t v m why (inr (_, inr (_, inr (_, inl x)))) = not_signature k m.signed why x
sound_by k t v m why (inr (_, inr (_, inr (_, inr (_, x))))) = not_signed_rules k t v m why x

-- ---- The key object is asked, or not

pub is_asked : (k : Check) (a s v : List ℕ) (t : Quoted) → IsReadable k.bank k.evidence a s v t → ¬ (IsUnasked k)
is_asked k a s v t r (why, inl x) = not_form k a s v r.text why x
is_asked k a s v t r (why, inr (_, inl x)) = not_bank k r.named why x
is_asked k a s v t r (why, inr (_, inr (_, x))) = not_attest k t (read_attests k.bank k.evidence a s v t r) why x

pub answered_no : (told : Option Relations) (ak : List ℕ) (k : Check) → IsUnasked k → k.signed ≡ false → IsAnswered told ak k
answered_no told ak k none unsigned = record { unasked = λ _. unsigned; asked = λ some. absurd (some none) }

pub answered_as : (old new : KeysTold) (ak : List ℕ) (k : Check) (given : Bool) (a s v : List ℕ) (t : Quoted) → IsReadable k.bank k.evidence a s v t → given ≡ k.signed
    → Asked old new ak k.evidence.quote (Some given) → IsAnswered old.relations ak k
answered_as old new ak k given a s v t r signed asked = record {
  unasked = λ none. absurd (is_asked k a s v t r none);
  asked = λ _ b z w p.
      let same = quote_unique k.evidence.quote asked.attest asked.signature asked.values b z w asked.text p in
      subst (λ (x : Bool). Answers old.relations ak b z x) signed
      (subst (λ (x : List ℕ). Answers old.relations ak b x given) same.1 (subst (λ (x : List ℕ). Answers old.relations ak x asked.signature given) same.0 asked.related));
}
