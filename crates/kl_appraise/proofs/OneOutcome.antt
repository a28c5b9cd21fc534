-- A case has one outcome at most: of each rule what it names is one, and the first rule that applies is one.
use Rattle.std.proofs.Common.{◌≡◌, ℕ, Bool, true, false, ◌+◌, ◌<◌, ◌≤◌, List, length, take, get_or, Option, Some, None, IsSomeAnd, refl, sym, ap, ◌∙◌, subst, inl, inr, arith}
use Rattle.std.proofs.lemmas.Bool.{cases_lt, false≢true}
use Rattle.std.proofs.lemmas.List.{get_or-take, length-take}
use Rattle.std.proofs.lemmas.Option.{slice_get_within, get_or_from_slice_get}
use Rattle.std.specs.List.{slice_get}
use Rattle.kl_attest.specs.declared.fault.AttestFault.{AttestFault}
use Rattle.kl_attest.specs.FirstFault.{IsFirstFault}
use Rattle.kl_attest.proofs.FirstFaults.{first_fault-unique}
use Rattle.kl_entry.specs.declared.fault.LineFault.{LineFault}
use Rattle.kl_entry.specs.Entries.{EntryFields}
use Rattle.kl_entry.specs.Lines.{Spells, IsLineFault}
use Rattle.kl_entry.proofs.FirstFailing.{one_item, one_place}
use Rattle.kl_entry.proofs.Spelling.{fault_spells_none, one_fault}
use Rattle.kl_keys.specs.Relations.{Relations}
use Rattle.kl_pcr.specs.Statics.{IsWrong, IsFirstWrong}
use Rattle.kl_pcr.specs.declared.statics.Static.{Static}
use Rattle.kl_policy.specs.PolicyFields.{PolicyFields}
use Rattle.kl_policy.specs.Policy.{why_of, Allows, IsFirstBad}
use Rattle.kl_policy.specs.declared.why.Why.{Why}
use Rattle.kl_policy.proofs.Allowed.{allowed_iff}
use Rattle.kl_quote.proofs.OneForm.{one_form_fault, faultless_quote}
use Rattle.kl_quote.proofs.Splitting.{quote_unique}
use Rattle.kl_states.specs.declared.verdict.Verdict.{Verdict}
use Rattle.kl_states.specs.declared.verdict.Verdict.TheVariants.{Pass, Failed, Invalid}
use Rattle.kl_states.specs.declared.verdict.FailedCause.TheVariants.{Pcr, Line, Entry}
use Rattle.kl_states.specs.declared.verdict.InvalidCause.{InvalidCause}
use Rattle.kl_states.specs.declared.verdict.InvalidCause.TheVariants.{Form, Attest}
use Rattle.kl_appraise.specs.Evidence.{Check, HasValues, with_answer}
use Rattle.kl_appraise.specs.QuoteRules.{◌otherwise◌, attest_cause, ByForm, ByBank, ByAttest, BySignature, ByNonce, BySelection, ByPcrLength, ByPcrDigest, ByBinding, SignedRules, QuoteRules, FindsCause, IsUnasked, IsAnswered}
use Rattle.kl_appraise.specs.ListRules.{Case, Outcome, Judged, check_of, line_cause, entry_cause, IsCut, IsFirstBadLine, ByQuote, ByStart, ByBoot, ByPcr, ByLine, ByListFull, ByUnmatched, ByEntry, ByPass, ListRules}
use Rattle.kl_appraise.specs.Outcome.{IsOutcome, IsVerdict}
use Rattle.kl_appraise.proofs.QuoteFacts.{values_unique}
use Rattle.kl_appraise.proofs.ListFacts.{one_whole}

-- one thing at most is so
abbrev pub IsOne : {A : Type 0} → (A → Type 0) → Type 0
IsOne {A} P = (x y : A) → P x → P y → x ≡ y

one_otherwise : {A : Type 0} (P Q : A → Type 0) → IsOne P → IsOne Q → IsOne (P otherwise Q)
one_otherwise P Q p q x y (inl a) (inl b) = p x y a b
one_otherwise P Q p q x y (inl a) (inr (none, b)) = absurd (none x a)
one_otherwise P Q p q x y (inr (none, a)) (inl b) = absurd (none y b)
one_otherwise P Q p q x y (inr (_, a)) (inr (_, b)) = q x y a b

-- ---- 1 to 9

one_form : (k : Check) → IsOne (ByForm k)
one_form k x y (p, f, is) (q, g, also) =
    is ∙ ap Form (one_form_fault k.evidence.quote p q f g) ∙ sym also

one_bank : (k : Check) → IsOne (ByBank k)
one_bank k x y (_, is) (_, also) = is ∙ sym also

one_attest : (k : Check) → IsOne (ByAttest k)
one_attest k x y (a, s, v, f, quote, fault, is) (b, t, w, g, other, fails, also) =
    let same : b ≡ a = (quote_unique k.evidence.quote b t w a s v other quote).0 in
    let here : IsFirstFault a g = subst (λ (bytes : List ℕ). IsFirstFault bytes g) same fails in
    is ∙ ap (λ (e : AttestFault). Attest (attest_cause e)) (first_fault-unique a f g quote.attest_bytes fault here) ∙ sym also

one_signature : (k : Check) → IsOne (BySignature k)
one_signature k x y (_, is) (_, also) = is ∙ sym also

one_nonce : (k : Check) → IsOne (ByNonce k)
one_nonce k x y (_, _, _, is) (_, _, _, also) = is ∙ sym also

one_selection : (k : Check) → IsOne (BySelection k)
one_selection k x y (_, _, _, is) (_, _, _, also) = is ∙ sym also

one_length : (k : Check) → IsOne (ByPcrLength k)
one_length k x y (_, _, _, is) (_, _, _, also) = is ∙ sym also

one_digest : (k : Check) → IsOne (ByPcrDigest k)
one_digest k x y (_, _, _, _, _, is) (_, _, _, _, _, also) = is ∙ sym also

one_binding : (k : Check) → IsOne (ByBinding k)
one_binding k x y (_, _, _, is) (_, _, _, also) = is ∙ sym also

one_signed : (k : Check) → IsOne (SignedRules k)
one_signed k =
    one_otherwise (ByNonce k) (BySelection k otherwise ByPcrLength k otherwise ByPcrDigest k otherwise ByBinding k) (one_nonce k)
    (one_otherwise (BySelection k) (ByPcrLength k otherwise ByPcrDigest k otherwise ByBinding k) (one_selection k)
    (one_otherwise (ByPcrLength k) (ByPcrDigest k otherwise ByBinding k) (one_length k)
    (one_otherwise (ByPcrDigest k) (ByBinding k) (one_digest k) (one_binding k))))

-- a quote has one cause at most
pub one_cause : (k : Check) → IsOne (QuoteRules k)
one_cause k =
    one_otherwise (ByForm k) (ByBank k otherwise ByAttest k otherwise BySignature k otherwise SignedRules k) (one_form k)
    (one_otherwise (ByBank k) (ByAttest k otherwise BySignature k otherwise SignedRules k) (one_bank k)
    (one_otherwise (ByAttest k) (BySignature k otherwise SignedRules k) (one_attest k)
    (one_otherwise (BySignature k) (SignedRules k) (one_signature k) (one_signed k))))

-- and the nine rules find one thing, a cause or none
pub one_finding : (k : Check) → IsOne (FindsCause k)
one_finding k None None sound also = refl
one_finding k None (Some y) sound rule = absurd (sound y rule)
one_finding k (Some x) None rule sound = absurd (sound x rule)
one_finding k (Some x) (Some y) rule also = ap Some (one_cause k x y rule also)

-- ---- 10 to 14

one_by_quote : (c : Case) → IsOne (ByQuote c)
one_by_quote c x y (w, rule, is) (v, also, same) =
    is ∙ ap (λ (why : InvalidCause). Judged (Invalid why)) (one_cause (check_of c) w v rule also) ∙ sym same

one_start : (c : Case) → IsOne (ByStart c)
one_start c x y (_, _, is) (_, _, also) = is ∙ sym also

one_boot : (c : Case) → IsOne (ByBoot c)
one_boot c x y (_, _, _, _, is) (_, _, _, _, also) = is ∙ sym also

one_pcr : (c : Case) → IsOne (ByPcr c)
one_pcr c x y (v, n, has, wrong, is) (w, m, also, first, same) =
    let here : IsFirstWrong c.terms.bank c.terms.mask v c.terms.statics (Some m) =
    subst (λ (values : List ℕ). IsFirstWrong c.terms.bank c.terms.mask values c.terms.statics (Some m)) (values_unique c.evidence.quote w v also has) first in
    is ∙ ap (λ (pcr : ℕ). Judged (Failed (Pcr pcr))) (least_wrong n m wrong here) ∙ sym same
  where
    least_wrong : (n m : ℕ) → IsFirstWrong c.terms.bank c.terms.mask v c.terms.statics (Some n) → IsFirstWrong c.terms.bank c.terms.mask v c.terms.statics (Some m) → n ≡ m
    least_wrong n m ((k, s, within, there, (bad, is_n)), least) ((j, t, inside, here, (wrong, is_m)), lowest) =
        let up : n ≤ t.pcr = subst (λ (x : Static). IsWrong c.terms.bank c.terms.mask v x → n ≤ x.pcr) here (least j t inside) wrong in
        let down : m ≤ s.pcr = subst (λ (x : Static). IsWrong c.terms.bank c.terms.mask v x → m ≤ x.pcr) there (lowest k s within) bad in
        omega (arith, is_n, is_m, up, down)

-- a line that spells an entry
IsGood : List ℕ → Type 0
IsGood line = (e : EntryFields) × Spells line e

spells_none : (line : List ℕ) (f : LineFault) → IsLineFault line f → ¬ (IsGood line)
unfolding IsGood
spells_none line f fault (e, spelled) = fault_spells_none line f e fault spelled

one_bad_line : (text : List ℕ) (p q : ℕ) (f g : LineFault) → IsFirstBadLine text p f → IsFirstBadLine text q g → (p ≡ q) × (f ≡ g)
unfolding IsGood
one_bad_line text p q f g first other =
    let both = sym first.cut ∙ other.cut in
    let place = one_place IsGood first.before first.after other.before other.after first.line other.line both first.good other.good
    (spells_none first.line f first.bad) (spells_none other.line g other.bad) in
    let line = one_item first.before first.after other.before other.after first.line other.line both place in (
      sym first.counted ∙ place ∙ other.counted,
      one_fault other.line f g (subst (λ (l : List ℕ). IsLineFault l f) line first.bad) other.bad,
    )

one_line : (c : Case) → IsOne (ByLine c)
one_line c x y (p, f, bad, is) (q, g, also, same) =
    let one = one_bad_line c.evidence.list p q f g bad also in
    is ∙ ap (λ (n : ℕ). Judged (Failed (Line (c.evidence.start + n) (line_cause f)))) one.0
    ∙ ap (λ (e : LineFault). Judged (Failed (Line (c.evidence.start + q) (line_cause e)))) one.1 ∙ sym same

one_full : (c : Case) → IsOne (ByListFull c)
one_full c x y (_, is) (_, also) = is ∙ sym also

-- ---- 15 to 17, where no rule before applies to the quote, so that it has values

-- the quote has values, which can't be denied
HasSome : Case → Type 0
HasSome c = ¬ ((v : List ℕ) → ¬ (HasValues c.evidence.quote v))

has_some : (c : Case) → ((o : Outcome) → ¬ (ByQuote c o)) → HasSome c
unfolding HasSome
has_some c sound = λ none.
    faultless_quote c.evidence.quote (λ part fault. sound (Judged (Invalid (Form part))) (Form part, inl (part, fault, refl), refl))
    (λ a s v quote. none v (a, s, quote))

one_cut : (c : Case) (whole : List EntryFields) (m n : ℕ) → HasSome c → IsCut c whole m → IsCut c whole n → m ≡ n
unfolding HasSome
one_cut c whole m n some a b = elim (cases_lt m n) [
  | inl below ↦ absurd (some (λ v has. b.least v m has a.place below (a.replays v has)))
  | inr reached ↦ elim (cases_lt n m) [
    | inl above ↦ absurd (some (λ v has. a.least v n has b.place above (b.replays v has)))
    | inr also ↦ omega (arith, reached, also)
  ]
]

-- the cut of one list and that of another one, which is the same
cut_in : (c : Case) (v w : List EntryFields) (m n : ℕ) → HasSome c → v ≡ w → IsCut c v m → IsCut c w n → m ≡ n
cut_in c v w m n some same a b = one_cut c w m n some (subst (λ (x : List EntryFields). IsCut c x m) same a) b

one_unmatched : (c : Case) → IsOne (ByUnmatched c)
one_unmatched c x y (_, is) (_, also) = is ∙ sym also

-- an entry with a reason against it does not stand among those that are allowed
not_among : (policy : PolicyFields) (xs : List EntryFields) (p q : ℕ) (why because : Why)
    → IsFirstBad policy xs (Some (p, why)) → IsFirstBad policy xs (Some (q, because)) → ¬ (p < q)
not_among policy xs p q why because (here, _) (_, good) below = by_entry (slice_get xs p) refl here
  where
    by_entry : (o : Option EntryFields) → slice_get xs p ≡ o → IsSomeAnd o (λ e. why_of policy e ≡ Some why) → ⊥
    by_entry None is found = absurd found
    by_entry (Some e) is found =
        let within : p < length xs = slice_get_within xs p e is in
        let inside : p < length (take q xs) = omega (arith, length-take q xs, within, below) in
        let there : get_or (take q xs) p e ≡ e = get_or-take q xs p e below ∙ get_or_from_slice_get xs p e e is in
        let allowed : Allows policy e = subst (Allows policy) there (good p e inside) in
        let none : why_of policy e ≡ None = (allowed_iff policy e).1 allowed in
        cc

why_same : (policy : PolicyFields) (o : Option EntryFields) (why because : Why)
    → IsSomeAnd o (λ e. why_of policy e ≡ Some why) → IsSomeAnd o (λ e. why_of policy e ≡ Some because) → why ≡ because
why_same policy None why because h k = absurd h
why_same policy (Some e) why because h k = cc

one_bad : (policy : PolicyFields) (xs : List EntryFields) (p q : ℕ) (why because : Why)
    → IsFirstBad policy xs (Some (p, why)) → IsFirstBad policy xs (Some (q, because)) → (p ≡ q) × (why ≡ because)
one_bad policy xs p q why because h k =
    let place : p ≡ q = elim (cases_lt p q) [
      | inl below ↦ absurd (not_among policy xs p q why because h k below)
      | inr reached ↦ elim (cases_lt q p) [
        | inl above ↦ absurd (not_among policy xs q p because why k h above)
        | inr also ↦ omega (arith, reached, also)
      ]
    ] in
    (place, why_same policy (slice_get xs q) why because (subst (λ (n : ℕ). IsSomeAnd (slice_get xs n) (λ e. why_of policy e ≡ Some why)) place h.0) k.0)

one_by_entry : (c : Case) → HasSome c → IsOne (ByEntry c)
one_by_entry c some x y (v, m, p, why, whole, cut, bad, is) (w, n, q, because, also, at, worse, same) =
    let list : v ≡ w = one_whole c v w whole also in
    let places : m ≡ n = cut_in c v w m n some list cut at in
    let moved : IsFirstBad c.terms.policy (take n w) (Some (p, why)) =
    subst (λ (k : ℕ). IsFirstBad c.terms.policy (take k w) (Some (p, why))) places
    (subst (λ (es : List EntryFields). IsFirstBad c.terms.policy (take m es) (Some (p, why))) list bad) in
    let one = one_bad c.terms.policy (take n w) p q why because moved worse in
    is ∙ ap (λ (k : ℕ). Judged (Failed (Entry k (entry_cause why)))) one.0
    ∙ ap (λ (z : Why). Judged (Failed (Entry q (entry_cause z)))) one.1 ∙ sym same

one_pass : (c : Case) → HasSome c → IsOne (ByPass c)
one_pass c some x y (v, m, whole, cut, is) (w, n, also, at, same) =
    is ∙ ap (λ (k : ℕ). Judged (Pass k)) (cut_in c v w m n some (one_whole c v w whole also) cut at) ∙ sym same

one_list : (c : Case) → HasSome c → IsOne (ListRules c)
one_list c some =
    one_otherwise (ByStart c) (ByBoot c otherwise ByPcr c otherwise ByLine c otherwise ByListFull c otherwise ByUnmatched c otherwise ByEntry c otherwise ByPass c) (one_start c)
    (one_otherwise (ByBoot c) (ByPcr c otherwise ByLine c otherwise ByListFull c otherwise ByUnmatched c otherwise ByEntry c otherwise ByPass c) (one_boot c)
    (one_otherwise (ByPcr c) (ByLine c otherwise ByListFull c otherwise ByUnmatched c otherwise ByEntry c otherwise ByPass c) (one_pcr c)
    (one_otherwise (ByLine c) (ByListFull c otherwise ByUnmatched c otherwise ByEntry c otherwise ByPass c) (one_line c)
    (one_otherwise (ByListFull c) (ByUnmatched c otherwise ByEntry c otherwise ByPass c) (one_full c)
    (one_otherwise (ByUnmatched c) (ByEntry c otherwise ByPass c) (one_unmatched c)
    (one_otherwise (ByEntry c) (ByPass c) (one_by_entry c some) (one_pass c some)))))))

-- ---- all of them

pub one_outcome : (c : Case) → IsOne (IsOutcome c)
one_outcome c x y (inl a) (inl b) = one_by_quote c x y a b
one_outcome c x y (inl a) (inr (none, b)) = absurd (none x a)
one_outcome c x y (inr (none, a)) (inl b) = absurd (none y b)
one_outcome c x y (inr (none, a)) (inr (_, b)) = one_list c (has_some c none) x y a b

judged_same : (v w : Verdict) → Judged v ≡ Judged w → v ≡ w
judged_same v w same = cc

pub one_verdict : (c : Case) (v w : Verdict) → IsVerdict c v → IsVerdict c w → v ≡ w
one_verdict c v w a b = judged_same v w (one_outcome c (Judged v) (Judged w) a b)

-- ---- the answer of a key object that tells its relations

-- no and yes are not both its answer
not_both : (r : Relations) (ak : List ℕ) (k : Check) → IsAnswered (Some r) ak (with_answer k false) → IsAnswered (Some r) ak (with_answer k true) → ⊥
not_both r ak k denied granted =
    let asked : ¬ (IsUnasked k) = λ unasked. false≢true (sym (granted.unasked unasked)) in
    faultless_quote k.evidence.quote (λ part fault. asked (Form part, inl (part, fault, refl)))
    (λ a s v quote. false≢true (denied.asked asked a s v quote ∙ sym (granted.asked asked a s v quote)))

pub one_answer : (r : Relations) (ak : List ℕ) (k : Check) (s t : Bool) → IsAnswered (Some r) ak (with_answer k s) → IsAnswered (Some r) ak (with_answer k t) → s ≡ t
one_answer r ak k false false a b = refl
one_answer r ak k false true a b = absurd (not_both r ak k a b)
one_answer r ak k true false a b = absurd (not_both r ak k b a)
one_answer r ak k true true a b = refl
