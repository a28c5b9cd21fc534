-- A policy is what its text says.
use Rattle.std.proofs.Common.{◌≡◌, ℕ, Bool, Some, List, [], ◌∷◌, refl, sym, ap, subst, ◌∙◌, codes}
use Rattle.std.specs.List.{AllZip}
use Rattle.serde_json.specs.Data.{Data}
use Rattle.hex.proofs.HexLemmas.{decode_of-same}
use Rattle.kl_json.specs.Members.{member_as}
use Rattle.kl_json.specs.Reading.{Reads}
use Rattle.kl_digests.specs.Digests.{DigestMap, SpellsDigest}
use Rattle.kl_policy.specs.PolicyFields.{PolicyFields}
use Rattle.kl_policy.specs.Json.{Listed, as_listing, map_of, IsDecoded, Decodes, HasDigests, HasPatterns, HasChoice, HasParts}
use Rattle.kl_policy.specs.Reading.{IsReading}
use Rattle.kl_states.specs.declared.policy_kind.PolicyKind.{PolicyKind}
use Rattle.kl_states.specs.declared.policy_kind.PolicyKind.TheVariants.{Flat, Json}
use Rattle.kl_policy.proofs.OnePolicy.{digests_same}
use Rattle.kl_policy.proofs.JsonFacts.{same_texts}

-- ---- a JSON policy

pub one_value : (text : List ℕ) (d e : Data) → Reads text d → Reads text e → d ≡ e
one_value text d e h k = let one : Some d ≡ Some e = sym h.1 ∙ k.1 in cc one

spelled_same : (texts ds es : List (List ℕ)) → AllZip SpellsDigest texts ds → AllZip SpellsDigest texts es → ds ≡ es
spelled_same [] [] [] h k = refl
spelled_same [] [] (e ∷ es) h k = absurd k
spelled_same [] (d ∷ ds) es h k = absurd h
spelled_same (t ∷ texts) [] es h k = absurd h
spelled_same (t ∷ texts) (d ∷ ds) [] h k = absurd k
spelled_same (t ∷ texts) (d ∷ ds) (e ∷ es) h k =
    ap (λ z. z ∷ ds) (decode_of-same t d e h.0.decoded k.0.decoded) ∙ ap (λ zs. e ∷ zs) (spelled_same texts ds es h.1 k.1)

decoded_same : (listed ps qs : List Listed) → AllZip IsDecoded listed ps → AllZip IsDecoded listed qs → ps ≡ qs
decoded_same [] [] [] h k = refl
decoded_same [] [] (q ∷ qs) h k = absurd k
decoded_same [] (p ∷ ps) qs h k = absurd h
decoded_same (l ∷ listed) [] qs h k = absurd h
decoded_same (l ∷ listed) (p ∷ ps) [] h k = absurd k
decoded_same (l ∷ listed) (p ∷ ps) (q ∷ qs) h k =
    let path : p.0 ≡ q.0 = h.0.0 ∙ sym k.0.0 in
    let digests : p.1 ≡ q.1 = spelled_same l.1 p.1 q.1 h.0.1 k.0.1 in
    let pair : p ≡ q = ap (λ z. (z, p.1)) path ∙ ap (λ z. (q.0, z)) digests in
    ap (λ z. z ∷ ps) pair ∙ ap (λ zs. q ∷ zs) (decoded_same listed ps qs h.1 k.1)

pub one_listing : {listed others : List Listed} (d : Data) → member_as as_listing (codes "digests") d ≡ Some listed → member_as as_listing (codes "digests") d ≡ Some others → listed ≡ others
one_listing {listed = listed} {others = others} d h k = let one : Some listed ≡ Some others = sym h ∙ k in cc one

pub one_digests : (d : Data) (m n : DigestMap) → HasDigests d m → HasDigests d n → m ≡ n
one_digests d m n h k =
    let lists = one_listing d h.listing.lists k.listing.lists in
    let decoded : Decodes k.listed m = subst (λ (l : List Listed). Decodes l m) lists h.decoded in
    decoded.2 ∙ ap map_of (decoded_same k.listed decoded.0 k.decoded.0 decoded.1 k.decoded.1) ∙ sym k.decoded.2

pub one_patterns : (d : Data) (ps qs : List (List ℕ)) → HasPatterns d ps → HasPatterns d qs → ps ≡ qs
one_patterns d ps qs h k = same_texts (sym h.lists ∙ k.lists)

pub one_choice : (d : Data) (b c : Bool) → HasChoice d b → HasChoice d c → b ≡ c
one_choice d b c h k = let one : Some b ≡ Some c = sym h ∙ k in cc one

-- ---- a policy in either form

policy_by : List ℕ → PolicyKind → DigestMap → List (List ℕ) → Bool → PolicyFields
policy_by source kind digests patterns passes = record { source = source; kind = kind; digests = digests; patterns = patterns; passes_violations = passes }

-- a text says one thing in its form
pub one_reading : (text : List ℕ) (kind : PolicyKind) (m n : DigestMap) (ps qs : List (List ℕ)) (b c : Bool) → IsReading text kind m ps b → IsReading text kind n qs c → (m ≡ n) × (ps ≡ qs) × (b ≡ c)
one_reading text Flat m n ps qs b c h k = (digests_same text m n h.lists k.lists, h.none ∙ sym k.none, h.fails ∙ sym k.fails)
one_reading text Json m n ps qs b c h k =
    let same = one_value text h.value k.value h.reads k.reads in
    let parts : HasParts k.value m ps b = subst (λ (d : Data). HasParts d m ps b) same h.parts in
    (one_digests k.value m n parts.digests_are k.parts.digests_are, one_patterns k.value ps qs parts.patterns_are k.parts.patterns_are, one_choice k.value b c parts.choice_is k.parts.choice_is)

-- policies of one form and one text are equal
pub same_policy : (p q : PolicyFields) → IsReading p.source p.kind p.digests p.patterns p.passes_violations → IsReading q.source q.kind q.digests q.patterns q.passes_violations
    → p.kind ≡ q.kind → p.source ≡ q.source → p ≡ q
unfolding policy_by
same_policy p q is_p is_q kind source =
    let is : IsReading q.source q.kind p.digests p.patterns p.passes_violations =
    subst (λ (k : PolicyKind). IsReading q.source k p.digests p.patterns p.passes_violations) kind
    (subst (λ (s : List ℕ). IsReading s p.kind p.digests p.patterns p.passes_violations) source is_p) in
    let same = one_reading q.source q.kind p.digests q.digests p.patterns q.patterns p.passes_violations q.passes_violations is is_q in
    let one : policy_by p.source p.kind p.digests p.patterns p.passes_violations ≡ policy_by q.source q.kind q.digests q.patterns q.passes_violations = cc (source, kind, same.0, same.1, same.2) in one
