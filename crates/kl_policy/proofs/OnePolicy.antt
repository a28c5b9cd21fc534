-- A text lists one map of digests at most, and a text with a bad line lists none.
use Rattle.std.proofs.Common.{◌≡◌, ◌≢◌, ℕ, suc, ◌<◌, Result, Ok, Err, List, [], ◌∷◌, ◌++◌, length, get_or, refl, sym, ap, subst, ◌∙◌, arith, All, length-append}
use Rattle.std.proofs.Math.Seq.{get_or-append_seam}
use Rattle.std.specs.Cmp.Lexicographic.{nat_list_cmp_total}
use Rattle.std.specs.Prelude.{IfOk, IfErr}
use Rattle.std.specs.FinMap as finite_map
use Rattle.std.specs.FinMap.{same_map, slice_cmp-IsAntisymmetric, nat_cmp-IsAntisymmetric}
use Rattle.hex.specs.Hex.{decode_of}
use Rattle.hex.proofs.HexLemmas.{decode_of-same}
use Rattle.kl_entry.specs.Lines.{lines_of}
use Rattle.kl_entry.proofs.FirstFailing.{one_failing}
use Rattle.kl_digests.specs.Digests.{DigestMap}
use Rattle.kl_policy.specs.PolicyFields.{PolicyFields}
use Rattle.kl_policy.specs.Flat.{FlatLine, Collects, AreListed, ListsDigests, IsGoodLine, BreaksAt, IsFlatFault, IsReadAs, IsRefusedAt}
use Rattle.kl_policy.specs.declared.fault.Limit.TheVariants.{Paths, Patterns, PatternBytes}
use Rattle.kl_policy.specs.declared.fault.PolicyFault.{PolicyFault}
use Rattle.kl_policy.specs.declared.fault.PolicyFault.TheVariants.{Json, Line, BadDigest, Unsupported, Limit as Over, Exclude, Memory}
use Rattle.kl_policy.proofs.FlatLines.{by_spaces, no_space, same_tail}
use Rattle.kl_policy.proofs.Listing.{good_lines}

-- no byte is a space
Spaceless : List ℕ → Type 0
Spaceless xs = (i : ℕ) → i < length xs → get_or xs i 0 ≢ 32

later : (x : ℕ) (xs : List ℕ) → Spaceless (x ∷ xs) → Spaceless xs
unfolding Spaceless
later x xs h = λ i below. h (suc i) (omega arith)

first : (x : ℕ) (xs : List ℕ) → Spaceless (x ∷ xs) → x ≢ 32
unfolding Spaceless
first x xs h = h 0 (omega arith)

same_head : {x y : ℕ} {xs ys : List ℕ} → x ∷ xs ≡ y ∷ ys → x ≡ y
same_head h = cc h

-- a text is cut at its first space in one way
one_cut : (xs ys p q : List ℕ) → Spaceless xs → Spaceless ys → xs ++ 32 ∷ p ≡ ys ++ 32 ∷ q → (xs ≡ ys) × (p ≡ q)
one_cut [] [] p q h k e = (refl, same_tail e)
one_cut [] (y ∷ ys) p q h k e = absurd (first y ys k (sym (same_head e)))
one_cut (x ∷ xs) [] p q h k e = absurd (first x xs h (same_head e))
one_cut (x ∷ xs) (y ∷ ys) p q h k e =
    let rest = one_cut xs ys p q (later x xs h) (later y ys k) (same_tail e) in
    (ap (λ z. z ∷ xs) (same_head e) ∙ ap (λ zs. y ∷ zs) rest.0, rest.1)

spaceless : (digits digest : List ℕ) → decode_of digits ≡ Ok digest → Spaceless digits
unfolding Spaceless
spaceless digits digest h = no_space digits digest h

-- a line gives one digest and one path
pub flat_line_same : (line d e p q : List ℕ) → FlatLine line d p → FlatLine line e q → (d ≡ e) × (p ≡ q)
flat_line_same line d e p q f g =
    let cut = one_cut f.digits g.digits (32 ∷ p) (32 ∷ q) (spaceless f.digits d f.spelled.decoded) (spaceless g.digits e g.spelled.decoded)
    (sym (by_spaces f.digits p) ∙ sym f.parts ∙ g.parts ∙ by_spaces g.digits q) in
    (decode_of-same g.digits d e (ap decode_of (sym cut.0) ∙ f.spelled.decoded) g.spelled.decoded, same_tail cut.1)

-- lines give one list of pairs
pub listed_same : (lines : List (List ℕ)) (ps qs : List (List ℕ × List ℕ)) → AreListed lines ps → AreListed lines qs → ps ≡ qs
listed_same [] [] [] h k = refl
listed_same [] [] (q ∷ qs) h k = absurd k
listed_same [] (p ∷ ps) qs h k = absurd h
listed_same ([] ∷ lines) ps qs h k = listed_same lines ps qs h k
listed_same ((b ∷ bs) ∷ lines) [] qs h k = absurd h
listed_same ((b ∷ bs) ∷ lines) (p ∷ ps) [] h k = absurd k
listed_same ((b ∷ bs) ∷ lines) (p ∷ ps) (q ∷ qs) h k =
    let one = flat_line_same (b ∷ bs) p.1 q.1 p.0 q.0 h.0 k.0 in
    let pair : p ≡ q = ap (λ path. (path, p.1)) one.1 ∙ ap (λ digest. (q.0, digest)) one.0 in
    ap (λ z. z ∷ ps) pair ∙ ap (λ zs. q ∷ zs) (listed_same lines ps qs h.1 k.1)

-- a text lists one map
pub digests_same : (text : List ℕ) (m n : DigestMap) → ListsDigests text m → ListsDigests text n → m ≡ n
digests_same text m n h k =
    let pairs = listed_same (lines_of text) h.0 k.0 h.1 k.1 in
    let at : Collects k.0 m = subst (λ all. Collects all m) pairs h.2 in
    same_map nat_list_cmp_total (slice_cmp-IsAntisymmetric nat_cmp-IsAntisymmetric) m n (λ path. at path ∙ sym (k.2 path))

-- one line is the first bad one
pub one_bad_line : (lines : List (List ℕ)) (p q : ℕ) → BreaksAt lines p → BreaksAt lines q → p ≡ q
one_bad_line lines p q f g = one_failing IsGoodLine (λ line. ¬ (IsGoodLine line)) (λ line. ¬ (IsGoodLine line)) (λ line bad. bad) (λ line bad. bad) lines p q f g

-- a text with a bad line lists none
pub no_digests : (text : List ℕ) (place : ℕ) (m : DigestMap) → BreaksAt (lines_of text) place → ListsDigests text m → ⊥
no_digests text place m fault h =
    let good : All IsGoodLine (fault.before ++ fault.item ∷ fault.after) = subst (All IsGoodLine) fault.cut (good_lines (lines_of text) h.0 h.1) in
    fault.fails (subst IsGoodLine (get_or-append_seam fault.before fault.item fault.after fault.item) (good (length fault.before) fault.item (omega (arith, length-append fault.before (fault.item ∷ fault.after)))))

-- a fault of a text that lists digests is that they have too many paths, or want of memory
faulted : (text : List ℕ) (fault : PolicyFault) → IsFlatFault text fault → (digests : DigestMap) → ListsDigests text digests → IsReadAs (Err fault) digests
faulted text (Line place) h digests k = no_digests text place digests h k
faulted text (Over Paths) h digests k = subst (λ (m : DigestMap). 262144 < finite_map.len m) (digests_same text h.0 digests h.1 k) h.2
faulted text (Over Patterns) h digests k = h
faulted text (Over PatternBytes) h digests k = h
faulted text (Json fault) h digests k = h
faulted text (BadDigest i j) h digests k = h
faulted text (Unsupported name) h digests k = h
faulted text (Exclude why) h digests k = h
faulted text Memory h digests k = tt

-- so a text that lists digests is read as them
pub read_as : (text : List ℕ) (r : Result PolicyFields PolicyFault) → IfOk r (λ policy. ListsDigests text policy.digests) → IfErr r (λ fault. IsFlatFault text fault)
    → (digests : DigestMap) → ListsDigests text digests → IsReadAs r digests
read_as text (Ok policy) found fault digests k = digests_same text policy.digests digests found k
read_as text (Err e) found fault digests k = faulted text e fault digests k

-- and a text with a bad line is refused for the first one
pub refused_at : (text : List ℕ) (r : Result PolicyFields PolicyFault) → IfOk r (λ policy. ListsDigests text policy.digests) → IfErr r (λ fault. IsFlatFault text fault)
    → (place : ℕ) → BreaksAt (lines_of text) place → IsRefusedAt r place
refused_at text (Ok policy) found fault place bad = no_digests text place policy.digests bad found
refused_at text (Err (Line other)) found fault place bad = one_bad_line (lines_of text) other place fault bad
refused_at text (Err (Over Paths)) found fault place bad = no_digests text place fault.0 bad fault.1
refused_at text (Err (Over Patterns)) found fault place bad = fault
refused_at text (Err (Over PatternBytes)) found fault place bad = fault
refused_at text (Err (Json why)) found fault place bad = fault
refused_at text (Err (BadDigest i j)) found fault place bad = fault
refused_at text (Err (Unsupported name)) found fault place bad = fault
refused_at text (Err (Exclude why)) found fault place bad = fault
refused_at text (Err Memory) found fault place bad = tt
