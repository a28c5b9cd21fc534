-- Words before single spaces: a text is cut in one way.
use Rattle.std.proofs.Common.{◌≡◌, ◌≢◌, ℕ, suc, ◌+◌, ◌<◌, List, [], ◌∷◌, ◌++◌, length, Option, Some, None, ok_or, refl, sym, ap, ◌∙◌, arith, length-append}
use Rattle.std.specs.Prelude.{IfOk, OnErr}
use Rattle.std.specs.List.{join_with_byte, AllByRecursion}
use Rattle.std.proofs.lemmas.Str.Pattern.{IsSplitOnceResult, split_parts}
use denote.Ref.{Bor}
use Rattle.kl_script.specs.declared.fault.CommandFault.TheVariants.{NoCommand}
use Rattle.kl_script.specs.Words.{HasNo, IsSplit}

-- the head and the tail of equal lists
pub heads : {A : Type 0} {x y : A} {xs ys : List A} → x ∷ xs ≡ y ∷ ys → x ≡ y
heads e = cc

pub tails : {A : Type 0} {x y : A} {xs ys : List A} → x ∷ xs ≡ y ∷ ys → xs ≡ ys
tails e = cc

pub HasNo-tail : (b x : ℕ) (xs : List ℕ) → HasNo b (x ∷ xs) → HasNo b xs
HasNo-tail b x xs h i lt = h (suc i) (omega arith)

pub HasNo-head : (b x : ℕ) (xs : List ℕ) → HasNo b (x ∷ xs) → x ≢ b
HasNo-head b x xs h = h 0 (omega arith)

-- the word before the first such byte, and what stands behind it
pub same_word : (b : ℕ) (xs ys more others : List ℕ) → HasNo b xs → HasNo b ys → xs ++ b ∷ more ≡ ys ++ b ∷ others → (xs ≡ ys) × (more ≡ others)
same_word b [] [] more others hx hy e = (refl, tails e)
same_word b [] (y ∷ ys) more others hx hy e = absurd (HasNo-head b y ys hy (sym (heads e)))
same_word b (x ∷ xs) [] more others hx hy e = absurd (HasNo-head b x xs hx (heads e))
same_word b (x ∷ xs) (y ∷ ys) more others hx hy e =
    let r = same_word b xs ys more others (HasNo-tail b x xs hx) (HasNo-tail b y ys hy) (tails e) in
    let first : x ≡ y = heads e in
    (ap (λ (h : ℕ). h ∷ xs) first ∙ ap (λ (t : List ℕ). y ∷ t) r.0, r.1)

pub no_word : (b : ℕ) (text ys others : List ℕ) → HasNo b text → text ≡ ys ++ b ∷ others → ⊥
no_word b [] [] others h e = absurd cc
no_word b [] (y ∷ ys) others h e = absurd cc
no_word b (x ∷ xs) [] others h e = HasNo-head b x xs h (heads e)
no_word b (x ∷ xs) (y ∷ ys) others h e = no_word b xs ys others (HasNo-tail b x xs h) (tails e)

-- one word more in front
pub join-cons : (b : ℕ) (word : List ℕ) (words : List (List ℕ)) (rest : List ℕ) → join_with_byte b (word ∷ (words ++ rest ∷ [])) ≡ word ++ b ∷ join_with_byte b (words ++ rest ∷ [])
join-cons b word [] rest = refl
join-cons b word (w ∷ ws) rest = refl

-- one word more at the end
join-push : (b : ℕ) (words : List (List ℕ)) (word rest : List ℕ) → join_with_byte b ((words ++ word ∷ []) ++ rest ∷ []) ≡ join_with_byte b (words ++ (word ++ b ∷ rest) ∷ [])
join-push b [] word rest = refl
join-push b (w ∷ ws) word rest =
    join-cons b w (ws ++ word ∷ []) rest ∙ ap (λ (t : List ℕ). w ++ b ∷ t) (join-push b ws word rest) ∙ sym (join-cons b w ws (word ++ b ∷ rest))

spaceless-push : (words : List (List ℕ)) (word : List ℕ) → AllByRecursion (HasNo 32) words → HasNo 32 word → AllByRecursion (HasNo 32) (words ++ word ∷ [])
spaceless-push [] word h p = (p, tt)
spaceless-push (w ∷ ws) word h p = (h.0, spaceless-push ws word h.1 p)

pub IsSplit-more : (text : List ℕ) (count : ℕ) (words : List (List ℕ)) (rest word behind : List ℕ) → IsSplit text count words rest → rest ≡ word ++ 32 ∷ behind → HasNo 32 word
    → IsSplit text (count + 1) (words ++ word ∷ []) behind
IsSplit-more text count words rest word behind s e h = record {
  counted = omega (arith, s.counted, length-append words (word ∷ []));
  spaceless = spaceless-push words word s.spaceless h;
  joined = s.joined ∙ ap (λ (r : List ℕ). join_with_byte 32 (words ++ r ∷ [])) e ∙ sym (join-push 32 words word behind);
}

-- a text without a space left is cut no further
too_few : (words others : List (List ℕ)) (rest behind : List ℕ) → AllByRecursion (HasNo 32) words → AllByRecursion (HasNo 32) others → HasNo 32 rest → length words < length others
    → join_with_byte 32 (words ++ rest ∷ []) ≡ join_with_byte 32 (others ++ behind ∷ []) → ⊥
too_few words [] rest behind hw ho h lt e = omega arith
too_few [] (o ∷ os) rest behind hw ho h lt e = no_word 32 rest o (join_with_byte 32 (os ++ behind ∷ [])) h (e ∙ join-cons 32 o os behind)
too_few (w ∷ ws) (o ∷ os) rest behind hw ho h lt e =
    let r = same_word 32 w o (join_with_byte 32 (ws ++ rest ∷ [])) (join_with_byte 32 (os ++ behind ∷ [])) hw.0 ho.0 (sym (join-cons 32 w ws rest) ∙ e ∙ join-cons 32 o os behind) in
    too_few ws os rest behind hw.1 ho.1 h (omega arith) r.1

pub IsSplit-ended : (text : List ℕ) (count all : ℕ) (words others : List (List ℕ)) (rest behind : List ℕ) → IsSplit text count words rest → count < all → HasNo 32 rest → IsSplit text all others behind → ⊥
IsSplit-ended text count all words others rest behind s lt h t =
    too_few words others rest behind s.spaceless t.spaceless h (omega (arith, s.counted, t.counted)) (sym s.joined ∙ t.joined)

same_cut : (words others : List (List ℕ)) (rest behind : List ℕ) → AllByRecursion (HasNo 32) words → AllByRecursion (HasNo 32) others → length words ≡ length others
    → join_with_byte 32 (words ++ rest ∷ []) ≡ join_with_byte 32 (others ++ behind ∷ []) → (words ≡ others) × (rest ≡ behind)
same_cut [] [] rest behind hw ho len e = (refl, e)
same_cut [] (o ∷ os) rest behind hw ho len e = absurd (omega arith)
same_cut (w ∷ ws) [] rest behind hw ho len e = absurd (omega arith)
same_cut (w ∷ ws) (o ∷ os) rest behind hw ho len e =
    let r = same_word 32 w o (join_with_byte 32 (ws ++ rest ∷ [])) (join_with_byte 32 (os ++ behind ∷ [])) hw.0 ho.0 (sym (join-cons 32 w ws rest) ∙ e ∙ join-cons 32 o os behind) in
    let others = same_cut ws os rest behind hw.1 ho.1 (omega arith) r.1 in
    (ap (λ (h : List ℕ). h ∷ ws) r.0 ∙ ap (λ (t : List (List ℕ)). o ∷ t) others.0, others.1)

-- a text is cut into so many words in one way
pub IsSplit-same : (text : List ℕ) (count : ℕ) (words others : List (List ℕ)) (rest behind : List ℕ) → IsSplit text count words rest → IsSplit text count others behind → (words ≡ others) × (rest ≡ behind)
IsSplit-same text count words others rest behind s t =
    same_cut words others rest behind s.spaceless t.spaceless (omega (arith, s.counted, t.counted)) (sym s.joined ∙ t.joined)
