-- How a text is cut into lines.
use Rattle.std.proofs.Common.{◌≡◌, ◌≢◌, ℕ, zero, suc, ◌+◌, ◌<◌, ◌≤◌, Bool, true, false, cond, eqb, List, [], ◌∷◌, ◌++◌, length, get_or, take, drop, refl, sym, ap, ◌∙◌, subst, arith, inl, inr, add-one, drop-cons, Contains, All}
use Rattle.std.proofs.lemmas.Bool.{ne_eqb, eqb-true, eqb-false}
use Rattle.std.proofs.lemmas.List.{take-append-drop}
use Rattle.std.proofs.lemmas.List.Elements.{All-weaker, All-from_recursion}
use Rattle.std.specs.List.{AllByRecursion}
use Rattle.std.proofs.lemmas.List.{nil_from_length}
use Rattle.std.proofs.lemmas.Str.{IsCharBoundary-after_ascii}
use Rattle.std.specs.Str.{IsUtf8, IsCharBoundary}
use Rattle.std.specs.Prelude.{slice_range, ◌==◌, Some, None}
use Rattle.memchr.specs.Find.{IsFirstByte, is_byte}
use Rattle.kl_entry.specs.Lines.{lines_of, onto_first, RejoinsTo}

-- no byte of the text is c
abbrev pub Lacks : ℕ → List ℕ → Type 0
Lacks c [] = Unit {0}
Lacks c (x ∷ xs) = (x ≢ c) × Lacks c xs

pub Lacks-not : (c : ℕ) (xs : List ℕ) → Lacks c xs → Contains xs c → ⊥
Lacks-not c [] h (k, lt, e) = absurd (omega arith)
Lacks-not c (x ∷ xs) h (zero, lt, e) = h.0 e
Lacks-not c (x ∷ xs) h (suc k, lt, e) = Lacks-not c xs h.1 (k, omega arith, e)

pub Lacks-take : (c i : ℕ) (xs : List ℕ) → ((k : ℕ) → k < i → get_or xs k 0 ≡ c → ⊥) → i ≤ length xs → Lacks c (take i xs)
Lacks-take c zero xs h le = tt
Lacks-take c (suc i) [] h le = absurd (omega arith)
Lacks-take c (suc i) (x ∷ xs) h le = (h 0 (omega arith), Lacks-take c i xs (λ k lt. h (suc k) (omega arith)) (omega arith))

-- a text up to its first newline
pub line_ended : (line rest : List ℕ) → Lacks 10 line → lines_of (line ++ 10 ∷ rest) ≡ line ∷ lines_of rest
unfolding lines_of
line_ended [] rest h = refl
line_ended (x ∷ line) rest h = rw (ne_eqb x 10 h.0, line_ended line rest h.1) refl

-- a text without a newline
pub line_last : (x : ℕ) (line : List ℕ) → Lacks 10 (x ∷ line) → lines_of (x ∷ line) ≡ (x ∷ line) ∷ []
unfolding lines_of
line_last x [] h = rw (ne_eqb x 10 h.0) refl
line_last x (y ∷ line) h = rw (ne_eqb x 10 h.0, line_last y line h.1) refl

pub line_none : lines_of [] ≡ []
unfolding lines_of
line_none = refl

-- the same by places, as a search finds them
pub line_at : (text : List ℕ) (at : ℕ) → at < length text → get_or text at 0 ≡ 10 → ((k : ℕ) → k < at → get_or text k 0 ≡ 10 → ⊥) → lines_of text ≡ take at text ∷ lines_of (drop (at + 1) text)
line_at text at lt is before =
    let parts : text ≡ take at text ++ 10 ∷ drop (at + 1) text =
    sym (take-append-drop at text) ∙ ap (λ (x : List ℕ). take at text ++ x) (drop-cons text at 0 lt ∙ ap (λ (x : ℕ). x ∷ drop (suc at) text) is ∙ ap (λ (k : ℕ). 10 ∷ drop k text) (sym (add-one at))) in
    ap lines_of parts ∙ line_ended (take at text) (drop (at + 1) text) (Lacks-take 10 at text before (omega arith))

Lacks-whole : (xs : List ℕ) → ((k : ℕ) → k < length xs → get_or xs k 0 ≡ 10 → ⊥) → Lacks 10 xs
Lacks-whole [] h = tt
Lacks-whole (x ∷ xs) h = (h 0 (omega arith), Lacks-whole xs (λ k lt. h (suc k) (omega arith)))

pub line_whole : (text : List ℕ) → 0 < length text → ((k : ℕ) → k < length text → get_or text k 0 ≡ 10 → ⊥) → lines_of text ≡ text ∷ lines_of []
line_whole [] lt h = absurd (omega arith)
line_whole (x ∷ xs) lt h = line_last x xs (Lacks-whole (x ∷ xs) h) ∙ ap (λ (ls : List (List ℕ)). (x ∷ xs) ∷ ls) (sym line_none)

-- ---- no line has a newline

abbrev AllLack : List (List ℕ) → Type 0
AllLack ls = AllByRecursion (Lacks 10) ls

lack_next : (b : ℕ) (ls : List (List ℕ)) (t : Bool) → eqb b 10 ≡ t → AllLack ls → AllLack (cond t ([] ∷ ls) (onto_first b ls))
lack_next b ls true e h = (tt, h)
lack_next b [] false e h = ((eqb-false b 10 e, tt), tt)
lack_next b (l ∷ ls) false e h = ((eqb-false b 10 e, h.0), h.1)

lines_lack : (text : List ℕ) → AllLack (lines_of text)
unfolding lines_of
lines_lack [] = tt
lines_lack (b ∷ bs) = lack_next b (lines_of bs) (eqb b 10) refl (lines_lack bs)

pub lines_cut : (text : List ℕ) → All (λ line. ¬ (Contains line 10)) (lines_of text)
lines_cut text = All-weaker (Lacks 10) (λ line. ¬ (Contains line 10)) (λ line h. Lacks-not 10 line h) (lines_of text) (All-from_recursion (Lacks 10) (lines_of text) (lines_lack text))

-- ---- the lines are the text

-- what joins to the rest of a text joins to the text
record Rejoined (ls : List (List ℕ)) (bs : List ℕ) : Type 0 where
  none : ls ≡ [] → bs ≡ []
  joins : RejoinsTo ls bs

joins_newline : (ls : List (List ℕ)) (bs : List ℕ) → (ls ≡ [] → bs ≡ []) → RejoinsTo ls bs → RejoinsTo ([] ∷ ls) (10 ∷ bs)
joins_newline [] bs n h = inr (ap (λ (x : List ℕ). 10 ∷ x) (sym (n refl)))
joins_newline (l ∷ ls) bs n (inl e) = inl (ap (λ (x : List ℕ). 10 ∷ x) e)
joins_newline (l ∷ ls) bs n (inr e) = inr (ap (λ (x : List ℕ). 10 ∷ x) e)

joins_byte : (b : ℕ) (ls : List (List ℕ)) (bs : List ℕ) → (ls ≡ [] → bs ≡ []) → RejoinsTo ls bs → RejoinsTo (onto_first b ls) (b ∷ bs)
joins_byte b [] bs n h = inl (ap (λ (x : List ℕ). b ∷ x) (sym (n refl)))
joins_byte b (l ∷ []) bs n (inl e) = inl (ap (λ (x : List ℕ). b ∷ x) e)
joins_byte b (l ∷ []) bs n (inr e) = inr (ap (λ (x : List ℕ). b ∷ x) e)
joins_byte b (l ∷ m ∷ ls) bs n (inl e) = inl (ap (λ (x : List ℕ). b ∷ x) e)
joins_byte b (l ∷ m ∷ ls) bs n (inr e) = inr (ap (λ (x : List ℕ). b ∷ x) e)

some_onto : (b : ℕ) (ls : List (List ℕ)) → onto_first b ls ≡ [] → ⊥
some_onto b [] e = cc
some_onto b (l ∷ ls) e = cc

rejoined_next : (b : ℕ) (ls : List (List ℕ)) (bs : List ℕ) (t : Bool) → eqb b 10 ≡ t → Rejoined ls bs → Rejoined (cond t ([] ∷ ls) (onto_first b ls)) (b ∷ bs)
rejoined_next b ls bs true e h = rw (eqb-true b 10 e) (record { none = λ n. absurd cc; joins = joins_newline ls bs h.none h.joins })
rejoined_next b ls bs false e h = record { none = λ n. absurd (some_onto b ls n); joins = joins_byte b ls bs h.none h.joins }

rejoined : (text : List ℕ) → Rejoined (lines_of text) text
unfolding lines_of
rejoined [] = record { none = λ n. refl; joins = inl refl }
rejoined (b ∷ bs) = rejoined_next b (lines_of bs) bs (eqb b 10) refl (rejoined bs)

pub lines_whole : (text : List ℕ) → RejoinsTo (lines_of text) text
lines_whole text = (rejoined text).joins

-- ---- a line fewer is left

pub fewer : (s t line : List ℕ) → lines_of s ≡ line ∷ lines_of t → length (lines_of t) < length (lines_of s)
fewer s t line e = omega (arith, ap length e)

-- ---- what a search for a newline found

pub range_from_start : (xs : List ℕ) (n : ℕ) → slice_range xs 0 n ≡ take n xs
range_from_start xs n = grind arith

pub line_found : (text hay line rest : List ℕ) (at : ℕ) → hay ≡ text → IsFirstByte (is_byte 10) hay (Some at) → line ≡ slice_range text 0 at → rest ≡ drop (at + 1) text → lines_of text ≡ line ∷ lines_of rest
line_found text hay line rest at same found l r =
    let found' = subst (λ (h : List ℕ). IsFirstByte (is_byte 10) h (Some at)) same found in
    let is : get_or text at 0 ≡ 10 = eqb-true _ 10 found'.1 in
    line_at text at found'.0.high is (λ k lt e. found'.0.before k (omega arith) lt (rw e refl))
    ∙ rw (l, r, range_from_start text at) refl

pub line_missed : (text hay : List ℕ) → hay ≡ text → IsFirstByte (is_byte 10) hay None → (length text == 0) ≡ false → lines_of text ≡ text ∷ lines_of []
line_missed text hay same missed some =
    let missed' = subst (λ (h : List ℕ). IsFirstByte (is_byte 10) h None) same missed in
    let ne : length text ≡ 0 → ⊥ = eqb-false (length text) 0 some in
    line_whole text (omega arith) (λ k lt e. missed' k (omega arith) lt (rw e refl))

pub line_empty : (text : List ℕ) → (length text == 0) ≡ true → lines_of text ≡ []
line_empty text none = ap lines_of (nil_from_length text (eqb-true (length text) 0 none)) ∙ line_none

pub boundary : (text hay : List ℕ) (at : ℕ) → IsUtf8 hay → hay ≡ text → IsFirstByte (is_byte 10) hay (Some at) → IsCharBoundary text (at + 1)
boundary text hay at utf8 same found =
    let found' = subst (λ (h : List ℕ). IsFirstByte (is_byte 10) h (Some at)) same found in
    let is : get_or text at 0 ≡ 10 = eqb-true _ 10 found'.1 in
    IsCharBoundary-after_ascii text at (subst IsUtf8 same utf8) found'.0.high (omega arith)
