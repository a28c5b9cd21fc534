-- What comes in a script behind the lines that were executed: nothing, a line, or more than a line or a script may have.
use Rattle.std.proofs.Common.{◌≡◌, ◌⊎◌, ℕ, ◌<◌, ◌≤◌, List, [], ◌∷◌, ◌++◌, length, get_or, All, None, Some, inl, inr, refl, sym, ap, ◌∙◌, arith}
use Rattle.std.proofs.Common.{length-append, append_assoc, append-nil}
use Rattle.std.proofs.Math.ListN.{get_or-append}
use Rattle.std.proofs.Math.Seq.{get_or-append_seam}
use Rattle.std.proofs.lemmas.List.{get_or_default}
use Rattle.std.proofs.lemmas.List.Elements.{All-head, All-tail}
use Rattle.kl_entry.specs.Lines.{HasNo as NoNewline}
use Rattle.kl_script.specs.Words.{HasNo}
use Rattle.kl_script.proofs.Splitting.{same_word}
use Rattle.kl_console.specs.Lines.{IsLine, Comes, IsOverLimit, script_limit, ended}

-- the same notion of a byte that stands nowhere, in the words of kl_script
no_newline : (line : List ℕ) → NoNewline 10 line → HasNo 10 line
no_newline line whole = λ i below here. whole (i, below, get_or_default line i 10 0 below ∙ here)

pub same_line : (line other more others : List ℕ) → NoNewline 10 line → NoNewline 10 other → line ++ 10 ∷ more ≡ other ++ 10 ∷ others
    → (line ≡ other) × (more ≡ others)
same_line line other more others whole also same = same_word 10 line other more others (no_newline line whole) (no_newline other also) same

-- a newline behind a front stands in no bytes without one that reach past it
up_to_newline : (front more bytes rest : List ℕ) → front ++ 10 ∷ more ≡ bytes ++ rest → NoNewline 10 bytes → length bytes ≤ length front
up_to_newline front more bytes rest same whole =
    let out : ¬ (length front < length bytes) = λ below. whole (
      length front,
      below,
      sym (get_or-append bytes rest 10 (length front) below) ∙ ap (λ (all : List ℕ). get_or all (length front) 10) (sym same)
          ∙ get_or-append_seam front 10 more 10,
    ) in
    omega (arith, out)

-- so that a line with its newline is none without
pub not_bare : (bytes line other more : List ℕ) → bytes ≡ line ++ 10 ∷ more → bytes ≡ other → ¬ (NoNewline 10 other)
not_bare bytes line other more ended bare whole =
    let short = up_to_newline line more other [] (sym ended ∙ bare ∙ sym (append-nil other)) whole in
    let long = ap (λ (all : List ℕ). length all) (sym ended ∙ bare) in
    omega (arith, short, long, length-append line (10 ∷ more))

module _ (offset : ℕ) (bytes : List ℕ) where
  -- where nothing is left no line comes
  pub nothing_comes : (line : List ℕ) → bytes ≡ [] → ¬ (Comes offset None bytes line)
  nothing_comes line none (inl (more, is)) = omega (arith, ap (λ (all : List ℕ). length all) (sym is.parts ∙ none), length-append line (10 ∷ more))
  nothing_comes line none (inr (is, bare)) = bare.some (sym is ∙ none)

  -- and no limit is passed
  pub nothing_over : bytes ≡ [] → offset ≤ script_limit → ¬ (IsOverLimit offset bytes)
  nothing_over none fits (inl (long, more, parts, much)) =
      omega (arith, much.long, length-append long more, ap (λ (all : List ℕ). length all) (sym parts ∙ none))
  nothing_over none fits (inr (part, byte, more, parts, whole, long)) =
      omega (arith, length-append part (byte ∷ more), ap (λ (all : List ℕ). length all) (sym parts ∙ none))

  -- one line comes
  pub one_comes : (line other : List ℕ) → Comes offset None bytes line → Comes offset None bytes other → line ≡ other
  one_comes line other (inl (more, is)) (inl (others, also)) =
      (same_line line other more others is.is_line.whole also.is_line.whole (sym is.parts ∙ also.parts)).0
  one_comes line other (inl (more, is)) (inr (also, bare)) = absurd (not_bare bytes line other more is.parts also bare.part.is_line.whole)
  one_comes line other (inr (is, bare)) (inl (others, also)) = absurd (not_bare bytes other line others also.parts is bare.part.is_line.whole)
  one_comes line other (inr (is, bare)) (inr (also, _)) = sym is ∙ also

  -- a line that comes passes no limit
  pub comes_within : (line : List ℕ) → Comes offset None bytes line → ¬ (IsOverLimit offset bytes)
  comes_within line (inl (more, is)) (inl (long, others, parts, much)) =
      omega (arith, is.is_line.short, much.long, up_to_newline line more long others (sym is.parts ∙ parts) much.whole)
  comes_within line (inl (more, is)) (inr (part, byte, others, parts, whole, long)) =
      omega (arith, long, up_to_newline line more part (byte ∷ others) (sym is.parts ∙ parts) whole, is.fits)
  comes_within line (inr (is, bare)) (inl (long, others, parts, much)) =
      omega (arith, bare.part.is_line.short, much.long, length-append long others, ap (λ (all : List ℕ). length all) (sym is ∙ parts))
  comes_within line (inr (is, bare)) (inr (part, byte, others, parts, whole, long)) =
      omega (arith, long, bare.part.fits, length-append part (byte ∷ others), ap (λ (all : List ℕ). length all) (sym is ∙ parts))

-- ---- however far was read ahead

pub comes_on : (offset : ℕ) (left : List ℕ) (bytes line : List ℕ) → Comes offset (Some left) bytes line → Comes offset None (bytes ++ left) line
comes_on offset left bytes line (inl (more, is)) = inl (
  more ++ left,
  record {
    parts = ap (λ (all : List ℕ). all ++ left) is.parts ∙ append_assoc line (10 ∷ more) left;
    is_line = is.is_line;
    fits = is.fits;
  },
)
comes_on offset left bytes line (inr (is, bare)) = inr (
  ap (λ (more : List ℕ). bytes ++ more) bare.at_end ∙ append-nil bytes ∙ is,
  record { some = bare.some; part = bare.part; at_end = tt },
)

pub over_on : (offset : ℕ) (left bytes : List ℕ) → IsOverLimit offset bytes → IsOverLimit offset (bytes ++ left)
over_on offset left bytes (inl (long, more, parts, much)) =
    inl (long, more ++ left, ap (λ (all : List ℕ). all ++ left) parts ∙ append_assoc long more left, much)
over_on offset left bytes (inr (part, byte, more, parts, whole, long)) =
    inr (part, byte, more ++ left, ap (λ (all : List ℕ). all ++ left) parts ∙ append_assoc part (byte ∷ more) left, whole, long)

-- ---- of two cuts of one script into lines and a rest the one goes on where the other ends

-- the second has the lines of the first, and more
pub record GoesFurther (lines others : List (List ℕ)) (rest bytes : List ℕ) : Type 0 where
  pub more : List (List ℕ)
  pub lines_are : others ≡ lines ++ more
  pub rest_is : rest ≡ ended more ++ bytes

pub first_line : (line : List ℕ) (lines : List (List ℕ)) (rest : List ℕ) → ended (line ∷ lines) ++ rest ≡ line ++ 10 ∷ (ended lines ++ rest)
first_line line lines rest = append_assoc line (10 ∷ ended lines) rest

further : (line other : List ℕ) (lines others : List (List ℕ)) (rest bytes : List ℕ) → line ≡ other → GoesFurther lines others rest bytes
    → GoesFurther (line ∷ lines) (other ∷ others) rest bytes
further line other lines others rest bytes same f = record {
  more = f.more;
  lines_are = ap (λ (l : List ℕ). l ∷ others) (sym same) ∙ ap (λ (ls : List (List ℕ)). line ∷ ls) f.lines_are;
  rest_is = f.rest_is;
}

pub either_further : (lines others : List (List ℕ)) (rest bytes : List ℕ) → All IsLine lines → All IsLine others → ended lines ++ rest ≡ ended others ++ bytes
    → GoesFurther lines others rest bytes ⊎ GoesFurther others lines bytes rest
either_further [] others rest bytes each also same = inl (record { more = others; lines_are = refl; rest_is = same })
either_further (l ∷ lines) [] rest bytes each also same = inr (record { more = l ∷ lines; lines_are = refl; rest_is = sym same })
either_further (l ∷ lines) (o ∷ others) rest bytes each also same =
    let whole = All-head IsLine l lines each in
    let as_whole = All-head IsLine o others also in
    let cut = same_line l o (ended lines ++ rest) (ended others ++ bytes) whole.whole as_whole.whole
    (sym (first_line l lines rest) ∙ same ∙ first_line o others bytes) in
    elim (either_further lines others rest bytes (All-tail IsLine l lines each) (All-tail IsLine o others also) cut.1) [
      | inl f ↦ inl (further l o lines others rest bytes cut.0 f)
      | inr f ↦ inr (further o l others lines bytes rest (sym cut.0) f)
    ]
