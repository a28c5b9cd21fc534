-- Lines that were executed, and one more.
use Rattle.std.proofs.Common.{◌≡◌, ◌≤◌, ◌+◌, ℕ, List, [], ◌∷◌, ◌++◌, length, refl, sym, subst, ap, ◌∙◌, arith, append_assoc, append-nil, length-append}
use Rattle.std.specs.Prelude.{sum_by}
use Rattle.std.specs.List.{concat, AllZip}
use Rattle.std.proofs.lemmas.List.Elements.{All-nil, All-push}
use Rattle.std.proofs.lemmas.List.Sums.{sum_by-append}
use Rattle.std.proofs.lemmas.List.Folds.{concat-append}
use Rattle.kl_script.specs.Commands.{CommandFields, Spells}
use Rattle.kl_session.specs.Outside.{Outside}
use Rattle.kl_session.specs.Calls.{SessionFields, empty}
use Rattle.kl_session.specs.Session.{Does, Follows}
use Rattle.kl_console.specs.Lines.{IsLine, ended, script_limit}
use Rattle.kl_console.specs.Script.{Executed, offset_of, puts_of}

pub Follows-more : (o mid o' : Outside) (s : SessionFields) (commands : List CommandFields) (texts : List (List ℕ)) (last : SessionFields) (c : CommandFields) (text : List ℕ) (next : SessionFields)
    → Follows o mid s commands texts last → Does mid o' last c next text → Follows o o' s (commands ++ c ∷ []) (texts ++ text ∷ []) next
Follows-more o mid o' s [] [] last c text next (same, at) does =
    (o', next, subst (λ (k : Outside). Does k o' s c next text) same (subst (λ (x : SessionFields). Does mid o' x c next text) at does), (refl, refl))
Follows-more o mid o' s [] (t ∷ texts) last c text next h does = absurd h
Follows-more o mid o' s (d ∷ commands) [] last c text next h does = absurd h
Follows-more o mid o' s (d ∷ commands) (t ∷ texts) last c text next (then, after, first, rest) does =
    (then, after, first, Follows-more then mid o' after commands texts last c text next rest does)

pub AllZip-more : {A B : Type 0} (R : A → B → Type 0) (xs : List A) (ys : List B) (x : A) (y : B) → AllZip R xs ys → R x y → AllZip R (xs ++ x ∷ []) (ys ++ y ∷ [])
AllZip-more R [] [] x y h r = (r, tt)
AllZip-more R [] (b ∷ ys) x y h r = absurd h
AllZip-more R (a ∷ xs) [] x y h r = absurd h
AllZip-more R (a ∷ xs) (b ∷ ys) x y h r = (h.0, AllZip-more R xs ys x y h.1 r)

-- ---- the bytes of the lines

pub ended-more : (lines : List (List ℕ)) (line rest : List ℕ) → ended (lines ++ line ∷ []) ++ rest ≡ ended lines ++ (line ++ 10 ∷ rest)
ended-more [] line rest = append_assoc line (10 ∷ []) rest
ended-more (l ∷ lines) line rest =
    append_assoc l (10 ∷ ended (lines ++ line ∷ [])) rest ∙ ap (λ (t : List ℕ). l ++ 10 ∷ t) (ended-more lines line rest)
    ∙ sym (append_assoc l (10 ∷ ended lines) (line ++ 10 ∷ rest))

pub ended-length : (lines : List (List ℕ)) (line : List ℕ) → length (ended (lines ++ line ∷ [])) ≡ length (ended lines) + length line + 1
ended-length lines line =
    let whole = ap length (sym (append-nil (ended (lines ++ line ∷ []))) ∙ ended-more lines line []) in
    omega (arith, whole, length-append (ended lines) (line ++ 10 ∷ []), length-append line (10 ∷ []))

-- each line takes its newline at least
pub ended-least : (lines : List (List ℕ)) → length lines ≤ length (ended lines)
ended-least [] = omega arith
ended-least (line ∷ lines) = omega (arith, ended-least lines, length-append line (10 ∷ ended lines))

-- ---- their texts

pub concat-more : (texts : List (List ℕ)) (text : List ℕ) → concat (texts ++ text ∷ []) ≡ concat texts ++ text
concat-more texts text = concat-append texts (text ∷ []) ∙ ap (λ (t : List ℕ). concat texts ++ t) (append-nil text)

one_text : (text : List ℕ) → sum_by puts_of (text ∷ []) ≡ puts_of text
one_text [] = refl
one_text (byte ∷ bytes) = refl

pub count-more : (texts : List (List ℕ)) (text : List ℕ) → sum_by puts_of (texts ++ text ∷ []) ≡ sum_by puts_of texts + puts_of text
count-more texts text = sum_by-append puts_of texts (text ∷ []) ∙ ap (λ (n : ℕ). sum_by puts_of texts + n) (one_text text)

-- ---- one line more

abbrev pub executed_more : (o mid o' : Outside) (e : Executed o mid) (line : List ℕ) (c : CommandFields) (next : SessionFields) (text : List ℕ) → IsLine line → offset_of e + length line + 1 ≤ script_limit
    → Spells line c → Does mid o' e.last c next text → Executed o o'
executed_more o mid o' e line c next text whole fits spelled does = record {
  lines = e.lines ++ line ∷ [];
  each = All-push IsLine e.lines line e.each whole;
  fits = omega (arith, fits, ended-length e.lines line);
  commands = e.commands ++ c ∷ [];
  spelled = AllZip-more Spells e.lines e.commands line c e.spelled spelled;
  texts = e.texts ++ text ∷ [];
  last = next;
  follows = Follows-more o mid o' empty e.commands e.texts e.last c text next e.follows does;
}

-- the same lines, where the outside tells the same
abbrev pub under : (o mid o' : Outside) → Executed o mid → o' ≡ mid → Executed o o'
under o mid o' e same = record {
  lines = e.lines;
  each = e.each;
  fits = e.fits;
  commands = e.commands;
  spelled = e.spelled;
  texts = e.texts;
  last = e.last;
  follows = subst (λ (k : Outside). Follows o k empty e.commands e.texts e.last) (sym same) e.follows;
}

-- no line yet
abbrev pub none_executed : (o : Outside) → Executed o o
none_executed o = record { lines = []; each = All-nil IsLine; fits = omega arith; commands = []; spelled = tt; texts = []; last = empty; follows = (refl, refl) }
