-- A text has one fault at most, and where it has none it is the text of a quote.
use Rattle.std.proofs.Common.{◌≡◌, ℕ, zero, suc, ◌≤◌, List, [], ◌∷◌, ◌++◌, refl, sym, ap, ◌∙◌, subst, arith, inl, inr}
use Rattle.std.proofs.lemmas.Bool.{cases_eq}
use Rattle.std.specs.Result.{IfOk}
use Rattle.std.specs.declared.result.Result.{Result}
use Rattle.std.specs.declared.result.Result.TheVariants.{Ok, Err}
use Rattle.kl_quote.specs.declared.quote.Quote.{Quote}
use Rattle.kl_quote.specs.declared.quote.QuoteFault.{QuoteFault}
use Rattle.kl_quote.specs.declared.quote.QuoteFault.TheVariants.{Form, Memory}
use Rattle.kl_quote.specs.QuoteText.{colons, text_of_parts, HasForm, AreParts, IsBase64Of, IsBase64, IsQuoteText, IsFirstBad, IsFormFault, FailsAs}
use Rattle.kl_quote.proofs.Colons.{colons_other}
use Rattle.kl_quote.proofs.Splitting.{colons_behind_r, colons_cut, grouped, parts_form, parts_unique, quote_faultless}

-- ---- one fault at most

-- one part at most is the first that is bad
one_place : (parts : List (List ℕ)) (m n : ℕ) → IsFirstBad parts m → IsFirstBad parts n → m ≡ n
one_place [] m n f g = absurd f
one_place (part ∷ parts) zero zero f g = refl
one_place (part ∷ parts) zero (suc n) f g = absurd (f g.0)
one_place (part ∷ parts) (suc m) zero f g = absurd (g f.0)
one_place (part ∷ parts) (suc m) (suc n) f g = ap suc (one_place parts m n f.1 g.1)

pub one_form_fault : (text : List ℕ) (p q : ℕ) → IsFormFault text p → IsFormFault text q → p ≡ q
one_form_fault text zero zero f g = refl
one_form_fault text zero (suc n) f (a, b, c, parts, bad) = absurd (f (parts_form text a b c parts))
one_form_fault text (suc m) zero (a, b, c, parts, bad) g = absurd (g (parts_form text a b c parts))
one_form_fault text (suc m) (suc n) (a, b, c, parts, bad) (d, e, f, others, worse) =
    let same = parts_unique text d e f a b c others parts in
    let all : d ∷ e ∷ f ∷ [] ≡ a ∷ b ∷ c ∷ [] = cc in
    ap suc (one_place (a ∷ b ∷ c ∷ []) m n bad (subst (λ (ps : List (List ℕ)). IsFirstBad ps n) all worse))

-- what reading answered about a text with a fault, if it answers no other quote and no false fault
pub alone_from : (text : List ℕ) (r : Result Quote QuoteFault) → IfOk r (λ q. IsQuoteText text q.attest q.signature q.pcrs)
    → ((part : ℕ) → r ≡ Err (Form part) → IsFormFault text part) → (part : ℕ) → IsFormFault text part → FailsAs r part
alone_from text (Ok q) found fault part bad = quote_faultless text q.attest q.signature q.pcrs part found bad
alone_from text (Err (Form other)) found fault part bad = one_form_fault text other part (fault other refl) bad
alone_from text (Err Memory) found fault part bad = tt

-- a text that was told as want of memory has the form
pub formless_from : (text : List ℕ) (r : Result Quote QuoteFault) → IfOk r (λ q. IsQuoteText text q.attest q.signature q.pcrs)
    → ((part : ℕ) → r ≡ Err (Form part) → IsFormFault text part) → (r ≡ Err Memory → HasForm text) → ¬ HasForm text → r ≡ Err (Form 0)
formless_from text (Ok q) found fault memory none = absurd (quote_faultless text q.attest q.signature q.pcrs 0 found none)
formless_from text (Err (Form part)) found fault memory none =
    let same : part ≡ 0 = one_form_fault text part 0 (fault part refl) none in
    ap (λ (p : ℕ). let r : Result Quote QuoteFault = Err (Form p) in r) same
formless_from text (Err Memory) found fault memory none = absurd (none (memory refl))

-- ---- a text without a fault

-- a text is cut at its first colon
first_colon : (text : List ℕ) → 1 ≤ colons text → (a : List ℕ) × (b : List ℕ) × (text ≡ a ++ 58 ∷ b) × (colons a ≡ 0)
first_colon [] some = absurd (omega (arith, some))
first_colon (x ∷ xs) some = elim (cases_eq x 58) [
  | inl same ↦ ([], xs, ap (λ (b : ℕ). b ∷ xs) same, refl)
  | inr other ↦
      let more : 1 ≤ colons xs = omega (arith, some, colons_other x xs other) in
      let (a, b, cut, none) = first_colon xs more in
      (x ∷ a, b, ap (λ (bs : List ℕ). x ∷ bs) cut, colons_other x a other ∙ none)
]

-- a text that is cut twice
cut_twice : (text rest a more b c : List ℕ) → text ≡ 114 ∷ rest → rest ≡ a ++ 58 ∷ more → more ≡ b ++ 58 ∷ c → text ≡ text_of_parts a b c
cut_twice text rest a more b c begins first second = rw (begins, first, second) (sym (grouped a b c))

-- a text of the form has its three parts
form_parts : (text : List ℕ) → HasForm text → (a : List ℕ) × (b : List ℕ) × (c : List ℕ) × AreParts text a b c
form_parts text (rest, begins, two) =
    let all = colons_behind_r text rest begins in
    let (a, more, first, no_first) = first_colon rest (omega (arith, all, two)) in
    let left = colons_cut rest a more first in
    let (b, c, second, no_second) = first_colon more (omega (arith, all, two, left, no_first)) in
    let last = colons_cut more b c second in
    let none_left : colons c ≡ 0 = omega (arith, all, two, left, no_first, last, no_second) in
    (a, b, c, record { joined = cut_twice text rest a more b c begins first second; first_whole = no_first; second_whole = no_second; third_whole = none_left })

-- parts that are base64 make a quote
parts_quote : (text a b c x y z : List ℕ) → AreParts text a b c → IsBase64Of a x → IsBase64Of b y → IsBase64Of c z → IsQuoteText text x y z
parts_quote text a b c x y z parts first second third =
    record { attest_bytes = first.0; signature_bytes = second.0; value_bytes = third.0; spelled = parts.joined ∙ rw (first.1, second.1, third.1) refl }

-- a text that has none of the faults is, not to be denied, a quote's
pub faultless_quote : (text : List ℕ) → ((part : ℕ) → ¬ (IsFormFault text part)) → ¬ ((a s v : List ℕ) → ¬ (IsQuoteText text a s v))
faultless_quote text faultless none = faultless 0 (λ form.
    let (a, b, c, parts) = form_parts text form in
    let one : ¬ (¬ (IsBase64 a)) = λ bad. faultless 1 (a, b, c, parts, bad) in
    let two : IsBase64 a → ¬ (¬ (IsBase64 b)) = λ first bad. faultless 2 (a, b, c, parts, (first, bad)) in
    let three : IsBase64 a → IsBase64 b → ¬ (¬ (IsBase64 c)) = λ first second bad. faultless 3 (a, b, c, parts, (first, (second, bad))) in
    one (λ first. two first (λ second. three first second (λ third. none first.0 second.0 third.0 (parts_quote text a b c first.0 second.0 third.0 parts first.1 second.1 third.1)))))
