-- A text has its three parts in one way alone, so it is the quote of one triple, and has no fault then.
use Rattle.std.proofs.Common.{◌≡◌, ◌≢◌, ℕ, zero, suc, ◌+◌, List, [], ◌∷◌, ◌++◌, refl, sym, ap, ◌∙◌, arith}
use Rattle.std.proofs.lemmas.List.{append_assoc}
use Rattle.std.specs.List.{AllByRecursion}
use Rattle.std.specs.Result.{IfOk}
use Rattle.std.specs.declared.result.Result.{Result}
use Rattle.std.specs.declared.result.Result.TheVariants.{Ok, Err}
use Rattle.kl_quote.specs.declared.quote.Quote.{Quote}
use Rattle.kl_quote.specs.declared.quote.QuoteFault.{QuoteFault}
use Rattle.kl_quote.specs.declared.quote.QuoteFault.TheVariants.{Form, Memory}
use Rattle.kl_quote.specs.QuoteText.{ReadsAs, base64, text_of_parts, colons, HasForm, AreParts, IsBase64, IsQuoteText, IsFirstBad, IsFormFault}
use Rattle.kl_quote.proofs.Colons.{colons-append, colons_after, colons_other, cut_unique}
use Rattle.kl_quote.proofs.Encoding.{colons-base64, base64_unique}

abbrev after_r : List ℕ → List ℕ → List ℕ → List ℕ
after_r first second third = first ++ (58 ∷ (second ++ (58 ∷ third)))

pub grouped : (a b c : List ℕ) → text_of_parts a b c ≡ 114 ∷ after_r a b c
grouped a b c = simp append_assoc

pub parts_unique : (text a b c d e f : List ℕ) → AreParts text a b c → AreParts text d e f → (a ≡ d) × (b ≡ e) × (c ≡ f)
parts_unique text a b c d e f p q =
    let whole = sym (grouped a b c) ∙ sym p.joined ∙ q.joined ∙ grouped d e f in
    let tails : after_r a b c ≡ after_r d e f = cc whole in
    let first = cut_unique a (b ++ (58 ∷ c)) d (e ++ (58 ∷ f)) p.first_whole q.first_whole tails in
    let second = cut_unique b c e f p.second_whole q.second_whole first.1 in
    (first.0, second.0, second.1)

-- the colons of a text, by what it begins with
pub colons_behind_r : (text rest : List ℕ) → text ≡ 114 ∷ rest → colons text ≡ colons rest
colons_behind_r text rest e =
    let other : 114 ≢ 58 = omega arith in
    rw e (colons_other 114 rest other)

pub colons_cut : (text front back : List ℕ) → text ≡ front ++ (58 ∷ back) → colons text ≡ colons front + (1 + colons back)
colons_cut text front back e =
    rw e (colons-append front (58 ∷ back) ∙ ap (λ n. colons front + n) (colons_after back))

pub parts_form : (text a b c : List ℕ) → AreParts text a b c → HasForm text
parts_form text a b c p =
    let whole = p.joined ∙ grouped a b c in
    let all = colons_behind_r text (after_r a b c) whole in
    let first = colons_cut (after_r a b c) a (b ++ (58 ∷ c)) refl in
    let second = colons_cut (b ++ (58 ∷ c)) b c refl in
    (after_r a b c, whole, omega (arith, all, first, second, p.first_whole, p.second_whole, p.third_whole))

quote_parts : (text a s v : List ℕ) → IsQuoteText text a s v → AreParts text (base64 a) (base64 s) (base64 v)
quote_parts text a s v q = record {
  joined = q.spelled;
  first_whole = colons-base64 a;
  second_whole = colons-base64 s;
  third_whole = colons-base64 v;
}

-- the parts of a quote's text are base64
pub quote_encoded : (text a s v first second third : List ℕ) → IsQuoteText text a s v → AreParts text first second third → IsBase64 first × IsBase64 second × IsBase64 third
quote_encoded text a s v first second third q p =
    let same = parts_unique text first second third (base64 a) (base64 s) (base64 v) p (quote_parts text a s v q) in
    ((a, (q.attest_bytes, same.0)), (s, (q.signature_bytes, same.1)), (v, (q.value_bytes, same.2)))

-- what a text is the quote of
pub quote_unique : (text a s v b t w : List ℕ) → IsQuoteText text a s v → IsQuoteText text b t w → (a ≡ b) × (s ≡ t) × (v ≡ w)
quote_unique text a s v b t w p q =
    let same = parts_unique text (base64 a) (base64 s) (base64 v) (base64 b) (base64 t) (base64 w) (quote_parts text a s v p) (quote_parts text b t w q) in (
      base64_unique a b p.attest_bytes q.attest_bytes same.0,
      base64_unique s t p.signature_bytes q.signature_bytes same.1,
      base64_unique v w p.value_bytes q.value_bytes same.2,
    )

-- parts that are all base64 have none that is bad
none_bad : (parts : List (List ℕ)) → AllByRecursion IsBase64 parts → (place : ℕ) → ¬ IsFirstBad parts place
none_bad [] each place bad = bad
none_bad (part ∷ parts) each zero bad = bad each.0
none_bad (part ∷ parts) each (suc place) bad = none_bad parts each.1 place bad.1

-- a quote's text has no fault
pub quote_faultless : (text a s v : List ℕ) (part : ℕ) → IsQuoteText text a s v → ¬ IsFormFault text part
quote_faultless text a s v zero q fault = fault (parts_form text _ _ _ (quote_parts text a s v q))
quote_faultless text a s v (suc place) q (b, t, w, parts, bad) =
    let encoded = quote_encoded text a s v b t w q parts in
    none_bad (b ∷ t ∷ w ∷ []) (encoded.0, (encoded.1, (encoded.2, tt))) place bad

-- what reading answered about a quote's text, if it answers no other quote and no false fault
pub only_from : (text : List ℕ) (r : Result Quote QuoteFault) → IfOk r (λ q. IsQuoteText text q.attest q.signature q.pcrs)
    → ((part : ℕ) → r ≡ Err (Form part) → IsFormFault text part) → (a s v : List ℕ) → IsQuoteText text a s v → ReadsAs r a s v
only_from text (Ok q) found fault a s v quote =
    quote_unique text q.attest q.signature q.pcrs a s v found quote
only_from text (Err (Form part)) found fault a s v quote =
    quote_faultless text a s v part quote (fault part refl)
only_from text (Err Memory) found fault a s v quote = tt
