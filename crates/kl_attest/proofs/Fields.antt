-- Readers of one field, and of bytes behind their length.
use Rattle.std.proofs.Common.{◌≡◌, ◌≢◌, ℕ, ◌+◌, ◌%◌, ◌^◌, ◌<◌, ◌≤◌, Bool, true, false, cond, ltb, ◌⊎◌, List, [], ◌∷◌, ◌++◌, length, get_or, take, drop, replicate, Option, Some, None, Result, Ok, Err, refl, sym, ap, subst, ◌∙◌, arith, inl, inr}
use Rattle.std.specs.Int.{Width, w8, w16, w32, w64, byte_len, from_be_bytes, to_be_bytes}
use Rattle.std.proofs.lemmas.Bool.{cases_lt, cases_eq, le-ltb, lt-ltb, eq-eqb, ne_eqb}
use Rattle.std.proofs.lemmas.List.{append-nil, take_at, drop_at, take-append-drop, length-append, length-take, length-replicate, get_or-replicate, get_or-take, get_or-drop, get_or_past}
use Rattle.std.proofs.lemmas.Nat.{be_bytes_2, be_bytes_4, be_bytes_8, from_be_bytes-to_be_bytes_2, from_be_bytes-to_be_bytes_4, from_be_bytes-to_be_bytes_8}
use Rattle.kl_base.specs.Bytes.{IsBytes}
use Rattle.kl_attest.specs.declared.fault.AttestFault.{AttestFault}
use Rattle.kl_attest.specs.declared.fault.AttestFault.TheVariants.{Short, Safe}
use Rattle.kl_attest.specs.Grammar.{Field, IsSized, field_text, joined, number, counted}
use Rattle.kl_attest.specs.Grammar.Field.{Free, Fixed, YesNo}
use Rattle.kl_attest.specs.FirstFault.{size_of, Differs, Misfits}
use Rattle.kl_attest.specs.Inner.Reading.{◌>>=◌, Place, Reader, moved, valued, bytes_at, number_at, known_at, only, yes_or_no, flag_at, counted_at}
use Rattle.kl_attest.proofs.Readers.{bind_ok, bind_err, ok_is, cons_is, no_field, Took, Got, Breaks, IsReader, followed_reads, said_reads}

-- ---- Lists of bytes

IsBytes-drop : (n : ℕ) (bytes : List ℕ) → IsBytes bytes → IsBytes (drop n bytes)
IsBytes-drop n bytes h i = rw get_or-drop (h (n + i))

IsBytes-take : (n : ℕ) (bytes : List ℕ) → IsBytes bytes → IsBytes (take n bytes)
IsBytes-take n bytes h i =
    elim (cases_lt i n) [
      | inl lt ↦ rw (get_or-take n bytes i 0 lt) (h i)
      | inr le ↦ rw (get_or_past (take n bytes) i 0 (omega (arith, length-take n bytes))) (omega arith)
    ]

IsBytes-zeros : (n : ℕ) → IsBytes (replicate n 0)
IsBytes-zeros n i =
    let z : ℕ = 0 in
    elim (cases_lt i n) [
      | inl lt ↦ rw (get_or-replicate {A = ℕ} n i 0 0 lt) (omega arith)
      | inr le ↦ rw (get_or_past (replicate n z) i z (omega (arith, length-replicate n z))) (omega arith)
    ]

-- ---- One field

-- as many bytes as a field has, which are found to be a value or a fault
abbrev judged : {C : Type 0} → ℕ → (List ℕ → Result C AttestFault) → Reader C
judged n judge p = cond (ltb (length p.rest) n) (Err (Short p.at)) (judge (take n p.rest) >>= λ c. Ok (c, moved n p))

-- The bytes that are found to be a value are the text of its field, and those that are none differ from a field so.
record IsJudge (C : Type 0) (n : ℕ) (judge : List ℕ → Result C AttestFault) (field : C → Field) (Fits : C → Type 0) : Type 0 where
  pub some : (c : C) × Fits c
  pub sized : (c : C) → Fits c → size_of (field c) ≡ n
  pub taken : (bytes : List ℕ) (c : C) → length bytes ≡ n → IsBytes bytes → judge bytes ≡ Ok c → (field_text (field c) ≡ bytes) × Fits c
  pub again : (c : C) → Fits c → judge (field_text (field c)) ≡ Ok c
  pub refused : (bytes : List ℕ) (f : AttestFault) → length bytes ≡ n → IsBytes bytes → judge bytes ≡ Err f → (c : C) × Fits c × Differs (field c) bytes f
  pub differs : (bytes : List ℕ) (f : AttestFault) (c : C) → length bytes ≡ n → IsBytes bytes → Fits c → Differs (field c) bytes f → judge bytes ≡ Err f

alone_is : (x : Field) (before : List Field) (y : Field) (after : List Field) → (x ∷ []) ≡ before ++ y ∷ after → (before ≡ []) × (y ≡ x)
alone_is x [] y after e = (refl, sym (cons_is x y [] after e).0)
alone_is x (b ∷ before) y after e = absurd (no_field before y after (cons_is x b [] (before ++ y ∷ after) e).1)

module _ {C : Type 0} {n : ℕ} {judge : List ℕ → Result C AttestFault} {field : C → Field} {Fits : C → Type 0} (is : IsJudge C n judge field Fits) where
  short_is : (p : Place) → length p.rest < n → judged n judge p ≡ Err (Short p.at)
  short_is p lt = rw (lt-ltb (length p.rest) n lt) refl

  long_is : (p : Place) → n ≤ length p.rest → judged n judge p ≡ (judge (take n p.rest) >>= λ c. Ok (c, moved n p))
  long_is p le = rw (le-ltb (length p.rest) n le) refl

  front_len : (p : Place) → n ≤ length p.rest → length (take n p.rest) ≡ n
  front_len p le = omega (arith, length-take n p.rest)

  one_text : (c : C) → joined (field c ∷ []) ≡ field_text (field c)
  one_text c = append-nil (field_text (field c))

  one_takes : (p : Place) (x : C × Place) → IsBytes p.rest → judged n judge p ≡ Ok x → Took p (field x.0 ∷ []) x.1 × Fits x.0
  one_takes p x fits e =
      elim (cases_lt (length p.rest) n) [
        | inl lt ↦ absurd (let bad = sym (short_is p lt) ∙ e in cc)
        | inr le ↦
            let b = bind_ok (judge (take n p.rest)) (λ c. Ok (c, moved n p)) x (sym (long_is p le) ∙ e) in
            let (text, ok) = is.taken (take n p.rest) b.0 (front_len p le) (IsBytes-take n p.rest fits) b.1 in
            let whole = one_text b.0 ∙ text in
            let took : Took p (field b.0 ∷ []) (moved n p) = record {
              parts = sym (take-append-drop n p.rest) ∙ ap (λ (t : List ℕ). t ++ drop n p.rest) (sym whole);
              at = omega (arith, ap length whole, front_len p le);
              rest_fits = IsBytes-drop n p.rest fits;
            } in
            subst (λ (y : C × Place). Took p (field y.0 ∷ []) y.1 × Fits y.0) (ok_is (b.0, moved n p) x b.2) (took, ok)
      ]

  one_again : (c : C) (rest : List ℕ) (p : Place) → Fits c → p.rest ≡ joined (field c ∷ []) ++ rest → Got C (judged n judge p) c p (field c ∷ []) rest
  one_again c rest p fits e =
      let text : List ℕ = field_text (field c) in
      let here : p.rest ≡ text ++ rest = e ∙ ap (λ (t : List ℕ). t ++ rest) (one_text c) in
      let len : length text ≡ n = is.sized c fits in
      let front : take n p.rest ≡ text = ap (take n) here ∙ take_at text rest n len in
      let le : n ≤ length p.rest = omega (arith, len, ap length here, length-append text rest) in
      record {
        to = moved n p;
        is = long_is p le ∙ rw (front, is.again c fits) refl;
        left = ap (drop n) here ∙ drop_at text rest n len;
        at = omega (arith, ap length (one_text c), len);
      }

  one_fault : (p : Place) (f : AttestFault) → IsBytes p.rest → judged n judge p ≡ Err f → Breaks C (λ c. field c ∷ []) Fits p f
  one_fault p f fits e =
      let breaks : (c : C) → Fits c → Misfits (field c) p.at p.rest f → Breaks C (λ c. field c ∷ []) Fits p f = λ c ok misfit.
      let place : p.at ≡ p.at + 0 = omega arith in
      record { value = c; fits = ok; before = []; field = field c; after = []; is = refl; rest = p.rest; parts = refl; misfit = subst (λ (k : ℕ). Misfits (field c) k p.rest f) place misfit } in
      elim (cases_lt (length p.rest) n) [
        | inl lt ↦
            let size = is.sized is.some.0 is.some.1 in
            let same : f ≡ Short p.at = let both = sym (short_is p lt) ∙ e in cc in
            breaks is.some.0 is.some.1 (inl (omega (arith, lt, size), same))
        | inr le ↦
            let bytes : List ℕ = take n p.rest in
            elim (bind_err (judge bytes) (λ c. Ok (c, moved n p)) f (sym (long_is p le) ∙ e)) [
              | inl refused ↦
                  let (c, ok, differs) = is.refused bytes f (front_len p le) (IsBytes-take n p.rest fits) refused in
                  let size = is.sized c ok in
                  breaks c ok (inr (omega (arith, le, size), subst (λ (k : ℕ). Differs (field c) (take k p.rest) f) (sym size) differs))
              | inr made ↦ absurd (let bad = made.2 in cc)
            ]
      ]

  one_cut : (p : Place) (f : AttestFault) → IsBytes p.rest → Breaks C (λ c. field c ∷ []) Fits p f → judged n judge p ≡ Err f
  one_cut p f fits b =
      let c : C = b.value in
      let size : size_of (field c) ≡ n = is.sized c b.fits in
      let h = alone_is (field c) b.before b.field b.after b.is in
      let parts : p.rest ≡ b.rest = b.parts ∙ ap (λ (fields : List Field). joined fields ++ b.rest) h.0 in
      let place : p.at + length (joined b.before) ≡ p.at = ap (λ (fields : List Field). p.at + length (joined fields)) h.0 ∙ omega arith in
      let one = subst (λ (x : Field). Misfits x (p.at + length (joined b.before)) b.rest f) h.1 b.misfit in
      let two = subst (λ (k : ℕ). Misfits (field c) k b.rest f) place one in
      elim (subst (λ (r : List ℕ). Misfits (field c) p.at r f) (sym parts) two) [
        | inl short ↦ short_is p (omega (arith, short.0, size)) ∙ ap (λ (d : AttestFault). let r : Result (C × Place) AttestFault = Err d in r) (sym short.1)
        | inr long ↦
            let le : n ≤ length p.rest = omega (arith, long.0, size) in
            let differs = subst (λ (k : ℕ). Differs (field c) (take k p.rest) f) size long.1 in
            long_is p le ∙ rw (is.differs (take n p.rest) f c (front_len p le) (IsBytes-take n p.rest fits) b.fits differs) refl
      ]

  one_reads : IsReader C (judged n judge) (λ c. field c ∷ []) Fits
  one_reads = record { some = is.some; takes = one_takes; again = one_again; fault = one_fault; cut = one_cut }

-- ---- Bytes

pub bytes_reads : (n : ℕ) → IsReader (List ℕ) (bytes_at n) (λ x. Free x ∷ []) (λ x. (length x ≡ n) × IsBytes x)
unfolding bytes_at
bytes_reads n =
    let zero_byte : ℕ = 0 in
    one_reads {judge = λ bytes. Ok bytes} {field = λ x. Free x} (
    record {
      some = (replicate n 0, (length-replicate n zero_byte, IsBytes-zeros n));
      sized = λ x fits. fits.0;
      taken = λ bytes x len each e. let same = ok_is bytes x e in (sym same, subst (λ (y : List ℕ). (length y ≡ n) × IsBytes y) same (len, each));
      again = λ x fits. refl;
      refused = λ bytes f len each e. absurd cc;
      differs = λ bytes f x len each fits bad. absurd bad;
    }
    )

-- ---- Numbers

pub record IsWide (w : Width) (limit : ℕ) : Type 0 where
  pub some : 0 < limit
  pub len : (n : ℕ) → length (to_be_bytes w n) ≡ byte_len w
  pub back : (bytes : List ℕ) → length bytes ≡ byte_len w → IsBytes bytes → to_be_bytes w (from_be_bytes w bytes) ≡ bytes
  pub again : (n : ℕ) → n < limit → from_be_bytes w (to_be_bytes w n) ≡ n
  pub below : (bytes : List ℕ) → IsBytes bytes → from_be_bytes w bytes < limit

-- a number below 256 is its own last byte
same_byte : (n : ℕ) → n < 256 → n % 256 ≡ n
same_byte n lt = omega arith

one_byte : (bytes : List ℕ) → length bytes ≡ 1 → IsBytes bytes → (get_or bytes 0 0 % 256) ∷ [] ≡ bytes
one_byte [] len fits = absurd (omega arith)
one_byte (b ∷ []) len fits = ap (λ (k : ℕ). k ∷ []) (same_byte b (fits 0))
one_byte (b ∷ c ∷ bytes) len fits = absurd (omega arith)

pub wide8 : IsWide w8 (2 ^ 8)
wide8 = record {
  some = omega arith;
  len = λ n. refl;
  back = λ bytes len fits. one_byte bytes len fits;
  again = λ n lt. same_byte n lt;
  below = λ bytes fits. fits 0;
}

pub wide16 : IsWide w16 (2 ^ 16)
wide16 = record {
  some = omega arith;
  len = λ n. refl;
  back = λ bytes len fits. be_bytes_2 bytes _ len fits refl;
  again = λ n lt. from_be_bytes-to_be_bytes_2 n lt;
  below = λ bytes fits. omega (arith, fits 0, fits 1);
}

pub wide32 : IsWide w32 (2 ^ 32)
wide32 = record {
  some = omega arith;
  len = λ n. refl;
  back = λ bytes len fits. be_bytes_4 bytes _ len fits refl;
  again = λ n lt. from_be_bytes-to_be_bytes_4 n lt;
  below = λ bytes fits. omega (arith, fits 0, fits 1, fits 2, fits 3);
}

pub wide64 : IsWide w64 (2 ^ 64)
wide64 = record {
  some = omega arith;
  len = λ n. refl;
  back = λ bytes len fits. be_bytes_8 bytes _ len fits refl;
  again = λ n lt. from_be_bytes-to_be_bytes_8 n lt;
  below = λ bytes fits. omega (arith, fits 0, fits 1, fits 2, fits 3, fits 4, fits 5, fits 6, fits 7);
}

branch : {A B : Type 0} (b : Bool) (d : AttestFault) (x : A) (k : A → Result B AttestFault) → (cond b (Err d) (Ok x) >>= k) ≡ cond b (Err d) (k x)
branch true d x k = refl
branch false d x k = refl

abbrev to_number : Width → List ℕ → Result ℕ AttestFault
to_number w bytes = Ok (from_be_bytes w bytes)

number_is : (w : Width) (p : Place) → number_at w p ≡ judged (byte_len w) (to_number w) p
unfolding number_at bytes_at
number_is w p = branch (ltb (length p.rest) (byte_len w)) (Short p.at) (take (byte_len w) p.rest, moved (byte_len w) p) (λ x. Ok (from_be_bytes w x.0, x.1))

pub number_reads : (w : Width) (limit : ℕ) → IsWide w limit → IsReader ℕ (number_at w) (λ n. number w n ∷ []) (λ n. n < limit)
number_reads w limit wide =
    subst (λ (r : Reader ℕ). IsReader ℕ r (λ n. number w n ∷ []) (λ n. n < limit)) (λ i p. sym (number_is w p) i) (
    one_reads {field = number w} (
    record {
      some = (0, wide.some);
      sized = λ n fits. wide.len n;
      taken = λ bytes n len each e.
          let same = ok_is (from_be_bytes w bytes) n e in
          (ap (to_be_bytes w) (sym same) ∙ wide.back bytes len each, subst (λ (k : ℕ). k < limit) same (wide.below bytes each));
      again = λ n fits. ap (λ (k : ℕ). let r : Result ℕ AttestFault = Ok k in r) (wide.again n fits);
      refused = λ bytes f len each e. absurd cc;
      differs = λ bytes f n len each fits bad. absurd bad;
    }
    )
    )

-- ---- Numbers that stand for a value

abbrev to_value : {A : Type 0} → Width → (ℕ → Option A) → AttestFault → List ℕ → Result A AttestFault
to_value w known fault bytes = valued fault (known (from_be_bytes w bytes))

known_is : (A : Type 0) (w : Width) (known : ℕ → Option A) (fault : AttestFault) (p : Place) → known_at w known fault p ≡ judged (byte_len w) (to_value w known fault) p
unfolding known_at
known_is A w known fault p =
    let then : ℕ × Place → Result (A × Place) AttestFault = λ x. valued fault (known x.0) >>= λ y. Ok (y, x.1) in
    ap (λ (r : Result (ℕ × Place) AttestFault). r >>= then) (number_is w p)
    ∙ branch (ltb (length p.rest) (byte_len w)) (Short p.at) (from_be_bytes w (take (byte_len w) p.rest), moved (byte_len w) p) then

known_reads : (A : Type 0) (w : Width) (known : ℕ → Option A) (fault : AttestFault) (field : A → Field) → IsJudge A (byte_len w) (to_value w known fault) field (λ x. Unit {0}) → IsReader A (known_at w known fault) (λ x. field x ∷ []) (λ x. Unit {0})
known_reads A w known fault field is =
    subst (λ (r : Reader A). IsReader A r (λ x. field x ∷ []) (λ x. Unit {0})) (λ i p. sym (known_is A w known fault p) i) (one_reads is)

-- a number that is found to be this one, or another
only_cases : (value n : ℕ) → ((only value n ≡ Some tt) × (n ≡ value)) ⊎ ((only value n ≡ None) × (n ≢ value))
only_cases value n = elim (cases_eq n value) [
  | inl same ↦ inl (rw (eq-eqb n value same) refl, same)
  | inr other ↦ inr (rw (ne_eqb n value other) refl, other)
]

pub constant_reads : (w : Width) (limit : ℕ) → IsWide w limit → (value : ℕ) (named : AttestFault) → value < limit → IsReader (Unit {0}) (known_at w (only value) named) (λ u. Fixed named (to_be_bytes w value) ∷ []) (λ u. Unit {0})
constant_reads w limit wide value named lt =
    known_reads (Unit {0}) w (only value) named (λ u. Fixed named (to_be_bytes w value)) (
    record {
      some = (tt, tt);
      sized = λ u fits. wide.len value;
      taken = λ bytes u len each e. elim (only_cases value (from_be_bytes w bytes)) [
        | inl is ↦ (ap (to_be_bytes w) (sym is.1) ∙ wide.back bytes len each, tt)
        | inr other ↦ absurd (let bad = rw other.0 at e in cc)
      ];
      again = λ u fits. elim (only_cases value (from_be_bytes w (to_be_bytes w value))) [
        | inl is ↦ rw is.0 refl
        | inr other ↦ absurd (other.1 (wide.again value lt))
      ];
      refused = λ bytes f len each e. elim (only_cases value (from_be_bytes w bytes)) [
        | inl is ↦ absurd (let bad = rw is.0 at e in cc)
        | inr other ↦ (tt, tt, (let named_is = rw other.0 at e in cc, λ same. other.1 (ap (from_be_bytes w) same ∙ wide.again value lt)))
      ];
      differs = λ bytes f u len each fits bad. elim (only_cases value (from_be_bytes w bytes)) [
        | inl is ↦ absurd (bad.1 (sym (wide.back bytes len each) ∙ ap (to_be_bytes w) is.1))
        | inr other ↦ rw (other.0, bad.0) refl
      ];
    }
    )

-- a number that is found to be yes, no or neither
flag_cases : (n : ℕ) → ((b : Bool) × (yes_or_no n ≡ Some b) × (n ≡ cond b 1 0)) ⊎ ((yes_or_no n ≡ None) × (1 < n))
flag_cases n = elim (cases_eq n 0) [
  | inl zero_is ↦ inl (false, rw zero_is refl, zero_is)
  | inr more ↦ elim (cases_eq n 1) [
    | inl one_is ↦ inl (true, rw one_is refl, one_is)
    | inr other ↦ inr (rw (ne_eqb n 0 more, ne_eqb n 1 other) refl, omega arith)
  ]
]

abbrev flag_text : Bool → List ℕ
flag_text b = cond b 1 0 ∷ []

too_large : (b : Bool) (n : ℕ) → n ≡ cond b 1 0 → 1 < n → ⊥
too_large true n e gt = omega arith
too_large false n e gt = omega arith

-- the one byte that is read is the number
number_of_one : (bytes : List ℕ) (n : ℕ) → length bytes ≡ 1 → IsBytes bytes → from_be_bytes w8 bytes ≡ n → n ∷ [] ≡ bytes
number_of_one bytes n len each e =
    let lt : n < 256 = omega (arith, each 0, e) in
    ap (λ (k : ℕ). k ∷ []) (sym (same_byte n lt)) ∙ ap (to_be_bytes w8) (sym e) ∙ one_byte bytes len each

pub flag_reads : IsReader Bool flag_at (λ b. YesNo b ∷ []) (λ b. Unit {0})
unfolding flag_at
flag_reads =
    known_reads Bool w8 yes_or_no Safe (λ b. YesNo b) (
    record {
      some = (false, tt);
      sized = λ b fits. refl;
      taken = λ bytes b len each e. elim (flag_cases (from_be_bytes w8 bytes)) [
        | inl is ↦
            let same : is.0 ≡ b = let found = rw is.1 at e in cc in
            (ap flag_text (sym same) ∙ number_of_one bytes (cond is.0 1 0) len each is.2, tt)
        | inr other ↦ absurd (let bad = rw other.0 at e in cc)
      ];
      again = λ b fits. elim b as (λ c. to_value w8 yes_or_no Safe (flag_text c) ≡ Ok c) [ true ↦ refl | false ↦ refl ];
      refused = λ bytes f len each e. elim (flag_cases (from_be_bytes w8 bytes)) [
        | inl is ↦ absurd (let bad = rw is.1 at e in cc)
        | inr other ↦ (false, tt, (let safe_is = rw other.0 at e in cc, other.1))
      ];
      differs = λ bytes f b len each fits bad. elim (flag_cases (from_be_bytes w8 bytes)) [
        | inl is ↦ absurd (too_large is.0 (from_be_bytes w8 bytes) is.2 bad.1)
        | inr other ↦ rw (other.0, bad.0) refl
      ];
    }
    )

-- ---- A length, and the bytes that it counts

pub counted_reads : (w : Width) (limit : ℕ) → IsWide w limit → IsReader (List ℕ) (counted_at w) (counted w) (IsSized limit)
unfolding counted_at
counted_reads w limit wide =
    said_reads (IsSized limit) (λ x h. record { len = h.0; each = h.1.1 }) (λ x h. (h.len, (refl, h.each)))
    (followed_reads bytes_at (λ x. Free x ∷ []) (λ n x. (length x ≡ n) × IsBytes x) length (number_reads w limit wide) (λ n lt. bytes_reads n) (λ n x h. h.0))
