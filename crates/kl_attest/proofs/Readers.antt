-- What it is that a reader reads these fields, and that readers joined read the fields of each.
use Rattle.std.proofs.Common.{◌≡◌, ℕ, ◌+◌, ◌⊎◌, List, [], ◌∷◌, ◌++◌, length, Result, Ok, Err, refl, sym, ap, subst, ◌∙◌, append_assoc, arith, inl, inr}
use Rattle.std.proofs.lemmas.Grind.{flat_map-append}
use Rattle.std.proofs.lemmas.List.{length-append}
use Rattle.kl_base.specs.Bytes.{IsBytes}
use Rattle.kl_attest.specs.declared.fault.AttestFault.{AttestFault}
use Rattle.kl_attest.specs.Grammar.{Field, field_text, joined}
use Rattle.kl_attest.specs.FirstFault.{Misfits}
use Rattle.kl_attest.specs.Inner.Reading.{◌>>=◌, Place, Reader, made, followed, both}

-- ---- Steps that may fail

-- the value of a step that did not fail
pub bind_ok : {A B : Type 0} (r : Result A AttestFault) (f : A → Result B AttestFault) (y : B) → (r >>= f) ≡ Ok y → (x : A) × (r ≡ Ok x) × (f x ≡ Ok y)
bind_ok (Ok x) f y e = (x, refl, e)
bind_ok (Err d) f y e = absurd cc

-- the step that failed
pub bind_err : {A B : Type 0} (r : Result A AttestFault) (g : A → Result B AttestFault) (f : AttestFault) → (r >>= g) ≡ Err f → (r ≡ Err f) ⊎ ((x : A) × (r ≡ Ok x) × (g x ≡ Err f))
bind_err (Ok x) g f e = inr (x, refl, e)
bind_err (Err d) g f e = inl cc

abbrev done : {A : Type 0} → A → Result A AttestFault
done x = Ok x

pub ok_is : {A : Type 0} (x y : A) → done x ≡ done y → x ≡ y
ok_is x y e = cc

-- ---- Fields of two lists

pub joined_append : (xs ys : List Field) → joined (xs ++ ys) ≡ joined xs ++ joined ys
joined_append xs ys = flat_map-append field_text xs ys

-- the one field stands in the first list, or behind it
record InFirst (xs before : List Field) (x : Field) : Type 0 where
  pub after : List Field
  pub is : xs ≡ before ++ x ∷ after

record InSecond (xs ys before : List Field) (x : Field) (after : List Field) : Type 0 where
  pub front : List Field
  pub before_is : before ≡ xs ++ front
  pub is : ys ≡ front ++ x ∷ after

pub cons_is : (x y : Field) (xs ys : List Field) → x ∷ xs ≡ y ∷ ys → (x ≡ y) × (xs ≡ ys)
cons_is x y xs ys e = (cc, cc)

pub no_field : (before : List Field) (x : Field) (after : List Field) → (let none : List Field = [] in none ≡ before ++ x ∷ after) → ⊥
no_field [] x after e = cc
no_field (b ∷ before) x after e = cc

split : (xs ys before : List Field) (x : Field) (after : List Field) → xs ++ ys ≡ before ++ x ∷ after → InFirst xs before x ⊎ InSecond xs ys before x after
split [] ys before x after e = inr (record { front = before; before_is = refl; is = e })
split (y ∷ xs) ys [] x after e =
    let h = cons_is y x (xs ++ ys) after e in
    inl (record { after = xs; is = ap (λ (z : Field). z ∷ xs) h.0 })
split (y ∷ xs) ys (b ∷ before) x after e =
    let h = cons_is y b (xs ++ ys) (before ++ x ∷ after) e in
    elim (split xs ys before x after h.1) [
      | inl f ↦ inl (record { after = f.after; is = cc })
      | inr s ↦ inr (record { front = s.front; before_is = cc; is = s.is })
    ]

-- ---- A reader of fields

-- what was taken from the front
pub record Took (p : Place) (fields : List Field) (q : Place) : Type 0 where
  pub parts : p.rest ≡ joined fields ++ q.rest
  pub at : q.at ≡ p.at + length (joined fields)
  pub rest_fits : IsBytes q.rest

-- reading gives this value, and these bytes are left
pub record Got (C : Type 0) (read : Result (C × Place) AttestFault) (x : C) (p : Place) (fields : List Field) (rest : List ℕ) : Type 0 where
  pub to : Place
  pub is : read ≡ Ok (x, to)
  pub left : to.rest ≡ rest
  pub at : to.at ≡ p.at + length (joined fields)

-- a value has these first fields, and the next one misfits what stands there
pub record Breaks (C : Type 0) (fields : C → List Field) (Fits : C → Type 0) (p : Place) (f : AttestFault) : Type 0 where
  pub value : C
  pub fits : Fits value
  pub before : List Field
  pub field : Field
  pub after : List Field
  pub is : fields value ≡ before ++ field ∷ after
  pub rest : List ℕ
  pub parts : p.rest ≡ joined before ++ rest
  pub misfit : Misfits field (p.at + length (joined before)) rest f

-- Each value that fits is read from its fields, no other is, and each fault is that of the first field that misfits.
pub record IsReader (C : Type 0) (read : Reader C) (fields : C → List Field) (Fits : C → Type 0) : Type 0 where
  pub some : (x : C) × Fits x
  pub takes : (p : Place) (x : C × Place) → IsBytes p.rest → read p ≡ Ok x → Took p (fields x.0) x.1 × Fits x.0
  pub again : (x : C) (rest : List ℕ) (p : Place) → Fits x → p.rest ≡ joined (fields x) ++ rest → Got C (read p) x p (fields x) rest
  pub fault : (p : Place) (f : AttestFault) → IsBytes p.rest → read p ≡ Err f → Breaks C fields Fits p f
  pub cut : (p : Place) (f : AttestFault) → IsBytes p.rest → Breaks C fields Fits p f → read p ≡ Err f

-- ---- Reading nothing

pub nothing_reads : IsReader (Unit {0}) (λ p. Ok (tt, p)) (λ u. []) (λ u. Unit {0})
nothing_reads =
    let made : Unit {0} = tt in
    record {
      some = (tt, tt);
      takes = λ p x fits e. subst (λ (y : Unit {0} × Place). Took p [] y.1 × Unit {0}) (ok_is (made, p) x e) (record { parts = refl; at = omega arith; rest_fits = fits }, tt);
      again = λ x rest p fits e. record { to = p; is = refl; left = e; at = omega arith };
      fault = λ p f fits e. absurd cc;
      cut = λ p f fits b. absurd (no_field b.before b.field b.after b.is);
    }

-- ---- The same fields, as another value

-- values of two types that stand for each other, and have the same fields
pub record Alike (A B : Type 0) (f : A → B) (g : B → A) (fa : A → List Field) (fb : B → List Field) (Fa : A → Type 0) (Fb : B → Type 0) : Type 0 where
  pub to : (a : A) → Fa a → Fb (f a)
  pub from : (b : B) → Fb b → Fa (g b)
  pub there : (a : A) → Fa a → g (f a) ≡ a
  pub back : (b : B) → Fb b → f (g b) ≡ b
  pub fields : (b : B) → Fb b → fb b ≡ fa (g b)

module _ {A B : Type 0} {r : Reader A} {f : A → B} {g : B → A} {fa : A → List Field} {fb : B → List Field} {Fa : A → Type 0} {Fb : B → Type 0}
    (alike : Alike A B f g fa fb Fa Fb) (reads : IsReader A r fa Fa) where
  fields_there : (a : A) → Fa a → fb (f a) ≡ fa a
  fields_there a fits = alike.fields (f a) (alike.to a fits) ∙ ap fa (alike.there a fits)

  pub made_reads : IsReader B (made f r) fb Fb
  made_reads =
      let into : A × Place → Result (B × Place) AttestFault = λ x. Ok (f x.0, x.1) in
      record {
        some = (f reads.some.0, alike.to reads.some.0 reads.some.1);
        takes = λ p x fits e.
            let b = bind_ok (r p) into x e in
            let t = reads.takes p b.0 fits b.1 in
            let taken : Took p (fb (f b.0.0)) b.0.1 = subst (λ (fields : List Field). Took p fields b.0.1) (sym (fields_there b.0.0 t.1)) t.0 in
            subst (λ (y : B × Place). Took p (fb y.0) y.1 × Fb y.0) (ok_is (f b.0.0, b.0.1) x b.2) (taken, alike.to b.0.0 t.1);
        again = λ x rest p fits e.
            let k = alike.fields x fits in
            let got = reads.again (g x) rest p (alike.from x fits) (e ∙ ap (λ (fields : List Field). joined fields ++ rest) k) in
            record { to = got.to; is = rw got.is (ap (λ (b : B). done (b, got.to)) (alike.back x fits)); left = got.left; at = got.at ∙ ap (λ (fields : List Field). p.at + length (joined fields)) (sym k) };
        fault = λ p d fits e.
            elim (bind_err (r p) into d e) [
              | inl first ↦
                  let b = reads.fault p d fits first in
                  record { value = f b.value; fits = alike.to b.value b.fits; before = b.before; field = b.field; after = b.after; is = fields_there b.value b.fits ∙ b.is; rest = b.rest; parts = b.parts; misfit = b.misfit }
              | inr second ↦ absurd (let bad = second.2 in cc)
            ];
        cut = λ p d fits b.
            let err = reads.cut p d fits (record { value = g b.value; fits = alike.from b.value b.fits; before = b.before; field = b.field; after = b.after; is = sym (alike.fields b.value b.fits) ∙ b.is; rest = b.rest; parts = b.parts; misfit = b.misfit }) in
            rw err refl;
      }

-- ---- One reader behind the other

took_then : (p : Place) (xs : List Field) (q : Place) (ys : List Field) (r : Place) → Took p xs q → Took q ys r → Took p (xs ++ ys) r
took_then p xs q ys r a b = record {
  parts = a.parts ∙ ap (λ (t : List ℕ). joined xs ++ t) b.parts ∙ sym (append_assoc (joined xs) (joined ys) r.rest) ∙ ap (λ (t : List ℕ). t ++ r.rest) (sym (joined_append xs ys));
  at = omega (arith, a.at, b.at, ap length (joined_append xs ys), length-append (joined xs) (joined ys));
  rest_fits = b.rest_fits;
}

-- where what two lists of fields make is cut
regrouped : (xs ys : List Field) (rest : List ℕ) → joined (xs ++ ys) ++ rest ≡ joined xs ++ (joined ys ++ rest)
regrouped xs ys rest = ap (λ (t : List ℕ). t ++ rest) (joined_append xs ys) ∙ append_assoc (joined xs) (joined ys) rest

behind_both : (at mid : ℕ) (xs ys : List Field) → mid ≡ at + length (joined xs) → mid + length (joined ys) ≡ at + length (joined (xs ++ ys))
behind_both at mid xs ys e = omega (arith, e, ap length (joined_append xs ys), length-append (joined xs) (joined ys))

-- What is read first is told to the second reader, and is a part of what that one gives.
module _ {A C : Type 0} {r : Reader A} (s : A → Reader C) {fa : A → List Field} {Fa : A → Type 0} (fc : C → List Field) (Fc : A → C → Type 0) (part : C → A)
    (first : IsReader A r fa Fa) (second : (a : A) → Fa a → IsReader C (s a) fc (Fc a)) (mine : (a : A) (c : C) → Fc a c → part c ≡ a) where
  followed_takes : (p : Place) (x : C × Place) → IsBytes p.rest → followed r s p ≡ Ok x → Took p (fa (part x.0) ++ fc x.0) x.1 × (Fa (part x.0) × Fc (part x.0) x.0)
  followed_takes p x fits e =
      let b = bind_ok (r p) (λ y. s y.0 y.1) x e in
      let t = first.takes p b.0 fits b.1 in
      let u = (second b.0.0 t.1).takes b.0.1 x t.0.rest_fits b.2 in
      let all = took_then p (fa b.0.0) b.0.1 (fc x.0) x.1 t.0 u.0 in
      subst (λ (a : A). Took p (fa a ++ fc x.0) x.1 × (Fa a × Fc a x.0)) (sym (mine b.0.0 x.0 u.1)) (all, (t.1, u.1))

  followed_again : (x : C) (rest : List ℕ) (p : Place) → Fa (part x) × Fc (part x) x → p.rest ≡ joined (fa (part x) ++ fc x) ++ rest → Got C (followed r s p) x p (fa (part x) ++ fc x) rest
  followed_again x rest p fits e =
      let xs : List Field = fa (part x) in
      let a = first.again (part x) (joined (fc x) ++ rest) p fits.0 (e ∙ regrouped xs (fc x) rest) in
      let b = (second (part x) fits.0).again x rest a.to fits.1 a.left in
      let one : followed r s p ≡ s (part x) a.to = rw a.is refl in
      record { to = b.to; is = one ∙ b.is; left = b.left; at = b.at ∙ behind_both p.at a.to.at xs (fc x) a.at }

  followed_fault : (p : Place) (f : AttestFault) → IsBytes p.rest → followed r s p ≡ Err f → Breaks C (λ c. fa (part c) ++ fc c) (λ c. Fa (part c) × Fc (part c) c) p f
  followed_fault p f fits e =
      elim (bind_err (r p) (λ y. s y.0 y.1) f e) [
        | inl early ↦
            let b = first.fault p f fits early in
            let (c, rest_fits) = (second b.value b.fits).some in
            let same : part c ≡ b.value = mine b.value c rest_fits in
            record {
              value = c;
              fits = subst (λ (a : A). Fa a × Fc a c) (sym same) (b.fits, rest_fits);
              before = b.before;
              field = b.field;
              after = b.after ++ fc c;
              is = ap (λ (a : A). fa a ++ fc c) same ∙ ap (λ (t : List Field). t ++ fc c) b.is ∙ append_assoc b.before (b.field ∷ b.after) (fc c);
              rest = b.rest;
              parts = b.parts;
              misfit = b.misfit;
            }
        | inr late ↦
            let t = first.takes p late.0 fits late.1 in
            let b = (second late.0.0 t.1).fault late.0.1 f t.0.rest_fits late.2 in
            let same : part b.value ≡ late.0.0 = mine late.0.0 b.value b.fits in
            let xs : List Field = fa late.0.0 in
            record {
              value = b.value;
              fits = subst (λ (a : A). Fa a × Fc a b.value) (sym same) (t.1, b.fits);
              before = xs ++ b.before;
              field = b.field;
              after = b.after;
              is = ap (λ (a : A). fa a ++ fc b.value) same ∙ ap (λ (t : List Field). xs ++ t) b.is ∙ sym (append_assoc xs b.before (b.field ∷ b.after));
              rest = b.rest;
              parts = t.0.parts ∙ ap (λ (t : List ℕ). joined xs ++ t) b.parts ∙ sym (regrouped xs b.before b.rest);
              misfit = subst (λ (k : ℕ). Misfits b.field k b.rest f) (behind_both p.at late.0.1.at xs b.before t.0.at) b.misfit;
            }
      ]

  followed_cut : (p : Place) (f : AttestFault) → IsBytes p.rest → Breaks C (λ c. fa (part c) ++ fc c) (λ c. Fa (part c) × Fc (part c) c) p f → followed r s p ≡ Err f
  followed_cut p f fits b =
      let a : A = part b.value in
      let xs : List Field = fa a in
      elim (split xs (fc b.value) b.before b.field b.after b.is) [
        | inl here ↦
            let early : r p ≡ Err f = first.cut p f fits (record { value = a; fits = b.fits.0; before = b.before; field = b.field; after = here.after; is = here.is; rest = b.rest; parts = b.parts; misfit = b.misfit }) in
            rw early refl
        | inr there ↦
            let ys : List Field = there.front in
            let here : p.rest ≡ joined (xs ++ ys) ++ b.rest = b.parts ∙ ap (λ (fields : List Field). joined fields ++ b.rest) there.before_is in
            let g = first.again a (joined ys ++ b.rest) p b.fits.0 (here ∙ regrouped xs ys b.rest) in
            let left_fits : IsBytes g.to.rest = (first.takes p (a, g.to) fits g.is).0.rest_fits in
            let place : p.at + length (joined b.before) ≡ g.to.at + length (joined ys) = ap (λ (fields : List Field). p.at + length (joined fields)) there.before_is ∙ sym (behind_both p.at g.to.at xs ys g.at) in
            let late : s a g.to ≡ Err f = (second a b.fits.0).cut g.to f left_fits (record { value = b.value; fits = b.fits.1; before = ys; field = b.field; after = b.after; is = there.is; rest = b.rest; parts = g.left; misfit = subst (λ (k : ℕ). Misfits b.field k b.rest f) place b.misfit }) in
            let one : followed r s p ≡ s a g.to = rw g.is refl in
            one ∙ late
      ]

  pub followed_reads : IsReader C (followed r s) (λ c. fa (part c) ++ fc c) (λ c. Fa (part c) × Fc (part c) c)
  followed_reads =
      let (a, fits) = first.some in
      let (c, rest_fits) = (second a fits).some in
      record {
        some = (c, subst (λ (x : A). Fa x × Fc x c) (sym (mine a c rest_fits)) (fits, rest_fits));
        takes = followed_takes;
        again = followed_again;
        fault = followed_fault;
        cut = followed_cut;
      }

-- the same reader, where what fits is said otherwise
pub said_reads : {C : Type 0} {r : Reader C} {fields : C → List Field} {F : C → Type 0} (G : C → Type 0) → ((c : C) → F c → G c) → ((c : C) → G c → F c) → IsReader C r fields F → IsReader C r fields G
said_reads G to from reads = record {
  some = (reads.some.0, to reads.some.0 reads.some.1);
  takes = λ p x fits e. let t = reads.takes p x fits e in (t.0, to x.0 t.1);
  again = λ x rest p fits e. reads.again x rest p (from x fits) e;
  fault = λ p f fits e. let b = reads.fault p f fits e in record { value = b.value; fits = to b.value b.fits; before = b.before; field = b.field; after = b.after; is = b.is; rest = b.rest; parts = b.parts; misfit = b.misfit };
  cut = λ p f fits b. reads.cut p f fits (record { value = b.value; fits = from b.value b.fits; before = b.before; field = b.field; after = b.after; is = b.is; rest = b.rest; parts = b.parts; misfit = b.misfit });
}

-- two readers, neither of which is told what the other reads
pub both_reads : {A B : Type 0} {r : Reader A} {s : Reader B} {fa : A → List Field} {fb : B → List Field} {Fa : A → Type 0} {Fb : B → Type 0}
    → IsReader A r fa Fa → IsReader B s fb Fb → IsReader (A × B) (both r s) (λ x. fa x.0 ++ fb x.1) (λ x. Fa x.0 × Fb x.1)
both_reads {A} {B} {s = s} {fb = fb} {Fa = Fa} {Fb = Fb} first second =
    let fields : A × B → List Field = λ x. fb x.1 in
    let Fits : A → A × B → Type 0 = λ a x. (x.0 ≡ a) × Fb x.1 in
    let alike : (a : A) → Alike B (A × B) (λ b. (a, b)) (λ x. x.1) fb fields Fb (Fits a) = λ a.
    record { to = λ b h. (refl, h); from = λ x h. h.1; there = λ b h. refl; back = λ x h. ap (λ (y : A). let z : A × B = (y, x.1) in z) (sym h.0); fields = λ x h. refl } in
    said_reads (λ x. Fa x.0 × Fb x.1) (λ x h. (h.0, h.1.1)) (λ x h. (h.0, (refl, h.1)))
    (followed_reads (λ a. made (λ b. (a, b)) s) fields Fits (λ x. x.0) first (λ a h. made_reads (alike a) second) (λ a x h. h.0))
