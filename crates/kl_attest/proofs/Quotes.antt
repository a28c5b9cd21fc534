-- The reader of a quote reads the fields of one.
use Rattle.std.proofs.Common.{◌≡◌, ℕ, zero, suc, ◌^◌, ◌<◌, Bool, List, [], ◌∷◌, ◌++◌, length, refl, sym, ap, arith}
use Rattle.std.specs.List.{flat_map, AllByRecursion}
use Rattle.std.specs.Int.{w8, w16, w32, w64}
use Rattle.std.proofs.lemmas.List.{nil_from_length}
use Rattle.kl_attest.specs.declared.fault.AttestFault.TheVariants.{Magic, AttestType}
use Rattle.kl_attest.specs.Grammar.{Field, Selection, Quoted, magic, attest_quote, clock_fields, selection_fields, selections_fields, fields_of, IsSelection, IsQuoted}
use Rattle.kl_attest.specs.Inner.Reading.{Clock, header_at, clock_made, clock_at, selection_made, selection_at, listed_at, selections_at, Fields, quoted_made, quoted_at}
use Rattle.kl_attest.proofs.Readers.{IsReader, Alike, made_reads, both_reads, nothing_reads, followed_reads, said_reads}
use Rattle.kl_attest.proofs.Fields.{wide8, wide16, wide32, wide64, number_reads, constant_reads, flag_reads, counted_reads}

-- ---- The parts of a quote

abbrev clock_parts : Clock → ℕ × (ℕ × (ℕ × Bool))
clock_parts c = (c.clock, (c.reset, (c.restart, c.safe)))

abbrev fields_of_clock : Clock → List Field
fields_of_clock c = clock_fields c.clock c.reset c.restart c.safe

record FitsClock (c : Clock) : Type 0 where
  pub clock : c.clock < 2 ^ 64
  pub reset : c.reset < 2 ^ 32
  pub restart : c.restart < 2 ^ 32

clock_reads : IsReader Clock clock_at fields_of_clock FitsClock
unfolding clock_at
clock_reads =
    let n32 = number_reads w32 (2 ^ 32) wide32 in
    let alike : Alike (ℕ × (ℕ × (ℕ × Bool))) Clock clock_made clock_parts _ fields_of_clock _ FitsClock = record {
      to = λ x h. record { clock = h.0; reset = h.1.0; restart = h.1.1.0 };
      from = λ c h. (h.clock, (h.reset, (h.restart, tt)));
      there = λ x h. refl;
      back = λ c h. refl;
      fields = λ c h. refl;
    } in
    made_reads alike (both_reads (number_reads w64 (2 ^ 64) wide64) (both_reads n32 (both_reads n32 flag_reads)))

abbrev selection_parts : Selection → ℕ × List ℕ
selection_parts s = (s.alg, s.select)

selection_reads : IsReader Selection selection_at selection_fields IsSelection
unfolding selection_at
selection_reads =
    let alike : Alike (ℕ × List ℕ) Selection selection_made selection_parts _ selection_fields _ IsSelection = record {
      to = λ x h. record { alg = h.0; select = h.1 };
      from = λ s h. (h.alg, h.select);
      there = λ x h. refl;
      back = λ s h. refl;
      fields = λ s h. refl;
    } in
    made_reads alike (both_reads (number_reads w16 (2 ^ 16) wide16) (counted_reads w8 (2 ^ 8) wide8))

-- the first of some selections, and the others
list_parts : List Selection → Selection × List Selection
list_parts [] = (record { alg = 0; select = [] }, [])
list_parts (s ∷ ss) = (s, ss)

abbrev list_made : Selection × List Selection → List Selection
list_made x = x.0 ∷ x.1

abbrev fields_of_list : List Selection → List Field
fields_of_list ss = flat_map selection_fields ss

abbrev AreSelections : ℕ → List Selection → Type 0
AreSelections n ss = (length ss ≡ n) × AllByRecursion IsSelection ss

list_from : (n : ℕ) (ss : List Selection) → AreSelections (suc n) ss → IsSelection (list_parts ss).0 × AreSelections n (list_parts ss).1
unfolding list_parts
list_from n [] h = absurd (omega (arith, h.0))
list_from n (s ∷ ss) h = (h.1.0, (omega (arith, h.0), h.1.1))

list_there : (x : Selection × List Selection) → list_parts (list_made x) ≡ x
unfolding list_parts
list_there x = refl

list_back : (n : ℕ) (ss : List Selection) → AreSelections (suc n) ss → list_made (list_parts ss) ≡ ss
unfolding list_parts
list_back n [] h = absurd (omega (arith, h.0))
list_back n (s ∷ ss) h = refl

list_fields : (n : ℕ) (ss : List Selection) → AreSelections (suc n) ss → fields_of_list ss ≡ selection_fields (list_parts ss).0 ++ fields_of_list (list_parts ss).1
unfolding list_parts
list_fields n [] h = absurd (omega (arith, h.0))
list_fields n (s ∷ ss) h = refl

none_listed : (ss : List Selection) → AreSelections 0 ss → ss ≡ []
none_listed ss h = nil_from_length ss h.0

none_reads : IsReader (List Selection) (listed_at 0) fields_of_list (AreSelections 0)
unfolding listed_at
none_reads =
    let alike : Alike (Unit {0}) (List Selection) (λ u. []) (λ ss. tt) (λ u. []) fields_of_list (λ u. Unit {0}) (AreSelections 0) = record {
      to = λ u h. (refl, tt);
      from = λ ss h. tt;
      there = λ u h. refl;
      back = λ ss h. sym (none_listed ss h);
      fields = λ ss h. ap fields_of_list (none_listed ss h);
    } in
    made_reads alike nothing_reads

pub listed_reads : (n : ℕ) → IsReader (List Selection) (listed_at n) fields_of_list (AreSelections n)
unfolding listed_at
listed_reads zero = none_reads
listed_reads (suc n) =
    let alike : Alike (Selection × List Selection) (List Selection) list_made list_parts _ fields_of_list _ (AreSelections (suc n)) = record {
      to = λ x h. (ap suc h.1.0, (h.0, h.1.1));
      from = list_from n;
      there = λ x h. list_there x;
      back = list_back n;
      fields = list_fields n;
    } in
    made_reads alike (both_reads selection_reads (listed_reads n))

selections_read : IsReader (List Selection) selections_at selections_fields (λ ss. (length ss < 2 ^ 32) × AllByRecursion IsSelection ss)
unfolding selections_at
selections_read =
    said_reads (λ ss. (length ss < 2 ^ 32) × AllByRecursion IsSelection ss) (λ ss h. (h.0, h.1.1)) (λ ss h. (h.0, (refl, h.1)))
    (followed_reads listed_at fields_of_list AreSelections length (number_reads w32 (2 ^ 32) wide32) (λ n lt. listed_reads n) (λ n ss h. h.0))

-- ---- The whole

abbrev quoted_parts : Quoted → (Unit {0} × Unit {0}) × Fields
quoted_parts q = ((tt, tt), (q.signer, (q.extra, (record { clock = q.clock; reset = q.reset; restart = q.restart; safe = q.safe }, (q.firmware, (q.selections, q.pcr_digest))))))

pub quoted_reads : IsReader Quoted quoted_at fields_of IsQuoted
unfolding quoted_at header_at
quoted_reads =
    let sized = counted_reads w16 (2 ^ 16) wide16 in
    let header = both_reads (constant_reads w32 (2 ^ 32) wide32 magic Magic (omega arith)) (constant_reads w16 (2 ^ 16) wide16 attest_quote AttestType (omega arith)) in
    let alike : Alike ((Unit {0} × Unit {0}) × Fields) Quoted quoted_made quoted_parts _ fields_of _ IsQuoted = record {
      to = λ x h. (let f = h.1 in record {
        signer = f.0;
        extra = f.1.0;
        clock = f.1.1.0.clock;
        reset = f.1.1.0.reset;
        restart = f.1.1.0.restart;
        firmware = f.1.1.1.0;
        count = f.1.1.1.1.0.0;
        selections = f.1.1.1.1.0.1;
        pcr_digest = f.1.1.1.1.1;
      });
      from = λ q h. ((tt, tt), (h.signer, (h.extra, (record { clock = h.clock; reset = h.reset; restart = h.restart }, (h.firmware, ((h.count, h.selections), h.pcr_digest))))));
      there = λ x h. refl;
      back = λ q h. refl;
      fields = λ q h. refl;
    } in
    made_reads alike (both_reads header (both_reads sized (both_reads sized (both_reads clock_reads (both_reads (number_reads w64 (2 ^ 64) wide64) (both_reads selections_read sized))))))
