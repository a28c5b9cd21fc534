-- The lines of a flat policy that are read so far, and what they list.
use Rattle.std.proofs.Common.{◌≡◌, ℕ, ◌+◌, ◌<◌, ◌≤◌, Bool, true, false, cond, Some, List, [], ◌∷◌, ◌++◌, map, filter, length, refl, sym, ap, subst, ◌∙◌, arith, inl, inr, unwrap_or, All, append-nil, ◌==◌, length-append, eqb-true}
use Rattle.std.proofs.lemmas.List.Elements.{All-nil, All-cons}
use Rattle.std.proofs.lemmas.Map.Text.{is_eq-slice_cmp}
use Rattle.std.proofs.lemmas.Slice.Eq.{bytes_eq-Decides}
use Rattle.std.specs.Cmp.Lexicographic.{slice_cmp, nat_list_cmp_total}
use Rattle.std.specs.FinMap as finite_map
use Rattle.std.specs.FinMap.{get-insert, get-empty, slice_cmp-IsAntisymmetric, nat_cmp-IsAntisymmetric}
use Rattle.std.specs.FinSet as finite_set
use Rattle.std.specs.List.{AllZip}
use Rattle.std.specs.Ordering.{nat_cmp, eq_by_cmp}
use Rattle.std.specs.Str.{bytes_eq}
use Rattle.kl_entry.specs.Lines.{lines_of, onto_first}
use Rattle.kl_digests.specs.Digests.{DigestMap}
use Rattle.kl_policy.specs.Flat.{FlatLine, GivesPair, digests_at, set_of, Collects, is_written, written, AreListed, LinesCollect, IsGoodLine, BreaksAt}

-- an empty map collects nothing
pub collect_none : LinesCollect [] finite_map.empty
collect_none = ([], tt, λ path. get-empty (slice_cmp nat_cmp) path)

written_push : (lines : List (List ℕ)) (line : List ℕ) → written (lines ++ line ∷ []) ≡ written lines ++ written (line ∷ [])
written_push [] line = refl
written_push (first ∷ lines) line =
    elim (is_written first) as (λ b. cond b (first ∷ written (lines ++ line ∷ [])) (written (lines ++ line ∷ [])) ≡ cond b (first ∷ written lines) (written lines) ++ written (line ∷ [])) [
      | true ↦ ap (λ more. first ∷ more) (written_push lines line)
      | false ↦ written_push lines line
    ]

-- an empty line lists nothing
pub collect_blank : (lines : List (List ℕ)) (line : List ℕ) (digests : DigestMap) → length line ≡ 0 → LinesCollect lines digests → LinesCollect (lines ++ line ∷ []) digests
collect_blank lines [] digests empty h =
    (h.0, subst (λ list. AllZip GivesPair list h.0) (sym (written_push lines [] ∙ append-nil (written lines))) h.1, h.2)
collect_blank lines (b ∷ bs) digests empty h = absurd (omega arith)

digests_at_push : (q : List ℕ) (pairs : List (List ℕ × List ℕ)) (path digest : List ℕ)
    → digests_at q (pairs ++ (path, digest) ∷ []) ≡ digests_at q pairs ++ cond (bytes_eq q path) (digest ∷ []) []
digests_at_push q [] path digest =
    elim (bytes_eq q path) as (λ b. map (λ (pair : List ℕ × List ℕ). pair.1) (cond b ((path, digest) ∷ []) []) ≡ cond b (digest ∷ []) []) [ true ↦ refl | false ↦ refl ]
digests_at_push q (p ∷ pairs) path digest =
    elim (bytes_eq q p.0) as (λ b. map (λ (pair : List ℕ × List ℕ). pair.1) (cond b (p ∷ filter (λ pair. bytes_eq q pair.0) (pairs ++ (path, digest) ∷ [])) (filter (λ pair. bytes_eq q pair.0) (pairs ++ (path, digest) ∷ [])))
    ≡ map (λ (pair : List ℕ × List ℕ). pair.1) (cond b (p ∷ filter (λ pair. bytes_eq q pair.0) pairs) (filter (λ pair. bytes_eq q pair.0) pairs)) ++ cond (bytes_eq q path) (digest ∷ []) []) [
      | true ↦ ap (λ more. p.1 ∷ more) (digests_at_push q pairs path digest)
      | false ↦ digests_at_push q pairs path digest
    ]

set_of_push : (ds : List (List ℕ)) (digest : List ℕ) → Some (finite_set.insert (unwrap_or (set_of ds) finite_set.empty) digest) ≡ set_of (ds ++ digest ∷ [])
set_of_push [] digest = refl
set_of_push (d ∷ ds) digest = ap Some (sym (finite_set.from_list_push nat_list_cmp_total (slice_cmp-IsAntisymmetric nat_cmp-IsAntisymmetric) (d ∷ ds) digest))

-- a pair more in the list is a digest more in the map
pub collects_push : (pairs : List (List ℕ × List ℕ)) (digests : DigestMap) (path digest : List ℕ) → Collects pairs digests
    → Collects (pairs ++ (path, digest) ∷ []) (finite_map.insert digests path (finite_set.insert (unwrap_or (finite_map.get digests path) finite_set.empty) digest))
collects_push pairs digests path digest h = λ q.
    let put = get-insert nat_list_cmp_total digests path (finite_set.insert (unwrap_or (finite_map.get digests path) finite_set.empty) digest) q in
    let same : eq_by_cmp (slice_cmp nat_cmp) q path ≡ bytes_eq q path = is_eq-slice_cmp q path in
    put
    ∙ ap (λ b. cond b (Some (finite_set.insert (unwrap_or (finite_map.get digests path) finite_set.empty) digest)) (finite_map.get digests q)) same
    ∙ at_key q (bytes_eq q path) refl
    ∙ ap set_of (sym (digests_at_push q pairs path digest))
  where
    at_key : (q : List ℕ) (b : Bool) → bytes_eq q path ≡ b
        → cond b (Some (finite_set.insert (unwrap_or (finite_map.get digests path) finite_set.empty) digest)) (finite_map.get digests q) ≡ set_of (digests_at q pairs ++ cond b (digest ∷ []) [])
    at_key q true e =
        let key : q ≡ path = (bytes_eq-Decides q path).0 e in
        ap (λ known. Some (finite_set.insert (unwrap_or known finite_set.empty) digest)) (h path)
        ∙ set_of_push (digests_at path pairs) digest
        ∙ ap (λ k. set_of (digests_at k pairs ++ digest ∷ [])) (sym key)
    at_key q false e = h q ∙ ap set_of (sym (append-nil (digests_at q pairs)))

all_zip_push : {A B : Type 0} (R : A → B → Type 0) (xs : List A) (ys : List B) (x : A) (y : B) → AllZip R xs ys → R x y → AllZip R (xs ++ x ∷ []) (ys ++ y ∷ [])
all_zip_push R [] [] x y h r = (r, tt)
all_zip_push R [] (b ∷ ys) x y h r = absurd h
all_zip_push R (a ∷ xs) [] x y h r = absurd h
all_zip_push R (a ∷ xs) (b ∷ ys) x y h r = (h.0, all_zip_push R xs ys x y h.1 r)

-- a line of a digest and a path
pub collect_line : (lines : List (List ℕ)) (line digest path : List ℕ) (digests : DigestMap) → 0 < length line → FlatLine line digest path
    → LinesCollect lines digests → LinesCollect (lines ++ line ∷ []) (finite_map.insert digests path (finite_set.insert (unwrap_or (finite_map.get digests path) finite_set.empty) digest))
collect_line lines [] digest path digests some f h = absurd (omega arith)
collect_line lines (b ∷ bs) digest path digests some f h =
    let pair : List ℕ × List ℕ = (path, digest) in
    let more : AllZip GivesPair (written lines ++ (b ∷ bs) ∷ []) (h.0 ++ pair ∷ []) = all_zip_push GivesPair (written lines) h.0 (b ∷ bs) pair h.1 f in
    (h.0 ++ pair ∷ [], subst (λ list. AllZip GivesPair list (h.0 ++ pair ∷ [])) (sym (written_push lines (b ∷ bs))) more, collects_push h.0 digests path digest h.2)

-- lines that list pairs are good
pub good_lines : (lines : List (List ℕ)) (pairs : List (List ℕ × List ℕ)) → AreListed lines pairs → All IsGoodLine lines
good_lines [] pairs h = All-nil IsGoodLine
good_lines ([] ∷ lines) pairs h = All-cons IsGoodLine [] lines (inl refl) (good_lines lines pairs h)
good_lines ((b ∷ bs) ∷ lines) [] h = absurd h
good_lines ((b ∷ bs) ∷ lines) (p ∷ pairs) h = All-cons IsGoodLine (b ∷ bs) lines (inr (p.1, p.0, h.0)) (good_lines lines pairs h.1)

-- a text has no more lines than bytes
onto_first_length : (b : ℕ) (lines : List (List ℕ)) → length (onto_first b lines) ≤ length lines + 1
onto_first_length b [] = omega arith
onto_first_length b (line ∷ lines) = omega arith

pub length-lines_of : (text : List ℕ) → length (lines_of text) ≤ length text
unfolding lines_of
length-lines_of [] = omega arith
length-lines_of (b ∷ bs) =
    let rest = length-lines_of bs in
    let onto = onto_first_length b (lines_of bs) in
    elim (b == 10) as (λ t. length (cond t ([] ∷ lines_of bs) (onto_first b (lines_of bs))) ≤ length (b ∷ bs)) [
      | true ↦ omega arith
      | false ↦ omega arith
    ]

-- the first line that is not good, behind lines that are
pub first_bad_line : (text : List ℕ) (before : List (List ℕ)) (line : List ℕ) (after : List (List ℕ)) (digests : DigestMap) (place : ℕ)
    → before ++ line ∷ after ≡ lines_of text → length before ≡ place → LinesCollect before digests
    → 0 < length line → ((digest path : List ℕ) → ¬ (FlatLine line digest path)) → BreaksAt (lines_of text) place
first_bad_line text before line after digests place cut counted h some none = record {
  before = before;
  item = line;
  after = after;
  cut = sym cut;
  counted = counted;
  good = good_lines before h.0 h.1;
  fails = λ good. elim good [
    | inl empty ↦ let no : length line ≡ 0 = ap length empty in omega arith
    | inr found ↦ none found.0 found.1 found.2
  ];
}

-- a line's place is below the length of the text
pub place_below : (text : List ℕ) (before : List (List ℕ)) (line : List ℕ) (after : List (List ℕ)) → before ++ line ∷ after ≡ lines_of text → length before < length text
place_below text before line after cut =
    let all = length-lines_of text in
    let parts : length before + length (line ∷ after) ≡ length (lines_of text) = sym (length-append before (line ∷ after)) ∙ ap length cut in
    omega arith

pub nothing : (line : List ℕ) (b : Bool) → b ≡ (length line == 0) → b ≡ true → length line ≡ 0
nothing line b is h = eqb-true (length line) 0 (sym is ∙ h)

pub something : (line : List ℕ) (b : Bool) → b ≡ (length line == 0) → b ≡ false → 0 < length line
something [] b is h = cc (sym is ∙ h)
something (x ∷ line) b is h = omega arith
