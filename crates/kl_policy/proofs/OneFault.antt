-- A text has one reading, or one reason against it that the text alone settles.
use Rattle.std.proofs.Common.{◌≡◌, ◌⊎◌, ℕ, zero, suc, ◌<◌, ◌≤◌, Bool, true, Option, Some, None, option_and_then, List, [], ◌∷◌, ◌++◌, length, slice_get, All, IsSome, IsSomeAnd, is_some, inl, inr, refl, sym, ap, subst, ◌∙◌, arith, codes, length-append}
use Rattle.std.proofs.Math.Seq.{get_or-append_seam}
use Rattle.std.proofs.lemmas.Bool.{false≢true}
use Rattle.std.proofs.lemmas.List.Elements.{All-nil, All-cons}
use Rattle.std.proofs.lemmas.Option.{none-some}
use Rattle.std.specs.FinMap as finite_map
use Rattle.std.specs.List.{AllZip}
use Rattle.serde_json.specs.Data.{Data}
use Rattle.serde_json.specs.Find.{get, as_object}
use Rattle.kl_entry.specs.Lines.{lines_of, IsFirstFailing}
use Rattle.kl_entry.proofs.FirstFailing.{one_failing, one_item}
use Rattle.kl_exclude.specs.Compiled.{StopsAt}
use Rattle.kl_exclude.specs.Excludes.{IsPattern}
use Rattle.kl_exclude.specs.Told.{MakerTold}
use Rattle.kl_exclude.specs.declared.fault.ExcludeFault.TheVariants.{Syntax, TooLarge, Memory as none_left}
use Rattle.kl_json.specs.Members.{member_as}
use Rattle.kl_json.specs.Reading.{Reads, IsNotJson}
use Rattle.kl_json.specs.declared.fault.JsonFault.TheVariants.{NotJson, Missing, Kind, Range, Memory as no_memory}
use Rattle.kl_digests.specs.Digests.{DigestMap, SpellsDigest}
use Rattle.kl_policy.specs.Flat.{ListsDigests, BreaksAt, IsFlatFault}
use Rattle.kl_policy.specs.Json.{Listed, as_texts, as_listing, optional, IsDecoded, IsGood, IsShort, IsBlank, IsFirstBadDigest, IsUnsupported, IsKindFault, IsPartsFault, HasListing, HasPatterns, HasParts, HasSomeDigests, HasSomePatterns, HasSomeChoice}
use Rattle.kl_policy.specs.Making.{IsJsonFault, IsNoPolicy, is_settled}
use Rattle.kl_policy.specs.PolicyFields.{PolicyFields}
use Rattle.kl_policy.specs.Reading.{IsJson, IsReading, IsPolicy}
use Rattle.kl_policy.specs.Texts.{named_text}
use Rattle.kl_policy.specs.declared.fault.Limit.TheVariants.{Paths, Patterns, PatternBytes}
use Rattle.kl_policy.specs.declared.fault.PolicyFault.{PolicyFault}
use Rattle.kl_policy.specs.declared.fault.PolicyFault.TheVariants.{Json, Line, BadDigest, Unsupported, Limit as Over, Exclude, Memory}
use Rattle.kl_policy.proofs.JsonFacts.{same_texts}
use Rattle.kl_policy.proofs.OnePolicy.{digests_same, no_digests, one_bad_line}
use Rattle.kl_policy.proofs.SamePolicy.{one_value, one_listing, one_patterns, same_policy}
use Rattle.kl_states.specs.declared.policy_kind.PolicyKind.{PolicyKind}
use Rattle.kl_states.specs.declared.policy_kind.PolicyKind.TheVariants as kind

-- ---- what is there

absent : {A : Type 0} (o : Option A) → o ≡ None → ¬ (IsSome o)
absent o is h = false≢true (sym (ap is_some is) ∙ h)

present : {A : Type 0} {o : Option A} {x : A} → o ≡ Some x → IsSome o
present is = ap is_some is

then_present : {A B : Type 0} (f : A → Option B) (o : Option A) (b : B) → option_and_then f o ≡ Some b → IsSome o
then_present f None b is = absurd (none-some b is)
then_present f (Some a) b is = refl

-- ---- the first of the digests' texts that is bad

-- where an item fails, not all are good
not_all : {X : Type 0} (Good F : X → Type 0) → ((x : X) → F x → ¬ (Good x)) → (xs : List X) (place : ℕ) → IsFirstFailing Good F xs place → ¬ (All Good xs)
not_all Good F bad xs place f all =
    let there : All Good (f.before ++ f.item ∷ f.after) = subst (All Good) f.cut all in
    bad f.item f.fails (subst Good (get_or-append_seam f.before f.item f.after f.item) (there (length f.before) f.item (omega (arith, length-append f.before (f.item ∷ f.after)))))

all_good : (texts digests : List (List ℕ)) → AllZip SpellsDigest texts digests → All IsGood texts
all_good [] digests h = All-nil IsGood
all_good (t ∷ texts) [] h = absurd h
all_good (t ∷ texts) (d ∷ digests) h = All-cons IsGood t texts (d, h.0) (all_good texts digests h.1)

abbrev IsSpelled : Listed → Type 0
IsSpelled path = (digests : List (List ℕ)) × AllZip SpellsDigest path.1 digests

abbrev IsBadAt : ℕ → Listed → Type 0
IsBadAt j path = IsFirstFailing IsGood (λ text. ¬ IsGood text) path.1 j

all_spelled : (listed pairs : List Listed) → AllZip IsDecoded listed pairs → All IsSpelled listed
all_spelled [] pairs h = All-nil IsSpelled
all_spelled (l ∷ listed) [] h = absurd h
all_spelled (l ∷ listed) (p ∷ pairs) h = All-cons IsSpelled l listed (p.1, h.0.1) (all_spelled listed pairs h.1)

bad_path : (j : ℕ) (path : Listed) → IsBadAt j path → ¬ (IsSpelled path)
bad_path j path bad spelled = not_all IsGood (λ text. ¬ IsGood text) (λ text no. no) path.1 j bad (all_good path.1 spelled.0 spelled.1)

one_bad_digest : (listed : List Listed) (i j k l : ℕ) → IsFirstBadDigest listed i j → IsFirstBadDigest listed k l → (i ≡ k) × (j ≡ l)
one_bad_digest listed i j k l f g =
    let place : i ≡ k = one_failing IsSpelled (IsBadAt j) (IsBadAt l) (bad_path j) (bad_path l) listed i k f g in
    let item : f.item ≡ g.item = one_item f.before f.after g.before g.after f.item g.item (sym f.cut ∙ g.cut) (f.counted ∙ place ∙ sym g.counted) in
    let bad : IsBadAt j g.item = subst (IsBadAt j) item f.fails in
    (place, one_failing IsGood (λ text. ¬ IsGood text) (λ text. ¬ IsGood text) (λ text no. no) (λ text no. no) g.item.1 j l bad g.fails)

-- ---- the first text that is no pattern

abbrev IsNone : List ℕ → Type 0
IsNone text = ¬ IsPattern text

stop_not_all : (texts : List (List ℕ)) (place : ℕ) → IsSomeAnd (slice_get texts place) IsNone → ¬ (All IsPattern texts)
stop_not_all [] place h all = h
stop_not_all (t ∷ texts) zero h all = h (all 0 t (omega arith))
stop_not_all (t ∷ texts) (suc place) h all = stop_not_all texts place h (λ i d below. all (suc i) d (omega arith))

one_stop : (texts : List (List ℕ)) (i j : ℕ) → StopsAt texts i IsNone → StopsAt texts j IsNone → i ≡ j
one_stop [] i j f g = absurd f.1
one_stop (t ∷ texts) zero zero f g = refl
one_stop (t ∷ texts) zero (suc j) f g = absurd (f.1 (g.0 0 t (omega arith)))
one_stop (t ∷ texts) (suc i) zero f g = absurd (g.1 (f.0 0 t (omega arith)))
one_stop (t ∷ texts) (suc i) (suc j) f g =
    ap suc (one_stop texts i j (λ n d below. f.0 (suc n) d (omega arith), f.1) (λ n d below. g.0 (suc n) d (omega arith), g.1))

-- ---- the tests of a JSON policy's value, in their order

data Test : Type 0 where
  an_object : Test
  a_member : Test
  a_listing : Test
  few_paths : Test
  digests : Test
  texts : Test
  few_patterns : Test
  short_patterns : Test
  a_choice : Test
  no_keyrings : Test
  no_buffers : Test
  no_keys : Test
  patterns : Test

abbrev HasFew : Data → Type 0
HasFew d = (listed : List Listed) × (member_as as_listing (codes "digests") d ≡ Some listed) × (length listed ≤ 262144)

abbrev HasFewPatterns : Data → Type 0
HasFewPatterns d = (ps : List (List ℕ)) × (optional [] as_texts (codes "excludes") d ≡ Some ps) × (length ps ≤ 32)

abbrev HasGoodPatterns : Data → Type 0
HasGoodPatterns d = (ps : List (List ℕ)) × HasPatterns d ps × All IsPattern ps

abbrev Passes : Data → Test → Type 0
Passes d an_object = IsSome (as_object d)
Passes d a_member = IsSome (get (codes "digests") d)
Passes d a_listing = IsSome (member_as as_listing (codes "digests") d)
Passes d few_paths = HasFew d
Passes d digests = HasSomeDigests d
Passes d texts = IsSome (optional [] as_texts (codes "excludes") d)
Passes d few_patterns = HasFewPatterns d
Passes d short_patterns = HasSomePatterns d
Passes d a_choice = HasSomeChoice d
Passes d no_keyrings = IsBlank (codes "keyrings") d
Passes d no_buffers = IsBlank (codes "ima-buf") d
Passes d no_keys = IsBlank (codes "verification-keys") d
Passes d patterns = HasGoodPatterns d

-- of these tests, this is the first that the value does not pass
abbrev FailsAt : Data → List Test → Test → Type 0
FailsAt d [] test = ⊥
FailsAt d (first ∷ more) test = ((test ≡ first) × (¬ Passes d first)) ⊎ (Passes d first × FailsAt d more test)

one_test : (d : Data) (tests : List Test) (t u : Test) → FailsAt d tests t → FailsAt d tests u → t ≡ u
one_test d [] t u h k = absurd h
one_test d (first ∷ more) t u (inl h) (inl k) = h.0 ∙ sym k.0
one_test d (first ∷ more) t u (inl h) (inr k) = absurd (h.1 k.0)
one_test d (first ∷ more) t u (inr h) (inl k) = absurd (k.1 h.0)
one_test d (first ∷ more) t u (inr h) (inr k) = one_test d more t u h.1 k.1

never_fails : (d : Data) (tests : List Test) (t : Test) → ((test : Test) → Passes d test) → ¬ (FailsAt d tests t)
never_fails d [] t all h = h
never_fails d (first ∷ more) t all (inl h) = h.1 (all first)
never_fails d (first ∷ more) t all (inr h) = never_fails d more t all h.1

abbrev after_patterns : List Test
after_patterns = a_choice ∷ no_keyrings ∷ no_buffers ∷ no_keys ∷ patterns ∷ []

abbrev after_digests : List Test
after_digests = texts ∷ few_patterns ∷ short_patterns ∷ after_patterns

abbrev after_listing : List Test
after_listing = few_paths ∷ digests ∷ after_digests

abbrev tests : List Test
tests = an_object ∷ a_member ∷ a_listing ∷ after_listing

past_listing : (d : Data) (listed : List Listed) (t : Test) → IsSome (as_object d) → member_as as_listing (codes "digests") d ≡ Some listed → FailsAt d after_listing t → FailsAt d tests t
past_listing d listed t object lists h = inr (object, inr (then_present as_listing (get (codes "digests") d) listed lists, inr (present lists, h)))

past_few : (d : Data) (listed : List Listed) (t : Test) → HasListing d listed → FailsAt d (digests ∷ after_digests) t → FailsAt d tests t
past_few d listed t has h = past_listing d listed t has.is_object has.lists (inr ((listed, has.lists, has.few), h))

past_digests : (d : Data) (t : Test) → HasSomeDigests d → FailsAt d after_digests t → FailsAt d tests t
past_digests d t has h = past_few d has.1.listed t has.1.listing (inr (has, h))

past_patterns : (d : Data) (t : Test) → HasSomeDigests d → HasSomePatterns d → FailsAt d after_patterns t → FailsAt d tests t
past_patterns d t has (ps, are) h = past_digests d t has (inr (present are.lists, inr ((ps, are.lists, are.few), inr ((ps, are), h))))

-- ---- the name of a fault is that of the test

abbrev Named : Data → Test → List ℕ → Type 0
Named d an_object name = name ≡ codes "kind " ++ codes "policy"
Named d a_member name = name ≡ codes "missing " ++ codes "digests"
Named d a_listing name = name ≡ codes "kind " ++ codes "digests"
Named d few_paths name = name ≡ codes "limit paths"
Named d digests name = (listed : List Listed) × (i : ℕ) × (j : ℕ) × HasListing d listed × IsFirstBadDigest listed i j × (name ≡ named_text (BadDigest i j))
Named d texts name = name ≡ codes "kind " ++ codes "excludes"
Named d few_patterns name = name ≡ codes "limit patterns"
Named d short_patterns name = name ≡ codes "limit patternbytes"
Named d a_choice name = name ≡ codes "kind " ++ codes "kl-violations"
Named d no_keyrings name = name ≡ codes "unsupported " ++ codes "keyrings"
Named d no_buffers name = name ≡ codes "unsupported " ++ codes "ima-buf"
Named d no_keys name = name ≡ codes "unsupported " ++ codes "verification-keys"
Named d patterns name = (ps : List (List ℕ)) × (place : ℕ) × HasPatterns d ps × StopsAt ps place IsNone × (name ≡ named_text (Exclude (Syntax place)))

one_name : (d : Data) (t : Test) (x y : List ℕ) → Named d t x → Named d t y → x ≡ y
one_name d an_object x y h k = h ∙ sym k
one_name d a_member x y h k = h ∙ sym k
one_name d a_listing x y h k = h ∙ sym k
one_name d few_paths x y h k = h ∙ sym k
one_name d digests x y (listed, i, j, has, bad, is) (others, k, l, has_too, bad_too, is_too) =
    let same = one_listing d has.lists has_too.lists in
    let place = one_bad_digest others i j k l (subst (λ ls. IsFirstBadDigest ls i j) same bad) bad_too in
    is ∙ ap (λ n. named_text (BadDigest n j)) place.0 ∙ ap (λ n. named_text (BadDigest k n)) place.1 ∙ sym is_too
one_name d texts x y h k = h ∙ sym k
one_name d few_patterns x y h k = h ∙ sym k
one_name d short_patterns x y h k = h ∙ sym k
one_name d a_choice x y h k = h ∙ sym k
one_name d no_keyrings x y h k = h ∙ sym k
one_name d no_buffers x y h k = h ∙ sym k
one_name d no_keys x y h k = h ∙ sym k
one_name d patterns x y (ps, i, are, stops, is) (qs, j, are_too, stops_too, is_too) =
    let same = one_patterns d ps qs are are_too in
    is ∙ ap (λ n. named_text (Exclude (Syntax n))) (one_stop qs i j (subst (λ ts. StopsAt ts i IsNone) same stops) stops_too) ∙ sym is_too

-- the name of the first test that the value does not pass
record Names (d : Data) (name : List ℕ) : Type 0 where
  pub test : Test
  pub fails : FailsAt d tests test
  pub named : Named d test name

one_names : (d : Data) (x y : List ℕ) → Names d x → Names d y → x ≡ y
one_names d x y h k = one_name d k.test x y (subst (λ t. Named d t x) (one_test d tests h.test k.test h.fails k.fails) h.named) k.named

-- ---- each fault is of a test

bad_listing : (d : Data) (listed : List Listed) (i j : ℕ) → HasListing d listed → IsFirstBadDigest listed i j → ¬ (HasSomeDigests d)
bad_listing d listed i j has bad (map, k) =
    not_all IsSpelled (IsBadAt j) (bad_path j) listed i bad
    (subst (All IsSpelled) (one_listing d k.listing.lists has.lists) (all_spelled k.listed k.decoded.0 k.decoded.1))

kind_named : (name : List ℕ) (d : Data) → IsKindFault name d → Names d (codes "kind " ++ name)
kind_named name d (inl (is, none)) = record { test = an_object; fails = inl (refl, absent (as_object d) none); named = ap (λ n. codes "kind " ++ n) is }
kind_named name d (inr (inl (is, object, other))) = record {
  test = a_listing;
  fails = inr (object, inr (other.0, inl (refl, absent (member_as as_listing (codes "digests") d) other.1)));
  named = ap (λ n. codes "kind " ++ n) is;
}
kind_named name d (inr (inr (inl (is, has, none)))) = record {
  test = texts;
  fails = past_digests d texts has (inl (refl, absent (optional [] as_texts (codes "excludes") d) none));
  named = ap (λ n. codes "kind " ++ n) is;
}
kind_named name d (inr (inr (inr (is, has, are, none)))) = record {
  test = a_choice;
  fails = past_patterns d a_choice has are (inl (refl, λ chosen. none-some chosen.0 (sym none ∙ chosen.1)));
  named = ap (λ n. codes "kind " ++ n) is;
}

unsupported_named : (name : List ℕ) (d : Data) → HasSomeDigests d → HasSomePatterns d → HasSomeChoice d → IsUnsupported name d → Names d (codes "unsupported " ++ name)
unsupported_named name d has are chosen (inl (is, keyrings)) = record {
  test = no_keyrings;
  fails = past_patterns d no_keyrings has are (inr (chosen, inl (refl, keyrings)));
  named = ap (λ n. codes "unsupported " ++ n) is;
}
unsupported_named name d has are chosen (inr (inl (is, keyrings, buffers))) = record {
  test = no_buffers;
  fails = past_patterns d no_buffers has are (inr (chosen, inr (keyrings, inl (refl, buffers))));
  named = ap (λ n. codes "unsupported " ++ n) is;
}
unsupported_named name d has are chosen (inr (inr (is, keyrings, buffers, keys))) = record {
  test = no_keys;
  fails = past_patterns d no_keys has are (inr (chosen, inr (keyrings, inr (buffers, inl (refl, keys)))));
  named = ap (λ n. codes "unsupported " ++ n) is;
}

many_paths : (d : Data) (listed : List Listed) → member_as as_listing (codes "digests") d ≡ Some listed → 262144 < length listed → ¬ (HasFew d)
many_paths d listed lists many (others, lists_too, few) =
    let same : length listed ≡ length others = ap length (one_listing d lists lists_too) in
    omega (arith, same)

many_patterns : (d : Data) (ps : List (List ℕ)) → optional [] as_texts (codes "excludes") d ≡ Some ps → 32 < length ps → ¬ (HasFewPatterns d)
many_patterns d ps lists many (qs, lists_too, few) =
    let same : length ps ≡ length qs = ap length (same_texts (sym lists ∙ lists_too)) in
    omega (arith, same)

long_pattern : (d : Data) (ps : List (List ℕ)) → optional [] as_texts (codes "excludes") d ≡ Some ps → (¬ All IsShort ps) → ¬ (HasSomePatterns d)
long_pattern d ps lists long (qs, are) = long (subst (All IsShort) (same_texts (sym are.lists ∙ lists)) are.short)

parts_named : (d : Data) (f : PolicyFault) → IsPartsFault d f → is_settled f ≡ true → Names d (named_text f)
parts_named d (Json NotJson) h settled = absurd h
parts_named d (Json (Missing name)) (is, object, missing) settled = record {
  test = a_member;
  fails = inr (object, inl (refl, absent (get (codes "digests") d) missing));
  named = ap (λ n. codes "missing " ++ n) is;
}
parts_named d (Json (Kind name)) h settled = kind_named name.now d h
parts_named d (Json (Range name)) h settled = absurd h
parts_named d (Json no_memory) h settled = absurd h
parts_named d (Line place) h settled = absurd h
parts_named d (BadDigest i j) (listed, has, bad) settled = record {
  test = digests;
  fails = past_few d listed digests has (inl (refl, bad_listing d listed i j has bad));
  named = (listed, i, j, has, bad, refl);
}
parts_named d (Unsupported name) (has, are, chosen, h) settled = unsupported_named name.now d has are chosen h
parts_named d (Over Paths) (listed, object, lists, many) settled = record {
  test = few_paths;
  fails = past_listing d listed few_paths object lists (inl (refl, many_paths d listed lists many));
  named = refl;
}
parts_named d (Over Patterns) (has, (ps, lists, many)) settled = record {
  test = few_patterns;
  fails = past_digests d few_patterns has (inr (present lists, inl (refl, many_patterns d ps lists many)));
  named = refl;
}
parts_named d (Over PatternBytes) (has, (ps, lists, few, long)) settled = record {
  test = short_patterns;
  fails = past_digests d short_patterns has (inr (present lists, inr ((ps, lists, few), inl (refl, long_pattern d ps lists long))));
  named = refl;
}
parts_named d (Exclude why) h settled = absurd h
parts_named d Memory h settled = absurd (false≢true settled)

syntax_named : (d : Data) (m : DigestMap) (ps : List (List ℕ)) (passes : Bool) (place : ℕ) → HasParts d m ps passes → StopsAt ps place IsNone → Names d (named_text (Exclude (Syntax place)))
syntax_named d m ps passes place parts stops = record {
  test = patterns;
  fails = past_patterns d patterns (m, parts.digests_are) (ps, parts.patterns_are)
      (inr (
        (passes, parts.choice_is),
        inr (
          parts.supported.keyrings,
          inr (
            parts.supported.buffers,
            inr (
              parts.supported.keys,
              inl (refl, λ good. stop_not_all ps place stops.1 (subst (All IsPattern) (one_patterns d good.0 ps good.1 parts.patterns_are) good.2)),
            ),
          ),
        ),
      ));
  named = (ps, place, parts.patterns_are, stops, refl);
}

-- ---- of a text

-- it is no JSON, or its value does not pass a test
abbrev JsonNames : List ℕ → List ℕ → Type 0
JsonNames text name = (IsNotJson text × (name ≡ codes "notjson")) ⊎ ((d : Data) × Reads text d × Names d name)

json_named : (text : List ℕ) (old new : MakerTold) (f : PolicyFault) → IsJsonFault text old new f → is_settled f ≡ true → JsonNames text (named_text f)
json_named text old new (Json NotJson) h settled = inl (h.0, refl)
json_named text old new (Json (Missing name)) h settled = inr (h.value, h.reads, parts_named h.value (Json (Missing name)) h.fault settled)
json_named text old new (Json (Kind name)) h settled = inr (h.value, h.reads, parts_named h.value (Json (Kind name)) h.fault settled)
json_named text old new (Json (Range name)) h settled = absurd h.fault
json_named text old new (Json no_memory) h settled = absurd h.fault
json_named text old new (Line place) h settled = absurd h.fault
json_named text old new (BadDigest i j) h settled = inr (h.value, h.reads, parts_named h.value (BadDigest i j) h.fault settled)
json_named text old new (Unsupported name) h settled = inr (h.value, h.reads, parts_named h.value (Unsupported name) h.fault settled)
json_named text old new (Over limit) h settled = inr (h.value, h.reads, parts_named h.value (Over limit) h.fault settled)
json_named text old new (Exclude (Syntax place)) h settled =
    inr (h.value, h.reads, syntax_named h.value h.digests h.patterns h.passes place h.parts h.so.first.0)
json_named text old new (Exclude (TooLarge place)) h settled = absurd (false≢true settled)
json_named text old new (Exclude none_left) h settled = absurd h
json_named text old new Memory h settled = absurd (false≢true settled)

one_json_name : (text x y : List ℕ) → JsonNames text x → JsonNames text y → x ≡ y
one_json_name text x y (inl h) (inl k) = h.1 ∙ sym k.1
one_json_name text x y (inl h) (inr (d, reads, names)) = absurd (h.0 d reads)
one_json_name text x y (inr (d, reads, names)) (inl k) = absurd (k.0 d reads)
one_json_name text x y (inr (d, reads, names)) (inr (e, reads_too, names_too)) =
    one_names e x y (subst (λ v. Names v x) (one_value text d e reads reads_too) names) names_too

all_pass : (text : List ℕ) (m : DigestMap) (ps : List (List ℕ)) (passes : Bool) (h : IsJson text m ps passes) (t : Test) → Passes h.value t
all_pass text m ps passes h an_object = h.parts.digests_are.listing.is_object
all_pass text m ps passes h a_member = then_present as_listing (get (codes "digests") h.value) h.parts.digests_are.listed h.parts.digests_are.listing.lists
all_pass text m ps passes h a_listing = present h.parts.digests_are.listing.lists
all_pass text m ps passes h few_paths = (h.parts.digests_are.listed, h.parts.digests_are.listing.lists, h.parts.digests_are.listing.few)
all_pass text m ps passes h digests = (m, h.parts.digests_are)
all_pass text m ps passes h texts = present h.parts.patterns_are.lists
all_pass text m ps passes h few_patterns = (ps, h.parts.patterns_are.lists, h.parts.patterns_are.few)
all_pass text m ps passes h short_patterns = (ps, h.parts.patterns_are)
all_pass text m ps passes h a_choice = (passes, h.parts.choice_is)
all_pass text m ps passes h no_keyrings = h.parts.supported.keyrings
all_pass text m ps passes h no_buffers = h.parts.supported.buffers
all_pass text m ps passes h no_keys = h.parts.supported.keys
all_pass text m ps passes h patterns = (ps, h.parts.patterns_are, h.are_patterns)

no_json_name : (text : List ℕ) (m : DigestMap) (ps : List (List ℕ)) (passes : Bool) (name : List ℕ) → IsJson text m ps passes → ¬ (JsonNames text name)
no_json_name text m ps passes name h (inl k) = k.0 h.value h.reads
no_json_name text m ps passes name h (inr (d, reads, names)) =
    let there : Names h.value name = subst (λ v. Names v name) (one_value text d h.value reads h.reads) names in
    never_fails h.value tests there.test (all_pass text m ps passes h) there.fails

-- its first bad line, or too many paths where all lines are good
abbrev FlatNames : List ℕ → List ℕ → Type 0
FlatNames text name =
    ((place : ℕ) × BreaksAt (lines_of text) place × (name ≡ named_text (Line place)))
    ⊎ ((m : DigestMap) × ListsDigests text m × (262144 < finite_map.len m) × (name ≡ codes "limit paths"))

flat_named : (text : List ℕ) (f : PolicyFault) → IsFlatFault text f → is_settled f ≡ true → FlatNames text (named_text f)
flat_named text (Line place) h settled = inl (place, h, refl)
flat_named text (Over Paths) h settled = inr (h.0, h.1, h.2, refl)
flat_named text (Over Patterns) h settled = absurd h
flat_named text (Over PatternBytes) h settled = absurd h
flat_named text (Json why) h settled = absurd h
flat_named text (BadDigest i j) h settled = absurd h
flat_named text (Unsupported name) h settled = absurd h
flat_named text (Exclude why) h settled = absurd h
flat_named text Memory h settled = absurd (false≢true settled)

one_flat_name : (text x y : List ℕ) → FlatNames text x → FlatNames text y → x ≡ y
one_flat_name text x y (inl (i, h, is)) (inl (j, k, is_too)) = is ∙ ap (λ n. named_text (Line n)) (one_bad_line (lines_of text) i j h k) ∙ sym is_too
one_flat_name text x y (inl (i, h, is)) (inr (m, lists, many, is_too)) = absurd (no_digests text i m h lists)
one_flat_name text x y (inr (m, lists, many, is)) (inl (j, k, is_too)) = absurd (no_digests text j m k lists)
one_flat_name text x y (inr (m, lists, many, is)) (inr (n, lists_too, many_too, is_too)) = is ∙ sym is_too

no_flat_name : (text : List ℕ) (m : DigestMap) (name : List ℕ) → ListsDigests text m → finite_map.len m ≤ 262144 → ¬ (FlatNames text name)
no_flat_name text m name lists few (inl (i, bad, is)) = no_digests text i m bad lists
no_flat_name text m name lists few (inr (n, lists_too, many, is)) =
    let same : finite_map.len m ≡ finite_map.len n = ap finite_map.len (digests_same text m n lists lists_too) in
    omega (arith, same)

-- ---- in either form

pub one_policy : (kind : PolicyKind) (text : List ℕ) (p q : PolicyFields) → IsPolicy kind text p → IsPolicy kind text q → p ≡ q
one_policy kind text p q h k = same_policy p q (own p h) (own q k) (h.form ∙ sym k.form) (h.source ∙ sym k.source)
  where
    own : (r : PolicyFields) → IsPolicy kind text r → IsReading r.source r.kind r.digests r.patterns r.passes_violations
    own r is =
        subst (λ (s : List ℕ). IsReading s r.kind r.digests r.patterns r.passes_violations) (sym is.source)
        (subst (λ (k : PolicyKind). IsReading text k r.digests r.patterns r.passes_violations) (sym is.form) is.says)

pub no_fault : (kind : PolicyKind) (text : List ℕ) (old new : MakerTold) (p : PolicyFields) (f : PolicyFault) → IsPolicy kind text p → IsNoPolicy kind text old new f
    → is_settled f ≡ true → ⊥
no_fault kind.Flat text old new p f h k settled = no_flat_name text p.digests (named_text f) h.says.lists h.says.few (flat_named text f k.0 settled)
no_fault kind.Json text old new p f h k settled =
    no_json_name text p.digests p.patterns p.passes_violations (named_text f) h.says (json_named text old new f k settled)

pub one_named : (kind : PolicyKind) (text : List ℕ) (a b c d : MakerTold) (f g : PolicyFault) → IsNoPolicy kind text a b f → IsNoPolicy kind text c d g → is_settled f ≡ true
    → is_settled g ≡ true → named_text f ≡ named_text g
one_named kind.Flat text a b c d f g h k first second =
    one_flat_name text (named_text f) (named_text g) (flat_named text f h.0 first) (flat_named text g k.0 second)
one_named kind.Json text a b c d f g h k first second =
    one_json_name text (named_text f) (named_text g) (json_named text a b f h first) (json_named text c d g k second)
