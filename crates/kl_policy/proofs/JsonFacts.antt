-- What a JSON policy's value says, by the values in memory.
use Rattle.std.proofs.Common.{◌≡◌, ℕ, zero, suc, ◌<◌, ◌≤◌, Bool, Option, Some, None, option_map, option_and_then, Result, Ok, Err, IfOk, List, [], ◌∷◌, ◌++◌, length, get_or, inl, inr, refl, sym, ap, subst, ◌∙◌, arith, eqb-true, codes, string_bytes, IsSome, IsTrue, is_some, ◌↔◌, ◌==◌}
use Rattle.std.proofs.lemmas.List.{append-nil}
use Rattle.std.proofs.lemmas.List.Elements.{All-nil, All-cons}
use Rattle.std.proofs.lemmas.List.Sums.{fold_push}
use Rattle.std.specs.Cmp.Lexicographic.{slice_cmp, nat_list_cmp_total}
use Rattle.std.specs.FinMap as finite_map
use Rattle.std.specs.FinSet.{insert, from_list, from_list_push, slice_cmp-IsAntisymmetric, nat_cmp-IsAntisymmetric}
use Rattle.std.specs.List.{AllZip}
use Rattle.std.specs.Ordering.{nat_cmp}
use Rattle.serde_json.specs.Data.{Data, array, object}
use Rattle.serde_json.specs.Find.{get, as_str}
use Rattle.serde_json.specs.View.{view, items_view, members_view}
use Rattle.serde_json.specs.declared.value.Value.{Value}
use Rattle.kl_exclude.specs.Told.{MakerTold}
use Rattle.kl_exclude.specs.declared.fault.ExcludeFault.TheVariants.{Syntax, TooLarge, Memory as none_left}
use Rattle.kl_json.specs.Reading.{Reads}
use Rattle.kl_json.specs.declared.fault.JsonFault.TheVariants.{NotJson, Missing, Kind, Range, Memory as no_memory}
use Rattle.kl_entry.specs.Lines.{IsFirstFailing}
use Rattle.kl_digests.specs.Digests.{DigestMap, SpellsDigest}
use Rattle.kl_policy.specs.Json.{Listed, texts_in, as_texts, listed_in, as_blank, with_path, map_of, IsDecoded, IsGood, IsFirstBadDigest, HasListing, HasParts, IsPartsFault, optional, read_or}
use Rattle.kl_policy.specs.Inner.JsonParts.{Entry, AreTexts, SpellsValue, SpellsAll, IsCopyFault, IsTextsFault, IsListingFault, IsRestFault, IsCompileFault}
use Rattle.kl_policy.specs.Making.{IsJsonFault, IsOfPatterns, IsExcludeFault, AsksFront, Makes}
use Rattle.kl_policy.specs.Reading.{IsJson}
use Rattle.kl_policy.specs.declared.fault.Limit.TheVariants.{Paths, Patterns, PatternBytes}
use Rattle.kl_policy.specs.declared.fault.PolicyFault.{PolicyFault}
use Rattle.kl_policy.specs.declared.fault.PolicyFault.TheVariants.{Json, Line, BadDigest, Unsupported, Limit as Over, Exclude, Memory}

-- ---- items that are read one by one

-- what each item is read as; none, where one has no reading
abbrev pub collect : {A B : Type 0} → (A → Option B) → List A → Option (List B)
collect read [] = Some []
collect read (x ∷ xs) = option_and_then (λ y. option_map (λ ys. y ∷ ys) (collect read xs)) (read x)

map_some : {B : Type 0} (y : B) (o : Option (List B)) → is_some (option_map (λ ys. y ∷ ys) o) ≡ is_some o
map_some y None = refl
map_some y (Some ys) = refl

-- an item that is read decides nothing
pub collect_first : {A B : Type 0} (read : A → Option B) (x : A) (xs : List A) (y : B) → read x ≡ Some y → is_some (collect read (x ∷ xs)) ≡ is_some (collect read xs)
collect_first read x xs y is = ap (λ o. is_some (option_and_then (λ y. option_map (λ ys. y ∷ ys) (collect read xs)) o)) is ∙ map_some y (collect read xs)

-- one that is not read decides
pub collect_none : {A B : Type 0} (read : A → Option B) (x : A) (xs : List A) → read x ≡ None → collect read (x ∷ xs) ≡ None
collect_none read x xs is = ap (λ o. option_and_then (λ y. option_map (λ ys. y ∷ ys) (collect read xs)) o) is

pub all_collect : {A B : Type 0} (read : A → Option B) (xs : List A) (ys : List B) → AllZip (λ x y. read x ≡ Some y) xs ys → collect read xs ≡ Some ys
all_collect read [] [] h = refl
all_collect read [] (y ∷ ys) h = absurd h
all_collect read (x ∷ xs) [] h = absurd h
all_collect read (x ∷ xs) (y ∷ ys) h =
    ap (λ o. option_and_then (λ y. option_map (λ ys. y ∷ ys) (collect read xs)) o) h.0 ∙ ap (option_map (λ ys. y ∷ ys)) (all_collect read xs ys h.1)

pub collect_all : {A B : Type 0} (read : A → Option B) (xs : List A) (ys : List B) → collect read xs ≡ Some ys → AllZip (λ x y. read x ≡ Some y) xs ys
collect_all read [] [] is = tt
collect_all read [] (y ∷ ys) is = cc is
collect_all {A = A} {B = B} read (x ∷ xs) ys is = by_first (λ zs rest. collect_all read xs zs rest) (read x) refl ys is
  where
    by_rest : ((zs : List B) → collect read xs ≡ Some zs → AllZip (λ x y. read x ≡ Some y) xs zs) → (y : B) → read x ≡ Some y → (o : Option (List B)) → collect read xs ≡ o → (zs : List B)
        → option_map (λ ys. y ∷ ys) o ≡ Some zs → AllZip (λ x y. read x ≡ Some y) (x ∷ xs) zs
    by_rest later y first None rest zs is = cc is
    by_rest later y first (Some others) rest [] is = cc is
    by_rest later y first (Some others) rest (z ∷ zs) is =
        let heads : Some (y ∷ others) ≡ Some (z ∷ zs) = is in
        let head : y ≡ z = cc heads in
        let tail : others ≡ zs = cc heads in
        (first ∙ ap Some head, later zs (rest ∙ ap Some tail))

    by_first : ((zs : List B) → collect read xs ≡ Some zs → AllZip (λ x y. read x ≡ Some y) xs zs) → (o : Option B) → read x ≡ o → (zs : List B)
        → collect read (x ∷ xs) ≡ Some zs → AllZip (λ x y. read x ≡ Some y) (x ∷ xs) zs
    by_first later None first zs is = let no : None ≡ Some zs = sym (collect_none read x xs first) ∙ is in cc no
    by_first later (Some y) first zs is =
        by_rest later y first (collect read xs) refl zs (sym (ap (λ o. option_and_then (λ y. option_map (λ ys. y ∷ ys) (collect read xs)) o) first) ∙ is)

-- where all are read, each is
pub collect_each : {A B : Type 0} (read : A → Option B) (before : List A) (x : A) (after : List A) → IsSome (collect read (before ++ x ∷ after)) → IsSome (read x)
collect_each {B = B} read [] x after h = by_first (read x) refl
  where
    by_first : (o : Option B) → read x ≡ o → IsSome (read x)
    by_first None is = cc (sym (ap is_some (collect_none read x after is)) ∙ h)
    by_first (Some y) is = ap is_some is
collect_each {B = B} read (b ∷ before) x after h = collect_each read before x after (by_first (read b) refl)
  where
    by_first : (o : Option B) → read b ≡ o → IsSome (collect read (before ++ x ∷ after))
    by_first None is = cc (sym (ap is_some (collect_none read b (before ++ x ∷ after) is)) ∙ h)
    by_first (Some y) is = sym (collect_first read b (before ++ x ∷ after) y is) ∙ h

-- ---- texts

pub same_text : {text other : List ℕ} → Some text ≡ Some other → text ≡ other
same_text is = cc is

pub same_texts : {texts others : List (List ℕ)} → Some texts ≡ Some others → texts ≡ others
same_texts is = cc is

-- two facts of one answer
pub both_ok : {A E : Type 0} (r : Result A E) (P Q : A → Type 0) → IfOk r P → IfOk r Q → IfOk r (λ a. P a × Q a)
both_ok (Ok a) P Q p q = (p, q)
both_ok (Err e) P Q p q = tt

abbrev pub read_text : Value → Option (List ℕ)
read_text value = as_str (view value)

pub texts_collect : (vs : List Value) → texts_in (items_view vs) ≡ collect read_text vs
texts_collect [] = refl
texts_collect (v ∷ vs) = ap (λ rest. option_and_then (λ text. option_map (λ texts. text ∷ texts) rest) (read_text v)) (texts_collect vs)

-- texts are the values' own
pub are_texts : (vs : List Value) (texts : List (List ℕ)) → texts_in (items_view vs) ≡ Some texts → AreTexts vs texts
are_texts vs texts is = collect_all read_text vs texts (sym (texts_collect vs) ∙ is)

-- and what the values are is what is read of them
pub texts_are : (vs : List Value) (texts : List (List ℕ)) → AreTexts vs texts → texts_in (items_view vs) ≡ Some texts
texts_are vs texts h = texts_collect vs ∙ all_collect read_text vs texts h

-- the text at a place is the value's
pub text_at : (vs : List Value) (texts : List (List ℕ)) (i : ℕ) (v : Value) → AreTexts vs texts → i < length vs → as_str (view (get_or vs i v)) ≡ Some (get_or texts i [])
text_at [] texts i v h below = absurd (omega arith)
text_at (x ∷ vs) [] i v h below = absurd h
text_at (x ∷ vs) (t ∷ texts) zero v h below = h.0
text_at (x ∷ vs) (t ∷ texts) (suc i) v h below = text_at vs texts i v h.1 (omega arith)

-- a value that is there
pub some_is : {A : Type 0} (o : Option A) → IsSome o → (a : A) × (o ≡ Some a)
some_is None h = cc h
some_is (Some a) h = (a, refl)

-- ---- members

-- a path and the texts of its digests
abbrev pub read_entry : Entry → Option Listed
read_entry entry = option_map (λ texts. (string_bytes entry.0, texts)) (as_texts (view entry.1))

then_map : {A B C : Type 0} (f : B → Option C) (g : A → B) (o : Option A) → option_and_then f (option_map g o) ≡ option_and_then (λ a. f (g a)) o
then_map f g None = refl
then_map f g (Some a) = refl

pub members_collect : (es : List Entry) → listed_in (members_view es) ≡ collect read_entry es
members_collect [] = refl
members_collect (e ∷ es) =
    ap (λ rest. option_and_then (λ texts. option_map (λ ls. (string_bytes e.0, texts) ∷ ls) rest) (as_texts (view e.1))) (members_collect es)
    ∙ sym (then_map (λ l. option_map (λ ls. l ∷ ls) (collect read_entry es)) (λ texts. (string_bytes e.0, texts)) (as_texts (view e.1)))

pub are_members : (es : List Entry) (listed : List Listed) → listed_in (members_view es) ≡ Some listed → AllZip (λ e l. read_entry e ≡ Some l) es listed
are_members es listed is = collect_all read_entry es listed (sym (members_collect es) ∙ is)

-- of a member that is read: its texts
pub entry_texts : (e : Entry) (l : Listed) → read_entry e ≡ Some l → (l.0 ≡ string_bytes e.0) × (as_texts (view e.1) ≡ Some l.1)
entry_texts e l is = by_texts (as_texts (view e.1)) refl
  where
    by_texts : (o : Option (List (List ℕ))) → as_texts (view e.1) ≡ o → (l.0 ≡ string_bytes e.0) × (as_texts (view e.1) ≡ Some l.1)
    by_texts None there = let no : None ≡ Some l = sym (ap (option_map (λ texts. (string_bytes e.0, texts))) there) ∙ is in cc no
    by_texts (Some texts) there =
        let one : Some (string_bytes e.0, texts) ≡ Some l = sym (ap (option_map (λ texts. (string_bytes e.0, texts))) there) ∙ is in
        let pair : (string_bytes e.0, texts) ≡ l = cc one in
        (sym (ap (λ (x : Listed). x.0) pair), there ∙ ap (λ (x : Listed). Some x.1) pair)

-- ---- items beside what they are read as

-- what is read beside what is made of the same items
pub zip_both : {A B C : Type 0} (R : A → B → Type 0) (S : A → C → Type 0) (T : B → C → Type 0) → ((a : A) (b : B) (c : C) → R a b → S a c → T b c)
    → (xs : List A) (ys : List B) (zs : List C) → AllZip R xs ys → AllZip S xs zs → AllZip T ys zs
zip_both R S T each [] [] [] r s = tt
zip_both R S T each [] [] (z ∷ zs) r s = absurd s
zip_both R S T each [] (y ∷ ys) zs r s = absurd r
zip_both R S T each (x ∷ xs) [] zs r s = absurd r
zip_both R S T each (x ∷ xs) (y ∷ ys) [] r s = absurd s
zip_both R S T each (x ∷ xs) (y ∷ ys) (z ∷ zs) r s = (each x y z r.0 s.0, zip_both R S T each xs ys zs r.1 s.1)

-- the first item of which nothing is made is read as the first that fails
pub first_unmade : {A B C : Type 0} (R : A → B → Type 0) (S : A → C → Type 0) (Good Fails : B → Type 0) → ((a : A) (b : B) (c : C) → R a b → S a c → Good b)
    → (before : List A) (x : A) (after : List A) (ys : List B) (zs : List C) → AllZip R (before ++ x ∷ after) ys → AllZip S before zs
    → ((b : B) → R x b → Fails b) → IsFirstFailing Good Fails ys (length before)
first_unmade R S Good Fails each [] x after [] zs r s fails = absurd r
first_unmade R S Good Fails each [] x after (y ∷ ys) zs r s fails = record {
  before = [];
  item = y;
  after = ys;
  cut = refl;
  counted = refl;
  good = All-nil Good;
  fails = fails y r.0;
}
first_unmade R S Good Fails each (b ∷ before) x after [] zs r s fails = absurd r
first_unmade R S Good Fails each (b ∷ before) x after (y ∷ ys) [] r s fails = absurd s
first_unmade {B = B} R S Good Fails each (b ∷ before) x after (y ∷ ys) (z ∷ zs) r s fails =
    let rest : IsFirstFailing Good Fails ys (length before) = first_unmade R S Good Fails each before x after ys zs r.1 s.1 fails in
    record {
      before = y ∷ rest.before;
      item = rest.item;
      after = rest.after;
      cut = ap (λ (more : List B). y ∷ more) rest.cut;
      counted = ap suc rest.counted;
      good = All-cons Good y rest.before (each b y z r.0 s.0) rest.good;
      fails = rest.fails;
    }

-- ---- what says nothing

pub blank_items : (vs : List Value) (b : Bool) → b ≡ (length vs == 0) → (IsTrue b → IsSome (as_blank (array (items_view vs)))) × (IsSome (as_blank (array (items_view vs))) → IsTrue b)
blank_items [] b is = (λ _. refl, λ _. is)
blank_items (v ∷ vs) b is = (λ h. absurd (let none : length (v ∷ vs) ≡ 0 = eqb-true (length (v ∷ vs)) 0 (sym is ∙ h) in omega arith), λ h. cc h)

pub blank_members : (es : List Entry) (b : Bool) → IsTrue b ↔ (length es ≡ 0) → (IsTrue b → IsSome (as_blank (object (members_view es)))) × (IsSome (as_blank (object (members_view es))) → IsTrue b)
blank_members [] b is = (λ _. refl, λ _. is.1 refl)
blank_members (e ∷ es) b is = (λ h. absurd (let no : length (e ∷ es) ≡ 0 = is.0 h in omega arith), λ h. cc h)

-- ---- the exclude patterns

-- what the member of this name is read as
pub read_member : {A : Type 0} (absent : A) (kind : Data → Option A) (name : List ℕ) (d : Data) (value : Option Data) → value ≡ get name d → optional absent kind name d ≡ read_or absent kind value
read_member absent kind name d value is = ap (read_or absent kind) (sym is)

-- texts of which one is too long
pub copy_fault : (d : Data) (texts : List (List ℕ)) → optional [] as_texts (codes "excludes") d ≡ Some texts → length texts ≤ 32
    → (fault : PolicyFault) → IsCopyFault texts fault → IsRestFault d fault
copy_fault d texts lists few (Json f) h = absurd h
copy_fault d texts lists few (Line place) h = absurd h
copy_fault d texts lists few (BadDigest i j) h = absurd h
copy_fault d texts lists few (Unsupported name) h = absurd h
copy_fault d texts lists few (Over Paths) h = absurd h
copy_fault d texts lists few (Over Patterns) h = absurd h
copy_fault d texts lists few (Over PatternBytes) h = λ digests. (digests, (texts, lists, few, h))
copy_fault d texts lists few (Exclude why) h = absurd h
copy_fault d texts lists few Memory h = λ digests. tt

-- ---- digests

-- a value that spells a digest is a good text
pub good_value : (v : Value) (text digest : List ℕ) → as_str (view v) ≡ Some text → SpellsValue v digest → SpellsDigest text digest
good_value v text digest is h = subst (λ (t : List ℕ). SpellsDigest t digest) (same_text (sym h.1 ∙ is)) h.2

pub is_good : (v : Value) (text digest : List ℕ) → as_str (view v) ≡ Some text → SpellsValue v digest → IsGood text
is_good v text digest is h = (digest, good_value v text digest is h)

-- the set with one digest more
pub set_push : (digests : List (List ℕ)) (digest : List ℕ) → insert (from_list {R = slice_cmp nat_cmp} digests) digest ≡ from_list (digests ++ digest ∷ [])
set_push digests digest = sym (from_list_push nat_list_cmp_total (slice_cmp-IsAntisymmetric nat_cmp-IsAntisymmetric) digests digest)

-- the map with one path more
pub map_push : (pairs : List Listed) (pair : Listed) → with_path (map_of pairs) pair ≡ map_of (pairs ++ pair ∷ [])
map_push pairs pair = sym (fold_push with_path finite_map.empty pairs pair)

-- a member that spells digests
pub decoded_member : (e : Entry) (l pair : Listed) → read_entry e ≡ Some l → SpellsAll e pair → IsDecoded l pair
decoded_member e l pair is h =
    let parts = entry_texts e l is in
    (h.0 ∙ sym parts.0, subst (λ (texts : List (List ℕ)). AllZip SpellsDigest texts pair.1) (same_texts (sym h.1.1 ∙ parts.1)) h.1.2)

pub good_member : (e : Entry) (l pair : Listed) → read_entry e ≡ Some l → SpellsAll e pair → (digests : List (List ℕ)) × AllZip SpellsDigest l.1 digests
good_member e l pair is h = (pair.1, (decoded_member e l pair is h).1)

-- where a member is read, its texts are
texts_at : (e : Entry) → IsSome (read_entry e) → IsSome (as_texts (view e.1))
texts_at e h = by_texts (as_texts (view e.1)) h
  where
    by_texts : (o : Option (List (List ℕ))) → IsSome (option_map {U = Listed} (λ texts. (string_bytes e.0, texts)) o) → IsSome o
    by_texts None h = cc h
    by_texts (Some texts) h = refl

-- each member of a listing is a list of texts
pub member_texts : (before : List Entry) (e : Entry) (after : List Entry) → IsSome (listed_in (members_view (before ++ e ∷ after))) → IsSome (as_texts (view e.1))
member_texts before e after h =
    texts_at e (collect_each read_entry before e after (ap is_some (sym (members_collect (before ++ e ∷ after))) ∙ h))

-- what an item in the middle is read as
zip_at : {A B : Type 0} (R : A → B → Type 0) (before : List A) (x : A) (after : List A) (ys : List B) → AllZip R (before ++ x ∷ after) ys → (y : B) × R x y
zip_at R [] x after [] r = absurd r
zip_at R [] x after (y ∷ ys) r = (y, r.0)
zip_at R (b ∷ before) x after [] r = absurd r
zip_at R (b ∷ before) x after (y ∷ ys) r = zip_at R before x after ys r.1

-- the first member whose texts don't spell digests
pub listing_fault : (before : List Entry) (e : Entry) (after : List Entry) (listed pairs : List Listed) → AllZip (λ e l. read_entry e ≡ Some l) (before ++ e ∷ after) listed
    → AllZip SpellsAll before pairs → (place : ℕ) → place ≡ length before → (fault : PolicyFault)
    → ((texts : List (List ℕ)) → as_texts (view e.1) ≡ Some texts → IsTextsFault place texts fault) → IsListingFault listed fault
listing_fault before e after listed pairs read spelled place counted (Json f) h = let l = zip_at (λ e l. read_entry e ≡ Some l) before e after listed read in h l.0.1 (entry_texts e l.0 l.1).1
listing_fault before e after listed pairs read spelled place counted (Line n) h = let l = zip_at (λ e l. read_entry e ≡ Some l) before e after listed read in h l.0.1 (entry_texts e l.0 l.1).1
listing_fault before e after listed pairs read spelled place counted (BadDigest path j) h =
    let l = zip_at (λ e l. read_entry e ≡ Some l) before e after listed read in
    let named : length before ≡ path = sym counted ∙ sym (h l.0.1 (entry_texts e l.0 l.1).1).0 in
    subst (λ (n : ℕ). IsFirstBadDigest listed n j) named
    (first_unmade (λ e l. read_entry e ≡ Some l) SpellsAll (λ path. (digests : List (List ℕ)) × AllZip SpellsDigest path.1 digests) (λ path. IsFirstFailing IsGood (λ text. ¬ IsGood text) path.1 j)
    good_member before e after listed pairs read spelled (λ m is. (h m.1 (entry_texts e m is).1).1))
listing_fault before e after listed pairs read spelled place counted (Unsupported name) h = let l = zip_at (λ e l. read_entry e ≡ Some l) before e after listed read in h l.0.1 (entry_texts e l.0 l.1).1
listing_fault before e after listed pairs read spelled place counted (Over limit) h = let l = zip_at (λ e l. read_entry e ≡ Some l) before e after listed read in h l.0.1 (entry_texts e l.0 l.1).1
listing_fault before e after listed pairs read spelled place counted (Exclude why) h = let l = zip_at (λ e l. read_entry e ≡ Some l) before e after listed read in h l.0.1 (entry_texts e l.0 l.1).1
listing_fault before e after listed pairs read spelled place counted Memory h = tt

-- the faults of the digests are those of the policy
pub digests_fault : (d : Data) (listed : List Listed) → HasListing d listed → (fault : PolicyFault) → IsListingFault listed fault → IsPartsFault d fault
digests_fault d listed lists (Json f) h = absurd h
digests_fault d listed lists (Line n) h = absurd h
digests_fault d listed lists (BadDigest i j) h = (listed, lists, h)
digests_fault d listed lists (Unsupported name) h = absurd h
digests_fault d listed lists (Over limit) h = absurd h
digests_fault d listed lists (Exclude why) h = absurd h
digests_fault d listed lists Memory h = tt

-- what a policy's value lacks makes its text none
pub value_fault : (text : List ℕ) (d : Data) (told : MakerTold) → Reads text d → (fault : PolicyFault) → IsPartsFault d fault → IsJsonFault text told told fault
value_fault text d told reads (Json NotJson) h = absurd h
value_fault text d told reads (Json (Missing name)) h = record { value = d; reads = reads; fault = h; unasked = refl }
value_fault text d told reads (Json (Kind name)) h = record { value = d; reads = reads; fault = h; unasked = refl }
value_fault text d told reads (Json (Range name)) h = absurd h
value_fault text d told reads (Json no_memory) h = absurd h
value_fault text d told reads (Line place) h = absurd h
value_fault text d told reads (BadDigest i j) h = record { value = d; reads = reads; fault = h; unasked = refl }
value_fault text d told reads (Unsupported name) h = record { value = d; reads = reads; fault = h; unasked = refl }
value_fault text d told reads (Over limit) h = record { value = d; reads = reads; fault = h; unasked = refl }
value_fault text d told reads (Exclude why) h = absurd h
value_fault text d told reads Memory h = inl refl

of_patterns : (text : List ℕ) (d : Data) (digests : DigestMap) (patterns : List (List ℕ)) (passes : Bool) (So : List (List ℕ) → Type 0) → Reads text d
    → HasParts d digests patterns passes → So patterns → IsOfPatterns text So
of_patterns text d digests patterns passes So reads parts so =
    record { value = d; reads = reads; digests = digests; patterns = patterns; passes = passes; parts = parts; so = so }

-- where memory ran out behind the last pattern, all were asked
pub asks_all : (patterns : List (List ℕ)) (old new : MakerTold) → Makes patterns old new → AsksFront patterns old new
asks_all patterns old new made = record { front = patterns; rest = []; cut = sym (append-nil patterns); asked = made.asked; refused = made.refused }

pub memory_fault : (text : List ℕ) (digests : DigestMap) (patterns : List (List ℕ)) (passes : Bool) (old new : MakerTold) → IsJson text digests patterns passes → Makes patterns old new
    → IsJsonFault text old new Memory
memory_fault text digests patterns passes old new is made =
    inr (of_patterns text is.value digests patterns passes (λ ps. AsksFront ps old new) is.reads is.parts (asks_all patterns old new made))

-- nor one whose patterns are none
pub patterns_fault : (text : List ℕ) (d : Data) (digests : DigestMap) (patterns : List (List ℕ)) (passes : Bool) (old new : MakerTold) → Reads text d → HasParts d digests patterns passes
    → (fault : PolicyFault) → IsCompileFault patterns old new fault → IsJsonFault text old new fault
patterns_fault text d digests patterns passes old new reads parts (Json f) h = absurd h
patterns_fault text d digests patterns passes old new reads parts (Line place) h = absurd h
patterns_fault text d digests patterns passes old new reads parts (BadDigest i j) h = absurd h
patterns_fault text d digests patterns passes old new reads parts (Unsupported name) h = absurd h
patterns_fault text d digests patterns passes old new reads parts (Over limit) h = absurd h
patterns_fault text d digests patterns passes old new reads parts (Exclude (Syntax place)) h =
    of_patterns text d digests patterns passes (λ ps. IsExcludeFault ps old new (Syntax place)) reads parts h
patterns_fault text d digests patterns passes old new reads parts (Exclude (TooLarge place)) h =
    of_patterns text d digests patterns passes (λ ps. IsExcludeFault ps old new (TooLarge place)) reads parts h
patterns_fault text d digests patterns passes old new reads parts (Exclude none_left) h = absurd h
patterns_fault text d digests patterns passes old new reads parts Memory h =
    inr (of_patterns text d digests patterns passes (λ ps. AsksFront ps old new) reads parts h)
