-- The parts of a policy, read over its text.
use Rattle.std.proofs.Common.{◌≡◌, ℕ, ◌+◌, ◌≤◌, Bool, true, false, Option, Some, None, option_map, option_and_then, Result, Ok, Err, IfOk, IfSome, List, [], ◌∷◌, bytes_eq, codes, refl, sym, ap, subst, ◌∙◌, arith, add-one, true≢false}
use Rattle.std.specs.Prelude.{MatchOption}
use Rattle.std.proofs.lemmas.Slice.Eq.{bytes_eq-Decides}
use Rattle.std.specs.FinMap as finite_map
use Rattle.std.specs.FinSet.{from_list}
use Rattle.std.specs.List.{AllZip}
use Rattle.json.specs.Value.{items_view as tree_items}
use Rattle.json.specs.declared.value.Value.{Value as Tree}
use Rattle.std.specs.declared.alloc.Global.{Global}
use Rattle.serde_json.specs.Data.{Data, string, object, Items, no_items, item, Members, no_members, put}
use Rattle.serde_json.specs.Find.{get, get_member}
use Rattle.serde_json.specs.Read.{of_json, of_items}
use Rattle.serde_json.specs.View.{members_view}
use Rattle.serde_json.proofs.Views.{get_member-put, get_member-put_other}
use Rattle.kl_digests.specs.Digests.{DigestMap, DigestSet, SpellsDigest}
use Rattle.kl_policy.specs.Json.{texts_in, as_texts, as_choice, as_blank, as_listing, optional, read_or, HasPatterns, HasChoice, IsSupported, HasParts}
use Rattle.kl_policy.specs.Inner.Filling.{SpellsTree, SpellsAt, Fills, IsSplit}
use Rattle.kl_policy.specs.Inner.JsonParts.{Entry}
use Rattle.kl_policy.proofs.PutFacts.{fills_put, fills_decodes}

-- ---- what a call may answer

pub within : {A E : Type 0} {P Q : A → Type 0} (r : Result (Option A) E) → ((a : A) → P a → Q a) → IfOk r (λ o. IfSome o P) → IfOk r (λ o. IfSome o Q)
within (Ok (Some a)) f h = f a h
within (Ok None) f h = h
within (Err e) f h = h

-- ---- digests

-- trees that spell digests are texts that do
pub items_spelled : (trees : List (Tree Global)) (digests : List (List ℕ)) → AllZip SpellsTree trees digests
    → (ds : Items) × (of_items (tree_items trees) ≡ Some ds) × ((texts : List (List ℕ)) × (texts_in ds ≡ Some texts) × AllZip SpellsDigest texts digests)
items_spelled [] [] h = (no_items, refl, ([], refl, tt))
items_spelled [] (digest ∷ digests) h = absurd h
items_spelled (tree ∷ trees) [] h = absurd h
items_spelled (tree ∷ trees) (digest ∷ digests) h =
    let rest = items_spelled trees digests h.1 in
    let text = h.0.0 in (
      item (string text) rest.0,
      ap (λ j. option_and_then (λ d. option_map (item d) (of_items (tree_items trees))) (of_json j)) h.0.1 ∙ ap (option_map (item (string text))) rest.1,
      (text ∷ rest.2.0, ap (option_map (λ more. text ∷ more)) rest.2.1, (h.0.2, rest.2.2)),
    )

-- one path more
pub fills_next : (count : ℕ) (ms : Members) (old new : DigestMap) (k path : List ℕ) (d : Data) (v : List (List ℕ)) (known : DigestSet) → Fills count ms old → SpellsAt d v
    → known ≡ from_list v → path ≡ k → new ≡ finite_map.insert old path known → Fills (count + 1) (put k d ms) new
fills_next count ms old new k path d v known h here same named made =
    let insert_is : new ≡ finite_map.insert old k (from_list v) = made ∙ ap (λ p. finite_map.insert old p known) named ∙ ap (finite_map.insert old k) same in
    subst (λ (m : DigestMap). Fills (count + 1) (put k d ms) m) (sym insert_is) (subst (λ n. Fills n (put k d ms) (finite_map.insert old k (from_list v))) (sym (add-one count)) (fills_put count ms old k d v h here))

pub fills_within : (count most : ℕ) (ms : Members) (digests : DigestMap) → count ≤ most → Fills count ms digests → Fills most ms digests
fills_within count most ms digests le h = record { pairs = h.pairs; spelled = h.spelled; rising = h.rising; few = let few = h.few in omega (arith, few, le); mapped = h.mapped }

-- ---- members

by_name : {A : Type 0} (q name : List ℕ) (b : Bool) → bytes_eq q name ≡ b → (q ≡ name → A) → ((q ≡ name → ⊥) → A) → A
by_name q name true is same other = same ((bytes_eq-Decides q name).0 is)
by_name q name false is same other = other (λ e. true≢false (sym ((bytes_eq-Decides q name).1 e) ∙ is))

-- what is put in both is found in both
puts_alike : (q name : List ℕ) (d : Data) (ms ns : Members) → get_member q ms ≡ get_member q ns → get_member q (put name d ms) ≡ get_member q (put name d ns)
puts_alike q name d ms ns same =
    by_name q name (bytes_eq q name) refl
    (λ e. subst (λ n. get_member q (put n d ms) ≡ get_member q (put n d ns)) e (get_member-put q d ms ∙ sym (get_member-put q d ns)))
    (λ other. get_member-put_other q name d ms other ∙ same ∙ sym (get_member-put_other q name d ns other))

-- no member is taken yet
pub split_none : (others : List Entry) → others ≡ [] → IsSplit no_members None others
split_none others none = record { listing = refl; rest = λ name other. ap (λ es. get_member name (members_view es)) none }

-- the digests are taken
pub split_listing : (found : Members) (old : Option DigestMap) (others : List Entry) (ms : Members) (digests : DigestMap) → IsSplit found old others → Fills 262144 ms digests
    → IsSplit (put (codes "digests") (object ms) found) (Some digests) others
split_listing found old others ms digests h fills = record {
  listing = (ms, get_member-put (codes "digests") (object ms) found, fills);
  rest = λ name other. h.rest name other ∙ sym (get_member-put_other name (codes "digests") (object ms) found other);
}

-- another member is
pub split_other : (found : Members) (digests : Option DigestMap) (old new : List Entry) (name : List ℕ) (d : Data) → IsSplit found digests old → (name ≡ codes "digests" → ⊥)
    → members_view new ≡ put name d (members_view old) → IsSplit (put name d found) digests new
split_other found digests old new name d h other made =
    let kept : get_member (codes "digests") found ≡ get_member (codes "digests") (put name d found) = sym (get_member-put_other (codes "digests") name d found (λ e. other (sym e))) in
    record {
      listing = subst (λ o. MatchOption digests (o ≡ None) (λ m. (ms : Members) × (o ≡ Some (object ms)) × Fills 262144 ms m)) kept h.listing;
      rest = λ q apart. ap (get_member q) made ∙ puts_alike q name d (members_view old) found (h.rest q apart);
    }

-- ---- the parts

-- what a member is read as, where the values have the same there
alike : {A : Type 0} (absent : A) (kind : Data → Option A) (name : List ℕ) (d e : Data) → get name d ≡ get name e → optional absent kind name e ≡ optional absent kind name d
alike absent kind name d e same = ap (read_or absent kind) (sym same)

not_digests : (name : List ℕ) → bytes_eq name (codes "digests") ≡ false → name ≡ codes "digests" → ⊥
not_digests name is e = true≢false (sym ((bytes_eq-Decides name (codes "digests")).1 e) ∙ is)

pub split_parts : (found : Members) (digests : DigestMap) (others : List Entry) (rest : Data) (patterns : List (List ℕ)) (passes : Bool) → IsSplit found (Some digests) others
    → rest ≡ object (members_view others) → HasPatterns rest patterns → HasChoice rest passes → IsSupported rest → HasParts (object found) digests patterns passes
split_parts found digests others rest patterns passes h is has_patterns choice supported =
    let same : (name : List ℕ) → (name ≡ codes "digests" → ⊥) → get name rest ≡ get name (object found) = λ name other. ap (get name) is ∙ h.rest name other in
    let ms = h.listing.0 in
    let decoded = fills_decodes 262144 ms digests h.listing.2 in
    record {
      digests_are = record {
        listed = decoded.0;
        listing = record {
          is_object = refl;
          lists = ap (option_and_then as_listing) h.listing.1 ∙ decoded.1;
          few = decoded.2;
        };
        decoded = decoded.3;
      };
      patterns_are = record {
        lists = alike [] as_texts (codes "excludes") rest (object found) (same (codes "excludes") (not_digests (codes "excludes") refl)) ∙ has_patterns.lists;
        few = has_patterns.few;
        short = has_patterns.short;
      };
      choice_is = alike false as_choice (codes "kl-violations") rest (object found) (same (codes "kl-violations") (not_digests (codes "kl-violations") refl)) ∙ choice;
      supported = record {
        keyrings = alike tt as_blank (codes "keyrings") rest (object found) (same (codes "keyrings") (not_digests (codes "keyrings") refl)) ∙ supported.keyrings;
        buffers = alike tt as_blank (codes "ima-buf") rest (object found) (same (codes "ima-buf") (not_digests (codes "ima-buf") refl)) ∙ supported.buffers;
        keys = alike tt as_blank (codes "verification-keys") rest (object found) (same (codes "verification-keys") (not_digests (codes "verification-keys") refl)) ∙ supported.keys;
      };
    }
