-- What the parts of a tree are, when they are read one after the other.
use Rattle.std.proofs.Common.{◌≡◌, ℕ, List, [], ◌∷◌, ◌++◌, Option, None, Some, option_map, option_and_then, refl, ap, ◌∙◌, Bor, Global}
use Rattle.std.proofs.lemmas.Option.{same_Some}
use Rattle.std.specs.List.{AllZip}
use Rattle.json.specs.Value.{value_view, items_view as tree_items, members_view as tree_members}
use Rattle.json.specs.declared.value.Value.{Value as Tree}
use Rattle.serde_json.specs.Data.{Data, item, Members, put}
use Rattle.serde_json.specs.Read.{of_json, of_items, of_members}
use Rattle.serde_json.specs.View.{view, items_view}
use Rattle.serde_json.specs.declared.value.Value.{Value}

-- the tree has this value
abbrev pub HasValue : Tree Global → Value → Type 0
HasValue tree value = of_json (value_view tree) ≡ Some (view value)

pub items_owned : (trees : List (Tree Global)) (values : List Value) → AllZip HasValue trees values → of_items (tree_items trees) ≡ Some (items_view values)
items_owned [] [] all = refl
items_owned [] (value ∷ values) all = absurd all
items_owned (tree ∷ trees) [] all = absurd all
items_owned (tree ∷ trees) (value ∷ values) all =
    ap (option_and_then (λ d. option_map (item d) (of_items (tree_items trees)))) all.0 ∙ ap (option_map (item (view value))) (items_owned trees values all.1)

abbrev pub Member : Type 0
Member = Bor (List ℕ) × Tree Global

-- a member more is put in last
pub member_more : (ms : List Member) (m : Member) (before found : Members) (d : Data) → of_members (tree_members ms) before ≡ Some found
    → of_json (value_view m.1) ≡ Some d → of_members (tree_members (ms ++ m ∷ [])) before ≡ Some (put m.0.now d found)
member_more [] m before found d all one =
    ap (option_and_then (λ e. Some (put m.0.now e before))) one ∙ ap (λ ms. Some (put m.0.now d ms)) (same_Some _ _ all)
member_more (x ∷ ms) m before found d all one =
    by_first (λ e rest. member_more ms m (put x.0.now e before) found d rest one) (of_json (value_view x.1)) refl all
  where
    by_first : ((e : Data) → of_members (tree_members ms) (put x.0.now e before) ≡ Some found → of_members (tree_members (ms ++ m ∷ [])) (put x.0.now e before) ≡ Some (put m.0.now d found))
        → (o : Option Data) → of_json (value_view x.1) ≡ o → option_and_then (λ e. of_members (tree_members ms) (put x.0.now e before)) o ≡ Some found
        → of_members (tree_members (x ∷ (ms ++ m ∷ []))) before ≡ Some (put m.0.now d found)
    by_first later None is rest = cc rest
    by_first later (Some e) is rest =
        ap (option_and_then (λ e. of_members (tree_members (ms ++ m ∷ [])) (put x.0.now e before))) is ∙ later e rest

-- ---- where a number is out of range

pub items_refused : (before : List (Tree Global)) (tree : Tree Global) (after : List (Tree Global)) (values : List Value) → AllZip HasValue before values
    → of_json (value_view tree) ≡ None → of_items (tree_items (before ++ tree ∷ after)) ≡ None
items_refused [] tree after [] all none = ap (option_and_then (λ d. option_map (item d) (of_items (tree_items after)))) none
items_refused [] tree after (value ∷ values) all none = absurd all
items_refused (first ∷ before) tree after [] all none = absurd all
items_refused (first ∷ before) tree after (value ∷ values) all none =
    ap (option_and_then (λ d. option_map (item d) (of_items (tree_items (before ++ tree ∷ after))))) all.0
    ∙ ap (option_map (item (view value))) (items_refused before tree after values all.1 none)

pub member_refused : (ms : List Member) (m : Member) (after : List Member) (before found : Members) → of_members (tree_members ms) before ≡ Some found
    → of_json (value_view m.1) ≡ None → of_members (tree_members (ms ++ m ∷ after)) before ≡ None
member_refused [] m after before found all none = ap (option_and_then (λ e. of_members (tree_members after) (put m.0.now e before))) none
member_refused (x ∷ ms) m after before found all none =
    by_first (λ e rest. member_refused ms m after (put x.0.now e before) found rest none) (of_json (value_view x.1)) refl all
  where
    by_first : ((e : Data) → of_members (tree_members ms) (put x.0.now e before) ≡ Some found → of_members (tree_members (ms ++ m ∷ after)) (put x.0.now e before) ≡ None)
        → (o : Option Data) → of_json (value_view x.1) ≡ o → option_and_then (λ e. of_members (tree_members ms) (put x.0.now e before)) o ≡ Some found
        → of_members (tree_members (x ∷ (ms ++ m ∷ after))) before ≡ None
    by_first later None is rest = cc rest
    by_first later (Some e) is rest =
        ap (option_and_then (λ e. of_members (tree_members (ms ++ m ∷ after)) (put x.0.now e before))) is ∙ later e rest
