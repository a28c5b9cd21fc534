-- A look-up in the map of a table, and how many paths it has.
use Rattle.std.proofs.Common.{◌≡◌, ℕ, ◌+◌, false, cond, Some, None, List, [], ◌∷◌, map, length, refl, sym, ap, add-one, ◌∙◌}
use Rattle.std.specs.Cmp.Lexicographic.{slice_cmp, nat_list_cmp_total, nat_list_eq_equiv}
use Rattle.std.specs.FinMap as finite_map
use Rattle.std.specs.FinMap.{find, get-from_entries, get-insert, len-insert, len-empty, same_map, slice_cmp-IsAntisymmetric, nat_cmp-IsAntisymmetric}
use Rattle.std.specs.HashMap.{HashMap, get_by_text, IsUnique}
use Rattle.std.specs.List.{IsDistinct, AllByRecursion}
use Rattle.std.specs.Map.{lookup, keys_of}
use Rattle.std.specs.Option.{is_some}
use Rattle.std.specs.Ordering.{nat_cmp, eq_by_cmp}
use Rattle.std.specs.Str.{bytes_eq}
use Rattle.std.specs.Prelude.{String}
use Rattle.std.specs.String.{string_bytes, string_eq}
use Rattle.std.proofs.lemmas.Map.Text.{is_eq-slice_cmp}
use Rattle.kl_digests.specs.Digests.{DigestMap, DigestSet}
use Rattle.kl_digests.specs.Inner.Table.{table_map}

-- the entries of a table, by the bytes of their keys
abbrev pub by_bytes : {A X : Type 0} → List (String A × X) → List (List ℕ × X)
by_bytes entries = map (λ entry. (string_bytes entry.0, entry.1)) entries

find-by_bytes : {A X : Type 0} (entries : List (String A × X)) (q : List ℕ)
    → find (slice_cmp nat_cmp) q (by_bytes entries) ≡ lookup (λ key. bytes_eq q (string_bytes key)) entries
find-by_bytes [] q = refl
find-by_bytes (e ∷ es) q =
    ap (λ b. cond b (Some e.1) (find (slice_cmp nat_cmp) q (by_bytes es))) (is_eq-slice_cmp q (string_bytes e.0))
    ∙ ap (cond (bytes_eq q (string_bytes e.0)) (Some e.1)) (find-by_bytes es q)

pub get-table_map : {A S : Type 0} (table : HashMap (String A) DigestSet S) (q : List ℕ)
    → finite_map.get (table_map table) q ≡ get_by_text table q
get-table_map table q = get-from_entries nat_list_cmp_total (by_bytes table.entries) q ∙ find-by_bytes table.entries q

-- a look-up with this test is a look-up by bytes
turned : (q path : List ℕ) → eq_by_cmp (slice_cmp nat_cmp) q path ≡ bytes_eq path q
turned q path = is_eq-slice_cmp q path ∙ nat_list_eq_equiv.symm q path

-- a table after a change is the map after an insertion, where the look-ups say so
pub table_map_insert : {A S : Type 0} (old new : HashMap (String A) DigestSet S) (path : List ℕ) (v : DigestSet)
    → ((q : List ℕ) → get_by_text new q ≡ cond (bytes_eq path q) (Some v) (get_by_text old q))
    → table_map new ≡ finite_map.insert (table_map old) path v
table_map_insert old new path v is =
    same_map nat_list_cmp_total (slice_cmp-IsAntisymmetric nat_cmp-IsAntisymmetric) _ _
    (λ q. get-table_map new q ∙ is q
    ∙ ap (cond (bytes_eq path q) (Some v)) (sym (get-table_map old q))
    ∙ ap (λ b. cond b (Some v) (finite_map.get (table_map old) q)) (sym (turned q path))
    ∙ sym (get-insert nat_list_cmp_total (table_map old) path v q))

-- and with the same look-ups it is the same map
pub table_map_kept : {A S : Type 0} (old new : HashMap (String A) DigestSet S) → ((q : List ℕ) → get_by_text new q ≡ get_by_text old q) → table_map new ≡ table_map old
table_map_kept old new same =
    same_map nat_list_cmp_total (slice_cmp-IsAntisymmetric nat_cmp-IsAntisymmetric) _ _ (λ q. get-table_map new q ∙ same q ∙ sym (get-table_map old q))

-- no key is the first of distinct keys again
none_later : {A X : Type 0} (key : String A) (es : List (String A × X))
    → AllByRecursion (λ other. string_eq key other ≡ false) (keys_of es) → lookup (λ other. bytes_eq (string_bytes key) (string_bytes other)) es ≡ None
none_later key [] h = refl
none_later key (e ∷ es) h = ap (λ b. cond b (Some e.1) (lookup (λ other. bytes_eq (string_bytes key) (string_bytes other)) es)) h.0 ∙ none_later key es h.1

len-by_bytes : {A : Type 0} (es : List (String A × DigestSet)) → IsDistinct string_eq (keys_of es)
    → finite_map.len (finite_map.from_entries {R = slice_cmp nat_cmp} (by_bytes es)) ≡ length es
unfolding IsDistinct
len-by_bytes [] h = len-empty (slice_cmp nat_cmp) DigestSet
len-by_bytes (e ∷ es) h =
    let rest : DigestMap = finite_map.from_entries (by_bytes es) in
    let none : finite_map.get rest (string_bytes e.0) ≡ None =
    get-from_entries nat_list_cmp_total (by_bytes es) (string_bytes e.0) ∙ find-by_bytes es (string_bytes e.0) ∙ none_later e.0 es h.0 in
    len-insert nat_list_cmp_total rest (string_bytes e.0) e.1
    ∙ ap (λ found. cond (is_some found) (finite_map.len rest) (finite_map.len rest + 1)) none
    ∙ ap (λ n. n + 1) (len-by_bytes es h.1) ∙ add-one (length es)

-- a table has as many entries as the map has paths
pub len-table_map : {A S : Type 0} (table : HashMap (String A) DigestSet S) → IsUnique string_eq table
    → finite_map.len (table_map table) ≡ length table.entries
len-table_map table h = len-by_bytes table.entries h

-- a table with the same entries is the same map
by_bytes_same : {A : Type 0} (es : List (String A × DigestSet)) → by_bytes (map (λ e. (e.0, e.1)) es) ≡ by_bytes es
by_bytes_same [] = refl
by_bytes_same (e ∷ es) = ap (λ (rest : List (List ℕ × DigestSet)). (string_bytes e.0, e.1) ∷ rest) (by_bytes_same es)

pub same_table : {A S : Type 0} (old new : HashMap (String A) DigestSet S) → new.entries ≡ map (λ e. (e.0, e.1)) old.entries → table_map new ≡ table_map old
same_table old new same = ap (λ es. finite_map.from_entries {R = slice_cmp nat_cmp} (by_bytes es)) same ∙ ap (finite_map.from_entries {R = slice_cmp nat_cmp}) (by_bytes_same old.entries)
