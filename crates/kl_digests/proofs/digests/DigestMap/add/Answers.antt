-- The table with a digest more is the map with it.
use Rattle.std.proofs.Common.{◌≡◌, ℕ, List, ◌∙◌, Some, cond, ap, sym, unwrap_or, string_bytes, Ok, Err, OnOk, OnErr, Result, String}
use Rattle.std.specs.FinMap as finite_map
use Rattle.std.specs.FinSet as finite_set
use Rattle.std.specs.HashMap.{HashMap, get_by_text}
use Rattle.std.specs.Str.{bytes_eq}
use Rattle.kl_digests.specs.Digests.{DigestMap, DigestSet}
use Rattle.kl_digests.specs.Inner.Table.{table_map}
use Rattle.kl_digests.proofs.Tables.{get-table_map, table_map_insert, table_map_kept}
use Rattle.kl_digests.proofs.digests.DigestMap.add.Goals as goal

-- if the call succeeds, the table is the map with the digest more
added : {A S T E : Type 0} (r : Result T E) (old new : HashMap (String A) DigestSet S) (map : DigestMap) (key path digest : List ℕ)
    → table_map old ≡ map → key ≡ path
    → OnOk r ((q : List ℕ) → get_by_text new q ≡ cond (bytes_eq key q) (Some (finite_set.insert (unwrap_or (get_by_text old key) finite_set.empty) digest)) (get_by_text old q))
    → OnOk r (table_map new ≡ finite_map.insert map path (finite_set.insert (unwrap_or (finite_map.get map path) finite_set.empty) digest))
added (Ok _) old new map key path digest is same h =
    table_map_insert old new key _ h
    ∙ ap (λ known. finite_map.insert (table_map old) key (finite_set.insert (unwrap_or known finite_set.empty) digest)) (sym (get-table_map old key))
    ∙ ap (λ m. finite_map.insert m key (finite_set.insert (unwrap_or (finite_map.get m key) finite_set.empty) digest)) is
    ∙ ap (λ k. finite_map.insert map k (finite_set.insert (unwrap_or (finite_map.get map k) finite_set.empty) digest)) same
added (Err _) old new map key path digest is same h = tt

pub returns-clause-added : goal.returns-clause-added
returns-clause-added c =
    added c.push_at.result c.self.inside.map c.push_at.new.table c.args.self.now (string_bytes c.in_ok-from_str.field-0) c.args.path.now c.args.digest.now
    c.self.view_is c.in_ok-from_str.ensures.ok c.push_at.ensures.added

-- if it fails, the map is the same
not_added : {A S T E : Type 0} (r : Result T E) (old new : HashMap (String A) DigestSet S) (map : DigestMap) → table_map old ≡ map
    → OnErr r ((q : List ℕ) → get_by_text new q ≡ get_by_text old q) → OnErr r (table_map new ≡ map)
not_added (Ok _) old new map is same = tt
not_added (Err _) old new map is same = table_map_kept old new same ∙ is

pub returns-clause-same : goal.returns-clause-same
returns-clause-same c = not_added c.push_at.result c.self.inside.map c.push_at.new.table c.args.self.now c.self.view_is c.push_at.ensures.same
