-- Paths that are put in one after the other, as a JSON text has them, and in the order of their bytes, as its value has them.
use Rattle.std.proofs.Common.{◌≡◌, ℕ, suc, ◌≤◌, Bool, true, false, cond, Option, Some, None, option_and_then, option_map, List, [], ◌∷◌, length, Ordering, Less, Equal, Greater, is_eq, bytes_eq, refl, sym, ap, subst, ◌∙◌, arith, fold}
use Rattle.std.proofs.lemmas.Map.Text.{is_eq-slice_cmp}
use Rattle.std.proofs.lemmas.Slice.Eq.{bytes_eq-Decides}
use Rattle.std.proofs.lemmas.Slice.Zip.{AllZip-long}
use Rattle.std.specs.Cmp.Lexicographic.{slice_cmp, nat_list_cmp_total, nat_list_eq_equiv}
use Rattle.std.specs.FinMap as finite_map
use Rattle.std.specs.FinMap.{get-insert, get-empty, same_map, slice_cmp-IsAntisymmetric, nat_cmp-IsAntisymmetric}
use Rattle.std.specs.FinSet.{from_list}
use Rattle.std.specs.List.{AllZip}
use Rattle.std.specs.Ordering.{nat_cmp, match_ordering, ordering_reverse, eq_by_cmp}
use Rattle.serde_json.specs.Data.{Data, Members, no_members, member, put}
use Rattle.kl_digests.specs.Digests.{DigestMap, DigestSet}
use Rattle.kl_policy.specs.Json.{Listed, listed_in, IsDecoded, with_path, map_of, Decodes}
use Rattle.kl_policy.specs.Inner.Filling.{SpellsAt, Spells, IsBefore, IsRising, Fills}

abbrev pub path_cmp : List ℕ → List ℕ → Ordering
path_cmp = slice_cmp nat_cmp

-- ---- pairs of a path and its digests, in the order of paths

abbrev pub put_pair : List ℕ → List (List ℕ) → List Listed → List Listed
put_pair k v [] = (k, v) ∷ []
put_pair k v (p ∷ ps) = match_ordering (path_cmp k p.0) ((k, v) ∷ p ∷ ps) ((p.0, v) ∷ ps) (p ∷ put_pair k v ps)

before_more : (k l : List ℕ) (ps : List Listed) → path_cmp k l ≡ Less → IsBefore l ps → IsBefore k ps
before_more k l [] less h = tt
before_more k l (p ∷ ps) less h = (nat_list_cmp_total.trans k l p.0 less h.0, before_more k l ps less h.1)

before_put_at : (o : Ordering) (l k : List ℕ) (v : List (List ℕ)) (p : Listed) (ps : List Listed) → path_cmp l k ≡ Less → IsBefore l (p ∷ ps) → IsBefore l (put_pair k v ps)
    → IsBefore l (match_ordering o ((k, v) ∷ p ∷ ps) ((p.0, v) ∷ ps) (p ∷ put_pair k v ps))
before_put_at Less l k v p ps less h later = (less, h)
before_put_at Equal l k v p ps less h later = h
before_put_at Greater l k v p ps less h later = (h.0, later)

before_put : (l k : List ℕ) (v : List (List ℕ)) (ps : List Listed) → path_cmp l k ≡ Less → IsBefore l ps → IsBefore l (put_pair k v ps)
before_put l k v [] less h = (less, tt)
before_put l k v (p ∷ ps) less h = before_put_at (path_cmp k p.0) l k v p ps less h (before_put l k v ps less h.1)

rising_put_at : (o : Ordering) (k : List ℕ) (v : List (List ℕ)) (p : Listed) (ps : List Listed) → path_cmp k p.0 ≡ o → IsRising (p ∷ ps) → IsRising (put_pair k v ps)
    → IsRising (match_ordering o ((k, v) ∷ p ∷ ps) ((p.0, v) ∷ ps) (p ∷ put_pair k v ps))
rising_put_at Less k v p ps is h later = ((is, before_more k p.0 ps is h.0), h)
rising_put_at Equal k v p ps is h later = h
rising_put_at Greater k v p ps is h later = (before_put p.0 k v ps (nat_list_cmp_total.antisymm p.0 k ∙ ap ordering_reverse is) h.0, later)

pub rising_put : (k : List ℕ) (v : List (List ℕ)) (ps : List Listed) → IsRising ps → IsRising (put_pair k v ps)
rising_put k v [] h = (tt, tt)
rising_put k v (p ∷ ps) h = rising_put_at (path_cmp k p.0) k v p ps refl h (rising_put k v ps h.1)

count_put_at : (o : Ordering) (k : List ℕ) (v : List (List ℕ)) (p : Listed) (ps : List Listed) → length (put_pair k v ps) ≤ suc (length ps)
    → length (match_ordering o ((k, v) ∷ p ∷ ps) ((p.0, v) ∷ ps) (p ∷ put_pair k v ps)) ≤ suc (suc (length ps))
count_put_at Less k v p ps later = omega arith
count_put_at Equal k v p ps later = omega arith
count_put_at Greater k v p ps later = omega (arith, later)

pub count_put : (k : List ℕ) (v : List (List ℕ)) (ps : List Listed) → length (put_pair k v ps) ≤ suc (length ps)
count_put k v [] = omega arith
count_put k v (p ∷ ps) = count_put_at (path_cmp k p.0) k v p ps (count_put k v ps)

-- ---- what a map of pairs has at a path

-- the later one, where there is one
abbrev later_or : Option DigestSet → Option DigestSet → Option DigestSet
later_or None earlier = earlier
later_or (Some s) earlier = Some s

abbrev latest : List ℕ → List Listed → Option DigestSet
latest q [] = None
latest q (p ∷ ps) = later_or (latest q ps) (cond (bytes_eq p.0 q) (Some (from_list p.1)) None)

later_assoc : (a : Option DigestSet) (b : Bool) (s : DigestSet) (c : Option DigestSet) → later_or a (cond b (Some s) c) ≡ later_or (later_or a (cond b (Some s) None)) c
later_assoc None true s c = refl
later_assoc None false s c = refl
later_assoc (Some t) b s c = refl

later_none : (a : Option DigestSet) → later_or a None ≡ a
later_none None = refl
later_none (Some s) = refl

turned : (q path : List ℕ) → eq_by_cmp path_cmp q path ≡ bytes_eq path q
turned q path = is_eq-slice_cmp q path ∙ nat_list_eq_equiv.symm q path

get_fold : (m : DigestMap) (ps : List Listed) (q : List ℕ) → finite_map.get (fold with_path m ps) q ≡ later_or (latest q ps) (finite_map.get m q)
get_fold m [] q = refl
get_fold m (p ∷ ps) q =
    get_fold (with_path m p) ps q
    ∙ ap (later_or (latest q ps)) (get-insert nat_list_cmp_total m p.0 (from_list p.1) q ∙ ap (λ b. cond b (Some (from_list p.1)) (finite_map.get m q)) (turned q p.0))
    ∙ later_assoc (latest q ps) (bytes_eq p.0 q) (from_list p.1) (finite_map.get m q)

get_map : (ps : List Listed) (q : List ℕ) → finite_map.get (map_of ps) q ≡ latest q ps
get_map ps q = get_fold finite_map.empty ps q ∙ ap (later_or (latest q ps)) (get-empty path_cmp q) ∙ later_none (latest q ps)

not_equal : (k l : List ℕ) → path_cmp k l ≡ Less → bytes_eq l k ≡ false
not_equal k l less = nat_list_eq_equiv.symm l k ∙ sym (is_eq-slice_cmp k l) ∙ ap is_eq less

none_before : (k : List ℕ) (ps : List Listed) → IsBefore k ps → latest k ps ≡ None
none_before k [] h = refl
none_before k (p ∷ ps) h =
    ap (λ o. later_or o (cond (bytes_eq p.0 k) (Some (from_list p.1)) None)) (none_before k ps h.1) ∙ ap (λ b. cond b (Some (from_list p.1)) None) (not_equal k p.0 h.0)

-- of a path that is there, or that is not
put_first : (b : Bool) (q k : List ℕ) (s : DigestSet) (o : Option DigestSet) → bytes_eq k q ≡ b → (q ≡ k → o ≡ None) → later_or o (cond b (Some s) None) ≡ cond b (Some s) o
put_first true q k s o is none = ap (λ z. later_or z (Some s)) (none (sym ((bytes_eq-Decides k q).0 is)))
put_first false q k s o is none = later_none o

put_over : (b : Bool) (q k : List ℕ) (s t : DigestSet) (o : Option DigestSet) → bytes_eq k q ≡ b → (q ≡ k → o ≡ None) → later_or o (cond b (Some s) None) ≡ cond b (Some s) (later_or o (cond b (Some t) None))
put_over true q k s t o is none = ap (λ z. later_or z (Some s)) (none (sym ((bytes_eq-Decides k q).0 is)))
put_over false q k s t o is none = refl

put_later : (b : Bool) (s : DigestSet) (o c : Option DigestSet) → later_or (cond b (Some s) o) c ≡ cond b (Some s) (later_or o c)
put_later true s o c = refl
put_later false s o c = refl

latest_put_at : (o : Ordering) (q k : List ℕ) (v : List (List ℕ)) (p : Listed) (ps : List Listed) → path_cmp k p.0 ≡ o → IsRising (p ∷ ps)
    → latest q (put_pair k v ps) ≡ cond (bytes_eq k q) (Some (from_list v)) (latest q ps)
    → latest q (match_ordering o ((k, v) ∷ p ∷ ps) ((p.0, v) ∷ ps) (p ∷ put_pair k v ps)) ≡ cond (bytes_eq k q) (Some (from_list v)) (latest q (p ∷ ps))
latest_put_at Less q k v p ps is h later =
    put_first (bytes_eq k q) q k (from_list v) (latest q (p ∷ ps)) refl (λ same. ap (λ z. latest z (p ∷ ps)) same ∙ none_before k (p ∷ ps) (is, before_more k p.0 ps is h.0))
latest_put_at Equal q k v p ps is h later =
    let same : k ≡ p.0 = (bytes_eq-Decides k p.0).0 (sym (is_eq-slice_cmp k p.0) ∙ ap is_eq is) in
    put_over (bytes_eq p.0 q) q p.0 (from_list v) (from_list p.1) (latest q ps) refl (λ here. ap (λ z. latest z ps) here ∙ none_before p.0 ps h.0)
    ∙ ap (λ z. cond (bytes_eq z q) (Some (from_list v)) (latest q (p ∷ ps))) (sym same)
latest_put_at Greater q k v p ps is h later =
    ap (λ o. later_or o (cond (bytes_eq p.0 q) (Some (from_list p.1)) None)) later ∙ put_later (bytes_eq k q) (from_list v) (latest q ps) (cond (bytes_eq p.0 q) (Some (from_list p.1)) None)

latest_put : (q k : List ℕ) (v : List (List ℕ)) (ps : List Listed) → IsRising ps → latest q (put_pair k v ps) ≡ cond (bytes_eq k q) (Some (from_list v)) (latest q ps)
latest_put q k v [] h = refl
latest_put q k v (p ∷ ps) h = latest_put_at (path_cmp k p.0) q k v p ps refl h (latest_put q k v ps h.1)

-- the map with a path put in is that of the pairs with it
pub map_put : (k : List ℕ) (v : List (List ℕ)) (ps : List Listed) → IsRising ps → map_of (put_pair k v ps) ≡ finite_map.insert (map_of ps) k (from_list v)
map_put k v ps h =
    same_map nat_list_cmp_total (slice_cmp-IsAntisymmetric nat_cmp-IsAntisymmetric) (map_of (put_pair k v ps)) (finite_map.insert (map_of ps) k (from_list v))
    (λ q. get_map (put_pair k v ps) q ∙ latest_put q k v ps h
    ∙ ap (cond (bytes_eq k q) (Some (from_list v))) (sym (get_map ps q))
    ∙ ap (λ b. cond b (Some (from_list v)) (finite_map.get (map_of ps) q)) (sym (turned q k))
    ∙ sym (get-insert nat_list_cmp_total (map_of ps) k (from_list v) q))

-- ---- members and what they spell

spells_put_at : (o : Ordering) (k l : List ℕ) (d e : Data) (v : List (List ℕ)) (ms : Members) (p : Listed) (ps : List Listed) → path_cmp k l ≡ o → Spells (member l e ms) (p ∷ ps) → SpellsAt d v
    → Spells (put k d ms) (put_pair k v ps)
    → Spells (match_ordering o (member k d (member l e ms)) (member l d ms) (member l e (put k d ms))) (match_ordering o ((k, v) ∷ p ∷ ps) ((p.0, v) ∷ ps) (p ∷ put_pair k v ps))
spells_put_at Less k l d e v ms p ps is h here later = (refl, here, h)
spells_put_at Equal k l d e v ms p ps is h here later = (h.0, here, h.2)
spells_put_at Greater k l d e v ms p ps is h here later = (h.0, h.1, later)

pub spells_put : (k : List ℕ) (d : Data) (v : List (List ℕ)) (ms : Members) (ps : List Listed) → Spells ms ps → SpellsAt d v → Spells (put k d ms) (put_pair k v ps)
spells_put k d v no_members [] h here = (refl, here, tt)
spells_put k d v no_members (p ∷ ps) h here = absurd h
spells_put k d v (member l e ms) [] h here = absurd h
spells_put k d v (member l e ms) (p ∷ ps) h here =
    subst (λ o. Spells (put k d (member l e ms)) (match_ordering o ((k, v) ∷ p ∷ ps) ((p.0, v) ∷ ps) (p ∷ put_pair k v ps))) (ap (path_cmp k) (sym h.0))
    (spells_put_at (path_cmp k l) k l d e v ms p ps refl h here (spells_put k d v ms ps h.2 here))

-- and then the members list texts of which these are the digests
pub spells_listed : (ms : Members) (ps : List Listed) → Spells ms ps → (listed : List Listed) × (listed_in ms ≡ Some listed) × AllZip IsDecoded listed ps
spells_listed no_members [] h = ([], refl, tt)
spells_listed no_members (p ∷ ps) h = absurd h
spells_listed (member k d ms) [] h = absurd h
spells_listed (member k d ms) (p ∷ ps) h =
    let rest = spells_listed ms ps h.2 in
    let texts = h.1.0 in (
      (k, texts) ∷ rest.0,
      ap (option_and_then (λ texts. option_map (λ more. (k, texts) ∷ more) (listed_in ms))) h.1.1 ∙ ap (option_map (λ more. (k, texts) ∷ more)) rest.1,
      ((h.0, h.1.2), rest.2),
    )

-- ---- so many members, put in one after the other

pub fills_none : Fills 0 no_members finite_map.empty
fills_none = record { pairs = []; spelled = tt; rising = tt; few = omega arith; mapped = refl }

pub fills_put : (count : ℕ) (ms : Members) (digests : DigestMap) (k : List ℕ) (d : Data) (v : List (List ℕ)) → Fills count ms digests → SpellsAt d v
    → Fills (suc count) (put k d ms) (finite_map.insert digests k (from_list v))
fills_put count ms digests k d v h here = record {
  pairs = put_pair k v h.pairs;
  spelled = spells_put k d v ms h.pairs h.spelled here;
  rising = rising_put k v h.pairs h.rising;
  few = let one = count_put k v h.pairs in let few = h.few in omega (arith, one, few);
  mapped = ap (λ m. finite_map.insert m k (from_list v)) h.mapped ∙ sym (map_put k v h.pairs h.rising);
}

pub fills_decodes : (count : ℕ) (ms : Members) (digests : DigestMap) → Fills count ms digests → (listed : List Listed) × (listed_in ms ≡ Some listed) × (length listed ≤ count) × Decodes listed digests
fills_decodes count ms digests h =
    let all = spells_listed ms h.pairs h.spelled in
    let same = AllZip-long IsDecoded all.0 h.pairs all.2 in
    let few = h.few in
    (all.0, all.1, omega (arith, same, few), (h.pairs, all.2, h.mapped))
