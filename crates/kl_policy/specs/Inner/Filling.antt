-- What is known of a JSON policy whose members are read one after the other, as its text has them.
use Rattle.std.specs.Prelude.{◌≡◌, ◌≤◌, ℕ, List, [], ◌∷◌, length, Option, None, Some, MatchOption, codes, ⊤}
use Rattle.std.specs.Cmp.Lexicographic.{slice_cmp}
use Rattle.std.specs.List.{AllZip}
use Rattle.std.specs.Ordering.{nat_cmp}
use Rattle.std.specs.declared.cmp.Ordering.TheVariants.{Less}
use Rattle.std.specs.declared.alloc.Global.{Global}
use Rattle.json.specs.Json as json
use Rattle.json.specs.Value.{value_view}
use Rattle.json.specs.declared.value.Value.{Value as Tree}
use Rattle.serde_json.specs.Data.{Data, object, Members, no_members, member}
use Rattle.serde_json.specs.Find.{get_member}
use Rattle.serde_json.specs.View.{members_view}
use Rattle.kl_digests.specs.Digests.{DigestMap, SpellsDigest}
use Rattle.kl_policy.specs.Json.{Listed, as_texts, map_of}
use Rattle.kl_policy.specs.Inner.JsonParts.{Entry}

-- the tree is a text that spells this digest
abbrev pub SpellsTree : Tree Global → List ℕ → Type 0
SpellsTree tree digest = (text : List ℕ) × (value_view tree ≡ json.string text) × SpellsDigest text digest

-- the value is a list of texts that spell these digests
abbrev pub SpellsAt : Data → List (List ℕ) → Type 0
SpellsAt d digests = (texts : List (List ℕ)) × (as_texts d ≡ Some texts) × AllZip SpellsDigest texts digests

-- the members, each with the digests that its texts spell
abbrev pub Spells : Members → List Listed → Type 0
Spells no_members [] = ⊤
Spells no_members (p ∷ ps) = ⊥
Spells (member k d ms) [] = ⊥
Spells (member k d ms) (p ∷ ps) = (p.0 ≡ k) × SpellsAt d p.1 × Spells ms ps

-- the path stands before all of these, in the order of bytes
abbrev pub IsBefore : List ℕ → List Listed → Type 0
IsBefore k [] = ⊤
IsBefore k (p ∷ ps) = (slice_cmp nat_cmp k p.0 ≡ Less) × IsBefore k ps

abbrev pub IsRising : List Listed → Type 0
IsRising [] = ⊤
IsRising (p ∷ ps) = IsBefore p.0 ps × IsRising ps

-- the members spell the digests of these paths, and are no more than so many
pub record Fills (count : ℕ) (ms : Members) (digests : DigestMap) : Type 0 where
  pub pairs : List Listed
  pub spelled : Spells ms pairs
  pub rising : IsRising pairs
  pub few : length pairs ≤ count
  pub mapped : digests ≡ map_of pairs

-- the members are these digests under the name "digests", where it stands among them, and these others
pub record IsSplit (found : Members) (digests : Option DigestMap) (others : List Entry) : Type 0 where
  pub listing : MatchOption digests (get_member (codes "digests") found ≡ None)
      (λ m. (ms : Members) × (get_member (codes "digests") found ≡ Some (object ms)) × Fills 262144 ms m)
  pub rest : (name : List ℕ) → (name ≡ codes "digests" → ⊥) → get_member name (members_view others) ≡ get_member name found
