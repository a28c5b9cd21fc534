-- The JSON runtime policy, as Keylime writes it: which parts it has, and why a text is none.
use Rattle.std.specs.Prelude.{◌≡◌, ℕ, ◌<◌, ◌≤◌, ◌⊎◌, List, [], ◌∷◌, length, Bool, true, false, if◌then◌else◌, Option, None, Some, IsSome, option_map, option_and_then, codes, fold, All, ⊤}
use Rattle.std.specs.FinMap as finite_map
use Rattle.std.specs.FinSet as finite_set
use Rattle.std.specs.List.{AllZip}
use Rattle.std.specs.Str.{bytes_eq}
use Rattle.serde_json.specs.Data.{Data, null, boolean, number, string, array, object, Items, no_items, item, Members, no_members, member}
use Rattle.serde_json.specs.Find.{get, as_str, as_array, as_object}
use Rattle.kl_json.specs.Members.{member_as, IsMissing, IsOther}
use Rattle.kl_json.specs.declared.fault.JsonFault.TheVariants.{NotJson, Missing, Kind, Range, Memory as no_memory}
use Rattle.kl_entry.specs.Lines.{IsFirstFailing}
use Rattle.kl_digests.specs.Digests.{DigestMap, SpellsDigest}
use Rattle.kl_policy.specs.declared.fault.Limit.TheVariants.{Paths, Patterns, PatternBytes}
use Rattle.kl_policy.specs.declared.fault.PolicyFault.{PolicyFault}
use Rattle.kl_policy.specs.declared.fault.PolicyFault.TheVariants.{Json, Line, BadDigest, Unsupported, Limit as Over, Exclude, Memory}

-- the items, as texts; none, where one is no text
abbrev pub texts_in : Items → Option (List (List ℕ))
texts_in no_items = Some []
texts_in (item d ds) = option_and_then (λ text. option_map (λ texts. text ∷ texts) (texts_in ds)) (as_str d)

-- a list of texts
abbrev pub as_texts : Data → Option (List (List ℕ))
as_texts d = option_and_then texts_in (as_array d)

-- a path and the texts of its digests
abbrev pub Listed : Type 0
Listed = List ℕ × List (List ℕ)

-- the members, each a list of texts, in the order of their names; none, where one is no such list
abbrev pub listed_in : Members → Option (List Listed)
listed_in no_members = Some []
listed_in (member name d ms) = option_and_then (λ texts. option_map (λ rest. (name, texts) ∷ rest) (listed_in ms)) (as_texts d)

-- an object of lists of texts
abbrev pub as_listing : Data → Option (List Listed)
as_listing d = option_and_then listed_in (as_object d)

-- whether violations pass
abbrev pub choice : List ℕ → Option Bool
choice text = if bytes_eq text (codes "pass") then Some true else if bytes_eq text (codes "fail") then Some false else None

abbrev pub as_choice : Data → Option Bool
as_choice d = option_and_then choice (as_str d)

-- what says nothing: null, and an empty text, list or object
abbrev pub as_blank : Data → Option ⊤
as_blank null = Some tt
as_blank (boolean b) = None
as_blank (number n) = None
as_blank (string []) = Some tt
as_blank (string (b ∷ bytes)) = None
as_blank (array no_items) = Some tt
as_blank (array (item d ds)) = None
as_blank (object no_members) = Some tt
as_blank (object (member name d ms)) = None

-- a member as a kind reads it, or what stands for an absent one
abbrev pub read_or : {A : Type 0} → A → (Data → Option A) → Option Data → Option A
read_or absent kind None = Some absent
read_or absent kind (Some d) = kind d

abbrev pub optional : {A : Type 0} → A → (Data → Option A) → List ℕ → Data → Option A
optional absent kind name d = read_or absent kind (get name d)

-- ---- the parts of a policy

-- the digests of each path are spelled by its texts
abbrev pub IsDecoded : Listed → Listed → Type 0
IsDecoded texts digests = (digests.0 ≡ texts.0) × AllZip SpellsDigest texts.1 digests.1

-- each path is put in with the set of its digests
abbrev pub with_path : DigestMap → Listed → DigestMap
with_path digests pair = finite_map.insert digests pair.0 (finite_set.from_list pair.1)

abbrev pub map_of : List Listed → DigestMap
map_of pairs = fold with_path finite_map.empty pairs

abbrev pub Decodes : List Listed → DigestMap → Type 0
Decodes listed digests = (pairs : List Listed) × AllZip IsDecoded listed pairs × (digests ≡ map_of pairs)

-- an object, in which "digests" lists so, of no more paths than a policy may have
pub record HasListing (d : Data) (listed : List Listed) : Type 0 where
  pub is_object : IsSome (as_object d)
  pub lists : member_as as_listing (codes "digests") d ≡ Some listed
  pub few : length listed ≤ 262144

-- and the digests are spelled so
pub record HasDigests (d : Data) (digests : DigestMap) : Type 0 where
  pub listed : List Listed
  pub listing : HasListing d listed
  pub decoded : Decodes listed digests

-- no pattern is longer
abbrev pub IsShort : List ℕ → Type 0
IsShort pattern = length pattern ≤ 512

-- its exclude patterns, none where "excludes" is absent
pub record HasPatterns (d : Data) (patterns : List (List ℕ)) : Type 0 where
  pub lists : optional [] as_texts (codes "excludes") d ≡ Some patterns
  pub few : length patterns ≤ 32
  pub short : All IsShort patterns

-- whether it passes violations: it does not where "kl-violations" is absent
abbrev pub HasChoice : Data → Bool → Type 0
HasChoice d passes = optional false as_choice (codes "kl-violations") d ≡ Some passes

-- the member is absent, or says nothing
abbrev pub IsBlank : List ℕ → Data → Type 0
IsBlank name d = optional tt as_blank name d ≡ Some tt

-- the members that are not supported say nothing
pub record IsSupported (d : Data) : Type 0 where
  pub keyrings : IsBlank (codes "keyrings") d
  pub buffers : IsBlank (codes "ima-buf") d
  pub keys : IsBlank (codes "verification-keys") d

-- a policy, whatever texts its patterns are
pub record HasParts (d : Data) (digests : DigestMap) (patterns : List (List ℕ)) (passes : Bool) : Type 0 where
  pub digests_are : HasDigests d digests
  pub patterns_are : HasPatterns d patterns
  pub choice_is : HasChoice d passes
  pub supported : IsSupported d

-- ---- why a value is no policy: the first cause

-- the text spells a digest
abbrev pub IsGood : List ℕ → Type 0
IsGood text = (digest : List ℕ) × SpellsDigest text digest

-- the text at place j of path i is the first that spells none
abbrev pub IsFirstBadDigest : List Listed → ℕ → ℕ → Type 0
IsFirstBadDigest listed i j =
    IsFirstFailing (λ path. (digests : List (List ℕ)) × AllZip SpellsDigest path.1 digests) (λ path. IsFirstFailing IsGood (λ text. ¬ IsGood text) path.1 j) listed i

-- the first that says something of the members that are not supported
abbrev pub IsUnsupported : List ℕ → Data → Type 0
IsUnsupported name d =
    ((name ≡ codes "keyrings") × (¬ IsBlank (codes "keyrings") d))
    ⊎ ((name ≡ codes "ima-buf") × IsBlank (codes "keyrings") d × (¬ IsBlank (codes "ima-buf") d))
    ⊎ ((name ≡ codes "verification-keys") × IsBlank (codes "keyrings") d × IsBlank (codes "ima-buf") d × (¬ IsBlank (codes "verification-keys") d))

abbrev pub HasSomeDigests : Data → Type 0
HasSomeDigests d = (digests : DigestMap) × HasDigests d digests

abbrev pub HasSomePatterns : Data → Type 0
HasSomePatterns d = (patterns : List (List ℕ)) × HasPatterns d patterns

abbrev pub HasSomeChoice : Data → Type 0
HasSomeChoice d = (passes : Bool) × HasChoice d passes

-- the member of this name is of another kind, or the value is no object, which is told as "policy"
abbrev pub IsKindFault : List ℕ → Data → Type 0
IsKindFault name d =
    ((name ≡ codes "policy") × (as_object d ≡ None))
    ⊎ ((name ≡ codes "digests") × IsSome (as_object d) × IsOther as_listing (codes "digests") d)
    ⊎ ((name ≡ codes "excludes") × HasSomeDigests d × (optional [] as_texts (codes "excludes") d ≡ None))
    ⊎ ((name ≡ codes "kl-violations") × HasSomeDigests d × HasSomePatterns d × (optional false as_choice (codes "kl-violations") d ≡ None))

-- its patterns are too many, or one is too long
abbrev pub HasMany : Data → Type 0
HasMany d = HasSomeDigests d × ((patterns : List (List ℕ)) × (optional [] as_texts (codes "excludes") d ≡ Some patterns) × (32 < length patterns))

abbrev pub HasLong : Data → Type 0
HasLong d = HasSomeDigests d × ((patterns : List (List ℕ)) × (optional [] as_texts (codes "excludes") d ≡ Some patterns) × (length patterns ≤ 32)
    × ¬ All IsShort patterns)

-- it names more paths than a policy may have
abbrev pub HasManyPaths : Data → Type 0
HasManyPaths d = (listed : List Listed) × IsSome (as_object d) × (member_as as_listing (codes "digests") d ≡ Some listed) × (262144 < length listed)

abbrev pub HasBadDigest : ℕ → ℕ → Data → Type 0
HasBadDigest i j d = (listed : List Listed) × HasListing d listed × IsFirstBadDigest listed i j

-- of a value that is no policy, whatever texts its patterns are; nothing is said of want of memory
abbrev pub IsPartsFault : Data → PolicyFault → Type 0
IsPartsFault d (Json NotJson) = ⊥
IsPartsFault d (Json (Missing name)) = (name.now ≡ codes "digests") × IsSome (as_object d) × IsMissing (codes "digests") d
IsPartsFault d (Json (Kind name)) = IsKindFault name.now d
IsPartsFault d (Json (Range name)) = ⊥
IsPartsFault d (Json no_memory) = ⊥
IsPartsFault d (Line place) = ⊥
IsPartsFault d (BadDigest i j) = HasBadDigest i j d
IsPartsFault d (Unsupported name) = HasSomeDigests d × HasSomePatterns d × HasSomeChoice d × IsUnsupported name.now d
IsPartsFault d (Over Paths) = HasManyPaths d
IsPartsFault d (Over Patterns) = HasMany d
IsPartsFault d (Over PatternBytes) = HasLong d
IsPartsFault d (Exclude why) = ⊥
IsPartsFault d Memory = ⊤
