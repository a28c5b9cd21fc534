-- What the parts of a JSON policy's value are, by the values in memory.
use Rattle.std.specs.Prelude.{◌≡◌, ℕ, List, Some, All, ⊤, string_bytes, String}
use Rattle.std.specs.declared.alloc.Global.{Global}
use Rattle.std.specs.List.{AllZip}
use Rattle.serde_json.specs.Data.{Data}
use Rattle.serde_json.specs.Find.{as_str}
use Rattle.serde_json.specs.View.{view}
use Rattle.serde_json.specs.declared.value.Value.{Value}
use Rattle.kl_exclude.specs.Told.{MakerTold}
use Rattle.kl_exclude.specs.declared.fault.ExcludeFault.TheVariants.{Syntax, TooLarge}
use Rattle.kl_json.specs.Reading.{IsNotJson}
use Rattle.kl_json.specs.declared.fault.JsonFault.TheVariants.{NotJson}
use Rattle.kl_entry.specs.Lines.{IsFirstFailing}
use Rattle.kl_policy.specs.Making.{IsExcludeFault, AsksFront}
use Rattle.kl_digests.specs.Digests.{SpellsDigest}
use Rattle.kl_policy.specs.Json.{Listed, as_texts, IsGood, IsFirstBadDigest, IsPartsFault, IsShort, HasSomeDigests}
use Rattle.kl_policy.specs.declared.fault.Limit.TheVariants.{PatternBytes}
use Rattle.kl_policy.specs.declared.fault.PolicyFault.{PolicyFault}
use Rattle.kl_policy.specs.declared.fault.PolicyFault.TheVariants.{Json, BadDigest, Limit as Over, Exclude, Memory}

-- a member in memory
abbrev pub Entry : Type 0
Entry = String Global × Value

-- the values are these texts
abbrev pub AreTexts : List Value → List (List ℕ) → Type 0
AreTexts values texts = AllZip (λ value text. as_str (view value) ≡ Some text) values texts

-- the value is a text that spells this digest
abbrev pub SpellsValue : Value → List ℕ → Type 0
SpellsValue value digest = (text : List ℕ) × (as_str (view value) ≡ Some text) × SpellsDigest text digest

-- the member's texts spell these digests
abbrev pub SpellsAll : Entry → Listed → Type 0
SpellsAll entry pair = (pair.0 ≡ string_bytes entry.0) × ((texts : List (List ℕ)) × (as_texts (view entry.1) ≡ Some texts) × AllZip SpellsDigest texts pair.1)

-- the first of these texts that spells no digest has this place
abbrev pub IsFirstBad : List (List ℕ) → ℕ → Type 0
IsFirstBad texts place = IsFirstFailing IsGood (λ text. ¬ IsGood text) texts place

-- why the texts of path i don't spell digests, but for want of memory
abbrev pub IsTextsFault : ℕ → List (List ℕ) → PolicyFault → Type 0
IsTextsFault i texts (BadDigest path place) = (path ≡ i) × IsFirstBad texts place
IsTextsFault i texts Memory = ⊤
IsTextsFault i texts _ = ⊥

-- the same of all paths
abbrev pub IsListingFault : List Listed → PolicyFault → Type 0
IsListingFault listed (BadDigest path place) = IsFirstBadDigest listed path place
IsListingFault listed Memory = ⊤
IsListingFault listed _ = ⊥

-- why these texts are no patterns: one is too long
abbrev pub IsCopyFault : List (List ℕ) → PolicyFault → Type 0
IsCopyFault texts (Over PatternBytes) = ¬ All IsShort texts
IsCopyFault texts Memory = ⊤
IsCopyFault texts _ = ⊥

-- why a policy is none, where its digests are good
abbrev pub IsRestFault : Data → PolicyFault → Type 0
IsRestFault d fault = HasSomeDigests d → IsPartsFault d fault

-- why a text has no value
abbrev pub IsParseFault : List ℕ → PolicyFault → Type 0
IsParseFault text (Json NotJson) = IsNotJson text
IsParseFault text Memory = ⊤
IsParseFault text _ = ⊥

-- why texts are no patterns
abbrev pub IsCompileFault : List (List ℕ) → MakerTold → MakerTold → PolicyFault → Type 0
IsCompileFault texts old new (Exclude (Syntax place)) = IsExcludeFault texts old new (Syntax place)
IsCompileFault texts old new (Exclude (TooLarge place)) = IsExcludeFault texts old new (TooLarge place)
IsCompileFault texts old new Memory = AsksFront texts old new
IsCompileFault texts old new _ = ⊥
