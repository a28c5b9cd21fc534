-- Which texts are JSON, and which value each is.
use Rattle.std.specs.Prelude.{◌≡◌, ℕ, List, Some, IsUtf8}
use Rattle.serde_json.specs.Data.{Data}
use Rattle.serde_json.specs.Read.{read}

-- the bytes are a text in UTF-8 that reads as this data
abbrev pub Reads : List ℕ → Data → Type 0
Reads text d = IsUtf8 text × (read text ≡ Some d)

-- the bytes are no text in UTF-8, or one that has no reading
abbrev pub IsNotJson : List ℕ → Type 0
IsNotJson text = (d : Data) → ¬ Reads text d
