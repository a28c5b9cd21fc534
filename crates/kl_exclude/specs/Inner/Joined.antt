-- Patterns as trees, and many of them as one.
use Rattle.std.specs.Prelude.{◌≡◌, ◌<◌, ℕ, Bool, false, List, [], ◌∷◌, ◌||◌, map, get_or, IsUtf8, is_some}
use Rattle.regex.specs.Patterns.{Re, Start, find_str, look, cat, empty, alt_all}
use Rattle.regex_hir.specs.Meaning.{meaning}
use Rattle.regex_hir.specs.Re.{accept, attempt}
use Rattle.regex_hir.specs.declared.hir.Hir.{Hir}
use Rattle.kl_exclude.specs.Excludes.{begins_at_0, excludes, any_excludes}

-- whether the leftmost match of the pattern begins at byte 0
abbrev pub hits : Re → List ℕ → Bool
hits re path = begins_at_0 (find_str re path 0)

-- whether that of one of the patterns does
abbrev pub any_hits : List Re → List ℕ → Bool
any_hits [] path = false
any_hits (re ∷ res) path = hits re path || any_hits res path

-- `^(?:a|b|..)`, where `^` is the start of the path
abbrev pub joined : List Re → Re
joined res = cat (look Start) (cat (alt_all res) empty)

abbrev pub AreBytes : List ℕ → Type 0
AreBytes path = (k : ℕ) → get_or path k 0 < 256

-- the pattern hits what the text excludes
abbrev pub StandsFor : List ℕ → Re → Type 0
StandsFor text re = (path : List ℕ) → AreBytes path → hits re path ≡ excludes text path

-- one of the trees hits what one of the texts excludes
abbrev pub StandForAll : List (List ℕ) → List Hir → Type 0
StandForAll texts trees = (path : List ℕ) → AreBytes path → any_hits (map meaning trees) path ≡ any_excludes texts path

-- the pattern's attempt at byte 0 is a match exactly where one of the texts excludes the path
abbrev pub AnswersFor : List (List ℕ) → Re → Type 0
AnswersFor texts re = (path : List ℕ) → IsUtf8 path → AreBytes path → is_some (attempt path re accept 0) ≡ any_excludes texts path
