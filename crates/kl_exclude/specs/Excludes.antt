-- Which paths the text of a pattern excludes. Texts are read by `regex`, with its default options.
use Rattle.std.specs.Prelude.{ℕ, ◌≤◌, ◌==◌, ◌||◌, Bool, false, List, [], ◌∷◌, Option, None, Some, chars, option_and_then, IsSomeAnd}
use Rattle.regex.specs.Patterns.{Match, find_str, default_config}
use Rattle.regex_syntax.specs.Grammar.{read}

-- the text is a pattern: the grammar of `regex` reads it, and it is nested no deeper than `regex` takes, which is 250
unfoldable pub IsPattern : List ℕ → Type 0
IsPattern text = IsSomeAnd (read default_config (chars text)) (λ (re, names). re.depth ≤ default_config.nest_limit)

-- the leftmost match, in the path, of the pattern that the text is
abbrev pub leftmost : List ℕ → List ℕ → Option Match
leftmost text path = option_and_then (λ (re, names). find_str re.value path 0) (read default_config (chars text))

-- whether there is a match and it begins at byte 0
abbrev pub begins_at_0 : Option Match → Bool
begins_at_0 None = false
begins_at_0 (Some m) = m.start == 0

-- whether the text excludes the path: its leftmost match there begins at byte 0
unfoldable pub excludes : List ℕ → List ℕ → Bool
excludes text path = begins_at_0 (leftmost text path)

-- whether one of the texts does
abbrev pub any_excludes : List (List ℕ) → List ℕ → Bool
any_excludes [] path = false
any_excludes (text ∷ texts) path = excludes text path || any_excludes texts path
