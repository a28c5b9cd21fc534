-- What a text is made into.
use Rattle.std.specs.Prelude.{◌≡◌, ℕ, List}
use Rattle.regex.specs.Patterns.{default_config}
use Rattle.regex.specs.Strings.{regex_source, regex_config, IsReadFromSource}
use Rattle.regex.specs.declared.string.regex.Regex.{Regex}

-- the regex is what `regex` reads of the text, with its default options
pub record IsRegexOf (text : List ℕ) (made : Regex) : Type 0 where
  pub source : regex_source made ≡ text
  pub config : regex_config made ≡ default_config
  pub read : IsReadFromSource made
