-- What a search for some patterns is.
use Rattle.std.specs.Prelude.{◌≡◌, ℕ, List}
use Rattle.regex_hir.specs.Meaning.{meaning}
use Rattle.kl_exclude.specs.Inner.Joined.{AnswersFor}
use Rattle.kl_exclude.specs.declared.path_searcher.Search.{Search}
use Rattle.kl_exclude.specs.declared.path_searcher.Search.TheVariants.{Together, Apart}

-- one for all of them, or one for each
abbrev pub SearchesFor : List (List ℕ) → Search → Type 0
SearchesFor patterns (Together searcher) = AnswersFor patterns (meaning searcher)
SearchesFor patterns (Apart searchers) = searchers.items ≡ patterns
