use Rattle.std.proofs.Common.{◌≡◌, ℕ, List, arith}
use Rattle.std.specs.Option.{IfSome, IfNone}
use Rattle.std.specs.declared.option.Option.{Option}
use Rattle.std.specs.declared.option.Option.TheVariants.{None, Some}
use denote.Ref.{Bor}
use Rattle.std.proofs.lemmas.Str.Pattern.{IsSplitOnceResult, split_parts}
use Rattle.kl_quote.specs.QuoteText.{colons}
use Rattle.kl_quote.proofs.Colons.{colons_none}
use Rattle.kl_quote.proofs.quote.cut_at_colon.Goals as goal

first_part : (text : List ℕ) (r : Option (Bor (List ℕ) × Bor (List ℕ))) → IsSplitOnceResult 58 text r → IfSome r (λ x. colons x.0.now ≡ 0)
first_part text None h = tt
first_part text (Some x) h = colons_none x.0.now (split_parts 58 text (Some x) h (omega arith)).1

no_part : (text : List ℕ) (r : Option (Bor (List ℕ) × Bor (List ℕ))) → IsSplitOnceResult 58 text r → IfNone r (colons text ≡ 0)
no_part text None h = colons_none text (split_parts 58 text None h (omega arith))
no_part text (Some x) h = tt

pub returns-clause-first : goal.returns-clause-first
returns-clause-first c = first_part c.args.text.now _ c.split_once.ensures.cases

pub returns-clause-none : goal.returns-clause-none
returns-clause-none c = no_part c.args.text.now _ c.split_once.ensures.cases
