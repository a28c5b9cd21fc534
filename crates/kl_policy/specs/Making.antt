-- What reading a policy asks of what makes its patterns, and why a text is no policy.
use Rattle.std.specs.Prelude.{◌≡◌, ◌⊎◌, ℕ, List, ◌++◌, Bool, true, false, Err, ⊤}
use Rattle.serde_json.specs.Data.{Data}
use Rattle.kl_exclude.specs.Compiled.{IsFaultOf, AreAsked}
use Rattle.kl_exclude.specs.Told.{MakerTold, Logs, RefusesNone}
use Rattle.kl_exclude.specs.declared.fault.ExcludeFault.{ExcludeFault}
use Rattle.kl_exclude.specs.declared.fault.ExcludeFault.TheVariants.{Syntax, TooLarge, Memory as no_memory_left}
use Rattle.kl_json.specs.Reading.{Reads, IsNotJson}
use Rattle.kl_json.specs.declared.fault.JsonFault.TheVariants.{NotJson, Memory as no_memory}
use Rattle.kl_digests.specs.Digests.{DigestMap}
use Rattle.kl_policy.specs.Flat.{IsFlatFault}
use Rattle.kl_policy.specs.Json.{HasParts, IsPartsFault}
use Rattle.kl_policy.specs.declared.fault.PolicyFault.{PolicyFault}
use Rattle.kl_policy.specs.declared.fault.PolicyFault.TheVariants.{Json, Exclude, Memory}
use Rattle.kl_states.specs.declared.policy_kind.PolicyKind.{PolicyKind}
use Rattle.kl_states.specs.declared.policy_kind.PolicyKind.TheVariants as kind

-- each of these patterns was asked once, in order, and none was refused as too large
pub record Makes (patterns : List (List ℕ)) (old new : MakerTold) : Type 0 where
  pub asked : Logs old new patterns
  pub refused : RefusesNone old new

-- the first pattern that is none, or that was refused as too large; each up to it was asked once, in order
pub record IsExcludeFault (patterns : List (List ℕ)) (old new : MakerTold) (why : ExcludeFault) : Type 0 where
  pub first : IsFaultOf patterns old new why
  pub all : List (List ℕ)
  pub up_to : AreAsked {V = ⊤} patterns (Err why) all
  pub asked : Logs old new all

-- memory ran out: the first of these patterns were asked once each, in order, and none was refused as too large
pub record AsksFront (patterns : List (List ℕ)) (old new : MakerTold) : Type 0 where
  pub front : List (List ℕ)
  pub rest : List (List ℕ)
  pub cut : patterns ≡ front ++ rest
  pub asked : Logs old new front
  pub refused : RefusesNone old new

-- the parts of the text are good, and so it is with its patterns
pub record IsOfPatterns (text : List ℕ) (So : List (List ℕ) → Type 0) : Type 0 where
  pub value : Data
  pub reads : Reads text value
  pub digests : DigestMap
  pub patterns : List (List ℕ)
  pub passes : Bool
  pub parts : HasParts value digests patterns passes
  pub so : So patterns

-- of a text whose parts are good: why its patterns are none
abbrev pub IsPatternsFault : List ℕ → MakerTold → MakerTold → ExcludeFault → Type 0
IsPatternsFault text old new why = IsOfPatterns text (λ patterns. IsExcludeFault patterns old new why)

-- what was asked where memory ran out over a text: nothing; or the first patterns of a JSON policy whose parts are good
abbrev pub AsksSome : PolicyKind → List ℕ → MakerTold → MakerTold → Type 0
AsksSome kind.Flat text old new = new ≡ old
AsksSome kind.Json text old new = (new ≡ old) ⊎ IsOfPatterns text (λ patterns. AsksFront patterns old new)

-- of a text that is JSON: why its value is no policy, for which no pattern is asked
pub record IsValueFault (text : List ℕ) (old new : MakerTold) (why : PolicyFault) : Type 0 where
  pub value : Data
  pub reads : Reads text value
  pub fault : IsPartsFault value why
  pub unasked : new ≡ old

-- why a text is no JSON policy: the first cause
abbrev pub IsJsonFault : List ℕ → MakerTold → MakerTold → PolicyFault → Type 0
IsJsonFault text old new (Json NotJson) = IsNotJson text × (new ≡ old)
IsJsonFault text old new (Exclude (Syntax place)) = IsPatternsFault text old new (Syntax place)
IsJsonFault text old new (Exclude (TooLarge place)) = IsPatternsFault text old new (TooLarge place)
IsJsonFault text old new (Exclude no_memory_left) = ⊥
IsJsonFault text old new Memory = AsksSome kind.Json text old new
IsJsonFault text old new fault = IsValueFault text old new fault

-- why a text is no policy of its form
abbrev pub IsNoPolicy : PolicyKind → List ℕ → MakerTold → MakerTold → PolicyFault → Type 0
IsNoPolicy kind.Flat text old new fault = IsFlatFault text fault × (new ≡ old)
IsNoPolicy kind.Json text old new fault = IsJsonFault text old new fault

-- what is asked for a policy
abbrev pub AsksFor : PolicyKind → List (List ℕ) → MakerTold → MakerTold → Type 0
AsksFor kind.Flat patterns old new = new ≡ old
AsksFor kind.Json patterns old new = Makes patterns old new

-- whether the text alone settles it: memory may run out, and what makes the patterns may refuse one as too large
abbrev pub is_settled : PolicyFault → Bool
is_settled Memory = false
is_settled (Json no_memory) = false
is_settled (Exclude no_memory_left) = false
is_settled (Exclude (TooLarge place)) = false
is_settled fault = true
