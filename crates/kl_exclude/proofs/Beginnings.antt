-- What a leftmost match at byte 0 is, and that a text and the pattern that it is read as hit the same paths.
use Rattle.std.proofs.Common.{◌≡◌, ◌≢◌, ◌↔◌, ◌⊎◌, ℕ, ◌<◌, ◌≤◌, Bool, List, get_or, Option, None, Some, IsSome, IsSomeAnd, IfSome, option_map, option_and_then, length, refl, sym, ap, ◌∙◌, subst, inl, inr, arith, tests, rules, IsUtf8, true, false}
use Rattle.std.proofs.lemmas.Bool.{cases_lt, false≢true}
use Rattle.std.proofs.lemmas.Option.{none-some, same_Some}
use Rattle.std.proofs.lemmas.Str.{IsCharBoundary-start}
use Rattle.std.specs.Str.{chars}
use Rattle.regex.specs.Patterns.{Re, Match, Matches, SameCaptures, find_str, span, default_config, Config, Reads, Refuses}
use Rattle.regex.specs.Strings.{regex_pattern, regex_source, regex_config}
use Rattle.regex.specs.declared.string.regex.Regex.{Regex}
use Rattle.regex.proofs.ForCallers.{find_str_sound, find_str_complete, span_alike}
use Rattle.regex_hir.specs.Meaning.{meaning}
use Rattle.regex_hir.specs.declared.hir.Hir.{Hir}
use Rattle.regex_syntax.specs.Grammar.{read, Names, group_count}
use Rattle.regex_syntax.specs.Brackets.{Nested}
use Rattle.regex_syntax.specs.declared.error.ErrorKind.{ErrorKind}
use Rattle.regex_syntax.specs.declared.error.ErrorKind.TheVariants as kinds
use Rattle.kl_exclude.specs.Excludes.{IsPattern, begins_at_0, excludes}
use Rattle.kl_exclude.specs.Inner.Joined.{hits, AreBytes, StandsFor}
use Rattle.kl_exclude.specs.Making.{IsRegexOf}

-- ---- a hit is a match at byte 0
match_of_hit : (re : Re) (path : List ℕ) (o : Option Match) → find_str re path 0 ≡ o → begins_at_0 o ≡ true → (end : ℕ) × Matches path re 0 end
match_of_hit re path None e hit = absurd (false≢true hit)
match_of_hit re path (Some m) e hit =
    let found = find_str_sound re path 0 m e in
    let first : m.start ≡ 0 = search (tests, rules, hit) in
    (m.trace.end, subst (λ place. Matches path re place m.trace.end) first found.1)

hit_of_match : (re : Re) (path : List ℕ) → IsUtf8 path → (o : Option Match) → find_str re path 0 ≡ o → (end : ℕ) → Matches path re 0 end → begins_at_0 o ≡ true
hit_of_match re path utf8 None e end m = absurd (false≢true (subst IsSome e (find_str_complete re path 0 0 end (omega arith) (IsCharBoundary-start path utf8) m)))
hit_of_match re path utf8 (Some found) e end m =
    let sound = find_str_sound re path 0 found e in
    elim (cases_lt 0 found.start) [
      | inl later ↦ absurd (sound.2 0 end (omega arith) later (IsCharBoundary-start path utf8) m)
      | inr here ↦ let first : found.start ≡ 0 = omega arith in search (tests, rules)
    ]

pub hit_is_match : (re : Re) (path : List ℕ) → IsUtf8 path → (hits re path ≡ true) ↔ ((end : ℕ) × Matches path re 0 end)
hit_is_match re path utf8 =
    (match_of_hit re path (find_str re path 0) refl, λ (end, m). hit_of_match re path utf8 (find_str re path 0) refl end m)

-- ---- what matches alike hits alike
begin_alike : (o p : Option Match) → option_map span o ≡ option_map span p → begins_at_0 o ≡ begins_at_0 p
begin_alike None None e = refl
begin_alike None (Some n) e = absurd (none-some _ e)
begin_alike (Some m) None e = absurd (none-some _ (sym e))
begin_alike (Some m) (Some n) e = ap (λ s. Rattle.std.proofs.Common.◌==◌ s.0 0) (same_Some _ _ e)

hit_alike : {a b : Re} → SameCaptures a b → (path : List ℕ) → AreBytes path → hits a path ≡ hits b path
hit_alike {a = a} {b = b} same path bytes = begin_alike (find_str a path 0) (find_str b path 0) (span_alike same path bytes true 0)

-- ---- a text and what it is read as
stands_of : (hir : Hir) (names : Names) (path : List ℕ) → AreBytes path → (o : Option (Nested Re × Names))
    → IsSomeAnd o (λ (re, found). (re.depth ≤ default_config.nest_limit) × SameCaptures (meaning hir) re.value × (names ≡ found) × (group_count (meaning hir) ≤ length names))
    → hits (meaning hir) path ≡ begins_at_0 (option_and_then (λ (re, found). find_str re.value path 0) o)
stands_of hir names path bytes None h = absurd h
stands_of hir names path bytes (Some x) h = hit_alike h.1 path bytes

pub stands_of_read : (text : List ℕ) (hir : Hir) (names : Names) → Reads default_config text hir names → StandsFor text (meaning hir)
unfolding Reads excludes
stands_of_read text hir names h path bytes = stands_of hir names path bytes (read default_config (chars text)) h

pub stands_of_config : (config : Config) → config ≡ default_config → (text : List ℕ) (hir : Hir) (names : Names) → Reads config text hir names → StandsFor text (meaning hir)
stands_of_config config same text hir names h = stands_of_read text hir names (subst (λ c. Reads c text hir names) same h)

pub regex_stands : (text : List ℕ) (made : Regex) → IsRegexOf text made → StandsFor (regex_source made) (regex_pattern made)
regex_stands text made h = stands_of_config (regex_config made) h.config (regex_source made) _ _ h.read

-- ---- which texts are patterns
shallow_of : (hir : Hir) (names : Names) (o : Option (Nested Re × Names))
    → IsSomeAnd o (λ (re, found). (re.depth ≤ default_config.nest_limit) × SameCaptures (meaning hir) re.value × (names ≡ found) × (group_count (meaning hir) ≤ length names))
    → IsSomeAnd o (λ (re, found). re.depth ≤ default_config.nest_limit)
shallow_of hir names None h = absurd h
shallow_of hir names (Some x) h = h.0

pub is_pattern_of_read : (config : Config) → config ≡ default_config → (text : List ℕ) (hir : Hir) (names : Names) → Reads config text hir names → IsPattern text
unfolding Reads IsPattern
is_pattern_of_read config same text hir names h =
    let by_default : Reads default_config text hir names = subst (λ c. Reads c text hir names) same h in
    shallow_of hir names (read default_config (chars text)) by_default

pub regex_is_pattern : (text : List ℕ) (made : Regex) → IsRegexOf text made → IsPattern text
regex_is_pattern text made h = subst IsPattern h.source (is_pattern_of_read (regex_config made) h.config (regex_source made) _ _ h.read)

refused_of : (kind : ErrorKind) (o : Option (Nested Re × Names)) → kind ≢ kinds.OutOfMemory
    → (kind ≡ kinds.OutOfMemory) ⊎ ((o ≡ None) ⊎ ((kind ≡ kinds.NestLimitExceeded) × IfSome o (λ (re, _). default_config.nest_limit < re.depth)))
    → ¬ (IsSomeAnd o (λ (re, found). re.depth ≤ default_config.nest_limit))
refused_of kind o other (inl memory) h = absurd (other memory)
refused_of kind None other (inr why) h = absurd h
refused_of kind (Some x) other (inr (inl none)) h = absurd (none-some _ (sym none))
refused_of kind (Some x) other (inr (inr deep)) h = let clash : ⊥ = omega (arith, deep.1, h) in clash

pub refusal_is_none : (text : List ℕ) (kind : ErrorKind) → kind ≢ kinds.OutOfMemory → Refuses default_config text kind → ¬ (IsPattern text)
unfolding Refuses IsPattern
refusal_is_none text kind other why = refused_of kind (read default_config (chars text)) other why
