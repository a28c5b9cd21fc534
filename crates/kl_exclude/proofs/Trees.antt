-- From texts to their trees, and from these to the one pattern of all.
use Rattle.std.proofs.Common.{◌≡◌, ◌<◌, ◌+◌, ℕ, Bool, true, false, ◌||◌, List, [], ◌∷◌, ◌++◌, map, length, get_or, Option, None, Some, is_some, take, IfSome, refl, sym, ap, ◌∙◌}
use Rattle.regex_meta.specs.Programs.{pattern_of}
use Rattle.regex_meta.specs.declared.program.Program.{Program}
use Rattle.regex.specs.Patterns.{Re}
use Rattle.regex_hir.specs.Meaning.{meaning}
use Rattle.regex_hir.specs.Re.{accept, attempt}
use Rattle.regex_hir.specs.declared.hir.Hir.{Hir}
use Rattle.kl_exclude.specs.Excludes.{excludes, any_excludes}
use Rattle.kl_exclude.specs.Inner.Joined.{hits, any_hits, joined, StandsFor, StandForAll, AnswersFor}
use Rattle.kl_exclude.proofs.OneSearch.{joined_begins}
use Rattle.kl_exclude.proofs.Walks.{or_with_false, take_next}

or_assoc : (a b c : Bool) → (a || (b || c)) ≡ ((a || b) || c)
or_assoc true b c = refl
or_assoc false b c = refl

any_excludes-last : (texts : List (List ℕ)) (text path : List ℕ) → any_excludes (texts ++ text ∷ []) path ≡ (any_excludes texts path || excludes text path)
any_excludes-last [] text path = or_with_false (excludes text path)
any_excludes-last (first ∷ texts) text path =
    ap (λ b. excludes first path || b) (any_excludes-last texts text path) ∙ or_assoc (excludes first path) (any_excludes texts path) (excludes text path)

any_hits-last : (trees : List Hir) (tree : Hir) (path : List ℕ) → any_hits (map meaning (trees ++ tree ∷ [])) path ≡ (any_hits (map meaning trees) path || hits (meaning tree) path)
any_hits-last [] tree path = or_with_false (hits (meaning tree) path)
any_hits-last (first ∷ trees) tree path =
    ap (λ b. hits (meaning first) path || b) (any_hits-last trees tree path)
    ∙ or_assoc (hits (meaning first) path) (any_hits (map meaning trees) path) (hits (meaning tree) path)

pub one_text_more : (texts : List (List ℕ)) (i : ℕ) (text : List ℕ) → i < length texts → text ≡ get_or texts i text → (path : List ℕ)
    → any_excludes (take (i + 1) texts) path ≡ (any_excludes (take i texts) path || excludes text path)
one_text_more texts i text lt e path = ap (λ ts. any_excludes ts path) (take_next texts i text lt e) ∙ any_excludes-last (take i texts) text path

pub one_tree_more : (texts : List (List ℕ)) (trees : List Hir) (text : List ℕ) (tree : Hir) → StandForAll texts trees → StandsFor text (meaning tree)
    → StandForAll (texts ++ text ∷ []) (trees ++ tree ∷ [])
one_tree_more texts trees text tree all one path bytes =
    any_hits-last trees tree path
    ∙ ap (λ b. b || hits (meaning tree) path) (all path bytes)
    ∙ ap (λ b. any_excludes texts path || b) (one path bytes)
    ∙ sym (any_excludes-last texts text path)

answers : (texts : List (List ℕ)) (trees : List Hir) → StandForAll texts trees → (re : Re) → re ≡ joined (map meaning trees) → AnswersFor texts re
answers texts trees all re e path utf8 bytes =
    ap (λ r. is_some (attempt path r accept 0)) e ∙ joined_begins (map meaning trees) path utf8 ∙ all path bytes

pub program_answers : (texts : List (List ℕ)) (trees : List Hir) → StandForAll texts trees → (o : Option Program)
    → IfSome o (λ p. pattern_of p ≡ joined (map meaning trees)) → IfSome o (λ p. AnswersFor texts (pattern_of p))
program_answers texts trees all None h = h
program_answers texts trees all (Some p) h = answers texts trees all (pattern_of p) h
