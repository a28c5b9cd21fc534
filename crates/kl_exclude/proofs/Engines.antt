-- What the engines answer for a program at byte 0 is what its pattern's attempt there does.
use Rattle.std.proofs.Common.{◌≡◌, ℕ, List, length, Option, None, Some, is_some, option_map, refl, ap, ap₂, ◌∙◌}
use Rattle.std.specs.Option.{option_or}
use Rattle.regex_dfa.specs.Search.{end_from}
use Rattle.regex_hir.specs.Find.{first_from}
use Rattle.regex_hir.specs.Meaning.{meaning}
use Rattle.regex_hir.specs.Re.{accept, attempt}
use Rattle.regex_hir.specs.declared.hir.Hir.{Hir}
use Rattle.regex_meta.proofs.ProgramLemmas.{run-attempt}
use Rattle.regex_meta.specs.declared.program.Program.{Program}
use Rattle.regex_vm.specs.Found.{first_match}

mapped : {A B : Type 0} (f : A → B) (o : Option A) → is_some (option_map f o) ≡ is_some o
mapped f None = refl
mapped f (Some x) = refl

or_none : {A : Type 0} (o : Option A) → is_some (option_or o None) ≡ is_some o
or_none None = refl
or_none (Some x) = refl

-- a program that has this tree, and bytes that are this path
module _ (p : Program) (tree : Hir) (same_tree : p.hir ≡ tree) (bytes path : List ℕ) (same_bytes : bytes ≡ path) where
  renamed : is_some (attempt bytes (meaning p.hir) accept 0) ≡ is_some (attempt path (meaning tree) accept 0)
  renamed = ap₂ (λ hay named. is_some (attempt hay (meaning named) accept 0)) same_bytes same_tree

  -- the automaton's
  pub end_of_attempt : is_some (end_from p.dfa.nfa bytes (length bytes) p.dfa.nfa.start 0) ≡ is_some (attempt path (meaning tree) accept 0)
  end_of_attempt = mapped _ _ ∙ ap is_some (run-attempt p bytes 0) ∙ renamed

  -- the fallback's
  pub match_of_attempt : is_some (first_match p.dfa.nfa bytes (length bytes) 0 0) ≡ is_some (attempt path (meaning tree) accept 0)
  unfolding first_from
  match_of_attempt = or_none _ ∙ mapped _ _ ∙ ap is_some (run-attempt p bytes 0) ∙ renamed
