-- A piece of a chunk put at the end of a line.
use Rattle.std.proofs.Common.{◌≡◌, ℕ, ◌+◌, ◌-◌, ◌≤◌, List, ◌∷◌, ◌++◌, take, drop, sym, ap, ◌∙◌, append_assoc, arith, inl, inr}
use Rattle.std.proofs.lemmas.List.{drop-take, drop-drop}
use Rattle.std.proofs.lemmas.List.Elements.{Contains-append_cases}
use Rattle.kl_entry.specs.Lines.{HasNo}
use Rattle.kl_console.specs.Inner.Reading.{IsNewlineAt}

-- what is left of a part of a chunk behind its first n + 1 bytes
pub rest_of_part : (chunk : List ℕ) (start stop n : ℕ) → n ≤ stop - start → take (stop - (start + n)) (drop (start + n) chunk) ≡ drop n (take (stop - start) (drop start chunk))
rest_of_part chunk start stop n lt =
    let split : stop - start ≡ n + (stop - (start + n)) = omega arith in
    sym (rw split (drop-take n (stop - (start + n)) (drop start chunk) ∙ ap (take (stop - (start + n))) (drop-drop n start chunk)))

-- a line, and behind it bytes with a newline in them, is the longer line, the newline and the rest
pub newline_moved : (line ahead : List ℕ) (at : ℕ) → IsNewlineAt ahead at → (line ++ take at ahead) ++ 10 ∷ drop (at + 1) ahead ≡ line ++ ahead
newline_moved line ahead at h = append_assoc line (take at ahead) (10 ∷ drop (at + 1) ahead) ∙ ap (λ (x : List ℕ). line ++ x) (sym h.parts)

-- a byte that stands in neither of two pieces
pub HasNo-append : (b : ℕ) (front back : List ℕ) → HasNo b front → HasNo b back → HasNo b (front ++ back)
HasNo-append b front back none no_more has = elim (Contains-append_cases front back b has) [ inl here ↦ none here | inr there ↦ no_more there ]
