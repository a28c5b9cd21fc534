-- A piece that is written in parts.
use Rattle.std.proofs.Common.{◌≡◌, ℕ, ◌-◌, List, ◌++◌, length, take, drop, Option, sym, ap, ◌∙◌, append_assoc}
use Rattle.std.proofs.lemmas.List.{take-append-drop, take_rest}
use Rattle.std.specs.Io.KnownBytes.{Appends}
use Rattle.std.proofs.KnownBytes.{Appends-trans}

-- of the piece this rest is not yet written
abbrev pub Writes : Option (List ℕ) → Option (List ℕ) → List ℕ → List ℕ → Type 0
Writes old now piece rest = (front : List ℕ) × (piece ≡ front ++ rest) × Appends old now front

moved : (piece front rest : List ℕ) (n : ℕ) → piece ≡ front ++ rest → piece ≡ (front ++ take n rest) ++ take (length rest - n) (drop n rest)
moved piece front rest n split =
    split ∙ ap (λ l. front ++ l) (sym (take-append-drop n rest)) ∙ sym (append_assoc front (take n rest) (drop n rest)) ∙ ap (λ l. (front ++ take n rest) ++ l) (sym (take_rest rest n))

pub Writes-more : (old now then' : Option (List ℕ)) (piece rest : List ℕ) (n : ℕ) → Writes old now piece rest → Appends now then' (take n rest) → Writes old then' piece (take (length rest - n) (drop n rest))
Writes-more old now then' piece rest n (front, split, appended) next =
    (front ++ take n rest, moved piece front rest n split, Appends-trans old now then' front (take n rest) appended next)
