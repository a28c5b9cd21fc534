-- Fields that are written one after the other.
use Rattle.std.proofs.Common.{◌≡◌, ℕ, List, [], ◌∷◌, ◌++◌, sym, ap, ◌∙◌, append_assoc}
use Rattle.std.proofs.lemmas.List.{append-nil}
use Rattle.kl_attest.specs.Grammar.{Field, field_text, joined}
use Rattle.kl_attest.proofs.Readers.{joined_append}

pub put_one : (f : Field) (old new text : List ℕ) → new ≡ old ++ text → text ≡ field_text f → new ≡ old ++ joined (f ∷ [])
put_one f old new text e is = e ∙ ap (λ (t : List ℕ). old ++ t) (is ∙ sym (append-nil (field_text f)))

pub put_more : (xs ys : List Field) (old mid new : List ℕ) → mid ≡ old ++ joined xs → new ≡ mid ++ joined ys → new ≡ old ++ joined (xs ++ ys)
put_more xs ys old mid new e f =
    f ∙ ap (λ (t : List ℕ). t ++ joined ys) e ∙ append_assoc old (joined xs) (joined ys) ∙ ap (λ (t : List ℕ). old ++ t) (sym (joined_append xs ys))
