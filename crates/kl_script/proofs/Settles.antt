-- A number and the word for how a delivery ended: a text is cut into them in one way.
use Rattle.std.proofs.Common.{◌≡◌, ℕ, List, ◌∷◌, ◌++◌, sym, subst, ◌∙◌}
use Rattle.kl_script.specs.Words.{HasNo, IsNumber}
use Rattle.kl_script.specs.Deliveries.{delivery_word}
use Rattle.kl_script.specs.declared.command.Settle.{Settle}
use Rattle.kl_script.specs.Commands.{SpellsSettle}
use Rattle.kl_script.proofs.Splitting.{same_word, no_word}
use Rattle.kl_script.proofs.Decimals.{decimal_has_no_space}

pub number_has_no_space : (written : List ℕ) (n : ℕ) → IsNumber written n → HasNo 32 written
number_has_no_space written n number = subst (HasNo 32) (sym number.1) (decimal_has_no_space n number.0)

-- the number and the word stand on the two sides of the first space
pub settle_cut : (arguments number word : List ℕ) (said : Settle) → arguments ≡ number ++ 32 ∷ word → HasNo 32 number → SpellsSettle arguments said
    → IsNumber number said.number × (word ≡ delivery_word said.delivery)
settle_cut arguments number word said e free s =
    let same = same_word 32 number s.number word (delivery_word said.delivery) free (number_has_no_space s.number said.number s.is_number) (sym e ∙ s.split) in
    (subst (λ (w : List ℕ). IsNumber w said.number) (sym same.0) s.is_number, same.1)

pub settle_uncut : (arguments : List ℕ) (said : Settle) → HasNo 32 arguments → ¬ (SpellsSettle arguments said)
settle_uncut arguments said free s = no_word 32 arguments s.number (delivery_word said.delivery) free s.split
