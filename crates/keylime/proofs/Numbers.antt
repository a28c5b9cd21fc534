-- The numbers with which the program ends.
use Rattle.std.proofs.Common.{◌≡◌, ◌⊎◌, ℕ, inl, inr, refl, sym, subst, arith}
use Rattle.kl_console.specs.Run.{IsStatus}

-- those of a text that was to be written
pub said : (n : ℕ) → (n ≡ 0) ⊎ (n ≡ 5) → IsStatus n
said n (inl done) = subst IsStatus (sym done) (0, omega arith, refl)
said n (inr failed) = subst IsStatus (sym failed) (4, omega arith, refl)
