-- When a registrar is full.
use Rattle.std.proofs.Common.{◌≡◌, ◌↔◌, ◌≤◌, ℕ, ◌+◌, List, if◌then◌else◌, ap₂, sym, subst}
use Rattle.kl_registrar.specs.Calls.{Log}
use Rattle.kl_registrar.specs.Records.{Keeps, most_others, IsFull}
use Rattle.kl_registrar.specs.Inner.Parts.{IsFullOf}
use Rattle.kl_registrar.proofs.Keeping.{Entries, has_kept}

-- what is kept says whether it is full
pub full_by : (entries : Entries) (past : Log) (id : List ℕ) → Keeps entries past → IsFullOf entries id ↔ IsFull past id
full_by entries past id keeps =
    let alike : IsFullOf entries id ≡ IsFull past id =
    ap₂ (λ b n. most_others + (if b then 1 else 0) ≤ n) (has_kept entries past id keeps) keeps.counted in
    (subst (λ (A : Type 0). A) alike, subst (λ (A : Type 0). A) (sym alike))
