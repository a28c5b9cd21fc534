-- The wanted bank, mask and key are those of the terms.
use Rattle.std.proofs.Common.{◌≡◌, ◌⊎◌, ℕ, Bool, false, List, Some, IfOk, IsErrOf, subst}
use Rattle.kl_bank.specs.declared.bank.Bank.{Bank}
use Rattle.kl_quote.specs.declared.evidence.Evidence.{Evidence}
use Rattle.kl_appraise.specs.declared.fault.AppraiseError.TheVariants.{Keys}
use Rattle.kl_appraise.specs.Asking.{Asked}
use Rattle.kl_appraise.specs.Evidence.{Check}
use Rattle.kl_appraise.specs.QuoteRules.{IsUnasked}
use Rattle.kl_appraise.specs.Inner.Checked.{answer_of, ChecksAs}
use Rattle.kl_appraise.proofs.onto.check_terms.Goals as goal

moved : (P : Bank → ℕ → List ℕ → Type 0) (a b : Bank) (m n : ℕ) (j k : List ℕ) → a ≡ b → m ≡ n → j ≡ k → P a m j → P b n k
moved P a b m n j k banks masks same h =
    subst (λ (x : List ℕ). P b n x) same (subst (λ (x : ℕ). P b x j) masks (subst (λ (x : Bank). P x m j) banks h))

abbrev check_by : List ℕ → Evidence → Bank → ℕ → Bool → Check
check_by nonce evidence b m signed = record { bank = b; mask = m; nonce = nonce; evidence = evidence; signed = signed }

pub returns-clause-rules : goal.returns-clause-rules
returns-clause-rules g c =
    moved (λ b m _. IfOk c.check_quote.result (ChecksAs (check_by c.args.nonce.now c.args.evidence.now b m))) _ _ _ _ _ _
    c.bank.ensures c.mask.ensures.value c.ak.ensures c.check_quote.ensures.rules

pub returns-clause-question : goal.returns-clause-question
returns-clause-question g c =
    moved (λ b m ak. IfOk c.check_quote.result (λ checked. IsUnasked (check_by c.args.nonce.now c.args.evidence.now b m false)
    ⊎ Asked (g.Y.Keys.told c.args.keys.now) (g.Y.Keys.told c.check_quote.new.keys) ak c.args.evidence.now.quote (Some (answer_of checked)))) _ _ _ _ _ _
    c.bank.ensures c.mask.ensures.value c.ak.ensures c.check_quote.ensures.question

pub returns-clause-asked : goal.returns-clause-asked
returns-clause-asked g c =
    moved (λ b m _. IsErrOf c.check_quote.result Keys → ¬ (IsUnasked (check_by c.args.nonce.now c.args.evidence.now b m false))) _ _ _ _ _ _
    c.bank.ensures c.mask.ensures.value c.ak.ensures c.check_quote.ensures.asked

pub returns-clause-unasked : goal.returns-clause-unasked
returns-clause-unasked g c =
    moved (λ b m _. (c.check_quote.new.keys ≡ c.args.keys.now) ⊎ (¬ (IsUnasked (check_by c.args.nonce.now c.args.evidence.now b m false)))) _ _ _ _ _ _
    c.bank.ensures c.mask.ensures.value c.ak.ensures c.check_quote.ensures.unasked
