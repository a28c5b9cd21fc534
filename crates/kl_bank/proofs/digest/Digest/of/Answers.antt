use Rattle.std.proofs.Common.{◌≡◌, ℕ, ◌-◌, ◌≤◌, List, ◌++◌, length, take, drop, replicate, ap, sym, ◌∙◌, arith, length-append}
use Rattle.std.proofs.Math.Seq.{take-append_seam}
use Rattle.std.proofs.lemmas.List.{drop-replicate, length-replicate}
use Rattle.kl_bank.specs.Padded.{IsPadded}
use Rattle.kl_bank.proofs.digest.Digest.of.Goals as goal

-- a value at the front of zeros is a digest in memory
IsPadded-front : (value front : List ℕ) → length value ≤ 48 → front ≡ value
    → IsPadded record { bytes = front ++ drop (length value) (replicate 48 0); len = length value }
IsPadded-front value front small same =
    let rest : List ℕ = drop (length value) (replicate 48 0) in
    let zeros : rest ≡ replicate (48 - length value) 0 = drop-replicate (length value) 48 0 in
    let count : length front ≡ length value = ap length same in
    let begins : take (length value) (front ++ rest) ≡ front =
    ap (λ n. take n (front ++ rest)) (sym count) ∙ take-append_seam front rest in
    record {
      fits = small;
      sized = omega (arith, length-append front rest, ap length zeros, length-replicate {A = ℕ} (48 - length value) 0);
      zeros = ap (λ (xs : List ℕ). front ++ xs) zeros ∙ ap (λ (xs : List ℕ). xs ++ replicate (48 - length value) 0) (sym begins);
    }

pub invariant_of-result : goal.invariant_of-result
invariant_of-result c = IsPadded-front c.args.value.now _ c.requires c.copy_from_slice.ensures.after
