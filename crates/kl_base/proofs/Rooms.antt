-- Bytes at the front of a room of zeros.
use Rattle.std.proofs.Common.{◌≡◌, ℕ, ◌-◌, ◌≤◌, List, ◌++◌, length, take, drop, replicate, ap, sym, ◌∙◌, arith, length-append}
use Rattle.std.proofs.Math.Seq.{take-append_seam}
use Rattle.std.proofs.lemmas.List.{drop-replicate, length-replicate}
use Rattle.kl_base.specs.Padded.{IsPadded}

pub IsPadded-front : (room : ℕ) (value front : List ℕ) → length value ≤ room → front ≡ value
    → IsPadded room record { bytes = front ++ drop (length value) (replicate room 0); len = length value }
IsPadded-front room value front small same =
    let rest : List ℕ = drop (length value) (replicate room 0) in
    let zeros : rest ≡ replicate (room - length value) 0 = drop-replicate (length value) room 0 in
    let count : length front ≡ length value = ap length same in
    let begins : take (length value) (front ++ rest) ≡ front =
    ap (λ n. take n (front ++ rest)) (sym count) ∙ take-append_seam front rest in
    record {
      fits = small;
      sized = omega (arith, length-append front rest, ap length zeros, length-replicate {A = ℕ} (room - length value) 0);
      zeros = ap (λ (xs : List ℕ). front ++ xs) zeros ∙ ap (λ (xs : List ℕ). xs ++ replicate (room - length value) 0) (sym begins);
    }
