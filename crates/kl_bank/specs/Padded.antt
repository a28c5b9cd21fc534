-- How a digest lies in memory: its bytes at the front of an array for the largest digest, and zeros behind them.
use Rattle.std.specs.Prelude.{◌≡◌, ℕ, ◌-◌, ◌≤◌, List, ◌++◌, length, take, replicate}
use Rattle.std.proofs.Common.{ap, sym, ◌∙◌, arith}
use Rattle.std.proofs.lemmas.List.{length-take-le}
use Rattle.kl_bank.specs.declared.digest.Digest.TheInside.{Inside}

-- the array is full size, the digest fits it, and zeros alone follow it
pub record IsPadded (d : Inside) : Type 0 where
  pub fits : d.len ≤ 48
  pub sized : length d.bytes ≡ 48
  pub zeros : d.bytes ≡ take d.len d.bytes ++ replicate (48 - d.len) 0

-- the array and the length that hold the digest `value`
abbrev pub in_memory : List ℕ → Inside
in_memory value = record { bytes = value ++ replicate (48 - length value) 0; len = length value }

-- they are found again from the digest that they hold
pub in_memory-take : (d : Inside) → IsPadded d → in_memory (take d.len d.bytes) ≡ d
in_memory-take d p =
    let of_length : ℕ → Inside = λ n. record { bytes = take d.len d.bytes ++ replicate (48 - n) 0; len = n } in
    let of_bytes : List ℕ → Inside = λ bytes. record { bytes = bytes; len = d.len } in
    let room : d.len ≤ length d.bytes = omega (arith, p.fits, p.sized) in
    ap of_length (length-take-le d.len d.bytes room) ∙ ap of_bytes (sym p.zeros)
