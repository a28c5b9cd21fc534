-- How at most `room` bytes lie in memory: at the front of an array of that size, with zeros behind them.
use Rattle.std.specs.Prelude.{◌≡◌, ℕ, ◌-◌, ◌≤◌, List, ◌++◌, length, take, replicate}
use Rattle.std.proofs.Common.{ap, sym, ◌∙◌, arith}
use Rattle.std.proofs.lemmas.List.{length-take-le}
use Rattle.kl_base.specs.declared.short.Short.TheInside.{Inside}

-- the bytes that are held
abbrev pub bytes_of : {room : ℕ} → Inside room → List ℕ
bytes_of s = take s.len s.bytes

-- the array is full size, the bytes fit it, and zeros alone follow them
pub record IsPadded (room : ℕ) (s : Inside room) : Type 0 where
  pub fits : s.len ≤ room
  pub sized : length s.bytes ≡ room
  pub zeros : s.bytes ≡ bytes_of s ++ replicate (room - s.len) 0

-- the array and the length that hold these bytes
abbrev pub in_memory : (room : ℕ) → List ℕ → Inside room
in_memory room value = record { bytes = value ++ replicate (room - length value) 0; len = length value }

-- they are found again from the bytes that they hold
pub in_memory-bytes_of : (room : ℕ) (s : Inside room) → IsPadded room s → in_memory room (bytes_of s) ≡ s
in_memory-bytes_of room s p =
    let of_length : ℕ → Inside room = λ n. record { bytes = bytes_of s ++ replicate (room - n) 0; len = n } in
    let of_bytes : List ℕ → Inside room = λ bytes. record { bytes = bytes; len = s.len } in
    let within : s.len ≤ length s.bytes = omega (arith, p.fits, p.sized) in
    ap of_length (length-take-le s.len s.bytes within) ∙ ap of_bytes (sym p.zeros)
