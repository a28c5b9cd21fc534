-- The value that a PCR has after the entries of a measurement list were extended into it, one after the other.
use Rattle.std.specs.Prelude.{ℕ, List, [], ◌∷◌, fold, reverse}
use Rattle.kl_bank.specs.declared.bank.Bank.{Bank}
use Rattle.kl_bank.specs.Banks.{extended, zeros_of}
use Rattle.kl_entry.specs.Entries.{EntryFields}
use Rattle.kl_pcr.specs.Measured.{measured_of}

-- the same with the last entry first: it was extended into the value that the earlier ones left
unfoldable pub replay_back : Bank → List EntryFields → List ℕ
replay_back bank [] = zeros_of bank
replay_back bank (last ∷ earlier) = extended bank (replay_back bank earlier) (measured_of bank last)

-- Zeros after no entry, the value from which this project takes PCR 10 to start, and else the last entry extended into what
-- the others left.
abbrev pub replay_of : Bank → List EntryFields → List ℕ
replay_of bank entries = replay_back bank (reverse entries)

-- the value that was `start`, after it was extended by these digests in order
abbrev pub folded : Bank → List ℕ → List (List ℕ) → List ℕ
folded bank start digests = fold (extended bank) start digests
