-- What is extended into a PCR for an entry of the measurement list.
use Rattle.std.specs.Prelude.{ℕ, List, if◌then◌else◌}
use Rattle.kl_bank.specs.declared.bank.Bank.{Bank}
use Rattle.kl_bank.specs.Banks.{hash_of, ones_of}
use Rattle.kl_entry.specs.Entries.{EntryFields, data_of, is_violation}

-- the bank's digest of the entry's template data; for a violation, which has no digest, bytes 0xFF (Linux IMA extends
-- these, while the template hash in the list is zeros)
abbrev pub measured_of : Bank → EntryFields → List ℕ
measured_of bank e = if is_violation e then ones_of bank else hash_of bank (data_of e)
