-- What clauses see of the crate's types.
use Rattle.std.specs.Prelude.{List, ◌∷◌, [], take}
use Rattle.std.specs.Int.{w32, to_le_bytes}
use Rattle.kl_attest.specs.declared.attest.Attest.{Attest}
use Rattle.kl_attest.specs.declared.attest.AttestParts.{AttestParts}
use Rattle.kl_attest.specs.Grammar.{Selection, Quoted, quoted}

abbrev pub view : Attest → Quoted
view a = quoted a.signer.now a.extra.now a.clock a.reset a.restart a.safe a.firmware a.selections a.pcr_digest.now

-- one selection of three bytes, the mask's lowest byte first
abbrev pub selections_of : AttestParts → List Selection
selections_of p = record { alg = p.alg; select = take 3 (to_le_bytes w32 p.mask) } ∷ []

abbrev pub quoted_of : AttestParts → Quoted
quoted_of p = quoted p.signer.now p.extra.now p.clock p.reset p.restart p.safe p.firmware (selections_of p) p.pcr_digest.now
