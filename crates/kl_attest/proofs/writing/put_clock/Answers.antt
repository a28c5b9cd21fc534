use Rattle.std.proofs.Common.{ℕ, List, ◌∷◌, [], ap}
use Rattle.std.specs.Int.{w32, w64}
use Rattle.kl_attest.specs.Grammar.{Field, number}
use Rattle.kl_attest.specs.Grammar.Field.{YesNo}
use Rattle.kl_attest.proofs.Joins.{put_one, put_more}
use Rattle.kl_attest.proofs.writing.put_clock.Goals as goal

pub returns-clause-text : goal.returns-clause-text
returns-clause-text c =
    let p = c.args.parts.now in
    let old : List ℕ = c.args.out.now.items in
    let clock : Field = number w64 p.clock in
    let reset : Field = number w32 p.reset in
    let restart : Field = number w32 p.restart in
    let one = put_one clock old c.extend_from_slice.new.self.items _ c.in_ok-extend_from_slice.ensures.items c.to_be_bytes.ensures in
    let two = put_more (clock ∷ []) (reset ∷ []) old c.extend_from_slice.new.self.items _ one (put_one reset _ c.extend_from_slice-2.new.self.items _ c.in_ok-extend_from_slice-2.ensures.items c.to_be_bytes-2.ensures) in
    let three = put_more (clock ∷ reset ∷ []) (restart ∷ []) old c.extend_from_slice-2.new.self.items _ two (put_one restart _ c.extend_from_slice-3.new.self.items _ c.in_ok-extend_from_slice-3.ensures.items c.to_be_bytes-3.ensures) in
    put_more (clock ∷ reset ∷ restart ∷ []) (YesNo p.safe ∷ []) old c.extend_from_slice-3.new.self.items _ three (put_one (YesNo p.safe) _ c.push.new.self.items _ c.in_ok-push.ensures.items (ap (λ (k : ℕ). k ∷ []) c.yes_no.ensures))
