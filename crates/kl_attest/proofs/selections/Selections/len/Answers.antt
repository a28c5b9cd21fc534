use Rattle.std.proofs.Common.{◌∙◌, sym, ap, length}
use Rattle.kl_attest.specs.Inner.Seen.{place_of}
use Rattle.kl_attest.proofs.Steps.{length-listed}
use Rattle.kl_attest.proofs.selections.Selections.len.Goals as goal

pub returns : goal.returns
returns c = sym (ap length (sym c.self.view_is) ∙ length-listed c.self.inside.count (place_of c.self.inside.first) c.self.invariant)
