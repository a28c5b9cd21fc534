use Rattle.std.proofs.Common.{List, ℕ, sym, subst}
use Rattle.std.specs.List.{AllZip}
use Rattle.kl_script.specs.Digits.{IsDigest}
use Rattle.kl_script.specs.Statics.{pieces_at}
use Rattle.kl_script.proofs.Faults.{at_exit}
use Rattle.kl_script.proofs.Fixed.{static_cut, static_uncut}
use Rattle.kl_script.proofs.statics.StaticSpelled.read.Goals as goal

pub returns-in_err-pcr-clause-none : goal.returns-in_err-pcr-clause-none
returns-in_err-pcr-clause-none c = λ _ fixed. static_uncut c.args.written.now fixed c.in_err-pcr.ensures.none

pub returns-in_default-clause-none : goal.returns-in_default-clause-none
returns-in_default-clause-none c = λ _ fixed s.
    let cut = static_cut c.args.written.now c.in_ok-pcr.pcr.now c.in_ok-pcr.digests.now fixed c.in_ok-pcr.ensures.found.0 c.in_ok-pcr.ensures.found.1 s in
    c.in_default.ensures.none fixed.pcr s.1 cut.0

pub returns-in_err-read_pieces-clause-none : goal.returns-in_err-read_pieces-clause-none
returns-in_err-read_pieces-clause-none c = λ is fixed s.
    let cut = static_cut c.args.written.now c.in_ok-pcr.pcr.now c.in_ok-pcr.digests.now fixed c.in_ok-pcr.ensures.found.0 c.in_ok-pcr.ensures.found.1 s in
    at_exit _ c.in_err-read_pieces.ensures.none _ c.from_residual-in_err-read_pieces.ensures.1 is fixed.allowed
    (subst (λ (d : List ℕ). AllZip IsDigest (pieces_at 44 d) fixed.allowed) (sym cut.1) s.3)
