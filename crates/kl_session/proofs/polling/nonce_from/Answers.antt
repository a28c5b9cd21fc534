use Rattle.std.proofs.Common.{◌≡◌, arith}
use Rattle.hex.specs.Hex.{encode_lower}
use Rattle.kl_session.proofs.Digits.{is_nonce, at_ok}
use Rattle.kl_session.proofs.polling.nonce_from.Goals as goal

pub unreachable-requires : goal.unreachable-requires
unreachable-requires c =
    let encode = c.encode_to_slice-written in
    let written : encode.new.output ≡ encode_lower c.args.drawn.now = at_ok encode.result _ (encode.ensures.fits.1 (omega arith)) encode.ensures.written in
    cc (c.in-None.ensures.found.1 (rw written (is_nonce c.args.drawn.now c.told-drawn c.fits-drawn)))
