use Rattle.std.proofs.Common.{sym, ap, ◌∙◌}
use Rattle.kl_keys.proofs.Unsealing.{none_short, none_other, some_made}
use Rattle.kl_keys.specs.Mac.{seal_pad}
use Rattle.kl_keys.specs.Xor.{xor_of}
use Rattle.kl_keys.proofs.sealing.unseal.Goals as goal

pub returns-then-sealed-lt-SECRET_LEN : goal.returns-then-sealed-lt-SECRET_LEN
returns-then-sealed-lt-SECRET_LEN c = none_short c.args.public.now c.args.sealed.now c.if-sealed-lt-SECRET_LEN.true

pub returns-then-not-has_value : goal.returns-then-not-has_value
returns-then-not-has_value c =
    none_other c.args.public.now c.args.sealed.now c.split_at.result.0.now c.split_at.result.1.now c.split_at.ensures.front c.split_at.ensures.back
    (λ same. cc (sym c.if-not-has_value.true ∙ c.has_value.ensures.1 same))

pub returns : goal.returns
returns c =
    some_made c.args.public.now c.args.sealed.now c.split_at.result.0.now c.split_at.result.1.now c.mask.new.bytes c.split_at.ensures.front
    c.split_at.ensures.back c.split_at.ensures.front_len (c.has_value.ensures.0 c.if-not-has_value.false)
    (c.mask.ensures ∙ ap (λ pad. xor_of c.copy_from_slice.new.self pad) c.hmac256.ensures
    ∙ ap (λ front. xor_of front (seal_pad c.args.public.now)) c.copy_from_slice.ensures.after)
