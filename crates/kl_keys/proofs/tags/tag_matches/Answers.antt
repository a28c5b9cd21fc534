use Rattle.std.proofs.Common.{sym, ◌∙◌}
use Rattle.kl_keys.proofs.Spelling.{not_spelled}
use Rattle.kl_keys.proofs.tags.tag_matches.Goals as goal

pub returns-in-Err : goal.returns-in-Err
returns-in-Err c =
    (λ wrong. cc wrong, λ spelled. absurd (not_spelled c.args.key.now c.args.id.now c.args.text.now c.in-Err.field-0 (sym c.from_hex.ensures ∙ c.in-Err.is) spelled))
