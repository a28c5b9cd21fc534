use Rattle.std.proofs.Common.{◌∙◌, ap}
use Rattle.hex.specs.Hex.{encode_lower}
use Rattle.kl_entry.proofs.Spelling.{line_pushed}
use Rattle.kl_entry.proofs.writing.write_entry.Goals as goal

pub returns-clause-line : goal.returns-clause-line
returns-clause-line c =
    line_pushed c.args.entry.now _ _ _ _ _ _ _ _ _ _ _ _ c.in_ok-line.ensures.ok c.in_ok-push_str.ensures.bytes c.in_ok-push_str-2.ensures.bytes c.in_ok-push_str-3.ensures.bytes c.in_ok-push_str-4.ensures.bytes c.in_ok-push_str-5.ensures.bytes c.in_ok-push_str-6.ensures.bytes
    c.in_ok-push_str-7.ensures.bytes (c.as_str.ensures.value ∙ c.in_ok-hash.ensures ∙ ap encode_lower (c.as_slice.ensures ∙ c.hash.ensures.value)) c.alg.ensures.value
    (c.as_str-2.ensures.value ∙ c.in_ok-digest.ensures ∙ ap encode_lower (c.as_slice-2.ensures.value ∙ c.digest.ensures.value)) c.path.ensures.value

pub returns-clause-spells : goal.returns-clause-spells
returns-clause-spells c = (c.requires, returns-clause-line c)
