use Rattle.std.proofs.Common.{◌∙◌, ap, sym, flat_map, map-id}
use Rattle.std.proofs.Math.Utf8.{encodes}
use Rattle.std.proofs.lemmas.Iterator.{YieldsList-from_chars}
use Rattle.std.proofs.lemmas.Iterator.Consumers.{YieldsList-end}
use Rattle.std.proofs.lemmas.Str.{encodes-chars}
use Rattle.kl_script.specs.Words.{spelling_of}
use Rattle.kl_script.proofs.Writing.{one_more}
use Rattle.kl_script.proofs.words.write_chars.Goals as goal

pub loop-character-preserved : goal.loop-character-preserved
loop-character-preserved c = one_more _ _ c.loop-character.yielded c.in-Some.character c.loop-character.invariant c.in_ok-write_char.ensures

pub returns : goal.returns
returns c =
    let end = YieldsList-end (YieldsList-from_chars c.args.text.now c.utf8.text cc) c.loop-character.yielded _ c.loop-character.yielded_by _ _ c.in-None.is c.next.ensures.steps in
    c.loop-character.invariant ∙ ap (λ cs. flat_map spelling_of (encodes cs)) (sym (map-id c.loop-character.yielded) ∙ end.0) ∙ ap (flat_map spelling_of) (encodes-chars c.args.text.now c.utf8.text)
