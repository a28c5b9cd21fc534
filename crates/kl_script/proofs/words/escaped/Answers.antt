use Rattle.std.proofs.Common.{lit<}
use Rattle.std.proofs.lemmas.Str.Pattern.{strip_prefix_char}
use Rattle.kl_script.proofs.Escapes.{no_letter}
use Rattle.kl_script.proofs.words.escaped.Goals as goal

pub returns-in_default-strip_prefix-2-clause-none :
    goal.returns-in_default-strip_prefix-2-clause-none
returns-in_default-strip_prefix-2-clause-none c =
    let text = c.args.text.now in
    let s = rw c.in_default.is at (strip_prefix_char 115 text c.strip_prefix.result c.strip_prefix.ensures.cases (lit< tt)) in
    let n = rw c.in_default-strip_prefix.is at (strip_prefix_char 110 text c.strip_prefix-in_default.result c.strip_prefix-in_default.ensures.cases (lit< tt)) in
    let b = rw c.in_default-strip_prefix-2.is at (strip_prefix_char 92 text c.strip_prefix-in_default-strip_prefix.result c.strip_prefix-in_default-strip_prefix.ensures.cases (lit< tt)) in
    no_letter text s n b
