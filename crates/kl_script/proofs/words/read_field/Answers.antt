use Rattle.std.proofs.Common.{◌≢◌, length, lit<, sym, ◌∙◌}
use Rattle.std.proofs.lemmas.Bool.{false≢true, eqb-true, eqb-false}
use Rattle.std.proofs.lemmas.Result.{IfOk-weaker}
use Rattle.std.proofs.lemmas.Str.Pattern.{contains_char}
use Rattle.std.specs.String.{string_bytes}
use Rattle.kl_script.specs.Words.{HasNo, IsEscaped, IsField}
use Rattle.kl_script.proofs.Fields.{field_found, empty_is_none}
use Rattle.kl_script.proofs.words.read_field.Goals as goal

pub returns-then-is_empty-clause-none : goal.returns-then-is_empty-clause-none
returns-then-is_empty-clause-none c = λ _ text.
    empty_is_none c.args.written.now text (eqb-true (length c.args.written.now) 0 (sym c.is_empty.ensures ∙ c.if-is_empty.true))

pub returns-clause-found : goal.returns-clause-found
returns-clause-found c =
    let written = c.args.written.now in
    let some : length written ≢ 0 = eqb-false (length written) 0 (sym c.is_empty.ensures ∙ c.if-is_empty.false) in
    let spaceless : HasNo 32 written = λ i lt e. false≢true (sym c.if-contains.false ∙ (contains_char 32 written c.contains.result c.contains.ensures.cases (lit< tt)).1 i lt e) in
    IfOk-weaker c.unescape_rest.result (λ text. IsEscaped written (string_bytes text)) (λ text. IsField written (string_bytes text))
    (λ text. field_found written (string_bytes text) some spaceless) c.unescape_rest.ensures.found
