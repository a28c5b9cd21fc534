use Rattle.std.proofs.Common.{◌≡◌, ◌≢◌, ◌≤◌, get_or, length, lit<, sym, ◌∙◌}
use Rattle.std.proofs.lemmas.Bool.{false≢true}
use Rattle.std.proofs.lemmas.Str.Pattern.{starts_char}
use Rattle.kl_script.proofs.Decimals.{number_found, number_none, plus_is_none, zero_is_none}
use Rattle.kl_script.proofs.numbers.read_number.Goals as goal
use Rattle.kl_script.proofs.numbers.read_number.Goals.{else-text-gt1-via-then-text-gt1+else-starts_with-2, else-text-gt1-via-else-text-gt1}

pub returns-then-starts_with-clause-none : goal.returns-then-starts_with-clause-none
returns-then-starts_with-clause-none c = λ n.
    plus_is_none c.args.text.now n ((starts_char 43 c.args.text.now c.starts_with.result c.starts_with.ensures.cases (lit< tt) (lit< tt)).0 c.if-starts_with.true)

pub returns-then-starts_with-2-clause-none : goal.returns-then-starts_with-2-clause-none
returns-then-starts_with-2-clause-none c = λ n.
    zero_is_none c.args.text.now n ((starts_char 48 c.args.text.now c.starts_with-then-text-gt1.result c.starts_with-then-text-gt1.ensures.cases (lit< tt) (lit< tt)).0 c.if-starts_with-2.true) c.if-text-gt1.true

pub returns-clause-found : goal.returns-clause-found
returns-clause-found c =
    let text = c.args.text.now in
    let plus : get_or text 0 0 ≢ 43 = λ e. false≢true (sym c.if-starts_with.false ∙ (starts_char 43 text c.starts_with.result c.starts_with.ensures.cases (lit< tt) (lit< tt)).1 e) in
    let lone : get_or text 0 0 ≡ 48 → length text ≤ 1 =
    elim c.else-text-gt1.branch [
      | else-text-gt1-via-then-text-gt1+else-starts_with-2 w ↦ λ e. absurd (false≢true (sym w.if-starts_with-2.false ∙ (starts_char 48 text w.starts_with-then-text-gt1.result w.starts_with-then-text-gt1.ensures.cases (lit< tt) (lit< tt)).1 e))
      | else-text-gt1-via-else-text-gt1 w ↦ λ e. w.if-text-gt1.false
    ] in
    rw c.ok.ensures.value (number_found text c.parse.result c.parse.ensures.value.0 plus lone)

pub returns-clause-none : goal.returns-clause-none
returns-clause-none c = rw c.ok.ensures.value (number_none c.args.text.now c.parse.result c.parse.ensures.value.0)
