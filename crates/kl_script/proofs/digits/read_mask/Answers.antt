use Rattle.std.proofs.Common.{◌≡◌, ◌≢◌, ℕ, List, ◌∷◌, get_or, lit<, sym, ap, subst, ◌∙◌}
use Rattle.std.specs.Prelude.{IfNone}
use Rattle.std.specs.Result.{result_ok}
use Rattle.std.proofs.lemmas.Bool.{false≢true}
use Rattle.std.proofs.lemmas.Str.Pattern.{starts_char}
use Rattle.kl_script.specs.Digits.{IsMask}
use Rattle.kl_script.proofs.Masks.{mask_none}
use Rattle.kl_script.proofs.digits.read_mask.Goals as goal

pub returns-clause-none : goal.returns-clause-none
returns-clause-none c =
    let digits = c.in_ok-digits.digits.now in
    let cut = c.in_ok-digits.ensures.cases in
    let whole : c.args.written.now ≡ 48 ∷ 120 ∷ digits = cut.1.1 ∙ ap (λ (t : List ℕ). 48 ∷ 120 ∷ t) (sym cut.2) in
    let plus : get_or digits 0 0 ≢ 43 = λ e. false≢true (sym c.if-starts_with.false ∙ (starts_char 43 digits c.starts_with.result c.starts_with.ensures.cases (lit< tt) (lit< tt)).1 e) in
    rw c.ok.ensures.value
    (subst (λ (w : List ℕ). IfNone (result_ok c.from_str_radix.result) ((mask : ℕ) → ¬ (IsMask w mask))) (sym whole) (mask_none digits c.from_str_radix.result c.from_str_radix.ensures.value plus))
