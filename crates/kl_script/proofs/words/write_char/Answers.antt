use Rattle.std.proofs.Common.{rules, ◌≡◌, ℕ, List, ◌++◌, Result, Ok, Err, sym, ap, ◌∙◌, if◌then◌else◌}
use Rattle.std.specs.Result.{is_ok, OnOk}
use Rattle.kl_script.proofs.Writing.{plain_char}
use Rattle.kl_script.proofs.words.write_char.Goals as goal

pushed : {E : Type 0} (r : Result (Unit {0}) E) (new old bytes written : List ℕ) → new ≡ (if is_ok r then old ++ bytes else old) → written ≡ bytes
    → OnOk r (new ≡ old ++ written)
pushed (Ok done) new old bytes written grown same = grown ∙ ap (λ (s : List ℕ). old ++ s) (sym same)
pushed (Err e) new old bytes written grown same = tt

pub returns-in_default : goal.returns-in_default
returns-in_default c = pushed c.push.result _ _ _ _ c.push.ensures.bytes (plain_char c.args.character (search rules) (search rules) (search rules))
