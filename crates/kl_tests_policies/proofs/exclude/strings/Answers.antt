use Rattle.std.proofs.Common.{◌≡◌, ◌≤◌, ◌++◌, ◌∷◌, [], All, length, string_bytes, sym, subst, rules, tests}
use Rattle.std.proofs.lemmas.List.Elements.{All-push}
use Rattle.kl_tests_policies.proofs.exclude.strings.Goals as goal

pub loop-text-preserved : goal.loop-text-preserved
loop-text-preserved c =
    let text = c.in_ok-text.text in
    let pushed : c.push.new.self.items ≡ c.loop-text.all.items ++ text ∷ [] = search (tests, rules) in
    let short : length (string_bytes text) ≤ 512 = search (tests, rules) in
    subst (All (λ t. length (string_bytes t) ≤ 512)) (sym pushed) (All-push (λ t. length (string_bytes t) ≤ 512) c.loop-text.all.items text c.loop-text.invariant short)
