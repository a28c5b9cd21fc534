use Rattle.std.proofs.Common.{◌<◌, arith}
use Rattle.std.specs.declared.option.Option.TheVariants.{None, Some}
use Rattle.std.proofs.lemmas.Str.Pattern.{strip_prefix_char}
use Rattle.kl_quote.proofs.Splitting.{colons_behind_r, colons_cut}
use Rattle.kl_quote.proofs.quote.parts_of.Goals as goal

pub returns-in_err-rest-clause-none : goal.returns-in_err-rest-clause-none
returns-in_err-rest-clause-none c =
    let no_r = strip_prefix_char 114 c.args.text.now None c.in_err-rest.ensures.cases (omega arith) in
    rw c.from_residual.ensures (λ form. no_r form.0 form.1)

pub returns-in-Some-clause-none : goal.returns-in-Some-clause-none
returns-in-Some-clause-none c form =
    let ascii : 114 < 128 = omega arith in
    let begins = strip_prefix_char 114 c.args.text.now (Some c.in_ok-rest.rest) c.in_ok-rest.ensures.cases ascii in
    let all = colons_behind_r c.args.text.now c.in_ok-rest.rest.now begins in
    let first = colons_cut _ _ _ c.in_ok-attest.ensures.found in
    let second = colons_cut _ _ _ c.in_ok-signature.ensures.found in
    let third = colons_cut _ _ _ c.in-Some.ensures.found in
    let two = form.2 in
    omega (arith, all, first, second, third, two)
