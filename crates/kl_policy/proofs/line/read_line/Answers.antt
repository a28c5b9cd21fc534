-- What the parts of the line say of its form.
use Rattle.std.proofs.Common.{◌≡◌, ℕ, List, length, Some, None, sym, subst, ap, ◌∙◌, arith, lit<, eqb-true}
use Rattle.std.proofs.lemmas.Str.Pattern.{strip_prefix_char}
use lib.Utf8.{encode}
use Rattle.kl_digests.specs.Digests.{SpellsDigest}
use Rattle.kl_policy.proofs.FlatLines.{if_none, cut_at_space, same_tail}
use Rattle.kl_policy.proofs.line.read_line.Goals as goal

pub returns-in_err-digits-clause-none : goal.returns-in_err-digits-clause-none
returns-in_err-digits-clause-none c =
    if_none _ c.args.line.now (λ digest path f. cut_at_space c.args.line.now digest path f None c.in_err-digits.ensures.cases)

pub returns-in_err-path-clause-none : goal.returns-in_err-path-clause-none
unfolding encode
returns-in_err-path-clause-none c =
    if_none _ c.args.line.now (λ digest path f.
    let parts = cut_at_space c.args.line.now digest path f (Some (c.in_ok-digits.digits, c.in_ok-digits.rest)) c.in_ok-digits.ensures.cases in
    c.in_err-path.ensures.cases path parts.1)

pub returns-then-is_empty-clause-none : goal.returns-then-is_empty-clause-none
returns-then-is_empty-clause-none c = λ digest path f.
    let parts = cut_at_space c.args.line.now digest path f (Some (c.in_ok-digits.digits, c.in_ok-digits.rest)) c.in_ok-digits.ensures.cases in
    let stripped = strip_prefix_char 32 c.in_ok-digits.rest.now (Some c.in_ok-path.path) c.in_ok-path.ensures.cases (lit< tt) in
    let path_len : length c.in_ok-path.path.now ≡ length path = ap length (same_tail (sym stripped ∙ parts.1)) in
    let empty : length c.in_ok-path.path.now ≡ 0 = eqb-true (length c.in_ok-path.path.now) 0 (sym c.is_empty.ensures ∙ c.if-is_empty.true) in
    omega (arith, f.named)

pub returns-in_err-digest-clause-none : goal.returns-in_err-digest-clause-none
returns-in_err-digest-clause-none c =
    if_none _ c.args.line.now (λ digest path f.
    let parts = cut_at_space c.args.line.now digest path f (Some (c.in_ok-digits.digits, c.in_ok-digits.rest)) c.in_ok-digits.ensures.cases in
    c.in_err-digest.ensures.none digest (subst (λ (ds : List ℕ). SpellsDigest ds digest) (sym (c.as_bytes.ensures.value ∙ parts.0)) f.spelled))
