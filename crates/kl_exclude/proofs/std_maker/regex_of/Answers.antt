use Rattle.std.proofs.Common.{refl, subst}
use Rattle.regex.specs.Failures.{IsRightKind}
use Rattle.regex.specs.Patterns.{default_config}
use Rattle.kl_exclude.proofs.Beginnings.{is_pattern_of_read, refusal_is_none}
use Rattle.kl_exclude.proofs.std_maker.regex_of.Goals as goal

pub returns-in-Err-Syntax-clause-syntax : goal.returns-in-Err-Syntax-clause-syntax
returns-in-Err-Syntax-clause-syntax c fault =
    let e = c.in-Err-Syntax.field-0-0 in
    let text = c.args.text.now in
    let kind = subst (IsRightKind default_config text) c.in-Err-Syntax.field-0-is c.in-Err-Syntax.ensures.kind in
    refusal_is_none text e.kind kind (c.in-Err-Syntax.ensures.by_grammar e c.in-Err-Syntax.field-0-is)

pub returns-in-Err-CompiledTooBig-clause-sized : goal.returns-in-Err-CompiledTooBig-clause-sized
returns-in-Err-CompiledTooBig-clause-sized c fault =
    let text = c.args.text.now in
    let (hir, names, read) = subst (IsRightKind default_config text) c.in-Err-CompiledTooBig.field-0-is c.in-Err-CompiledTooBig.ensures.kind in
    is_pattern_of_read default_config refl text hir names read
