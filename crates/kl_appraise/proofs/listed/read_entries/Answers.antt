-- One more line is read.
use Rattle.std.proofs.Common.{◌≡◌, ℕ, List, length, sym, subst, rules}
use Rattle.std.specs.List.{AllZip}
use Rattle.kl_entry.specs.Entries.{EntryFields}
use Rattle.kl_entry.specs.Lines.{Spells}
use Rattle.kl_appraise.specs.ListRules.{IsFirstBadLine}
use Rattle.kl_appraise.proofs.WalkFacts.{read_more, bad_line}
use Rattle.kl_appraise.proofs.listed.read_entries.Goals as goal

pub loop-line-preserved : goal.loop-line-preserved
loop-line-preserved c =
    let (read, cut, zipped) = c.loop-line.invariant in
    let more = read_more c.args.list.now c.loop-line.line-iterator c.next.new.self c.in-Some.line.now read c.loop-line.entries.items c.in-Ok.entry cut c.in-Some.ensures.steps zipped c.in-Ok.ensures.found in
    (more.0, more.1, subst (λ (es : List EntryFields). AllZip Spells more.0 es) (sym c.in_ok-push-in-Ok.ensures.items) more.2)

pub returns-in-Err-clause-fault : goal.returns-in-Err-clause-fault
returns-in-Err-clause-fault c =
    let (read, cut, zipped) = c.loop-line.invariant in
    let counted : length c.loop-line.entries.items ≡ c.len.result = search rules in
    subst (λ (n : ℕ). IsFirstBadLine c.args.list.now n c.in-Err.fault) counted
    (bad_line c.args.list.now c.loop-line.line-iterator c.next.new.self c.in-Some.line.now read c.loop-line.entries.items c.in-Err.fault cut c.in-Some.ensures.steps zipped c.in-Err.ensures.fault)
