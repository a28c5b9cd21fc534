use Rattle.std.proofs.Common.{◌≡◌, refl, true, false, subst, sym}
use Rattle.kl_entry.specs.Entries.{EntryFields}
use Rattle.kl_entry.specs.Lines.{Spells}
use Rattle.kl_entry.proofs.Spelling.{fault_template, fault_digest, fault_path, after_hash, after_template, after_digest, made_of}
use Rattle.kl_entry.proofs.reading.first_fault.Goals as goal

pub returns-in_default-after_template-clause-fault : goal.returns-in_default-after_template-clause-fault
returns-in_default-after_template-clause-fault c =
    let told = c.in-Some-split_hash.ensures in
    let hash = after_hash c.args.line.now _ _ _ c.in-Some.ensures.some told.text told.len told.bytes in
    fault_template c.args.line.now _ c.if-line-gt-MAX_LINE.false hash c.in_default-after_template.ensures.none

pub returns-in_default-split_digest-clause-fault : goal.returns-in_default-split_digest-clause-fault
returns-in_default-split_digest-clause-fault c =
    let told = c.in-Some-split_hash.ensures in
    let hash = after_hash c.args.line.now _ _ _ c.in-Some.ensures.some told.text told.len told.bytes in
    let template = after_template c.args.line.now _ _ hash c.in-Some-after_template.ensures.some in
    fault_digest c.args.line.now _ c.if-line-gt-MAX_LINE.false template c.in_default-split_digest.ensures.none

pub returns-then-not-is_path-clause-fault : goal.returns-then-not-is_path-clause-fault
returns-then-not-is_path-clause-fault c =
    let told = c.in-Some-split_hash.ensures in
    let hash = after_hash c.args.line.now _ _ _ c.in-Some.ensures.some told.text told.len told.bytes in
    let template = after_template c.args.line.now _ _ hash c.in-Some-after_template.ensures.some in
    let parts = c.in-Some-split_digest.ensures in
    let digest = after_digest c.args.line.now _ _ _ _ template parts.text parts.name parts.short parts.bytes in
    let no_path = c.if-not-is_path.ensures in
    fault_path c.args.line.now _ c.if-line-gt-MAX_LINE.false digest (λ is. let wrong : false ≡ true = no_path.1 is in absurd cc)

pub returns-clause-found : goal.returns-clause-found
returns-clause-found c =
    let told = c.in-Some-split_hash.ensures in
    let parts = c.in-Some-split_digest.ensures in
    let is_path = c.if-not-is_path.ensures in
    let e : EntryFields = record { hash = c.in-Some-split_hash.found.0; alg = c.in-Some-split_digest.found.0.now; digest = c.in-Some-split_digest.found.1; path = c.in-Some-split_digest.found.2.now } in
    subst (λ (x : EntryFields). Spells c.args.line.now x) (sym c.new.ensures)
    (made_of c.args.line.now e _ _ _ c.if-line-gt-MAX_LINE.false c.in-Some.ensures.some told.text c.in-Some-after_template.ensures.some parts.text told.len told.bytes parts.name parts.short parts.bytes (is_path.0 refl))
