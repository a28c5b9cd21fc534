-- Which of the rules beyond the quote is the first.
use Rattle.std.proofs.Common.{◌≡◌, ℕ, ◌+◌, ◌<◌, ◌≤◌, List, length, None, Some, refl, sym, ap, ◌∙◌, subst, arith}
use Rattle.kl_entry.specs.Entries.{EntryFields}
use Rattle.kl_entry.specs.Lines.{AreEntries}
use Rattle.kl_entry.specs.declared.fault.LineFault.{LineFault}
use Rattle.kl_pcr.specs.Values.{value_at}
use Rattle.kl_states.specs.declared.verdict.FailedCause.{FailedCause}
use Rattle.kl_states.specs.declared.verdict.FailedCause.TheVariants.{Line}
use Rattle.kl_states.specs.declared.verdict.Verdict.TheVariants.{Failed}
use Rattle.kl_appraise.specs.declared.judged.Boot.{Boot}
use Rattle.kl_appraise.specs.declared.judged.Outcome.{Outcome}
use Rattle.kl_appraise.specs.declared.listed.ListFault.{ListFault}
use Rattle.kl_appraise.specs.ListRules.{Judged, IsFirstBadLine, line_cause, list_limit}
use Rattle.kl_appraise.specs.Kept.{kept_case}
use Rattle.kl_appraise.specs.Inner.Listed.{HasSmallPlace, IsListFault, IsNoBase, JudgesEntries, JudgesList}
use Rattle.kl_appraise.proofs.ListFacts.{behind_at, boot_is, first_wrong_at, no_bad_line, line_count, by_no_base, by_pcr, by_line, by_full, by_entries}
use Rattle.kl_appraise.proofs.judging.judge_list.Goals as goal

bad_line_is : (r : FailedCause) (start m n : ℕ) (e f : LineFault) → r ≡ Line (start + m) (line_cause e) → m ≡ n → e ≡ f → r ≡ Line (start + n) (line_cause f)
bad_line_is r start m n e f is place fault = is ∙ ap (λ (k : ℕ). Line (start + k) (line_cause e)) place ∙ ap (λ (x : LineFault). Line (start + n) (line_cause x)) fault

pub returns-in-Err-clause-rules : goal.returns-in-Err-clause-rules
returns-in-Err-clause-rules g c = (
  0,
  omega arith,
  λ nonce signed t attests prefix boot stands.
      let case = kept_case c.args.terms.now nonce c.args.kept prefix boot c.args.evidence.now signed in
      let signs = boot_is c.args.evidence.now.quote t c.args.quote.now.boot c.requires.boot attests in
      let none = subst (λ (x : Boot). IsNoBase c.args.kept c.args.evidence.now.start x c.in-Err.outcome) (sym signs) c.in-Err.ensures.none in
      by_no_base case c.args.kept t c.args.quote.now.values c.in-Err.outcome refl stands attests none,
)

pub returns-in-Some-clause-rules : goal.returns-in-Some-clause-rules
returns-in-Some-clause-rules g c = (
  0,
  omega arith,
  λ nonce signed t attests prefix boot stands.
      let case = kept_case c.args.terms.now nonce c.args.kept prefix boot c.args.evidence.now signed in
      let signs = boot_is c.args.evidence.now.quote t c.args.quote.now.boot c.requires.boot attests in
      let behind = behind_at case c.args.kept t c.bank.result c.args.quote.now.boot c.in-Ok.base c.bank.ensures signs refl stands attests c.in-Ok.ensures.base in
      let wrong = first_wrong_at _ _ _ _ _ _ _ _ (Some c.in-Some.pcr) c.bank-2.ensures c.mask.ensures.value c.as_slice-values.ensures c.statics.ensures.value c.in-Some.ensures in
      subst (λ (o : Outcome). JudgesList case t c.args.quote.now.values o 0) (sym c.failed.ensures)
      (by_pcr case t c.in-Ok.base.pcr c.args.quote.now.values c.in-Some.pcr behind c.requires.values wrong),
)

pub bad_line-requires : goal.bad_line-requires
bad_line-requires g c =
    let small = subst HasSmallPlace c.in-Err-Line.field-0-is c.in-Err-Line.ensures.small in
    let short = c.in-Ok.ensures.short in
    omega (arith, small, short)

pub returns-in-Err-Line-clause-rules : goal.returns-in-Err-Line-clause-rules
returns-in-Err-Line-clause-rules g c = (
  0,
  omega arith,
  λ nonce signed t attests prefix boot stands.
      let case = kept_case c.args.terms.now nonce c.args.kept prefix boot c.args.evidence.now signed in
      let signs = boot_is c.args.evidence.now.quote t c.args.quote.now.boot c.requires.boot attests in
      let behind = behind_at case c.args.kept t c.bank.result c.args.quote.now.boot c.in-Ok.base c.bank.ensures signs refl stands attests c.in-Ok.ensures.base in
      let right = first_wrong_at _ _ _ _ _ _ _ _ None c.bank-2.ensures c.mask.ensures.value c.as_slice-values.ensures c.statics.ensures.value c.in_default.ensures in
      let at_text = subst (λ (x : ListFault). IsListFault c.as_str.result.now x) c.in-Err-Line.field-0-is c.in-Err-Line.ensures.fault in
      let bad = subst (λ (x : List ℕ). IsFirstBadLine x c.in-Err-Line.place c.in-Err-Line.fault) c.as_str.ensures at_text in
      let count = c.in-Ok.ensures.base.count in
      let place : c.in-Ok.base.count + c.in-Err-Line.place ≡ c.args.evidence.now.start + c.in-Err-Line.place = omega arith in
      let cause = bad_line_is c.bad_line.result c.in-Ok.base.count _ c.in-Err-Line.place _ c.in-Err-Line.fault c.bad_line.ensures c.in-Err-Line.place-is c.in-Err-Line.fault-is in
      subst (λ (o : Outcome). JudgesList case t c.args.quote.now.values o 0) (sym (c.failed-in-Err-Line.ensures ∙ ap (λ (x : FailedCause). Judged (Failed x)) cause))
      (by_line case t c.in-Ok.base.pcr c.args.quote.now.values (c.in-Ok.base.count + c.in-Err-Line.place) c.in-Err-Line.place c.in-Err-Line.fault behind c.requires.values right bad place),
)

pub returns-then-base-len-gt-LIST_LIMIT-clause-rules : goal.returns-then-base-len-gt-LIST_LIMIT-clause-rules
returns-then-base-len-gt-LIST_LIMIT-clause-rules g c = (
  0,
  omega arith,
  λ nonce signed t attests prefix boot stands.
      let case = kept_case c.args.terms.now nonce c.args.kept prefix boot c.args.evidence.now signed in
      let signs = boot_is c.args.evidence.now.quote t c.args.quote.now.boot c.requires.boot attests in
      let behind = behind_at case c.args.kept t c.bank.result c.args.quote.now.boot c.in-Ok.base c.bank.ensures signs refl stands attests c.in-Ok.ensures.base in
      let right = first_wrong_at _ _ _ _ _ _ _ _ None c.bank-2.ensures c.mask.ensures.value c.as_slice-values.ensures c.statics.ensures.value c.in_default.ensures in
      let are = subst (λ (x : List ℕ). AreEntries x c.in-Ok-read_entries.entries.items) c.as_str.ensures c.in-Ok-read_entries.ensures.entries in
      let count = c.in-Ok.ensures.base.count in
      let over : list_limit < c.args.evidence.now.start + length c.in-Ok-read_entries.entries.items = omega arith in
      subst (λ (o : Outcome). JudgesList case t c.args.quote.now.values o 0) (sym c.failed-then-base-len-gt-LIST_LIMIT.ensures)
      (by_full case t c.in-Ok.base.pcr c.args.quote.now.values c.in-Ok-read_entries.entries.items behind c.requires.values right are over),
)

pub returns-clause-rules : goal.returns-clause-rules
returns-clause-rules g c =
    let (n, cost, judged) = c.in_ok-verdict.ensures.rules in (
      n,
      cost,
      λ nonce signed t attests prefix boot stands.
          let case = kept_case c.args.terms.now nonce c.args.kept prefix boot c.args.evidence.now signed in
          let signs = boot_is c.args.evidence.now.quote t c.args.quote.now.boot c.requires.boot attests in
          let behind = behind_at case c.args.kept t c.bank.result c.args.quote.now.boot c.in-Ok.base c.bank.ensures signs refl stands attests c.in-Ok.ensures.base in
          let right = first_wrong_at _ _ _ _ _ _ _ _ None c.bank-2.ensures c.mask.ensures.value c.as_slice-values.ensures c.statics.ensures.value c.in_default.ensures in
          let are = subst (λ (x : List ℕ). AreEntries x c.in-Ok-read_entries.entries.items) c.as_str.ensures c.in-Ok-read_entries.ensures.entries in
          let count = c.in-Ok.ensures.base.count in
          let short : c.args.evidence.now.start + length c.in-Ok-read_entries.entries.items ≤ list_limit = omega arith in
          let terms = c.args.terms.now in
          let here = subst (λ (es : List EntryFields). JudgesEntries terms c.in-Ok.base es (value_at terms.bank terms.mask c.as_slice-values.result.now 10) c.in_ok-verdict.verdict n) c.deref.ensures.value judged in
          let there = subst (λ (vs : List ℕ). JudgesEntries terms c.in-Ok.base c.in-Ok-read_entries.entries.items (value_at terms.bank terms.mask vs 10) c.in_ok-verdict.verdict n) c.as_slice-values.ensures here in
          by_entries case t c.in-Ok.base c.args.quote.now.values c.in-Ok-read_entries.entries.items c.in_ok-verdict.verdict n count behind attests c.requires.values right are short there,
    )

pub returns-clause-cost : goal.returns-clause-cost
returns-clause-cost g c =
    let are = subst (λ (x : List ℕ). AreEntries x c.in-Ok-read_entries.entries.items) c.as_str.ensures c.in-Ok-read_entries.ensures.entries in
    omega (arith, c.judge_entries.ensures.cost, ap length c.deref.ensures.value, line_count c.args.evidence.now.list c.in-Ok-read_entries.entries.items are)

pub returns-clause-unread : goal.returns-clause-unread
returns-clause-unread g c = λ place fault bad.
    let are = subst (λ (x : List ℕ). AreEntries x c.in-Ok-read_entries.entries.items) c.as_str.ensures c.in-Ok-read_entries.ensures.entries in
    absurd (no_bad_line c.args.evidence.now.list c.in-Ok-read_entries.entries.items are place fault bad)

pub returns-in_err-verdict-clause-cost : goal.returns-in_err-verdict-clause-cost
returns-in_err-verdict-clause-cost g c =
    let are = subst (λ (x : List ℕ). AreEntries x c.in-Ok-read_entries.entries.items) c.as_str.ensures c.in-Ok-read_entries.ensures.entries in
    omega (arith, c.judge_entries.ensures.cost, ap length c.deref.ensures.value, line_count c.args.evidence.now.list c.in-Ok-read_entries.entries.items are)

pub returns-in_err-verdict-clause-unread : goal.returns-in_err-verdict-clause-unread
returns-in_err-verdict-clause-unread g c = λ place fault bad.
    let are = subst (λ (x : List ℕ). AreEntries x c.in-Ok-read_entries.entries.items) c.as_str.ensures c.in-Ok-read_entries.ensures.entries in
    absurd (no_bad_line c.args.evidence.now.list c.in-Ok-read_entries.entries.items are place fault bad)
