-- A release stands behind the pass that is the last finding of its agent.
use Rattle.std.proofs.Common.{◌≡◌, ℕ, ◌<◌, Bool, true, false, cond, ◌||◌, eqb, List, [], ◌∷◌, length, Some, None, inl, inr, refl, ap, ap₂, sym, ◌∙◌, subst, subst₂, arith, eq-eqb}
use Rattle.std.specs.Prelude.{is_none}
use Rattle.std.specs.Option.{option_map_or}
use Rattle.std.proofs.lemmas.Bool.{false≢true, and_from}
use Rattle.std.proofs.lemmas.Option.{same_Some, none-some}
use Rattle.kl_states.specs.declared.op.Op.{Op}
use Rattle.kl_states.specs.declared.op.Op.TheVariants as op
use Rattle.kl_states.specs.declared.verdict.Verdict.TheVariants.{Pass, Failed, Invalid}
use Rattle.kl_states.specs.Ops.{is_owed}
use Rattle.kl_history.specs.declared.record.Record.{Record}
use Rattle.kl_history.specs.declared.record.Record.TheVariants.{Install, Begin, Verdict, Restart, Release, Remove}
use Rattle.kl_history.specs.Records.{History, Past, Beginning, is_poll_of, belongs, own}
use Rattle.kl_history.specs.LookBacks.{Installed, installed, came, losses, missed, Passing, last_pass}
use Rattle.kl_history.specs.States.{is_current, ended, is_stop, is_invalid, is_failed, IsOp}
use Rattle.kl_history.specs.Legal.{Legal, MayClose}
use Rattle.kl_history.specs.Laws.{StandsAt, before, decides_anew, IsPassed, AreReleasedOnPasses}
use Rattle.kl_history.proofs.Places.{Stands, here, earlier, newest_or, below, legal_at, stands_at, stands_between, length-before}
use Rattle.kl_history.proofs.OwnRecords.{poll_begun, begin_at}
use Rattle.kl_history.proofs.Appraised.{current_installed, inside_at}

-- one record more of an agent's own: it is the last pass, or leaves what was found and what is installed
data Finding (r : Record) (own : Past) (pass : Passing) (i : Installed) : Type 0 where
  passes : (s : Bool) (cut : ℕ) → r ≡ Verdict pass.poll pass.evidence s (Pass cut) true → installed own ≡ Some i → Finding r own pass i
  leaves : decides_anew r ≡ false → last_pass own ≡ Some pass → installed own ≡ Some i → Finding r own pass i

finding : (r : Record) (own : Past) (pass : Passing) (i : Installed) → last_pass (r ∷ own) ≡ Some pass → installed (r ∷ own) ≡ Some i → Finding r own pass i
finding (Install a g t w) own pass i found inst = absurd (none-some pass found)
finding (Verdict p e s (Pass cut) true) own pass i found inst = passes s cut (ap (λ (x : Passing). Verdict x.poll x.evidence s (Pass cut) true) (same_Some _ pass found)) inst
finding (Verdict p e s (Failed why) true) own pass i found inst = absurd (none-some pass found)
finding (Verdict p e s (Invalid why) true) own pass i found inst = absurd (none-some pass found)
finding (Verdict p e s (Pass cut) false) own pass i found inst = leaves refl found inst
finding (Verdict p e s (Failed why) false) own pass i found inst = leaves refl found inst
finding (Verdict p e s (Invalid why) false) own pass i found inst = leaves refl found inst
finding (Restart p e s true) own pass i found inst = absurd (none-some pass found)
finding (Restart p e s false) own pass i found inst = leaves refl found inst
finding (Remove a) own pass i found inst = absurd (none-some i inst)
finding _ own pass i found inst = leaves refl found inst

-- where the last pass of an agent stands, with nothing behind it that decides anew
pub record PassStands (past : Past) (a : List ℕ) (pass : Passing) (i : Installed) : Type 0 where
  pub signed : Bool
  pub cut : ℕ
  pub behind : Past
  pub stands : Stands (Verdict pass.poll pass.evidence signed (Pass cut) true) behind past
  pub own_one : belongs behind a (Verdict pass.poll pass.evidence signed (Pass cut) true) ≡ true
  pub installed_then : installed (own behind a) ≡ Some i
  pub last : (q : Record) (c : Past) → Stands q c past → length behind < length c → belongs c a q ≡ true → decides_anew q ≡ false

pass_before : (r : Record) (past : Past) (a : List ℕ) (pass : Passing) (i : Installed) → (belongs past a r ≡ true → decides_anew r ≡ false) → PassStands past a pass i → PassStands (r ∷ past) a pass i
pass_before r past a pass i no_finding rest = record {
  signed = rest.signed;
  cut = rest.cut;
  behind = rest.behind;
  stands = earlier rest.stands;
  own_one = rest.own_one;
  installed_then = rest.installed_then;
  last = λ q c s below_it is. elim (newest_or s) [
    | inl same ↦ ap decides_anew same.0 ∙ no_finding (sym (ap₂ (λ b x. belongs b a x) same.1 same.0) ∙ is)
    | inr inside ↦ rest.last q c inside below_it is
  ];
}

pub pass_stands : (past : Past) (a : List ℕ) (pass : Passing) (i : Installed) → last_pass (own past a) ≡ Some pass → installed (own past a) ≡ Some i → PassStands past a pass i
pass_stands [] a pass i found inst = absurd (none-some pass found)
pass_stands (r ∷ past) a pass i found inst = by_case (belongs past a r) refl found inst (pass_stands past a pass i) where
  by_case : (t : Bool) → belongs past a r ≡ t → last_pass (cond t (r ∷ own past a) (own past a)) ≡ Some pass → installed (cond t (r ∷ own past a) (own past a)) ≡ Some i
      → (last_pass (own past a) ≡ Some pass → installed (own past a) ≡ Some i → PassStands past a pass i) → PassStands (r ∷ past) a pass i
  by_case true is found inst rest = elim (finding r (own past a) pass i found inst) [
    | passes s cut same before ↦ record {
      signed = s;
      cut = cut;
      behind = past;
      stands = subst (λ x. Stands x past (r ∷ past)) same here;
      own_one = ap (belongs past a) (sym same) ∙ is;
      installed_then = before;
      last = λ q c t above _. let lt = below t in absurd (omega (arith, lt, above));
    }
    | leaves no_finding earlier_pass before ↦ pass_before r past a pass i (λ _. no_finding) (rest earlier_pass before)
  ]
  by_case false is found inst rest = pass_before r past a pass i (λ yes'. absurd (false≢true (sym is ∙ yes'))) (rest found inst)

-- an agent to which V is owed is live
ended_not_owed : (x y z : Bool) (o : Op) → cond x (Some op.TenantFailed) (cond y (Some op.InvalidQuote) (cond z (Some op.Failed) None)) ≡ Some o → is_owed o ≡ false
ended_not_owed true y z o is = ap is_owed (sym (same_Some op.TenantFailed o is))
ended_not_owed false true z o is = ap is_owed (sym (same_Some op.InvalidQuote o is))
ended_not_owed false false true o is = ap is_owed (sym (same_Some op.Failed o is))
ended_not_owed false false false o is = absurd (none-some o is)

owed_live : (own : Past) (o : Op) → IsOp own o → is_owed o ≡ true → ended own ≡ None
owed_live own o (inl ended_so) owed =
    absurd (false≢true (sym (ended_not_owed (came is_stop own) (came is_invalid own) (came is_failed own || (eqb (losses own) 5 || eqb (missed own) 5)) o ended_so) ∙ owed))
owed_live own o (inr live) owed = live.0

current_from : (own : Past) (i : Installed) → installed own ≡ Some i → ended own ≡ None → is_current own i.generation ≡ true
current_from own i inst live =
    and_from (option_map_or (λ (x : Installed). eqb x.generation i.generation) (installed own) false) (is_none (ended own))
    (ap (λ o. option_map_or (λ (x : Installed). eqb x.generation i.generation) o false) inst ∙ eq-eqb i.generation i.generation refl) (ap is_none live)

-- the Begin of a poll that passed as the agent's
record PassBegun (v : Past) (a : List ℕ) (p g : ℕ) : Type 0 where
  behind : Past
  nonce : List ℕ
  at : ℕ
  from : ℕ
  begun : Stands (Begin p a g nonce at from) behind v
  current : is_current (own v a) g ≡ true

pass_begun : (v : Past) (a : List ℕ) (p : ℕ) (i : Installed) → installed (own v a) ≡ Some i → MayClose v p true → is_poll_of v a p ≡ true → PassBegun v a p i.generation
pass_begun v a p i inst close is =
    let own_begin = poll_begun v a p is in
    let agent : close.started.agent ≡ a = ap (λ (x : Beginning). x.agent) (same_Some close.started own_begin.0 (sym close.began ∙ own_begin.1)) ∙ own_begin.2 in
    let then_current : is_current (own v a) close.started.generation ≡ true = subst (λ x. is_current (own v x) close.started.generation ≡ true) agent (sym close.current) in
    let now = current_installed (own v a) close.started.generation then_current in
    let generation : close.started.generation ≡ i.generation = sym now.2 ∙ ap (λ (x : Installed). x.generation) (same_Some now.0 i (sym now.1 ∙ inst)) in
    let found = begin_at v p close.started close.began in
    record {
      behind = found.0;
      nonce = close.started.nonce;
      at = close.started.at;
      from = close.started.from;
      begun = subst₂ (λ x h. Stands (Begin p x h close.started.nonce close.started.at close.started.from) found.0 v) agent generation found.1;
      current = subst (λ h. is_current (own v a) h ≡ true) generation then_current;
    }

passed_at : (H : History) (i : ℕ) (a : List ℕ) (r : Record) (pass : Passing) (inst : Installed) → Legal H → StandsAt H i r
    → installed (own (before H i) a) ≡ Some inst → ended (own (before H i) a) ≡ None → PassStands (before H i) a pass inst → IsPassed H i a inst.generation pass.poll
passed_at H i a r pass inst legal at installed_now live stands =
    let v = stands.behind in
    let verdict = Verdict pass.poll pass.evidence stands.signed (Pass stands.cut) true in
    let verdict_row = (legal_at stands.stands (legal_at (stands_at H i r at) legal).0).1 in
    let begun = pass_begun v a pass.poll inst stands.installed_then verdict_row.0 stands.own_one in
    let passed = inside_at H i r verdict v at stands.stands in
    let begin = Begin pass.poll a inst.generation begun.nonce begun.at begun.from in
    let first = inside_at H (length v) verdict begin begun.behind passed.0 (subst (Stands begin begun.behind) (sym passed.1) begun.begun) in
    record {
      verdict_place = length v;
      evidence = pass.evidence;
      signed = stands.signed;
      cut = stands.cut;
      passed = passed.0;
      earlier = passed.2;
      begin_place = length begun.behind;
      nonce = begun.nonce;
      at = begun.at;
      from = begun.from;
      begun = first.0;
      first = first.2;
      at_pass = subst (λ x. is_current (own x a) inst.generation ≡ true) (sym passed.1) begun.current;
      at_release = current_from (own (before H i) a) inst installed_now live;
      last = λ j q above under there is.
          let inside = stands_between H i j q under there in
          stands.last q (before H j) inside (let len = length-before H j q there in omega (arith, len, above)) is;
    }

pub released_on_passes : (H : History) → Legal H → AreReleasedOnPasses H
released_on_passes H legal i n a g p at =
    let row = (legal_at (stands_at H i (Release n a g p) at) legal).1 in
    let stands = pass_stands (before H i) a row.due.pass row.due.installation row.due.passed row.due.installed in
    subst₂ (IsPassed H i a) (sym row.named) (sym row.stands)
    (passed_at H i a (Release n a g p) row.due.pass row.due.installation legal at row.due.installed (owed_live (own (before H i) a) row.op row.state row.owed) stands)
