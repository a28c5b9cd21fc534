-- The ticket that a poll's Begin gave stays its ticket, and the share that a Release gave stays its share, whatever comes behind; and
-- a release stays open until it is settled.
use Rattle.std.proofs.Common.{◌≡◌, ℕ, ◌≤◌, [], ◌∷◌, ◌++◌, Some, inl, inr, ap, sym, ◌∙◌, subst, arith}
use Rattle.std.proofs.lemmas.List.{reverse-append}
use Rattle.std.proofs.lemmas.Bool.{ne_eqb, cond-false, cases_eq}
use lib.Dec.{eqb}
use mathlib.Core.List.{IsPrefix}
use Rattle.kl_appraise.specs.Terms.{TermsFields}
use Rattle.kl_incr.specs.Kept.{TicketFields}
use Rattle.kl_history.specs.declared.record.Record.{Record}
use Rattle.kl_history.specs.declared.record.Record.TheVariants.{Install, Begin, Verdict, Restart, Lost, Dropped, Release, Settled, Stop, Remove}
use Rattle.kl_history.specs.Records.{History, Past, past_of, Beginning, start_of, terms_of, is_begin, is_install, generations, polls}
use Rattle.kl_history.specs.Legal.{Row, IsLegalPast, Legal}
use Rattle.kl_core.specs.Tickets.{IsGiven}
use Rattle.kl_core.specs.Shares.{ShareFields, IsGivenShare}
use Rattle.kl_core.proofs.OneMore.{counted, counted_as, Calm, Quiet, calm_install, calm_begin, quiet_verdict, quiet_restart, quiet_lost, quiet_dropped, quiet_release, quiet_settled, quiet_stop, quiet_remove}
use Rattle.kl_core.proofs.Keeping.{given_stays}
use Rattle.kl_core.proofs.Delivered.{evidence_stays}
use Rattle.kl_core.proofs.Awaited.{handing_stays}

-- the numbers of polls and generations were drawn
record Drawn (past : Past) : Type 0 where
  pub begun : (q : ℕ) (s : Beginning) → start_of past q ≡ Some s → q ≤ polls past
  pub named : (g : ℕ) (t : TermsFields) → terms_of past g ≡ Some t → g ≤ generations past

drawn_quiet : (past : Past) (r : Record) → Quiet past r → Drawn past → Drawn (r ∷ past)
drawn_quiet past r quiet drawn =
    let polls_same = counted_as is_begin r past _ quiet.no_begin in
    let drawn_same = counted_as is_install r past _ quiet.no_install in
    record {
      begun = λ q s is. let le = drawn.begun q s (sym (quiet.starts q) ∙ is) in omega arith;
      named = λ g t is. let le = drawn.named g t (sym (quiet.named g) ∙ is) in omega arith;
    }

drawn_of : (past : Past) → IsLegalPast past → Drawn past
drawn_of [] legal = record { begun = λ q s is. cc; named = λ g t is. cc }
drawn_of (Install a g t w ∷ past) legal =
    let drawn = drawn_of past legal.0 in
    let next = legal.1.0 in
    let polls_same = counted is_begin (Install a g t w) past in
    let drawn_more = counted is_install (Install a g t w) past in
    record {
      begun = λ q s is. let le = drawn.begun q s is in omega arith;
      named = λ h u is. elim (cases_eq h g) [
        | inl e ↦ omega arith
        | inr ne ↦ let le = drawn.named h u (sym (cond-false (eqb h g) _ _ (ne_eqb h g ne)) ∙ is) in omega arith
      ];
    }
drawn_of (Begin p a g n at from ∷ past) legal =
    let drawn = drawn_of past legal.0 in
    let next = legal.1.0 in
    let polls_more = counted is_begin (Begin p a g n at from) past in
    let drawn_same = counted is_install (Begin p a g n at from) past in
    record {
      begun = λ q s is. elim (cases_eq q p) [
        | inl e ↦ omega arith
        | inr ne ↦ let le = drawn.begun q s (sym (cond-false (eqb q p) _ _ (ne_eqb q p ne)) ∙ is) in omega arith
      ];
      named = λ h u is. let le = drawn.named h u is in omega arith;
    }
drawn_of (Verdict p e s v c ∷ past) legal = drawn_quiet past (Verdict p e s v c) (quiet_verdict past p e s v c) (drawn_of past legal.0)
drawn_of (Restart p e s c ∷ past) legal = drawn_quiet past (Restart p e s c) (quiet_restart past p e s c) (drawn_of past legal.0)
drawn_of (Lost p w c ∷ past) legal = drawn_quiet past (Lost p w c) (quiet_lost past p w c) (drawn_of past legal.0)
drawn_of (Dropped p w ∷ past) legal = drawn_quiet past (Dropped p w) (quiet_dropped past p w) (drawn_of past legal.0)
drawn_of (Release n a g p ∷ past) legal = drawn_quiet past (Release n a g p) (quiet_release past n a g p) (drawn_of past legal.0)
drawn_of (Settled n o c ∷ past) legal = drawn_quiet past (Settled n o c) (quiet_settled past n o c) (drawn_of past legal.0)
drawn_of (Stop a ∷ past) legal = drawn_quiet past (Stop a) (quiet_stop past a) (drawn_of past legal.0)
drawn_of (Remove a ∷ past) legal = drawn_quiet past (Remove a) (quiet_remove past a) (drawn_of past legal.0)

pub calm_of : (past : Past) (r : Record) → IsLegalPast past → Row past r → Calm past r
calm_of past (Install a g t w) legal row = calm_install past a g t w (drawn_of past legal).named row.0
calm_of past (Begin p a g n at from) legal row = calm_begin past p a g n at from (drawn_of past legal).begun row.0
calm_of past (Verdict p e s v c) legal row = (quiet_verdict past p e s v c).calm
calm_of past (Restart p e s c) legal row = (quiet_restart past p e s c).calm
calm_of past (Lost p w c) legal row = (quiet_lost past p w c).calm
calm_of past (Dropped p w) legal row = (quiet_dropped past p w).calm
calm_of past (Release n a g p) legal row = (quiet_release past n a g p).calm
calm_of past (Settled n o c) legal row = (quiet_settled past n o c).calm
calm_of past (Stop a) legal row = (quiet_stop past a).calm
calm_of past (Remove a) legal row = (quiet_remove past a).calm

-- ---- tickets
given_behind : (newer past : Past) (t : TicketFields) → IsLegalPast (newer ++ past) → IsGiven past t → IsGiven (newer ++ past) t
given_behind [] past t legal given = given
given_behind (r ∷ newer) past t legal given = given_stays (newer ++ past) r t (calm_of (newer ++ past) r legal.0 legal.1) (given_behind newer past t legal.0 given)

-- what holds of a past, and of each legal one with records more, holds of each later history
later : (P : Past → Type 0) → ((newer past : Past) → IsLegalPast (newer ++ past) → P past → P (newer ++ past)) → (old new : History) → IsPrefix old new → Legal new
    → P (past_of old) → P (past_of new)
later P behind old new (more, grown) legal holds =
    let reversed : past_of new ≡ past_of more ++ past_of old = ap past_of (sym grown) ∙ reverse-append old more in
    subst P (sym reversed) (behind (past_of more) (past_of old) (subst IsLegalPast reversed legal) holds)

-- what a desk saw once, it sees in each later history
pub given_stands : (old new : History) (t : TicketFields) → IsPrefix old new → Legal new → IsGiven (past_of old) t → IsGiven (past_of new) t
given_stands old new t known legal given = later (λ past. IsGiven past t) (λ newer past. given_behind newer past t) old new known legal given

-- ---- shares
pub share_stays : (r : Record) (past : Past) (s : ShareFields) → IsLegalPast (r ∷ past) → IsGivenShare past s → IsGivenShare (r ∷ past) s
share_stays r past s legal given = record {
  released = handing_stays r past s.number _ legal given.released;
  terms = given.terms;
  under = (calm_of past r legal.0 legal.1).terms s.generation given.terms given.under;
  v = given.v;
  contact = given.contact;
  evidence = given.evidence;
  passed = evidence_stays r past s.poll given.evidence legal given.passed;
  public = given.public;
}

share_behind : (newer past : Past) (s : ShareFields) → IsLegalPast (newer ++ past) → IsGivenShare past s → IsGivenShare (newer ++ past) s
share_behind [] past s legal given = given
share_behind (r ∷ newer) past s legal given = share_stays r (newer ++ past) s legal (share_behind newer past s legal.0 given)

pub share_stands : (old new : History) (s : ShareFields) → IsPrefix old new → Legal new → IsGivenShare (past_of old) s → IsGivenShare (past_of new) s
share_stands old new s known legal given = later (λ past. IsGivenShare past s) (λ newer past. share_behind newer past s) old new known legal given

-- ---- releases that are not settled
