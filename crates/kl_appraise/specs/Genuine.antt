-- Evidence that an honest agent gives of its whole list.
use Rattle.std.specs.Prelude.{◌≡◌, ℕ, ◌≤◌, List, length, take, None, All}
use Rattle.kl_attest.specs.Grammar.{Quoted}
use Rattle.kl_entry.specs.Entries.{EntryFields}
use Rattle.kl_entry.specs.Lines.{lines_of, AreEntries}
use Rattle.kl_pcr.specs.Statics.{IsFirstWrong}
use Rattle.kl_policy.specs.Policy.{Allows}
use Rattle.kl_states.specs.declared.verdict.Verdict.{Verdict}
use Rattle.kl_states.specs.declared.verdict.Verdict.TheVariants.{Pass}
use Rattle.kl_appraise.specs.QuoteRules.{MeetsRules}
use Rattle.kl_appraise.specs.ListRules.{Case, check_of, IsPlace, Replays, WholeList, IsCut, list_limit}

-- It begins at the list's begin; its quote is of the terms' bank and mask, is signed, answers the nonce, and is over
-- the values that it carries, of which PCR 16 is bound to its public key text; its static PCRs are allowed; each line is an
-- entry, and they are not too many; and some beginning of the list replays to its PCR 10.
pub record IsGenuine (c : Case) : Type 0 where
  pub start : c.evidence.start ≡ 0
  pub quoted : Quoted
  pub values : List ℕ
  pub quote : MeetsRules (check_of c) quoted values
  pub statics : IsFirstWrong c.terms.bank c.terms.mask values c.terms.statics None
  pub entries : List EntryFields
  pub lines : AreEntries c.evidence.list entries
  pub short : length (lines_of c.evidence.list) ≤ list_limit
  pub place : ℕ
  pub inside : IsPlace c entries place
  pub matches : Replays c values entries place

-- the policy allows every entry before the cut
abbrev pub AllowsList : Case → Type 0
AllowsList c = (whole : List EntryFields) (cut : ℕ) → WholeList c whole → IsCut c whole cut → All (Allows c.terms.policy) (take cut whole)

-- the verdict is a pass of the list up to its cut
abbrev pub IsPass : Case → Verdict → Type 0
IsPass c v = (whole : List EntryFields) × (cut : ℕ) × WholeList c whole × IsCut c whole cut × (v ≡ Pass cut)
