-- What an outcome shows of the evidence: which tests were met.
use Rattle.std.specs.Prelude.{◌≡◌, ◌⊎◌, ℕ, ◌+◌, ◌≤◌, None, List, length, take, All, ⊤}
use Rattle.kl_attest.specs.Grammar.{Quoted}
use Rattle.kl_entry.specs.Entries.{EntryFields}
use Rattle.kl_entry.specs.Lines.{lines_of}
use Rattle.kl_pcr.specs.Statics.{IsFirstWrong}
use Rattle.kl_policy.specs.Policy.{Allows}
use Rattle.kl_states.specs.declared.verdict.Verdict.TheVariants.{Pass, Failed, Invalid}
use Rattle.kl_states.specs.declared.verdict.InvalidCause.TheVariants.{Start}
use Rattle.kl_appraise.specs.Evidence.{Check}
use Rattle.kl_appraise.specs.QuoteRules.{MeetsRules, IsGoodQuote}
use Rattle.kl_appraise.specs.ListRules.{Case, Outcome, Judged, Restart, check_of, boot_of, list_limit, WholeList, IsCut}

-- An outcome that comes of a rule behind the nine on the quote shows that the quote is good.
abbrev pub ShowsQuote : Check → Outcome → Type 0
ShowsQuote k (Judged (Pass _)) = IsGoodQuote k
ShowsQuote k (Judged (Failed _)) = IsGoodQuote k
ShowsQuote k (Judged (Invalid Start)) = IsGoodQuote k
ShowsQuote k (Judged (Invalid _)) = ⊤
ShowsQuote k Restart = IsGoodQuote k

-- What is so of a list that passes up to this cut, beside such an attestation and such values: it is whole since the boot that
-- was quoted, or continues an accepted list of that boot; each static PCR has an allowed value; each line is an entry, and they are
-- not too many; the cut is where the list replays to the quoted PCR 10; and the policy allows each entry before it.
pub record PassesList (c : Case) (t : Quoted) (values : List ℕ) (cut : ℕ) : Type 0 where
  pub start : (c.evidence.start ≡ 0) ⊎ ((c.evidence.start ≡ c.from) × (boot_of t ≡ c.boot))
  pub statics : IsFirstWrong c.terms.bank c.terms.mask values c.terms.statics None
  pub whole : List EntryFields
  pub is_whole : WholeList c whole
  pub short : c.evidence.start + length (lines_of c.evidence.list) ≤ list_limit
  pub is_cut : IsCut c whole cut
  pub allowed : All (Allows c.terms.policy) (take cut whole)

-- A pass shows all of it.
abbrev pub ShowsList : Case → Outcome → Type 0
ShowsList c (Judged (Pass cut)) = (t : Quoted) × (values : List ℕ) × MeetsRules (check_of c) t values × PassesList c t values cut
ShowsList c (Judged (Failed _)) = ⊤
ShowsList c (Judged (Invalid _)) = ⊤
ShowsList c Restart = ⊤
