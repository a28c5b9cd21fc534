-- The terms that a command names, and why it names none.
use Rattle.std.specs.Prelude.{◌≡◌, ◌≢◌, ◌⊎◌, ℕ, List, Contains}
use Rattle.kl_policy.specs.Making.{AsksFor, IsNoPolicy}
use Rattle.kl_policy.specs.PolicyFields.{PolicyFields}
use Rattle.kl_policy.specs.Reading.{IsPolicy}
use Rattle.kl_policy.specs.declared.fault.PolicyFault.{PolicyFault}
use Rattle.kl_policy.specs.declared.fault.PolicyFault.TheVariants as policy_fault
use Rattle.kl_pcr.specs.Statics.{AreStatics}
use Rattle.kl_appraise.specs.Terms.{IsMask, TermsFields}
use Rattle.kl_history.specs.declared.record.InstallWhy.{InstallWhy}
use Rattle.kl_history.specs.declared.record.Record.TheVariants.{Install}
use Rattle.kl_history.specs.Records.{History}
use Rattle.kl_script.specs.declared.command.Add.{Add}
use Rattle.kl_states.specs.declared.policy_kind.PolicyKind.{PolicyKind}
use Rattle.kl_session.specs.Outside.{Outside, LeavesRest}
use Rattle.kl_session.specs.declared.naming.NoTerms.{NoTerms}
use Rattle.kl_session.specs.declared.naming.NoTerms.TheVariants.{Policy, Mask, Static}

-- the policy was installed before
pub record WasInstalled (H : History) (p : PolicyFields) : Type 0 where
  pub agent : List ℕ
  pub generation : ℕ
  pub terms : TermsFields
  pub why : InstallWhy
  pub there : Contains H (Install agent generation terms why)
  pub policy : terms.policy ≡ p

-- What reading a policy asks: each of its patterns once, in order; or nothing, where it was installed before.
pub record Reads (o o' : Outside) (H : History) (kind : PolicyKind) (p : PolicyFields) : Type 0 where
  pub asked : AsksFor kind p.patterns o.maker o'.maker ⊎ (WasInstalled H p × (o'.maker ≡ o.maker))
  pub rest : LeavesRest o o'

-- the text of this form is no policy, for this reason, which is not want of memory
pub record Refuses (o o' : Outside) (kind : PolicyKind) (text : List ℕ) (why : PolicyFault) : Type 0 where
  pub because : IsNoPolicy kind text o.maker o'.maker why
  pub named : why ≢ policy_fault.Memory
  pub rest : LeavesRest o o'

-- the terms have the parts of the add, and its policy
pub record NamesTerms (a : Add) (t : TermsFields) : Type 0 where
  pub contact : t.contact ≡ a.contact
  pub bank : t.bank ≡ a.bank
  pub mask : t.mask ≡ a.mask
  pub statics : t.statics ≡ a.statics
  pub ak : t.ak ≡ a.ak
  pub v : t.v ≡ a.v
  pub policy : IsPolicy a.kind a.policy t.policy

-- its policy is one
abbrev pub NamesPolicy : Outside → Outside → History → Add → Type 0
NamesPolicy o o' H a = (p : PolicyFields) × IsPolicy a.kind a.policy p × Reads o o' H a.kind p

-- why the add names no terms, the first cause: its policy is none, then its mask, then its static PCRs
abbrev pub NamesNoTerms : Outside → Outside → History → Add → NoTerms → Type 0
NamesNoTerms o o' H a (Policy why) = Refuses o o' a.kind a.policy why
NamesNoTerms o o' H a Mask = NamesPolicy o o' H a × (¬ IsMask a.mask)
NamesNoTerms o o' H a Static = NamesPolicy o o' H a × IsMask a.mask × (¬ AreStatics a.bank a.mask a.statics)
