-- Why no terms were made.
use Rattle.std.specs.Prelude.{◌≡◌, List, ℕ}
use Rattle.kl_exclude.specs.Told.{MakerTold}
use Rattle.kl_history.specs.Records.{History}
use Rattle.kl_script.specs.declared.command.Add.{Add}
use Rattle.kl_states.specs.declared.policy_kind.PolicyKind.{PolicyKind}
use Rattle.kl_session.specs.Outside.{Outside, LeavesRest}
use Rattle.kl_session.specs.Stopped.{MadeSome}
use Rattle.kl_session.specs.Terms.{Refuses, NamesNoTerms}
use Rattle.kl_session.specs.declared.naming.NoTerms.TheVariants.{Policy}
use Rattle.kl_session.specs.declared.naming.NamingFault.{NamingFault}
use Rattle.kl_session.specs.declared.naming.NamingFault.TheVariants as fault

-- the one moment and the other are alike but for what makes patterns, which tells this before and that after
pub record Tells (o o' : Outside) (before after : MakerTold) : Type 0 where
  pub before_is : o.maker ≡ before
  pub after_is : o'.maker ≡ after
  pub rest : LeavesRest o o'

abbrev pub IsPolicyFault : Outside → Outside → PolicyKind → List ℕ → NamingFault → Type 0
IsPolicyFault o o' kind text (fault.None (Policy why)) = Refuses o o' kind text why
IsPolicyFault o o' kind text fault.Memory = MadeSome o o' kind text
IsPolicyFault o o' kind text _ = ⊥

abbrev pub IsTermsFault : Outside → Outside → History → Add → NamingFault → Type 0
IsTermsFault o o' H a (fault.None why) = NamesNoTerms o o' H a why
IsTermsFault o o' H a fault.Memory = MadeSome o o' a.kind a.policy
