-- What a command to the registrar does follows from the calls that were done.
use Rattle.std.proofs.Common.{◌≡◌, ℕ, List, ◌++◌, Option, Some, None, Result, Ok, Err, refl, sym, ap, ◌∙◌, subst, arith}
use Rattle.std.proofs.lemmas.Option.{same_Some}
use Rattle.kl_io.specs.Calls.{Rose}
use Rattle.kl_keys.specs.Relations.{Relations, AnswersCredential}
use Rattle.kl_keys.specs.Told.{KeysTold}
use Rattle.kl_registrar.specs.Asking.{Asked}
use Rattle.kl_registrar.specs.Calls.{Call, Registration, Log, own}
use Rattle.kl_registrar.specs.Records.{registered, Matches, IsActive}
use Rattle.kl_registrar.specs.Answers.{HasOtherTag}
use Rattle.kl_registrar.specs.declared.fault.RegFault.{RegFault}
use Rattle.kl_registrar.specs.declared.fault.RegFault.TheVariants.{Full, KeysFault, NoAgent, WrongTag, NotActive}
use Rattle.kl_script.specs.declared.command.Activate.{Activate}
use Rattle.kl_script.specs.declared.command.Register.{Register}
use Rattle.kl_session.specs.Calls.{Called}
use Rattle.kl_session.specs.Registering.{RegisterAnswers, ActivateAnswers, RecordAnswers, RecordsAnswers, ForgetAnswers}
use Rattle.kl_session.proofs.OneListing.{one_list}

-- where there is one answer, the calls that were done then and the line are one
pub one_call : {A : Type 0} {Answers Others : A → Log → Type 0} {makes : A → List Call} {says : A → List ℕ} {calls x y : Log} {l m : List ℕ}
    → ((a b : A) → Answers a calls → Others b calls → a ≡ b) → Called Answers makes says calls x l → Called Others makes says calls y m → (x ≡ y) × (l ≡ m)
one_call {makes = makes} {says = says} {calls = calls} one f g =
    let same = one f.answer g.answer f.answers g.answers in
    (f.after ∙ ap (λ a. makes a ++ calls) same ∙ sym g.after, f.said ∙ ap says same ∙ sym g.said)

-- ---- register

-- the keys answer by these relations, and met no fault
pub record AnswerBy (relations : Relations) (k k' : KeysTold) : Type 0 where
  pub related : k.relations ≡ Some relations
  pub faultless : ¬ (Rose k.calls.faults k'.calls.faults)

the_blob : (relations : Relations) (r : Register) (secret blob : List ℕ) (k k' : KeysTold) (Failed : Type 0) → AnswerBy relations k k'
    → Asked k k' r.ek r.ak secret (Some blob) Failed → blob ≡ relations.credential_of r.ek r.ak secret
the_blob relations r secret blob k k' Failed by asked =
    subst (λ (told : Option Relations). AnswersCredential told r.ek r.ak secret blob) by.related asked.related

no_fault : (relations : Relations) (r : Register) (secret : List ℕ) (k k' : KeysTold) → AnswerBy relations k k' → ¬ (Asked k k' r.ek r.ak secret None (Unit {0}))
no_fault relations r secret k k' by asked = by.faultless (omega (arith, (asked.counted.met tt).0))

pub one_register : (relations : Relations) (r : Register) (secret : List ℕ) (calls : Log) (k k' q q' : KeysTold) → AnswerBy relations k k' → AnswerBy relations q q'
    → (a b : Result (List ℕ) RegFault) → RegisterAnswers r secret k k' a calls → RegisterAnswers r secret q q' b calls → a ≡ b
one_register relations r secret calls k k' q q' by also (Ok x) (Ok y) f g =
    ap Ok (the_blob relations r secret x k k' ⊥ by f.1 ∙ sym (the_blob relations r secret y q q' ⊥ also g.1))
one_register relations r secret calls k k' q q' by also (Ok x) (Err Full) f g = absurd (f.0 g.0)
one_register relations r secret calls k k' q q' by also (Err Full) (Ok y) f g = absurd (g.0 f.0)
one_register relations r secret calls k k' q q' by also (Err Full) (Err Full) f g = refl
one_register relations r secret calls k k' q q' by also (Err KeysFault) b f g = absurd (no_fault relations r secret k k' by f.1)
one_register relations r secret calls k k' q q' by also a (Err KeysFault) f g = absurd (no_fault relations r secret q q' also g.1)
one_register relations r secret calls k k' q q' by also _ _ f g = grind arith

-- ---- the other calls

not_both : (id tag : List ℕ) (o : Option Registration) → Matches id tag o → ¬ (HasOtherTag id tag o)
not_both id tag None matched other = matched
not_both id tag (Some r) matched other = other matched

pub one_activate : (a : Activate) (calls : Log) (x y : Result (Unit {0}) RegFault) → ActivateAnswers a x calls → ActivateAnswers a y calls → x ≡ y
one_activate a calls (Ok u) (Ok v) f g = refl
one_activate a calls (Ok u) (Err NoAgent) f g = absurd (subst (Matches a.agent a.tag) g f)
one_activate a calls (Ok u) (Err WrongTag) f g = absurd (not_both a.agent a.tag (registered (own calls a.agent)) f g)
one_activate a calls (Err NoAgent) (Ok v) f g = absurd (subst (Matches a.agent a.tag) f g)
one_activate a calls (Err NoAgent) (Err NoAgent) f g = refl
one_activate a calls (Err NoAgent) (Err WrongTag) f g = absurd (subst (HasOtherTag a.agent a.tag) f g)
one_activate a calls (Err WrongTag) (Ok v) f g = absurd (not_both a.agent a.tag (registered (own calls a.agent)) g f)
one_activate a calls (Err WrongTag) (Err NoAgent) f g = absurd (subst (HasOtherTag a.agent a.tag) g f)
one_activate a calls (Err WrongTag) (Err WrongTag) f g = refl
one_activate a calls _ _ f g = grind arith

pub one_record : (id : List ℕ) (calls : Log) (x y : Result Registration RegFault) → RecordAnswers id x calls → RecordAnswers id y calls → x ≡ y
one_record id calls (Ok r) (Ok q) f g = ap Ok (same_Some r q (sym f.0 ∙ g.0))
one_record id calls (Ok r) (Err NoAgent) f g = absurd (cc (f.0, g))
one_record id calls (Ok r) (Err NotActive) f g = absurd (g.1 f.1)
one_record id calls (Err NoAgent) (Ok q) f g = absurd (cc (f, g.0))
one_record id calls (Err NoAgent) (Err NoAgent) f g = refl
one_record id calls (Err NoAgent) (Err NotActive) f g = absurd (cc (f, g.0))
one_record id calls (Err NotActive) (Ok q) f g = absurd (f.1 g.1)
one_record id calls (Err NotActive) (Err NoAgent) f g = absurd (cc (g, f.0))
one_record id calls (Err NotActive) (Err NotActive) f g = refl
one_record id calls _ _ f g = grind arith

pub one_records : (calls : Log) (x y : List (List ℕ)) → RecordsAnswers x calls → RecordsAnswers y calls → x ≡ y
one_records calls x y f g = one_list (λ id. IsActive (own calls id)) x y f g

pub one_forget : (id : List ℕ) (calls : Log) (x y : Result (Unit {0}) RegFault) → ForgetAnswers id x calls → ForgetAnswers id y calls → x ≡ y
one_forget id calls (Ok u) (Ok v) f g = refl
one_forget id calls (Ok u) (Err NoAgent) f g = absurd (cc (g, f))
one_forget id calls (Err NoAgent) (Ok v) f g = absurd (cc (f, g))
one_forget id calls (Err NoAgent) (Err NoAgent) f g = refl
one_forget id calls _ _ f g = grind arith
