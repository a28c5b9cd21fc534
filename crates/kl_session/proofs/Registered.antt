-- How the registrar's calls are answered, whatever calls were done before.
use Rattle.std.proofs.Common.{◌≡◌, ◌≢◌, ◌⊎◌, ◌↔◌, ℕ, List, ◌∷◌, ◌++◌, Option, Some, None, Result, Ok, Err, inl, inr, refl, sym, ap, subst}
use Rattle.std.specs.Option.{IsSome}
use Rattle.std.specs.Result.{OnOk, OnErr, IfOk, IfErr, IsErrOf}
use Rattle.kl_keys.specs.Tags.{tag_of}
use Rattle.kl_keys.specs.Told.{KeysTold}
use Rattle.hex.specs.Hex.{decode_of}
use Rattle.kl_registrar.specs.Asking.{Asked}
use Rattle.kl_registrar.specs.Calls.{Call, Registration, Log, own, Activate as Activated, Remove}
use Rattle.kl_registrar.specs.Records.{Keeps, registered, Matches, IsFull}
use Rattle.kl_registrar.specs.Answers.{HasOtherTag, IsInactive}
use Rattle.kl_registrar.specs.declared.record.RegRecord.{RegRecord}
use Rattle.kl_registrar.specs.declared.fault.RegFault.{RegFault}
use Rattle.kl_registrar.specs.declared.fault.RegFault.TheVariants.{Full, KeysFault, NoAgent, WrongTag, NotActive, Memory}
use Rattle.kl_registrar.proofs.Names.{same_or_not}
use Rattle.kl_script.specs.declared.command.Activate.{Activate}
use Rattle.kl_script.specs.declared.command.Register.{Register}
use Rattle.kl_session.specs.Calls.{Called}
use Rattle.kl_session.specs.declared.stop.Stop.{Stop}
use Rattle.kl_session.specs.declared.stop.Stop.TheVariants.{Memory as no_memory}
use Rattle.kl_session.specs.Registering.{RegisterAnswers, registers, register_makes, says_blob, AsksKeys, DoesRegister, makes, says}
use Rattle.kl_session.specs.Registering.{ActivateAnswers, RecordAnswers, ForgetAnswers}
use Rattle.kl_session.specs.Inner.Stopping.{IsShort}
use Rattle.kl_session.specs.Inner.Registrars.{told_answer, IsUnregistered}
use Rattle.kl_session.specs.Drawing.{Draws}
use Rattle.kl_session.specs.Outside.{Outside}

abbrev pub Entries : Type 0
Entries = List (List ℕ × RegRecord)

-- ---- register

-- what the registrar says of a register that was answered so
pub record SaysOfRegister {V : Type 0} (items : V → List ℕ) (r : Register) (secret : List ℕ) (k k' : KeysTold) (old new : Entries)
    (answer : Result V RegFault) : Type 0 where
  pub done : OnOk answer ((past : Log) → Keeps old past → Keeps new (registers r secret ∷ past))
  pub refused : OnErr answer (new ≡ old)
  pub full : (past : Log) → Keeps old past → (answer ≡ Err Full) ↔ IsFull past r.agent
  pub unasked : answer ≡ Err Full → k' ≡ k
  pub asked : (answer ≡ Err Full) ⊎ ((blob : Option (List ℕ)) × Asked k k' r.ek r.ak secret blob (IsErrOf answer KeysFault)
      × IfOk answer (λ v. blob ≡ Some (items v)) × (answer ≡ Err KeysFault → blob ≡ None))
  pub only : IfErr answer (λ fault. (fault ≡ Full) ⊎ (fault ≡ KeysFault) ⊎ (fault ≡ Memory))

-- it was answered, or memory ran out, and the keys were asked
pub record IsAnsweredCall {V : Type 0} (items : V → List ℕ) (r : Register) (secret : List ℕ) (k k' : KeysTold) (new : Entries) (calls : Log)
    (answer : Result V RegFault) : Type 0 where
  pub keeps : Keeps new (register_makes r secret (told_answer items answer) ++ calls)
  pub answers : RegisterAnswers r secret k k' (told_answer items answer) calls

abbrev pub IsCutShort : {V : Type 0} → Register → List ℕ → KeysTold → KeysTold → Entries → Log → Result V RegFault → Type 0
IsCutShort r secret k k' new calls answer =
    (answer ≡ Err Memory) × Keeps new calls × (¬ IsFull calls r.agent) × ((blob : Option (List ℕ)) × Asked k k' r.ek r.ak secret blob ⊥)

-- the same question, whose failing is said otherwise
asked_as : (F G : Type 0) (k k' : KeysTold) (ek ak secret : List ℕ) (answer : Option (List ℕ)) → (F → G) → (G → F)
    → Asked k k' ek ak secret answer F → Asked k k' ek ak secret answer G
asked_as F G k k' ek ak secret answer to from a = record {
  related = a.related;
  relations = a.relations;
  counted = record {
    made = a.counted.made;
    met = λ g. a.counted.met (from g);
    unmet = λ no_g. a.counted.unmet (λ f. no_g (to f));
    later = a.counted.later;
  };
  logged = a.logged;
}

module _ {V : Type 0} (items : V → List ℕ) (r : Register) (secret : List ℕ) (k k' : KeysTold) (old new : Entries) where
  pub register_told : (answer : Result V RegFault) → SaysOfRegister items r secret k k' old new answer → (calls : Log) → Keeps old calls
      → IsAnsweredCall items r secret k k' new calls answer ⊎ IsCutShort r secret k k' new calls answer
  register_told (Ok v) told calls keeps = inl (record {
    keeps = told.done calls keeps;
    answers = (
      λ full. cc ((told.full calls keeps).1 full),
      elim told.asked [
        | inl full ↦ cc full
        | inr (blob, asked, is, _) ↦ subst (λ (b : Option (List ℕ)). Asked k k' r.ek r.ak secret b ⊥) is
            (asked_as (IsErrOf (Ok v) KeysFault) ⊥ k k' r.ek r.ak secret blob (λ f. cc f) (λ f. absurd f) asked)
      ],
    );
  })
  register_told (Err Full) told calls keeps = inl (record {
    keeps = subst (λ (e : Entries). Keeps e calls) (sym told.refused) keeps;
    answers = ((told.full calls keeps).0 refl, told.unasked refl);
  })
  register_told (Err KeysFault) told calls keeps = inl (record {
    keeps = subst (λ (e : Entries). Keeps e calls) (sym told.refused) keeps;
    answers = (
      λ full. cc ((told.full calls keeps).1 full),
      elim told.asked [
        | inl full ↦ cc full
        | inr (blob, asked, _, none) ↦ subst (λ (b : Option (List ℕ)). Asked k k' r.ek r.ak secret b (Unit {0})) (none refl)
            (asked_as (IsErrOf (Err KeysFault) KeysFault) (Unit {0}) k k' r.ek r.ak secret blob (λ f. tt) (λ f. refl) asked)
      ],
    );
  })
  register_told (Err Memory) told calls keeps = inr (
    refl,
    subst (λ (e : Entries). Keeps e calls) (sym told.refused) keeps,
    λ full. cc ((told.full calls keeps).1 full),
    elim told.asked [
      | inl full ↦ cc full
      | inr (blob, asked, _, _) ↦
          (blob, asked_as (IsErrOf (Err Memory) KeysFault) ⊥ k k' r.ek r.ak secret blob (λ f. cc f) (λ f. absurd f) asked)
    ],
  )
  register_told (Err _) told calls keeps = elim told.only [ inl e ↦ cc e | inr (inl e) ↦ cc e | inr (inr e) ↦ cc e ]

-- the keys are asked once the secret was drawn
module _ (r : Register) (secret : List ℕ) (o then o' : Outside) (draws : Draws 32 o then secret) (asks : AsksKeys then o') where
  pub does_register : (calls calls' : Log) (line : List ℕ)
      → Called (RegisterAnswers r secret then.keys o'.keys) (register_makes r secret) (says_blob r.agent) calls calls' line
      → DoesRegister o o' r calls calls' line
  does_register calls calls' line called = record { secret = secret; then = then; draws = draws; asks = asks; called = called }

  pub unregistered : (new : Entries) (stop : Stop) (calls : Log)
      → (calls' : Log) × Keeps new calls' × ((stop ≡ no_memory)
      × (((line : List ℕ) × Called (RegisterAnswers r secret then.keys o'.keys) (register_makes r secret) (says_blob r.agent) calls calls' line)
      ⊎ ((calls' ≡ calls) × (¬ IsFull calls r.agent) × ((blob : Option (List ℕ)) × Asked then.keys o'.keys r.ek r.ak secret blob ⊥))))
      → (calls' : Log) × Keeps new calls' × IsUnregistered stop o o' r calls calls'
  unregistered new stop calls (calls', kept, (e, inl (line, called))) =
      (calls', kept, subst (λ (s : Stop). IsUnregistered s o o' r calls calls') (sym e) (inl (line, does_register calls calls' line called)))
  unregistered new stop calls (calls', kept, (e, inr (same, room, (blob, asked)))) = (
    calls',
    kept,
    subst (λ (s : Stop). IsUnregistered s o o' r calls calls') (sym e)
        (inr (same, record { room = room; secret = secret; then = then; draws = draws; asks = asks; answer = blob; asked = asked })),
  )

-- the parts of a register may be spelled otherwise
abbrev pub with_parts : List ℕ → List ℕ → List ℕ → List ℕ → Register
with_parts agent ek ak contact = record { agent = agent; ek = ek; ak = ak; contact = contact }

pub at_parts : (P : Register → Type 0) (r : Register) (ek ak contact : List ℕ) → ek ≡ r.ek → ak ≡ r.ak → contact ≡ r.contact
    → P (with_parts r.agent ek ak contact) → P r
at_parts P r ek ak contact same_ek same_ak same_contact holds =
    subst (λ (x : List ℕ). P (with_parts r.agent r.ek r.ak x)) same_contact
    (subst (λ (x : List ℕ). P (with_parts r.agent r.ek x contact)) same_ak
    (subst (λ (x : List ℕ). P (with_parts r.agent x ak contact)) same_ek holds))

module _ {V : Type 0} (items : V → List ℕ) (r : Register) (secret : List ℕ) (k k' : KeysTold) (old new : Entries) (answer : Result V RegFault)
    (told : SaysOfRegister items r secret k k' old new answer) (calls : Log) (keeps : Keeps old calls) where
  pub register_done : (line : List ℕ) → (answer ≢ Err Memory) × (line ≡ says_blob r.agent (told_answer items answer))
      → (calls' : Log) × Keeps new calls' × Called (RegisterAnswers r secret k k') (register_makes r secret) (says_blob r.agent) calls calls' line
  register_done line (some, said) = elim (register_told items r secret k k' old new answer told calls keeps) [
    | inl t ↦ (
      register_makes r secret (told_answer items answer) ++ calls,
      t.keeps,
      record { answer = told_answer items answer; answers = t.answers; after = refl; said = said },
    )
    | inr cut ↦ absurd (some cut.0)
  ]

  pub register_short : (stop : Stop) → stop ≡ no_memory
      → (calls' : Log) × Keeps new calls' × ((stop ≡ no_memory)
      × (((line : List ℕ) × Called (RegisterAnswers r secret k k') (register_makes r secret) (says_blob r.agent) calls calls' line)
      ⊎ ((calls' ≡ calls) × (¬ IsFull calls r.agent) × ((blob : Option (List ℕ)) × Asked k k' r.ek r.ak secret blob ⊥))))
  register_short stop e = elim (register_told items r secret k k' old new answer told calls keeps) [
    | inl t ↦ (
      register_makes r secret (told_answer items answer) ++ calls,
      t.keeps,
      (
        e,
        inl (
          says_blob r.agent (told_answer items answer),
          record { answer = told_answer items answer; answers = t.answers; after = refl; said = refl },
        ),
      ),
    )
    | inr (is, kept, room, asked) ↦ (calls, kept, (e, inr (refl, room, asked)))
  ]

-- ---- activate

-- a text is decoded to this or not
decoded : {E : Type 0} (read : Result (List ℕ) E) (tag : List ℕ) → (read ≡ Ok tag) ⊎ (read ≢ Ok tag)
decoded (Err e) tag = inr (λ is. cc is)
decoded (Ok bytes) tag = elim (same_or_not bytes tag) [ inl same ↦ inl (ap Ok same.1) | inr other ↦ inr (λ is. other.1 (cc is)) ]

matches : (id tag : List ℕ) (o : Option Registration) → o ≢ None → ¬ (HasOtherTag id tag o) → Matches id tag o
matches id tag None some same = absurd (some refl)
matches id tag (Some r) some same = elim (decoded (decode_of tag) (tag_of r.secret id)) [ inl is ↦ is | inr other ↦ absurd (same other) ]

pub record SaysOfActivate (a : Activate) (old new : Entries) (answer : Result (Unit {0}) RegFault) : Type 0 where
  pub done : OnOk answer ((past : Log) → Keeps old past → Keeps new (Activated a.agent a.tag ∷ past))
  pub refused : OnErr answer (new ≡ old)
  pub no_agent : (past : Log) → Keeps old past → (answer ≡ Err NoAgent) ↔ (registered (own past a.agent) ≡ None)
  pub wrong_tag : (past : Log) → Keeps old past → (answer ≡ Err WrongTag) ↔ HasOtherTag a.agent a.tag (registered (own past a.agent))
  pub only : IfErr answer (λ fault. (fault ≡ NoAgent) ⊎ (fault ≡ WrongTag))

pub activate_told : (a : Activate) (old new : Entries) (answer : Result (Unit {0}) RegFault) → SaysOfActivate a old new answer → (calls : Log) → Keeps old calls
    → Keeps new (makes (Activated a.agent a.tag) answer ++ calls) × ActivateAnswers a answer calls
activate_told a old new (Ok u) told calls keeps = (
  told.done calls keeps,
  matches a.agent a.tag (registered (own calls a.agent)) (λ none. cc ((told.no_agent calls keeps).1 none)) (λ other. cc ((told.wrong_tag calls keeps).1 other)),
)
activate_told a old new (Err NoAgent) told calls keeps =
    (subst (λ (e : Entries). Keeps e calls) (sym told.refused) keeps, (told.no_agent calls keeps).0 refl)
activate_told a old new (Err WrongTag) told calls keeps =
    (subst (λ (e : Entries). Keeps e calls) (sym told.refused) keeps, (told.wrong_tag calls keeps).0 refl)
activate_told a old new (Err _) told calls keeps = elim told.only [ inl e ↦ cc e | inr e ↦ cc e ]

abbrev pub with_tag : List ℕ → List ℕ → Activate
with_tag agent tag = record { agent = agent; tag = tag }

pub at_tag : (P : Activate → Type 0) (a : Activate) (tag : List ℕ) → tag ≡ a.tag → P (with_tag a.agent tag) → P a
at_tag P a tag same holds = subst (λ (x : List ℕ). P (with_tag a.agent x)) same holds

-- ---- record

-- why there is no record to tell
pub no_record : {T : Type 0} (id : List ℕ) (kept : Entries) (why : RegFault)
    → ((past : Log) → Keeps kept past → (◌≡◌ {A = Result T RegFault} (Err why) (Err NoAgent)) ↔ (registered (own past id) ≡ None))
    → ((past : Log) → Keeps kept past → (◌≡◌ {A = Result T RegFault} (Err why) (Err NotActive)) ↔ IsInactive (own past id))
    → (why ≡ NoAgent) ⊎ (why ≡ NotActive) → (calls : Log) → Keeps kept calls → RecordAnswers id (Err why) calls
no_record id kept NoAgent none idle only calls keeps = (none calls keeps).0 refl
no_record id kept NotActive none idle only calls keeps = (idle calls keeps).0 refl
no_record id kept _ none idle only calls keeps = elim only [ inl e ↦ cc e | inr e ↦ cc e ]

-- ---- forget

some_of : (o : Option Registration) → o ≢ None → IsSome o
some_of None some = absurd (some refl)
some_of (Some r) some = refl

pub record SaysOfForget (id : List ℕ) (old new : Entries) (answer : Result (Unit {0}) RegFault) : Type 0 where
  pub done : OnOk answer ((past : Log) → Keeps old past → Keeps new (Remove id ∷ past))
  pub refused : OnErr answer (new ≡ old)
  pub no_agent : (past : Log) → Keeps old past → (answer ≡ Err NoAgent) ↔ (registered (own past id) ≡ None)
  pub only : IfErr answer (λ fault. fault ≡ NoAgent)

pub forget_told : (id : List ℕ) (old new : Entries) (answer : Result (Unit {0}) RegFault) → SaysOfForget id old new answer → (calls : Log) → Keeps old calls
    → Keeps new (makes (Remove id) answer ++ calls) × ForgetAnswers id answer calls
forget_told id old new (Ok u) told calls keeps =
    (told.done calls keeps, some_of (registered (own calls id)) (λ none. cc ((told.no_agent calls keeps).1 none)))
forget_told id old new (Err NoAgent) told calls keeps =
    (subst (λ (e : Entries). Keeps e calls) (sym told.refused) keeps, (told.no_agent calls keeps).0 refl)
forget_told id old new (Err _) told calls keeps = cc told.only

-- ---- a call that was done or refused

-- its line is said, or memory runs out for it
module _ {Answers : Result (Unit {0}) RegFault → Log → Type 0} (call : Call) (said_of_done : List ℕ) (new : Entries)
    (answer : Result (Unit {0}) RegFault) (calls : Log) (told : Keeps new (makes call answer ++ calls) × Answers answer calls) where
  pub call_done : (line : List ℕ) → line ≡ says said_of_done answer
      → (calls' : Log) × Keeps new calls' × Called Answers (makes call) (says said_of_done) calls calls' line
  call_done line said = (makes call answer ++ calls, told.0, record { answer = answer; answers = told.1; after = refl; said = said })

  pub call_short : (stop : Stop) → stop ≡ no_memory
      → (calls' : Log) × Keeps new calls' × IsShort stop calls calls' (Called Answers (makes call) (says said_of_done) calls calls')
  call_short stop e = (
    makes call answer ++ calls,
    told.0,
    (e, inl (says said_of_done answer, record { answer = answer; answers = told.1; after = refl; said = refl })),
  )
