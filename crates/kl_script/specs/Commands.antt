-- The commands of a script, and the lines that spell them.
use Rattle.std.specs.Prelude.{◌≡◌, ◌⊎◌, ℕ, List, [], ◌∷◌, ◌++◌, codes, Option, Some, None, Result, Ok, Err, IsUtf8, ⊤}
use Rattle.kl_states.specs.Names.{IsAgentId, IsNonce}
use Rattle.kl_states.specs.declared.policy_kind.PolicyKind.{PolicyKind}
use Rattle.kl_states.specs.declared.policy_kind.PolicyKind.TheVariants.{Flat, Json}
use Rattle.kl_bank.specs.Banks.{name_of}
use Rattle.kl_script.specs.declared.fault.CommandFault.{CommandFault}
use Rattle.kl_script.specs.declared.fault.CommandFault.TheVariants.{NoCommand, Memory}
use Rattle.kl_script.specs.declared.command.Command.{Command}
use Rattle.kl_script.specs.declared.command.Command.TheVariants as commands
use Rattle.kl_script.specs.declared.command.VerifierCommand.{VerifierCommand}
use Rattle.kl_script.specs.declared.command.VerifierCommand.TheVariants as verifier_commands
use Rattle.kl_script.specs.declared.command.RegistrarCommand.{RegistrarCommand}
use Rattle.kl_script.specs.declared.command.RegistrarCommand.TheVariants as registrar_commands
use Rattle.kl_script.specs.declared.command.Activate.{Activate}
use Rattle.kl_script.specs.declared.command.Add.{Add}
use Rattle.kl_script.specs.declared.command.Begin.{Begin}
use Rattle.kl_script.specs.declared.command.Register.{Register}
use Rattle.kl_script.specs.declared.command.Replace.{Replace}
use Rattle.kl_script.specs.declared.command.Reply.{Reply}
use Rattle.kl_script.specs.declared.command.Settle.{Settle}
use Rattle.kl_script.specs.Words.{IsSplit, IsEscaped, IsField, IsNumber}
use Rattle.kl_script.specs.Digits.{IsKey, IsMask, IsShare}
use Rattle.kl_script.specs.Statics.{IsStatics}
use Rattle.kl_script.specs.Deliveries.{delivery_word}

-- ---- what a command says

-- of a reply the number of its poll and its parts, apart from their bound together
pub record ReplyFields : Type 0 where
  pub poll : ℕ
  pub bank : List ℕ
  pub start : ℕ
  pub public : List ℕ
  pub quote : List ℕ
  pub list : List ℕ

pub data VerifierCommandFields : Type 0 where
  add : Add → VerifierCommandFields
  replace : Replace → VerifierCommandFields
  reactivate : List ℕ → VerifierCommandFields
  stop : List ℕ → VerifierCommandFields
  remove : List ℕ → VerifierCommandFields
  now : ℕ → VerifierCommandFields
  begin : Begin → VerifierCommandFields
  reply : ReplyFields → VerifierCommandFields
  state : List ℕ → VerifierCommandFields
  lose : ℕ → VerifierCommandFields
  pick : VerifierCommandFields
  release : List ℕ → VerifierCommandFields
  settle : Settle → VerifierCommandFields
  notice : VerifierCommandFields
  noticed : ℕ → VerifierCommandFields

pub data CommandFields : Type 0 where
  -- an empty line, or a comment
  nothing : CommandFields
  to_verifier : VerifierCommandFields → CommandFields
  to_registrar : RegistrarCommand → CommandFields

abbrev pub reply_fields : Reply → ReplyFields
reply_fields r = record {
  poll = r.poll;
  bank = r.evidence.bank;
  start = r.evidence.start;
  public = r.evidence.public;
  quote = r.evidence.quote;
  list = r.evidence.list;
}

abbrev pub verifier_fields : VerifierCommand → VerifierCommandFields
verifier_fields (verifier_commands.Add a) = add a
verifier_fields (verifier_commands.Replace r) = replace r
verifier_fields (verifier_commands.Reactivate a) = reactivate a
verifier_fields (verifier_commands.Stop a) = stop a
verifier_fields (verifier_commands.Remove a) = remove a
verifier_fields (verifier_commands.Now t) = now t
verifier_fields (verifier_commands.Begin b) = begin b
verifier_fields (verifier_commands.Reply r) = reply (reply_fields r)
verifier_fields (verifier_commands.State a) = state a
verifier_fields (verifier_commands.Lose p) = lose p
verifier_fields verifier_commands.Pick = pick
verifier_fields (verifier_commands.Release a) = release a
verifier_fields (verifier_commands.Settle s) = settle s
verifier_fields verifier_commands.Notice = notice
verifier_fields (verifier_commands.Noticed n) = noticed n

abbrev pub fields : Command → CommandFields
fields commands.Nothing = nothing
fields (commands.Verifier c) = to_verifier (verifier_fields c)
fields (commands.Registrar c) = to_registrar c

-- ---- what stands behind the command's name and a space

-- the word for a policy's form
abbrev pub kind_word : PolicyKind → List ℕ
kind_word Flat = codes "flat"
kind_word Json = codes "json"

-- the agent, contact, bank, mask, statics, attestation key, V and kind of policy, and the policy as a rest
pub record SpellsAdd (arguments : List ℕ) (said : Add) : Type 0 where
  pub contact : List ℕ
  pub mask : List ℕ
  pub statics : List ℕ
  pub ak : List ℕ
  pub v : List ℕ
  pub policy : List ℕ
  pub split : IsSplit arguments 8 (said.agent ∷ contact ∷ name_of said.bank ∷ mask ∷ statics ∷ ak ∷ v ∷ kind_word said.kind ∷ []) policy
  pub is_agent : IsAgentId said.agent
  pub is_contact : IsField contact said.contact
  pub is_mask : IsMask mask said.mask
  pub is_statics : IsStatics statics said.statics
  pub is_ak : IsKey ak said.ak
  pub is_v : IsShare v said.v
  pub is_policy : IsEscaped policy said.policy

-- the agent and kind of policy, and the policy as a rest
pub record SpellsReplace (arguments : List ℕ) (said : Replace) : Type 0 where
  pub policy : List ℕ
  pub split : IsSplit arguments 2 (said.agent ∷ kind_word said.kind ∷ []) policy
  pub is_agent : IsAgentId said.agent
  pub is_policy : IsEscaped policy said.policy

-- the agent alone
abbrev pub SpellsAgent : List ℕ → List ℕ → Type 0
SpellsAgent arguments agent = (arguments ≡ agent) × IsAgentId agent

-- the nonce behind the agent, where there is one
abbrev pub EndsWithNonce : List ℕ → List ℕ → Option (List ℕ) → Type 0
EndsWithNonce arguments agent None = arguments ≡ agent
EndsWithNonce arguments agent (Some nonce) = (arguments ≡ agent ++ 32 ∷ nonce) × IsNonce nonce

-- the agent, and the nonce where there is one
pub record SpellsBegin (arguments : List ℕ) (said : Begin) : Type 0 where
  pub split : EndsWithNonce arguments said.agent said.nonce
  pub is_agent : IsAgentId said.agent

-- the poll, the bank, the number of the first entry, the public key and the quote, and the list as a rest
pub record SpellsReply (arguments : List ℕ) (said : ReplyFields) : Type 0 where
  pub poll : List ℕ
  pub bank : List ℕ
  pub start : List ℕ
  pub public : List ℕ
  pub quote : List ℕ
  pub list : List ℕ
  pub split : IsSplit arguments 5 (poll ∷ bank ∷ start ∷ public ∷ quote ∷ []) list
  pub is_poll : IsNumber poll said.poll
  pub is_bank : IsField bank said.bank
  pub is_start : IsNumber start said.start
  pub is_public : IsField public said.public
  pub is_quote : IsField quote said.quote
  pub is_list : IsEscaped list said.list

-- the number of the release, and the word for how its delivery ended
pub record SpellsSettle (arguments : List ℕ) (said : Settle) : Type 0 where
  pub number : List ℕ
  pub split : arguments ≡ number ++ 32 ∷ delivery_word said.delivery
  pub is_number : IsNumber number said.number

-- the agent and its two keys, and its contact
pub record SpellsRegister (arguments : List ℕ) (said : Register) : Type 0 where
  pub ek : List ℕ
  pub ak : List ℕ
  pub contact : List ℕ
  pub split : IsSplit arguments 3 (said.agent ∷ ek ∷ ak ∷ []) contact
  pub is_agent : IsAgentId said.agent
  pub is_ek : IsKey ek said.ek
  pub is_ak : IsKey ak said.ak
  pub is_contact : IsField contact said.contact

-- the agent, and the tag
pub record SpellsActivate (arguments : List ℕ) (said : Activate) : Type 0 where
  pub tag : List ℕ
  pub split : IsSplit arguments 1 (said.agent ∷ []) tag
  pub is_agent : IsAgentId said.agent
  pub is_tag : IsField tag said.tag

-- ---- a whole line, without its newline

-- an empty line, or a comment
abbrev pub IsBlank : List ℕ → Type 0
IsBlank line = (line ≡ []) ⊎ ((comment : List ℕ) × (line ≡ codes "#" ++ comment))

-- the command's name, a space and what stands behind it
abbrev pub IsNamed : List ℕ → List ℕ → (List ℕ → Type 0) → Type 0
IsNamed line name Spelled = (arguments : List ℕ) × (line ≡ name ++ 32 ∷ arguments) × Spelled arguments

abbrev pub HasVerifierForm : List ℕ → VerifierCommandFields → Type 0
HasVerifierForm line (add a) = IsNamed line (codes "add") (λ arguments. SpellsAdd arguments a)
HasVerifierForm line (replace r) = IsNamed line (codes "replace") (λ arguments. SpellsReplace arguments r)
HasVerifierForm line (reactivate a) = IsNamed line (codes "reactivate") (λ arguments. SpellsAgent arguments a)
HasVerifierForm line (stop a) = IsNamed line (codes "stop") (λ arguments. SpellsAgent arguments a)
HasVerifierForm line (remove a) = IsNamed line (codes "remove") (λ arguments. SpellsAgent arguments a)
HasVerifierForm line (now t) = IsNamed line (codes "now") (λ arguments. IsNumber arguments t)
HasVerifierForm line (begin b) = IsNamed line (codes "begin") (λ arguments. SpellsBegin arguments b)
HasVerifierForm line (reply r) = IsNamed line (codes "reply") (λ arguments. SpellsReply arguments r)
HasVerifierForm line (state a) = IsNamed line (codes "state") (λ arguments. SpellsAgent arguments a)
HasVerifierForm line (lose p) = IsNamed line (codes "lose") (λ arguments. IsNumber arguments p)
HasVerifierForm line pick = line ≡ codes "pick"
HasVerifierForm line (release a) = IsNamed line (codes "release") (λ arguments. SpellsAgent arguments a)
HasVerifierForm line (settle s) = IsNamed line (codes "settle") (λ arguments. SpellsSettle arguments s)
HasVerifierForm line notice = line ≡ codes "notice"
HasVerifierForm line (noticed n) = IsNamed line (codes "noticed") (λ arguments. IsNumber arguments n)

abbrev pub HasRegistrarForm : List ℕ → RegistrarCommand → Type 0
HasRegistrarForm line (registrar_commands.Register r) = IsNamed line (codes "register") (λ arguments. SpellsRegister arguments r)
HasRegistrarForm line (registrar_commands.Activate a) = IsNamed line (codes "activate") (λ arguments. SpellsActivate arguments a)
HasRegistrarForm line (registrar_commands.Record a) = IsNamed line (codes "record") (λ arguments. SpellsAgent arguments a)
HasRegistrarForm line registrar_commands.Records = line ≡ codes "records"
HasRegistrarForm line (registrar_commands.Forget a) = IsNamed line (codes "forget") (λ arguments. SpellsAgent arguments a)

abbrev pub HasForm : List ℕ → CommandFields → Type 0
HasForm line nothing = IsBlank line
HasForm line (to_verifier c) = HasVerifierForm line c
HasForm line (to_registrar c) = HasRegistrarForm line c

-- the line is UTF-8 and has the form of the command
pub record Spells (line : List ℕ) (command : CommandFields) : Type 0 where
  pub utf8 : IsUtf8 line
  pub form : HasForm line command

-- a line that spells the command was read as it, unless memory ran out
abbrev pub IsRead : Result Command CommandFault → CommandFields → Type 0
IsRead (Ok command) said = fields command ≡ said
IsRead (Err Memory) said = ⊤
IsRead (Err NoCommand) said = ⊥
