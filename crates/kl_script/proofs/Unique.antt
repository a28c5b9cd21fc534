-- A line spells at most one command.
use Rattle.std.proofs.Common.{◌≡◌, ◌≢◌, ◌⊎◌, inl, inr, ℕ, List, [], ◌∷◌, length, get_or, codes, Option, Some, None, Result, Ok, Err}
use Rattle.std.proofs.Common.{refl, sym, ap, subst, ◌∙◌, arith}
use Rattle.std.specs.Prelude.{IfOk}
use Rattle.std.specs.Str.Parse.{digits_value}
use Rattle.std.proofs.lemmas.Fmt.{decimal_injective}
use Rattle.hex.proofs.HexLemmas.{decode_of-same}
use Rattle.kl_bank.specs.declared.bank.Bank.{Bank}
use Rattle.kl_bank.specs.declared.bank.Bank.TheVariants.{Sha1, Sha256, Sha384}
use Rattle.kl_bank.specs.Banks.{name_of}
use Rattle.kl_pcr.specs.declared.statics.Static.{Static}
use Rattle.kl_states.specs.declared.policy_kind.PolicyKind.{PolicyKind}
use Rattle.kl_states.specs.declared.policy_kind.PolicyKind.TheVariants.{Flat, Json}
use Rattle.kl_script.specs.declared.fault.CommandFault.{CommandFault}
use Rattle.kl_script.specs.declared.fault.CommandFault.TheVariants.{NoCommand, Memory}
use Rattle.kl_script.specs.declared.command.Command.{Command}
use Rattle.kl_script.specs.Words.{HasNo, IsEscaped, IsField, IsNumber}
use Rattle.kl_script.specs.Digits.{IsKey, IsMask, IsShare}
use Rattle.kl_script.specs.Statics.{IsStatics}
use Rattle.kl_script.specs.Deliveries.{delivery_word}
use Rattle.kl_script.specs.declared.command.Activate.{Activate}
use Rattle.kl_script.specs.declared.command.Add.{Add}
use Rattle.kl_script.specs.declared.command.Begin.{Begin}
use Rattle.kl_script.specs.declared.command.Register.{Register}
use Rattle.kl_script.specs.declared.command.RegistrarCommand.{RegistrarCommand}
use Rattle.kl_script.specs.declared.command.RegistrarCommand.TheVariants as registrar
use Rattle.kl_script.specs.declared.command.Replace.{Replace}
use Rattle.kl_script.specs.declared.command.Delivery.{Delivery}
use Rattle.kl_script.specs.declared.command.Delivery.TheVariants.{Arrived, Missed}
use Rattle.kl_script.specs.declared.command.Settle.{Settle}
use Rattle.kl_script.specs.Commands.{ReplyFields, VerifierCommandFields, CommandFields, nothing, to_verifier, to_registrar, fields, kind_word}
use Rattle.kl_script.specs.Commands.{add, replace, reactivate, stop, remove, now, begin, reply, state, lose, pick, release, settle, notice, noticed}
use Rattle.kl_script.specs.Commands.{SpellsActivate, SpellsAdd, SpellsBegin, SpellsRegister, SpellsReplace, SpellsReply, SpellsSettle}
use Rattle.kl_script.specs.Commands.{IsBlank, HasVerifierForm, HasRegistrarForm, HasForm, Spells, IsRead}
use Rattle.kl_script.proofs.Splitting.{heads, tails, no_word, IsSplit-same}
use Rattle.kl_script.proofs.Escapes.{IsEscaped-same}
use Rattle.kl_script.proofs.Fields.{IsField-same}
use Rattle.kl_script.proofs.Fixed.{IsStatics-same}
use Rattle.kl_script.proofs.Forms.{name_of_verifier, name_of_registrar, VerifierArguments, RegistrarArguments, apart}
use Rattle.kl_script.proofs.Forms.{named_verifier, named_registrar, verifier_so, registrar_so, verifier_is_plain, registrar_is_plain}
use Rattle.kl_script.proofs.Forms.{verifier_not_blank, registrar_not_blank, no_verifier_word, records_have_no_space, pick_has_no_space, notice_has_no_space, other}
use Rattle.kl_script.proofs.Forms.{is_add, is_replace, is_reactivate, is_stop, is_remove, is_now, is_begin, is_reply, is_state, is_lose, is_release, is_settle, is_noticed}
use Rattle.kl_script.proofs.Forms.{is_register, is_activate, is_record, is_forget}
use Rattle.kl_script.proofs.Begins.{agent_has_no_space, IsCut-same, cut_of}
use Rattle.kl_script.proofs.Settles.{number_has_no_space, settle_cut}

-- ---- a word spells one value

name_of-same : (a b : Bank) → name_of a ≡ name_of b → a ≡ b
name_of-same Sha1 Sha1 e = refl
name_of-same Sha256 Sha256 e = refl
name_of-same Sha384 Sha384 e = refl
name_of-same Sha1 Sha256 e = absurd (omega (arith, ap length e))
name_of-same Sha1 Sha384 e = absurd (omega (arith, ap length e))
name_of-same Sha256 Sha1 e = absurd (omega (arith, ap length e))
name_of-same Sha384 Sha1 e = absurd (omega (arith, ap length e))
name_of-same Sha256 Sha384 e = absurd (omega (arith, ap (λ (t : List ℕ). get_or t 3 0) e))
name_of-same Sha384 Sha256 e = absurd (omega (arith, ap (λ (t : List ℕ). get_or t 3 0) e))

kind_word-same : (a b : PolicyKind) → kind_word a ≡ kind_word b → a ≡ b
kind_word-same Flat Flat e = refl
kind_word-same Json Json e = refl
kind_word-same Flat Json e = absurd (omega (arith, ap (λ (t : List ℕ). get_or t 0 0) e))
kind_word-same Json Flat e = absurd (omega (arith, ap (λ (t : List ℕ). get_or t 0 0) e))

delivery_word-same : (a b : Delivery) → delivery_word a ≡ delivery_word b → a ≡ b
delivery_word-same Arrived Arrived e = refl
delivery_word-same Missed Missed e = refl
delivery_word-same Arrived Missed e = absurd (omega (arith, ap length e))
delivery_word-same Missed Arrived e = absurd (omega (arith, ap length e))

IsMask-same : (written : List ℕ) (m n : ℕ) → IsMask written m → IsMask written n → m ≡ n
IsMask-same written m n g h =
    let digits : g.0 ≡ h.0 = tails (tails (sym g.1 ∙ h.1)) in
    g.5 ∙ ap (digits_value 16) digits ∙ sym h.5

IsShare-same : (written : List ℕ) (v w : Option (List ℕ)) → IsShare written v → IsShare written w → v ≡ w
IsShare-same written None None g h = refl
IsShare-same written None (Some w) g h = absurd (omega (arith, ap length g, h.0))
IsShare-same written (Some v) None g h = absurd (omega (arith, ap length h, g.0))
IsShare-same written (Some v) (Some w) g h = ap (λ (b : List ℕ). Some b) (decode_of-same written v w g.1 h.1)

IsNumber-same : (written : List ℕ) (m n : ℕ) → IsNumber written m → IsNumber written n → m ≡ n
IsNumber-same written m n g h = decimal_injective m n g.0 h.0 (sym g.1 ∙ h.1)

-- ---- the arguments spell one command

SpellsAdd-same : (arguments : List ℕ) (a b : Add) → SpellsAdd arguments a → SpellsAdd arguments b → a ≡ b
SpellsAdd-same arguments a b s t =
    let expected : List (List ℕ) = a.agent ∷ s.contact ∷ name_of a.bank ∷ s.mask ∷ s.statics ∷ s.ak ∷ s.v ∷ kind_word a.kind ∷ [] in
    let others : List (List ℕ) = b.agent ∷ t.contact ∷ name_of b.bank ∷ t.mask ∷ t.statics ∷ t.ak ∷ t.v ∷ kind_word b.kind ∷ [] in
    let same = IsSplit-same arguments 8 expected others s.policy t.policy s.split t.split in
    let e0 = same.0 in
    let e1 = tails e0 in
    let e2 = tails e1 in
    let e3 = tails e2 in
    let e4 = tails e3 in
    let e5 = tails e4 in
    let e6 = tails e5 in
    let agent : a.agent ≡ b.agent = heads e0 in
    let contact : a.contact ≡ b.contact = IsField-same t.contact a.contact b.contact (subst (λ w. IsField w a.contact) (heads e1) s.is_contact) t.is_contact in
    let bank : a.bank ≡ b.bank = name_of-same a.bank b.bank (heads e2) in
    let mask : a.mask ≡ b.mask = IsMask-same t.mask a.mask b.mask (subst (λ w. IsMask w a.mask) (heads e3) s.is_mask) t.is_mask in
    let statics : a.statics ≡ b.statics =
    IsStatics-same t.statics a.statics b.statics (subst (λ w. IsStatics w a.statics) (heads e4) s.is_statics) t.is_statics in
    let ak : a.ak ≡ b.ak = decode_of-same t.ak a.ak b.ak (subst (λ w. IsKey w a.ak) (heads e5) s.is_ak).2 t.is_ak.2 in
    let v : a.v ≡ b.v = IsShare-same t.v a.v b.v (subst (λ w. IsShare w a.v) (heads e6) s.is_v) t.is_v in
    let kind : a.kind ≡ b.kind = kind_word-same a.kind b.kind (heads (tails e6)) in
    let policy : a.policy ≡ b.policy = IsEscaped-same t.policy a.policy b.policy (subst (λ w. IsEscaped w a.policy) same.1 s.is_policy) t.is_policy in
    let made : List ℕ → List ℕ → Bank → ℕ → List Static → List ℕ → Option (List ℕ) → PolicyKind → List ℕ → Add =
    λ agent contact bank mask statics ak v kind policy.
    record { agent = agent; contact = contact; bank = bank; mask = mask; statics = statics; ak = ak; v = v; kind = kind; policy = policy } in
    let whole : made a.agent a.contact a.bank a.mask a.statics a.ak a.v a.kind a.policy
    ≡ made b.agent b.contact b.bank b.mask b.statics b.ak b.v b.kind b.policy = cc in
    whole

SpellsReplace-same : (arguments : List ℕ) (a b : Replace) → SpellsReplace arguments a → SpellsReplace arguments b → a ≡ b
SpellsReplace-same arguments a b s t =
    let expected : List (List ℕ) = a.agent ∷ kind_word a.kind ∷ [] in
    let others : List (List ℕ) = b.agent ∷ kind_word b.kind ∷ [] in
    let same = IsSplit-same arguments 2 expected others s.policy t.policy s.split t.split in
    let agent : a.agent ≡ b.agent = heads same.0 in
    let kind : a.kind ≡ b.kind = kind_word-same a.kind b.kind (heads (tails same.0)) in
    let policy : a.policy ≡ b.policy = IsEscaped-same t.policy a.policy b.policy (subst (λ w. IsEscaped w a.policy) same.1 s.is_policy) t.is_policy in
    let made : List ℕ → PolicyKind → List ℕ → Replace = λ agent kind policy. record { agent = agent; kind = kind; policy = policy } in
    let whole : made a.agent a.kind a.policy ≡ made b.agent b.kind b.policy = cc in
    whole

SpellsBegin-same : (arguments : List ℕ) (a b : Begin) → SpellsBegin arguments a → SpellsBegin arguments b → a ≡ b
SpellsBegin-same arguments a b s t =
    let same = IsCut-same arguments a.agent b.agent a.nonce b.nonce (agent_has_no_space a.agent s.is_agent) (agent_has_no_space b.agent t.is_agent)
    (cut_of arguments a.agent a.nonce s.split) (cut_of arguments b.agent b.nonce t.split) in
    let made : List ℕ → Option (List ℕ) → Begin = λ agent nonce. record { agent = agent; nonce = nonce } in
    let whole : made a.agent a.nonce ≡ made b.agent b.nonce = cc (same.0, same.1) in
    whole

SpellsReply-same : (arguments : List ℕ) (a b : ReplyFields) → SpellsReply arguments a → SpellsReply arguments b → a ≡ b
SpellsReply-same arguments a b s t =
    let expected : List (List ℕ) = s.poll ∷ s.bank ∷ s.start ∷ s.public ∷ s.quote ∷ [] in
    let others : List (List ℕ) = t.poll ∷ t.bank ∷ t.start ∷ t.public ∷ t.quote ∷ [] in
    let same = IsSplit-same arguments 5 expected others s.list t.list s.split t.split in
    let e1 = tails same.0 in
    let e2 = tails e1 in
    let e3 = tails e2 in
    let e4 = tails e3 in
    let poll : a.poll ≡ b.poll = IsNumber-same t.poll a.poll b.poll (subst (λ w. IsNumber w a.poll) (heads same.0) s.is_poll) t.is_poll in
    let bank : a.bank ≡ b.bank = IsField-same t.bank a.bank b.bank (subst (λ w. IsField w a.bank) (heads e1) s.is_bank) t.is_bank in
    let start : a.start ≡ b.start = IsNumber-same t.start a.start b.start (subst (λ w. IsNumber w a.start) (heads e2) s.is_start) t.is_start in
    let public : a.public ≡ b.public = IsField-same t.public a.public b.public (subst (λ w. IsField w a.public) (heads e3) s.is_public) t.is_public in
    let quote : a.quote ≡ b.quote = IsField-same t.quote a.quote b.quote (subst (λ w. IsField w a.quote) (heads e4) s.is_quote) t.is_quote in
    let list : a.list ≡ b.list = IsEscaped-same t.list a.list b.list (subst (λ w. IsEscaped w a.list) same.1 s.is_list) t.is_list in
    let made : ℕ → List ℕ → ℕ → List ℕ → List ℕ → List ℕ → ReplyFields =
    λ poll bank start public quote list. record { poll = poll; bank = bank; start = start; public = public; quote = quote; list = list } in
    let whole : made a.poll a.bank a.start a.public a.quote a.list ≡ made b.poll b.bank b.start b.public b.quote b.list = cc in
    whole

SpellsSettle-same : (arguments : List ℕ) (a b : Settle) → SpellsSettle arguments a → SpellsSettle arguments b → a ≡ b
SpellsSettle-same arguments a b s t =
    let same = settle_cut arguments t.number (delivery_word b.delivery) a t.split (number_has_no_space t.number b.number t.is_number) s in
    let number : a.number ≡ b.number = IsNumber-same t.number a.number b.number same.0 t.is_number in
    let delivery : a.delivery ≡ b.delivery = delivery_word-same a.delivery b.delivery (sym same.1) in
    let made : ℕ → Delivery → Settle = λ number delivery. record { number = number; delivery = delivery } in
    let whole : made a.number a.delivery ≡ made b.number b.delivery = cc (number, delivery) in
    whole

SpellsRegister-same : (arguments : List ℕ) (a b : Register) → SpellsRegister arguments a → SpellsRegister arguments b → a ≡ b
SpellsRegister-same arguments a b s t =
    let expected : List (List ℕ) = a.agent ∷ s.ek ∷ s.ak ∷ [] in
    let others : List (List ℕ) = b.agent ∷ t.ek ∷ t.ak ∷ [] in
    let same = IsSplit-same arguments 3 expected others s.contact t.contact s.split t.split in
    let e1 = tails same.0 in
    let agent : a.agent ≡ b.agent = heads same.0 in
    let ek : a.ek ≡ b.ek = decode_of-same t.ek a.ek b.ek (subst (λ w. IsKey w a.ek) (heads e1) s.is_ek).2 t.is_ek.2 in
    let ak : a.ak ≡ b.ak = decode_of-same t.ak a.ak b.ak (subst (λ w. IsKey w a.ak) (heads (tails e1)) s.is_ak).2 t.is_ak.2 in
    let contact : a.contact ≡ b.contact = IsField-same t.contact a.contact b.contact (subst (λ w. IsField w a.contact) same.1 s.is_contact) t.is_contact in
    let made : List ℕ → List ℕ → List ℕ → List ℕ → Register = λ agent ek ak contact. record { agent = agent; ek = ek; ak = ak; contact = contact } in
    let whole : made a.agent a.ek a.ak a.contact ≡ made b.agent b.ek b.ak b.contact = cc in
    whole

SpellsActivate-same : (arguments : List ℕ) (a b : Activate) → SpellsActivate arguments a → SpellsActivate arguments b → a ≡ b
SpellsActivate-same arguments a b s t =
    let expected : List (List ℕ) = a.agent ∷ [] in
    let others : List (List ℕ) = b.agent ∷ [] in
    let same = IsSplit-same arguments 1 expected others s.tag t.tag s.split t.split in
    let agent : a.agent ≡ b.agent = heads same.0 in
    let tag : a.tag ≡ b.tag = IsField-same t.tag a.tag b.tag (subst (λ w. IsField w a.tag) same.1 s.is_tag) t.is_tag in
    let made : List ℕ → List ℕ → Activate = λ agent tag. record { agent = agent; tag = tag } in
    let whole : made a.agent a.tag ≡ made b.agent b.tag = cc (agent, tag) in
    whole

-- ---- a line spells one command to the verifier

same_verifier_arguments : (arguments : List ℕ) (x y : VerifierCommandFields) → name_of_verifier x ≡ name_of_verifier y
    → VerifierArguments arguments x → VerifierArguments arguments y → x ≡ y
same_verifier_arguments arguments (add a) y e s t = let b = is_add arguments y e t in ap (λ x. add x) (SpellsAdd-same arguments a b.0 s b.2) ∙ b.1
same_verifier_arguments arguments (replace a) y e s t = let b = is_replace arguments y e t in ap (λ x. replace x) (SpellsReplace-same arguments a b.0 s b.2) ∙ b.1
same_verifier_arguments arguments (reactivate a) y e s t = let b = is_reactivate arguments y e t in ap (λ x. reactivate x) (sym s.0 ∙ b.2.0) ∙ b.1
same_verifier_arguments arguments (stop a) y e s t = let b = is_stop arguments y e t in ap (λ x. stop x) (sym s.0 ∙ b.2.0) ∙ b.1
same_verifier_arguments arguments (remove a) y e s t = let b = is_remove arguments y e t in ap (λ x. remove x) (sym s.0 ∙ b.2.0) ∙ b.1
same_verifier_arguments arguments (now a) y e s t = let b = is_now arguments y e t in ap (λ x. now x) (IsNumber-same arguments a b.0 s b.2) ∙ b.1
same_verifier_arguments arguments (begin a) y e s t = let b = is_begin arguments y e t in ap (λ x. begin x) (SpellsBegin-same arguments a b.0 s b.2) ∙ b.1
same_verifier_arguments arguments (reply a) y e s t = let b = is_reply arguments y e t in ap (λ x. reply x) (SpellsReply-same arguments a b.0 s b.2) ∙ b.1
same_verifier_arguments arguments (state a) y e s t = let b = is_state arguments y e t in ap (λ x. state x) (sym s.0 ∙ b.2.0) ∙ b.1
same_verifier_arguments arguments (lose a) y e s t = let b = is_lose arguments y e t in ap (λ x. lose x) (IsNumber-same arguments a b.0 s b.2) ∙ b.1
same_verifier_arguments arguments pick y e s t = absurd s
same_verifier_arguments arguments (release a) y e s t = let b = is_release arguments y e t in ap (λ x. release x) (sym s.0 ∙ b.2.0) ∙ b.1
same_verifier_arguments arguments (settle a) y e s t = let b = is_settle arguments y e t in ap (λ x. settle x) (SpellsSettle-same arguments a b.0 s b.2) ∙ b.1
same_verifier_arguments arguments notice y e s t = absurd s
same_verifier_arguments arguments (noticed a) y e s t = let b = is_noticed arguments y e t in ap (λ x. noticed x) (IsNumber-same arguments a b.0 s b.2) ∙ b.1

only_pick : (line : List ℕ) (y : VerifierCommandFields) → line ≡ codes "pick" → HasVerifierForm line y → pick ≡ y
only_pick line pick word t = refl
only_pick line notice word t = other refl (sym word ∙ t)
only_pick line y word t = absurd (no_word 32 line (name_of_verifier y) t.0 (subst (HasNo 32) (sym word) pick_has_no_space) t.1)

only_notice : (line : List ℕ) (y : VerifierCommandFields) → line ≡ codes "notice" → HasVerifierForm line y → notice ≡ y
only_notice line notice word t = refl
only_notice line pick word t = other refl (sym word ∙ t)
only_notice line y word t = absurd (no_word 32 line (name_of_verifier y) t.0 (subst (HasNo 32) (sym word) notice_has_no_space) t.1)

-- a word alone spells one command, and every other has a space
is_alone_or_spaced : (line : List ℕ) (x : VerifierCommandFields) → HasVerifierForm line x
    → ((y : VerifierCommandFields) → HasVerifierForm line y → x ≡ y) ⊎ (¬ (HasNo 32 line))
is_alone_or_spaced line pick h = inl (λ y t. only_pick line y h t)
is_alone_or_spaced line notice h = inl (λ y t. only_notice line y h t)
is_alone_or_spaced line x h = inr (λ free. no_word 32 line (name_of_verifier x) h.0 free h.1)

one_verifier_command : (line : List ℕ) (x y : VerifierCommandFields) → HasVerifierForm line x → HasVerifierForm line y → x ≡ y
one_verifier_command line x y s t = elim (is_alone_or_spaced line x s) [
  | inl alone ↦ alone y t
  | inr spaced ↦ let form = named_verifier line x spaced s in
      let so = verifier_so form.0 (form.1, verifier_is_plain x) y t in
      same_verifier_arguments form.0 x y so.0 form.2 so.1
]

-- ---- and one to the registrar

same_registrar_arguments : (arguments : List ℕ) (x y : RegistrarCommand) → name_of_registrar x ≡ name_of_registrar y
    → RegistrarArguments arguments x → RegistrarArguments arguments y → x ≡ y
same_registrar_arguments arguments (registrar.Register a) y e s t =
    let b = is_register arguments y e t in ap (λ x. registrar.Register x) (SpellsRegister-same arguments a b.0 s b.2) ∙ b.1
same_registrar_arguments arguments (registrar.Activate a) y e s t =
    let b = is_activate arguments y e t in ap (λ x. registrar.Activate x) (SpellsActivate-same arguments a b.0 s b.2) ∙ b.1
same_registrar_arguments arguments (registrar.Record a) y e s t = let b = is_record arguments y e t in ap (λ x. registrar.Record x) (sym s.0 ∙ b.2.0) ∙ b.1
same_registrar_arguments arguments registrar.Records y e s t = absurd s
same_registrar_arguments arguments (registrar.Forget a) y e s t = let b = is_forget arguments y e t in ap (λ x. registrar.Forget x) (sym s.0 ∙ b.2.0) ∙ b.1

-- `records` is a word alone, and every other command has a space
is_records_or_cut : (line : List ℕ) (x : RegistrarCommand) → HasRegistrarForm line x
    → ((line ≡ codes "records") × (x ≡ registrar.Records)) ⊎ (line ≢ codes "records")
is_records_or_cut line registrar.Records h = inl (h, refl)
is_records_or_cut line x h =
    inr (λ word. no_word 32 line (name_of_registrar x) h.0 (subst (HasNo 32) (sym word) records_have_no_space) h.1)

one_registrar_command : (line : List ℕ) (x y : RegistrarCommand) → HasRegistrarForm line x → HasRegistrarForm line y → x ≡ y
one_registrar_command line x y s t = elim (is_records_or_cut line x s) [
  | inl word ↦ elim (is_records_or_cut line y t) [ inl same ↦ word.1 ∙ sym same.1 | inr other ↦ absurd (other word.0) ]
  | inr cut ↦ let form = named_registrar line x cut s in
      let so = registrar_so form.0 (form.1, registrar_is_plain x) y t in
      same_registrar_arguments form.0 x y so.0 form.2 so.1
]

-- and not one of each
not_both : (line : List ℕ) (x : VerifierCommandFields) (y : RegistrarCommand) → HasVerifierForm line x → ¬ (HasRegistrarForm line y)
not_both line x y s t = elim (is_records_or_cut line y t) [
  | inl word ↦ no_verifier_word line (subst (HasNo 32) (sym word.0) records_have_no_space) (λ e. other refl (sym word.0 ∙ e)) (λ e. other refl (sym word.0 ∙ e)) x s
  | inr cut ↦ let form = named_registrar line y cut t in
      apart x y (sym (verifier_so form.0 (form.1, registrar_is_plain y) x s).0)
]

-- ---- a whole line

one_form : (line : List ℕ) (x y : CommandFields) → HasForm line x → HasForm line y → x ≡ y
one_form line nothing nothing s t = refl
one_form line nothing (to_verifier d) s t = absurd (verifier_not_blank line d t s)
one_form line nothing (to_registrar d) s t = absurd (registrar_not_blank line d t s)
one_form line (to_verifier c) nothing s t = absurd (verifier_not_blank line c s t)
one_form line (to_verifier c) (to_verifier d) s t = ap to_verifier (one_verifier_command line c d s t)
one_form line (to_verifier c) (to_registrar d) s t = absurd (not_both line c d s t)
one_form line (to_registrar c) nothing s t = absurd (registrar_not_blank line c s t)
one_form line (to_registrar c) (to_verifier d) s t = absurd (not_both line d c t s)
one_form line (to_registrar c) (to_registrar d) s t = ap to_registrar (one_registrar_command line c d s t)

pub Spells-same : (line : List ℕ) (x y : CommandFields) → Spells line x → Spells line y → x ≡ y
Spells-same line x y s t = one_form line x y s.form t.form

-- a line that is not blank spells nothing that neither reads
pub no_form : (line : List ℕ) → ¬ (IsBlank line) → ((c : VerifierCommandFields) → ¬ (HasVerifierForm line c))
    → ((c : RegistrarCommand) → ¬ (HasRegistrarForm line c)) → (said : CommandFields) → ¬ (Spells line said)
no_form line some verifier registrar nothing s = some s.form
no_form line some verifier registrar (to_verifier c) s = verifier c s.form
no_form line some verifier registrar (to_registrar c) s = registrar c s.form

-- so the command that is read is the one that the line spells
pub read_as : (line : List ℕ) (r : Result Command CommandFault) → IfOk r (λ command. Spells line (fields command))
    → (r ≡ Err NoCommand → (said : CommandFields) → ¬ (Spells line said)) → (said : CommandFields) → Spells line said → IsRead r said
read_as line (Ok command) found none said s = Spells-same line (fields command) said found s
read_as line (Err Memory) found none said s = tt
read_as line (Err NoCommand) found none said s = none refl said s
