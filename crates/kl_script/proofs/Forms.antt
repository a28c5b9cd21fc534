-- The form of a line: it is blank, or a word, or a command's name, a space and arguments, in one way.
use Rattle.std.proofs.Common.{◌≡◌, ◌≢◌, ℕ, ◌==◌, Bool, true, false, not, List, [], ◌∷◌, ◌++◌, get_or, codes, sum}
use Rattle.std.proofs.Common.{refl, sym, ap, subst, ◌∙◌, arith, inl, inr}
use Rattle.std.specs.List.{list_all}
use Rattle.std.proofs.lemmas.Bool.{false≢true, eqb-false}
use Rattle.std.proofs.lemmas.List.Sums.{AllPass-from_list_all}
use Rattle.kl_script.specs.Words.{HasNo, IsNumber}
use Rattle.kl_script.specs.declared.command.RegistrarCommand.{RegistrarCommand}
use Rattle.kl_script.specs.declared.command.RegistrarCommand.TheVariants.{Register, Activate, Record, Records, Forget}
use Rattle.kl_script.specs.Commands.{VerifierCommandFields, add, replace, reactivate, stop, remove, now, begin, reply, state, lose, pick, release, settle, notice, noticed}
use Rattle.kl_script.specs.Commands.{SpellsAdd, SpellsReplace, SpellsAgent, SpellsBegin, SpellsReply, SpellsSettle, SpellsRegister, SpellsActivate}
use Rattle.kl_script.specs.Commands.{IsBlank, IsNamed, HasVerifierForm, HasRegistrarForm}
use Rattle.kl_script.proofs.Splitting.{heads, same_word, no_word}

-- what is named so
abbrev pub name_of_verifier : VerifierCommandFields → List ℕ
name_of_verifier (add a) = codes "add"
name_of_verifier (replace r) = codes "replace"
name_of_verifier (reactivate a) = codes "reactivate"
name_of_verifier (stop a) = codes "stop"
name_of_verifier (remove a) = codes "remove"
name_of_verifier (now t) = codes "now"
name_of_verifier (begin b) = codes "begin"
name_of_verifier (reply r) = codes "reply"
name_of_verifier (state a) = codes "state"
name_of_verifier (lose p) = codes "lose"
name_of_verifier pick = codes "pick"
name_of_verifier (release a) = codes "release"
name_of_verifier (settle s) = codes "settle"
name_of_verifier notice = codes "notice"
name_of_verifier (noticed n) = codes "noticed"

abbrev pub name_of_registrar : RegistrarCommand → List ℕ
name_of_registrar (Register r) = codes "register"
name_of_registrar (Activate a) = codes "activate"
name_of_registrar (Record a) = codes "record"
name_of_registrar Records = codes "records"
name_of_registrar (Forget a) = codes "forget"

-- what stands behind the name
abbrev pub VerifierArguments : List ℕ → VerifierCommandFields → Type 0
VerifierArguments arguments (add a) = SpellsAdd arguments a
VerifierArguments arguments (replace r) = SpellsReplace arguments r
VerifierArguments arguments (reactivate a) = SpellsAgent arguments a
VerifierArguments arguments (stop a) = SpellsAgent arguments a
VerifierArguments arguments (remove a) = SpellsAgent arguments a
VerifierArguments arguments (now t) = IsNumber arguments t
VerifierArguments arguments (begin b) = SpellsBegin arguments b
VerifierArguments arguments (reply r) = SpellsReply arguments r
VerifierArguments arguments (state a) = SpellsAgent arguments a
VerifierArguments arguments (lose p) = IsNumber arguments p
VerifierArguments arguments pick = ⊥
VerifierArguments arguments (release a) = SpellsAgent arguments a
VerifierArguments arguments (settle s) = SpellsSettle arguments s
VerifierArguments arguments notice = ⊥
VerifierArguments arguments (noticed n) = IsNumber arguments n

abbrev pub RegistrarArguments : List ℕ → RegistrarCommand → Type 0
RegistrarArguments arguments (Register r) = SpellsRegister arguments r
RegistrarArguments arguments (Activate a) = SpellsActivate arguments a
RegistrarArguments arguments (Record a) = SpellsAgent arguments a
RegistrarArguments arguments Records = ⊥
RegistrarArguments arguments (Forget a) = SpellsAgent arguments a

-- ---- a name and its arguments

no_space_from_test : (text : List ℕ) → list_all (λ b. not (b == 32)) text ≡ true → HasNo 32 text
no_space_from_test text passes i lt e =
    let other : not (32 == 32) ≡ true = subst (λ (b : ℕ). not (b == 32) ≡ true) e (AllPass-from_list_all (λ b. not (b == 32)) text passes i 0 lt) in
    false≢true other

pub verifier_is_plain : (said : VerifierCommandFields) → HasNo 32 (name_of_verifier said)
verifier_is_plain (add a) = no_space_from_test (codes "add") refl
verifier_is_plain said = no_space_from_test (name_of_verifier said) refl

pub registrar_is_plain : (said : RegistrarCommand) → HasNo 32 (name_of_registrar said)
registrar_is_plain Records = no_space_from_test (codes "records") refl
registrar_is_plain said = no_space_from_test (name_of_registrar said) refl

pub pick_has_no_space : HasNo 32 (codes "pick")
pick_has_no_space = no_space_from_test (codes "pick") refl

pub notice_has_no_space : HasNo 32 (codes "notice")
notice_has_no_space = no_space_from_test (codes "notice") refl

-- the lines to the verifier that are a word alone are `pick` and `notice`
pub named_verifier : (line : List ℕ) (said : VerifierCommandFields) → ¬ (HasNo 32 line) → HasVerifierForm line said
    → IsNamed line (name_of_verifier said) (λ arguments. VerifierArguments arguments said)
named_verifier line pick spaced h = absurd (spaced (subst (HasNo 32) (sym h) pick_has_no_space))
named_verifier line notice spaced h = absurd (spaced (subst (HasNo 32) (sym h) notice_has_no_space))
named_verifier line said spaced h = h

-- the one line to the registrar that is a word alone is `records`
pub named_registrar : (line : List ℕ) (said : RegistrarCommand) → line ≢ codes "records" → HasRegistrarForm line said
    → IsNamed line (name_of_registrar said) (λ arguments. RegistrarArguments arguments said)
named_registrar line Records other h = absurd (other h)
named_registrar line said other h = h

pub records_have_no_space : HasNo 32 (codes "records")
records_have_no_space = no_space_from_test (codes "records") refl

pub no_verifier_word : (line : List ℕ) → HasNo 32 line → line ≢ codes "pick" → line ≢ codes "notice" → (said : VerifierCommandFields)
    → ¬ (HasVerifierForm line said)
no_verifier_word line free no_pick no_notice pick h = no_pick h
no_verifier_word line free no_pick no_notice notice h = no_notice h
no_verifier_word line free no_pick no_notice said h = no_word 32 line (name_of_verifier said) h.0 free h.1

pub no_registrar_word : (line : List ℕ) → HasNo 32 line → line ≢ codes "records" → (said : RegistrarCommand) → ¬ (HasRegistrarForm line said)
no_registrar_word line free other said h =
    let form = named_registrar line said other h in
    no_word 32 line (name_of_registrar said) form.0 free form.1

-- a line is cut so
abbrev pub IsCutAtName : List ℕ → List ℕ → List ℕ → Type 0
IsCutAtName line name arguments = (line ≡ name ++ 32 ∷ arguments) × HasNo 32 name

same_name : {line name : List ℕ} (title arguments : List ℕ) (Spelled : List ℕ → Type 0) → IsCutAtName line name arguments → HasNo 32 title
    → IsNamed line title Spelled → (name ≡ title) × Spelled arguments
same_name {line} {name} title arguments Spelled cut plain form =
    let same = same_word 32 name title arguments form.0 cut.1 plain (sym cut.0 ∙ form.1) in
    (same.0, subst Spelled (sym same.1) form.2)

-- a line that is cut has a space
cut_has_space : {line : List ℕ} (name arguments : List ℕ) → IsCutAtName line name arguments → ¬ (HasNo 32 line)
cut_has_space {line} name arguments cut free = no_word 32 line name arguments free cut.0

pub verifier_so : {line name : List ℕ} (arguments : List ℕ) → IsCutAtName line name arguments
    → (said : VerifierCommandFields) → HasVerifierForm line said → (name ≡ name_of_verifier said) × VerifierArguments arguments said
verifier_so {line} {name} arguments cut said h =
    same_name (name_of_verifier said) arguments (λ a. VerifierArguments a said) cut (verifier_is_plain said)
    (named_verifier line said (cut_has_space name arguments cut) h)

-- a line that is cut is no word alone
pub cut_is_no_word : {line : List ℕ} (name arguments : List ℕ) → IsCutAtName line name arguments → line ≢ codes "records"
cut_is_no_word {line} name arguments cut word = cut_has_space name arguments cut (subst (HasNo 32) (sym word) records_have_no_space)

pub registrar_so : {line name : List ℕ} (arguments : List ℕ) → IsCutAtName line name arguments
    → (said : RegistrarCommand) → HasRegistrarForm line said → (name ≡ name_of_registrar said) × RegistrarArguments arguments said
registrar_so {line} {name} arguments cut said h =
    let other = cut_is_no_word name arguments cut in
    same_name (name_of_registrar said) arguments (λ a. RegistrarArguments a said) cut (registrar_is_plain said) (named_registrar line said other h)

-- ---- a line that asks for something is not blank

starts_named : (name arguments : List ℕ) → get_or name 0 0 ≢ 35 → ¬ (IsBlank (name ++ 32 ∷ arguments))
starts_named [] arguments ne (inl e) = absurd cc
starts_named [] arguments ne (inr (comment, e)) = absurd (omega (arith, heads e))
starts_named (x ∷ xs) arguments ne (inl e) = absurd cc
starts_named (x ∷ xs) arguments ne (inr (comment, e)) = ne (heads e)

pick_not_blank : ¬ (IsBlank (codes "pick"))
pick_not_blank (inl e) = absurd cc
pick_not_blank (inr (comment, e)) = absurd (omega (arith, heads e))

notice_not_blank : ¬ (IsBlank (codes "notice"))
notice_not_blank (inl e) = absurd cc
notice_not_blank (inr (comment, e)) = absurd (omega (arith, heads e))

pub verifier_not_blank : (line : List ℕ) (said : VerifierCommandFields) → HasVerifierForm line said → ¬ (IsBlank line)
verifier_not_blank line pick h = subst (λ (l : List ℕ). ¬ (IsBlank l)) (sym h) pick_not_blank
verifier_not_blank line notice h = subst (λ (l : List ℕ). ¬ (IsBlank l)) (sym h) notice_not_blank
verifier_not_blank line said h =
    subst (λ (l : List ℕ). ¬ (IsBlank l)) (sym h.1) (starts_named (name_of_verifier said) h.0 (eqb-false (get_or (name_of_verifier said) 0 0) 35 refl))

records_not_blank : ¬ (IsBlank (codes "records"))
records_not_blank (inl e) = absurd cc
records_not_blank (inr (comment, e)) = absurd (omega (arith, heads e))

pub registrar_not_blank : (line : List ℕ) (said : RegistrarCommand) → HasRegistrarForm line said → ¬ (IsBlank line)
registrar_not_blank line Records h = subst (λ (l : List ℕ). ¬ (IsBlank l)) (sym h) records_not_blank
registrar_not_blank line said h =
    subst (λ (l : List ℕ). ¬ (IsBlank l)) (sym h.1) (starts_named (name_of_registrar said) h.0 (eqb-false (get_or (name_of_registrar said) 0 0) 35 refl))

-- ---- a name names one command

-- no two names have bytes of one sum
pub other : {A : Type 0} {xs ys : List ℕ} → (sum xs == sum ys) ≡ false → xs ≡ ys → A
other {A} {xs} {ys} differ e = absurd (eqb-false (sum xs) (sum ys) differ (ap sum e))

-- a name of the one is none of the other
not_register : {A : Type 0} (c : VerifierCommandFields) → name_of_verifier c ≡ codes "register" → A
not_register (add a) e = other refl e
not_register c e = other refl e

not_activate : {A : Type 0} (c : VerifierCommandFields) → name_of_verifier c ≡ codes "activate" → A
not_activate (add a) e = other refl e
not_activate c e = other refl e

not_record : {A : Type 0} (c : VerifierCommandFields) → name_of_verifier c ≡ codes "record" → A
not_record (add a) e = other refl e
not_record c e = other refl e

not_records : {A : Type 0} (c : VerifierCommandFields) → name_of_verifier c ≡ codes "records" → A
not_records (add a) e = other refl e
not_records c e = other refl e

not_forget : {A : Type 0} (c : VerifierCommandFields) → name_of_verifier c ≡ codes "forget" → A
not_forget (add a) e = other refl e
not_forget c e = other refl e

pub apart : {A : Type 0} (c : VerifierCommandFields) (d : RegistrarCommand) → name_of_verifier c ≡ name_of_registrar d → A
apart c (Register r) e = not_register c e
apart c (Activate a) e = not_activate c e
apart c (Record a) e = not_record c e
apart c Records e = not_records c e
apart c (Forget a) e = not_forget c e

-- what is named so is such a command
abbrev pub VerifierNames : {X : Type 0} → List ℕ → (X → VerifierCommandFields) → (List ℕ → X → Type 0) → Type 0
VerifierNames {X} name made Spelled =
    (arguments : List ℕ) (said : VerifierCommandFields) → name ≡ name_of_verifier said → VerifierArguments arguments said
    → (x : X) × (made x ≡ said) × Spelled arguments x

pub is_add : VerifierNames (codes "add") (λ a. add a) SpellsAdd
is_add arguments (add a) e h = (a, refl, h)
is_add arguments said e h = other refl e

pub is_replace : VerifierNames (codes "replace") (λ r. replace r) SpellsReplace
is_replace arguments (replace r) e h = (r, refl, h)
is_replace arguments said e h = other refl e

pub is_reactivate : VerifierNames (codes "reactivate") (λ a. reactivate a) SpellsAgent
is_reactivate arguments (reactivate a) e h = (a, refl, h)
is_reactivate arguments said e h = other refl e

pub is_stop : VerifierNames (codes "stop") (λ a. stop a) SpellsAgent
is_stop arguments (stop a) e h = (a, refl, h)
is_stop arguments said e h = other refl e

pub is_remove : VerifierNames (codes "remove") (λ a. remove a) SpellsAgent
is_remove arguments (remove a) e h = (a, refl, h)
is_remove arguments said e h = other refl e

pub is_now : VerifierNames (codes "now") (λ t. now t) IsNumber
is_now arguments (now t) e h = (t, refl, h)
is_now arguments said e h = other refl e

pub is_begin : VerifierNames (codes "begin") (λ b. begin b) SpellsBegin
is_begin arguments (begin b) e h = (b, refl, h)
is_begin arguments said e h = other refl e

pub is_reply : VerifierNames (codes "reply") (λ r. reply r) SpellsReply
is_reply arguments (reply r) e h = (r, refl, h)
is_reply arguments said e h = other refl e

pub is_state : VerifierNames (codes "state") (λ a. state a) SpellsAgent
is_state arguments (state a) e h = (a, refl, h)
is_state arguments said e h = other refl e

pub is_lose : VerifierNames (codes "lose") (λ p. lose p) IsNumber
is_lose arguments (lose p) e h = (p, refl, h)
is_lose arguments said e h = other refl e

pub is_release : VerifierNames (codes "release") (λ a. release a) SpellsAgent
is_release arguments (release a) e h = (a, refl, h)
is_release arguments said e h = other refl e

pub is_settle : VerifierNames (codes "settle") (λ s. settle s) SpellsSettle
is_settle arguments (settle s) e h = (s, refl, h)
is_settle arguments said e h = other refl e

pub is_noticed : VerifierNames (codes "noticed") (λ n. noticed n) IsNumber
is_noticed arguments (noticed n) e h = (n, refl, h)
is_noticed arguments said e h = other refl e

-- what is named so spells no command that has arguments
pub no_verifier_name : {name : List ℕ} → name ≢ codes "add" → name ≢ codes "replace" → name ≢ codes "reactivate" → name ≢ codes "stop"
    → name ≢ codes "remove" → name ≢ codes "now" → name ≢ codes "begin" → name ≢ codes "reply" → name ≢ codes "state"
    → name ≢ codes "lose" → name ≢ codes "release" → name ≢ codes "settle" → name ≢ codes "noticed"
    → (arguments : List ℕ) (said : VerifierCommandFields) → name ≡ name_of_verifier said → ¬ (VerifierArguments arguments said)
no_verifier_name a b c d e f g h i j k l m arguments (add x) is s = a is
no_verifier_name a b c d e f g h i j k l m arguments (replace x) is s = b is
no_verifier_name a b c d e f g h i j k l m arguments (reactivate x) is s = c is
no_verifier_name a b c d e f g h i j k l m arguments (stop x) is s = d is
no_verifier_name a b c d e f g h i j k l m arguments (remove x) is s = e is
no_verifier_name a b c d e f g h i j k l m arguments (now x) is s = f is
no_verifier_name a b c d e f g h i j k l m arguments (begin x) is s = g is
no_verifier_name a b c d e f g h i j k l m arguments (reply x) is s = h is
no_verifier_name a b c d e f g h i j k l m arguments (state x) is s = i is
no_verifier_name a b c d e f g h i j k l m arguments (lose x) is s = j is
no_verifier_name a b c d e f g h i j k l m arguments pick is s = s
no_verifier_name a b c d e f g h i j k l m arguments (release x) is s = k is
no_verifier_name a b c d e f g h i j k l m arguments (settle x) is s = l is
no_verifier_name a b c d e f g h i j k l m arguments notice is s = s
no_verifier_name a b c d e f g h i j k l m arguments (noticed x) is s = m is

abbrev pub RegistrarNames : {X : Type 0} → List ℕ → (X → RegistrarCommand) → (List ℕ → X → Type 0) → Type 0
RegistrarNames {X} name made Spelled =
    (arguments : List ℕ) (said : RegistrarCommand) → name ≡ name_of_registrar said → RegistrarArguments arguments said
    → (x : X) × (made x ≡ said) × Spelled arguments x

pub is_register : RegistrarNames (codes "register") (λ r. Register r) SpellsRegister
is_register arguments (Register r) e h = (r, refl, h)
is_register arguments said e h = other refl e

pub is_activate : RegistrarNames (codes "activate") (λ a. Activate a) SpellsActivate
is_activate arguments (Activate a) e h = (a, refl, h)
is_activate arguments said e h = other refl e

pub is_record : RegistrarNames (codes "record") (λ a. Record a) SpellsAgent
is_record arguments (Record a) e h = (a, refl, h)
is_record arguments said e h = other refl e

pub is_forget : RegistrarNames (codes "forget") (λ a. Forget a) SpellsAgent
is_forget arguments (Forget a) e h = (a, refl, h)
is_forget arguments said e h = other refl e

pub no_registrar_name : {name : List ℕ} → name ≢ codes "register" → name ≢ codes "activate" → name ≢ codes "record" → name ≢ codes "forget"
    → (arguments : List ℕ) (said : RegistrarCommand) → name ≡ name_of_registrar said → ¬ (RegistrarArguments arguments said)
no_registrar_name a b c d arguments (Register x) is s = a is
no_registrar_name a b c d arguments (Activate x) is s = b is
no_registrar_name a b c d arguments (Record x) is s = c is
no_registrar_name a b c d arguments Records is s = s
no_registrar_name a b c d arguments (Forget x) is s = d is

-- where what stands behind a name spells no such command, the line spells none
pub unread : {C X : Type 0} {Form Arguments : C → Type 0} {title : C → List ℕ} {word name : List ℕ} {made : X → C} {Spelled : X → Type 0}
    → ((said : C) → Form said → (name ≡ title said) × Arguments said)
    → ((said : C) → word ≡ title said → Arguments said → (x : X) × (made x ≡ said) × Spelled x)
    → name ≡ word → ((x : X) → ¬ (Spelled x)) → (said : C) → ¬ (Form said)
unread so is same none said form =
    let named = so said form in
    let found = is said (sym same ∙ named.0) named.1 in
    none found.0 found.2
