-- The words that a line was cut into, one by one, and what they spell.
use Rattle.std.proofs.Common.{◌≡◌, ℕ, zero, suc, ◌≤◌, List, [], ◌∷◌, length, get_or, map, refl, sym, ap, subst, ◌∙◌, arith, length-append}
use Rattle.std.proofs.Math.ListN.{get_or-map}
use Rattle.std.proofs.lemmas.List.{length-map}
use denote.Ref.{Bor}
use Rattle.kl_bank.specs.Banks.{name_of}
use Rattle.kl_quote.specs.Size.{total_bytes}
use Rattle.kl_script.specs.Words.{IsEscaped, IsField, IsNumber, IsSplit}
use Rattle.kl_script.specs.Digits.{IsKey, IsMask, IsShare}
use Rattle.kl_script.specs.Statics.{IsStatics}
use Rattle.kl_script.specs.declared.command.Activate.{Activate}
use Rattle.kl_script.specs.declared.command.Add.{Add}
use Rattle.kl_script.specs.declared.command.Register.{Register}
use Rattle.kl_script.specs.declared.command.Replace.{Replace}
use Rattle.kl_script.specs.Commands.{ReplyFields, SpellsActivate, SpellsAdd, SpellsAgent, SpellsRegister, SpellsReplace, SpellsReply, kind_word}
use Rattle.kl_script.proofs.Splitting.{IsSplit-same}
use Rattle.kl_script.proofs.Escapes.{length-escaped}
use Rattle.kl_script.proofs.Fields.{length-field}

abbrev nothing : Bor (List ℕ)
nothing = record { ref_ptr = (0, 0); now = [] }

abbrev pub bytes_of : Bor (List ℕ) → List ℕ
bytes_of w = w.now

-- the word at a place
abbrev pub word : List (Bor (List ℕ)) → ℕ → List ℕ
word items i = (get_or items i nothing).now

-- so many places, from one on
abbrev places : ℕ → ℕ → List ℕ
places from zero = []
places from (suc count) = from ∷ places (suc from) count

-- the words at the first places
abbrev pub first_words : List (Bor (List ℕ)) → ℕ → List (List ℕ)
first_words items count = map (word items) (places 0 count)

first_words-cons : (x : Bor (List ℕ)) (items : List (Bor (List ℕ))) (from count : ℕ)
    → map (word (x ∷ items)) (places (suc from) count) ≡ map (word items) (places from count)
first_words-cons x items from zero = refl
first_words-cons x items from (suc count) = ap (λ (ws : List (List ℕ)). word items from ∷ ws) (first_words-cons x items (suc from) count)

first_words-all : (items : List (Bor (List ℕ))) → map bytes_of items ≡ first_words items (length items)
first_words-all [] = refl
first_words-all (x ∷ items) = ap (λ (ws : List (List ℕ)). x.now ∷ ws) (first_words-all items ∙ sym (first_words-cons x items 0 (length items)))

-- a split into words, word by word
pub split_of : {arguments rest : List ℕ} {count : ℕ} {words items : List (Bor (List ℕ))}
    → items ≡ words → IsSplit arguments count (map bytes_of words) rest → IsSplit arguments count (first_words items count) rest
split_of {arguments} {rest} {count} {words} {items} e s =
    let some : length items ≡ count = sym (length-map items bytes_of) ∙ ap (λ (ws : List (Bor (List ℕ))). length (map bytes_of ws)) e ∙ s.counted in
    let all : map bytes_of words ≡ first_words items count = ap (map bytes_of) (sym e) ∙ first_words-all items ∙ ap (first_words items) some in
    subst (λ (ws : List (List ℕ)). IsSplit arguments count ws rest) all s

-- where the words are these, the one at a place spells what that one of these spells
module _ (items : List (Bor (List ℕ))) (expected : List (List ℕ)) (same : map bytes_of items ≡ expected) where
  word_at : (i : ℕ) → word items i ≡ get_or expected i []
  word_at i = sym (get_or-map bytes_of items i nothing) ∙ ap (λ (ws : List (List ℕ)). get_or ws i []) same

  spelled_at : {X : Type 0} (Spells : List ℕ → X → Type 0) (i : ℕ) (x : X) → Spells (get_or expected i []) x → Spells (word items i) x
  spelled_at {X} Spells i x = subst (λ (w : List ℕ). Spells w x) (sym (word_at i))

-- ---- an add

-- the words and the rest spell its parts
pub record AreAddWords (items : List (Bor (List ℕ))) (rest : List ℕ) (said : Add) : Type 0 where
  pub agent : SpellsAgent (word items 0) said.agent
  pub contact : IsField (word items 1) said.contact
  pub bank : word items 2 ≡ name_of said.bank
  pub mask : IsMask (word items 3) said.mask
  pub statics : IsStatics (word items 4) said.statics
  pub ak : IsKey (word items 5) said.ak
  pub v : IsShare (word items 6) said.v
  pub kind : word items 7 ≡ kind_word said.kind
  pub policy : IsEscaped rest said.policy

pub add_words : {arguments rest : List ℕ} {words items : List (Bor (List ℕ))} (said : Add)
    → items ≡ words → IsSplit arguments 8 (map bytes_of words) rest → SpellsAdd arguments said → AreAddWords items rest said
add_words {arguments} {rest} {words} {items} said e split s =
    let expected : List (List ℕ) = said.agent ∷ s.contact ∷ name_of said.bank ∷ s.mask ∷ s.statics ∷ s.ak ∷ s.v ∷ kind_word said.kind ∷ [] in
    let same = IsSplit-same arguments 8 (map bytes_of words) expected rest s.policy split s.split in
    let here : map bytes_of items ≡ expected = ap (map bytes_of) e ∙ same.0 in record {
      agent = (word_at items expected here 0, s.is_agent);
      contact = spelled_at items expected here IsField 1 said.contact s.is_contact;
      bank = word_at items expected here 2;
      mask = spelled_at items expected here IsMask 3 said.mask s.is_mask;
      statics = spelled_at items expected here IsStatics 4 said.statics s.is_statics;
      ak = spelled_at items expected here IsKey 5 said.ak s.is_ak;
      v = spelled_at items expected here IsShare 6 said.v s.is_v;
      kind = word_at items expected here 7;
      policy = subst (λ (w : List ℕ). IsEscaped w said.policy) (sym same.1) s.is_policy;
    }

pub spells_add : {arguments rest : List ℕ} {words items : List (Bor (List ℕ))} (said : Add)
    → items ≡ words → IsSplit arguments 8 (map bytes_of words) rest → AreAddWords items rest said → SpellsAdd arguments said
spells_add {arguments} {rest} {words} {items} said e split w =
    let expected : List (List ℕ) =
    said.agent ∷ word items 1 ∷ name_of said.bank ∷ word items 3 ∷ word items 4 ∷ word items 5 ∷ word items 6 ∷ kind_word said.kind ∷ [] in
    let named : first_words items 8 ≡ expected = cc (w.agent.0, w.bank, w.kind) in record {
      contact = word items 1;
      mask = word items 3;
      statics = word items 4;
      ak = word items 5;
      v = word items 6;
      policy = rest;
      split = subst (λ (ws : List (List ℕ)). IsSplit arguments 8 ws rest) named (split_of e split);
      is_agent = w.agent.1;
      is_contact = w.contact;
      is_mask = w.mask;
      is_statics = w.statics;
      is_ak = w.ak;
      is_v = w.v;
      is_policy = w.policy;
    }

-- ---- a replace

pub record AreReplaceWords (items : List (Bor (List ℕ))) (rest : List ℕ) (said : Replace) : Type 0 where
  pub agent : SpellsAgent (word items 0) said.agent
  pub kind : word items 1 ≡ kind_word said.kind
  pub policy : IsEscaped rest said.policy

pub replace_words : {arguments rest : List ℕ} {words items : List (Bor (List ℕ))} (said : Replace)
    → items ≡ words → IsSplit arguments 2 (map bytes_of words) rest → SpellsReplace arguments said → AreReplaceWords items rest said
replace_words {arguments} {rest} {words} {items} said e split s =
    let expected : List (List ℕ) = said.agent ∷ kind_word said.kind ∷ [] in
    let same = IsSplit-same arguments 2 (map bytes_of words) expected rest s.policy split s.split in
    let here : map bytes_of items ≡ expected = ap (map bytes_of) e ∙ same.0 in record {
      agent = (word_at items expected here 0, s.is_agent);
      kind = word_at items expected here 1;
      policy = subst (λ (w : List ℕ). IsEscaped w said.policy) (sym same.1) s.is_policy;
    }

pub spells_replace : {arguments rest : List ℕ} {words items : List (Bor (List ℕ))} (said : Replace)
    → items ≡ words → IsSplit arguments 2 (map bytes_of words) rest → AreReplaceWords items rest said → SpellsReplace arguments said
spells_replace {arguments} {rest} {words} {items} said e split w =
    let named : first_words items 2 ≡ said.agent ∷ kind_word said.kind ∷ [] = cc (w.agent.0, w.kind) in record {
      policy = rest;
      split = subst (λ (ws : List (List ℕ)). IsSplit arguments 2 ws rest) named (split_of e split);
      is_agent = w.agent.1;
      is_policy = w.policy;
    }

-- ---- a reply

pub record AreReplyWords (items : List (Bor (List ℕ))) (rest : List ℕ) (said : ReplyFields) : Type 0 where
  pub poll : IsNumber (word items 0) said.poll
  pub bank : IsField (word items 1) said.bank
  pub start : IsNumber (word items 2) said.start
  pub public : IsField (word items 3) said.public
  pub quote : IsField (word items 4) said.quote
  pub list : IsEscaped rest said.list

pub reply_words : {arguments rest : List ℕ} {words items : List (Bor (List ℕ))} (said : ReplyFields)
    → items ≡ words → IsSplit arguments 5 (map bytes_of words) rest → SpellsReply arguments said → AreReplyWords items rest said
reply_words {arguments} {rest} {words} {items} said e split s =
    let expected : List (List ℕ) = s.poll ∷ s.bank ∷ s.start ∷ s.public ∷ s.quote ∷ [] in
    let same = IsSplit-same arguments 5 (map bytes_of words) expected rest s.list split s.split in
    let here : map bytes_of items ≡ expected = ap (map bytes_of) e ∙ same.0 in record {
      poll = spelled_at items expected here IsNumber 0 said.poll s.is_poll;
      bank = spelled_at items expected here IsField 1 said.bank s.is_bank;
      start = spelled_at items expected here IsNumber 2 said.start s.is_start;
      public = spelled_at items expected here IsField 3 said.public s.is_public;
      quote = spelled_at items expected here IsField 4 said.quote s.is_quote;
      list = subst (λ (w : List ℕ). IsEscaped w said.list) (sym same.1) s.is_list;
    }

pub spells_reply : {arguments rest : List ℕ} {words items : List (Bor (List ℕ))} (said : ReplyFields)
    → items ≡ words → IsSplit arguments 5 (map bytes_of words) rest → AreReplyWords items rest said → SpellsReply arguments said
spells_reply {arguments} {rest} {words} {items} said e split w =
    record {
      poll = word items 0;
      bank = word items 1;
      start = word items 2;
      public = word items 3;
      quote = word items 4;
      list = rest;
      split = split_of e split;
      is_poll = w.poll;
      is_bank = w.bank;
      is_start = w.start;
      is_public = w.public;
      is_quote = w.quote;
      is_list = w.list;
    }

-- the texts of a reply are no longer than what stands behind its name
pub reply_fits : {arguments : List ℕ} (said : ReplyFields) → SpellsReply arguments said
    → total_bytes said.bank said.public said.quote said.list ≤ length arguments
reply_fits {arguments} said s =
    let long = simp length-append at (ap length s.split.joined) in
    let bank = length-field s.bank said.bank s.is_bank in
    let public = length-field s.public said.public s.is_public in
    omega (arith, long, bank, public, length-field s.quote said.quote s.is_quote, length-escaped s.list said.list s.is_list)

-- ---- a register

pub record AreRegisterWords (items : List (Bor (List ℕ))) (rest : List ℕ) (said : Register) : Type 0 where
  pub agent : SpellsAgent (word items 0) said.agent
  pub ek : IsKey (word items 1) said.ek
  pub ak : IsKey (word items 2) said.ak
  pub contact : IsField rest said.contact

pub register_words : {arguments rest : List ℕ} {words items : List (Bor (List ℕ))} (said : Register)
    → items ≡ words → IsSplit arguments 3 (map bytes_of words) rest → SpellsRegister arguments said → AreRegisterWords items rest said
register_words {arguments} {rest} {words} {items} said e split s =
    let expected : List (List ℕ) = said.agent ∷ s.ek ∷ s.ak ∷ [] in
    let same = IsSplit-same arguments 3 (map bytes_of words) expected rest s.contact split s.split in
    let here : map bytes_of items ≡ expected = ap (map bytes_of) e ∙ same.0 in record {
      agent = (word_at items expected here 0, s.is_agent);
      ek = spelled_at items expected here IsKey 1 said.ek s.is_ek;
      ak = spelled_at items expected here IsKey 2 said.ak s.is_ak;
      contact = subst (λ (w : List ℕ). IsField w said.contact) (sym same.1) s.is_contact;
    }

pub spells_register : {arguments rest : List ℕ} {words items : List (Bor (List ℕ))} (said : Register)
    → items ≡ words → IsSplit arguments 3 (map bytes_of words) rest → AreRegisterWords items rest said → SpellsRegister arguments said
spells_register {arguments} {rest} {words} {items} said e split w =
    let named : first_words items 3 ≡ said.agent ∷ word items 1 ∷ word items 2 ∷ [] = cc w.agent.0 in record {
      ek = word items 1;
      ak = word items 2;
      contact = rest;
      split = subst (λ (ws : List (List ℕ)). IsSplit arguments 3 ws rest) named (split_of e split);
      is_agent = w.agent.1;
      is_ek = w.ek;
      is_ak = w.ak;
      is_contact = w.contact;
    }

-- ---- an activate

pub record AreActivateWords (items : List (Bor (List ℕ))) (rest : List ℕ) (said : Activate) : Type 0 where
  pub agent : SpellsAgent (word items 0) said.agent
  pub tag : IsField rest said.tag

pub activate_words : {arguments rest : List ℕ} {words items : List (Bor (List ℕ))} (said : Activate)
    → items ≡ words → IsSplit arguments 1 (map bytes_of words) rest → SpellsActivate arguments said → AreActivateWords items rest said
activate_words {arguments} {rest} {words} {items} said e split s =
    let expected : List (List ℕ) = said.agent ∷ [] in
    let same = IsSplit-same arguments 1 (map bytes_of words) expected rest s.tag split s.split in
    let here : map bytes_of items ≡ expected = ap (map bytes_of) e ∙ same.0 in record {
      agent = (word_at items expected here 0, s.is_agent);
      tag = subst (λ (w : List ℕ). IsField w said.tag) (sym same.1) s.is_tag;
    }

pub spells_activate : {arguments rest : List ℕ} {words items : List (Bor (List ℕ))} (said : Activate)
    → items ≡ words → IsSplit arguments 1 (map bytes_of words) rest → AreActivateWords items rest said → SpellsActivate arguments said
spells_activate {arguments} {rest} {words} {items} said e split w =
    let named : first_words items 1 ≡ said.agent ∷ [] = cc w.agent.0 in record {
      tag = rest;
      split = subst (λ (ws : List (List ℕ)). IsSplit arguments 1 ws rest) named (split_of e split);
      is_agent = w.agent.1;
      is_tag = w.tag;
    }
