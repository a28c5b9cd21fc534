use Rattle.std.proofs.Common.{sym, subst, List, ℕ}
use Rattle.kl_script.specs.Words.{IsField, IsEscaped}
use Rattle.kl_script.proofs.Faults.{at_exit}
use Rattle.kl_script.proofs.Arguments.{word, add_words, spells_add}
use Rattle.kl_script.proofs.verifying.read_add.Goals as goal

pub returns-in_err-words-clause-none : goal.returns-in_err-words-clause-none
returns-in_err-words-clause-none c = λ is said s. at_exit _ c.in_err-words.ensures.none _ c.from_residual.ensures.1 is _ s.policy s.split

pub returns-in_err-agent-clause-none : goal.returns-in_err-agent-clause-none
returns-in_err-agent-clause-none c = λ _ said s.
    c.in_err-agent.ensures.none said.agent (add_words said c.as_slice.ensures.value c.in_ok-words.ensures.found s).agent

pub returns-in_default-from_name-clause-none : goal.returns-in_default-from_name-clause-none
returns-in_default-from_name-clause-none c = λ _ said s.
    c.in_default-from_name.ensures.none said.bank (add_words said c.as_slice.ensures.value c.in_ok-words.ensures.found s).bank

pub returns-in_default-read_mask-clause-none : goal.returns-in_default-read_mask-clause-none
returns-in_default-read_mask-clause-none c = λ _ said s.
    c.in_default-read_mask.ensures.none said.mask (add_words said c.as_slice.ensures.value c.in_ok-words.ensures.found s).mask

pub returns-in_default-read_kind-clause-none : goal.returns-in_default-read_kind-clause-none
returns-in_default-read_kind-clause-none c = λ _ said s.
    c.in_default-read_kind.ensures.none said.kind (add_words said c.as_slice.ensures.value c.in_ok-words.ensures.found s).kind

pub returns-in_err-read_field-clause-none : goal.returns-in_err-read_field-clause-none
returns-in_err-read_field-clause-none c = λ is said s.
    at_exit _ c.in_err-read_field.ensures.none _ c.from_residual-in_err-read_field.ensures.1 is said.contact
    (add_words said c.as_slice.ensures.value c.in_ok-words.ensures.found s).contact

pub returns-in_err-statics-clause-none : goal.returns-in_err-statics-clause-none
returns-in_err-statics-clause-none c = λ is said s.
    at_exit _ c.in_err-statics.ensures.none _ c.from_residual-in_err-statics.ensures.1 is said.statics
    (add_words said c.as_slice.ensures.value c.in_ok-words.ensures.found s).statics

pub returns-in_err-ak-clause-none : goal.returns-in_err-ak-clause-none
returns-in_err-ak-clause-none c = λ is said s.
    at_exit _ c.in_err-ak.ensures.none _ c.from_residual-in_err-ak.ensures.1 is said.ak
    (add_words said c.as_slice.ensures.value c.in_ok-words.ensures.found s).ak

pub returns-in_err-v-clause-none : goal.returns-in_err-v-clause-none
returns-in_err-v-clause-none c = λ is said s.
    at_exit _ c.in_err-v.ensures.none _ c.from_residual-in_err-v.ensures.1 is said.v
    (add_words said c.as_slice.ensures.value c.in_ok-words.ensures.found s).v

pub returns-in_err-unescape_rest-clause-none : goal.returns-in_err-unescape_rest-clause-none
returns-in_err-unescape_rest-clause-none c = λ is said s.
    at_exit _ c.in_err-unescape_rest.ensures.none _ c.from_residual-in_err-unescape_rest.ensures.1 is said.policy
    (add_words said c.as_slice.ensures.value c.in_ok-words.ensures.found s).policy

pub returns-clause-found : goal.returns-clause-found
returns-clause-found c = spells_add _ c.as_slice.ensures.value c.in_ok-words.ensures.found record {
  agent = c.in_ok-agent.ensures.found;
  contact = subst (λ (t : List ℕ). IsField (word c.as_slice.result.now 1) t) (sym c.new-contact.ensures) c.in_ok-read_field.ensures.found;
  bank = c.in-Some.ensures.found;
  mask = c.in-Some-read_mask.ensures.found;
  statics = c.in_ok-statics.ensures.found;
  ak = c.in_ok-ak.ensures.found;
  v = c.in_ok-v.ensures.found;
  kind = c.in-Some-read_kind.ensures.found;
  policy = subst (λ (t : List ℕ). IsEscaped c.in_ok-words.policy.now t) (sym c.new-policy.ensures) c.in_ok-unescape_rest.ensures.found;
}
