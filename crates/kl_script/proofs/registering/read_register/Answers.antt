use Rattle.std.proofs.Common.{sym, subst, List, ℕ}
use Rattle.kl_script.specs.Words.{IsField}
use Rattle.kl_script.proofs.Faults.{at_exit}
use Rattle.kl_script.proofs.Arguments.{register_words, spells_register}
use Rattle.kl_script.proofs.registering.read_register.Goals as goal

pub returns-in_err-words-clause-none : goal.returns-in_err-words-clause-none
returns-in_err-words-clause-none c = λ is said s. at_exit _ c.in_err-words.ensures.none _ c.from_residual.ensures.1 is _ s.contact s.split

pub returns-in_err-agent-clause-none : goal.returns-in_err-agent-clause-none
returns-in_err-agent-clause-none c = λ _ said s.
    c.in_err-agent.ensures.none said.agent (register_words said c.as_slice.ensures.value c.in_ok-words.ensures.found s).agent

pub returns-in_err-ek-clause-none : goal.returns-in_err-ek-clause-none
returns-in_err-ek-clause-none c = λ is said s.
    at_exit _ c.in_err-ek.ensures.none _ c.from_residual-in_err-ek.ensures.1 is said.ek
    (register_words said c.as_slice.ensures.value c.in_ok-words.ensures.found s).ek

pub returns-in_err-ak-clause-none : goal.returns-in_err-ak-clause-none
returns-in_err-ak-clause-none c = λ is said s.
    at_exit _ c.in_err-ak.ensures.none _ c.from_residual-in_err-ak.ensures.1 is said.ak
    (register_words said c.as_slice.ensures.value c.in_ok-words.ensures.found s).ak

pub returns-in_err-read_field-clause-none : goal.returns-in_err-read_field-clause-none
returns-in_err-read_field-clause-none c = λ is said s.
    at_exit _ c.in_err-read_field.ensures.none _ c.from_residual-in_err-read_field.ensures.1 is said.contact
    (register_words said c.as_slice.ensures.value c.in_ok-words.ensures.found s).contact

pub returns-clause-found : goal.returns-clause-found
returns-clause-found c = spells_register _ c.as_slice.ensures.value c.in_ok-words.ensures.found record {
  agent = c.in_ok-agent.ensures.found;
  ek = c.in_ok-ek.ensures.found;
  ak = c.in_ok-ak.ensures.found;
  contact = subst (λ (t : List ℕ). IsField c.in_ok-words.contact.now t) (sym c.new-contact.ensures) c.in_ok-read_field.ensures.found;
}
