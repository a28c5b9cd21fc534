use Rattle.std.proofs.Common.{sym, subst, List, ℕ}
use Rattle.kl_script.specs.Words.{IsField}
use Rattle.kl_script.proofs.Faults.{at_exit}
use Rattle.kl_script.proofs.Arguments.{activate_words, spells_activate}
use Rattle.kl_script.proofs.registering.read_activate.Goals as goal

pub returns-in_err-words-clause-none : goal.returns-in_err-words-clause-none
returns-in_err-words-clause-none c = λ is said s. at_exit _ c.in_err-words.ensures.none _ c.from_residual.ensures.1 is _ s.tag s.split

pub returns-in_err-agent-clause-none : goal.returns-in_err-agent-clause-none
returns-in_err-agent-clause-none c = λ _ said s.
    c.in_err-agent.ensures.none said.agent (activate_words said c.as_slice.ensures.value c.in_ok-words.ensures.found s).agent

pub returns-in_err-read_field-clause-none : goal.returns-in_err-read_field-clause-none
returns-in_err-read_field-clause-none c = λ is said s.
    at_exit _ c.in_err-read_field.ensures.none _ c.from_residual-in_err-read_field.ensures.1 is said.tag
    (activate_words said c.as_slice.ensures.value c.in_ok-words.ensures.found s).tag

pub returns-clause-found : goal.returns-clause-found
returns-clause-found c = spells_activate _ c.as_slice.ensures.value c.in_ok-words.ensures.found record {
  agent = c.in_ok-agent.ensures.found;
  tag = subst (λ (t : List ℕ). IsField c.in_ok-words.tag.now t) (sym c.new-tag.ensures) c.in_ok-read_field.ensures.found;
}
