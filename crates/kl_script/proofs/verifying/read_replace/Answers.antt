use Rattle.std.proofs.Common.{sym, subst, List, ℕ}
use Rattle.kl_script.specs.Words.{IsEscaped}
use Rattle.kl_script.proofs.Faults.{at_exit}
use Rattle.kl_script.proofs.Arguments.{replace_words, spells_replace}
use Rattle.kl_script.proofs.verifying.read_replace.Goals as goal

pub returns-in_err-words-clause-none : goal.returns-in_err-words-clause-none
returns-in_err-words-clause-none c = λ is said s. at_exit _ c.in_err-words.ensures.none _ c.from_residual.ensures.1 is _ s.policy s.split

pub returns-in_err-agent-clause-none : goal.returns-in_err-agent-clause-none
returns-in_err-agent-clause-none c = λ _ said s.
    c.in_err-agent.ensures.none said.agent (replace_words said c.as_slice.ensures.value c.in_ok-words.ensures.found s).agent

pub returns-in_default-read_kind-clause-none : goal.returns-in_default-read_kind-clause-none
returns-in_default-read_kind-clause-none c = λ _ said s.
    c.in_default-read_kind.ensures.none said.kind (replace_words said c.as_slice.ensures.value c.in_ok-words.ensures.found s).kind

pub returns-in_err-unescape_rest-clause-none : goal.returns-in_err-unescape_rest-clause-none
returns-in_err-unescape_rest-clause-none c = λ is said s.
    at_exit _ c.in_err-unescape_rest.ensures.none _ c.from_residual-in_err-unescape_rest.ensures.1 is said.policy
    (replace_words said c.as_slice.ensures.value c.in_ok-words.ensures.found s).policy

pub returns-clause-found : goal.returns-clause-found
returns-clause-found c = spells_replace _ c.as_slice.ensures.value c.in_ok-words.ensures.found record {
  agent = c.in_ok-agent.ensures.found;
  kind = c.in-Some.ensures.found;
  policy = subst (λ (t : List ℕ). IsEscaped c.in_ok-words.policy.now t) (sym c.new-policy.ensures) c.in_ok-unescape_rest.ensures.found;
}
