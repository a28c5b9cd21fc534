use Rattle.std.proofs.Common.{None, Some, refl, lit<}
use Rattle.std.proofs.lemmas.Str.Pattern.{split_parts}
use Rattle.kl_script.proofs.Begins.{agent_has_no_space, IsCut-same, cut_of, nonce_of}
use Rattle.kl_script.proofs.verifying.read_begin.Goals as goal

pub returns-in_err-agent-clause-none : goal.returns-in_err-agent-clause-none
returns-in_err-agent-clause-none c = λ _ said s.
    let plain = rw c.in_default.is at (split_parts 32 c.args.arguments.now c.split_once.result c.split_once.ensures.cases (lit< tt)) in
    let same = IsCut-same _ c.args.arguments.now said.agent None said.nonce plain (agent_has_no_space said.agent s.is_agent)
    refl (cut_of _ _ said.nonce s.split) in
    c.in_err-agent.ensures.none said.agent (same.0, s.is_agent)

pub returns-in_err-agent-2-clause-none : goal.returns-in_err-agent-2-clause-none
returns-in_err-agent-2-clause-none c = λ _ said s.
    let parts = rw c.in-Some.is at (split_parts 32 c.args.arguments.now c.split_once.result c.split_once.ensures.cases (lit< tt)) in
    let same = IsCut-same _ c.in-Some.agent.now said.agent (Some c.in-Some.nonce.now) said.nonce parts.1
    (agent_has_no_space said.agent s.is_agent) parts.0 (cut_of _ _ said.nonce s.split) in
    c.in_err-agent-2.ensures.none said.agent (same.0, s.is_agent)

pub returns-in_err-read_nonce-clause-none : goal.returns-in_err-read_nonce-clause-none
returns-in_err-read_nonce-clause-none c = λ _ said s.
    let parts = rw c.in-Some.is at (split_parts 32 c.args.arguments.now c.split_once.result c.split_once.ensures.cases (lit< tt)) in
    let same = IsCut-same _ c.in-Some.agent.now said.agent (Some c.in-Some.nonce.now) said.nonce parts.1
    (agent_has_no_space said.agent s.is_agent) parts.0 (cut_of _ _ said.nonce s.split) in
    c.in_err-read_nonce.ensures.none (nonce_of _ said.agent c.in-Some.nonce.now said.nonce same.1 s.split)
