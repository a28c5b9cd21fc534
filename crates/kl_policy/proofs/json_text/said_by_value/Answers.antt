-- The first cause is that of the part that is read first.
use Rattle.serde_json.specs.View.{view}
use Rattle.kl_policy.proofs.JsonFacts.{value_fault}
use Rattle.kl_policy.proofs.json_text.said_by_value.Goals as goal

pub returns-in-Err-rest-clause-fault : goal.returns-in-Err-rest-clause-fault
returns-in-Err-rest-clause-fault c = λ told.
    value_fault c.args.text.now (view c.in-Ok.value) told c.in-Ok.ensures.read c.in-Err-rest.fault (c.in-Err-rest.ensures.fault (c.in-Ok-digests_of.digests, c.in-Ok-digests_of.ensures.digests))
