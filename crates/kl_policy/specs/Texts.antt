-- The texts of a policy's faults, and of why a policy does not allow an entry. Numbers stand in decimal.
use Rattle.std.specs.Prelude.{ℕ, List, [], ◌++◌, codes, decimal}
use Rattle.kl_exclude.specs.Texts.{fault_text as exclude_text}
use Rattle.kl_exclude.specs.declared.fault.ExcludeFault.TheVariants.{Syntax, TooLarge, Memory as none_left}
use Rattle.kl_json.specs.Texts.{fault_text as json_text}
use Rattle.kl_json.specs.declared.fault.JsonFault.TheVariants.{NotJson, Missing, Kind, Range, Memory as no_memory}
use Rattle.kl_policy.specs.declared.fault.Limit.{Limit}
use Rattle.kl_policy.specs.declared.fault.Limit.TheVariants.{Paths, Patterns, PatternBytes}
use Rattle.kl_policy.specs.declared.fault.PolicyFault.{PolicyFault}
use Rattle.kl_policy.specs.declared.fault.PolicyFault.TheVariants.{Json, Line, BadDigest, Unsupported, Limit as Over, Exclude, Memory}
use Rattle.kl_policy.specs.declared.why.Why.{Why}
use Rattle.kl_policy.specs.declared.why.Why.TheVariants.{Violation, Inconsistent, Unknown, Digest}

abbrev pub limit_text : Limit → List ℕ
limit_text Paths = codes "more than 262144 paths"
limit_text Patterns = codes "more than 32 patterns"
limit_text PatternBytes = codes "a pattern of more than 512 bytes"

abbrev pub fault_text : PolicyFault → List ℕ
fault_text (Line number) = codes "line " ++ decimal number ++ codes " is no digest, two spaces and a path"
fault_text (Json fault) = codes "the policy: " ++ json_text fault
fault_text (BadDigest path place) = codes "digest " ++ decimal place ++ codes " of path " ++ decimal path ++ codes " is no digest"
fault_text (Unsupported name) = name.now ++ codes " is not supported"
fault_text (Over limit) = codes "the policy has " ++ limit_text limit
fault_text (Exclude fault) = codes "the policy: " ++ exclude_text fault
fault_text Memory = codes "out of memory"

-- ---- how a session names them

abbrev pub limit_name : Limit → List ℕ
limit_name Paths = codes "paths"
limit_name Patterns = codes "patterns"
limit_name PatternBytes = codes "patternbytes"

-- no byte for what is no fault of the text
abbrev pub named_text : PolicyFault → List ℕ
named_text (Json NotJson) = codes "notjson"
named_text (Json (Missing name)) = codes "missing " ++ name.now
named_text (Json (Kind name)) = codes "kind " ++ name.now
named_text (Json (Range name)) = []
named_text (Json no_memory) = []
named_text (Line place) = codes "line " ++ decimal place
named_text (BadDigest path place) = codes "digest " ++ decimal path ++ codes " " ++ decimal place
named_text (Unsupported name) = codes "unsupported " ++ name.now
named_text (Over limit) = codes "limit " ++ limit_name limit
named_text (Exclude (Syntax place)) = codes "syntax " ++ decimal place
named_text (Exclude (TooLarge place)) = codes "toolarge " ++ decimal place
named_text (Exclude none_left) = []
named_text Memory = []

-- ---- why a policy does not allow an entry

abbrev pub why_text : Why → List ℕ
why_text Violation = codes "a violation"
why_text Inconsistent = codes "the template hash is not that of the entry's data"
why_text Unknown = codes "no digest is known for the path"
why_text Digest = codes "the digest is none of those known for the path"
