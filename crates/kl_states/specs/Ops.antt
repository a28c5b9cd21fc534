-- The operational states of an agent: Keylime's numbers and names, and in which of them it is live.
use Rattle.std.specs.Prelude.{ℕ, Bool, true, false, List, codes}
use Rattle.kl_states.specs.declared.op.Op.{Op}
use Rattle.kl_states.specs.declared.op.Op.TheVariants.{Registered, Start, Saved, GetQuote, GetQuoteRetry, ProvideV, ProvideVRetry, Failed, Terminated, InvalidQuote, TenantFailed}

abbrev pub number_of : Op → ℕ
number_of Registered = 0
number_of Start = 1
number_of Saved = 2
number_of GetQuote = 3
number_of GetQuoteRetry = 4
number_of ProvideV = 5
number_of ProvideVRetry = 6
number_of Failed = 7
number_of Terminated = 8
number_of InvalidQuote = 9
number_of TenantFailed = 10

abbrev pub name_of : Op → List ℕ
name_of Registered = codes "REGISTERED"
name_of Start = codes "START"
name_of Saved = codes "SAVED"
name_of GetQuote = codes "GET_QUOTE"
name_of GetQuoteRetry = codes "GET_QUOTE_RETRY"
name_of ProvideV = codes "PROVIDE_V"
name_of ProvideVRetry = codes "PROVIDE_V_RETRY"
name_of Failed = codes "FAILED"
name_of Terminated = codes "TERMINATED"
name_of InvalidQuote = codes "INVALID_QUOTE"
name_of TenantFailed = codes "TENANT_FAILED"

-- an agent in this state is live: it is polled, or V is to be released to it
abbrev pub is_live : Op → Bool
is_live Start = true
is_live GetQuote = true
is_live GetQuoteRetry = true
is_live ProvideV = true
is_live ProvideVRetry = true
is_live _ = false

-- V is to be released to an agent in this state
abbrev pub is_owed : Op → Bool
is_owed ProvideV = true
is_owed ProvideVRetry = true
is_owed _ = false
