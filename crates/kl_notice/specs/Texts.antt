-- The text of a notice: one JSON object without spaces, its members in the order of their names. No byte of it wants
-- an escape, since an agent's name and a verdict's text have none that does.
use Rattle.std.specs.Prelude.{ℕ, List, ◌++◌, codes, decimal}
use Rattle.kl_states.specs.Texts.{verdict_text}
use Rattle.kl_notice.specs.declared.notice.FailWhy.{FailWhy}
use Rattle.kl_notice.specs.declared.notice.FailWhy.TheVariants.{Verdict, Losses, Undelivered}
use Rattle.kl_notice.specs.declared.notice.Notice.{Notice}

abbrev pub why_text : FailWhy → List ℕ
why_text (Verdict verdict) = verdict_text verdict
why_text Losses = codes "losses"
why_text Undelivered = codes "undelivered"

abbrev pub notice_text : Notice → List ℕ
notice_text n =
    codes "{\"agent\":\"" ++ n.agent
    ++ codes "\",\"generation\":" ++ decimal n.generation
    ++ codes ",\"notice\":" ++ decimal n.number
    ++ codes ",\"type\":\"revocation\",\"why\":\"" ++ why_text n.why
    ++ codes "\"}"
