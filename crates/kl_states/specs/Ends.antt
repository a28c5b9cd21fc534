-- The texts of how a poll or a delivery ends that gives no verdict.
use Rattle.std.specs.Prelude.{ℕ, List, ◌++◌, codes, decimal}
use Rattle.kl_states.specs.declared.outcome.LostWhy.{LostWhy}
use Rattle.kl_states.specs.declared.outcome.LostWhy.TheVariants as lost
use Rattle.kl_states.specs.declared.outcome.DropWhy.{DropWhy}
use Rattle.kl_states.specs.declared.outcome.DropWhy.TheVariants as dropped
use Rattle.kl_states.specs.declared.outcome.Outcome.{Outcome}
use Rattle.kl_states.specs.declared.outcome.Outcome.TheVariants.{Arrived, Missed, Withdrawn}

abbrev pub lost_text : LostWhy → List ℕ
lost_text lost.Link = codes "link"
lost_text lost.Named = codes "named"
lost_text lost.Ended = codes "ended"
lost_text lost.Head = codes "head"
lost_text lost.Length = codes "length"
lost_text lost.Chunked = codes "chunked"
lost_text (lost.Status code) = codes "status " ++ decimal code
lost_text lost.Body = codes "body"
lost_text lost.TooLong = codes "toolong"

abbrev pub drop_text : DropWhy → List ℕ
drop_text dropped.Keys = codes "keys"
drop_text dropped.Memory = codes "memory"
drop_text dropped.End = codes "end"

abbrev pub outcome_text : Outcome → List ℕ
outcome_text Arrived = codes "arrived"
outcome_text Missed = codes "missed"
outcome_text (Withdrawn why) = codes "withdrawn-" ++ drop_text why
