-- What a session asks of the outside.
use Rattle.std.specs.Prelude.{◌≡◌, ℕ}
use Rattle.kl_exclude.specs.Told.{MakerTold}
use Rattle.kl_io.specs.Told.{WordsTold}
use Rattle.kl_keys.specs.Told.{KeysTold}

-- what the objects that a session asks tell at a moment, and how many entries were measured by then
pub record Outside : Type 0 where
  pub keys : KeysTold
  pub words : WordsTold
  pub maker : MakerTold
  pub steps : ℕ

abbrev pub outside : KeysTold → WordsTold → MakerTold → ℕ → Outside
outside keys words maker steps = record { keys = keys; words = words; maker = maker; steps = steps }

-- all but what makes patterns was left as it was
pub record LeavesRest (o o' : Outside) : Type 0 where
  pub keys : o'.keys ≡ o.keys
  pub words : o'.words ≡ o.words
  pub steps : o'.steps ≡ o.steps
