-- What is looked back for, told in another way: by the last record that decides it, and by what came after that.
use Rattle.std.specs.Prelude.{◌≡◌, ◌↔◌, ℕ, Bool, true, false, ◌||◌, if◌then◌else◌, List, [], ◌∷◌, ◌++◌, count_by, Option, Some, None, option_and_then}
use Rattle.std.specs.List.{list_any}
use Rattle.kl_entry.specs.Entries.{EntryFields}
use Rattle.kl_quote.specs.declared.evidence.Evidence.{Evidence}
use Rattle.kl_states.specs.declared.outcome.Outcome.TheVariants as outcome
use Rattle.kl_states.specs.declared.verdict.Verdict.TheVariants.{Pass}
use Rattle.kl_appraise.specs.declared.judged.Boot.{Boot}
use Rattle.kl_history.specs.declared.record.Record.{Record}
use Rattle.kl_history.specs.declared.record.Record.TheVariants.{Install, Verdict, Restart, Lost, Release, Settled, Remove}
use Rattle.kl_history.specs.Records.{Past, begins, releases, is_install}
use Rattle.kl_history.specs.LookBacks.{Installed, installed, came, losses, missed, Passing, last_pass}
use Rattle.kl_history.specs.Accepted.{IsNothing, SignsBoot, IsPassOf, IsAccepted, WasAccepted}
use Rattle.kl_history.specs.States.{handed_for, PassedUnder, HasReached}
use Rattle.kl_history.specs.Legal.{is_add, is_remove}
use Rattle.kl_history.specs.Laws.{decides_anew, ReachesBy}

-- ---- The last record of a kind, what came before it, and what came after it

-- the last record of which this holds
abbrev pub last_of : (Record → Bool) → Past → Option Record
last_of is_so [] = None
last_of is_so (r ∷ earlier) = if is_so r then Some r else last_of is_so earlier

-- what came before it; nothing where there is no such record
abbrev pub ahead_of : (Record → Bool) → Past → Past
ahead_of is_so [] = []
ahead_of is_so (r ∷ earlier) = if is_so r then earlier else ahead_of is_so earlier

-- what came after it; all where there is no such record
abbrev pub since : (Record → Bool) → Past → Past
since is_so [] = []
since is_so (r ∷ earlier) = if is_so r then [] else r ∷ since is_so earlier

-- ---- What decides

-- whether an agent is installed
abbrev pub is_install_or_remove : Record → Bool
is_install_or_remove r = is_install r || is_remove r

-- what is accepted
abbrev pub decides_accepted : Record → Bool
decides_accepted (Install a g t w) = true
decides_accepted (Remove a) = true
decides_accepted (Restart p e s true) = true
decides_accepted (Verdict p e s (Pass cut) true) = true
decides_accepted _ = false

-- where missed deliveries are counted from
abbrev pub is_install_or_arrival : Record → Bool
is_install_or_arrival (Install a g t w) = true
is_install_or_arrival (Settled n outcome.Arrived true) = true
is_install_or_arrival _ = false

-- ---- What it decides

-- what an Install installs
abbrev pub installed_by : Record → Option Installed
installed_by (Install a g t w) = Some (record { generation = g; terms = t })
installed_by _ = None

-- the poll that a pass closes
abbrev pub passing_of : Record → Option Passing
passing_of (Verdict p e s (Pass cut) c) = Some (record { poll = p; evidence = e })
passing_of _ = None

-- the poll for which a release was made
abbrev pub handed_by : Record → Option ℕ
handed_by (Release n a g p) = Some p
handed_by _ = None

-- a current loss
abbrev pub is_loss : Record → Bool
is_loss (Lost p w true) = true
is_loss _ = false

-- the current end of a delivery that was missed
abbrev pub is_miss : Record → Bool
is_miss (Settled n outcome.Missed true) = true
is_miss _ = false

-- what is accepted after a record that decides it, by what came before that: the whole list up to the cut of a pass, behind
-- what was accepted where its poll began; and else nothing
abbrev pub AcceptsAfter : Option Record → Past → List EntryFields → Boot → Type 0
AcceptsAfter (Some (Verdict p e s (Pass cut) c)) earlier entries boot =
    (prefix : List EntryFields) × (old : Boot) × IsAccepted (ahead_of (begins p) earlier) prefix old × IsPassOf prefix e cut entries boot
AcceptsAfter _ earlier entries boot = IsNothing entries boot

-- ---- The look-backs

-- the record stands among these, those before it behind it and those after it ahead
abbrev pub StandsAmid : Past → Record → Past → Past → Type 0
StandsAmid newer r older past = past ≡ newer ++ r ∷ older

pub record AreToldAgain (own : Past) : Type 0 where
  -- the last Install or Remove says whether an agent is installed, and under which terms
  pub installs : installed own ≡ option_and_then installed_by (last_of is_install_or_remove own)
  -- what came is looked for after the last Install
  pub comes : (is_so : Record → Bool) → came is_so own ≡ list_any is_so (since is_install own)
  -- losses are counted after the last of Install, current Verdict and current Restart
  pub loses : losses own ≡ count_by is_loss (since decides_anew own)
  -- missed deliveries are counted after the last of Install and current arrival
  pub misses : missed own ≡ count_by is_miss (since is_install_or_arrival own)
  -- the last of Install, current Verdict and current Restart is a pass, or there is none
  pub passes : last_pass own ≡ option_and_then passing_of (last_of decides_anew own)
  -- the last of Install, Remove, current Restart and current Pass says what is accepted
  pub accepts : (entries : List EntryFields) (boot : Boot)
      → IsAccepted own entries boot ↔ AcceptsAfter (last_of decides_accepted own) (ahead_of decides_accepted own) entries boot
  -- and what was accepted when a poll began is what was before its Begin
  pub accepted : (p : ℕ) (entries : List EntryFields) (boot : Boot) → WasAccepted p own entries boot ↔ IsAccepted (ahead_of (begins p) own) entries boot
  -- a release counts that was made after the last Install by Add
  pub hands : (n : ℕ) → handed_for n own ≡ option_and_then handed_by (last_of (releases n) (since is_add own))
  -- a poll passed under the boot that the quote of one of its passes signs
  pub signs : (p : ℕ) (boot : Boot) → PassedUnder p own boot
      ↔ ((newer older : Past) × (e : Evidence) × (s : Bool) × (cut : ℕ) × (c : Bool) × StandsAmid newer (Verdict p e s (Pass cut) c) older own × SignsBoot e boot)
  -- V reached a boot by an arrival after the last Install by Add, current or not, of a release that was made for such a pass
  pub reaches : (boot : Boot) → HasReached own boot
      ↔ ((newer older : Past) × (n : ℕ) × (c : Bool) × StandsAmid newer (Settled n outcome.Arrived c) older own × (list_any is_add newer ≡ false) × ReachesBy n older boot)
