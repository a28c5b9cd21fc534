-- A history, and which of its records belong together.
use Rattle.std.specs.Prelude.{ℕ, ◌-◌, ◌==◌, Bool, true, false, not, ◌&&◌, ◌||◌, if◌then◌else◌, List, [], ◌∷◌, reverse, Option, Some, None, count_by}
use Rattle.std.specs.Option.{option_map_or}
use Rattle.std.specs.Str.{bytes_eq}
use Rattle.kl_appraise.specs.Terms.{TermsFields}
use Rattle.kl_history.specs.declared.record.Record.{Record}
use Rattle.kl_history.specs.declared.record.Record.TheVariants.{Install, Begin, Verdict, Restart, Lost, Dropped, Release, Settled, Stop, Remove}

-- A history is a list of records, the oldest first.
abbrev pub History : Type 0
History = List Record

-- What stands in a history is found by looking back from its newest record: a past is such records, the newest first.
abbrev pub Past : Type 0
Past = List Record

abbrev pub past_of : History → Past
past_of H = reverse H

-- ---- Polls

-- what the Begin of a poll names
pub record Beginning : Type 0 where
  pub agent : List ℕ
  pub generation : ℕ
  pub nonce : List ℕ
  pub at : ℕ
  pub from : ℕ

-- the Begin of a poll
abbrev pub start_of : Past → ℕ → Option Beginning
start_of [] p = None
start_of (Begin q a g n at from ∷ earlier) p =
    if p == q then Some (record { agent = a; generation = g; nonce = n; at = at; from = from }) else start_of earlier p
start_of (_ ∷ earlier) p = start_of earlier p

-- the record begins the poll
abbrev pub begins : ℕ → Record → Bool
begins p (Begin q a g n at from) = p == q
begins p _ = false

-- the record closes the poll
abbrev pub closes : ℕ → Record → Bool
closes p (Verdict q e s v c) = p == q
closes p (Restart q e s c) = p == q
closes p (Lost q w c) = p == q
closes p (Dropped q w) = p == q
closes p _ = false

-- the poll is open: it began, and no record closed it since
abbrev pub is_open : Past → ℕ → Bool
is_open [] p = false
is_open (r ∷ earlier) p = not (closes p r) && (begins p r || is_open earlier p)

-- ---- Releases

-- what a Release names
pub record Handing : Type 0 where
  pub agent : List ℕ
  pub generation : ℕ
  pub poll : ℕ

-- the Release of a number
abbrev pub handing_of : Past → ℕ → Option Handing
handing_of [] n = None
handing_of (Release m a g p ∷ earlier) n = if n == m then Some (record { agent = a; generation = g; poll = p }) else handing_of earlier n
handing_of (_ ∷ earlier) n = handing_of earlier n

-- the record releases the share of this number
abbrev pub releases : ℕ → Record → Bool
releases n (Release m a g p) = n == m
releases n _ = false

-- the record settles the release
abbrev pub settles : ℕ → Record → Bool
settles n (Settled m o c) = n == m
settles n _ = false

-- the release is open: it was made, and no record settled it since
abbrev pub is_unsettled : Past → ℕ → Bool
is_unsettled [] n = false
is_unsettled (r ∷ earlier) n = not (settles n r) && (releases n r || is_unsettled earlier n)

-- ---- Generations

-- the terms of the Install of a generation
abbrev pub terms_of : Past → ℕ → Option TermsFields
terms_of [] g = None
terms_of (Install a h t w ∷ earlier) g = if g == h then Some t else terms_of earlier g
terms_of (_ ∷ earlier) g = terms_of earlier g

-- ---- Agents

-- the poll, or the release, is the agent's
abbrev pub is_poll_of : Past → List ℕ → ℕ → Bool
is_poll_of past a p = option_map_or (λ (s : Beginning). bytes_eq a s.agent) (start_of past p) false

abbrev pub is_release_of : Past → List ℕ → ℕ → Bool
is_release_of past a n = option_map_or (λ (h : Handing). bytes_eq a h.agent) (handing_of past n) false

-- A record belongs to the agent that it names, or else to the agent of the poll or of the release that it names.
abbrev pub belongs : Past → List ℕ → Record → Bool
belongs earlier a (Install b g t w) = bytes_eq a b
belongs earlier a (Begin p b g n at from) = bytes_eq a b
belongs earlier a (Verdict p e s v c) = is_poll_of earlier a p
belongs earlier a (Restart p e s c) = is_poll_of earlier a p
belongs earlier a (Lost p w c) = is_poll_of earlier a p
belongs earlier a (Dropped p w) = is_poll_of earlier a p
belongs earlier a (Release n b g p) = bytes_eq a b
belongs earlier a (Settled n o c) = is_release_of earlier a n
belongs earlier a (Stop b) = bytes_eq a b
belongs earlier a (Remove b) = bytes_eq a b

-- the records that belong to an agent
abbrev pub own : Past → List ℕ → Past
own [] a = []
own (r ∷ earlier) a = if belongs earlier a r then r ∷ own earlier a else own earlier a

-- ---- Numbers drawn

abbrev pub is_install : Record → Bool
is_install (Install a g t w) = true
is_install _ = false

abbrev pub is_begin : Record → Bool
is_begin (Begin p a g n at from) = true
is_begin _ = false

abbrev pub is_close : Record → Bool
is_close (Verdict p e s v c) = true
is_close (Restart p e s c) = true
is_close (Lost p w c) = true
is_close (Dropped p w) = true
is_close _ = false

abbrev pub is_release : Record → Bool
is_release (Release n a g p) = true
is_release _ = false

abbrev pub is_settling : Record → Bool
is_settling (Settled n o c) = true
is_settling _ = false

-- how many generations, polls and releases there were
abbrev pub generations : Past → ℕ
generations past = count_by is_install past

abbrev pub polls : Past → ℕ
polls past = count_by is_begin past

abbrev pub releases_made : Past → ℕ
releases_made past = count_by is_release past

-- how many polls and releases are open
abbrev pub open_polls : Past → ℕ
open_polls past = polls past - count_by is_close past

abbrev pub open_releases : Past → ℕ
open_releases past = releases_made past - count_by is_settling past
