-- A quote read from left to right, up to the first field that does not fit, as functions on lists. The proofs tie it to
-- the format and its first fault.
use Rattle.std.specs.Prelude.{◌≡◌, ℕ, zero, suc, ◌+◌, Bool, true, false, List, [], ◌∷◌, length, take, drop, Option, Some, None, Result, Ok, Err, nat_lt, ◌==◌, if◌then◌else◌}
use Rattle.std.specs.Int.{Width, w8, w16, w32, w64, byte_len, from_be_bytes}
use Rattle.kl_attest.specs.declared.fault.AttestFault.{AttestFault}
use Rattle.kl_attest.specs.declared.fault.AttestFault.TheVariants.{Short, Magic, AttestType, Safe, Tail}
use Rattle.kl_attest.specs.Grammar.{Selection, Quoted, quoted, magic, attest_quote}

infixl 10 ◌>>=◌
abbrev pub ◌>>=◌ : {A B : Type 0} → Result A AttestFault → (A → Result B AttestFault) → Result B AttestFault
(Ok x) >>= f = f x
(Err e) >>= f = Err e

-- What a function returned, seen by view, is what reading gives.
abbrev pub Gives : {X Y : Type 0} → (X → Y) → Result X AttestFault → Result Y AttestFault → Type 0
Gives view (Ok x) read = read ≡ Ok (view x)
Gives view (Err e) read = read ≡ Err e

-- how many bytes stand before, and those that are left
pub record Place : Type 0 where
  pub at : ℕ
  pub rest : List ℕ

abbrev pub start : List ℕ → Place
start bytes = record { at = 0; rest = bytes }

-- behind so many more bytes
abbrev pub moved : ℕ → Place → Place
moved n p = record { at = p.at + n; rest = drop n p.rest }

-- ---- Readers and how they are joined

-- a value and the place behind it, or the fault of the first field that does not fit
abbrev pub Reader : Type 0 → Type 0
Reader A = Place → Result (A × Place) AttestFault

-- what is read, as the value that it stands for
abbrev pub made : {A B : Type 0} → (A → B) → Reader A → Reader B
made f read p = read p >>= λ x. Ok (f x.0, x.1)

-- what is read first says how to read on
abbrev pub followed : {A B : Type 0} → Reader A → (A → Reader B) → Reader B
followed first second p = first p >>= λ x. second x.0 x.1

-- one behind the other
abbrev pub both : {A B : Type 0} → Reader A → Reader B → Reader (A × B)
both first second = followed first (λ a. made (λ b. (a, b)) second)

-- ---- Fields

-- so many bytes; where there are fewer, the fault names where they would begin
unfoldable pub bytes_at : ℕ → Reader (List ℕ)
bytes_at n p = if nat_lt (length p.rest) n then Err (Short p.at) else Ok (take n p.rest, moved n p)

unfoldable pub number_at : Width → Reader ℕ
number_at w = made (from_be_bytes w) (bytes_at (byte_len w))

-- the value that was found, or this fault where there is none
abbrev pub valued : {A : Type 0} → AttestFault → Option A → Result A AttestFault
valued fault (Some x) = Ok x
valued fault None = Err fault

-- a number that stands for a value; where it stands for none, it is this fault
unfoldable pub known_at : {A : Type 0} → Width → (ℕ → Option A) → AttestFault → Reader A
known_at w known fault = followed (number_at w) (λ n p. valued fault (known n) >>= λ x. Ok (x, p))

-- this number alone
abbrev pub only : ℕ → ℕ → Option (Unit {0})
only value n = if n == value then Some tt else None

abbrev pub yes_or_no : ℕ → Option Bool
yes_or_no n = if n == 0 then Some false else if n == 1 then Some true else None

unfoldable pub flag_at : Reader Bool
flag_at = known_at w8 yes_or_no Safe

-- a length and the bytes that it counts are two fields
unfoldable pub counted_at : Width → Reader (List ℕ)
counted_at w = followed (number_at w) bytes_at

-- ---- The parts of a quote

unfoldable pub header_at : Reader (Unit {0} × Unit {0})
header_at = both (known_at w32 (only magic) Magic) (known_at w16 (only attest_quote) AttestType)

pub record Clock : Type 0 where
  pub clock : ℕ
  pub reset : ℕ
  pub restart : ℕ
  pub safe : Bool

abbrev pub clock_made : ℕ × (ℕ × (ℕ × Bool)) → Clock
clock_made x = record { clock = x.0; reset = x.1.0; restart = x.1.1.0; safe = x.1.1.1 }

unfoldable pub clock_at : Reader Clock
clock_at = made clock_made (both (number_at w64) (both (number_at w32) (both (number_at w32) flag_at)))

abbrev pub selection_made : ℕ × List ℕ → Selection
selection_made x = record { alg = x.0; select = x.1 }

unfoldable pub selection_at : Reader Selection
selection_at = made selection_made (both (number_at w16) (counted_at w8))

-- so many selections
unfoldable pub listed_at : ℕ → Reader (List Selection)
listed_at zero p = Ok ([], p)
listed_at (suc n) p = made (λ x. x.0 ∷ x.1) (both selection_at (listed_at n)) p

unfoldable pub selections_at : Reader (List Selection)
selections_at = followed (number_at w32) listed_at

-- what stands behind the header
abbrev pub Fields : Type 0
Fields = List ℕ × (List ℕ × (Clock × (ℕ × (List Selection × List ℕ))))

abbrev pub quoted_made : (Unit {0} × Unit {0}) × Fields → Quoted
quoted_made x =
    let f : Fields = x.1 in
    let c : Clock = f.1.1.0 in
    quoted f.0 f.1.0 c.clock c.reset c.restart c.safe f.1.1.1.0 f.1.1.1.1.0 f.1.1.1.1.1

unfoldable pub quoted_at : Reader Quoted
quoted_at = made quoted_made (both header_at (both (counted_at w16) (both (counted_at w16) (both clock_at (both (number_at w64) (both selections_at (counted_at w16)))))))

-- all of the bytes
unfoldable pub all_of : List ℕ → Result Quoted AttestFault
all_of bytes = do
  q ← quoted_at (start bytes)
  if length q.1.rest == 0 then Ok q.0 else Err (Tail q.1.at)

-- the selections that were read, and the place behind them
abbrev pub listed : Result (List Selection × Place) AttestFault → List Selection
listed (Ok x) = x.0
listed (Err e) = []

abbrev pub behind : Result (List Selection × Place) AttestFault → Result Place AttestFault
behind (Ok x) = Ok x.1
behind (Err e) = Err e
