-- Bytes that a source gives, one read after another.
use Rattle.std.proofs.Common.{◌≡◌, ◌≢◌, List, ℕ, suc, Bool, true, false, ◌<◌, ◌≤◌, ◌+◌, ◌-◌, ◌∷◌, ◌++◌, [], length, get_or, take, drop, sym, ap, ◌∙◌, append_assoc, subst, Result, Ok, Err, inl, inr, arith, length-append, length-take}
use Rattle.std.proofs.KnownBytes.{Consumes-trans}
use Rattle.std.proofs.lemmas.List.{append-nil}
use Rattle.std.proofs.lemmas.List.Elements.{Contains-append_left}
use Rattle.std.proofs.Math.Seq.{split_at}
use Rattle.std.specs.Io.KnownBytes.{Consumes, IsAtEnd}
use Rattle.kl_io.specs.Told.{SourceTold}
use Rattle.kl_entry.specs.Lines.{HasNo}
use Rattle.kl_console.specs.declared.line_reader.Found.{Found}
use Rattle.kl_console.specs.declared.line_reader.Found.TheVariants.{Last, TooLong}
use Rattle.kl_console.specs.declared.line_reader.ReadError.{ReadError}
use Rattle.kl_console.specs.declared.line_reader.ReadError.TheVariants.{Failed, Memory}
use Rattle.kl_console.specs.Lines.{line_limit, script_limit, IsLine, IsPart, PassesScript, IsOverLimit}
use Rattle.kl_console.specs.Inner.Reading.{Finds, Fits, IsOver, Reading, ReadsLine, Takes, idle_reads, held_bytes}

-- ---- how many reads there were

-- no read was idle, and then some may be
pub takes_on : (a b c : SourceTold) (bytes more : List ℕ) (idle : ℕ) → Takes a b bytes 0 → Takes b c more idle → Takes a c (bytes ++ more) idle
takes_on a b c bytes more idle first then = record {
  taken = Consumes-trans a.left b.left c.left bytes more first.taken then.taken;
  reads = omega (arith, first.reads, then.reads, length-append bytes more);
}

pub takes_more : (a b : SourceTold) (bytes : List ℕ) (idle more : ℕ) → idle ≤ more → Takes a b bytes idle → Takes a b bytes more
takes_more a b bytes idle more less t = record { taken = t.taken; reads = omega (arith, t.reads, less) }

-- one read, or none, took these bytes
pub takes_once : (a b : SourceTold) (bytes : List ℕ) → Consumes a.left b.left bytes → b.calls.made ≤ a.calls.made + 1 → Takes a b bytes 1
takes_once a b bytes took once = record { taken = took; reads = omega (arith, once) }

takes_some : (a b : SourceTold) (bytes : List ℕ) → Consumes a.left b.left bytes → b.calls.made ≤ a.calls.made + 1 → 0 < length bytes → Takes a b bytes 0
takes_some a b bytes took once some = record { taken = took; reads = omega (arith, once, some) }

-- what a reader has gathered of a line so far, with more of it ahead
pub record Gathered (before now : SourceTold) (initial r : Reading) : Type 0 where
  pub bytes : (consumed : List ℕ) × Takes before now consumed 0 × (initial.ahead ++ consumed ≡ r.line ++ r.ahead)
  pub whole : HasNo 10 r.line
  pub short : length r.line ≤ line_limit
  pub ahead : 0 < length r.ahead
  pub passed : r.passed ≡ initial.passed
  pub begun : initial.passed ≤ script_limit
  pub faultless : now.calls.faults ≡ before.calls.faults
  pub placed : now.place ≡ before.place

-- a piece was moved to the line, all that was ahead
pub record Moved (r p : Reading) : Type 0 where
  pub all : p.line ++ p.ahead ≡ r.line ++ r.ahead
  pub none : p.ahead ≡ []
  pub kept : p.passed ≡ r.passed
  pub whole : HasNo 10 r.line → HasNo 10 p.line
  pub fits : Fits false p

-- the source was asked for more, and the line stayed
pub record Asked (now after : SourceTold) (p f : Reading) : Type 0 where
  pub given : Consumes now.left after.left f.ahead
  pub once : after.calls.made ≤ now.calls.made + 1
  pub line : f.line ≡ p.line
  pub passed : f.passed ≡ p.passed

moved_line : (r p : Reading) → Moved r p → p.line ≡ r.line ++ r.ahead
moved_line r p m = sym (append-nil p.line) ∙ ap (λ (t : List ℕ). p.line ++ t) (sym m.none) ∙ m.all

-- the line as it is after that
pub asked_line : (before now after : SourceTold) (initial r p f : Reading) → Gathered before now initial r → Moved r p → Asked now after p f → IsLine f.line
asked_line before now after initial r p f h m a = subst IsLine (sym a.line) (record { whole = m.whole h.whole; short = m.fits.0 })

-- and the bytes
pub asked_bytes : (before now after : SourceTold) (initial r p f : Reading) (idle : ℕ) → Gathered before now initial r → Moved r p → Asked now after p f
    → Takes now after f.ahead idle → (consumed : List ℕ) × Takes before after consumed idle × (initial.ahead ++ consumed ≡ f.line ++ f.ahead)
asked_bytes before now after initial r p f idle h m a took =
    let b = h.bytes in (
      b.0 ++ f.ahead,
      takes_on before now after b.0 f.ahead idle b.1 took,
      sym (append_assoc initial.ahead b.0 f.ahead) ∙ ap (λ (t : List ℕ). t ++ f.ahead) (b.2 ∙ sym (moved_line r p m) ∙ sym a.line),
    )

-- the source gave more
pub gathers_on : (before now after : SourceTold) (initial r p f : Reading) → Gathered before now initial r → Moved r p → Asked now after p f → 0 < length f.ahead
    → after.calls.faults ≡ now.calls.faults → after.place ≡ now.place → Gathered before after initial f
gathers_on before now after initial r p f h m a some faultless placed =
    let line = asked_line before now after initial r p f h m a in
    record {
      bytes = asked_bytes before now after initial r p f 0 h m a (takes_some now after f.ahead a.given a.once some);
      whole = line.whole;
      short = line.short;
      ahead = some;
      passed = a.passed ∙ m.kept ∙ h.passed;
      begun = h.begun;
      faultless = faultless ∙ h.faultless;
      placed = placed ∙ h.placed;
    }

-- a line that is read once bytes are ahead is read from what was ahead before
pub reads_primed : (before now after : SourceTold) (old primed new : Reading) (result : Result Found ReadError)
    → ((consumed : List ℕ) × Consumes before.left now.left consumed × (primed.ahead ≡ old.ahead ++ consumed))
    → now.calls.made + length old.ahead ≤ before.calls.made + length primed.ahead → primed.passed ≡ old.passed → ReadsLine now after primed new result
    → ReadsLine before after old new result
reads_primed before now after old primed new result p reads same r =
    let took : Takes before now p.0 0 =
    record { taken = p.1; reads = omega (arith, reads, ap (λ (t : List ℕ). length t) p.2, length-append old.ahead p.0) } in (
      p.0 ++ r.0,
      takes_on before now after p.0 r.0 (idle_reads result) took r.1,
      subst (λ (n : ℕ). Finds n after.left (old.ahead ++ (p.0 ++ r.0)) new result) same
          (subst (λ (bytes : List ℕ). Finds primed.passed after.left bytes new result) (ap (λ (t : List ℕ). t ++ r.0) p.2 ∙ append_assoc old.ahead p.0 r.0) r.2),
    )

-- ---- how a line is left

-- the source met a fault, or memory ran out over what it was asked for
pub reads_broken : (before now after : SourceTold) (initial r p f : Reading) (why : ReadError) → Gathered before now initial r → Moved r p → Asked now after p f → f.ahead ≡ []
    → ReadsLine before after initial f (Err why)
reads_broken before now after initial r p f Memory h m a empty =
    let b = asked_bytes before now after initial r p f 1 h m a (takes_once now after f.ahead a.given a.once) in (b.0, b.1, tt)
reads_broken before now after initial r p f Failed h m a empty =
    let b = asked_bytes before now after initial r p f 1 h m a (takes_once now after f.ahead a.given a.once) in
    let is = asked_line before now after initial r p f h m a in
    let all = b.2 ∙ ap (λ (t : List ℕ). f.line ++ t) empty ∙ append-nil f.line in
    let fits : initial.passed + length f.line ≤ script_limit = omega (arith, m.fits.1, m.kept, h.passed, ap length a.line) in
    (b.0, b.1, subst (IsPart initial.passed) (sym all) (record { is_line = is; fits = fits }))

-- ---- how a line ends

has_no_front : (front back : List ℕ) → HasNo 10 (front ++ back) → HasNo 10 front
has_no_front front back whole has = whole (Contains-append_left front back 10 has)

-- a line that is long enough ends with a byte
last_byte : (offset : ℕ) (line more : List ℕ) → HasNo 10 line → offset ≤ script_limit → script_limit < offset + length line → PassesScript offset (line ++ more)
last_byte offset line more whole begun long =
    let at = length line - 1 in
    let below : at < length line = omega (arith, begun, long) in
    let parts : line ≡ take at line ++ get_or line at 0 ∷ drop (suc at) line = split_at line at 0 below in
    let fits : script_limit ≤ offset + length (take at line) = omega (arith, begun, long, length-take at line) in (
      take at line,
      get_or line at 0,
      drop (suc at) line ++ more,
      ap (λ (t : List ℕ). t ++ more) parts ∙ append_assoc (take at line) (get_or line at 0 ∷ drop (suc at) line) more,
      has_no_front (take at line) (get_or line at 0 ∷ drop (suc at) line) (subst (HasNo 10) parts whole),
      fits,
    )

-- it passes a limit, as far as it was read
is_over_limit : (whole : Bool) (offset : ℕ) (bytes : List ℕ) (p : Reading) → held_bytes whole p ≡ bytes → p.passed ≡ offset → offset ≤ script_limit → HasNo 10 p.line
    → IsOver whole p → IsOverLimit offset bytes
is_over_limit true offset bytes p held same begun none (inl long) = inl (p.line, 10 ∷ p.ahead, sym held, record { whole = none; long = long })
is_over_limit false offset bytes p held same begun none (inl long) = inl (p.line, p.ahead, sym held, record { whole = none; long = long })
is_over_limit true offset bytes p held same begun none (inr long) = inr (p.line, 10, p.ahead, sym held, none, omega (arith, long, same))
is_over_limit false offset bytes p held same begun none (inr long) =
    let more : script_limit < offset + length p.line = omega (arith, long, same) in
    inr (subst (PassesScript offset) held (last_byte offset p.line p.ahead none begun more))

pub reads_over : (before now : SourceTold) (initial r p : Reading) (whole : Bool) → Gathered before now initial r → held_bytes whole p ≡ r.line ++ r.ahead → p.passed ≡ r.passed
    → (HasNo 10 r.line → HasNo 10 p.line) → IsOver whole p → ReadsLine before now initial p (Ok TooLong)
reads_over before now initial r p whole h held kept none over =
    let b = h.bytes in (
      b.0,
      takes_more before now b.0 0 1 (omega arith) b.1,
      is_over_limit whole initial.passed (initial.ahead ++ b.0) p (held ∙ sym b.2) (kept ∙ h.passed) h.begun (none h.whole) over,
    )

some_line : (line more : List ℕ) → 0 < length more → line ++ more ≢ []
some_line line more some none = omega (arith, some, ap length none, length-append line more)

-- the script ended without one
pub reads_last : (before now after : SourceTold) (initial r p f : Reading) → Gathered before now initial r → Moved r p → Asked now after p f → f.ahead ≡ [] → IsAtEnd after.left
    → ReadsLine before after initial f (Ok Last)
reads_last before now after initial r p f h m a empty end =
    let b = asked_bytes before now after initial r p f 1 h m a (takes_once now after f.ahead a.given a.once) in
    let line = a.line ∙ moved_line r p m in
    let same = m.kept ∙ h.passed in (
      b.0,
      b.1,
      (
        b.2 ∙ ap (λ (t : List ℕ). f.line ++ t) empty ∙ append-nil f.line,
        record {
          some = λ none. some_line r.line r.ahead h.ahead (sym line ∙ none);
          part = record { is_line = asked_line before now after initial r p f h m a; fits = omega (arith, m.fits.1, same, ap length a.line) };
          at_end = end;
        },
      ),
    )
