-- Two runs over one script print the same, where nothing was wanting and no object met a fault.
use Rattle.std.proofs.Common.{◌≡◌, ℕ, ◌+◌, ◌≤◌, List, [], ◌∷◌, ◌++◌, length, All, Option, None, Some, inl, inr, refl, sym, ap, ◌∙◌, subst, arith}
use Rattle.std.proofs.Common.{append-nil, append_assoc, length-append}
use Rattle.std.proofs.lemmas.List.{append_cancel_left}
use Rattle.std.proofs.lemmas.List.Elements.{All-head}
use Rattle.std.proofs.lemmas.Option.{same_Some, none-some}
use Rattle.std.specs.Io.KnownBytes.{Appends, Consumes, IsAtEnd}
use Rattle.std.specs.List.{concat, AllZip}
use Rattle.kl_keys.specs.Relations.{Relations}
use Rattle.kl_script.specs.Commands.{CommandFields, Spells}
use Rattle.kl_script.proofs.Unique.{Spells-same}
use Rattle.kl_session.specs.Outside.{Outside}
use Rattle.kl_session.specs.Calls.{SessionFields, empty}
use Rattle.kl_history.specs.Records.{past_of}
use Rattle.kl_session.specs.Closing.{drops, withdraws}
use Rattle.kl_session.specs.Session.{Does}
use Rattle.kl_session.specs.declared.stop.Stop.TheVariants.{NoNonce}
use Rattle.kl_session.specs.Stopped.{IsStopped}
use Rattle.kl_session.specs.Unique.{LacksNothing, IsFaultless, GoesOn, Steps, Runs, IsDry}
use Rattle.kl_session.proofs.Opened.{all_right}
use Rattle.kl_session.proofs.Moments.{consumed, same_on}
use Rattle.kl_session.proofs.GoingOn.{does_on, follows_on, dry_on, does_grow, lacked_nothing, lacked_before}
use Rattle.kl_session.proofs.OneStep.{one_step, not_dry, one_way, begins_by, stands_still, front_faultless, rest_faultless}
use Rattle.kl_console.specs.Lines.{IsLine, IsLastLine, Comes, IsOverLimit, script_limit, ended}
use Rattle.kl_console.specs.Script.{Executed, SpellsNone, fault_line}
use Rattle.kl_console.specs.Run.{IsBook, EndsWithNewline, LacksNewline, IsFaulty, LacksWords, IsOver}
use Rattle.kl_console.specs.Unique.{Prints}
use Rattle.kl_console.proofs.Coming.{nothing_comes, nothing_over, one_comes, comes_within, comes_on, over_on, first_line, GoesFurther, either_further}

-- ---- how a run ends

-- What a line that comes leads to, behind the last session, with these words left: its command is answered, it spells none, or
-- no nonce can be drawn for it. The status, and the text that is written for the line.
data LineEnds (relations : Relations) (left : List ℕ) (last : SessionFields) (number : ℕ) (line : List ℕ) (status : ℕ) (text : List ℕ) : Type 0 where
  answered : (c : CommandFields) (next : SessionFields) (rest : List ℕ) → status ≡ 0 → Spells line c → Steps relations left last c next text rest
      → LineEnds relations left last number line status text
  unspelled : status ≡ 3 → SpellsNone line → text ≡ fault_line number → LineEnds relations left last number line status text
  dry : (c : CommandFields) (next : SessionFields) (rest : List ℕ) → status ≡ 6 → Spells line c → IsDry relations left last c next rest → text ≡ []
      → LineEnds relations left last number line status text

-- What is left of a script behind its executed lines, which are so many and of so many bytes: nothing, a line, which is all that is
-- left where its command is answered, or more than a limit allows.
data RestEnds (relations : Relations) (left : List ℕ) (last : SessionFields) (number offset : ℕ) (bytes : List ℕ) (status : ℕ) (text : List ℕ) : Type 0 where
  nothing_left : status ≡ 0 → bytes ≡ [] → text ≡ [] → RestEnds relations left last number offset bytes status text
  line_left : (line : List ℕ) → Comes offset None bytes line → (status ≡ 0 → bytes ≡ line) → LineEnds relations left last number line status text
      → RestEnds relations left last number offset bytes status text
  over : status ≡ 8 → IsOverLimit offset bytes → text ≡ fault_line number → RestEnds relations left last number offset bytes status text

-- a run over the whole script, however far it read ahead
record Whole (script : List ℕ) (relations : Relations) (words : List ℕ) (status : ℕ) (written : List ℕ) : Type 0 where
  pub lines : List (List ℕ)
  pub each : All IsLine lines
  pub fits : length (ended lines) ≤ script_limit
  pub commands : List CommandFields
  pub spelled : AllZip Spells lines commands
  pub texts : List (List ℕ)
  pub last : SessionFields
  pub left : List ℕ
  pub runs : Runs relations words empty commands last texts left
  pub bytes : List ℕ
  pub cut : script ≡ ended lines ++ bytes
  pub text : List ℕ
  pub ends : RestEnds relations left last (length lines + 1) (length (ended lines)) bytes status text
  pub wrote : written ≡ concat texts ++ text

-- ---- it ends in one way

module _ (relations : Relations) (left : List ℕ) (last : SessionFields) (number : ℕ) where
  answered_not_dry : (line : List ℕ) (c d : CommandFields) (next after : SessionFields) (text rest more : List ℕ) → Spells line c → Spells line d
      → Steps relations left last c next text rest → ¬ (IsDry relations left last d after more)
  answered_not_dry line c d next after text rest more is also steps short =
      not_dry relations left last c next after text rest more steps
      (subst (λ (x : CommandFields). IsDry relations left last x after more) (Spells-same line d c also is) short)

  one_line_end : (line : List ℕ) (n m : ℕ) (t u : List ℕ) → LineEnds relations left last number line n t → LineEnds relations left last number line m u
      → (n ≡ m) × (t ≡ u)
  one_line_end line n m t u (answered c next rest zero is steps) (answered d after more nought also acts) =
      let same = subst (λ (x : CommandFields). Steps relations left last x after u more) (Spells-same line d c also is) acts in
      (zero ∙ sym nought, (one_step relations left last c next after t u rest more steps same).1)
  one_line_end line n m t u (answered c next rest zero is steps) (unspelled three none says) = absurd (none c is)
  one_line_end line n m t u (answered c next rest zero is steps) (dry d after more six also short says) =
      absurd (answered_not_dry line c d next after t rest more is also steps short)
  one_line_end line n m t u (unspelled three none says) (answered d after more nought also acts) = absurd (none d also)
  one_line_end line n m t u (unspelled three none says) (unspelled thrice nor speaks) = (three ∙ sym thrice, says ∙ sym speaks)
  one_line_end line n m t u (unspelled three none says) (dry d after more six also short speaks) = absurd (none d also)
  one_line_end line n m t u (dry c next rest six is short says) (answered d after more nought also acts) =
      absurd (answered_not_dry line d c after next u more rest also is acts short)
  one_line_end line n m t u (dry c next rest six is short says) (unspelled thrice nor speaks) = absurd (nor c is)
  one_line_end line n m t u (dry c next rest six is short says) (dry d after more sixth also few speaks) = (six ∙ sym sixth, says ∙ sym speaks)

  one_end : (offset : ℕ) (bytes : List ℕ) (n m : ℕ) (t u : List ℕ) → offset ≤ script_limit → RestEnds relations left last number offset bytes n t
      → RestEnds relations left last number offset bytes m u → (n ≡ m) × (t ≡ u)
  one_end offset bytes n m t u fits (nothing_left zero none says) (nothing_left nought nothing speaks) = (zero ∙ sym nought, says ∙ sym speaks)
  one_end offset bytes n m t u fits (nothing_left zero none says) (line_left line comes bare ends) = absurd (nothing_comes offset bytes line none comes)
  one_end offset bytes n m t u fits (nothing_left zero none says) (over eight much speaks) = absurd (nothing_over offset bytes none fits much)
  one_end offset bytes n m t u fits (line_left line comes bare ends) (nothing_left nought nothing speaks) =
      absurd (nothing_comes offset bytes line nothing comes)
  one_end offset bytes n m t u fits (line_left line comes bare ends) (line_left other also bald stops) =
      let same = one_comes offset bytes other line also comes in
      one_line_end line n m t u ends (subst (λ (x : List ℕ). LineEnds relations left last number x m u) same stops)
  one_end offset bytes n m t u fits (line_left line comes bare ends) (over eight much speaks) = absurd (comes_within offset bytes line comes much)
  one_end offset bytes n m t u fits (over eight much says) (nothing_left nought nothing speaks) = absurd (nothing_over offset bytes nothing fits much)
  one_end offset bytes n m t u fits (over eight much says) (line_left line comes bare ends) = absurd (comes_within offset bytes line comes much)
  one_end offset bytes n m t u fits (over eight much says) (over eighth more speaks) = (eight ∙ sym eighth, says ∙ sym speaks)

  -- it does not end before a line that comes with its newline and whose command is answered
  no_end_before : (offset : ℕ) (bytes line more : List ℕ) (n : ℕ) (t : List ℕ) (c : CommandFields) (next : SessionFields) (text rest : List ℕ)
      → bytes ≡ line ++ 10 ∷ more → Comes offset None bytes line → Spells line c → Steps relations left last c next text rest
      → ¬ (RestEnds relations left last number offset bytes n t)
  no_end_before offset bytes line more n t c next text rest parts comes is steps (nothing_left zero none says) = nothing_comes offset bytes line none comes
  no_end_before offset bytes line more n t c next text rest parts comes is steps (over eight much says) = comes_within offset bytes line comes much
  no_end_before offset bytes line more n t c next text rest parts comes is steps (line_left other also bare ends) =
      let same = one_comes offset bytes other line also comes in by_end (subst (λ (x : List ℕ). LineEnds relations left last number x n t) same ends) same where
        by_end : LineEnds relations left last number line n t → other ≡ line → ⊥
        by_end (answered d after others zero says acts) same =
            let long = ap (λ (all : List ℕ). length all) (sym parts ∙ bare zero ∙ same) in omega (arith, long, length-append line (10 ∷ more))
        by_end (unspelled three none says) same = none c is
        by_end (dry d after others six says short wrote) same = answered_not_dry line c d next after text rest others is says steps short

-- ---- of two runs the one that goes further goes through where the other ends

-- the commands of more lines: those of the first lines, and others
commands_behind : (lines more : List (List ℕ)) (cs ds : List CommandFields) → AllZip Spells lines cs → AllZip Spells (lines ++ more) ds
    → (es : List CommandFields) × (ds ≡ cs ++ es) × AllZip Spells more es
commands_behind [] more [] ds h k = (ds, refl, k)
commands_behind [] more (c ∷ cs) ds h k = absurd h
commands_behind (l ∷ lines) more [] ds h k = absurd h
commands_behind (l ∷ lines) more (c ∷ cs) [] h k = absurd k
commands_behind (l ∷ lines) more (c ∷ cs) (d ∷ ds) h k =
    let rest = commands_behind lines more cs ds h.1 k.1 in
    (rest.0, ap (λ (x : CommandFields). x ∷ ds) (Spells-same l d c k.0 h.0) ∙ ap (λ (xs : List CommandFields). c ∷ xs) rest.1, rest.2)

-- the second run goes on where the first ends, by these lines more
record GoesOnBy (relations : Relations) (last later : SessionFields) (left rest : List ℕ) (texts all : List (List ℕ)) (more : List (List ℕ)) : Type 0 where
  pub commands : List CommandFields
  pub spelled : AllZip Spells more commands
  pub others : List (List ℕ)
  pub parts : all ≡ texts ++ others
  pub runs : Runs relations left last commands later others rest

none_spelled : (cs : List CommandFields) → AllZip Spells [] cs → cs ≡ []
none_spelled [] h = refl
none_spelled (c ∷ cs) h = absurd h

first_spelled : (line : List ℕ) (lines : List (List ℕ)) (cs : List CommandFields) → AllZip Spells (line ∷ lines) cs
    → (c : CommandFields) × (ds : List CommandFields) × (cs ≡ c ∷ ds) × Spells line c
first_spelled line lines [] h = absurd h
first_spelled line lines (c ∷ cs) h = (c, cs, refl, h.0)

ended-append : (lines more : List (List ℕ)) → ended (lines ++ more) ≡ ended lines ++ ended more
ended-append [] more = refl
ended-append (line ∷ lines) more =
    ap (λ (bytes : List ℕ). line ++ 10 ∷ bytes) (ended-append lines more) ∙ sym (append_assoc line (10 ∷ ended lines) (ended more))

module _ {script : List ℕ} {relations : Relations} {words : List ℕ} {n m : ℕ} {written print : List ℕ}
    (a : Whole script relations words n written) (b : Whole script relations words m print) where
  goes_on_by : (more : List (List ℕ)) → b.lines ≡ a.lines ++ more → GoesOnBy relations a.last b.last a.left b.left a.texts b.texts more
  goes_on_by more same =
      let spelled = subst (λ (ls : List (List ℕ)). AllZip Spells ls b.commands) same b.spelled in
      let behind = commands_behind a.lines more a.commands b.commands a.spelled spelled in
      let whole = subst (λ (cs : List CommandFields). Runs relations words empty cs b.last b.texts b.left) behind.1 b.runs in
      let on = one_way relations words empty a.commands behind.0 a.last b.last a.texts b.texts a.left b.left a.runs whole in
      record { commands = behind.0; spelled = behind.2; others = on.others; parts = on.parts; runs = on.runs }

  -- both end there
  same_end : b.lines ≡ a.lines ++ [] → a.bytes ≡ b.bytes → (n ≡ m) × (written ≡ print)
  same_end same bytes =
      let on = goes_on_by [] same in
      let none = none_spelled on.commands on.spelled in
      let no_more = subst (λ (cs : List CommandFields). Runs relations a.left a.last cs b.last on.others b.left) none on.runs in
      let still = stands_still relations a.left a.last b.last on.others b.left no_more in
      let lines = same ∙ append-nil a.lines in
      let at_left = subst (λ (w : List ℕ). RestEnds relations w b.last (length b.lines + 1) (length (ended b.lines)) b.bytes m b.text) still.2 b.ends in
      let at_last = subst (λ (s : SessionFields). RestEnds relations a.left s (length b.lines + 1) (length (ended b.lines)) b.bytes m b.text) still.0 at_left in
      let at_lines = subst (λ (ls : List (List ℕ)). RestEnds relations a.left a.last (length ls + 1) (length (ended ls)) b.bytes m b.text) lines at_last in
      let there = subst (λ (bs : List ℕ). RestEnds relations a.left a.last (length a.lines + 1) (length (ended a.lines)) bs m b.text) (sym bytes) at_lines in
      let one = one_end relations a.left a.last (length a.lines + 1) (length (ended a.lines)) a.bytes n m a.text b.text a.fits a.ends there in
      let texts = sym (append-nil a.texts) ∙ ap (λ (l : List (List ℕ)). a.texts ++ l) (sym still.1) ∙ sym on.parts in
      (one.0, a.wrote ∙ ap (λ (t : List ℕ). concat a.texts ++ t) one.1 ∙ ap (λ (ts : List (List ℕ)). concat ts ++ b.text) texts ∙ sym b.wrote)

  -- the first ends not before the second
  not_before : (line : List ℕ) (more : List (List ℕ)) → b.lines ≡ a.lines ++ line ∷ more → ¬ (a.bytes ≡ ended (line ∷ more) ++ b.bytes)
  not_before line more same bytes =
      let on = goes_on_by (line ∷ more) same in
      let first = first_spelled line more on.commands on.spelled in
      let runs = subst (λ (cs : List CommandFields). Runs relations a.left a.last cs b.last on.others b.left) first.2 on.runs in
      let by = begins_by relations a.left a.last first.0 first.1 b.last on.others b.left runs in
      let parts = bytes ∙ first_line line more b.bytes in
      let lines = subst (λ (ls : List (List ℕ)). All IsLine ls) same b.each in
      let whole = All-head IsLine line more (all_right IsLine a.lines (line ∷ more) lines) in
      let long = ap (λ (all : List ℕ). length all) (ap (λ (ls : List (List ℕ)). ended ls) same ∙ ended-append a.lines (line ∷ more)) in
      let fits : length (ended a.lines) + length line + 1 ≤ script_limit =
      omega (arith, b.fits, long, length-append (ended a.lines) (ended (line ∷ more)), length-append line (10 ∷ ended more)) in
      let comes : Comes (length (ended a.lines)) None a.bytes line =
      inl (ended more ++ b.bytes, record { parts = parts; is_line = whole; fits = fits }) in
      no_end_before relations a.left a.last (length a.lines + 1) (length (ended a.lines)) a.bytes line (ended more ++ b.bytes) n a.text
      first.0 by.next by.line by.left parts comes first.3 by.steps a.ends

  reaches : GoesFurther a.lines b.lines a.bytes b.bytes → (n ≡ m) × (written ≡ print)
  reaches f = by_more f.more f.lines_are f.rest_is where
    by_more : (more : List (List ℕ)) → b.lines ≡ a.lines ++ more → a.bytes ≡ ended more ++ b.bytes → (n ≡ m) × (written ≡ print)
    by_more [] lines bytes = same_end lines bytes
    by_more (line ∷ more) lines bytes = absurd (not_before line more lines bytes)

one_whole : (script : List ℕ) (relations : Relations) (words : List ℕ) (n m : ℕ) (written print : List ℕ)
    → Whole script relations words n written → Whole script relations words m print → (n ≡ m) × (written ≡ print)
one_whole script relations words n m written print a b = elim (either_further a.lines b.lines a.bytes b.bytes a.each b.each (sym a.cut ∙ b.cut)) [
  | inl f ↦ reaches a b f
  | inr f ↦ let back = reaches b a f in (sym back.0, sym back.1)
]

-- ---- what a run prints is such a run

wrote_so : (held written puts : List ℕ) (old new : Option (List ℕ)) → old ≡ Some held → new ≡ Some (held ++ written) → Appends old new puts → written ≡ puts
wrote_so held written puts None new is also h = absurd (none-some held is)
wrote_so held written puts (Some xs) None is also h = absurd h
wrote_so held written puts (Some xs) (Some ys) is also h =
    append_cancel_left held written puts (sym (same_Some ys (held ++ written) also) ∙ h ∙ ap (λ (l : List ℕ). l ++ puts) (same_Some xs held is))

module _ {script : List ℕ} {relations : Relations} {words : List ℕ} {status : ℕ} {written : List ℕ} (p : Prints script relations words status written) where
  -- the session of a run lacked nothing, since its history is the front of the one at the end
  lacked : (s : SessionFields) → IsBook s p.book → LacksNothing s.verifier.history
  lacked s is =
      let whole : LacksNothing p.book.history = record { legal = is.legal; ample = p.ample } in
      lacked_nothing s.verifier.history (drops is.ended.polls)
      (lacked_nothing (s.verifier.history ++ drops is.ended.polls) (withdraws (past_of s.verifier.history) is.ended.releases) (subst LacksNothing is.ended.parts whole))

  module _ {then : Outside} (s : Executed p.before.outside then) (on : GoesOn then p.after.outside) where
    going : GoesOn p.before.outside then
    going = follows_on p.before.outside then empty s.commands s.texts s.last s.follows

    -- the words that are left behind the lines
    left_then : (left : List ℕ) × (then.words.left ≡ Some left)
    left_then = going.left words p.faultless.left

    whole_by : (bytes text : List ℕ) → LacksNothing s.last.verifier.history → script ≡ ended s.lines ++ bytes → written ≡ concat s.texts ++ text
        → RestEnds relations left_then.0 s.last (length s.lines + 1) (length (ended s.lines)) bytes status text → Whole script relations words status written
    whole_by bytes text unwanting cut wrote ends = record {
      lines = s.lines;
      each = s.each;
      fits = s.fits;
      commands = s.commands;
      spelled = s.spelled;
      texts = s.texts;
      last = s.last;
      left = left_then.0;
      runs = record {
        before = p.before.outside;
        after = then;
        faultless = front_faultless relations words p.before.outside then p.after.outside p.faultless on;
        follows = s.follows;
        unwanting = unwanting;
        left = left_then.1;
      };
      bytes = bytes;
      cut = cut;
      text = text;
      ends = ends;
      wrote = wrote;
    }

    -- from there on
    thereon : IsFaultless relations left_then.0 then p.after.outside
    thereon = rest_faultless relations words left_then.0 p.before.outside then p.after.outside p.faultless going left_then.1

    -- the words that are left at the end
    left_last : (rest : List ℕ) × (p.after.outside.words.left ≡ Some rest)
    left_last = on.left left_then.0 left_then.1

    answers_next : (c : CommandFields) (next : SessionFields) (text : List ℕ) → Does then p.after.outside s.last c next text → LacksNothing next.verifier.history
        → Steps relations left_then.0 s.last c next text left_last.0
    answers_next c next text does unwanting =
        record { before = then; after = p.after.outside; faultless = thereon; does = does; unwanting = unwanting; left = left_last.1 }

    stops_next : (c : CommandFields) (next : SessionFields) → IsStopped NoNonce then p.after.outside s.last c next
        → IsDry relations left_then.0 s.last c next left_last.0
    stops_next c next stopped = record { before = then; after = p.after.outside; faultless = thereon; stopped = stopped; left = left_last.1 }

  -- what was taken from the script, and what is left of it
  took : (read : List ℕ) → Consumes p.before.script.left p.after.script.left read
      → (left : List ℕ) × (p.after.script.left ≡ Some left) × (script ≡ read ++ left)
  took read taken = consumed script p.before.script.left p.after.script.left read p.whole taken

  puts : (text : List ℕ) → Appends p.before.out.held p.after.out.held text → written ≡ text
  puts text wrote = wrote_so p.held written text p.before.out.held p.after.out.held p.held_before p.held_after wrote

  with_newline : status ≡ 0 → IsAtEnd p.after.script.left → EndsWithNewline p.before p.after p.book → Whole script relations words status written
  with_newline zero end (s, ran, is) =
      let took = took (ended s.lines) ran.read in
      let none = subst IsAtEnd took.1 end in
      whole_by s (same_on p.after.outside p.after.outside refl) took.0 [] (lacked s.last is) took.2
      (puts (concat s.texts) ran.wrote ∙ sym (append-nil (concat s.texts))) (nothing_left zero none refl)

  without_newline : status ≡ 0 → LacksNewline p.before p.after p.book → Whole script relations words status written
  without_newline zero (then, s, next, text, d, ran, is) =
      let on = does_on then p.after.outside s.last d.command next text d.does in
      let unwanting = lacked next is in
      let took = took (ended s.lines ++ d.line) ran.read in
      let bare = subst (λ (left : Option (List ℕ)). IsLastLine (length (ended s.lines)) left d.line) took.1 d.next_line in
      let comes = comes_on (length (ended s.lines)) took.0 d.line d.line (inr (refl, bare)) in
      let all = ap (λ (more : List ℕ). d.line ++ more) bare.at_end ∙ append-nil d.line in
      whole_by s on (d.line ++ took.0) text (lacked_before s.last next (does_grow then p.after.outside s.last d.command next text d.does) unwanting)
      (took.2 ∙ append_assoc (ended s.lines) d.line took.0) (puts (concat s.texts ++ text) ran.wrote)
      (line_left d.line comes (λ _. all) (answered d.command next (left_last s on).0 zero d.spelled (answers_next s on d.command next text d.does unwanting)))

  faulty : status ≡ 3 → IsFaulty p.before p.after p.book → Whole script relations words status written
  faulty three (s, rest, ran, (line, comes, none), is) =
      let took = took (ended s.lines ++ rest) ran.read in
      let on = same_on p.after.outside p.after.outside refl in
      let told = subst (λ (left : Option (List ℕ)). Comes (length (ended s.lines)) left rest line) took.1 comes in
      whole_by s on (rest ++ took.0) (fault_line (length s.lines + 1)) (lacked s.last is) (took.2 ∙ append_assoc (ended s.lines) rest took.0)
      (puts (concat s.texts ++ fault_line (length s.lines + 1)) ran.wrote)
      (line_left line (comes_on (length (ended s.lines)) took.0 rest line told) (λ zero. absurd (omega (arith, three, zero))) (unspelled three none refl))

  over_limit : status ≡ 8 → IsOver p.before p.after p.book → Whole script relations words status written
  over_limit eight (s, rest, ran, much, is) =
      let took = took (ended s.lines ++ rest) ran.read in
      let on = same_on p.after.outside p.after.outside refl in
      whole_by s on (rest ++ took.0) (fault_line (length s.lines + 1)) (lacked s.last is) (took.2 ∙ append_assoc (ended s.lines) rest took.0)
      (puts (concat s.texts ++ fault_line (length s.lines + 1)) ran.wrote) (over eight (over_on (length (ended s.lines)) took.0 rest much) refl)

  dried : status ≡ 6 → LacksWords p.before p.after p.book → Whole script relations words status written
  dried six (then, s, rest, ran, stops, is) =
      let on = dry_on then p.after.outside s.last stops.command s.last stops.stopped in
      let took = took (ended s.lines ++ rest) ran.read in
      let told = subst (λ (left : Option (List ℕ)). Comes (length (ended s.lines)) left rest stops.line) took.1 stops.next_line in
      whole_by s on (rest ++ took.0) [] (lacked s.last is) (took.2 ∙ append_assoc (ended s.lines) rest took.0)
      (puts (concat s.texts) ran.wrote ∙ sym (append-nil (concat s.texts)))
      (line_left stops.line (comes_on (length (ended s.lines)) took.0 rest stops.line told) (λ zero. absurd (omega (arith, six, zero)))
      (dry stops.command s.last (left_last s on).0 six stops.spelled (stops_next s on stops.command s.last stops.stopped) refl))

  whole_of : Whole script relations words status written
  whole_of = elim p.ends [
    | inl (zero, (end, inl h)) ↦ with_newline zero end h
    | inl (zero, (end, inr h)) ↦ without_newline zero h
    | inr (inl (three, h)) ↦ faulty three h
    | inr (inr (inl (six, h))) ↦ dried six h
    | inr (inr (inr (eight, h))) ↦ over_limit eight h
  ]

pub one_print : (script : List ℕ) (relations : Relations) (words : List ℕ) (status status' : ℕ) (written written' : List ℕ)
    → Prints script relations words status written → Prints script relations words status' written' → (status ≡ status') × (written ≡ written')
one_print script relations words n m written print p q = one_whole script relations words n m written print (whole_of p) (whole_of q)
