-- The turns of a run, one after another.
use Rattle.std.proofs.Common.{◌≡◌, Bool, ◌≤◌, ◌+◌, ℕ, zero, suc, List, [], ◌∷◌, ◌++◌, length, None, Result, Ok, Err, refl, sym, subst, ap, ◌∙◌, ◌⊎◌, inl, inr, arith, append_assoc, append-nil, length-append}
use Rattle.std.specs.Prelude.{Contains, ◌↔◌, true}
use Rattle.std.specs.Io.KnownBytes.{Appends, Consumes, IsAtEnd}
use Rattle.std.proofs.KnownBytes.{Appends-nil, Appends-trans, Consumes-nil, Consumes-trans}
use Rattle.kl_io.specs.Calls.{n_more}
use Rattle.kl_io.specs.Told.{SinkTold, SourceTold}
use Rattle.kl_script.specs.Commands.{CommandFields, Spells}
use Rattle.kl_history.specs.Records.{is_open, is_unsettled}
use Rattle.kl_session.specs.Closing.{AreThose}
use Rattle.kl_core.specs.Books.{BookFields}
use Rattle.kl_session.specs.declared.stop.Stop.{Stop}
use Rattle.kl_session.specs.declared.stop.Stop.TheVariants as stop
use Rattle.kl_session.specs.Calls.{SessionFields, empty}
use Rattle.kl_session.specs.Session.{Does}
use Rattle.kl_session.specs.Stopped.{IsStopped}
use Rattle.kl_session.proofs.OneStep.{dry_stays}
use Rattle.kl_console.specs.Calls.{count_after}
use Rattle.kl_console.specs.Lines.{IsPart, IsEndedLine, IsLastLine, Comes, IsOverLimit, ended, script_limit}
use Rattle.kl_console.specs.Script.{Executed, script_of, offset_of, printed, puts_of, puts_before, next_number, fault_line, SpellsNone, HasNoCommand, DoesNext}
use Rattle.kl_console.specs.Run.{Moment, Ran, IsBook, book_or_empty, CanPrint, StopsNext}
use Rattle.kl_console.specs.declared.line_reader.Found.TheVariants.{Line, Last, End as AtEnd, TooLong}
use Rattle.kl_console.specs.declared.line_reader.ReadError.TheVariants as read
use Rattle.kl_console.specs.Inner.Reading.{Reading, ReadsLine, Takes}
use Rattle.kl_console.specs.Inner.Printing.{Writes, WritesFront, Prints}
use Rattle.kl_console.specs.Inner.Turns.{Answers, Ends, EndsBy, Played, PlaysOn}
use Rattle.kl_console.specs.declared.ending.End.{End}
use Rattle.kl_console.specs.declared.ending.End.TheVariants.{Done, Fault, ReadFault, WriteFault, NoNonce, Over, Memory}
use Rattle.std.proofs.lemmas.List.{length_push}
use Rattle.kl_console.proofs.Gathering.{takes_more}
use Rattle.kl_console.proofs.Following.{concat-more, count-more, ended-least, ended-length, ended-more, executed_more, none_executed, under}

-- ---- what was read and written

count_more : (n m k : ℕ) → count_after m (count_after n k) ≡ count_after (n + m) k
count_more zero m k = let at : m ≡ zero + m = omega arith in ap (λ (x : ℕ). count_after x k) at
count_more (suc n) zero k = let at : suc n ≡ suc n + zero = omega arith in ap (λ (x : ℕ). count_after x k) at
count_more (suc n) (suc m) k =
    let at : suc n + suc m ≡ suc (n + suc m) = omega arith in
    let both : n_more (suc m) (n_more (suc n) k) ≡ n_more (suc (n + suc m)) k = omega arith in
    both ∙ ap (λ (x : ℕ). count_after x k) (sym at)

-- no read of the first was idle
abbrev NoneIdle : Moment → Moment → List ℕ → Type 0
NoneIdle a b consumed = b.script.calls.made ≤ a.script.calls.made + length consumed

-- more was read, and then written
ran_on : (a b c : Moment) (consumed more written text : List ℕ) (n m : ℕ) → Ran a b consumed written n → NoneIdle a b consumed → Takes b.script c.script more 1
    → Writes b.out c.out text m → Ran a c (consumed ++ more) (written ++ text) (n + m)
ran_on a b c consumed more written text n m ran none took writes = record {
  read = Consumes-trans a.script.left b.script.left c.script.left consumed more ran.read took.taken;
  reads = omega (arith, none, took.reads, length-append consumed more);
  wrote = Appends-trans a.out.held b.out.held c.out.held written text ran.wrote writes.wrote;
  put = writes.put ∙ ap (count_after m) ran.put ∙ count_more n m a.out.calls.made;
}

-- more was read, and nothing written
ran_silent : (a b c : Moment) (consumed more written : List ℕ) (n : ℕ) → Ran a b consumed written n → NoneIdle a b consumed → Takes b.script c.script more 1 → c.out ≡ b.out
    → Ran a c (consumed ++ more) written n
ran_silent a b c consumed more written n ran none took same = record {
  read = Consumes-trans a.script.left b.script.left c.script.left consumed more ran.read took.taken;
  reads = omega (arith, none, took.reads, length-append consumed more);
  wrote = subst (λ (out : SinkTold). Appends a.out.held out.held written) (sym same) ran.wrote;
  put = subst (λ (out : SinkTold). out.calls.made ≡ count_after n a.out.calls.made) (sym same) ran.put;
}

-- the same bytes, put otherwise
ran_as : (a b : Moment) (consumed consumed' written written' : List ℕ) (n n' : ℕ) → consumed ≡ consumed' → written ≡ written' → n ≡ n' → Ran a b consumed written n → Ran a b consumed' written' n'
ran_as a b consumed consumed' written written' n n' reads writes puts ran = record {
  read = subst (Consumes a.script.left b.script.left) reads ran.read;
  reads = subst (λ (xs : List ℕ). b.script.calls.made ≤ a.script.calls.made + length xs + 1) reads ran.reads;
  wrote = subst (Appends a.out.held b.out.held) writes ran.wrote;
  put = ran.put ∙ ap (λ (k : ℕ). count_after k a.out.calls.made) puts;
}

-- what was put ahead before, and then read, is what comes behind the lines
ran_next : (a c : Moment) (front ahead more written : List ℕ) (n : ℕ) → Ran a c ((front ++ ahead) ++ more) written n → Ran a c (front ++ (ahead ++ more)) written n
ran_next a c front ahead more written n ran = ran_as a c _ _ written written n n (append_assoc front ahead more) refl refl ran

-- ---- before the first turn

pub played_first : (a : Moment) (r : Reading) (s : SessionFields) → r.ahead ≡ [] → r.passed ≡ 0 → s ≡ empty → Played a a r s 1
played_first a r s none zeroth is = record {
  executed = none_executed a.outside;
  ran = record {
    read = subst (Consumes a.script.left a.script.left) (sym none) (Consumes-nil a.script.left);
    reads = omega arith;
    wrote = Appends-nil a.out.held;
    put = refl;
  };
  reads = omega arith;
  at = sym is;
  passed = zeroth;
  numbered = refl;
}

-- ---- one turn more

module _ (a b c : Moment) (old : Reading) (line consumed : List ℕ) (s : SessionFields) (number : ℕ) (p : Played a b old s number) (took : Takes b.script c.script consumed 1) where
  -- the lines before, and the bytes behind them that were read
  abbrev e : Executed a.outside b.outside
  e = p.executed

  abbrev rest : List ℕ
  rest = old.ahead ++ consumed

  wrote_more : (text : List ℕ) (puts : ℕ) → Writes b.out c.out text puts → Ran a c (script_of e ++ rest) (printed e ++ text) (puts_before e + puts)
  wrote_more text puts writes =
      ran_next a c (script_of e) old.ahead consumed (printed e ++ text) (puts_before e + puts) (ran_on a b c (script_of e ++ old.ahead) consumed (printed e) text (puts_before e) puts p.ran p.reads took writes)

  wrote_none : c.out ≡ b.out → Ran a c (script_of e ++ rest) (printed e) (puts_before e)
  wrote_none same = ran_next a c (script_of e) old.ahead consumed (printed e) (puts_before e) (ran_silent a b c (script_of e ++ old.ahead) consumed (printed e) (puts_before e) p.ran p.reads took same)

  comes_next : Comes old.passed c.script.left rest line → Comes (offset_of e) c.script.left rest line
  comes_next comes = subst (λ (n : ℕ). Comes n c.script.left rest line) p.passed comes

  over_next : IsOverLimit old.passed rest → IsOverLimit (offset_of e) rest
  over_next over = subst (λ (n : ℕ). IsOverLimit n rest) p.passed over

  fault_next : fault_line number ≡ fault_line (next_number e)
  fault_next = ap fault_line p.numbered

  does_next : (NextLine : List ℕ → Type 0) (s' : SessionFields) (cmd : CommandFields) (text : List ℕ) → NextLine line → Spells line cmd → Does b.outside c.outside s cmd s' text
      → DoesNext e c.outside NextLine s' text
  does_next NextLine s' cmd text next spelled does = record {
    line = line;
    next_line = next;
    command = cmd;
    spelled = spelled;
    does = subst (λ (x : SessionFields). Does b.outside c.outside x cmd s' text) (sym p.at) does;
  }

  stops_next : (why : Stop) (s' : SessionFields) (cmd : CommandFields) → Comes old.passed c.script.left rest line → Spells line cmd → IsStopped why b.outside c.outside s cmd s'
      → StopsNext e why c.outside c.script.left rest s'
  stops_next why s' cmd comes spelled stopped = record {
    line = line;
    next_line = comes_next comes;
    command = cmd;
    spelled = spelled;
    stopped = subst (λ (x : SessionFields). IsStopped why b.outside c.outside x cmd s') (sym p.at) stopped;
  }

  book_before : (s' : SessionFields) (B : BookFields) → s' ≡ s → IsBook s' B → IsBook e.last B
  book_before s' B same is = subst (λ (x : SessionFields). IsBook x B) (same ∙ sym p.at) is

  -- the script ended behind a newline
  pub ends_done : rest ≡ [] → IsAtEnd c.script.left → c.out ≡ b.out → c.outside ≡ b.outside → Ends a c s Done
  unfolding EndsBy
  ends_done none end out same = λ B book. (
    end,
    inl (
      under a.outside b.outside c.outside e same,
      ran_as a c _ _ _ _ _ _ (ap (λ (t : List ℕ). script_of e ++ t) none ∙ append-nil (script_of e)) refl refl (wrote_none out),
      book_before s B refl book,
    ),
  )

  -- the source met a fault
  pub ends_broken : IsPart old.passed rest → c.out ≡ b.out → c.outside ≡ b.outside → Ends a c s ReadFault
  unfolding EndsBy
  ends_broken part out same = λ B book. (under a.outside b.outside c.outside e same, rest, wrote_none out, subst (λ (n : ℕ). IsPart n rest) p.passed part, book_before s B refl book)

  -- memory ran out
  pub ends_short : (s' : SessionFields) → s' ≡ s → c.out ≡ b.out → c.outside ≡ b.outside → Ends a c s' Memory
  unfolding EndsBy
  ends_short s' still out same = λ B book. (b.outside, e, rest, s', wrote_none out, inl (same, still ∙ sym p.at), book)

  -- which line is bad was not written whole
  complains_cut : (s' : SessionFields) → s' ≡ s → HasNoCommand (offset_of e) c.script.left rest ⊎ IsOverLimit (offset_of e) rest → c.outside ≡ b.outside
      → WritesFront b.out c.out (fault_line number) → Ends a c s' WriteFault
  unfolding EndsBy
  complains_cut s' still bad same w = λ B book. (
    b.outside,
    e,
    rest,
    s',
    w.front,
    w.lost,
    wrote_more w.front 1 w.writes,
    subst (λ (text : List ℕ). CanPrint e c.outside c.script.left rest s' text) w.parts (inr (bad, same, still ∙ sym p.at, fault_next)),
    book,
  )

  complains_whole : Writes b.out c.out (fault_line number) 1 → Ran a c (script_of e ++ rest) (printed e ++ fault_line (next_number e)) (puts_before e + 1)
  complains_whole writes = ran_as a c _ _ _ _ _ _ refl (ap (λ (t : List ℕ). printed e ++ t) fault_next) refl (wrote_more (fault_line number) 1 writes)

  -- a line is too long, or the script
  pub ends_over : IsOverLimit old.passed rest → c.outside ≡ b.outside → Writes b.out c.out (fault_line number) 1 → Ends a c s Over
  unfolding EndsBy
  ends_over over same writes = λ B book. (under a.outside b.outside c.outside e same, rest, complains_whole writes, over_next over, book_before s B refl book)

  pub over_unsaid : (end : End) → IsOverLimit old.passed rest → c.outside ≡ b.outside → Prints b.out c.out (fault_line number) (Err end) → Ends a c s end
  over_unsaid WriteFault over same h = complains_cut s refl (inr (over_next over)) same h
  over_unsaid Memory over same h = ends_short s refl h same
  over_unsaid Done over same h = absurd h
  over_unsaid Fault over same h = absurd h
  over_unsaid ReadFault over same h = absurd h
  over_unsaid NoNonce over same h = absurd h
  over_unsaid Over over same h = absurd h

  -- ---- a line comes

  -- its command was done, and its text not written whole
  text_cut : (s' : SessionFields) (cmd : CommandFields) (text : List ℕ) → Comes old.passed c.script.left rest line → Spells line cmd → Does b.outside c.outside s cmd s' text → WritesFront b.out c.out text
      → Ends a c s' WriteFault
  unfolding EndsBy
  text_cut s' cmd text comes spelled does w = λ B book. (
    b.outside,
    e,
    rest,
    s',
    w.front,
    w.lost,
    wrote_more w.front 1 w.writes,
    subst (λ (text : List ℕ). CanPrint e c.outside c.script.left rest s' text) w.parts (inl (w.some, does_next (Comes (offset_of e) c.script.left rest) s' cmd text (comes_next comes) spelled does)),
    book,
  )

  -- no words could be drawn for it
  ends_dry : (s' : SessionFields) (cmd : CommandFields) → Comes old.passed c.script.left rest line → Spells line cmd → IsStopped stop.NoNonce b.outside c.outside s cmd s' → c.out ≡ b.out → Ends a c s' NoNonce
  unfolding EndsBy
  ends_dry s' cmd comes spelled stopped out = λ B book.
      let still = dry_stays b.outside c.outside s cmd s' stopped in
      let same : s' ≡ e.last = still ∙ sym p.at in (
        b.outside,
        e,
        rest,
        wrote_none out,
        subst (λ (x : SessionFields). StopsNext e stop.NoNonce c.outside c.script.left rest x) same (stops_next stop.NoNonce s' cmd comes spelled stopped),
        book_before s' B still book,
      )

  -- memory ran out over it
  stopped_short : (s' : SessionFields) (cmd : CommandFields) → Comes old.passed c.script.left rest line → Spells line cmd → IsStopped stop.Memory b.outside c.outside s cmd s' → c.out ≡ b.out → Ends a c s' Memory
  unfolding EndsBy
  stopped_short s' cmd comes spelled stopped out = λ B book. (b.outside, e, rest, s', wrote_none out, inr (stops_next stop.Memory s' cmd comes spelled stopped), book)

  -- it spells no command
  ends_faulty : (s' : SessionFields) → s' ≡ s → Comes old.passed c.script.left rest line → SpellsNone line → c.outside ≡ b.outside → Writes b.out c.out (fault_line number) 1 → Ends a c s' Fault
  unfolding EndsBy
  ends_faulty s' still comes none same writes = λ B book.
      (under a.outside b.outside c.outside e same, rest, complains_whole writes, (line, comes_next comes, none), book_before s' B still book)

  spells_none : (result : Result (Unit {0}) End) → ¬ (result ≡ Err Memory) → SpellsNone line ⊎ (result ≡ Err Memory) → SpellsNone line
  spells_none result other (inl none) = none
  spells_none result other (inr short) = absurd (other short)

  pub answer_ends : (s' : SessionFields) (end : End) → Comes old.passed c.script.left rest line → Answers number line b.outside c.outside s s' b.out c.out (Err end) → Ends a c s' end
  answer_ends s' WriteFault comes (inl (cmd, spelled, (text, does, w))) = text_cut s' cmd text comes spelled does w
  answer_ends s' NoNonce comes (inl (cmd, spelled, (stopped, out))) = ends_dry s' cmd comes spelled stopped out
  answer_ends s' Memory comes (inl (cmd, spelled, (stopped, out))) = stopped_short s' cmd comes spelled stopped out
  answer_ends s' Done comes (inl (cmd, spelled, h)) = absurd h
  answer_ends s' Fault comes (inl (cmd, spelled, h)) = absurd h
  answer_ends s' ReadFault comes (inl (cmd, spelled, h)) = absurd h
  answer_ends s' Over comes (inl (cmd, spelled, h)) = absurd h
  answer_ends s' WriteFault comes (inr (same, still, none, w)) =
      complains_cut s' still (inl (line, comes_next comes, spells_none (Err WriteFault) (λ x. cc) none)) same w
  answer_ends s' Memory comes (inr (same, still, none, out)) = ends_short s' still out same
  answer_ends s' Fault comes (inr (same, still, none, (is, writes))) = ends_faulty s' still comes (spells_none (Err Fault) (λ x. cc) none) same writes
  answer_ends s' Done comes (inr (same, still, none, (is, writes))) = absurd (cc)
  answer_ends s' ReadFault comes (inr (same, still, none, (is, writes))) = absurd (cc)
  answer_ends s' NoNonce comes (inr (same, still, none, (is, writes))) = absurd (cc)
  answer_ends s' Over comes (inr (same, still, none, (is, writes))) = absurd (cc)

  -- it was the last one, which lacks its newline
  pub ends_last : (s' : SessionFields) (done : Unit {0}) → rest ≡ line → IsLastLine old.passed c.script.left line → Answers number line b.outside c.outside s s' b.out c.out (Ok done) → Ends a c s' Done
  unfolding EndsBy does_next
  ends_last s' done all last (inr (same, still, none, h)) = absurd h
  ends_last s' done all last (inl (cmd, spelled, (text, does, writes))) = λ B book.
      let here : IsLastLine (offset_of e) c.script.left line = subst (λ (n : ℕ). IsLastLine n c.script.left line) p.passed last in (
        last.at_end,
        inr (
          b.outside,
          e,
          s',
          text,
          does_next (IsLastLine (offset_of e) c.script.left) s' cmd text here spelled does,
          ran_as a c _ _ _ _ _ _ (ap (λ (t : List ℕ). script_of e ++ t) all) refl refl (wrote_more text (puts_of text) writes),
          book,
        ),
      )

  -- its newline was read
  pub line_played : (s' : SessionFields) (r : Reading) (done : Unit {0}) → Takes b.script c.script consumed 0 → IsEndedLine old.passed rest line r.ahead → r.passed ≡ old.passed + length line + 1
      → Answers number line b.outside c.outside s s' b.out c.out (Ok done) → Played a c r s' (number + 1)
  line_played s' r done all ended_one passed (inr (same, still, none, h)) = absurd h
  line_played s' r done all ended_one passed (inl (cmd, spelled, (text, does, writes))) =
      let fits = subst (λ (n : ℕ). n + length line + 1 ≤ script_limit) p.passed ended_one.fits in
      let does' = subst (λ (x : SessionFields). Does b.outside c.outside x cmd s' text) (sym p.at) does in
      let bytes : script_of e ++ rest ≡ ended (e.lines ++ line ∷ []) ++ r.ahead = ap (λ (t : List ℕ). script_of e ++ t) ended_one.parts ∙ sym (ended-more e.lines line r.ahead) in
      let seam = length-append (script_of e) old.ahead in
      let none_idle : c.script.calls.made ≤ a.script.calls.made + length (script_of e ++ rest) =
      omega (arith, p.reads, all.reads, seam, length-append (script_of e) rest, length-append old.ahead consumed) in
      record {
        executed = executed_more a.outside b.outside c.outside e line cmd s' text ended_one.is_line fits spelled does';
        ran = ran_as a c _ _ _ _ _ _ bytes (sym (concat-more e.texts text)) (sym (count-more e.texts text)) (wrote_more text (puts_of text) writes);
        reads = subst (λ (xs : List ℕ). c.script.calls.made ≤ a.script.calls.made + length xs) bytes none_idle;
        at = refl;
        passed = omega (arith, passed, p.passed, ended-length e.lines line);
        numbered = omega (arith, p.numbered, length_push e.lines line);
      }

-- ---- a turn, by what was read

widened : {source source' : SourceTold} {bytes : List ℕ} → Takes source source' bytes 0 → Takes source source' bytes 1
widened took = takes_more _ _ _ 0 1 (omega arith) took

pub turn_line : (a b c : Moment) (old new r : Reading) (s s' : SessionFields) (number : ℕ) (result : Result (Unit {0}) End) → Played a b old s number
    → ReadsLine b.script c.script old new (Ok Line) → r.ahead ≡ new.ahead → r.passed ≡ new.passed → Answers number new.line b.outside c.outside s s' b.out c.out result
    → PlaysOn a c r s' number result
turn_line a b c old new r s s' number (Ok done) p (consumed, took, (found, passed)) ahead same answers =
    line_played a b c old new.line consumed s number p (widened took) s' r done took (subst (λ (more : List ℕ). IsEndedLine old.passed (old.ahead ++ consumed) new.line more) (sym ahead) found) (same ∙ passed) answers
turn_line a b c old new r s s' number (Err end) p (consumed, took, (found, passed)) ahead same answers =
    answer_ends a b c old new.line consumed s number p (widened took) s' end (inl (new.ahead, found)) answers

pub turn_last : (a b c : Moment) (old new : Reading) (s s' : SessionFields) (number : ℕ) (done : Unit {0}) → Played a b old s number → ReadsLine b.script c.script old new (Ok Last)
    → Answers number new.line b.outside c.outside s s' b.out c.out (Ok done) → Ends a c s' Done
turn_last a b c old new s s' number done p (consumed, took, (all, last)) answers = ends_last a b c old new.line consumed s number p took s' done all last answers

pub turn_last_stops : (a b c : Moment) (old new : Reading) (s s' : SessionFields) (number : ℕ) (end : End) → Played a b old s number → ReadsLine b.script c.script old new (Ok Last)
    → Answers number new.line b.outside c.outside s s' b.out c.out (Err end) → Ends a c s' end
turn_last_stops a b c old new s s' number end p (consumed, took, (all, last)) answers =
    answer_ends a b c old new.line consumed s number p took s' end (inr (all, last)) answers

pub turn_end : (a b c : Moment) (old new : Reading) (s : SessionFields) (number : ℕ) → Played a b old s number → ReadsLine b.script c.script old new (Ok AtEnd) → c.out ≡ b.out → c.outside ≡ b.outside
    → Ends a c s Done
turn_end a b c old new s number p (consumed, took, (none, end)) out same = ends_done a b c old [] consumed s number p took none end out same

pub turn_over : (a b c : Moment) (old new : Reading) (s : SessionFields) (number : ℕ) → Played a b old s number → ReadsLine b.script c.script old new (Ok TooLong) → c.outside ≡ b.outside
    → Writes b.out c.out (fault_line number) 1 → Ends a c s Over
turn_over a b c old new s number p (consumed, took, over) same writes = ends_over a b c old [] consumed s number p took over same writes

pub turn_over_stops : (a b c : Moment) (old new : Reading) (s : SessionFields) (number : ℕ) (end : End) → Played a b old s number → ReadsLine b.script c.script old new (Ok TooLong) → c.outside ≡ b.outside
    → Prints b.out c.out (fault_line number) (Err end) → Ends a c s end
turn_over_stops a b c old new s number end p (consumed, took, over) same prints = over_unsaid a b c old [] consumed s number p took end over same prints

pub turn_broken : (a b c : Moment) (old new : Reading) (s : SessionFields) (number : ℕ) → Played a b old s number → ReadsLine b.script c.script old new (Err read.Failed) → c.out ≡ b.out
    → c.outside ≡ b.outside → Ends a c s ReadFault
turn_broken a b c old new s number p (consumed, took, part) out same = ends_broken a b c old [] consumed s number p took part out same

pub turn_short : (a b c : Moment) (old new : Reading) (s : SessionFields) (number : ℕ) → Played a b old s number → ReadsLine b.script c.script old new (Err read.Memory) → c.out ≡ b.out
    → c.outside ≡ b.outside → Ends a c s Memory
turn_short a b c old new s number p (consumed, took, any) out same = ends_short a b c old [] consumed s number p took s refl out same

-- ---- so it goes on to the end

-- the counts are those of a script within its limit
pub played_bounds : (a b : Moment) (r : Reading) (s : SessionFields) (number : ℕ) → Played a b r s number → (r.passed ≤ script_limit) × (number ≤ script_limit + 1)
played_bounds a b r s number p = (omega (arith, p.passed, p.executed.fits), omega (arith, p.numbered, p.executed.fits, ended-least p.executed.lines))

-- an end before anything was read
pub ends_at_once : (a : Moment) (s : SessionFields) → s ≡ empty → Ends a a s Memory
unfolding EndsBy
ends_at_once a s is = λ B book.
    let ran : Ran a a [] [] 0 = record { read = Consumes-nil a.script.left; reads = omega arith; wrote = Appends-nil a.out.held; put = refl } in
    (a.outside, none_executed a.outside, [], s, ran, inl (refl, is), book)

-- a session in which nothing was done ends with an empty book
abbrev none_open : List ℕ
none_open = []

none_those : (is_so : ℕ → Bool) → ((n : ℕ) → ¬ (is_so n ≡ true)) → AreThose is_so none_open
none_those is_so none = record { rising = tt; each = λ n. ((λ has. absurd (omega (arith, has.1))), (λ is. absurd (none n is))) }

nothing_ended : IsBook empty (book_or_empty None)
nothing_ended = record {
  ended = record {
    polls = none_open;
    opened = none_those (is_open []) (λ n is. cc is);
    releases = none_open;
    unsettled = none_those (is_unsettled []) (λ n is. cc is);
    parts = refl;
  };
  marks = refl;
  legal = tt;
}

-- an end without a session
pub ends_unbegun : (a : Moment) → EndsBy a a (book_or_empty None) Memory
ends_unbegun a = ends_at_once a empty refl (book_or_empty None) nothing_ended
