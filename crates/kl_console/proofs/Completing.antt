-- A run that lacks nothing but memory and words ends with 0, 70 or 6.
use Rattle.std.proofs.Common.{◌≡◌, ◌≢◌, ◌⊎◌, ℕ, ◌+◌, ◌≤◌, List, [], ◌∷◌, ◌++◌, length, All, Option, None, Some, inl, inr, refl, sym, ap, ◌∙◌, subst}
use Rattle.std.proofs.Common.{arith, append_assoc, length-append}
use Rattle.std.proofs.lemmas.List.Elements.{All-head, All-weaker, All-nil, All-cons, All-contains}
use Rattle.std.specs.Prelude.{⊤}
use Rattle.kl_io.specs.Calls.{Calls, Counts, Rose}
use Rattle.kl_script.specs.Commands.{VerifierCommandFields, begin, CommandFields, nothing, to_verifier, to_registrar, Spells}
use Rattle.kl_script.specs.declared.command.RegistrarCommand.{RegistrarCommand}
use Rattle.kl_script.specs.declared.command.RegistrarCommand.TheVariants.{Register}
use Rattle.kl_registrar.specs.Calls.{Log}
use Rattle.kl_core.specs.Books.{BookFields}
use Rattle.kl_session.specs.declared.stop.Stop.TheVariants.{NoNonce}
use Rattle.kl_session.specs.Outside.{Outside}
use Rattle.kl_session.specs.Calls.{VerifierFields, SessionFields, empty}
use Rattle.kl_session.specs.Drawing.{HasFewer, DrawsNone}
use Rattle.kl_session.specs.Stopped.{VerifierStopped, RegistrarStopped, IsStopped}
use Rattle.kl_session.proofs.Opened.{all_right}
use Rattle.kl_session.proofs.Moments.{consumed}
use Rattle.kl_session.proofs.GoingOn.{follows_on}
use Rattle.kl_console.specs.Calls.{FailsAtLast}
use Rattle.kl_console.specs.Lines.{IsLine, Comes, IsOverLimit, script_limit, ended}
use Rattle.kl_console.specs.Script.{Executed, SpellsNone}
use Rattle.kl_console.specs.Run.{Moment, Ran, IsFaulty, LacksWords, IsOver, EndsAs, IsStatus}
use Rattle.kl_console.specs.Complete.{IsCommand, AreCommands, IsComplete, nonce_draw, verifier_draw, registrar_draw, drawn_for, WantsWords}
use Rattle.kl_console.proofs.Coming.{nothing_comes, nothing_over, one_comes, comes_within, comes_on, over_on, first_line, not_bare, either_further}

-- ---- behind any lines of a script of commands comes a command, or nothing is left

abbrev CommandComes : ℕ → List ℕ → Type 0
CommandComes offset bytes = (bytes ≡ []) ⊎ ((line : List ℕ) × Comes offset None bytes line × IsCommand line)

not_empty : (line more : List ℕ) → line ++ 10 ∷ more ≢ []
not_empty line more none = omega (arith, ap (λ (all : List ℕ). length all) none, length-append line (10 ∷ more))

last_comes : (offset : ℕ) (bytes last : List ℕ) → bytes ≡ last → (last ≢ [] → IsCommand last) → offset + length bytes ≤ script_limit → CommandComes offset bytes
last_comes offset bytes [] same bare short = inl same
last_comes offset bytes (b ∷ last) same bare short =
    let some : b ∷ last ≢ [] = λ none. omega (arith, ap (λ (all : List ℕ). length all) none) in
    let is = bare some in
    let fits : offset + length (b ∷ last) ≤ script_limit = omega (arith, short, ap (λ (all : List ℕ). length all) same) in
    inr (b ∷ last, inr (same, record { some = some; part = record { is_line = is.0; fits = fits }; at_end = tt }), is)

line_comes : (offset : ℕ) (bytes line more : List ℕ) → bytes ≡ line ++ 10 ∷ more → IsCommand line → offset + length bytes ≤ script_limit
    → CommandComes offset bytes
line_comes offset bytes line more parts is short =
    let fits : offset + length line + 1 ≤ script_limit =
    omega (arith, short, ap (λ (all : List ℕ). length all) parts, length-append line (10 ∷ more)) in
    inr (line, inl (more, record { parts = parts; is_line = is.0; fits = fits }), is)

module _ {script : List ℕ} (is : AreCommands script) (lines : List (List ℕ)) (bytes : List ℕ) (cut : script ≡ ended lines ++ bytes) where
  short_behind : length (ended lines) + length bytes ≤ script_limit
  short_behind = omega (arith, is.short, ap (λ (all : List ℕ). length all) cut, length-append (ended lines) bytes)

  -- it has more lines than these
  more_comes : (more : List (List ℕ)) → is.lines ≡ lines ++ more → bytes ≡ ended more ++ is.last → CommandComes (length (ended lines)) bytes
  more_comes [] same rest = last_comes (length (ended lines)) bytes is.last rest is.bare short_behind
  more_comes (line ∷ more) same rest =
      let each = all_right IsCommand lines (line ∷ more) (subst (λ (ls : List (List ℕ)). All IsCommand ls) same is.each) in
      line_comes (length (ended lines)) bytes line (ended more ++ is.last) (rest ∙ first_line line more is.last)
      (All-head IsCommand line more each) short_behind

  -- it has none of them in its last piece
  none_further : (more : List (List ℕ)) → is.last ≡ ended more ++ bytes → CommandComes (length (ended lines)) bytes
  none_further [] rest = last_comes (length (ended lines)) bytes is.last (sym rest) is.bare short_behind
  none_further (line ∷ more) rest =
      let parts = rest ∙ first_line line more bytes in
      let some : is.last ≢ [] = λ none. not_empty line (ended more ++ bytes) (sym parts ∙ none) in
      absurd (not_bare is.last line is.last (ended more ++ bytes) parts refl (is.bare some).0.whole)

  command_comes : All IsLine lines → CommandComes (length (ended lines)) bytes
  command_comes each =
      elim (either_further lines is.lines bytes is.last each (All-weaker IsCommand IsLine (λ l c. c.0) is.lines is.each) (sym cut ∙ is.parts)) [
        | inl f ↦ more_comes f.more f.lines_are f.rest_is
        | inr f ↦ none_further f.more f.rest_is
      ]

-- so no line comes that spells none, and no limit is passed
none_faulty : (offset : ℕ) (bytes line : List ℕ) → CommandComes offset bytes → Comes offset None bytes line → ¬ (SpellsNone line)
none_faulty offset bytes line (inl none) comes spells = nothing_comes offset bytes line none comes
none_faulty offset bytes line (inr (other, also, is)) comes spells =
    spells is.1.0 (subst (λ (l : List ℕ). Spells l is.1.0) (one_comes offset bytes other line also comes) is.1.1)

none_over : (offset : ℕ) (bytes : List ℕ) → offset ≤ script_limit → CommandComes offset bytes → ¬ (IsOverLimit offset bytes)
none_over offset bytes fits (inl none) over = nothing_over offset bytes none fits over
none_over offset bytes fits (inr (line, comes, is)) over = comes_within offset bytes line comes over

-- ---- too few words could be drawn

-- of so many bytes, where any were to be drawn: a draw that took nothing met a fault, or fewer are left
pub record TakesNone (draw : Option ℕ) (o o' : Outside) : Type 0 where
  pub count : ℕ
  pub wanted : draw ≡ Some count
  pub cause : Counts o.words.calls o'.words.calls ⊤ ⊎ HasFewer o'.words.left count

takes_none : (draw : Option ℕ) (n : ℕ) (o o' : Outside) → draw ≡ Some n → DrawsNone n o o' → TakesNone draw o o'
takes_none draw n o o' wanted none = record {
  count = n;
  wanted = wanted;
  cause = elim none.cause [
    | inl met ↦ inl met
    | inr few ↦ inr (subst (λ (left : Option (List ℕ)). HasFewer left n) (sym none.left) few.0)
  ];
}

verifier_takes : (o o' : Outside) (s : VerifierFields) (c : VerifierCommandFields) (s' : VerifierFields) → VerifierStopped NoNonce o o' s c s'
    → TakesNone (verifier_draw c) o o'
verifier_takes o o' s (begin b) s' h = takes_none (nonce_draw b.nonce) 16 o o' (ap (λ (named : Option (List ℕ)). nonce_draw named) h.1.0) h.1.1
verifier_takes o o' s _ s' h = absurd h.1

registrar_takes : (o o' : Outside) (calls : Log) (c : RegistrarCommand) (calls' : Log) → RegistrarStopped NoNonce o o' calls c calls'
    → TakesNone (registrar_draw c) o o'
registrar_takes o o' calls (Register r) calls' h = takes_none (Some 32) 32 o o' refl h.1
registrar_takes o o' calls _ calls' h = absurd h.1

draws_none : (o o' : Outside) (s : SessionFields) (c : CommandFields) (s' : SessionFields) → IsStopped NoNonce o o' s c s' → TakesNone (drawn_for c) o o'
draws_none o o' s nothing s' h = absurd h
draws_none o o' s (to_verifier c) s' h = verifier_takes o o' s.verifier c s'.verifier h.0
draws_none o o' s (to_registrar c) s' h = registrar_takes o o' s.calls c s'.calls h.0

-- a line that comes whatever is left comes where nothing is
comes_last : (offset : ℕ) (bytes line : List ℕ) → Comes offset None bytes line → Comes offset (Some []) bytes line
comes_last offset bytes line (inl whole) = inl whole
comes_last offset bytes line (inr (is, bare)) = inr (is, record { some = bare.some; part = bare.part; at_end = refl })

-- ---- how the run ends

module _ {before after : Moment} (is : IsComplete before after) where
  module _ {then : Outside} (s : Executed before.outside then) (rest : List ℕ) (written : List ℕ) (puts : ℕ)
      (ran : Ran before after (ended s.lines ++ rest) written puts) where
    took : (left : List ℕ) × (after.script.left ≡ Some left) × (is.script ≡ (ended s.lines ++ rest) ++ left)
    took = consumed is.script before.script.left after.script.left (ended s.lines ++ rest) is.whole ran.read

    comes_next : CommandComes (length (ended s.lines)) (rest ++ took.0)
    comes_next = command_comes is.commands s.lines (rest ++ took.0) (took.2 ∙ append_assoc (ended s.lines) rest took.0) s.each

  not_faulty : (B : BookFields) → ¬ (IsFaulty before after B)
  not_faulty B (s, rest, ran, (line, comes, none), _) =
      let took = took s rest _ _ ran in
      let told = subst (λ (left : Option (List ℕ)). Comes (length (ended s.lines)) left rest line) took.1 comes in
      none_faulty (length (ended s.lines)) (rest ++ took.0) line (comes_next s rest _ _ ran) (comes_on (length (ended s.lines)) took.0 rest line told) none

  not_over : (B : BookFields) → ¬ (IsOver before after B)
  not_over B (s, rest, ran, over, _) =
      let left = (took s rest _ _ ran).0 in
      none_over (length (ended s.lines)) (rest ++ left) s.fits (comes_next s rest _ _ ran) (over_on (length (ended s.lines)) left rest over)

  -- then too few words are left at the end for the line that comes
  too_few : (B : BookFields) → LacksWords before after B → WantsWords is.script after.outside.words.left
  too_few B (then, s, rest, ran, stops, _) =
      let took = took s rest _ _ ran in
      let told = subst (λ (left : Option (List ℕ)). Comes (length (ended s.lines)) left rest stops.line) took.1 stops.next_line in
      let on = follows_on before.outside then empty s.commands s.texts s.last s.follows in
      let none = draws_none then after.outside s.last stops.command s.last stops.stopped in
      record {
        line = stops.line;
        there = record {
          front = s.lines;
          each = s.each;
          bytes = rest ++ took.0;
          parts = took.2 ∙ append_assoc (ended s.lines) rest took.0;
          comes = comes_last (length (ended s.lines)) (rest ++ took.0) stops.line (comes_on (length (ended s.lines)) took.0 rest stops.line told);
        };
        command = stops.command;
        spelled = stops.spelled;
        count = none.count;
        wanted = none.wanted;
        fewer = elim none.cause [
          | inl met ↦ absurd (is.drawn (omega (arith, (met.met tt).0, on.drawn)))
          | inr few ↦ few
        ];
      }

-- the counts of faults say so of the read and the put that failed
met_rose : (old new : Calls) (Fault : Type 0) → FailsAtLast old new Fault → Fault → Rose old.faults new.faults
met_rose old new Fault fails met = omega (arith, (fails.met met).0)

abbrev Completes : Moment → Moment → List ℕ → BookFields → ℕ → Type 0
Completes before after script B status =
    EndsAs before after status B → status ≢ 2 → (status ≡ 0) ⊎ ((status ≡ 70) ⊎ ((status ≡ 6) × WantsWords script after.outside.words.left))

module _ {before after : Moment} (B : BookFields) (is : IsComplete before after) where
  by_status : All (Completes before after is.script B) (0 ∷ 2 ∷ 3 ∷ 4 ∷ 5 ∷ 6 ∷ 8 ∷ 70 ∷ [])
  by_status =
      let P = Completes before after is.script B in
      All-cons P 0 (2 ∷ 3 ∷ 4 ∷ 5 ∷ 6 ∷ 8 ∷ 70 ∷ []) (λ ends begun. inl refl)
      (All-cons P 2 (3 ∷ 4 ∷ 5 ∷ 6 ∷ 8 ∷ 70 ∷ []) (λ ends begun. absurd (begun refl))
      (All-cons P 3 (4 ∷ 5 ∷ 6 ∷ 8 ∷ 70 ∷ []) (λ ends begun. absurd (not_faulty is B (ends.fault refl)))
      (All-cons P 4 (5 ∷ 6 ∷ 8 ∷ 70 ∷ []) (λ ends begun. absurd (is.read (met_rose before.script.calls after.script.calls _ ends.read_cause refl)))
      (All-cons P 5 (6 ∷ 8 ∷ 70 ∷ []) (λ ends begun. absurd (is.written (met_rose before.out.calls after.out.calls _ ends.write_cause refl)))
      (All-cons P 6 (8 ∷ 70 ∷ []) (λ ends begun. inr (inr (refl, too_few is B (ends.nonce_fault refl))))
      (All-cons P 8 (70 ∷ []) (λ ends begun. absurd (not_over is B (ends.over refl)))
      (All-cons P 70 [] (λ ends begun. inr (inl refl)) (All-nil P))))))))

pub complete_run : (before after : Moment) (status : ℕ) (B : BookFields) → EndsAs before after status B → IsStatus status → status ≢ 2
    → (is : IsComplete before after) → (status ≡ 0) ⊎ ((status ≡ 70) ⊎ ((status ≡ 6) × WantsWords is.script after.outside.words.left))
complete_run before after status B ends among begun is =
    All-contains (Completes before after is.script B) (0 ∷ 2 ∷ 3 ∷ 4 ∷ 5 ∷ 6 ∷ 8 ∷ 70 ∷ []) status (by_status B is) among ends begun
