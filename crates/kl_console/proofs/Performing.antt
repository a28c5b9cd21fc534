-- What a command did, and what was written of its text.
use Rattle.std.proofs.Common.{◌≡◌, ℕ, List, Result, Ok, Err, refl, sym, subst}
use Rattle.std.specs.Result.{OnOk, IfErr, IsErrAnd}
use Rattle.kl_io.specs.Told.{SinkTold}
use Rattle.kl_script.specs.Commands.{CommandFields}
use Rattle.kl_session.specs.declared.stop.Stop.{Stop}
use Rattle.kl_session.specs.declared.stop.Stop.TheVariants as stop
use Rattle.kl_session.specs.Outside.{Outside}
use Rattle.kl_session.specs.Calls.{SessionFields}
use Rattle.kl_session.specs.Session.{Does}
use Rattle.kl_session.specs.Stopped.{IsStopped}
use Rattle.kl_console.specs.Script.{puts_of}
use Rattle.kl_console.specs.Inner.Printing.{Writes, WritesFront}
use Rattle.kl_console.specs.Inner.Turns.{Performs, end_of}
use Rattle.kl_console.specs.declared.ending.End.{End}
use Rattle.kl_console.specs.declared.ending.End.TheVariants.{WriteFault}

module _ (o o' : Outside) (s s' : SessionFields) (c : CommandFields) where
  performs : (text : List ℕ) (out out' : SinkTold) (result : Result (Unit {0}) End) → Does o o' s c s' text
      → OnOk result (Writes out out' text (puts_of text)) → IfErr result (λ e. (e ≡ WriteFault) × WritesFront out out' text)
      → Performs o o' s s' c out out' result
  performs text out out' (Ok done) does writes front = (text, does, writes)
  performs text out out' (Err WriteFault) does writes front = (text, does, front.1)
  performs text out out' (Err _) does writes front = cc front.0

  -- the text is handed on as these bytes
  pub performs_done : (text bytes : List ℕ) (out out' : SinkTold) (result : Result (Unit {0}) End) → bytes ≡ text → Does o o' s c s' text
      → OnOk result (Writes out out' bytes (puts_of bytes)) → IfErr result (λ e. (e ≡ WriteFault) × WritesFront out out' bytes)
      → Performs o o' s s' c out out' result
  performs_done text bytes out out' result same does writes front =
      performs bytes out out' result (subst (λ (t : List ℕ). Does o o' s c s' t) (sym same) does) writes front

  stops : (why : Stop) (out : SinkTold) → IsStopped why o o' s c s' → Performs o o' s s' c out out (Err (end_of why))
  stops stop.NoNonce out stopped = (stopped, refl)
  stops stop.Memory out stopped = (stopped, refl)

  pub performs_none : (why : Stop) (out : SinkTold) (result : Result (Unit {0}) End) → IsErrAnd result (λ e. e ≡ end_of why) → IsStopped why o o' s c s'
      → Performs o o' s s' c out out result
  performs_none why out (Ok done) is stopped = absurd is
  performs_none why out (Err e) is stopped = subst (λ (x : End). Performs o o' s s' c out out (Err x)) (sym is) (stops why out stopped)
