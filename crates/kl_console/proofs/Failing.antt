-- Faults over several calls.
use Rattle.std.proofs.Common.{◌≡◌, ap, ◌∙◌, arith, Result, Ok, Err}
use Rattle.kl_io.specs.Calls.{Calls, Counts, one_more}
use Rattle.kl_console.specs.Calls.{FailsAtLast}

-- none of some calls
pub fails_none : (a b : Calls) (F : Type 0) → b.faults ≡ a.faults → ¬ F → FailsAtLast a b F
fails_none a b F same none = record { met = λ f. absurd (none f); unmet = λ _. same; later = omega (arith, same) }

-- of some calls and then more, where none of the first did
pub fails_behind : (a b c : Calls) (F : Type 0) → b.faults ≡ a.faults → FailsAtLast b c F → FailsAtLast a c F
fails_behind a b c F same h = record {
  met = λ f. ((h.met f).0 ∙ ap one_more same, (h.met f).1);
  unmet = λ n. h.unmet n ∙ same;
  later = omega (arith, h.later, same);
}

-- by other words
pub fails_as : (a b : Calls) (F G : Type 0) → (F → G) → (G → F) → FailsAtLast a b F → FailsAtLast a b G
fails_as a b F G to from h = record { met = λ g. h.met (from g); unmet = λ n. h.unmet (λ f. n (to f)); later = h.later }

-- ---- Answers that meet a fault

pub of_err : {T E : Type 0} (r : Result T E) (d e : E) → r ≡ Err d → r ≡ Err e → d ≡ e
of_err r d e one two = cc

pub not_err : {T E : Type 0} (r : Result T E) (x : T) (e : E) → r ≡ Ok x → ¬ (r ≡ Err e)
not_err r x e one two = cc
