-- How a run ends, by the number with which it ends.
use Rattle.std.proofs.Common.{◌≡◌, None, refl, subst, ap, arith}
use Rattle.kl_core.specs.Books.{BookFields}
use Rattle.kl_console.specs.Calls.{FailsAtLast}
use Rattle.kl_console.specs.Run.{Moment, EndsAs, IsStatus, book_or_empty}
use Rattle.kl_console.specs.Inner.Turns.{EndsBy, status_of}
use Rattle.kl_console.specs.declared.ending.End.{End}
use Rattle.kl_console.specs.declared.ending.End.TheVariants.{Done, Fault, ReadFault, WriteFault, NoNonce, Over, Memory}
use Rattle.kl_console.proofs.Failing.{fails_as, fails_none}

-- no two ends have one number
pub one_end : (end other : End) → status_of end ≡ status_of other → end ≡ other
one_end Done Done is = refl
one_end Done Fault is = absurd (omega (arith, is))
one_end Done ReadFault is = absurd (omega (arith, is))
one_end Done WriteFault is = absurd (omega (arith, is))
one_end Done NoNonce is = absurd (omega (arith, is))
one_end Done Over is = absurd (omega (arith, is))
one_end Done Memory is = absurd (omega (arith, is))
one_end Fault Done is = absurd (omega (arith, is))
one_end Fault Fault is = refl
one_end Fault ReadFault is = absurd (omega (arith, is))
one_end Fault WriteFault is = absurd (omega (arith, is))
one_end Fault NoNonce is = absurd (omega (arith, is))
one_end Fault Over is = absurd (omega (arith, is))
one_end Fault Memory is = absurd (omega (arith, is))
one_end ReadFault Done is = absurd (omega (arith, is))
one_end ReadFault Fault is = absurd (omega (arith, is))
one_end ReadFault ReadFault is = refl
one_end ReadFault WriteFault is = absurd (omega (arith, is))
one_end ReadFault NoNonce is = absurd (omega (arith, is))
one_end ReadFault Over is = absurd (omega (arith, is))
one_end ReadFault Memory is = absurd (omega (arith, is))
one_end WriteFault Done is = absurd (omega (arith, is))
one_end WriteFault Fault is = absurd (omega (arith, is))
one_end WriteFault ReadFault is = absurd (omega (arith, is))
one_end WriteFault WriteFault is = refl
one_end WriteFault NoNonce is = absurd (omega (arith, is))
one_end WriteFault Over is = absurd (omega (arith, is))
one_end WriteFault Memory is = absurd (omega (arith, is))
one_end NoNonce Done is = absurd (omega (arith, is))
one_end NoNonce Fault is = absurd (omega (arith, is))
one_end NoNonce ReadFault is = absurd (omega (arith, is))
one_end NoNonce WriteFault is = absurd (omega (arith, is))
one_end NoNonce NoNonce is = refl
one_end NoNonce Over is = absurd (omega (arith, is))
one_end NoNonce Memory is = absurd (omega (arith, is))
one_end Over Done is = absurd (omega (arith, is))
one_end Over Fault is = absurd (omega (arith, is))
one_end Over ReadFault is = absurd (omega (arith, is))
one_end Over WriteFault is = absurd (omega (arith, is))
one_end Over NoNonce is = absurd (omega (arith, is))
one_end Over Over is = refl
one_end Over Memory is = absurd (omega (arith, is))
one_end Memory Done is = absurd (omega (arith, is))
one_end Memory Fault is = absurd (omega (arith, is))
one_end Memory ReadFault is = absurd (omega (arith, is))
one_end Memory WriteFault is = absurd (omega (arith, is))
one_end Memory NoNonce is = absurd (omega (arith, is))
one_end Memory Over is = absurd (omega (arith, is))
one_end Memory Memory is = refl

-- what is so of a run that ended with its number
pub ends_as : (a b : Moment) (B : BookFields) (end : End) → EndsBy a b B end → FailsAtLast a.script.calls b.script.calls (end ≡ ReadFault) → FailsAtLast a.out.calls b.out.calls (end ≡ WriteFault)
    → EndsAs a b (status_of end) B
unfolding EndsBy
ends_as a b B end ends read write =
    let by : (other : End) → status_of end ≡ status_of other → EndsBy a b B other = λ other is. subst (EndsBy a b B) (one_end end other is) ends in
    record {
      done = by Done;
      fault = by Fault;
      read_fault = by ReadFault;
      read_cause = fails_as _ _ _ _ (λ is. ap status_of is) (one_end end ReadFault) read;
      write_fault = by WriteFault;
      write_cause = fails_as _ _ _ _ (λ is. ap status_of is) (one_end end WriteFault) write;
      nonce_fault = by NoNonce;
      over = by Over;
      memory = by Memory;
    }

pub is_status : (end : End) → IsStatus (status_of end)
is_status Done = (0, omega arith, refl)
is_status Fault = (2, omega arith, refl)
is_status ReadFault = (3, omega arith, refl)
is_status WriteFault = (4, omega arith, refl)
is_status NoNonce = (5, omega arith, refl)
is_status Over = (6, omega arith, refl)
is_status Memory = (7, omega arith, refl)
