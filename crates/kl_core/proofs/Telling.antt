-- What a desk tells after a call.
use Rattle.std.proofs.Common.{◌≡◌, ℕ, suc, ◌+◌, ◌<◌, ◌≤◌, List, [], ◌∷◌, ◌++◌, length, ap, sym, ◌∙◌, arith, append-nil}
use Rattle.std.specs.List.{AllByRecursion}
use Rattle.std.proofs.lemmas.List.Elements.{All-from_recursion}
use Rattle.kl_history.specs.declared.record.Record.{Record}
use Rattle.kl_history.specs.Records.{Past}
use Rattle.kl_history.specs.Legal.{Legal}
use Rattle.kl_core.specs.Books.{BookFields, past, with_more, with_marks}
use Rattle.kl_core.specs.Desk.{places_from, Event, Calls, nothing, Marks}
use Rattle.kl_core.specs.Whole.{all_told}

places_from-append : (n : ℕ) (xs ys : List Record) → places_from n (xs ++ ys) ≡ places_from n xs ++ places_from (n + length xs) ys
places_from-append n [] ys = ap (λ k. places_from k ys) (omega arith)
places_from-append n (x ∷ xs) ys = ap (λ ps. n ∷ ps) (places_from-append (suc n) xs ys ∙ ap (λ k. places_from (suc n) xs ++ places_from k ys) (omega arith))

places_below : (n m : ℕ) (xs : List Record) → n + length xs ≤ m → AllByRecursion (λ place. place < m) (places_from n xs)
places_below n m [] le = tt
places_below n m (x ∷ xs) le = (omega arith, places_below (suc n) m xs (omega arith))

-- a call of a book, which makes every record of its history and marks its notices
event : (b b' : BookFields) (made : List Record) (marked : ℕ) → b'.history ≡ b.history ++ made → b'.marks ≡ b.marks + marked → Legal b'.history
    → Event (all_told b) (all_told b') made marked b
event b b' made marked grown marks legal = record {
  known = ([], append-nil b.history);
  below = All-from_recursion _ _ (places_below 0 (length b.history) b.history (omega arith));
  least = omega arith;
  seen = grown;
  mine = ap (λ xs. places_from 0 xs) grown ∙ places_from-append 0 b.history made ∙ ap (λ k. places_from 0 b.history ++ places_from k made) (omega arith);
  marks = marks;
  legal = legal;
}

pub book_calls : (b b' : BookFields) (makes : Past → List Record) (Answer : Past → Type 0) → b' ≡ with_more (makes (past b)) b → Legal b'.history → Answer (past b)
    → Calls (all_told b) (all_told b') makes Answer
book_calls b b' makes Answer grown legal answer =
    let same : b'.marks ≡ b.marks = ap (λ (v : BookFields). v.marks) grown in
    (b, event b b' (makes (past b)) 0 (ap (λ (v : BookFields). v.history) grown) (omega arith) legal, answer)

-- one that makes none
pub book_reads : (b : BookFields) (Answer : Past → Type 0) → Legal b.history → Answer (past b) → Calls (all_told b) (all_told b) nothing Answer
book_reads b Answer legal answer = (b, event b b [] 0 (sym (append-nil b.history)) (omega arith) legal, answer)

pub book_marks : (b b' : BookFields) (marked : ℕ) (Answer : BookFields → Type 0) → b' ≡ with_marks marked b → Legal b'.history → Answer b
    → Marks (all_told b) (all_told b') marked Answer
book_marks b b' marked Answer same legal answer =
    (b, event b b' [] marked (ap (λ (v : BookFields). v.history) same ∙ sym (append-nil b.history)) (ap (λ (v : BookFields). v.marks) same) legal, answer)

pub book_tells : (b : BookFields) (Answer : BookFields → Type 0) → Legal b.history → Answer b → Marks (all_told b) (all_told b) 0 Answer
book_tells b Answer legal answer = (b, event b b [] 0 (sym (append-nil b.history)) (omega arith) legal, answer)
