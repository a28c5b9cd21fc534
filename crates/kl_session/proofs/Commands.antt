-- What the calls of a session do to its history, to what it keeps and to its lines.
use Rattle.std.proofs.Common.{◌≡◌, ℕ, ◌≤◌, true, List, [], ◌∷◌, ◌++◌, Option, Some, None, Result, Ok, Err, ◌⊎◌, inl, inr}
use Rattle.std.proofs.Common.{refl, ap, sym, ◌∙◌, subst, arith}
use Rattle.std.specs.Option.{option_map_or}
use Rattle.kl_policy.specs.PolicyFields.{PolicyFields}
use Rattle.kl_appraise.specs.Terms.{TermsFields}
use Rattle.kl_incr.specs.Kept.{TicketFields}
use Rattle.kl_history.specs.declared.record.InstallWhy.{InstallWhy}
use Rattle.kl_history.specs.declared.record.InstallWhy.TheVariants.{Replace, Reactivate}
use Rattle.kl_history.specs.declared.record.Record.{Record}
use Rattle.kl_history.specs.declared.record.Record.TheVariants.{Install}
use Rattle.kl_history.specs.Records.{History, Past, past_of, is_open, is_unsettled, own, polls, releases_made}
use Rattle.kl_history.specs.LookBacks.{Installed, installed}
use Rattle.kl_history.specs.Legal.{Legal, IsLegalPast}
use Rattle.kl_history.proofs.Numbers.{open_drawn, drawn_bound}
use Rattle.kl_history.proofs.Rows.{poll_numbers, release_numbers, is_open-stays, is_unsettled-stays, polls_in_order, releases_in_order}
use Rattle.kl_core.specs.Books.{BookFields, past, with_more}
use Rattle.kl_core.specs.declared.refusal.Refusal.{Refusal}
use Rattle.kl_core.specs.Installs.{add_makes, replace_makes, reactivate_makes, with_policy}
use Rattle.kl_core.specs.Endings.{stop_makes, remove_makes}
use Rattle.kl_core.specs.Begins.{Begins, begin_of}
use Rattle.kl_core.specs.Tickets.{IsOpenTicket}
use Rattle.kl_core.specs.Shares.{ShareFields, IsOpenShare, Gives, release_of}
use Rattle.kl_session.specs.Calls.{Answered, verifier_of}
use Rattle.kl_session.specs.Installs.{says_installed, says_installed_or}
use Rattle.kl_session.specs.Endings.{says_done}
use Rattle.kl_session.specs.Texts.{installed_line, stopped_line, removed_line}
use Rattle.kl_session.specs.Inner.Tickets.{AreKept}
use Rattle.kl_session.proofs.Opened.{tickets, shares, Leaves, behind, left_alone, passed_by, opened, with_none}

-- ---- calls

-- a call was answered, and has made its records
pub record Made {A : Type 0} (Answers : A → Past → Type 0) (makes : A → Past → List Record) (b b' : BookFields) (answer : A) : Type 0 where
  pub answers : Answers answer (past b)
  pub grown : b' ≡ with_more (makes answer (past b)) b

-- the records open and close no poll and no release
pub record LeavesAll (made : List Record) : Type 0 where
  pub polls : Leaves tickets made
  pub releases : Leaves shares made

-- and where nothing is said there are none
pub record Plain (said : Option (List ℕ)) (made : List Record) : Type 0 where
  pub leaves : LeavesAll made
  pub unless : ((line : List ℕ) × (said ≡ Some line)) ⊎ (made ≡ [])

module _ {A : Type 0} {Answers : A → Past → Type 0} {makes : A → Past → List Record} {b b' : BookFields} {answer : A}
    (made : Made Answers makes b b' answer) (says : A → Option (List ℕ)) where
  -- it was done, where its line is said
  pub done_of : (m : ℕ) (line : List ℕ) → says answer ≡ Some line → Answered Answers makes says (verifier_of b m) (verifier_of b' m) line
  done_of m line said = record { answer = answer; answers = made.answers; after = ap (λ c. verifier_of c m) made.grown; said = said }

  -- where memory runs out for the line, it was done or nothing was
  pub short_of : (m : ℕ) → Plain (says answer) (makes answer (past b))
      → ((line : List ℕ) × Answered Answers makes says (verifier_of b m) (verifier_of b' m) line) ⊎ (verifier_of b' m ≡ verifier_of b m)
  short_of m plain = elim plain.unless [
    | inl said ↦ inl (said.0, done_of m said.0 said.1)
    | inr none ↦ inr (ap (λ c. verifier_of c m) (made.grown ∙ ap (λ records. with_more records b) none ∙ with_none b))
  ]

  -- what is kept stays that of the open polls and releases
  pub kept : (ts : List TicketFields) (ss : List ShareFields) → Plain (says answer) (makes answer (past b)) → Legal b'.history
      → AreKept (past b) ts ss → AreKept (past b') ts ss
  kept ts ss plain legal are =
      let lawful = subst (λ (c : BookFields). Legal c.history) made.grown legal in
      subst (λ (c : BookFields). AreKept (past c) ts ss) (sym made.grown) (record {
        tickets_are = left_alone tickets b.history (makes answer (past b)) ts plain.leaves.polls lawful are.tickets_are;
        shares_are = left_alone shares b.history (makes answer (past b)) ss plain.leaves.releases lawful are.shares_are;
      })

-- ---- installs, stops and removals are plain

none_plain : (said : Option (List ℕ)) → Plain said []
none_plain said = record { leaves = record { polls = λ past p. refl; releases = λ past n. refl }; unless = inr refl }

pub add_plain : (a : List ℕ) (t : TermsFields) (answer : Result ℕ (Refusal × TermsFields)) (past : Past)
    → Plain (says_installed_or a answer) (add_makes a t answer past)
add_plain a t (Ok g) past = record { leaves = record { polls = λ before p. refl; releases = λ before n. refl }; unless = inl (installed_line a g, refl) }
add_plain a t (Err e) past = none_plain (says_installed_or {T = TermsFields} a (Err e))

reinstall_leaves : (a : List ℕ) (g : ℕ) (terms : Installed → TermsFields) (why : InstallWhy) (o : Option Installed)
    → LeavesAll (option_map_or (λ (i : Installed). Install a g (terms i) why ∷ []) o [])
reinstall_leaves a g terms why (Some i) = record { polls = λ past p. refl; releases = λ past n. refl }
reinstall_leaves a g terms why None = record { polls = λ past p. refl; releases = λ past n. refl }

pub replace_plain : (a : List ℕ) (q : PolicyFields) (answer : Result ℕ (Refusal × PolicyFields)) (past : Past)
    → Plain (says_installed_or a answer) (replace_makes a q answer past)
replace_plain a q (Ok g) past =
    let leaves = reinstall_leaves a g (λ i. with_policy q i.terms) Replace (installed (own past a)) in
    record { leaves = leaves; unless = inl (installed_line a g, refl) }
replace_plain a q (Err e) past = none_plain (says_installed_or {T = PolicyFields} a (Err e))

pub reactivate_plain : (a : List ℕ) (answer : Result ℕ Refusal) (past : Past)
    → Plain (says_installed a answer) (reactivate_makes a answer past)
reactivate_plain a (Ok g) past =
    let leaves = reinstall_leaves a g (λ i. i.terms) Reactivate (installed (own past a)) in
    record { leaves = leaves; unless = inl (installed_line a g, refl) }
reactivate_plain a (Err why) past = none_plain (says_installed a (Err why))

pub stop_plain : (a : List ℕ) (answer : Result (Unit {0}) Refusal) (past : Past)
    → Plain (says_done (stopped_line a) answer) (stop_makes a answer past)
stop_plain a (Ok u) past = record { leaves = record { polls = λ before p. refl; releases = λ before n. refl }; unless = inl (stopped_line a, refl) }
stop_plain a (Err why) past = none_plain (says_done (stopped_line a) (Err why))

pub remove_plain : (a : List ℕ) (answer : Result (Unit {0}) Refusal) (past : Past)
    → Plain (says_done (removed_line a) answer) (remove_makes a answer past)
remove_plain a (Ok u) past = record { leaves = record { polls = λ before p. refl; releases = λ before n. refl }; unless = inl (removed_line a, refl) }
remove_plain a (Err why) past = none_plain (says_done (removed_line a) (Err why))

-- ---- a poll begins

drawn_by : (past : Past) (p : ℕ) → IsLegalPast past → is_open past p ≡ true → p ≤ polls past
drawn_by past p legal opened =
    let found = open_drawn poll_numbers past p (sym (is_open-stays past p) ∙ opened) in
    (drawn_bound poll_numbers p found.2 (polls_in_order past legal) found.3).1

-- its ticket comes behind the others
pub joined : (b b' : BookFields) (a n : List ℕ) (at : ℕ) (t : TicketFields) (ts : List TicketFields) (ss : List ShareFields) → Begins a n at t (past b)
    → b' ≡ with_more (begin_of t at ∷ []) b → Legal b'.history → AreKept (past b) ts ss → AreKept (past b') (ts ++ t ∷ []) ss
joined b b' a n at t ts ss begins grown legal are =
    let H : History = b.history in
    let now : past_of (H ++ begin_of t at ∷ []) ≡ begin_of t at ∷ past_of H = behind H (begin_of t at ∷ []) in
    let lawful : Legal (H ++ begin_of t at ∷ []) = subst (λ (c : BookFields). Legal c.history) grown legal in
    let earlier : IsLegalPast (past_of H) = (subst IsLegalPast now lawful).0 in
    let next = begins.next in
    subst (λ (c : BookFields). AreKept (past c) (ts ++ t ∷ []) ss) (sym grown) (record {
      tickets_are = opened tickets H (begin_of t at) t ts lawful (record { opens_it = λ p. refl; closes_none = λ p. refl })
          (λ p is. let le = drawn_by (past_of H) p earlier is in omega arith)
          (subst (λ (past : Past). IsOpenTicket past t) (sym now) (begins.opened, begins.given))
          are.tickets_are;
      shares_are = passed_by shares H (begin_of t at) ss (record { opens_none = λ n. refl; closes_none = λ n. refl }) lawful are.shares_are;
    })

-- ---- V is handed out

handed_by : (past : Past) (n : ℕ) → IsLegalPast past → is_unsettled past n ≡ true → n ≤ releases_made past
handed_by past n legal open_one =
    let found = open_drawn release_numbers past n (sym (is_unsettled-stays past n) ∙ open_one) in
    (drawn_bound release_numbers n found.2 (releases_in_order past legal) found.3).1

-- its share comes behind the others
pub handed_out : (b b' : BookFields) (a : List ℕ) (s : ShareFields) (ts : List TicketFields) (ss : List ShareFields) → Gives a s (past b)
    → b' ≡ with_more (release_of s ∷ []) b → Legal b'.history → AreKept (past b) ts ss → AreKept (past b') ts (ss ++ s ∷ [])
handed_out b b' a s ts ss gives grown legal are =
    let H : History = b.history in
    let now : past_of (H ++ release_of s ∷ []) ≡ release_of s ∷ past_of H = behind H (release_of s ∷ []) in
    let lawful : Legal (H ++ release_of s ∷ []) = subst (λ (c : BookFields). Legal c.history) grown legal in
    let earlier : IsLegalPast (past_of H) = (subst IsLegalPast now lawful).0 in
    let next = gives.rule.next in
    subst (λ (c : BookFields). AreKept (past c) ts (ss ++ s ∷ [])) (sym grown) (record {
      tickets_are = passed_by tickets H (release_of s) ts (record { opens_none = λ p. refl; closes_none = λ p. refl }) lawful are.tickets_are;
      shares_are = opened shares H (release_of s) s ss lawful (record { opens_it = λ n. refl; closes_none = λ n. refl })
          (λ n is. let le = handed_by (past_of H) n earlier is in omega arith)
          (subst (λ (past : Past). IsOpenShare past s) (sym now) (gives.unsettled, gives.given))
          are.shares_are;
    })
