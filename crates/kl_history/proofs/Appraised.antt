-- A recorded verdict is the outcome of the rules for the case that its poll's Begin made.
use Rattle.std.proofs.Common.{◌≡◌, ℕ, ◌<◌, Bool, true, false, eqb, List, length, Some, None, Option, refl, ap, sym, ◌∙◌, subst, arith, eqb-true, eq-eqb}
use Rattle.std.specs.Prelude.{is_none}
use Rattle.std.specs.Option.{option_map_or}
use Rattle.std.proofs.lemmas.Bool.{false≢true, and_parts}
use Rattle.kl_quote.specs.declared.evidence.Evidence.{Evidence}
use Rattle.kl_appraise.specs.Terms.{TermsFields}
use Rattle.kl_appraise.specs.ListRules.{Case}
use Rattle.kl_appraise.specs.declared.judged.Outcome.{Outcome}
use Rattle.kl_appraise.specs.declared.judged.Outcome.TheVariants.{Verdict as Judged}
use Rattle.kl_appraise.specs.declared.judged.Outcome.TheVariants as rules
use Rattle.kl_appraise.specs.Outcome.{IsOutcome}
use Rattle.kl_history.specs.declared.record.InstallWhy.{InstallWhy}
use Rattle.kl_history.specs.declared.record.Record.{Record}
use Rattle.kl_history.specs.declared.record.Record.TheVariants.{Install, Begin, Verdict, Restart}
use Rattle.kl_history.specs.Records.{History, Past, Beginning, start_of, own, terms_of}
use Rattle.kl_history.specs.LookBacks.{Installed, installed}
use Rattle.kl_history.specs.Accepted.{IsAccepted}
use Rattle.kl_history.specs.States.{is_current, ended}
use Rattle.kl_history.specs.Legal.{IsLegalPast, Legal, IsCaseOf}
use Rattle.kl_history.specs.Laws.{StandsAt, before, IsAppraised, AreAppraised}
use Rattle.kl_history.proofs.Places.{Stands, through, below, legal_at, stands_at, place_of, length-before}
use Rattle.kl_history.proofs.Numbers.{drawn_once}
use Rattle.kl_history.proofs.Rows.{generation_numbers, generations_in_order}
use Rattle.kl_history.proofs.OwnRecords.{begin_at, terms_at, installed_at, was_accepted}

-- what an agent that is current is installed with
pub current_installed : (own : Past) (g : ℕ) → is_current own g ≡ true → (i : Installed) × (installed own ≡ Some i) × (i.generation ≡ g)
current_installed own g is = by_case (installed own) refl (and_parts (option_map_or (λ (i : Installed). eqb i.generation g) (installed own) false) (is_none (ended own)) is).0 where
  by_case : (o : Option Installed) → installed own ≡ o → option_map_or (λ (i : Installed). eqb i.generation g) o false ≡ true → (i : Installed) × (installed own ≡ Some i) × (i.generation ≡ g)
  by_case None same named = absurd (false≢true named)
  by_case (Some i) same named = (i, same, eqb-true i.generation g named)

-- where an appraised poll's Begin and its generation's Install stand
record IsFounded (past : Past) (p : ℕ) (s : Beginning) (t : TermsFields) : Type 0 where
  begun_behind : Past
  begun : Stands (Begin p s.agent s.generation s.nonce s.at s.from) begun_behind past
  installed_behind : Past
  why : InstallWhy
  installed_there : Stands (Install s.agent s.generation t why) installed_behind begun_behind

-- two Installs of one generation are one
one_install : (past b c : Past) (a d : List ℕ) (g h : ℕ) (t u : TermsFields) (w v : InstallWhy) → IsLegalPast past
    → Stands (Install a g t w) b past → Stands (Install d h u v) c past → g ≡ h → t ≡ u
one_install past b c a d g h t u w v legal s other same =
    let one = drawn_once generation_numbers g (generations_in_order past legal) s other (eq-eqb g g refl) (eq-eqb g h same) in
    let r = one.0 in cc

founded : (past : Past) (p : ℕ) (s : Beginning) (t : TermsFields) → IsLegalPast past → start_of past p ≡ Some s → terms_of past s.generation ≡ Some t → IsFounded past p s t
founded past p s t legal began terms =
    let begun = begin_at past p s began in
    let row = (legal_at begun.1 legal).1 in
    let now = current_installed (own begun.0 s.agent) s.generation row.1 in
    let install = installed_at begun.0 s.agent now.0 now.1 in
    let named = terms_at past s.generation t terms in
    let same = one_install past install.1 named.2 s.agent named.0 now.0.generation s.generation now.0.terms t install.0 named.1 legal (through begun.1 install.2) named.3 now.2 in
    record {
      begun_behind = begun.0;
      begun = begun.1;
      installed_behind = install.1;
      why = install.0;
      installed_there = subst (λ g. Stands (Install s.agent g t install.0) install.1 begun.0) now.2 (subst (λ u. Stands (Install s.agent now.0.generation u install.0) install.1 begun.0) same install.2);
    }

-- what stands before what stands at a place
pub inside_at : (H : History) (i : ℕ) (r q : Record) (b : Past) → StandsAt H i r → Stands q b (before H i) → StandsAt H (length b) q × (before H (length b) ≡ b) × (length b < i)
inside_at H i r q b at s =
    let place = place_of H q b (through (stands_at H i r at) s) in
    let len = length-before H i r at in
    let less = below s in
    (place.0, place.1, omega (arith, len, less))

appraised : (H : History) (i p : ℕ) (e : Evidence) (s : Bool) (o : Outcome) (r : Record) (k : Case) → Legal H → StandsAt H i r
    → IsCaseOf (before H i) p e s k → IsOutcome k o → IsAppraised H i p e s o
appraised H i p e s o r k legal at is out =
    let past_legal = (legal_at (stands_at H i r at) legal).0 in
    let found = founded (before H i) p is.started k.terms past_legal is.began is.terms in
    let b = found.begun_behind in
    let c = found.installed_behind in
    let begin = Begin p is.started.agent is.started.generation is.started.nonce is.started.at is.started.from in
    let begun = inside_at H i r begin b at found.begun in
    let install = inside_at H (length b) begin (Install is.started.agent is.started.generation k.terms found.why) c begun.0 (subst (λ x. Stands (Install is.started.agent is.started.generation k.terms found.why) c x) (sym begun.1) found.installed_there) in
    let was = was_accepted p is.started.agent is.started.generation is.started.nonce is.started.at is.started.from k.prefix k.boot past_legal found.begun is.accepted in
    record {
      case = k;
      begin_place = length b;
      agent = is.started.agent;
      generation = is.started.generation;
      at = is.started.at;
      begun = begun.0 ∙ ap (λ n. Some (Begin p is.started.agent is.started.generation n is.started.at is.started.from)) (sym is.nonce)
          ∙ ap (λ f. Some (Begin p is.started.agent is.started.generation k.nonce is.started.at f)) (sym is.from);
      earlier = begun.2;
      install_place = length c;
      why = found.why;
      installed = install.0;
      first = install.2;
      accepted = subst (λ x. IsAccepted (own x is.started.agent) k.prefix k.boot) (sym begun.1) was;
      evidence = is.evidence;
      answer = is.signed;
      unasked = is.unasked;
      outcome = out;
    }

pub are_appraised : (H : History) → Legal H → AreAppraised H
are_appraised H legal = record {
  verdicts = λ i p e s v c at.
      let row = (legal_at (stands_at H i (Verdict p e s v c) at) legal).1 in
      appraised H i p e s (Judged v) (Verdict p e s v c) row.1.0 legal at row.1.1 row.1.2;
  restarts = λ i p e s c at.
      let row = (legal_at (stands_at H i (Restart p e s c) at) legal).1 in
      (row.1, appraised H i p e s rules.Restart (Restart p e s c) row.2.0 legal at row.2.1 row.2.2);
}
