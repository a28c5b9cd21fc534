-- What a command does follows from the session that it finds, and so does what commands do one after the other.
use Rattle.std.proofs.Common.{◌≡◌, ℕ, ◌<◌, ◌≤◌, List, [], ◌∷◌, ◌++◌, length, Option, Some, inl, inr, refl, sym, ap, ◌∙◌, subst, arith}
use Rattle.std.proofs.Common.{length-append, append-nil}
use Rattle.std.proofs.lemmas.Option.{same_Some}
use Rattle.kl_io.specs.Told.{WordsTold}
use Rattle.kl_keys.specs.Relations.{Relations}
use Rattle.kl_keys.specs.Told.{KeysTold}
use Rattle.kl_registrar.specs.Calls.{Log}
use Rattle.kl_script.specs.declared.command.Register.{Register}
use Rattle.kl_script.specs.declared.command.RegistrarCommand.{RegistrarCommand}
use Rattle.kl_script.specs.declared.command.RegistrarCommand.TheVariants as registrar
use Rattle.kl_script.specs.Commands.{VerifierCommandFields, begin, CommandFields, nothing, to_verifier, to_registrar}
use Rattle.kl_history.specs.Legal.{Legal}
use Rattle.kl_session.specs.declared.stop.Stop.TheVariants.{NoNonce}
use Rattle.kl_session.specs.Outside.{Outside}
use Rattle.kl_session.specs.Calls.{VerifierFields, SessionFields, Called}
use Rattle.kl_session.specs.Drawing.{Draws, HasFewer, DrawsNone}
use Rattle.kl_session.specs.Polls.{HasNonce}
use Rattle.kl_session.specs.Registering.{DoesRegister, RegistrarDoes, RegisterAnswers, register_makes, says_blob}
use Rattle.kl_session.specs.Stopped.{VerifierStopped, RegistrarStopped, IsStopped}
use Rattle.kl_session.specs.Verifying.{VerifierDoes}
use Rattle.kl_session.specs.Session.{Does, Follows}
use Rattle.kl_session.specs.Unique.{LacksNothing, IsFaultless, GoesOn, Steps, Runs, GoesThrough, IsDry}
use Rattle.kl_session.proofs.VerifierStep.{SameLeft, one_draw, untouched, undrawn, verifier_alike}
use Rattle.kl_session.proofs.OneRegistrar.{AnswerBy, one_call, one_register, one_activate, one_record, one_records, one_forget}
use Rattle.kl_session.proofs.Moments.{consumed}
use Rattle.kl_session.proofs.GoingOn.{does_on, follows_on, does_grow, follows_grow, lacked_before}

-- ---- a command to the registrar

-- the same calls that were done, line and words left
AreAlikeCalls : Log → Log → List ℕ → List ℕ → Outside → Outside → Type 0
AreAlikeCalls x y l m o p = (x ≡ y) × (l ≡ m) × SameLeft o p

answers_by : (relations : Relations) (words : List ℕ) (o then o' : Outside) → IsFaultless relations words o o' → then.keys ≡ o.keys
    → AnswerBy relations then.keys o'.keys
answers_by relations words o then o' f same = record {
  related = ap (λ (k : KeysTold). k.relations) same ∙ f.related;
  faultless = λ rose. f.keys (omega (arith, rose, ap (λ (k : KeysTold). k.calls.faults) same));
}

module _ (relations : Relations) (words : List ℕ) (o o' p p' : Outside) (f : IsFaultless relations words o o') (g : IsFaultless relations words p p') where
  calls_alike : (x y : Log) (l m : List ℕ) → (x ≡ y) × (l ≡ m) → o' ≡ o → p' ≡ p → AreAlikeCalls x y l m o' p'
  unfolding AreAlikeCalls
  calls_alike x y l m same first second = (same.0, same.1, untouched words o o' p p' f.left g.left (undrawn o o' first) (undrawn p p' second))

  register_alike : (r : Register) (calls x y : Log) (l m : List ℕ) → DoesRegister o o' r calls x l → DoesRegister p p' r calls y m → AreAlikeCalls x y l m o' p'
  unfolding AreAlikeCalls
  register_alike r calls x y l m does acts =
      let drawn = one_draw 32 words o does.then p acts.then does.secret acts.secret f.left g.left does.draws acts.draws in
      let acting = subst (λ (s : List ℕ). Called (RegisterAnswers r s acts.then.keys p'.keys) (register_makes r s) (says_blob r.agent) calls y m) (sym drawn.0) acts.called in
      let one = one_register relations r does.secret calls does.then.keys o'.keys acts.then.keys p'.keys
      (answers_by relations words o does.then o' f does.draws.keys) (answers_by relations words p acts.then p' g acts.draws.keys) in
      let same = one_call one does.called acting in
      let left : o'.words.left ≡ p'.words.left =
      ap (λ (w : WordsTold). w.left) does.asks.words ∙ drawn.1 ∙ ap (λ (w : WordsTold). w.left) (sym acts.asks.words) in
      (same.0, same.1, left)

  registrar_alike : (c : RegistrarCommand) (calls x y : Log) (l m : List ℕ) → RegistrarDoes o o' calls c x l → RegistrarDoes p p' calls c y m
      → AreAlikeCalls x y l m o' p'
  unfolding RegistrarDoes
  registrar_alike (registrar.Register r) calls x y l m does acts = register_alike r calls x y l m does acts
  registrar_alike (registrar.Activate a) calls x y l m (e, does) (d, acts) = calls_alike x y l m (one_call (one_activate a calls) does acts) e d
  registrar_alike (registrar.Record a) calls x y l m (e, does) (d, acts) = calls_alike x y l m (one_call (one_record a calls) does acts) e d
  registrar_alike registrar.Records calls x y l m (e, does) (d, acts) = calls_alike x y l m (one_call (one_records calls) does acts) e d
  registrar_alike (registrar.Forget a) calls x y l m (e, does) (d, acts) = calls_alike x y l m (one_call (one_forget a calls) does acts) e d

-- ---- a command

-- the same session, line and words left
AreOne : SessionFields → SessionFields → List ℕ → List ℕ → Outside → Outside → Type 0
AreOne x y l m o p = (x ≡ y) × (l ≡ m) × SameLeft o p

session_by : VerifierFields → Log → SessionFields
session_by verifier calls = record { verifier = verifier; calls = calls }

same_session : (x y : SessionFields) → x.verifier ≡ y.verifier → x.calls ≡ y.calls → x ≡ y
unfolding session_by
same_session x y verifier calls = ap (λ v. session_by v x.calls) verifier ∙ ap (λ c. session_by y.verifier c) calls

module _ (relations : Relations) (words : List ℕ) (o o' p p' : Outside) (f : IsFaultless relations words o o') (g : IsFaultless relations words p p') where
  does_alike : (s : SessionFields) (c : CommandFields) (x y : SessionFields) (l m : List ℕ) → Legal s.verifier.history
      → LacksNothing x.verifier.history → LacksNothing y.verifier.history → Does o o' s c x l → Does p p' s c y m → AreOne x y l m o' p'
  unfolding Does AreOne AreAlikeCalls
  does_alike s nothing x y l m legal _ _ (a, to, says) (b, on, speaks) =
      (to ∙ sym on, says ∙ sym speaks, untouched words o o' p p' f.left g.left (undrawn o o' a) (undrawn p p' b))
  does_alike s (to_verifier c) x y l m legal h k (does, calls) (acts, others) =
      let same = verifier_alike relations words o o' p p' f g s.verifier c x.verifier y.verifier l m legal h k does acts in
      (same_session x y same.0 (calls ∙ sym others), same.1, same.2)
  does_alike s (to_registrar c) x y l m legal h k (does, verifier) (acts, other) =
      let same = registrar_alike relations words o o' p p' f g c s.calls x.calls y.calls l m does acts in
      (same_session x y (verifier ∙ sym other) same.0, same.1, same.2)

pub one_step : (relations : Relations) (words : List ℕ) (s : SessionFields) (c : CommandFields) (x y : SessionFields) (l m v u : List ℕ)
    → Steps relations words s c x l v → Steps relations words s c y m u → (x ≡ y) × (l ≡ m) × (v ≡ u)
unfolding AreOne
one_step relations words s c x y l m v u f g =
    let legal = (lacked_before s x (does_grow f.before f.after s c x l f.does) f.unwanting).legal in
    let same = does_alike relations words f.before f.after g.before g.after f.faultless g.faultless s c x y l m legal f.unwanting g.unwanting f.does g.does in
    (same.0, same.1, same_Some v u (sym f.left ∙ same.2 ∙ g.left))

-- ---- too few words

enough : (n : ℕ) (words : List ℕ) (o o' : Outside) (drawn : List ℕ) → o.words.left ≡ Some words → Draws n o o' drawn → n ≤ length words
enough n words o o' drawn is d =
    let a = consumed words o.words.left o'.words.left drawn is d.taken in
    omega (arith, d.counted, ap (λ (l : List ℕ). length l) a.2, length-append drawn a.0)

too_few : (n : ℕ) (relations : Relations) (words : List ℕ) (o o' : Outside) → IsFaultless relations words o o' → DrawsNone n o o' → length words < n
too_few n relations words o o' f d = elim d.cause [
  | inl met ↦ absurd (f.drawn (omega (arith, (met.met tt).0)))
  | inr few ↦ subst (λ (left : Option (List ℕ)). HasFewer left n) f.left few.0
]

pub not_dry : (relations : Relations) (words : List ℕ) (s : SessionFields) (c : CommandFields) (x y : SessionFields) (l v u : List ℕ)
    → Steps relations words s c x l v → ¬ (IsDry relations words s c y u)
unfolding Does VerifierDoes RegistrarDoes
not_dry relations words s c x y l v u f g = by_command c f.does g.stopped where
  few : (n : ℕ) (then : Outside) (drawn : List ℕ) → Draws n f.before then drawn → DrawsNone n g.before g.after → ⊥
  few n then drawn draws none =
      omega (arith, enough n words f.before then drawn f.faultless.left draws, too_few n relations words g.before g.after g.faultless none)

  by_verifier : (d : VerifierCommandFields) → VerifierDoes f.before f.after s.verifier d x.verifier l
      → VerifierStopped NoNonce g.before g.after s.verifier d y.verifier → ⊥
  by_verifier (begin b) does (_, (unnamed, none)) =
      let draws = subst (λ (named : Option (List ℕ)). HasNonce f.before f.after named does.0) unnamed does.1 in
      few 16 f.after draws.0 draws.1 none
  by_verifier _ does stopped = stopped.1

  by_registrar : (d : RegistrarCommand) → RegistrarDoes f.before f.after s.calls d x.calls l
      → RegistrarStopped NoNonce g.before g.after s.calls d y.calls → ⊥
  by_registrar (registrar.Register r) does (_, none) = few 32 does.then does.secret does.draws none
  by_registrar _ does stopped = stopped.1

  by_command : (d : CommandFields) → Does f.before f.after s d x l → IsStopped NoNonce g.before g.after s d y → ⊥
  by_command nothing does stopped = stopped
  by_command (to_verifier d) does stopped = by_verifier d does.0 stopped.0
  by_command (to_registrar d) does stopped = by_registrar d does.0 stopped.0

-- where no words can be drawn, nothing changes
pub dry_stays : (o o' : Outside) (s : SessionFields) (c : CommandFields) (s' : SessionFields) → IsStopped NoNonce o o' s c s' → s' ≡ s
dry_stays o o' s nothing s' h = absurd h
dry_stays o o' s (to_verifier c) s' h = same_session s' s h.0.0 h.1
dry_stays o o' s (to_registrar c) s' h = same_session s' s h.1 h.0.0

pub one_dry : (relations : Relations) (words : List ℕ) (s : SessionFields) (c : CommandFields) (x : SessionFields) (rest : List ℕ)
    → IsDry relations words s c x rest → (x ≡ s) × (rest ≡ words)
one_dry relations words s c x rest f = (dry_stays f.before f.after s c x f.stopped, by_command c f.stopped) where
  none_left : (n : ℕ) → DrawsNone n f.before f.after → rest ≡ words
  none_left n none = same_Some rest words (sym f.left ∙ none.left ∙ f.faultless.left)

  by_verifier : (d : VerifierCommandFields) → VerifierStopped NoNonce f.before f.after s.verifier d x.verifier → rest ≡ words
  by_verifier (begin b) (_, (_, none)) = none_left 16 none
  by_verifier _ stopped = absurd stopped.1

  by_registrar : (d : RegistrarCommand) → RegistrarStopped NoNonce f.before f.after s.calls d x.calls → rest ≡ words
  by_registrar (registrar.Register r) (_, none) = none_left 32 none
  by_registrar _ stopped = absurd stopped.1

  by_command : (d : CommandFields) → IsStopped NoNonce f.before f.after s d x → rest ≡ words
  by_command nothing stopped = absurd stopped
  by_command (to_verifier d) stopped = by_verifier d stopped.0
  by_command (to_registrar d) stopped = by_registrar d stopped.0

-- ---- commands, one after the other

-- from the one moment to a later one
pub front_faultless : (relations : Relations) (words : List ℕ) (o then o' : Outside) → IsFaultless relations words o o' → GoesOn then o'
    → IsFaultless relations words o then
front_faultless relations words o then o' f on = record {
  related = f.related;
  left = f.left;
  keys = λ rose. f.keys (omega (arith, rose, on.keys));
  drawn = λ rose. f.drawn (omega (arith, rose, on.drawn));
  made = λ rose. f.made (omega (arith, rose, on.made));
}

-- and from there on
pub rest_faultless : (relations : Relations) (words rest : List ℕ) (o then o' : Outside) → IsFaultless relations words o o' → GoesOn o then
    → then.words.left ≡ Some rest
    → IsFaultless relations rest then o'
rest_faultless relations words rest o then o' f on left = record {
  related = on.related ∙ f.related;
  left = left;
  keys = λ rose. f.keys (omega (arith, rose, on.keys));
  drawn = λ rose. f.drawn (omega (arith, rose, on.drawn));
  made = λ rose. f.made (omega (arith, rose, on.made));
}

-- a run of at least one command: its first step, and the rest
pub record BeginsBy (relations : Relations) (words : List ℕ) (s : SessionFields) (c : CommandFields) (commands : List CommandFields) (last : SessionFields)
    (lines : List (List ℕ)) (rest : List ℕ) : Type 0 where
  pub next : SessionFields
  pub line : List ℕ
  pub others : List (List ℕ)
  pub left : List ℕ
  pub parts : lines ≡ line ∷ others
  pub steps : Steps relations words s c next line left
  pub runs : Runs relations left next commands last others rest

pub begins_by : (relations : Relations) (words : List ℕ) (s : SessionFields) (c : CommandFields) (commands : List CommandFields) (last : SessionFields)
    (lines : List (List ℕ)) (rest : List ℕ) → Runs relations words s (c ∷ commands) last lines rest → BeginsBy relations words s c commands last lines rest
begins_by relations words s c commands last lines rest f = by_lines lines f.follows where
  by_lines : (all : List (List ℕ)) → Follows f.before f.after s (c ∷ commands) all last → BeginsBy relations words s c commands last all rest
  by_lines [] h = absurd h
  by_lines (line ∷ others) (then, next, does, follows) =
      let first = does_on f.before then s c next line does in
      let on = follows_on then f.after next commands others last follows in
      let known = first.left words f.faultless.left in
      record {
        next = next;
        line = line;
        others = others;
        left = known.0;
        parts = refl;
        steps = record {
          before = f.before;
          after = then;
          faultless = front_faultless relations words f.before then f.after f.faultless on;
          does = does;
          unwanting = lacked_before next last (follows_grow then f.after next commands others last follows) f.unwanting;
          left = known.1;
        };
        runs = record {
          before = then;
          after = f.after;
          faultless = rest_faultless relations words known.0 f.before then f.after f.faultless first known.1;
          follows = follows;
          unwanting = f.unwanting;
          left = f.left;
        };
      }

-- a run of no command
pub stands_still : (relations : Relations) (words : List ℕ) (s last : SessionFields) (lines : List (List ℕ)) (rest : List ℕ)
    → Runs relations words s [] last lines rest
    → (last ≡ s) × (lines ≡ []) × (rest ≡ words)
stands_still relations words s last lines rest f = by_lines lines f.follows where
  by_lines : (all : List (List ℕ)) → Follows f.before f.after s [] all last → (last ≡ s) × (all ≡ []) × (rest ≡ words)
  by_lines (l ∷ all) h = absurd h
  by_lines [] h = (h.1, refl, same_Some rest words (sym f.left ∙ ap (λ (z : Outside). z.words.left) h.0 ∙ f.faultless.left))

pub one_way : (relations : Relations) (words : List ℕ) (s : SessionFields) (commands more : List CommandFields) (x y : SessionFields)
    (ls ms : List (List ℕ)) (v u : List ℕ)
    → Runs relations words s commands x ls v → Runs relations words s (commands ++ more) y ms u → GoesThrough relations x v more y ls ms u
one_way relations words s [] more x y ls ms v u f g =
    let still = stands_still relations words s x ls v f in
    let at_left = subst (λ (w : List ℕ). Runs relations w s more y ms u) (sym still.2) g in
    record {
      others = ms;
      parts = ap (λ l. l ++ ms) (sym still.1);
      runs = subst (λ (z : SessionFields). Runs relations v z more y ms u) (sym still.0) at_left;
    }
one_way relations words s (c ∷ commands) more x y ls ms v u f g =
    let a = begins_by relations words s c commands x ls v f in
    let b = begins_by relations words s c (commands ++ more) y ms u g in
    let same = one_step relations words s c a.next b.next a.line b.line a.left b.left a.steps b.steps in
    let at_left = subst (λ (w : List ℕ). Runs relations w b.next (commands ++ more) y b.others u) (sym same.2) b.runs in
    let at_next = subst (λ (z : SessionFields). Runs relations a.left z (commands ++ more) y b.others u) (sym same.0) at_left in
    let rest = one_way relations a.left a.next commands more x y a.others b.others v u a.runs at_next in
    record {
      others = rest.others;
      parts = b.parts ∙ ap (λ l. l ∷ b.others) (sym same.1) ∙ ap (λ ls. a.line ∷ ls) rest.parts ∙ ap (λ ls. ls ++ rest.others) (sym a.parts);
      runs = rest.runs;
    }

pub one_run : (relations : Relations) (words : List ℕ) (s : SessionFields) (commands : List CommandFields) (x y : SessionFields)
    (ls ms : List (List ℕ)) (v u : List ℕ)
    → Runs relations words s commands x ls v → Runs relations words s commands y ms u → (x ≡ y) × (ls ≡ ms) × (v ≡ u)
one_run relations words s commands x y ls ms v u f g =
    let whole = subst (λ (cs : List CommandFields). Runs relations words s cs y ms u) (sym (append-nil commands)) g in
    let on = one_way relations words s commands [] x y ls ms v u f whole in
    let still = stands_still relations v x y on.others u on.runs in
    (sym still.0, sym (append-nil ls) ∙ ap (λ l. ls ++ l) (sym still.1) ∙ sym on.parts, sym still.2)
