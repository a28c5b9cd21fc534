-- One text more is compiled, or it ends the list.
use Rattle.std.proofs.Common.{◌≡◌, ◌<◌, ◌+◌, ℕ, List, [], ◌∷◌, ◌++◌, map, length, get_or, take, drop, All, Option, None, Some, Result, Ok, Err, IsSomeAnd, IsErrAnd, IfErr, option_map, slice_get, sym, ap, ◌∙◌, subst, arith}
use Rattle.std.proofs.lemmas.List.{append_assoc, take-append-drop, get_or-map, length-map}
use Rattle.std.proofs.lemmas.Option.{slice_get-get_or}
use Rattle.kl_io.specs.Calls.{one_more}
use Rattle.kl_exclude.specs.Compiled.{StopsAt, Refuses, IsFaultOf, AreAsked}
use Rattle.kl_exclude.specs.Excludes.{IsPattern}
use Rattle.kl_exclude.specs.Inner.Compiling.{IsOneFaultOf}
use Rattle.kl_exclude.specs.Told.{MakerTold, RefusesNone, Logs}
use Rattle.kl_exclude.proofs.Walks.{take_next}
use Rattle.kl_exclude.specs.declared.fault.ExcludeFault.{ExcludeFault}
use Rattle.kl_exclude.specs.declared.fault.ExcludeFault.TheVariants.{Syntax, TooLarge, Memory}

-- ---- what was counted and logged
pub refuses_none_twice : (a b c : MakerTold) → RefusesNone a b → RefusesNone b c → RefusesNone a c
refuses_none_twice a b c first second = record { faults = second.faults ∙ first.faults; refused = second.refused ∙ first.refused }

refuses_later : (a b c : MakerTold) (text : List ℕ) → RefusesNone a b → Refuses b c text → Refuses a c text
refuses_later a b c text first second = record {
  faults = second.faults ∙ ap one_more first.faults;
  later = omega (arith, first.faults, second.later);
  refused = second.refused;
}

logged_twice : (o p q : Option (List (List ℕ))) (xs ys : List (List ℕ)) → p ≡ option_map (λ asked. asked ++ xs) o → q ≡ option_map (λ asked. asked ++ ys) p
    → q ≡ option_map (λ asked. asked ++ (xs ++ ys)) o
logged_twice None p q xs ys first second = second ∙ ap (option_map (λ asked. asked ++ ys)) first
logged_twice (Some asked) p q xs ys first second =
    second ∙ ap (option_map (λ l. l ++ ys)) first ∙ ap (λ l. Some l) (append_assoc asked xs ys)

logs_twice : (a b c : MakerTold) (xs ys : List (List ℕ)) → Logs a b xs → Logs b c ys → Logs a c (xs ++ ys)
logs_twice a b c xs ys first second = logged_twice a.asked b.asked c.asked xs ys first second

-- ---- the text at a place
pub text_at : {X : Type 0} (f : X → List ℕ) (xs : List X) (i : ℕ) (x : X) (text : List ℕ) → i < length xs → x ≡ get_or xs i x → text ≡ f x → text ≡ get_or (map f xs) i text
text_at f xs i x text lt e same = same ∙ ap f e ∙ sym (get_or-map f xs i x text lt)

pub place_in_map : {X : Type 0} (f : X → List ℕ) (xs : List X) (i : ℕ) → i < length xs → i < length (map f xs)
place_in_map f xs i lt = subst (λ n. i < n) (sym (length-map xs f)) lt

at_place : (texts : List (List ℕ)) (i : ℕ) (text : List ℕ) → i < length texts → text ≡ get_or texts i text → (P : List ℕ → Type 0) → P text → IsSomeAnd (slice_get texts i) P
at_place texts i text lt e P held = subst (λ o. IsSomeAnd o P) (sym (slice_get-get_or texts i text lt ∙ ap (λ t. Some t) (sym e))) held

pub fault_at : (texts : List (List ℕ)) (i : ℕ) (text : List ℕ) → i < length texts → text ≡ get_or texts i text → All IsPattern (take i texts)
    → (a b c : MakerTold) → RefusesNone a b → (fault : ExcludeFault) → IsOneFaultOf text i b c fault → IsFaultOf texts a c fault
fault_at texts i text lt e all a b c none (Syntax place) (same, wrong, kept) =
    (subst (λ n. StopsAt texts n (λ t. ¬ (IsPattern t))) (sym same) (all, at_place texts i text lt e (λ t. ¬ (IsPattern t)) wrong), refuses_none_twice a b c none kept)
fault_at texts i text lt e all a b c none (TooLarge place) (same, large) =
    subst (λ n. StopsAt texts n (Refuses a c)) (sym same) (all, at_place texts i text lt e (Refuses a c) (refuses_later a b c text none large))
fault_at texts i text lt e all a b c none Memory kept = refuses_none_twice a b c none kept

-- which texts were asked where one of them, or what follows it, ends the list
asked_at : (V : Type 0) (texts : List (List ℕ)) (i : ℕ) (text : List ℕ) (b c : MakerTold) (fault : ExcludeFault) → IsOneFaultOf text i b c fault
    → AreAsked {V = V} texts (Err fault) (take (i + 1) texts)
asked_at V texts i text b c (Syntax place) h = ap (λ n. take (n + 1) texts) (sym h.0)
asked_at V texts i text b c (TooLarge place) h = ap (λ n. take (n + 1) texts) (sym h.0)
asked_at V texts i text b c Memory h = (drop (i + 1) texts, sym (take-append-drop (i + 1) texts))

-- one text more was asked
pub logs_next : (texts : List (List ℕ)) (i : ℕ) (text : List ℕ) → i < length texts → text ≡ get_or texts i text → (a b c : MakerTold)
    → Logs a b (take i texts) → Logs b c (text ∷ []) → Logs a c (take (i + 1) texts)
logs_next texts i text lt e a b c before one =
    subst (Logs a c) (sym (take_next texts i text lt e)) (logs_twice a b c (take i texts) (text ∷ []) before one)

-- ---- what `?` gives on
err_is : (V : Type 0) (r : Result V ExcludeFault) (fault : ExcludeFault) → IsErrAnd r (λ given. given ≡ fault) → r ≡ Err fault
err_is V (Ok x) fault h = absurd h
err_is V (Err given) fault h = ap (λ e. Err e) h

pub fault_given : (V : Type 0) (r : Result V ExcludeFault) (fault : ExcludeFault) → IsErrAnd r (λ given. given ≡ fault) → (texts : List (List ℕ)) (a c : MakerTold)
    → IsFaultOf texts a c fault → IfErr r (IsFaultOf texts a c)
fault_given V r fault given texts a c why = subst (λ s. IfErr s (IsFaultOf texts a c)) (sym (err_is V r fault given)) why

pub asked_given : (V : Type 0) (r : Result V ExcludeFault) (fault : ExcludeFault) → IsErrAnd r (λ given. given ≡ fault) → (texts : List (List ℕ)) (i : ℕ) (text : List ℕ)
    (b c : MakerTold) → IsOneFaultOf text i b c fault → AreAsked {V = V} texts r (take (i + 1) texts)
asked_given V r fault given texts i text b c why =
    subst (λ s. AreAsked {V = V} texts s (take (i + 1) texts)) (sym (err_is V r fault given)) (asked_at V texts i text b c fault why)
