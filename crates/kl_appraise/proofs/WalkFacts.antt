-- Steps of a walk over the entries of a list.
use Rattle.std.proofs.Common.{◌≡◌, ℕ, ◌+◌, ◌<◌, List, [], ◌∷◌, ◌++◌, length, map, take, get_or, Option, Some, None, IsSomeAnd, All, refl, sym, ap, ◌∙◌, subst, arith, append_assoc}
use Rattle.std.proofs.lemmas.List.{map-append, take_more, take-take, get_or-take, length-take}
use Rattle.std.proofs.lemmas.List.Sums.{fold_push}
use Rattle.std.proofs.lemmas.List.Elements.{All-push, All-from_recursion}
use Rattle.std.proofs.lemmas.Option.{slice_get_within, get_or_from_slice_get, slice_get_read}
use Rattle.std.proofs.lemmas.Slice.Zip.{AllZip-long, all_zipped_more}
use Rattle.std.specs.List.{AllZip, AllByRecursion, slice_get}
use Rattle.kl_bank.specs.declared.bank.Bank.{Bank}
use Rattle.kl_bank.specs.Banks.{extended}
use Rattle.kl_entry.specs.declared.fault.LineFault.{LineFault}
use Rattle.kl_entry.specs.Entries.{EntryFields}
use Rattle.kl_entry.specs.Lines.{lines_of, Spells, IsLineFault}
use Rattle.kl_pcr.specs.Measured.{measured_of}
use Rattle.kl_pcr.specs.Replay.{folded}
use Rattle.kl_policy.specs.PolicyFields.{PolicyFields}
use Rattle.kl_policy.specs.Policy.{why_of, Allows, IsFirstBad}
use Rattle.kl_policy.specs.declared.why.Why.{Why}
use Rattle.kl_policy.proofs.Allowed.{allowed_iff}
use Rattle.kl_appraise.specs.ListRules.{IsFirstBadLine}
use Rattle.kl_appraise.specs.Inner.Listed.{at_place, with_next}

-- one more entry of the front
grown : (es : List EntryFields) (i : ℕ) (e : EntryFields) → i < length es → e ≡ get_or es i e → take (i + 1) es ≡ take i es ++ e ∷ []
grown es i e within is = take_more es i e within ∙ ap (λ (x : EntryFields). take i es ++ x ∷ []) (sym is)

-- the value once one more entry is extended
pub value_more : (bank : Bank) (start : List ℕ) (es : List EntryFields) (i : ℕ) (e : EntryFields) (held added new : List ℕ) → i < length es → e ≡ get_or es i e
    → held ≡ folded bank start (map (measured_of bank) (take i es)) → added ≡ measured_of bank e → new ≡ extended bank held added
    → new ≡ folded bank start (map (measured_of bank) (take (i + 1) es))
value_more bank start es i e held added new within is so_far measured last =
    let m : EntryFields → List ℕ = measured_of bank in
    last
    ∙ ap (λ (x : List ℕ). extended bank x added) so_far
    ∙ ap (λ (x : List ℕ). extended bank (folded bank start (map m (take i es))) x) measured
    ∙ sym (fold_push (extended bank) start (map m (take i es)) (m e))
    ∙ ap (λ (xs : List (List ℕ)). folded bank start xs) (sym (map-append m (take i es) (e ∷ [])))
    ∙ ap (λ (xs : List EntryFields). folded bank start (map m xs)) (sym (grown es i e within is))

-- an entry that is not allowed stays the first
bad_stays : (policy : PolicyFields) (es : List EntryFields) (i place : ℕ) (why : Why) → i < length es
    → IsFirstBad policy (take i es) (Some (place, why)) → IsFirstBad policy (take (i + 1) es) (Some (place, why))
bad_stays policy es i place why within (here, before) = by_entry (slice_get (take i es) place) refl here
  where
    by_entry : (o : Option EntryFields) → slice_get (take i es) place ≡ o → IsSomeAnd o (λ e. why_of policy e ≡ Some why) → IsFirstBad policy (take (i + 1) es) (Some (place, why))
    by_entry None is found = absurd found
    by_entry (Some e) is found =
        let inside : place < length (take i es) = slice_get_within (take i es) place e is in
        let below : place < i = omega (arith, length-take i es) in
        let at : get_or es place e ≡ e = sym (get_or-take i es place e below) ∙ get_or_from_slice_get (take i es) place e e is in
        let later : e ≡ get_or (take (i + 1) es) place e = sym at ∙ sym (get_or-take (i + 1) es place e (omega arith)) in
        let now : slice_get (take (i + 1) es) place ≡ Some e = slice_get_read (take (i + 1) es) (length (take (i + 1) es)) place e refl (omega (arith, length-take (i + 1) es)) later in
        let front : take place (take i es) ≡ take place (take (i + 1) es) = take-take place i es (omega arith) ∙ sym (take-take place (i + 1) es (omega arith)) in (
          subst (λ (x : Option EntryFields). IsSomeAnd x (λ e. why_of policy e ≡ Some why)) (sym now) found,
          subst (λ (xs : List EntryFields). All (Allows policy) xs) front before,
        )

-- the entry that is looked at decides, where those before it are allowed
bad_here : (policy : PolicyFields) (es : List EntryFields) (i : ℕ) (e : EntryFields) (found : Option Why) → i < length es → e ≡ get_or es i e → why_of policy e ≡ found
    → All (Allows policy) (take i es) → IsFirstBad policy (take (i + 1) es) (at_place i found)
bad_here policy es i e None within is reason before =
    subst (λ (xs : List EntryFields). All (Allows policy) xs) (sym (grown es i e within is))
    (All-push (Allows policy) (take i es) e before ((allowed_iff policy e).0 reason))
bad_here policy es i e (Some why) within is reason before =
    let at : e ≡ get_or (take (i + 1) es) i e = is ∙ sym (get_or-take (i + 1) es i e (omega arith)) in
    let now : slice_get (take (i + 1) es) i ≡ Some e = slice_get_read (take (i + 1) es) (length (take (i + 1) es)) i e refl (omega (arith, length-take (i + 1) es)) at in
    let front : take i es ≡ take i (take (i + 1) es) = sym (take-take i (i + 1) es (omega arith)) in (
      subst (λ (x : Option EntryFields). IsSomeAnd x (λ e. why_of policy e ≡ Some why)) (sym now) reason,
      subst (λ (xs : List EntryFields). All (Allows policy) xs) front before,
    )

-- the first entry that is not allowed, once one more is looked at
pub bad_more : (policy : PolicyFields) (es : List EntryFields) (i : ℕ) (e : EntryFields) (bad : Option (ℕ × Why)) → i < length es → e ≡ get_or es i e
    → IsFirstBad policy (take i es) bad → IsFirstBad policy (take (i + 1) es) (with_next policy bad i e)
bad_more policy es i e None within is before = bad_here policy es i e (why_of policy e) within is refl before
bad_more policy es i e (Some (place, why)) within is before = bad_stays policy es i place why within before

-- ---- The lines of a list

-- one more line is read
pub read_more : (text rest after line : List ℕ) (read : List (List ℕ)) (es : List EntryFields) (e : EntryFields) → lines_of text ≡ read ++ lines_of rest → lines_of rest ≡ line ∷ lines_of after
    → AllZip Spells read es → Spells line e → (more : List (List ℕ)) × (lines_of text ≡ more ++ lines_of after) × AllZip Spells more (es ++ e ∷ [])
read_more text rest after line read es e so_far next zipped spelled = (
  read ++ line ∷ [],
  so_far ∙ ap (λ (x : List (List ℕ)). read ++ x) next ∙ sym (append_assoc read (line ∷ []) (lines_of after)),
  all_zipped_more Spells read es line e zipped spelled,
)

spelled_each : (read : List (List ℕ)) (es : List EntryFields) → AllZip Spells read es → AllByRecursion (λ l. (e : EntryFields) × Spells l e) read
spelled_each [] es zipped = tt
spelled_each (l ∷ ls) [] zipped = absurd zipped
spelled_each (l ∷ ls) (e ∷ es) (spelled, zipped) = ((e, spelled), spelled_each ls es zipped)

all_spelled : (read : List (List ℕ)) (es : List EntryFields) → AllZip Spells read es → All (λ l. (e : EntryFields) × Spells l e) read
all_spelled read es zipped = All-from_recursion (λ l. (e : EntryFields) × Spells l e) read (spelled_each read es zipped)

-- the line that is read next is the first that is no entry
pub bad_line : (text rest after line : List ℕ) (read : List (List ℕ)) (es : List EntryFields) (f : LineFault) → lines_of text ≡ read ++ lines_of rest → lines_of rest ≡ line ∷ lines_of after
    → AllZip Spells read es → IsLineFault line f → IsFirstBadLine text (length es) f
bad_line text rest after line read es f so_far next zipped fault = record {
  before = read;
  line = line;
  after = lines_of after;
  cut = so_far ∙ ap (λ (x : List (List ℕ)). read ++ x) next;
  counted = sym (AllZip-long Spells read es zipped);
  good = all_spelled read es zipped;
  bad = fault;
}
