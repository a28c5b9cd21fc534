-- What a reading leaves as it was.
use Rattle.std.proofs.Common.{◌≡◌, ◌≢◌, ◌⊎◌, ℕ, ◌≤◌, List, true, Option, None, Some, IsSomeAnd, slice_get, Contains, refl, ap, ◌∙◌, inl, inr, arith}
use Rattle.std.proofs.lemmas.Option.{get_or_from_slice_get, slice_get_within}
use Rattle.kl_exclude.specs.Compiled.{Refuses as TooMuch}
use Rattle.kl_exclude.specs.Told.{MakerTold}
use Rattle.kl_exclude.specs.declared.fault.ExcludeFault.TheVariants.{Syntax, TooLarge, Memory as none_left}
use Rattle.kl_io.specs.Calls.{Rose}
use Rattle.kl_io.specs.Told.{WordsTold}
use Rattle.kl_json.specs.declared.fault.JsonFault.TheVariants.{NotJson, Missing, Kind, Range, Memory as no_memory}
use Rattle.kl_keys.specs.Told.{KeysTold}
use Rattle.kl_policy.specs.Making.{AsksFor, AsksSome, IsNoPolicy, IsJsonFault, is_settled}
use Rattle.kl_policy.specs.PolicyFields.{PolicyFields}
use Rattle.kl_policy.specs.Reading.{IsPolicy}
use Rattle.kl_policy.specs.declared.fault.PolicyFault.{PolicyFault}
use Rattle.kl_policy.specs.declared.fault.PolicyFault.TheVariants.{Json, Line, BadDigest, Unsupported, Limit as Over, Exclude, Memory}
use Rattle.kl_policy.proofs.JsonFacts.{memory_fault}
use Rattle.kl_history.specs.declared.record.Record.{Record}
use Rattle.kl_history.specs.Records.{History}
use Rattle.kl_script.specs.declared.command.Add.{Add}
use Rattle.kl_script.specs.declared.command.Replace.{Replace}
use Rattle.kl_states.specs.declared.policy_kind.PolicyKind.{PolicyKind}
use Rattle.kl_states.specs.declared.policy_kind.PolicyKind.TheVariants as kind
use Rattle.kl_session.specs.declared.naming.NoTerms.{NoTerms}
use Rattle.kl_session.specs.declared.naming.NoTerms.TheVariants.{Policy, Mask, Static}
use Rattle.kl_session.specs.Outside.{Outside, LeavesRest, outside}
use Rattle.kl_session.specs.Stopped.{MadeSome}
use Rattle.kl_session.specs.Terms.{Reads, Refuses, NamesNoTerms}
use Rattle.kl_session.specs.Unique.{GoesOn}
use Rattle.kl_session.specs.Inner.Naming.{Tells, IsPolicyFault, IsTermsFault}
use Rattle.kl_session.specs.Calls.{VerifierFields}
use Rattle.kl_session.specs.Installs.{DoesAdd, DoesReplace}
use Rattle.kl_session.specs.Texts.{refused_line, no_terms_text}
use Rattle.kl_session.specs.declared.naming.NamingFault.{NamingFault}
use Rattle.kl_session.specs.declared.naming.NamingFault.TheVariants as fault

-- two moments that differ in what makes patterns alone
pub told_so : (keys : KeysTold) (words : WordsTold) (before after : MakerTold) (steps : ℕ) → Tells (outside keys words before steps) (outside keys words after steps) before after
told_so keys words before after steps = record { before_is = refl; after_is = refl; rest = record { keys = refl; words = refl; steps = refl } }

-- ---- what was counted

too_much : (old new : MakerTold) (o : Option (List ℕ)) → IsSomeAnd o (TooMuch old new) → (text : List ℕ) × TooMuch old new text
too_much old new None h = absurd h
too_much old new (Some text) h = (text, h)

asks_later : (k : PolicyKind) (patterns : List (List ℕ)) (a b : MakerTold) → AsksFor k patterns a b → a.calls.faults ≤ b.calls.faults
asks_later kind.Flat patterns a b same = omega (arith, ap (λ (m : MakerTold). m.calls.faults) same)
asks_later kind.Json patterns a b made = omega (arith, made.refused.faults)

json_later : (text : List ℕ) (a b : MakerTold) (f : PolicyFault) → IsJsonFault text a b f → a.calls.faults ≤ b.calls.faults
json_later text a b (Json NotJson) h = omega (arith, ap (λ (m : MakerTold). m.calls.faults) h.1)
json_later text a b (Json (Missing name)) h = omega (arith, ap (λ (m : MakerTold). m.calls.faults) h.unasked)
json_later text a b (Json (Kind name)) h = omega (arith, ap (λ (m : MakerTold). m.calls.faults) h.unasked)
json_later text a b (Json (Range name)) h = absurd h.fault
json_later text a b (Json no_memory) h = absurd h.fault
json_later text a b (Line place) h = absurd h.fault
json_later text a b (BadDigest i j) h = omega (arith, ap (λ (m : MakerTold). m.calls.faults) h.unasked)
json_later text a b (Unsupported name) h = omega (arith, ap (λ (m : MakerTold). m.calls.faults) h.unasked)
json_later text a b (Over limit) h = omega (arith, ap (λ (m : MakerTold). m.calls.faults) h.unasked)
json_later text a b (Exclude (Syntax place)) h = omega (arith, h.so.first.1.faults)
json_later text a b (Exclude (TooLarge place)) h = let much = too_much a b _ h.so.first.1 in much.1.later
json_later text a b (Exclude none_left) h = absurd h
json_later text a b Memory (inl same) = omega (arith, ap (λ (m : MakerTold). m.calls.faults) same)
json_later text a b Memory (inr h) = omega (arith, h.so.refused.faults)

no_policy_later : (k : PolicyKind) (text : List ℕ) (a b : MakerTold) (f : PolicyFault) → IsNoPolicy k text a b f → a.calls.faults ≤ b.calls.faults
no_policy_later kind.Flat text a b f h = omega (arith, ap (λ (m : MakerTold). m.calls.faults) h.1)
no_policy_later kind.Json text a b f h = json_later text a b f h

-- where no pattern was refused as too large and memory was not wanting, the text alone settles the fault
pub settled : (k : PolicyKind) (text : List ℕ) (a b : MakerTold) (f : PolicyFault) → ¬ (Rose a.calls.faults b.calls.faults) → IsNoPolicy k text a b f → f ≢ Memory → is_settled f ≡ true
settled k text a b Memory calm h named = absurd (named refl)
settled k text a b (Line n) calm h named = refl
settled k text a b (BadDigest i j) calm h named = refl
settled k text a b (Unsupported name) calm h named = refl
settled k text a b (Over limit) calm h named = refl
settled k text a b (Json NotJson) calm h named = refl
settled k text a b (Json (Missing name)) calm h named = refl
settled k text a b (Json (Kind name)) calm h named = refl
settled k text a b (Json (Range name)) calm h named = refl
settled kind.Flat text a b (Json no_memory) calm h named = absurd h.0
settled kind.Json text a b (Json no_memory) calm h named = absurd h.fault
settled k text a b (Exclude (Syntax n)) calm h named = refl
settled kind.Flat text a b (Exclude (TooLarge n)) calm h named = absurd h.0
settled kind.Json text a b (Exclude (TooLarge n)) calm h named =
    let much = too_much a b _ h.so.first.1 in absurd (calm (omega (arith, much.1.faults)))
settled kind.Flat text a b (Exclude none_left) calm h named = absurd h.0
settled kind.Json text a b (Exclude none_left) calm h named = absurd h

-- ---- the objects of the outside go on

rest_on : (o o' : Outside) → LeavesRest o o' → o.maker.calls.faults ≤ o'.maker.calls.faults → GoesOn o o'
rest_on o o' rest later = record {
  related = ap (λ (k : KeysTold). k.relations) rest.keys;
  keys = omega (arith, ap (λ (k : KeysTold). k.calls.faults) rest.keys);
  drawn = omega (arith, ap (λ (w : WordsTold). w.calls.faults) rest.words);
  left = λ w is. (w, ap (λ (z : WordsTold). z.left) rest.words ∙ is);
  made = later;
}

reads_later : (o o' : Outside) (H : History) (k : PolicyKind) (p : PolicyFields) → Reads o o' H k p → o.maker.calls.faults ≤ o'.maker.calls.faults
reads_later o o' H k p r = elim r.asked [
  | inl asked ↦ asks_later k p.patterns o.maker o'.maker asked
  | inr same ↦ omega (arith, ap (λ (m : MakerTold). m.calls.faults) same.1)
]

pub reads_on : (o o' : Outside) (H : History) (k : PolicyKind) (p : PolicyFields) → Reads o o' H k p → GoesOn o o'
reads_on o o' H k p r = rest_on o o' r.rest (reads_later o o' H k p r)

pub refuses_on : (o o' : Outside) (k : PolicyKind) (text : List ℕ) (why : PolicyFault) → Refuses o o' k text why → GoesOn o o'
refuses_on o o' k text why r = rest_on o o' r.rest (no_policy_later k text o.maker o'.maker why r.because)

pub no_terms_on : (o o' : Outside) (H : History) (a : Add) (why : NoTerms) → NamesNoTerms o o' H a why → GoesOn o o'
no_terms_on o o' H a (Policy why) h = refuses_on o o' a.kind a.policy why h
no_terms_on o o' H a Mask h = reads_on o o' H a.kind h.0.0 h.0.2
no_terms_on o o' H a Static h = reads_on o o' H a.kind h.0.0 h.0.2

-- ---- where memory ran out behind a reading

-- nothing was asked
none_asked : (k : PolicyKind) (text : List ℕ) (a b : MakerTold) → b ≡ a → AsksSome k text a b
none_asked kind.Flat text a b same = same
none_asked kind.Json text a b same = inl same

all_asked : (k : PolicyKind) (text : List ℕ) (p : PolicyFields) (a b : MakerTold) → IsPolicy k text p → AsksFor k p.patterns a b → AsksSome k text a b
all_asked kind.Flat text p a b is same = same
all_asked kind.Json text p a b is made = memory_fault text p.digests p.patterns p.passes_violations a b is.says made

pub some_made : (o o' : Outside) (H : History) (k : PolicyKind) (text : List ℕ) (p : PolicyFields) → IsPolicy k text p → Reads o o' H k p → MadeSome o o' k text
some_made o o' H k text p is r = elim r.asked [
  | inl made ↦ record { asked = all_asked k text p o.maker o'.maker is made; rest = r.rest }
  | inr same ↦ record { asked = none_asked k text o.maker o'.maker same.1; rest = r.rest }
]

-- ---- a policy that was installed before

pub record_there : (H : History) (place : ℕ) (r : Record) → slice_get H place ≡ Some r → Contains H r
record_there H place r at = (place, slice_get_within H place r at, get_or_from_slice_get H place r r at)

-- ---- where a command names no terms, or memory runs out before

pub policy_in_terms : (o o' : Outside) (H : History) (a : Add) (f : NamingFault) → IsPolicyFault o o' a.kind a.policy f → IsTermsFault o o' H a f
policy_in_terms o o' H a (fault.None (Policy why)) h = h
policy_in_terms o o' H a (fault.None Mask) h = absurd h
policy_in_terms o o' H a (fault.None Static) h = absurd h
policy_in_terms o o' H a fault.Memory h = h

pub add_unnamed : (o o' : Outside) (a : Add) (s : VerifierFields) (f : NamingFault) → IsTermsFault o o' s.history a f → ((line : List ℕ) × DoesAdd o o' a s s line) ⊎ ((s ≡ s) × MadeSome o o' a.kind a.policy)
add_unnamed o o' a s (fault.None why) h = inl (refused_line (no_terms_text why), inr (why, h, (refl, refl)))
add_unnamed o o' a s fault.Memory h = inr (refl, h)

pub replace_unnamed : (o o' : Outside) (r : Replace) (s : VerifierFields) (f : NamingFault) → IsPolicyFault o o' r.kind r.policy f
    → ((line : List ℕ) × DoesReplace o o' r s s line) ⊎ ((s ≡ s) × MadeSome o o' r.kind r.policy)
replace_unnamed o o' r s (fault.None (Policy why)) h = inl (refused_line (no_terms_text (Policy why)), inr (why, h, (refl, refl)))
replace_unnamed o o' r s (fault.None Mask) h = absurd h
replace_unnamed o o' r s (fault.None Static) h = absurd h
replace_unnamed o o' r s fault.Memory h = inr (refl, h)

pub replace_refused : (o o' : Outside) (r : Replace) (s : VerifierFields) (why : NoTerms) (line : List ℕ) → IsPolicyFault o o' r.kind r.policy (fault.None why)
    → line ≡ refused_line (no_terms_text why) → DoesReplace o o' r s s line
replace_refused o o' r s (Policy why) line h said = inr (why, h, (refl, said))
replace_refused o o' r s Mask line h said = absurd h
replace_refused o o' r s Static line h said = absurd h
