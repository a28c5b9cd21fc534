-- What excludes each rule beyond the quote, and which rule is the first that applies.
use Rattle.std.proofs.Common.{◌≡◌, ◌⊎◌, ℕ, ◌+◌, ◌-◌, ◌<◌, ◌≤◌, List, [], ◌∷◌, ◌++◌, length, map, take, get_or, Option, Some, None, IsSomeAnd, All, refl, sym, ap, ◌∙◌, subst, inl, inr, arith, length-append}
use Rattle.std.proofs.Math.Seq.{take-append-add, take-length}
use Rattle.std.proofs.lemmas.Bool.{cases_lt}
use Rattle.std.proofs.lemmas.List.{get_or-append-add}
use Rattle.std.proofs.lemmas.List.Elements.{All-append}
use Rattle.std.proofs.lemmas.Option.{slice_get_within, get_or_from_slice_get, slice_get_read}
use Rattle.std.proofs.lemmas.Slice.Zip.{AllZip-long}
use Rattle.std.specs.List.{AllZip, slice_get}
use Rattle.kl_attest.specs.Grammar.{Quoted}
use Rattle.kl_bank.specs.declared.bank.Bank.{Bank}
use Rattle.kl_bank.specs.Banks.{zeros_of}
use Rattle.kl_entry.specs.declared.fault.LineFault.{LineFault}
use Rattle.kl_entry.specs.Entries.{EntryFields}
use Rattle.kl_entry.specs.Lines.{lines_of, AreEntries, Spells}
use Rattle.kl_entry.proofs.Spelling.{one_entry, fault_spells_none}
use Rattle.kl_pcr.specs.Measured.{measured_of}
use Rattle.kl_pcr.specs.Replay.{folded, replay_of}
use Rattle.kl_pcr.specs.Statics.{IsAllowed as HasAllowedValue, IsFirstWrong}
use Rattle.kl_pcr.specs.Values.{value_at}
use Rattle.kl_pcr.specs.declared.statics.Static.{Static}
use Rattle.kl_pcr.proofs.ReplayFacts.{replay_of-from, replay_of-nil}
use Rattle.kl_policy.specs.PolicyFields.{PolicyFields}
use Rattle.kl_policy.specs.Policy.{why_of, Allows, IsFirstBad}
use Rattle.kl_policy.specs.declared.why.Why.{Why}
use Rattle.kl_policy.proofs.Allowed.{allowed_iff}
use Rattle.kl_states.specs.declared.verdict.Verdict.{Verdict}
use Rattle.kl_states.specs.declared.verdict.Verdict.TheVariants.{Pass, Failed, Invalid}
use Rattle.kl_states.specs.declared.verdict.FailedCause.TheVariants.{Pcr, Line, ListFull, Unmatched, Entry}
use Rattle.kl_states.specs.declared.verdict.InvalidCause.TheVariants.{Form, Bank as OtherBank, Attest, Signature, Nonce, Selection, PcrLength, PcrDigest, Binding, Start}
use Rattle.kl_states.specs.declared.verdict.EntryCause.{EntryCause}
use Rattle.kl_appraise.specs.declared.judged.Boot.{Boot}
use Rattle.kl_appraise.specs.declared.kept.Kept.{Kept}
use Rattle.kl_appraise.specs.declared.replayed.Base.{Base}
use Rattle.kl_appraise.specs.Evidence.{Attests, HasValues}
use Rattle.kl_appraise.specs.QuoteRules.{◌otherwise◌}
use Rattle.kl_appraise.specs.ListRules.{Case, Outcome, Judged, Restart, boot_of, line_cause, entry_cause, list_limit, WholeList, IsPlace, Replays, IsCut, IsFirstBadLine, ByStart, ByBoot, ByPcr, ByLine, ByListFull, ByUnmatched, ByEntry, ByPass, ListRules}
use Rattle.kl_appraise.specs.Kept.{Stands, from_of}
use Rattle.kl_appraise.specs.Inner.Listed.{Continues, IsBase, IsNoBase, IsBehind, IsShortest, NoneGives, fewest, JudgesEntries, JudgesList}
use Rattle.kl_appraise.proofs.QuoteFacts.{attests_unique, values_unique}

-- ---- A list text spells one list of entries.

pub entries_same : (lines : List (List ℕ)) (xs ys : List EntryFields) → AllZip Spells lines xs → AllZip Spells lines ys → xs ≡ ys
entries_same [] [] [] h k = refl
entries_same [] [] (y ∷ ys) h k = absurd k
entries_same [] (x ∷ xs) ys h k = absurd h
entries_same (l ∷ ls) [] ys h k = absurd h
entries_same (l ∷ ls) (x ∷ xs) [] h k = absurd k
entries_same (l ∷ ls) (x ∷ xs) (y ∷ ys) (first, h) (also, k) =
    ap (λ (e : EntryFields). e ∷ xs) (one_entry l x y first also) ∙ ap (λ (es : List EntryFields). y ∷ es) (entries_same ls xs ys h k)

pub line_count : (text : List ℕ) (es : List EntryFields) → AreEntries text es → length es ≡ length (lines_of text)
line_count text es are = AllZip-long Spells (lines_of text) es are

-- ---- The whole list is the accepted entries that the reply begins behind, and then its own.

abbrev pub accepted : Case → List EntryFields
accepted c = take c.evidence.start c.prefix

pub one_whole : (c : Case) (v w : List EntryFields) → WholeList c v → WholeList c w → v ≡ w
one_whole c v w (es, are, is) (fs, also, same) =
    is ∙ ap (λ (entries : List EntryFields). accepted c ++ entries) (entries_same (lines_of c.evidence.list) es fs are also) ∙ sym same

pub whole_of : (c : Case) (es : List EntryFields) → AreEntries c.evidence.list es → WholeList c (accepted c ++ es)
whole_of c es are = (es, are, refl)

-- from the list's begin on
pub whole_from : (c : Case) (es : List EntryFields) → c.evidence.start ≡ 0 → AreEntries c.evidence.list es → WholeList c es
whole_from c es start are = (es, are, sym (ap (λ (n : ℕ). take n c.prefix ++ es) start))

-- ---- What a reply begins behind

-- the entries of another front of the same list
front_at : (P : ℕ → List EntryFields → Type 0) (n m : ℕ) (prefix : List EntryFields) → n ≡ m → P m (take m prefix) → P n (take n prefix)
front_at P n m prefix same h = subst (λ (x : ℕ). P x (take x prefix)) (sym same) h

pub behind_nothing : (c : Case) → c.evidence.start ≡ 0 → IsBehind c (zeros_of c.terms.bank)
behind_nothing c start = record {
  start = inl start;
  boot = λ t attests later. absurd (omega arith);
  count = front_at (λ (n : ℕ) (xs : List EntryFields). length xs ≡ n) c.evidence.start 0 c.prefix start refl;
  value = front_at (λ (n : ℕ) (xs : List EntryFields). zeros_of c.terms.bank ≡ replay_of c.terms.bank xs) c.evidence.start 0 c.prefix start (sym (replay_of-nil c.terms.bank));
  allowed = front_at (λ (n : ℕ) (xs : List EntryFields). All (Allows c.terms.policy) xs) c.evidence.start 0 c.prefix start (λ k d below. absurd (omega arith));
}

-- all of the prefix
whole_prefix : (c : Case) → c.evidence.start ≡ length c.prefix → accepted c ≡ c.prefix
whole_prefix c all = ap (λ (n : ℕ). take n c.prefix) all ∙ take-length c.prefix

pub behind : (c : Case) (kept : Option Kept) (t : Quoted) (base : Base) → c.from ≡ from_of kept → Stands kept c.prefix c.boot c.terms → Attests c.evidence.quote t
    → IsBase c.terms.bank kept c.evidence.start (boot_of t) base → IsBehind c base.pcr
behind c kept t base from stands attests is = by_kept kept from stands is.behind
  where
    by_kept : (k : Option Kept) → c.from ≡ from_of k → Stands k c.prefix c.boot c.terms
        → ((c.evidence.start ≡ 0) × (base.pcr ≡ zeros_of c.terms.bank)) ⊎ Continues k c.evidence.start (boot_of t) base.pcr → IsBehind c base.pcr
    by_kept k from stands (inl (start, zeros)) = subst (IsBehind c) (sym zeros) (behind_nothing c start)
    by_kept None from stands (inr other) = absurd other
    by_kept (Some k) from stands (inr (count, boot, pcr)) =
        let all : c.evidence.start ≡ length c.prefix = sym count ∙ stands.count in
        let same : accepted c ≡ c.prefix = whole_prefix c all in record {
          start = inr (sym count ∙ sym from);
          boot = λ u also later. ap boot_of (attests_unique c.evidence.quote u t also attests) ∙ sym boot ∙ stands.same_boot;
          count = ap length same ∙ sym all;
          value = sym pcr ∙ stands.pcr ∙ ap (replay_of c.terms.bank) (sym same);
          allowed = subst (λ (xs : List EntryFields). All (Allows c.terms.policy) xs) (sym same) stands.allowed;
        }

-- in the words of the code: the bank and the boot are called otherwise
pub behind_at : (c : Case) (kept : Option Kept) (t : Quoted) (bank : Bank) (boot : Boot) (base : Base) → bank ≡ c.terms.bank → boot_of t ≡ boot → c.from ≡ from_of kept
    → Stands kept c.prefix c.boot c.terms → Attests c.evidence.quote t → IsBase bank kept c.evidence.start boot base → IsBehind c base.pcr
behind_at c kept t bank boot base banks boots from stands attests is =
    behind c kept t base from stands attests
    (subst (λ (x : Bank). IsBase x kept c.evidence.start (boot_of t) base) banks (subst (λ (x : Boot). IsBase bank kept c.evidence.start x base) (sym boots) is))

-- the boot that a quote signs is one
pub boot_is : (quote : List ℕ) (t : Quoted) (boot : Boot) → (u : Quoted) × Attests quote u × (boot_of u ≡ boot) → Attests quote t → boot_of t ≡ boot
boot_is quote t boot (u, also, is) attests = ap boot_of (attests_unique quote t u attests also) ∙ is

-- ---- There is at most one cut.

pub cut_unique : (c : Case) (whole : List EntryFields) (values : List ℕ) (m n : ℕ) → HasValues c.evidence.quote values → IsCut c whole m → IsCut c whole n → m ≡ n
cut_unique c whole values m n has a b =
    elim (cases_lt m n) [
      | inl below ↦ absurd (b.least values m has a.place below (a.replays values has))
      | inr above ↦ elim (cases_lt n m) [
        | inl below ↦ absurd (a.least values n has b.place below (b.replays values has))
        | inr also ↦ omega arith
      ]
    ]

-- ---- The walk from the accepted entries' value is the replay of the whole list.

-- a front of the reply's entries, with the accepted ones
pub front_behind : (c : Case) (pcr : List ℕ) (es : List EntryFields) (n : ℕ) → IsBehind c pcr → take (c.evidence.start + n) (accepted c ++ es) ≡ accepted c ++ take n es
front_behind c pcr es n b =
    ap (λ (k : ℕ). take (k + n) (accepted c ++ es)) (sym b.count) ∙ take-append-add (accepted c) es n

replay_behind : (c : Case) (pcr : List ℕ) (es : List EntryFields) (n : ℕ) → IsBehind c pcr
    → replay_of c.terms.bank (take (c.evidence.start + n) (accepted c ++ es)) ≡ folded c.terms.bank pcr (map (measured_of c.terms.bank) (take n es))
replay_behind c pcr es n b =
    ap (replay_of c.terms.bank) (front_behind c pcr es n b)
    ∙ replay_of-from c.terms.bank (accepted c) (take n es)
    ∙ ap (λ (x : List ℕ). folded c.terms.bank x (map (measured_of c.terms.bank) (take n es))) (sym b.value)

abbrev pub quoted_at : Case → List ℕ → List ℕ
quoted_at c values = value_at c.terms.bank c.terms.mask values 10

whole_length : (c : Case) (pcr : List ℕ) (es : List EntryFields) → IsBehind c pcr → length (accepted c ++ es) ≡ c.evidence.start + length es
whole_length c pcr es b = length-append (accepted c) es ∙ ap (λ (n : ℕ). n + length es) b.count

-- a place of the whole list is one of the reply's entries, behind the accepted ones
place_behind : (c : Case) (base : Base) (es : List EntryFields) (place : ℕ) → base.count ≡ c.evidence.start → IsBehind c base.pcr → IsPlace c (accepted c ++ es) place
    → (n : ℕ) × (place ≡ c.evidence.start + n) × (fewest base ≤ n) × (n ≤ length es)
place_behind c base es place count b p =
    let behind : c.evidence.start ≤ place = p.behind in
    let some : 1 ≤ place = p.some in
    let inside : place ≤ c.evidence.start + length es = omega (arith, p.inside, whole_length c base.pcr es b) in
    (place - c.evidence.start, omega arith, omega arith, omega arith)

-- the shortest beginning that gives the quoted value ends at the cut
pub cut_from : (c : Case) (base : Base) (es : List EntryFields) (values : List ℕ) (n : ℕ) → base.count ≡ c.evidence.start → IsBehind c base.pcr → HasValues c.evidence.quote values
    → IsShortest c.terms.bank base es (quoted_at c values) n → IsCut c (accepted c ++ es) (c.evidence.start + n)
cut_from c base es values n count b has short =
    let some : fewest base ≤ n = short.some in
    let inside : n ≤ length es = short.inside in
    let long = whole_length c base.pcr es b in record {
      place = record { behind = omega arith; some = omega arith; inside = omega (arith, long) };
      replays = λ v h. replay_behind c base.pcr es n b ∙ short.gives ∙ ap (quoted_at c) (values_unique c.evidence.quote values v has h);
      least = λ v less h place below matches.
          let (m, is, from, within) = place_behind c base es less count b place in
          let here : Replays c v (accepted c ++ es) (c.evidence.start + m) = subst (λ (k : ℕ). Replays c v (accepted c ++ es) k) is matches in
          short.least m from (omega arith)
          (sym (replay_behind c base.pcr es m b) ∙ here ∙ ap (quoted_at c) (values_unique c.evidence.quote v values h has));
    }

pub uncut : (c : Case) (base : Base) (es : List EntryFields) (values : List ℕ) (cut : ℕ) → base.count ≡ c.evidence.start → IsBehind c base.pcr → HasValues c.evidence.quote values
    → NoneGives c.terms.bank base es (quoted_at c values) (length es) → ¬ (IsCut c (accepted c ++ es) cut)
uncut c base es values cut count b has none is =
    let (m, at, from, within) = place_behind c base es cut count b is.place in
    let here : Replays c values (accepted c ++ es) (c.evidence.start + m) = subst (λ (k : ℕ). Replays c values (accepted c ++ es) k) at (is.replays values has) in
    none m from within (sym (replay_behind c base.pcr es m b) ∙ here)

-- ---- The policy and the accepted entries, which it allows

pub allowed_behind : (c : Case) (pcr : List ℕ) (es : List EntryFields) (n : ℕ) → IsBehind c pcr → All (Allows c.terms.policy) (take n es)
    → All (Allows c.terms.policy) (take (c.evidence.start + n) (accepted c ++ es))
allowed_behind c pcr es n b good =
    subst (λ (xs : List EntryFields). All (Allows c.terms.policy) xs) (sym (front_behind c pcr es n b))
    (All-append (Allows c.terms.policy) (accepted c) (take n es) b.allowed good)

bad_after : (policy : PolicyFields) (before es : List EntryFields) (place : ℕ) (why : Why) → All (Allows policy) before
    → IsFirstBad policy es (Some (place, why)) → IsFirstBad policy (before ++ es) (Some (length before + place, why))
bad_after policy before es place why good (here, front) = (
  by_entry (slice_get es place) refl here,
  subst (λ (xs : List EntryFields). All (Allows policy) xs) (sym (take-append-add before es place))
      (All-append (Allows policy) before (take place es) good front),
)
  where
    by_entry : (o : Option EntryFields) → slice_get es place ≡ o → IsSomeAnd o (λ e. why_of policy e ≡ Some why) → IsSomeAnd (slice_get (before ++ es) (length before + place)) (λ e. why_of policy e ≡ Some why)
    by_entry None is found = absurd found
    by_entry (Some e) is found =
        let inside : place < length es = slice_get_within es place e is in
        let at : e ≡ get_or (before ++ es) (length before + place) e = sym (get_or_from_slice_get es place e e is) ∙ sym (get_or-append-add before es place e) in
        let there : slice_get (before ++ es) (length before + place) ≡ Some e =
        slice_get_read (before ++ es) (length (before ++ es)) (length before + place) e refl (omega (arith, length-append before es)) at in
        subst (λ (x : Option EntryFields). IsSomeAnd x (λ e. why_of policy e ≡ Some why)) (sym there) found

pub bad_behind : (c : Case) (pcr : List ℕ) (es : List EntryFields) (n place : ℕ) (why : Why) → IsBehind c pcr → IsFirstBad c.terms.policy (take n es) (Some (place, why))
    → IsFirstBad c.terms.policy (take (c.evidence.start + n) (accepted c ++ es)) (Some (c.evidence.start + place, why))
bad_behind c pcr es n place why b bad =
    let moved : IsFirstBad c.terms.policy (accepted c ++ take n es) (Some (length (accepted c) + place, why)) = bad_after c.terms.policy (accepted c) (take n es) place why b.allowed bad in
    let counted : IsFirstBad c.terms.policy (accepted c ++ take n es) (Some (c.evidence.start + place, why)) =
    subst (λ (k : ℕ). IsFirstBad c.terms.policy (accepted c ++ take n es) (Some (k + place, why))) b.count moved in
    subst (λ (xs : List EntryFields). IsFirstBad c.terms.policy xs (Some (c.evidence.start + place, why))) (sym (front_behind c pcr es n b)) counted

pub bad_excluded : (policy : PolicyFields) (xs : List EntryFields) (place : ℕ) (why : Why) → All (Allows policy) xs → ¬ (IsFirstBad policy xs (Some (place, why)))
bad_excluded policy xs place why good (here, _) = by_entry (slice_get xs place) refl here
  where
    by_entry : (o : Option EntryFields) → slice_get xs place ≡ o → IsSomeAnd o (λ e. why_of policy e ≡ Some why) → ⊥
    by_entry None is found = absurd found
    by_entry (Some e) is found =
        let within : place < length xs = slice_get_within xs place e is in
        let allowed : Allows policy e = subst (Allows policy) (get_or_from_slice_get xs place e e is) (good place e within) in
        let none : why_of policy e ≡ None = (allowed_iff policy e).1 allowed in
        cc

-- ---- What excludes each rule

pub not_start : (c : Case) (pcr : List ℕ) → IsBehind c pcr → (o : Outcome) → ¬ (ByStart c o)
not_start c pcr b o (other, also, _) = elim b.start [ inl begins ↦ other begins | inr continues ↦ also continues ]

pub not_boot : (c : Case) (pcr : List ℕ) → IsBehind c pcr → (o : Outcome) → ¬ (ByBoot c o)
not_boot c pcr b o (later, t, attests, other, _) = other (b.boot t attests later)

pub not_pcr : (c : Case) (values : List ℕ) → HasValues c.evidence.quote values → IsFirstWrong c.terms.bank c.terms.mask values c.terms.statics None → (o : Outcome) → ¬ (ByPcr c o)
not_pcr c values has right o (w, n, h, ((k, s, within, there, (wrong, _)), _), _) =
    let same : values ≡ w = values_unique c.evidence.quote values w has h in
    let each : All (HasAllowedValue c.terms.bank c.terms.mask w) c.terms.statics =
    subst (λ (x : List ℕ). All (HasAllowedValue c.terms.bank c.terms.mask x) c.terms.statics) same right in
    wrong (subst (HasAllowedValue c.terms.bank c.terms.mask w) there (each k s within))

zip_at : (before : List (List ℕ)) (line : List ℕ) (after : List (List ℕ)) (es : List EntryFields) → AllZip Spells (before ++ line ∷ after) es → (e : EntryFields) × Spells line e
zip_at [] line after [] h = absurd h
zip_at [] line after (e ∷ es) h = (e, h.0)
zip_at (b ∷ bs) line after [] h = absurd h
zip_at (b ∷ bs) line after (e ∷ es) h = zip_at bs line after es h.1

pub no_bad_line : (text : List ℕ) (es : List EntryFields) → AreEntries text es → (place : ℕ) (f : LineFault) → ¬ (IsFirstBadLine text place f)
no_bad_line text es are place f bad =
    let (e, spelled) = zip_at bad.before bad.line bad.after es (subst (λ (ls : List (List ℕ)). AllZip Spells ls es) bad.cut are) in
    fault_spells_none bad.line f e bad.bad spelled

pub not_line : (c : Case) (es : List EntryFields) → AreEntries c.evidence.list es → (o : Outcome) → ¬ (ByLine c o)
not_line c es are o (place, f, bad, _) = no_bad_line c.evidence.list es are place f bad

pub not_full : (c : Case) (es : List EntryFields) → AreEntries c.evidence.list es → c.evidence.start + length es ≤ list_limit → (o : Outcome) → ¬ (ByListFull c o)
not_full c es are short o (over, _) = omega (arith, line_count c.evidence.list es are)

pub not_unmatched : (c : Case) (whole : List EntryFields) (cut : ℕ) → WholeList c whole → IsCut c whole cut → (o : Outcome) → ¬ (ByUnmatched c o)
not_unmatched c whole cut is at o (none, _) = none whole cut is at

pub not_entry : (c : Case) (whole : List EntryFields) (values : List ℕ) (n : ℕ) → HasValues c.evidence.quote values → WholeList c whole
    → IsCut c whole n → All (Allows c.terms.policy) (take n whole) → (o : Outcome) → ¬ (ByEntry c o)
not_entry c whole values n has is at good o (w, cut, place, why, also, other, bad, _) =
    let same : w ≡ whole = one_whole c w whole also is in
    let here : IsCut c whole cut = subst (λ (x : List EntryFields). IsCut c x cut) same other in
    let one : cut ≡ n = cut_unique c whole values cut n has here at in
    let moved : IsFirstBad c.terms.policy (take cut whole) (Some (place, why)) =
    subst (λ (x : List EntryFields). IsFirstBad c.terms.policy (take cut x) (Some (place, why))) same bad in
    bad_excluded c.terms.policy (take n whole) place why good (subst (λ (k : ℕ). IsFirstBad c.terms.policy (take k whole) (Some (place, why))) one moved)

-- in the words of the code
pub first_wrong_at : (a b : Bank) (m n : ℕ) (v w : List ℕ) (ss others : List Static) (found : Option ℕ) → a ≡ b → m ≡ n → v ≡ w → ss ≡ others
    → IsFirstWrong a m v ss found → IsFirstWrong b n w others found
first_wrong_at a b m n v w ss others found banks masks values same h =
    subst (λ (x : List Static). IsFirstWrong b n w x found) same (subst (λ (x : List ℕ). IsFirstWrong b n x ss found) values
    (subst (λ (x : ℕ). IsFirstWrong b x v ss found) masks (subst (λ (x : Bank). IsFirstWrong x m v ss found) banks h)))

-- ---- Which rule is the first: one behind those that do not apply

past_boot : (c : Case) (pcr : List ℕ) (o : Outcome) → IsBehind c pcr
    → (ByPcr c otherwise ByLine c otherwise ByListFull c otherwise ByUnmatched c otherwise ByEntry c otherwise ByPass c) o → ListRules c o
past_boot c pcr o b rest = inr (not_start c pcr b, inr (not_boot c pcr b, rest))

past_pcr : (c : Case) (pcr values : List ℕ) (o : Outcome) → IsBehind c pcr → HasValues c.evidence.quote values → IsFirstWrong c.terms.bank c.terms.mask values c.terms.statics None
    → (ByLine c otherwise ByListFull c otherwise ByUnmatched c otherwise ByEntry c otherwise ByPass c) o → ListRules c o
past_pcr c pcr values o b has right rest = past_boot c pcr o b (inr (not_pcr c values has right, rest))

past_line : (c : Case) (pcr values : List ℕ) (es : List EntryFields) (o : Outcome) → IsBehind c pcr → HasValues c.evidence.quote values → IsFirstWrong c.terms.bank c.terms.mask values c.terms.statics None
    → AreEntries c.evidence.list es → (ByListFull c otherwise ByUnmatched c otherwise ByEntry c otherwise ByPass c) o → ListRules c o
past_line c pcr values es o b has right are rest = past_pcr c pcr values o b has right (inr (not_line c es are, rest))

-- rules 10 and 11
pub by_no_base : (c : Case) (kept : Option Kept) (t : Quoted) (values : List ℕ) (o : Outcome) → c.from ≡ from_of kept → Stands kept c.prefix c.boot c.terms → Attests c.evidence.quote t
    → IsNoBase kept c.evidence.start (boot_of t) o → JudgesList c t values o 0
by_no_base c kept t values (Judged (Invalid Start)) from stands attests (other, also) =
    record { rules = inl (other, λ same. also (same ∙ from), refl); shows = tt; cost = refl }
by_no_base c (Some k) t values Restart from stands attests (later, same, other) = record {
  rules = inr (λ o (_, continues, _). continues (same ∙ sym from), inl (later, t, attests, λ boot. other (stands.same_boot ∙ sym boot), refl));
  shows = tt;
  cost = refl;
}
by_no_base c None t values Restart from stands attests (later, same, other) = absurd other
by_no_base c kept t values (Judged (Pass _)) from stands attests none = absurd none
by_no_base c kept t values (Judged (Failed _)) from stands attests none = absurd none
by_no_base c kept t values (Judged (Invalid (Form _))) from stands attests none = absurd none
by_no_base c kept t values (Judged (Invalid OtherBank)) from stands attests none = absurd none
by_no_base c kept t values (Judged (Invalid (Attest _))) from stands attests none = absurd none
by_no_base c kept t values (Judged (Invalid Signature)) from stands attests none = absurd none
by_no_base c kept t values (Judged (Invalid Nonce)) from stands attests none = absurd none
by_no_base c kept t values (Judged (Invalid Selection)) from stands attests none = absurd none
by_no_base c kept t values (Judged (Invalid PcrLength)) from stands attests none = absurd none
by_no_base c kept t values (Judged (Invalid PcrDigest)) from stands attests none = absurd none
by_no_base c kept t values (Judged (Invalid Binding)) from stands attests none = absurd none

-- rule 12
pub by_pcr : (c : Case) (t : Quoted) (pcr values : List ℕ) (n : ℕ) → IsBehind c pcr → HasValues c.evidence.quote values → IsFirstWrong c.terms.bank c.terms.mask values c.terms.statics (Some n)
    → JudgesList c t values (Judged (Failed (Pcr n))) 0
by_pcr c t pcr values n b has wrong = record { rules = past_boot c pcr (Judged (Failed (Pcr n))) b (inl (values, n, has, wrong, refl)); shows = tt; cost = refl }

-- rule 13
pub by_line : (c : Case) (t : Quoted) (pcr values : List ℕ) (place at : ℕ) (f : LineFault) → IsBehind c pcr → HasValues c.evidence.quote values
    → IsFirstWrong c.terms.bank c.terms.mask values c.terms.statics None → IsFirstBadLine c.evidence.list at f → place ≡ c.evidence.start + at
    → JudgesList c t values (Judged (Failed (Line place (line_cause f)))) 0
by_line c t pcr values place at f b has right bad is = record {
  rules = past_pcr c pcr values (Judged (Failed (Line place (line_cause f)))) b has right (inl (at, f, bad, ap (λ (n : ℕ). Judged (Failed (Line n (line_cause f)))) is));
  shows = tt;
  cost = refl;
}

-- rule 14
pub by_full : (c : Case) (t : Quoted) (pcr values : List ℕ) (es : List EntryFields) → IsBehind c pcr → HasValues c.evidence.quote values
    → IsFirstWrong c.terms.bank c.terms.mask values c.terms.statics None → AreEntries c.evidence.list es → list_limit < c.evidence.start + length es
    → JudgesList c t values (Judged (Failed ListFull)) 0
by_full c t pcr values es b has right are over = record {
  rules = past_line c pcr values es (Judged (Failed ListFull)) b has right are (inl (omega (arith, line_count c.evidence.list es are), refl));
  shows = tt;
  cost = refl;
}

-- rules 15 to 17: the verdict on the entries is the outcome, where no rule before applies
pub by_entries : (c : Case) (t : Quoted) (base : Base) (values : List ℕ) (es : List EntryFields) (v : Verdict) (n : ℕ) → base.count ≡ c.evidence.start → IsBehind c base.pcr
    → Attests c.evidence.quote t → HasValues c.evidence.quote values → IsFirstWrong c.terms.bank c.terms.mask values c.terms.statics None → AreEntries c.evidence.list es
    → c.evidence.start + length es ≤ list_limit → JudgesEntries c.terms base es (quoted_at c values) v n → JudgesList c t values (Judged v) n
by_entries c t base values es (Pass place) n count b attests has right are short (is, shortest, good) =
    let at : place ≡ c.evidence.start + n = is ∙ ap (λ (k : ℕ). k + n) count in
    let whole = whole_of c es are in
    let cut : IsCut c (accepted c ++ es) place = subst (λ (k : ℕ). IsCut c (accepted c ++ es) k) (sym at) (cut_from c base es values n count b has shortest) in
    let allowed : All (Allows c.terms.policy) (take place (accepted c ++ es)) =
    subst (λ (k : ℕ). All (Allows c.terms.policy) (take k (accepted c ++ es))) (sym at) (allowed_behind c base.pcr es n b good) in
    let begins : (c.evidence.start ≡ 0) ⊎ ((c.evidence.start ≡ c.from) × (boot_of t ≡ c.boot)) =
    elim (cases_lt 0 c.evidence.start) [
      | inr none ↦ inl (omega arith)
      | inl later ↦ elim b.start [ inl none ↦ inl none | inr continues ↦ inr (continues, b.boot t attests later) ]
    ] in record {
      rules = past_line c base.pcr values es (Judged (Pass place)) b has right are
          (inr (not_full c es are short, inr (not_unmatched c (accepted c ++ es) place whole cut, inr (not_entry c (accepted c ++ es) values place has whole cut allowed, (accepted c ++ es, place, whole, cut, refl)))));
      shows = record {
        start = begins;
        statics = right;
        whole = accepted c ++ es;
        is_whole = whole;
        short = omega (arith, short, line_count c.evidence.list es are);
        is_cut = cut;
        allowed = allowed;
      };
      cost = sym at;
    }
by_entries c t base values es (Failed Unmatched) n count b attests has right are short (all, none) =
    let every : NoneGives c.terms.bank base es (quoted_at c values) (length es) = subst (λ (k : ℕ). NoneGives c.terms.bank base es (quoted_at c values) k) all none in
    let unmatched : (whole : List EntryFields) (cut : ℕ) → WholeList c whole → ¬ (IsCut c whole cut) =
    λ whole cut is at.
    uncut c base es values cut count b has every (subst (λ (x : List EntryFields). IsCut c x cut) (one_whole c whole (accepted c ++ es) is (whole_of c es are)) at) in record {
      rules = past_line c base.pcr values es (Judged (Failed Unmatched)) b has right are (inr (not_full c es are short, inl (unmatched, refl)));
      shows = tt;
      cost = all ∙ line_count c.evidence.list es are;
    }
by_entries c t base values es (Failed (Entry place cause)) n count b attests has right are short (at, why, is, named, shortest, bad) =
    let there : place ≡ c.evidence.start + at = is ∙ ap (λ (k : ℕ). k + at) count in
    let whole = whole_of c es are in
    let cut = cut_from c base es values n count b has shortest in
    let same : Judged (Failed (Entry place cause)) ≡ Judged (Failed (Entry (c.evidence.start + at) (entry_cause why))) =
    ap (λ (k : ℕ). Judged (Failed (Entry k cause))) there ∙ ap (λ (x : EntryCause). Judged (Failed (Entry (c.evidence.start + at) x))) named in
    let entry : ByEntry c (Judged (Failed (Entry place cause))) = (accepted c ++ es, c.evidence.start + n, c.evidence.start + at, why, whole, cut, bad_behind c base.pcr es n at why b bad, same) in record {
      rules = past_line c base.pcr values es (Judged (Failed (Entry place cause))) b has right are
          (inr (not_full c es are short, inr (not_unmatched c (accepted c ++ es) (c.evidence.start + n) whole cut, inl entry)));
      shows = tt;
      cost = (accepted c ++ es, c.evidence.start + n, whole, cut, refl);
    }
by_entries c t base values es (Failed (Pcr _)) n count b attests has right are short none = absurd none
by_entries c t base values es (Failed (Line _ _)) n count b attests has right are short none = absurd none
by_entries c t base values es (Failed ListFull) n count b attests has right are short none = absurd none
by_entries c t base values es (Invalid _) n count b attests has right are short none = absurd none
