-- A book stays one with each record more.
use Rattle.std.proofs.Common.{◌≡◌, ℕ, ◌+◌, ◌*◌, ◌≤◌, Bool, true, false, cond, List, [], ◌∷◌, ◌++◌, length, Option, Some, None, refl, ap, sym, ◌∙◌, subst, arith, length-append}
use Rattle.std.specs.Prelude.{count_by, is_some}
use Rattle.std.specs.List.{sum_by}
use Rattle.std.specs.Ordering.{nat_cmp}
use Rattle.std.specs.Str.{bytes_eq}
use Rattle.std.specs.Cmp.Lexicographic.{slice_cmp}
use Rattle.std.specs.BTreeMap.{BTreeMap, get, btree_map_len, Updates, IsUnchanged, is_at}
use Rattle.std.specs.Map.{lookup}
use Rattle.std.specs.Option.{option_map}
use Rattle.std.proofs.lemmas.List.Sums.{sum_by-cons}
use Rattle.std.proofs.lemmas.Bool.{eq-eqb, both_ways}
use Rattle.std.proofs.lemmas.Option.{same_Some}
use lib.Dec.{eqb}
use Rattle.kl_policy.specs.PolicyFields.{PolicyFields}
use Rattle.kl_appraise.specs.Terms.{TermsFields}
use Rattle.kl_history.specs.declared.record.Record.{Record}
use Rattle.kl_history.specs.declared.record.Record.TheVariants.{Install, Begin, Stop, Remove}
use Rattle.kl_history.specs.declared.record.InstallWhy.{InstallWhy}
use Rattle.kl_history.specs.declared.record.InstallWhy.TheVariants.{Replace, Reactivate}
use Rattle.kl_history.specs.Records.{History, Past, past_of, begins, closes, own, is_install, is_begin, is_close, is_release, is_settling, generations, polls, releases_made, open_polls, open_releases}
use Rattle.kl_history.specs.LookBacks.{installed}
use Rattle.kl_history.specs.States.{is_current}
use Rattle.kl_history.specs.Legal.{is_add, is_remove, MayInstall, IsBusy, Row, weight_of, HasRoom, HasBytes, Fits}
use Rattle.kl_history.proofs.OwnRecords.{own-yes}
use Rattle.kl_agents.specs.declared.entry.Entry.{Entry}
use Rattle.kl_agents.specs.declared.entry.Opening.{Opening}
use Rattle.kl_core.specs.Inner.Keeping.{terms_at, Says, IsEntry, HasEntry, HasOpening, IsBook}
use Rattle.kl_core.specs.Installs.{with_policy}
use Rattle.kl_agents.specs.Steps.{renewed, polled, stopped}
use Rattle.kl_core.proofs.OneMore.{past_of-snoc, counted, counted_as, Quiet, quiet_stop, quiet_remove, calm_install, calm_begin, numbers_quiet, numbers_install, numbers_begin}
use Rattle.kl_agents.proofs.Texts.{eq_yes}
use Rattle.kl_core.proofs.Ours.{says_fresh, says_stopped}
use Rattle.kl_core.proofs.Standing.{live_of, opening_at}
use Rattle.kl_core.proofs.Keeping.{agents_at, polls_at, entry_step, has_theirs, newly, entry_fresh, begins_theirs, entry_polled, has_opening, closed_opening, opening_begun}

-- ---- what a book's counts are
-- what is kept has room after a record that opens and closes so many polls, and makes and settles so many releases
pub fits_more : (past : Past) (r : Record) (opened closed made settled : ℕ) → count_by is_settling past ≤ releases_made past
    → releases_made (r ∷ past) ≡ releases_made past + made → count_by is_settling (r ∷ past) ≡ count_by is_settling past + settled
    → polls (r ∷ past) ≡ polls past + opened → count_by is_close (r ∷ past) ≡ count_by is_close past + closed → count_by is_close past ≤ polls past
    → length past + open_polls past + open_releases past + 1 + opened + made ≤ 1000000 + closed + settled
    → sum_by weight_of past + 16777216 * open_polls past + weight_of r + 16777216 * opened ≤ 1073741824 + 16777216 * closed
    → closed ≤ open_polls past + opened → settled ≤ open_releases past + made
    → Fits (r ∷ past)
fits_more past r opened closed made settled fewer making settling opening closing within room bytes some some_too =
    let heavier : sum_by weight_of (r ∷ past) ≡ weight_of r + sum_by weight_of past = sum_by-cons weight_of r past in
    let now : open_polls (r ∷ past) + closed ≡ open_polls past + opened = omega arith in
    let now_too : open_releases (r ∷ past) + settled ≡ open_releases past + made = omega arith in
    record { room = omega arith; bytes = omega arith }

-- ---- no records
-- the invariant of a book over the records in their order
pub in_order : (H : History) (r : Record) (agents : BTreeMap (List ℕ) Entry) (openings : BTreeMap ℕ Opening) (drawn begun weighs capacity waiting : ℕ)
    → IsBook (H ++ r ∷ []) (r ∷ past_of H) agents openings drawn begun weighs capacity waiting → IsBook (H ++ r ∷ []) (past_of (H ++ r ∷ [])) agents openings drawn begun weighs capacity waiting
in_order H r agents openings drawn begun weighs capacity waiting book = subst (λ (past : Past). IsBook (H ++ r ∷ []) past agents openings drawn begun weighs capacity waiting) (sym (past_of-snoc H r)) book

-- ---- an agent is installed
pub book_installed : (H : History) (past : Past) (agents agents' : BTreeMap (List ℕ) Entry) (openings : BTreeMap ℕ Opening) (drawn begun weighs capacity capacity' waiting g : ℕ)
    (a : List ℕ) (t : TermsFields) (w : InstallWhy) (added : ℕ) (handed : Option ℕ)
    → IsBook H past agents openings drawn begun weighs capacity waiting → g ≡ drawn + 1 → MayInstall past a t w
    → Updates (slice_cmp nat_cmp) agents agents' a (Some (newly g (length H) (is_some t.v) added handed))
    → btree_map_len agents' + count_by is_remove past ≡ cond (is_add (Install a g t w)) 1 0 + count_by is_add past
    → HasRoom past 1 → HasBytes past (weight_of (Install a g t w)) → length H + (btree_map_len openings + waiting + 1) ≤ capacity'
    → IsBook (H ++ Install a g t w ∷ []) (Install a g t w ∷ past) agents' openings g begun (weighs + weight_of (Install a g t w)) capacity' waiting
book_installed H past agents agents' openings drawn begun weighs capacity capacity' waiting g a t w added handed book next may up counts room bytes enough =
    let r = Install a g t w in
    let drawn_next : g ≡ generations past + 1 = omega (arith, book.drawn_is) in
    let calm = calm_install past a g t w book.numbers.named_within drawn_next in
    let polls_same = counted is_begin (Install a g t w) past in
    let drawn_more = counted is_install (Install a g t w) past in
    let closes_same = counted is_close (Install a g t w) past in
    let adds = counted is_add (Install a g t w) past in
    let removes = counted is_remove (Install a g t w) past in
    let releases = counted is_release (Install a g t w) past in
    let settlings = counted is_settling (Install a g t w) past in
    let heavier = sum_by-cons weight_of (Install a g t w) past in
    let len = length-append H (Install a g t w ∷ []) in
    let fits : Fits (Install a g t w ∷ past) =
    fits_more past (Install a g t w) 0 0 0 0 (omega (arith, book.releases_counted)) (omega arith) (omega arith) (omega arith) (omega arith) (omega (arith, book.polls_counted)) (omega arith) (omega arith) (omega arith) (omega arith) in
    record {
      legal = (book.legal, (drawn_next, may), fits);
      fits = fits;
      as_long = omega (arith, book.as_long);
      numbers = numbers_install past a g t w book.numbers drawn_next;
      agents_are = agents_at agents agents' a (Some (newly g (length H) (is_some t.v) added handed)) up (λ b o. HasEntry (H ++ Install a g t w ∷ []) (Install a g t w ∷ past) b o)
          (entry_fresh H past a g t w (is_some t.v) added handed book.numbers drawn_next (says_fresh (own past a) a g t w (length H) added handed))
          (λ b apart. has_theirs H past (Install a g t w) b _ calm (λ q s is e. refl) apart (book.agents_are b));
      polls_are = λ p. has_opening H past (Install a g t w) p _ calm refl refl (book.polls_are p);
      drawn_is = omega (arith, book.drawn_is);
      begun_is = omega (arith, book.begun_is);
      agents_counted = omega arith;
      polls_counted = omega (arith, book.polls_counted);
      releases_counted = omega (arith, book.releases_counted);
      weighs_is = omega (arith, book.weighs_is);
      room = omega (arith, book.room);
    }

-- ---- a record that neither installs, nor begins or closes a poll
pub book_plain : (H : History) (past : Past) (r : Record) (agents agents' : BTreeMap (List ℕ) Entry) (openings : BTreeMap ℕ Opening) (drawn begun weighs capacity capacity' waiting : ℕ)
    → IsBook H past agents openings drawn begun weighs capacity waiting → Quiet past r → Row past r → ((q : ℕ) → begins q r ≡ false) → ((q : ℕ) → closes q r ≡ false)
    → is_close r ≡ false → is_add r ≡ false → is_release r ≡ false → is_settling r ≡ false → weight_of r ≡ 0
    → ((a : List ℕ) → HasEntry (H ++ r ∷ []) (r ∷ past) a (get (slice_cmp nat_cmp) agents' a))
    → btree_map_len agents' + cond (is_remove r) 1 0 ≡ btree_map_len agents
    → HasRoom past 1 → length H + (btree_map_len openings + waiting + 1) ≤ capacity'
    → IsBook (H ++ r ∷ []) (r ∷ past) agents' openings drawn begun weighs capacity' waiting
book_plain H past r agents agents' openings drawn begun weighs capacity capacity' waiting book quiet row no_begin no_closes no_close no_add no_release no_settling no_weight are counts room enough =
    let polls_same = counted_as is_begin r past false quiet.no_begin in
    let drawn_same = counted_as is_install r past false quiet.no_install in
    let closes_same = counted_as is_close r past false no_close in
    let adds = counted_as is_add r past false no_add in
    let removes = counted is_remove r past in
    let releases = counted_as is_release r past false no_release in
    let settlings = counted_as is_settling r past false no_settling in
    let heavier = sum_by-cons weight_of r past in
    let len = length-append H (r ∷ []) in
    let bytes = book.fits.bytes in
    let fits : Fits (r ∷ past) =
    fits_more past r 0 0 0 0 (omega (arith, book.releases_counted)) (omega arith) (omega arith) (omega arith) (omega arith) (omega (arith, book.polls_counted)) (omega arith) (omega arith) (omega arith) (omega arith) in
    record {
      legal = (book.legal, row, fits);
      fits = fits;
      as_long = omega (arith, book.as_long);
      numbers = numbers_quiet past r quiet book.numbers;
      agents_are = are;
      polls_are = λ p. has_opening H past r p _ quiet.calm (no_begin p) (no_closes p) (book.polls_are p);
      drawn_is = omega (arith, book.drawn_is);
      begun_is = omega (arith, book.begun_is);
      agents_counted = omega (arith, book.agents_counted);
      polls_counted = omega (arith, book.polls_counted);
      releases_counted = omega (arith, book.releases_counted);
      weighs_is = omega (arith, book.weighs_is);
      room = omega (arith, book.room);
    }

-- ---- a poll begins
pub book_begun : (H : History) (past : Past) (agents agents' : BTreeMap (List ℕ) Entry) (openings openings' : BTreeMap ℕ Opening) (drawn begun weighs capacity capacity' waiting p : ℕ)
    (a n : List ℕ) (at : ℕ) (e : Entry)
    → IsBook H past agents openings drawn begun weighs capacity waiting → p ≡ begun + 1 → IsEntry H past a e → is_current (own past a) e.generation ≡ true
    → ((q : ℕ) → ¬ (IsBusy past a e.generation q))
    → Updates (slice_cmp nat_cmp) agents agents' a (Some (polled p at e)) → btree_map_len agents' ≡ btree_map_len agents
    → Updates nat_cmp openings openings' p (Some (record { agent = a; generation = e.generation; nonce = n; place = e.place }))
    → btree_map_len openings' ≡ btree_map_len openings + 1
    → HasRoom past 2 → HasBytes past 16777216 → length H + (btree_map_len openings + waiting + 2) ≤ capacity'
    → IsBook (H ++ Begin p a e.generation n at 0 ∷ []) (Begin p a e.generation n at 0 ∷ past) agents' openings' drawn p weighs capacity' waiting
book_begun H past agents agents' openings openings' drawn begun weighs capacity capacity' waiting p a n at e book next entry current idle up same_agents up_polls more room bytes enough =
    let r = Begin p a e.generation n at 0 in
    let next_poll : p ≡ polls past + 1 = omega (arith, book.begun_is) in
    let calm = calm_begin past p a e.generation n at 0 book.numbers.begun_within next_poll in
    let polls_more = counted is_begin (Begin p a e.generation n at 0) past in
    let drawn_same = counted is_install (Begin p a e.generation n at 0) past in
    let closes_same = counted is_close (Begin p a e.generation n at 0) past in
    let adds = counted is_add (Begin p a e.generation n at 0) past in
    let removes = counted is_remove (Begin p a e.generation n at 0) past in
    let releases = counted is_release (Begin p a e.generation n at 0) past in
    let settlings = counted is_settling (Begin p a e.generation n at 0) past in
    let heavier = sum_by-cons weight_of (Begin p a e.generation n at 0) past in
    let len = length-append H (Begin p a e.generation n at 0 ∷ []) in
    let fits : Fits (Begin p a e.generation n at 0 ∷ past) =
    fits_more past (Begin p a e.generation n at 0) 1 0 0 0 (omega (arith, book.releases_counted)) (omega arith) (omega arith) (omega arith) (omega arith) (omega (arith, book.polls_counted)) (omega arith) (omega arith) (omega arith) (omega arith) in
    record {
      legal = (book.legal, (next_poll, current, idle, refl), fits);
      fits = fits;
      as_long = omega (arith, book.as_long);
      numbers = numbers_begin past p a e.generation n at 0 book.numbers next_poll (book.numbers.named_within e.generation entry.with entry.named);
      agents_are = agents_at agents agents' a (Some (polled p at e)) up (λ b o. HasEntry (H ++ Begin p a e.generation n at 0 ∷ []) (Begin p a e.generation n at 0 ∷ past) b o)
          (entry_polled H past p a n at 0 e book.numbers next_poll idle entry)
          (λ b apart. has_theirs H past (Begin p a e.generation n at 0) b _ calm (begins_theirs past p a e.generation n at 0 b apart) apart (book.agents_are b));
      polls_are = polls_at openings openings' p _ up_polls (λ q o. HasOpening (H ++ Begin p a e.generation n at 0 ∷ []) (Begin p a e.generation n at 0 ∷ past) q o)
          (opening_begun H past p a n at e entry)
          (λ q apart. has_opening H past (Begin p a e.generation n at 0) q _ calm apart refl (book.polls_are q));
      drawn_is = omega (arith, book.drawn_is);
      begun_is = omega (arith, book.begun_is);
      agents_counted = omega (arith, book.agents_counted);
      polls_counted = omega (arith, book.polls_counted);
      releases_counted = omega (arith, book.releases_counted);
      weighs_is = omega (arith, book.weighs_is);
      room = omega (arith, book.room);
    }

-- ---- a poll is closed
pub book_closed : (H : History) (past : Past) (r : Record) (agents agents' : BTreeMap (List ℕ) Entry) (openings openings' : BTreeMap ℕ Opening) (drawn begun weighs capacity waiting p : ℕ)
    → IsBook H past agents openings drawn begun weighs capacity waiting → Quiet past r → Row past r → ((q : ℕ) → begins q r ≡ false) → ((q : ℕ) → closes q r ≡ eqb q p)
    → is_close r ≡ true → is_add r ≡ false → is_remove r ≡ false → is_release r ≡ false → is_settling r ≡ false → weight_of r ≤ 16777216
    → ((a : List ℕ) → HasEntry (H ++ r ∷ []) (r ∷ past) a (get (slice_cmp nat_cmp) agents' a))
    → btree_map_len agents' ≡ btree_map_len agents
    → Updates nat_cmp openings openings' p None → btree_map_len openings' + 1 ≡ btree_map_len openings
    → IsBook (H ++ r ∷ []) (r ∷ past) agents' openings' drawn begun (weighs + weight_of r) capacity waiting
book_closed H past r agents agents' openings openings' drawn begun weighs capacity waiting p book quiet row no_begin closing close no_add no_remove no_release no_settling light are counts up less =
    let polls_same = counted_as is_begin r past false quiet.no_begin in
    let drawn_same = counted_as is_install r past false quiet.no_install in
    let closes_more = counted_as is_close r past true close in
    let adds = counted_as is_add r past false no_add in
    let removes = counted_as is_remove r past false no_remove in
    let releases = counted_as is_release r past false no_release in
    let settlings = counted_as is_settling r past false no_settling in
    let heavier = sum_by-cons weight_of r past in
    let len = length-append H (r ∷ []) in
    let old_bytes = book.fits.bytes in
    let old_room = book.fits.room in
    let fits : Fits (r ∷ past) =
    fits_more past r 0 1 0 0 (omega (arith, book.releases_counted)) (omega arith) (omega arith) (omega arith) (omega arith) (omega (arith, book.polls_counted)) (omega (arith, book.polls_counted)) (omega (arith, book.polls_counted)) (omega (arith, book.polls_counted)) (omega arith) in
    record {
      legal = (book.legal, row, fits);
      fits = fits;
      as_long = omega (arith, book.as_long);
      numbers = numbers_quiet past r quiet book.numbers;
      agents_are = are;
      polls_are = polls_at openings openings' p None up (λ q o. HasOpening (H ++ r ∷ []) (r ∷ past) q o)
          (closed_opening past r p quiet.calm (no_begin p) (closing p ∙ eq-eqb p p refl))
          (λ q apart. has_opening H past r q _ quiet.calm (no_begin q) (closing q ∙ apart) (book.polls_are q));
      drawn_is = omega (arith, book.drawn_is);
      begun_is = omega (arith, book.begun_is);
      agents_counted = omega (arith, book.agents_counted);
      polls_counted = omega (arith, book.polls_counted);
      releases_counted = omega (arith, book.releases_counted);
      weighs_is = omega (arith, book.weighs_is);
      room = omega (arith, book.room);
    }

-- an agent that was put in and taken out again
pub book_restored : (H : History) (past : Past) (agents with_it without : BTreeMap (List ℕ) Entry) (openings : BTreeMap ℕ Opening) (drawn begun weighs capacity capacity' waiting : ℕ)
    (a : List ℕ) (e : Entry)
    → IsBook H past agents openings drawn begun weighs capacity waiting → get (slice_cmp nat_cmp) agents a ≡ None
    → Updates (slice_cmp nat_cmp) agents with_it a (Some e) → Updates (slice_cmp nat_cmp) with_it without a None
    → btree_map_len without ≡ btree_map_len agents → capacity ≤ capacity'
    → IsBook H past without openings drawn begun weighs capacity' waiting
book_restored H past agents with_it without openings drawn begun weighs capacity capacity' waiting a e book absent put took len enough = record {
  legal = book.legal;
  fits = book.fits;
  as_long = book.as_long;
  numbers = book.numbers;
  agents_are = agents_at with_it without a None took (λ b o. HasEntry H past b o)
      (subst (λ (o : Option Entry). HasEntry H past a o) absent (book.agents_are a))
      (λ b apart. agents_at agents with_it a (Some e) put (λ c o. bytes_eq c a ≡ false → HasEntry H past c o)
      (λ same. absurd (both_ways (bytes_eq a a) same (eq_yes a a refl)))
      (λ c _ _. book.agents_are c) b apart);
  polls_are = book.polls_are;
  drawn_is = book.drawn_is;
  begun_is = book.begun_is;
  agents_counted = omega (arith, book.agents_counted);
  polls_counted = book.polls_counted;
  releases_counted = book.releases_counted;
  weighs_is = book.weighs_is;
  room = omega (arith, book.room);
}

-- ---- an agent that is installed is installed once more
no_more : (b : Bool) (n : ℕ) → b ≡ false → n ≡ cond b 1 0 + n
no_more true n is = cc
no_more false n is = omega arith

pub book_again : (H : History) (past : Past) (agents agents' : BTreeMap (List ℕ) Entry) (openings : BTreeMap ℕ Opening) (drawn begun weighs capacity capacity' waiting : ℕ)
    (a : List ℕ) (t : TermsFields) (w : InstallWhy) (e : Entry)
    → IsBook H past agents openings drawn begun weighs capacity waiting → IsEntry H past a e → MayInstall past a t w → is_some t.v ≡ e.has_v → is_add (Install a (drawn + 1) t w) ≡ false
    → Updates (slice_cmp nat_cmp) agents agents' a (Some (renewed (drawn + 1) (length H) e)) → btree_map_len agents' ≡ btree_map_len agents
    → HasRoom past 1 → HasBytes past (weight_of (Install a (drawn + 1) t w)) → length H + (btree_map_len openings + waiting + 1) ≤ capacity'
    → IsBook (H ++ Install a (drawn + 1) t w ∷ []) (Install a (drawn + 1) t w ∷ past) agents' openings (drawn + 1) begun (weighs + weight_of (Install a (drawn + 1) t w)) capacity' waiting
book_again H past agents agents' openings drawn begun weighs capacity capacity' waiting a t w e book entry may same_v no_add up len room bytes enough =
    book_installed H past agents agents' openings drawn begun weighs capacity capacity' waiting (drawn + 1) a t w e.added e.handed book refl may
    (subst (λ (v : Bool). Updates (slice_cmp nat_cmp) agents agents' a (Some (newly (drawn + 1) (length H) v e.added e.handed))) (sym same_v) up)
    (ap (λ n. n + count_by is_remove past) len ∙ book.agents_counted ∙ no_more (is_add (Install a (drawn + 1) t w)) (count_by is_add past) no_add)
    room bytes enough

-- under the terms that it has
pub book_reactivated : (H : History) (past : Past) (agents agents' : BTreeMap (List ℕ) Entry) (openings : BTreeMap ℕ Opening) (drawn begun weighs capacity capacity' waiting : ℕ)
    (a : List ℕ) (t : TermsFields) (e : Entry)
    → IsBook H past agents openings drawn begun weighs capacity waiting → IsEntry H past a e → terms_at H e.place ≡ Some t
    → Updates (slice_cmp nat_cmp) agents agents' a (Some (renewed (drawn + 1) (length H) e)) → btree_map_len agents' ≡ btree_map_len agents
    → HasRoom past 1 → length H + (btree_map_len openings + waiting + 1) ≤ capacity'
    → IsBook (H ++ Install a (drawn + 1) t Reactivate ∷ []) (Install a (drawn + 1) t Reactivate ∷ past) agents' openings (drawn + 1) begun weighs capacity' waiting
book_reactivated H past agents agents' openings drawn begun weighs capacity capacity' waiting a t e book entry placed up len room enough =
    let same : entry.with ≡ t = same_Some _ _ (sym entry.place_is ∙ placed) in
    let bytes : HasBytes past 0 = book.fits.bytes in
    let again = book_again H past agents agents' openings drawn begun weighs capacity capacity' waiting a t Reactivate e book entry
    (record { generation = e.generation; terms = entry.with }, entry.says.terms_are, sym same)
    (ap (λ (t : TermsFields). is_some t.v) (sym same) ∙ entry.says.v_is) refl up len room bytes enough in
    let weight : weighs + 0 ≡ weighs = omega arith in
    subst (λ (n : ℕ). IsBook (H ++ Install a (drawn + 1) t Reactivate ∷ []) (Install a (drawn + 1) t Reactivate ∷ past) agents' openings (drawn + 1) begun n capacity' waiting) weight again

-- under another policy
pub book_replaced : (H : History) (past : Past) (agents agents' : BTreeMap (List ℕ) Entry) (openings : BTreeMap ℕ Opening) (drawn begun weighs capacity capacity' waiting : ℕ)
    (a : List ℕ) (t : TermsFields) (p : PolicyFields) (e : Entry)
    → IsBook H past agents openings drawn begun weighs capacity waiting → IsEntry H past a e → terms_at H e.place ≡ Some t
    → Updates (slice_cmp nat_cmp) agents agents' a (Some (renewed (drawn + 1) (length H) e)) → btree_map_len agents' ≡ btree_map_len agents
    → HasRoom past 1 → HasBytes past (length p.source) → length H + (btree_map_len openings + waiting + 1) ≤ capacity'
    → IsBook (H ++ Install a (drawn + 1) (with_policy p t) Replace ∷ []) (Install a (drawn + 1) (with_policy p t) Replace ∷ past) agents' openings (drawn + 1) begun (weighs + length p.source) capacity' waiting
book_replaced H past agents agents' openings drawn begun weighs capacity capacity' waiting a t p e book entry placed up len room bytes enough =
    let same : entry.with ≡ t = same_Some _ _ (sym entry.place_is ∙ placed) in
    book_again H past agents agents' openings drawn begun weighs capacity capacity' waiting a (with_policy p t) Replace e book entry (
      record { generation = e.generation; terms = t },
      entry.says.terms_are ∙ ap (λ (t : TermsFields). Some (record { generation = e.generation; terms = t })) same,
      refl,
    )
    (ap (λ (t : TermsFields). is_some t.v) (sym same) ∙ entry.says.v_is) refl up len room bytes enough

-- the same, by the terms that were made
pub book_changed : (H : History) (past : Past) (agents agents' : BTreeMap (List ℕ) Entry) (openings : BTreeMap ℕ Opening) (drawn begun weighs capacity capacity' waiting : ℕ)
    (a : List ℕ) (t : TermsFields) (p : PolicyFields) (e : Entry)
    → IsBook H past agents openings drawn begun weighs capacity waiting → IsEntry H past a e → option_map (with_policy p) (terms_at H e.place) ≡ Some t
    → Updates (slice_cmp nat_cmp) agents agents' a (Some (renewed (drawn + 1) (length H) e)) → btree_map_len agents' ≡ btree_map_len agents
    → HasRoom past 1 → HasBytes past (length p.source) → length H + (btree_map_len openings + waiting + 1) ≤ capacity'
    → IsBook (H ++ Install a (drawn + 1) t Replace ∷ []) (Install a (drawn + 1) t Replace ∷ past) agents' openings (drawn + 1) begun (weighs + length p.source) capacity' waiting
book_changed H past agents agents' openings drawn begun weighs capacity capacity' waiting a t p e book entry made up len room bytes enough =
    let same : with_policy p entry.with ≡ t = same_Some _ _ (sym (ap (λ o. option_map (with_policy p) o) entry.place_is) ∙ made) in
    subst (λ (t : TermsFields). IsBook (H ++ Install a (drawn + 1) t Replace ∷ []) (Install a (drawn + 1) t Replace ∷ past) agents' openings (drawn + 1) begun (weighs + length p.source) capacity' waiting) same
    (book_replaced H past agents agents' openings drawn begun weighs capacity capacity' waiting a entry.with p e book entry entry.place_is up len room bytes enough)

-- ---- an agent is stopped or removed
pub book_stopped : (H : History) (past : Past) (agents agents' : BTreeMap (List ℕ) Entry) (openings : BTreeMap ℕ Opening) (drawn begun weighs capacity capacity' waiting : ℕ) (a : List ℕ) (e : Entry)
    → IsBook H past agents openings drawn begun weighs capacity waiting → IsEntry H past a e → e.end ≡ None
    → Updates (slice_cmp nat_cmp) agents agents' a (Some (stopped e)) → btree_map_len agents' ≡ btree_map_len agents
    → HasRoom past 1 → length H + (btree_map_len openings + waiting + 1) ≤ capacity'
    → IsBook (H ++ Stop a ∷ []) (Stop a ∷ past) agents' openings drawn begun weighs capacity' waiting
book_stopped H past agents agents' openings drawn begun weighs capacity capacity' waiting a e book entry live up len room enough =
    let quiet = quiet_stop past a in
    book_plain H past (Stop a) agents agents' openings drawn begun weighs capacity capacity' waiting book quiet (live_of H past a e entry live) (λ q. refl) (λ q. refl) refl refl refl refl refl
    (agents_at agents agents' a (Some (stopped e)) up (λ b o. HasEntry (H ++ Stop a ∷ []) (Stop a ∷ past) b o)
    (entry_step H past (Stop a) a e (stopped e) quiet.calm refl refl refl (λ q s is agent. refl) entry
    (subst (λ (own_past : Past). Says own_past entry.with (stopped e)) (sym (own-yes (Stop a) past a (eq_yes a a refl))) (says_stopped (own past a) a entry.with e entry.says)))
    (λ b apart. has_theirs H past (Stop a) b _ quiet.calm (λ q s is agent. refl) apart (book.agents_are b)))
    (omega arith) room enough

pub book_removed : (H : History) (past : Past) (agents agents' : BTreeMap (List ℕ) Entry) (openings : BTreeMap ℕ Opening) (drawn begun weighs capacity capacity' waiting : ℕ) (a : List ℕ)
    → IsBook H past agents openings drawn begun weighs capacity waiting → is_some (installed (own past a)) ≡ true
    → Updates (slice_cmp nat_cmp) agents agents' a None → btree_map_len agents' + 1 ≡ btree_map_len agents
    → HasRoom past 1 → length H + (btree_map_len openings + waiting + 1) ≤ capacity'
    → IsBook (H ++ Remove a ∷ []) (Remove a ∷ past) agents' openings drawn begun weighs capacity' waiting
book_removed H past agents agents' openings drawn begun weighs capacity capacity' waiting a book present up len room enough =
    let quiet = quiet_remove past a in
    book_plain H past (Remove a) agents agents' openings drawn begun weighs capacity capacity' waiting book quiet present (λ q. refl) (λ q. refl) refl refl refl refl refl
    (agents_at agents agents' a None up (λ b o. HasEntry (H ++ Remove a ∷ []) (Remove a ∷ past) b o)
    (ap installed (own-yes (Remove a) past a (eq_yes a a refl)))
    (λ b apart. has_theirs H past (Remove a) b _ quiet.calm (λ q s is agent. refl) apart (book.agents_are b)))
    len room enough

-- ---- more room, and the same polls
pub book_roomier : (H : History) (past : Past) (agents : BTreeMap (List ℕ) Entry) (openings openings' : BTreeMap ℕ Opening) (drawn begun weighs capacity capacity' waiting : ℕ)
    → IsBook H past agents openings drawn begun weighs capacity waiting → IsUnchanged openings openings' → capacity ≤ capacity'
    → IsBook H past agents openings' drawn begun weighs capacity' waiting
book_roomier H past agents openings openings' drawn begun weighs capacity capacity' waiting book same enough = record {
  legal = book.legal;
  fits = book.fits;
  as_long = book.as_long;
  numbers = book.numbers;
  agents_are = book.agents_are;
  polls_are = λ p. subst (λ (o : Option Opening). HasOpening H past p o) (ap (λ (es : List (ℕ × Opening)). lookup (is_at (nat_cmp p)) es) (sym same)) (book.polls_are p);
  drawn_is = book.drawn_is;
  begun_is = book.begun_is;
  agents_counted = book.agents_counted;
  polls_counted = ap (λ (es : List (ℕ × Opening)). length es + count_by is_close past) same ∙ book.polls_counted;
  releases_counted = book.releases_counted;
  weighs_is = book.weighs_is;
  room = let len = ap (λ (es : List (ℕ × Opening)). length es) same in omega (arith, book.room);
}

-- more room, and the same agents
pub book_same_agents : (H : History) (past : Past) (agents agents' : BTreeMap (List ℕ) Entry) (openings : BTreeMap ℕ Opening) (drawn begun weighs capacity capacity' waiting : ℕ)
    → IsBook H past agents openings drawn begun weighs capacity waiting → IsUnchanged agents agents' → length H + btree_map_len openings + waiting ≤ capacity'
    → IsBook H past agents' openings drawn begun weighs capacity' waiting
book_same_agents H past agents agents' openings drawn begun weighs capacity capacity' waiting book same enough = record {
  legal = book.legal;
  fits = book.fits;
  as_long = book.as_long;
  numbers = book.numbers;
  agents_are = λ a. subst (λ (o : Option Entry). HasEntry H past a o) (ap (λ (es : List (List ℕ × Entry)). lookup (is_at (slice_cmp nat_cmp a)) es) (sym same)) (book.agents_are a);
  polls_are = book.polls_are;
  drawn_is = book.drawn_is;
  begun_is = book.begun_is;
  agents_counted = ap (λ (es : List (List ℕ × Entry)). length es + count_by is_remove past) same ∙ book.agents_counted;
  polls_counted = book.polls_counted;
  releases_counted = book.releases_counted;
  weighs_is = book.weighs_is;
  room = enough;
}

-- no poll of the next number is open
pub next_is_free : (H : History) (past : Past) (agents : BTreeMap (List ℕ) Entry) (openings : BTreeMap ℕ Opening) (drawn begun weighs capacity waiting : ℕ)
    → IsBook H past agents openings drawn begun weighs capacity waiting → get nat_cmp openings (begun + 1) ≡ None
next_is_free H past agents openings drawn begun weighs capacity waiting book = free (get nat_cmp openings (begun + 1)) refl where
  free : (o : Option Opening) → get nat_cmp openings (begun + 1) ≡ o → o ≡ None
  free None is = refl
  free (Some k) is =
      let opening = opening_at H past (begun + 1) (get nat_cmp openings (begun + 1)) k (book.polls_are (begun + 1)) is in
      absurd (let le = book.numbers.begun_within (begun + 1) _ opening.given.began in omega (arith, book.begun_is))
