-- In a legal history generations, polls and releases are numbered in order, each number is drawn by one record, and what
-- is closed was open.
use Rattle.std.proofs.Common.{◌≡◌, ℕ, Bool, false, not, ◌&&◌, ◌||◌, eqb, [], ◌∷◌, refl, ap, sym, ◌∙◌}
use Rattle.kl_history.specs.declared.record.Record.{Record}
use Rattle.kl_history.specs.declared.record.Record.TheVariants.{Install, Begin, Verdict, Restart, Lost, Dropped, Release, Settled}
use Rattle.kl_history.specs.Records.{Past, begins, closes, is_open, releases, settles, is_unsettled, is_install, is_begin, is_close, is_release, is_settling}
use Rattle.kl_history.specs.Legal.{IsLegalPast, Row}
use Rattle.kl_history.proofs.Numbers.{Numbering, stays_open, Does, draw, close, neither, InOrder}

-- the record installs this generation
abbrev pub installs : ℕ → Record → Bool
installs g (Install a h t w) = eqb g h
installs g _ = false

abbrev pub generation_numbers : Numbering
generation_numbers = record { draws = installs; closes = λ n r. false; is_draw = is_install; is_close = λ r. false }

abbrev pub poll_numbers : Numbering
poll_numbers = record { draws = begins; closes = closes; is_draw = is_begin; is_close = is_close }

abbrev pub release_numbers : Numbering
release_numbers = record { draws = releases; closes = settles; is_draw = is_release; is_close = is_settling }

pub is_open-stays : (past : Past) (p : ℕ) → is_open past p ≡ stays_open poll_numbers past p
is_open-stays [] p = refl
is_open-stays (r ∷ past) p = ap (λ o. not (closes p r) && (begins p r || o)) (is_open-stays past p)

pub is_unsettled-stays : (past : Past) (n : ℕ) → is_unsettled past n ≡ stays_open release_numbers past n
is_unsettled-stays [] n = refl
is_unsettled-stays (r ∷ past) n = ap (λ o. not (settles n r) && (releases n r || o)) (is_unsettled-stays past n)

does_install : (past : Past) (r : Record) → Row past r → Does generation_numbers past r
does_install past (Install a g t w) row = draw refl refl (λ n. ap (eqb n) row.0) (λ n. refl)
does_install past _ row = neither refl refl (λ n. refl) (λ n. refl)

does_poll : (past : Past) (r : Record) → Row past r → Does poll_numbers past r
does_poll past (Begin p a g n at from) row = draw refl refl (λ m. ap (eqb m) row.0) (λ m. refl)
does_poll past (Verdict p e s v c) row = close p (sym (is_open-stays past p) ∙ row.0.unclosed) refl refl (λ n. refl) (λ n. refl)
does_poll past (Restart p e s c) row = close p (sym (is_open-stays past p) ∙ row.0.unclosed) refl refl (λ n. refl) (λ n. refl)
does_poll past (Lost p w c) row = close p (sym (is_open-stays past p) ∙ row.unclosed) refl refl (λ n. refl) (λ n. refl)
does_poll past (Dropped p w) row = close p (sym (is_open-stays past p) ∙ row) refl refl (λ n. refl) (λ n. refl)
does_poll past _ row = neither refl refl (λ n. refl) (λ n. refl)

does_release : (past : Past) (r : Record) → Row past r → Does release_numbers past r
does_release past (Release n a g p) row = draw refl refl (λ m. ap (eqb m) row.next) (λ m. refl)
does_release past (Settled n o c) row = close n (sym (is_unsettled-stays past n) ∙ row.unsettled) refl refl (λ m. refl) (λ m. refl)
does_release past _ row = neither refl refl (λ n. refl) (λ n. refl)

pub generations_in_order : (past : Past) → IsLegalPast past → InOrder generation_numbers past
generations_in_order [] legal = legal
generations_in_order (r ∷ past) legal = (generations_in_order past legal.0, does_install past r legal.1)

pub polls_in_order : (past : Past) → IsLegalPast past → InOrder poll_numbers past
polls_in_order [] legal = legal
polls_in_order (r ∷ past) legal = (polls_in_order past legal.0, does_poll past r legal.1)

pub releases_in_order : (past : Past) → IsLegalPast past → InOrder release_numbers past
releases_in_order [] legal = legal
releases_in_order (r ∷ past) legal = (releases_in_order past legal.0, does_release past r legal.1)
