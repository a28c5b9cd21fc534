-- Laws of a replay.
use Rattle.std.proofs.Common.{◌≡◌, ℕ, List, [], ◌∷◌, ◌++◌, map, reverse, refl, sym, ap, ◌∙◌}
use Rattle.std.proofs.lemmas.List.{map-append, reverse-append, reverse-reverse}
use Rattle.std.proofs.lemmas.List.Sums.{fold_push, fold-append}
use Rattle.kl_bank.specs.declared.bank.Bank.{Bank}
use Rattle.kl_bank.specs.Banks.{extended, zeros_of}
use Rattle.kl_entry.specs.Entries.{EntryFields}
use Rattle.kl_pcr.specs.Measured.{measured_of}
use Rattle.kl_pcr.specs.Replay.{folded, replay_back, replay_of}

-- no entry leaves zeros
pub replay_of-nil : (bank : Bank) → replay_of bank [] ≡ zeros_of bank
unfolding replay_back
replay_of-nil bank = refl

replay_back-folded : (bank : Bank) (entries : List EntryFields)
    → replay_back bank entries ≡ folded bank (zeros_of bank) (map (measured_of bank) (reverse entries))
unfolding replay_back
replay_back-folded bank [] = refl
replay_back-folded bank (e ∷ earlier) =
    let m : EntryFields → List ℕ = measured_of bank in
    let from : List (List ℕ) → List ℕ = folded bank (zeros_of bank) in
    ap (λ (old : List ℕ). extended bank old (m e)) (replay_back-folded bank earlier)
    ∙ sym (fold_push (extended bank) (zeros_of bank) (map m (reverse earlier)) (m e))
    ∙ ap from (sym (map-append m (reverse earlier) (e ∷ [])))
    ∙ ap (λ (es : List EntryFields). from (map m es)) (sym (reverse-append (e ∷ []) earlier))

-- a replay extends zeros by what each entry is measured as, in order
pub replay_of-folded : (bank : Bank) (entries : List EntryFields)
    → replay_of bank entries ≡ folded bank (zeros_of bank) (map (measured_of bank) entries)
replay_of-folded bank entries =
    replay_back-folded bank (reverse entries)
    ∙ ap (λ (es : List EntryFields). folded bank (zeros_of bank) (map (measured_of bank) es)) (reverse-reverse entries)

-- a replay goes on from what the first entries left
pub replay_of-from : (bank : Bank) (first more : List EntryFields)
    → replay_of bank (first ++ more) ≡ folded bank (replay_of bank first) (map (measured_of bank) more)
replay_of-from bank first more =
    let m : EntryFields → List ℕ = measured_of bank in
    replay_of-folded bank (first ++ more)
    ∙ ap (folded bank (zeros_of bank)) (map-append m first more)
    ∙ fold-append (extended bank) (zeros_of bank) (map m first) (map m more)
    ∙ ap (λ (start : List ℕ). folded bank start (map m more)) (sym (replay_of-folded bank first))
