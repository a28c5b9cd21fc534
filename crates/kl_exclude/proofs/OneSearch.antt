-- One anchored alternation answers for all its patterns: the attempt of `^(?:a|b|..)` at byte 0 is a match exactly where one of them has a leftmost match that begins there.
use Rattle.std.proofs.Common.{◌≡◌, ◌↔◌, ℕ, Bool, true, false, ◌||◌, List, [], ◌∷◌, Option, None, Some, is_some, refl, sym, subst, inl, inr, IsUtf8}
use Rattle.std.proofs.lemmas.Bool.{false≢true}
use Rattle.regex.specs.Patterns.{Re, Matches, Start, alt_all, holds, in_ranges}
use Rattle.regex_hir.specs.Looks.{holds_between}
use Rattle.regex_hir.specs.Re.{Trace, accept, attempt}
use Rattle.regex_hir.proofs.AttemptLemmas.{attempt_sound, attempt_complete}
use Rattle.regex_hir.proofs.TextLemmas.{byte_before-zero}
use Rattle.kl_exclude.specs.Inner.Joined.{hits, any_hits, joined}
use Rattle.kl_exclude.proofs.Beginnings.{hit_is_match}

-- ---- booleans
or_of_left : (a b : Bool) → a ≡ true → (a || b) ≡ true
or_of_left true b e = refl
or_of_left false b e = absurd (false≢true e)

or_of_right : (a b : Bool) → b ≡ true → (a || b) ≡ true
or_of_right true b e = refl
or_of_right false b e = e

same_bool : (a b : Bool) → (a ≡ true) ↔ (b ≡ true) → a ≡ b
same_bool true b e = sym (e.0 refl)
same_bool false true e = e.1 refl
same_bool false false e = refl

-- ---- a match of an alternation is one of a branch
no_byte_in_none : (byte : ℕ) → ¬ (in_ranges [] byte ≡ true)
unfolding in_ranges
no_byte_in_none byte e = false≢true e

hit_of_alternation : (res : List Re) (path : List ℕ) → IsUtf8 path → (end : ℕ) → Matches path (alt_all res) 0 end → any_hits res path ≡ true
hit_of_alternation [] path utf8 end m = absurd (no_byte_in_none m.0 m.2)
hit_of_alternation (re ∷ res) path utf8 end (inl m) = or_of_left (hits re path) _ ((hit_is_match re path utf8).1 (end, m))
hit_of_alternation (re ∷ res) path utf8 end (inr m) = or_of_right (hits re path) _ (hit_of_alternation res path utf8 end m)

first_or_later : (re : Re) (res : List Re) (path : List ℕ) → IsUtf8 path → (b : Bool) → hits re path ≡ b → (b || any_hits res path) ≡ true
    → (any_hits res path ≡ true → (end : ℕ) × Matches path (alt_all res) 0 end) → (end : ℕ) × Matches path (alt_all (re ∷ res)) 0 end
first_or_later re res path utf8 true e hit later = let m = (hit_is_match re path utf8).0 e in (m.0, inl m.1)
first_or_later re res path utf8 false e hit later = let m = later hit in (m.0, inr m.1)

alternation_of_hit : (res : List Re) (path : List ℕ) → IsUtf8 path → any_hits res path ≡ true → (end : ℕ) × Matches path (alt_all res) 0 end
alternation_of_hit [] path utf8 hit = absurd (false≢true hit)
alternation_of_hit (re ∷ res) path utf8 hit = first_or_later re res path utf8 (hits re path) refl hit (alternation_of_hit res path utf8)

-- ---- the whole
anchor_holds : (path : List ℕ) → holds Start path 0 ≡ true
unfolding holds holds_between
anchor_holds path = rw (byte_before-zero path)

hit_of_attempt : (res : List Re) (path : List ℕ) → IsUtf8 path → (o : Option Trace) → attempt path (joined res) accept 0 ≡ o → is_some o ≡ true → any_hits res path ≡ true
hit_of_attempt res path utf8 None e some = absurd (false≢true some)
hit_of_attempt res path utf8 (Some t) e some =
    let (_, (_, same), (end, inner, _)) = (attempt_sound path (joined res) accept 0 t e).leads in
    hit_of_alternation res path utf8 end (subst (λ place. Matches path (alt_all res) place end) same inner)

attempt_of_hit : (res : List Re) (path : List ℕ) → IsUtf8 path → any_hits res path ≡ true → is_some (attempt path (joined res) accept 0) ≡ true
attempt_of_hit res path utf8 hit =
    let m = alternation_of_hit res path utf8 hit in
    attempt_complete path (joined res) accept 0 m.0 (0, (anchor_holds path, refl), (m.0, m.1, refl)) refl

pub joined_begins : (res : List Re) (path : List ℕ) → IsUtf8 path → is_some (attempt path (joined res) accept 0) ≡ any_hits res path
joined_begins res path utf8 =
    same_bool _ _ (hit_of_attempt res path utf8 (attempt path (joined res) accept 0) refl, attempt_of_hit res path utf8)
