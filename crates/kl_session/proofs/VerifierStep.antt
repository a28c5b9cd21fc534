-- What a command to the verifier does follows from the state that it finds.
use Rattle.std.proofs.Common.{◌≡◌, ℕ, List, ◌++◌, length, take, Option, Some, None, inl, inr, sym, ap, ◌∙◌, subst}
use Rattle.std.proofs.lemmas.List.{append_cancel_left}
use Rattle.std.proofs.Math.Seq.{take-append_seam}
use Rattle.hex.specs.Hex.{encode_lower}
use Rattle.kl_io.specs.Told.{WordsTold}
use Rattle.kl_keys.specs.Relations.{Relations}
use Rattle.kl_script.specs.declared.command.Begin.{Begin}
use Rattle.kl_script.specs.Commands.{ReplyFields, VerifierCommandFields, add, replace, reactivate, stop, remove, now, begin, reply, state, lose, pick, release, settle, notice, noticed}
use Rattle.kl_history.specs.Legal.{Legal}
use Rattle.kl_script.specs.declared.command.Add.{Add}
use Rattle.kl_script.specs.declared.command.Replace.{Replace}
use Rattle.kl_session.specs.declared.naming.NoTerms.TheVariants.{Policy, Mask, Static}
use Rattle.kl_session.specs.Installs.{DoesAdd, DoesReplace}
use Rattle.kl_session.specs.Outside.{Outside}
use Rattle.kl_session.specs.Calls.{VerifierFields}
use Rattle.kl_session.specs.Drawing.{Draws}
use Rattle.kl_session.specs.Polls.{HasNonce, BeginsWith, DoesBegin}
use Rattle.kl_session.specs.Replies.{DoesReply}
use Rattle.kl_session.specs.Verifying.{VerifierDoes}
use Rattle.kl_session.specs.Unique.{LacksNothing, IsFaultless}
use Rattle.kl_session.proofs.OneCall.{one_add_done, one_replace_done, one_reactivate_done, one_stop_done, one_remove_done, one_begin_done, one_release_done, one_standing, one_picked, one_marked}
use Rattle.kl_session.proofs.OneReply.{Answering, one_reply}
use Rattle.kl_session.proofs.OneClose.{one_lose, one_settle_done}
use Rattle.kl_session.proofs.Moments.{consumed}

-- ---- what is drawn is the front of what is left

same_front : (xs ys vs ws : List ℕ) → length xs ≡ length vs → xs ++ ys ≡ vs ++ ws → (xs ≡ vs) × (ys ≡ ws)
same_front xs ys vs ws long same =
    let front : xs ≡ vs = sym (take-append_seam xs ys) ∙ ap (λ n. take n (xs ++ ys)) long ∙ ap (λ l. take (length vs) l) same ∙ take-append_seam vs ws in
    (front, append_cancel_left vs ys ws (ap (λ f. f ++ ys) (sym front) ∙ same))

-- the words that two moments know to be left are the same
abbrev pub SameLeft : Outside → Outside → Type 0
SameLeft o p = o.words.left ≡ p.words.left

pub one_draw : (n : ℕ) (words : List ℕ) (o o' p p' : Outside) (drawn others : List ℕ) → o.words.left ≡ Some words → p.words.left ≡ Some words
    → Draws n o o' drawn → Draws n p p' others → (drawn ≡ others) × SameLeft o' p'
one_draw n words o o' p p' drawn others first second f g =
    let a = consumed words o.words.left o'.words.left drawn first f.taken in
    let b = consumed words p.words.left p'.words.left others second g.taken in
    let same = same_front drawn a.0 others b.0 (f.counted ∙ sym g.counted) (sym a.2 ∙ b.2) in
    (same.0, a.1 ∙ ap Some same.1 ∙ sym b.1)

one_nonce : (words : List ℕ) (o o' p p' : Outside) (named : Option (List ℕ)) (n m : List ℕ) → o.words.left ≡ Some words → p.words.left ≡ Some words
    → HasNonce o o' named n → HasNonce p p' named m → (n ≡ m) × SameLeft o' p'
one_nonce words o o' p p' (Some named) n m first second f g =
    (f.1 ∙ sym g.1, ap (λ (z : Outside). z.words.left) f.0 ∙ first ∙ sym second ∙ ap (λ (z : Outside). z.words.left) (sym g.0))
one_nonce words o o' p p' None n m first second f g =
    let same = one_draw 16 words o o' p p' f.0 g.0 first second f.1 g.1 in
    (f.2 ∙ ap (λ d. encode_lower d) same.0 ∙ sym g.2, same.1)

-- ---- a command to the verifier

pub untouched : (words : List ℕ) (o o' p p' : Outside) → o.words.left ≡ Some words → p.words.left ≡ Some words → o'.words ≡ o.words → p'.words ≡ p.words
    → SameLeft o' p'
untouched words o o' p p' first second f g =
    ap (λ (z : WordsTold). z.left) f ∙ first ∙ sym second ∙ ap (λ (z : WordsTold). z.left) (sym g)

pub undrawn : (o o' : Outside) → o' ≡ o → o'.words ≡ o.words
undrawn o o' same = ap (λ (z : Outside). z.words) same

reply_undrawn : (o o' : Outside) (r : ReplyFields) (s s' : VerifierFields) (line : List ℕ) → DoesReply o o' r s s' line → o'.words ≡ o.words
reply_undrawn o o' r s s' line (inl f) = f.closes.undrawn
reply_undrawn o o' r s s' line (inr none) = undrawn o o' none.0

add_undrawn : (o o' : Outside) (a : Add) (s s' : VerifierFields) (line : List ℕ) → DoesAdd o o' a s s' line → o'.words ≡ o.words
add_undrawn o o' a s s' line (inl (t, named, are, reads, h)) = reads.rest.words
add_undrawn o o' a s s' line (inr (Policy why, none, h)) = none.rest.words
add_undrawn o o' a s s' line (inr (Mask, none, h)) = none.0.2.rest.words
add_undrawn o o' a s s' line (inr (Static, none, h)) = none.0.2.rest.words

replace_undrawn : (o o' : Outside) (r : Replace) (s s' : VerifierFields) (line : List ℕ) → DoesReplace o o' r s s' line → o'.words ≡ o.words
replace_undrawn o o' r s s' line (inl (p, is, reads, h)) = reads.rest.words
replace_undrawn o o' r s s' line (inr (why, none, h)) = none.rest.words

answering : (relations : Relations) (words : List ℕ) (o o' : Outside) → IsFaultless relations words o o' → Answering relations o o'
answering relations words o o' f = record { related = f.related; faultless = f.keys }

-- the same session, line and words left
abbrev pub AreAlike : VerifierFields → VerifierFields → List ℕ → List ℕ → Outside → Outside → Type 0
AreAlike x y l m o p = (x ≡ y) × (l ≡ m) × SameLeft o p

module _ (relations : Relations) (words : List ℕ) (o o' p p' : Outside) (f : IsFaultless relations words o o') (g : IsFaultless relations words p p') where
  alike : (x y : VerifierFields) (l m : List ℕ) → (x ≡ y) × (l ≡ m) → o' ≡ o → p' ≡ p → AreAlike x y l m o' p'
  alike x y l m same first second = (same.0, same.1, untouched words o o' p p' f.left g.left (undrawn o o' first) (undrawn p p' second))

  begin_alike : (b : Begin) (s x y : VerifierFields) (l m : List ℕ) → Legal s.history → DoesBegin o o' b s x l → DoesBegin p p' b s y m
      → AreAlike x y l m o' p'
  begin_alike b s x y l m legal (n, has, does) (k, also, acts) =
      let drawn = one_nonce words o o' p p' b.nonce n k f.left g.left has also in
      let same = one_begin_done b.agent n s x y l m legal does (subst (λ (nonce : List ℕ). BeginsWith b.agent nonce s y m) (sym drawn.0) acts) in
      (same.0, same.1, drawn.1)

  pub verifier_alike : (s : VerifierFields) (c : VerifierCommandFields) (x y : VerifierFields) (l m : List ℕ) → Legal s.history → LacksNothing x.history
      → LacksNothing y.history
      → VerifierDoes o o' s c x l → VerifierDoes p p' s c y m → AreAlike x y l m o' p'
  unfolding VerifierDoes
  verifier_alike s (add c) x y l m legal _ _ does acts =
      let same = one_add_done o o' p p' f.made g.made c s x y l m does acts in
      (same.0, same.1, untouched words o o' p p' f.left g.left (add_undrawn o o' c s x l does) (add_undrawn p p' c s y m acts))
  verifier_alike s (replace c) x y l m legal _ _ does acts =
      let same = one_replace_done o o' p p' f.made g.made c s x y l m does acts in
      (same.0, same.1, untouched words o o' p p' f.left g.left (replace_undrawn o o' c s x l does) (replace_undrawn p p' c s y m acts))
  verifier_alike s (reactivate c) x y l m legal _ _ (a, does) (b, acts) = alike x y l m (one_reactivate_done c s x y l m does acts) a b
  verifier_alike s (stop c) x y l m legal _ _ (a, does) (b, acts) = alike x y l m (one_stop_done c s x y l m does acts) a b
  verifier_alike s (remove c) x y l m legal _ _ (a, does) (b, acts) = alike x y l m (one_remove_done c s x y l m does acts) a b
  verifier_alike s (now t) x y l m legal _ _ (a, to, says) (b, on, speaks) = alike x y l m (to ∙ sym on, says ∙ sym speaks) a b
  verifier_alike s (begin c) x y l m legal _ _ does acts = begin_alike c s x y l m legal does acts
  verifier_alike s (reply r) x y l m legal h k does acts =
      let same = one_reply relations o o' p p' r s x y l m legal (answering relations words o o' f) (answering relations words p p' g) h k does acts in
      (same.0, same.1, untouched words o o' p p' f.left g.left (reply_undrawn o o' r s x l does) (reply_undrawn p p' r s y m acts))
  verifier_alike s (state c) x y l m legal _ _ (a, to, says) (b, on, speaks) = alike x y l m (to ∙ sym on, one_standing c s l m says speaks) a b
  verifier_alike s (lose p) x y l m legal _ _ (a, does) (b, acts) = alike x y l m (one_lose p s x y l m does acts) a b
  verifier_alike s pick x y l m legal _ _ (a, to, says) (b, on, speaks) = alike x y l m (to ∙ sym on, one_picked s l m says speaks) a b
  verifier_alike s (release c) x y l m legal _ _ (a, does) (b, acts) = alike x y l m (one_release_done c s x y l m legal does acts) a b
  verifier_alike s (settle c) x y l m legal _ _ (a, does) (b, acts) = alike x y l m (one_settle_done c s x y l m does acts) a b
  verifier_alike s notice x y l m legal _ _ (a, to, says) (b, on, speaks) = alike x y l m (to ∙ sym on, says ∙ sym speaks) a b
  verifier_alike s (noticed n) x y l m legal _ _ (a, does) (b, acts) = alike x y l m (one_marked n s x y l m does acts) a b
