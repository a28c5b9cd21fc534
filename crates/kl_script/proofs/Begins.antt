-- An agent and a nonce, where there is one: a text is cut into them in one way.
use Rattle.std.proofs.Common.{◌≡◌, ℕ, List, ◌∷◌, ◌++◌, Option, Some, None, true, refl, sym, ap, subst, ◌∙◌}
use Rattle.std.proofs.lemmas.Bool.{false≢true}
use Rattle.kl_states.specs.Names.{IsAgentId, IsNonce, is_agent_id_byte}
use Rattle.kl_script.specs.Words.{HasNo}
use Rattle.kl_script.specs.Commands.{EndsWithNonce}
use Rattle.kl_script.proofs.Splitting.{same_word, no_word}

pub agent_has_no_space : (bytes : List ℕ) → IsAgentId bytes → HasNo 32 bytes
agent_has_no_space bytes named i lt e =
    let passes : is_agent_id_byte 32 ≡ true = subst (λ (b : ℕ). is_agent_id_byte b ≡ true) e (named.each i 0 lt) in
    false≢true passes

-- the text is the word, or the word, a space and what stands behind it
abbrev pub IsCut : List ℕ → List ℕ → Option (List ℕ) → Type 0
IsCut text word None = text ≡ word
IsCut text word (Some behind) = text ≡ word ++ 32 ∷ behind

pub IsCut-same : (text word other : List ℕ) (behind more : Option (List ℕ)) → HasNo 32 word → HasNo 32 other → IsCut text word behind → IsCut text other more
    → (word ≡ other) × (behind ≡ more)
IsCut-same text word other None None hw ho e f = (sym e ∙ f, refl)
IsCut-same text word other None (Some m) hw ho e f = absurd (no_word 32 word other m hw (sym e ∙ f))
IsCut-same text word other (Some b) None hw ho e f = absurd (no_word 32 other word b ho (sym f ∙ e))
IsCut-same text word other (Some b) (Some m) hw ho e f =
    let same = same_word 32 word other b m hw ho (sym e ∙ f) in
    (same.0, ap (λ (t : List ℕ). Some t) same.1)

pub cut_of : (text agent : List ℕ) (nonce : Option (List ℕ)) → EndsWithNonce text agent nonce → IsCut text agent nonce
cut_of text agent None e = e
cut_of text agent (Some nonce) e = e.0

-- where a text is cut into a word and a nonce, what stands behind the word is one
pub nonce_of : (text agent behind : List ℕ) (said : Option (List ℕ)) → Some behind ≡ said → EndsWithNonce text agent said → IsNonce behind
nonce_of text agent behind said e h = (subst (λ (n : Option (List ℕ)). EndsWithNonce text agent n) (sym e) h).1
