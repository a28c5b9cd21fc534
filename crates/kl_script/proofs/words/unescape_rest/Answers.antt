use Rattle.std.proofs.Common.{◌≡◌, ℕ, List, [], ◌∷◌, ◌++◌, sym, ap, subst, ◌∙◌, rules}
use Rattle.std.specs.String.{string_bytes}
use Rattle.std.proofs.lemmas.Str.{encode_ascii}
use Rattle.kl_script.specs.Words.{IsEscaped}
use Rattle.kl_script.proofs.Escapes.{ReadsOn, ReadsOn-stretch, ReadsOn-escape, ReadsOn-end, ReadsOn-stuck, StandsFor-ascii}
use Rattle.kl_script.proofs.words.unescape_rest.Goals as goal

pub returns-in_err-byte-clause-none : goal.returns-in_err-byte-clause-none
returns-in_err-byte-clause-none c = λ _ whole h.
    let written = c.args.written.now in
    let parts = c.in-Ok.ensures.found in
    let so_far = ReadsOn-stretch written c.loop-stretch.rest.now (string_bytes c.loop-stretch.text) c.in-Ok.stretch.now (92 ∷ c.in-Ok.behind.now) c.loop-stretch.invariant.so_far parts.0 parts.1 in
    ReadsOn-stuck written c.in-Ok.behind.now (string_bytes c.loop-stretch.text ++ c.in-Ok.stretch.now) whole so_far (λ letter byte rest. c.in_err-byte.ensures.none letter byte rest) h

pub loop-stretch-preserved : goal.loop-stretch-preserved
loop-stretch-preserved c = record {
  utf8 = search rules;
  so_far =
      let written = c.args.written.now in
      let done = string_bytes c.loop-stretch.text in
      let parts = c.in-Ok.ensures.found in
      let so_far = ReadsOn-stretch written c.loop-stretch.rest.now done c.in-Ok.stretch.now (92 ∷ c.in-Ok.behind.now) c.loop-stretch.invariant.so_far parts.0 parts.1 in
      let found = c.in_ok-byte.ensures.found in
      let letter = found.0 in
      let before : ReadsOn written (92 ∷ letter ∷ c.in_ok-byte.behind.now) (done ++ c.in-Ok.stretch.now) = subst (λ (r : List ℕ). ReadsOn written (92 ∷ r) (done ++ c.in-Ok.stretch.now)) found.1 so_far in
      let after = ReadsOn-escape written (done ++ c.in-Ok.stretch.now) letter c.in_ok-byte.byte c.in_ok-byte.behind.now before found.2 in
      let bytes : string_bytes c.push.new.self ≡ (done ++ c.in-Ok.stretch.now) ++ c.in_ok-byte.byte ∷ [] =
      c.in_ok-push.ensures.bytes ∙ ap (λ (t : List ℕ). string_bytes c.push_str.new.self ++ t) (encode_ascii c.in_ok-byte.byte (StandsFor-ascii letter c.in_ok-byte.byte found.2))
      ∙ ap (λ (t : List ℕ). t ++ c.in_ok-byte.byte ∷ []) c.in_ok-push_str.ensures.bytes in
      subst (λ (d : List ℕ). ReadsOn written c.in_ok-byte.behind.now d) (sym bytes) after;
}

pub returns-clause-found : goal.returns-clause-found
returns-clause-found c =
    let written = c.args.written.now in
    let done = string_bytes c.loop-stretch.text in
    let plain = c.in_default.ensures.none in
    let whole = ReadsOn-end written c.loop-stretch.rest.now done c.loop-stretch.invariant.so_far plain in
    subst (λ (t : List ℕ). IsEscaped written t) (sym c.in_ok-push_str-2.ensures.bytes) whole
