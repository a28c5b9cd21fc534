use Rattle.std.proofs.Common.{◌≡◌, ℕ, ◌+◌, List, [], ◌∷◌, ◌++◌, map, sym, ap, subst, ◌∙◌, rules}
use Rattle.std.proofs.lemmas.List.{map-append}
use denote.Ref.{Bor}
use Rattle.kl_script.specs.Words.{IsSplit}
use Rattle.kl_script.proofs.Splitting.{IsSplit-more, IsSplit-ended}
use Rattle.kl_script.proofs.words.split_words.Goals as goal

pub returns-in_err-word-clause-none : goal.returns-in_err-word-clause-none
returns-in_err-word-clause-none c = λ _ words rest s.
    IsSplit-ended c.args.text.now c.loop.counter c.args.count (map (λ w. w.now) c.loop.words.items) words c.loop.rest.now rest c.loop.invariant.split c.loop-test.true c.in_err-word.ensures.none s

pub loop-preserved : goal.loop-preserved
loop-preserved c = record {
  utf8 = search rules;
  split =
      let now : Bor (List ℕ) → List ℕ = λ w. w.now in
      let more = IsSplit-more c.args.text.now c.loop.counter (map now c.loop.words.items) c.loop.rest.now c.in_ok-word.word.now c.in_ok-word.behind.now c.loop.invariant.split c.in_ok-word.ensures.found.0 c.in_ok-word.ensures.found.1 in
      let pushed : map now c.push.new.self.items ≡ map now c.loop.words.items ++ c.in_ok-word.word.now ∷ [] = ap (map now) c.in_ok-push.ensures.items ∙ map-append now c.loop.words.items (c.in_ok-word.word ∷ []) in
      subst (λ (words : List (List ℕ)). IsSplit c.args.text.now (c.loop.counter + 1) words c.in_ok-word.behind.now) (sym pushed) more;
}
