use Rattle.std.proofs.Common.{◌≡◌, ◌+◌, ◌++◌, ◌∷◌, [], ◌∙◌, ap, sym, subst, map, string_bytes, take, rules, tests}
use Rattle.std.proofs.lemmas.List.Elements.{All-more}
use Rattle.kl_exclude.specs.Excludes.{IsPattern}
use Rattle.kl_exclude.proofs.Compiles.{fault_at, fault_given, asked_given, logs_next, refuses_none_twice, text_at, place_in_map}
use Rattle.kl_exclude.proofs.Walks.{take_next}
use Rattle.kl_exclude.specs.declared.fault.ExcludeFault.TheVariants.{Memory}
use Rattle.kl_exclude.proofs.compiling.compile.Goals as goal

pub returns-in_err-pattern-clause-fault : goal.returns-in_err-pattern-clause-fault
returns-in_err-pattern-clause-fault g c =
    let tells = g.P.PatternMaker.told in
    let i = c.loop-place.place in
    let strings = c.args.texts.now in
    let texts = map string_bytes strings in
    let text = c.as_str.result.now in
    let fault = c.in_err-pattern.field-0.0 in
    let here = text_at string_bytes strings i c.index-texts-place.result text c.loop-place-test.true c.index-texts-place.is c.as_str.ensures.value in
    let why = fault_at texts i text (place_in_map string_bytes strings i c.loop-place-test.true) here c.loop-place.invariant.1
    (tells c.args.maker.now) (tells c.loop-place.maker) (tells c.compile_one.new.maker) c.loop-place.invariant.2 fault c.in_err-pattern.ensures.fault in
    fault_given _ _ fault c.from_residual-in_err-pattern.ensures.1 texts _ _ why

pub returns-in_err-pattern-clause-asked : goal.returns-in_err-pattern-clause-asked
returns-in_err-pattern-clause-asked g c =
    let tells = g.P.PatternMaker.told in
    let i = c.loop-place.place in
    let strings = c.args.texts.now in
    let texts = map string_bytes strings in
    let text = c.as_str.result.now in
    let fault = c.in_err-pattern.field-0.0 in
    let here = text_at string_bytes strings i c.index-texts-place.result text c.loop-place-test.true c.index-texts-place.is c.as_str.ensures.value in (
      take (i + 1) texts,
      asked_given _ _ fault c.from_residual-in_err-pattern.ensures.1 texts i text _ _ c.in_err-pattern.ensures.fault,
      logs_next texts i text (place_in_map string_bytes strings i c.loop-place-test.true) here
          (tells c.args.maker.now) (tells c.loop-place.maker) (tells c.compile_one.new.maker) c.loop-place.invariant.3 c.compile_one.ensures.asked,
    )

pub returns-in_err-push-clause-asked : goal.returns-in_err-push-clause-asked
returns-in_err-push-clause-asked g c =
    let tells = g.P.PatternMaker.told in
    let i = c.loop-place.place in
    let strings = c.args.texts.now in
    let texts = map string_bytes strings in
    let text = c.as_str.result.now in
    let here = text_at string_bytes strings i c.index-texts-place.result text c.loop-place-test.true c.index-texts-place.is c.as_str.ensures.value in (
      take (i + 1) texts,
      asked_given _ _ Memory c.from_residual-in_err-push.ensures.1 texts i text _ _ c.in_ok-pattern.ensures.sizes,
      logs_next texts i text (place_in_map string_bytes strings i c.loop-place-test.true) here
          (tells c.args.maker.now) (tells c.loop-place.maker) (tells c.compile_one.new.maker) c.loop-place.invariant.3 c.compile_one.ensures.asked,
    )

pub loop-place-preserved : goal.loop-place-preserved
loop-place-preserved g c =
    let tells = g.P.PatternMaker.told in
    let i = c.loop-place.place in
    let strings = c.args.texts.now in
    let texts = map string_bytes strings in
    let text = c.as_str.result.now in
    let lt = place_in_map string_bytes strings i c.loop-place-test.true in
    let here = text_at string_bytes strings i c.index-texts-place.result text c.loop-place-test.true c.index-texts-place.is c.as_str.ensures.value in
    let pushed : c.push.new.self.items ≡ c.loop-place.patterns.items ++ c.in_ok-pattern.pattern ∷ [] = search (tests, rules) in (
      pushed ∙ ap (λ ts. ts ++ c.in_ok-pattern.pattern ∷ []) c.loop-place.invariant.0 ∙ ap (λ t. take i texts ++ t ∷ []) c.in_ok-pattern.ensures.pattern ∙ sym (take_next texts i text lt here),
      All-more IsPattern texts i text lt c.loop-place.invariant.1 (subst IsPattern here c.in_ok-pattern.ensures.read),
      refuses_none_twice (tells c.args.maker.now) (tells c.loop-place.maker) (tells c.compile_one.new.maker) c.loop-place.invariant.2 c.in_ok-pattern.ensures.sizes,
      logs_next texts i text lt here (tells c.args.maker.now) (tells c.loop-place.maker) (tells c.compile_one.new.maker) c.loop-place.invariant.3 c.compile_one.ensures.asked,
    )
