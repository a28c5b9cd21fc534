use Rattle.std.proofs.Common.{◌≡◌, ◌<◌, ℕ, zero, suc, true, ◌||◌, List, [], ◌∷◌, length, get_or, set, sym, ap, ◌∙◌, subst, arith}
use Rattle.std.proofs.lemmas.List.{set-get_or}
use Rattle.kl_exclude.specs.Excludes.{excludes, any_excludes}
use Rattle.kl_exclude.proofs.Trees.{one_text_more}
use Rattle.kl_exclude.proofs.Walks.{or_with_true}
use Rattle.kl_exclude.proofs.apart.any_hit.Goals as goal

-- a text that excludes the path is one of the texts
hit_among : (texts : List (List ℕ)) (i : ℕ) (text path : List ℕ) → i < length texts → text ≡ get_or texts i text → excludes text path ≡ true → any_excludes texts path ≡ true
hit_among [] i text path lt e hit = absurd (omega (arith, lt))
hit_among (first ∷ texts) zero text path lt e hit = ap (λ t. excludes t path || any_excludes texts path) (sym e) ∙ ap (λ b. b || any_excludes texts path) hit
hit_among (first ∷ texts) (suc i) text path lt e hit =
    ap (λ b. excludes first path || b) (hit_among texts i text path (omega (arith, lt)) e hit) ∙ or_with_true (excludes first path)

-- an item that is written back unchanged
unchanged : {X : Type 0} (xs : List X) (i : ℕ) (d y : X) → y ≡ get_or xs i d → set xs i y ≡ xs
unchanged xs i d y same = ap (set xs i) same ∙ set-get_or xs i d

pub returns-then-excludes-clause-found : goal.returns-then-excludes-clause-found
returns-then-excludes-clause-found c =
    let texts = c.args.searchers.now in
    let i = c.loop-searcher.searcher-index in
    let text = c.searcher-item.result in
    let path = c.args.path.now in
    let is = subst (λ all. text ≡ get_or all i text) c.loop-searcher.invariant.0 c.searcher-item.is in
    let hit = ap (λ t. excludes t path) c.searcher-item.is ∙ sym c.excludes.ensures.found ∙ c.if-excludes.true in
    sym (hit_among texts i text path c.loop-searcher-test.true is hit)

pub loop-searcher-preserved : goal.loop-searcher-preserved
loop-searcher-preserved c =
    let texts = c.args.searchers.now in
    let i = c.loop-searcher.searcher-index in
    let text = c.searcher-item.result in
    let path = c.args.path.now in
    let is = subst (λ all. text ≡ get_or all i text) c.loop-searcher.invariant.0 c.searcher-item.is in
    let missed = ap (λ t. excludes t path) c.searcher-item.is ∙ sym c.excludes.ensures.found ∙ c.if-excludes.false in (
      unchanged c.loop-searcher.searchers i text c.excludes.new.self c.excludes.ensures.same ∙ c.loop-searcher.invariant.0,
      one_text_more texts i text c.loop-searcher-test.true is path ∙ ap (λ b. b || excludes text path) c.loop-searcher.invariant.1 ∙ missed,
    )
