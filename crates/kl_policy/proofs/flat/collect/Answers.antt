-- The lines that are read, line by line.
use Rattle.std.proofs.Common.{◌+◌, [], ◌∷◌, ◌++◌, map, refl, sym, ap, subst, ◌∙◌, arith, length-append, append_assoc}
use Rattle.std.proofs.lemmas.List.{map-append, length-map}
use Rattle.kl_entry.specs.Lines.{lines_of}
use Rattle.kl_policy.specs.Flat.{LinesCollect}
use Rattle.kl_policy.proofs.Listing.{collect_none, collect_blank, collect_line, first_bad_line, place_below, nothing, something}
use Rattle.kl_policy.proofs.flat.collect.Goals as goal
use Rattle.kl_policy.proofs.flat.collect.Goals.{then-not-is_empty+in-Some-read_line+in_ok-add, else-not-is_empty}

pub loop-line-init : goal.loop-line-init
loop-line-init c = record {
  collected = subst (λ digests. LinesCollect [] digests) (sym c.new-digests.ensures) collect_none;
  counted = refl;
  cut = ap lines_of (c.into_iter-line-iterator.ensures.into_iter_gives ∙ c.lines-line-items.ensures.starts);
}

pub returns-in_default-clause-fault : goal.returns-in_default-clause-fault
returns-in_default-clause-fault c =
    first_bad_line c.args.text.now (map (λ line. line.now) c.loop-line.yielded) c.in-Some.line.now (lines_of c.next.new.self) c.loop-line.digests c.loop-line.number
    (ap (λ left. map (λ line. line.now) c.loop-line.yielded ++ left) (sym c.in-Some.ensures.steps) ∙ c.loop-line.invariant.cut)
    (length-map c.loop-line.yielded (λ line. line.now) ∙ sym c.loop-line.invariant.counted)
    c.loop-line.invariant.collected
    (something c.in-Some.line.now c.is_empty.result c.is_empty.ensures c.if-not-is_empty.true)
    c.in_default.ensures.none

pub overflow_add-number : goal.overflow_add-number
overflow_add-number c =
    let below = place_below c.args.text.now (map (λ line. line.now) c.loop-line.yielded) c.in-Some.line.now (lines_of c.next.new.self)
    (ap (λ left. map (λ line. line.now) c.loop-line.yielded ++ left) (sym c.in-Some.ensures.steps) ∙ c.loop-line.invariant.cut) in
    let places = length-map c.loop-line.yielded (λ line. line.now) in
    let counted = c.loop-line.invariant.counted in
    omega arith

pub loop-line-preserved : goal.loop-line-preserved
loop-line-preserved c = record {
  collected =
      subst (λ lines. LinesCollect lines c.if-not-is_empty.digests) (sym (map-append (λ line. line.now) c.loop-line.yielded (c.in-Some.line ∷ [])))
      (elim c.if-not-is_empty.branch [
        | then-not-is_empty+in-Some-read_line+in_ok-add w ↦
            subst (λ digests. LinesCollect (map (λ line. line.now) c.loop-line.yielded ++ c.in-Some.line.now ∷ []) digests) (sym (w.digests-is ∙ w.in_ok-add.ensures.added))
            (collect_line (map (λ line. line.now) c.loop-line.yielded) c.in-Some.line.now w.in-Some-read_line.listed.digest w.in-Some-read_line.listed.path.now c.loop-line.digests
            (something c.in-Some.line.now c.is_empty.result c.is_empty.ensures w.if-not-is_empty.true)
            w.in-Some-read_line.ensures.read c.loop-line.invariant.collected)
        | else-not-is_empty w ↦
            subst (λ digests. LinesCollect (map (λ line. line.now) c.loop-line.yielded ++ c.in-Some.line.now ∷ []) digests) (sym w.digests-is)
            (collect_blank (map (λ line. line.now) c.loop-line.yielded) c.in-Some.line.now c.loop-line.digests
            (nothing c.in-Some.line.now c.is_empty.result c.is_empty.ensures w.if-not-is_empty.false)
            c.loop-line.invariant.collected)
      ]);
  counted = ap (λ n. n + 1) c.loop-line.invariant.counted ∙ sym (length-append c.loop-line.yielded (c.in-Some.line ∷ []));
  cut =
      ap (λ front. front ++ lines_of c.next.new.self) (map-append (λ line. line.now) c.loop-line.yielded (c.in-Some.line ∷ []))
      ∙ append_assoc (map (λ line. line.now) c.loop-line.yielded) (c.in-Some.line.now ∷ []) (lines_of c.next.new.self)
      ∙ ap (λ left. map (λ line. line.now) c.loop-line.yielded ++ left) (sym c.in-Some.ensures.steps)
      ∙ c.loop-line.invariant.cut;
}
