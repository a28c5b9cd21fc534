use Rattle.std.proofs.Common.{◌∙◌, sym}
use Rattle.kl_attest.specs.Inner.Seen.{place_of}
use Rattle.kl_attest.specs.Inner.Seen.{selection_of}
use Rattle.kl_attest.proofs.Steps.{no_fault}
use Rattle.kl_attest.proofs.Lone.{seeks_from, seeks_past, seeks_found, seeks_two, ends_found, ends_only, ends_none}
use Rattle.kl_attest.proofs.selections.Selections.lone.Goals as goal
use Rattle.kl_attest.proofs.selections.Selections.lone.Goals.{then-not-all_zero+else-is_some, else-not-all_zero}

pub loop-init : goal.loop-init
loop-init c = seeks_from c.self.inside.count (place_of c.self.inside.first) c.args.self.now c.hold_bytes.ensures c.self.invariant c.self.view_is

pub unreachable-requires : goal.unreachable-requires
unreachable-requires c = no_fault c.in_default.field-0 c.self.inside.count c.loop.counter (place_of c.loop.rest) c.loop-test.true c.in_default.ensures c.loop.invariant.ok

pub returns-then-is_some-clause-none : goal.returns-then-is_some-clause-none
returns-then-is_some-clause-none c = λ one alone.
    seeks_two c.self.inside.count c.loop.counter (place_of c.loop.rest) c.loop.found c.args.self.now (selection_of c.in-Ok.selection) (place_of c.in-Ok.after) one c.loop-test.true c.in-Ok.ensures
    (sym c.all_zero.ensures ∙ c.if-not-all_zero.true) (sym c.if-is_some.ensures) c.loop.invariant alone

pub loop-preserved : goal.loop-preserved
loop-preserved c =
    elim c.if-not-all_zero.branch [
      | then-not-all_zero+else-is_some w ↦ rw w.found-is
          (seeks_found c.self.inside.count c.loop.counter (place_of c.loop.rest) c.loop.found c.args.self.now c.in-Ok.selection (place_of c.in-Ok.after) c.loop-test.true c.in-Ok.ensures
          (sym c.all_zero.ensures ∙ w.if-not-all_zero.true) (sym w.if-is_some.ensures) c.loop.invariant)
      | else-not-all_zero w ↦ rw w.found-is
          (seeks_past c.self.inside.count c.loop.counter (place_of c.loop.rest) c.loop.found c.args.self.now (selection_of c.in-Ok.selection) (place_of c.in-Ok.after) c.loop-test.true c.in-Ok.ensures
          (sym c.all_zero.ensures ∙ w.if-not-all_zero.false) c.loop.invariant)
    ]

pub returns-clause-found : goal.returns-clause-found
returns-clause-found c = ends_found c.self.inside.count c.loop.counter (place_of c.loop.rest) c.loop.found c.args.self.now c.loop-test.false c.loop.invariant

pub returns-clause-only : goal.returns-clause-only
returns-clause-only c = λ one alone. ends_only c.self.inside.count c.loop.counter (place_of c.loop.rest) c.loop.found c.args.self.now one c.loop-test.false c.loop.invariant alone

pub returns-clause-none : goal.returns-clause-none
returns-clause-none c = ends_none c.self.inside.count c.loop.counter (place_of c.loop.rest) c.loop.found c.args.self.now c.loop-test.false c.loop.invariant
