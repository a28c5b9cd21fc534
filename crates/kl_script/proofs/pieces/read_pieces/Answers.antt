use Rattle.std.proofs.lemmas.Iterator.Splits.{YieldsList-from_str_split}
use Rattle.std.proofs.lemmas.Iterator.Consumers.{YieldsList-turn, YieldsList-end}
use Rattle.kl_script.specs.Statics.{pieces_at}
use Rattle.kl_script.proofs.Faults.{at_exit}
use Rattle.kl_script.proofs.Zips.{AllZip-more, AllZip-none, AllZip-end}
use Rattle.kl_script.proofs.pieces.read_pieces.Goals as goal

pub returns-in_err-read-clause-none : goal.returns-in_err-read-clause-none
returns-in_err-read-clause-none g c =
    let road = YieldsList-from_str_split c.args.separator c.args.written.now c.requires (cc) (cc) (cc) in
    let next = YieldsList-turn road c.loop-piece.yielded _ c.loop-piece.yielded_by _ _ c.in-Some.piece c.in-Some.is c.next.ensures.steps in
    λ is. AllZip-none g.T.Spelled.spells (pieces_at c.args.separator c.args.written.now) c.loop-piece.yielded c.in-Some.piece.now next (at_exit _ c.in_err-read.ensures.none _ c.from_residual.ensures.1 is)

pub loop-piece-preserved : goal.loop-piece-preserved
loop-piece-preserved g c = record {
  can_next = tt;
  is_finite = tt;
  spelled =
      let road = YieldsList-from_str_split c.args.separator c.args.written.now c.requires (cc) (cc) (cc) in
      let next = YieldsList-turn road c.loop-piece.yielded _ c.loop-piece.yielded_by _ _ c.in-Some.piece c.in-Some.is c.next.ensures.steps in
      AllZip-more g.T.Spelled.spells (pieces_at c.args.separator c.args.written.now) c.loop-piece.yielded c.in-Some.piece c.in-Some.piece.now c.loop-piece.values.items _ c.in_ok-read.field-0 next c.loop-piece.invariant.spelled
      c.in_ok-read.ensures.found c.in_ok-push.ensures.items;
}

pub returns-clause-found : goal.returns-clause-found
returns-clause-found g c =
    let road = YieldsList-from_str_split c.args.separator c.args.written.now c.requires (cc) (cc) (cc) in
    let end = YieldsList-end road c.loop-piece.yielded _ c.loop-piece.yielded_by _ _ c.in-None.is c.next.ensures.steps in
    AllZip-end g.T.Spelled.spells (pieces_at c.args.separator c.args.written.now) _ c.loop-piece.values.items end.1 c.loop-piece.invariant.spelled
