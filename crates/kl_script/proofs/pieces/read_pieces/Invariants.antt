use Rattle.std.proofs.Common.{length, take}
use Rattle.std.specs.List.{AllZip}
use Rattle.kl_script.specs.Statics.{pieces_at}
use Rattle.kl_script.proofs.pieces.read_pieces.Given as goal

abbrev pub invariant-loop-piece : goal.invariant-loop-piece
invariant-loop-piece g l = record {
  can_next : (goal.iterator-loop-piece g).can_next l.piece-iterator;
  is_finite : (goal.iterator-loop-piece g).is_finite l.piece-iterator;
  spelled : AllZip g.T.Spelled.spells (take (length l.yielded) (pieces_at l.fn.separator l.written)) l.values.items;
}
