use Rattle.kl_core.proofs.OneAnswer.{one_add, one_replace, one_reactivate, one_stop, one_remove}
use Rattle.kl_core.proofs.OneAnswer.{one_begin, one_release, one_own_finish, one_finish, one_own_loss, one_loss, one_own_drop, one_drop, one_state, one_pick, one_notice, one_mark, one_settle, one_own_settle}
use Rattle.kl_core.proofs.answers.single_answers.Goals as goal

pub returns : goal.returns
returns c = record {
  adds = one_add;
  replaces = one_replace;
  reactivates = one_reactivate;
  stops = one_stop;
  removes = one_remove;
  begins = one_begin;
  releases = one_release;
  finishes = one_finish;
  own_finishes = one_own_finish;
  loses = one_loss;
  own_loses = one_own_loss;
  drops = one_drop;
  own_drops = one_own_drop;
  state = one_state;
  picks = one_pick;
  notices = one_notice;
  marks = one_mark;
  settles = one_settle;
  own_settles = one_own_settle;
}
