-- A look-up after the entry's value is written.
use Rattle.std.proofs.Common.{◌≡◌, ℕ, List, arith}
use Rattle.std.proofs.lemmas.Map.Text.{text_keys}
use Rattle.std.specs.HashMap.{get_by_text}
use Rattle.kl_digests.proofs.Packing.{where_err}
use Rattle.kl_digests.proofs.digests.push_at.Goals as goal

pub returns-in_ok-push-in-Occupied-clause-added : goal.returns-in_ok-push-in-Occupied-clause-added
returns-in_ok-push-in-Occupied-clause-added c = λ q. grind (arith, text_keys)

pub returns-in-Vacant-clause-added : goal.returns-in-Vacant-clause-added
returns-in-Vacant-clause-added c = λ q. grind (arith, text_keys)

pub returns-in_err-push-in-Occupied-clause-same : goal.returns-in_err-push-in-Occupied-clause-same
returns-in_err-push-in-Occupied-clause-same c = where_err {P = (q : List ℕ) → get_by_text c.table-in-Occupied-1.given.0 q ≡ get_by_text c.args.table.now q} c.from_residual-in_err-push-in-Occupied.result (λ q. grind (arith, text_keys))
