use Rattle.std.proofs.Common.{◌≡◌, ◌++◌, codes, decimal, flat_map, take}
use Rattle.std.specs.String.{string_bytes}
use Rattle.kl_session.proofs.registrar_texts.records_line.Given as goal

abbrev pub invariant-loop-id : goal.invariant-loop-id
invariant-loop-id l = string_bytes l.line ≡ codes "records " ++ decimal l.count ++ flat_map (λ id. codes " " ++ id) (take l.id-index l.ids)
