use Rattle.std.proofs.Common.{map}
use denote.Text.{Utf8}
use denote.Shadow.{shadow}
use Rattle.kl_script.specs.Words.{IsSplit}
use Rattle.kl_script.proofs.words.split_words.Given as goal

abbrev pub invariant-loop : goal.invariant-loop
invariant-loop l = record { utf8 : shadow (Utf8 l.rest); split : IsSplit l.text l.counter (map (λ w. w.now) l.words.items) l.rest }
