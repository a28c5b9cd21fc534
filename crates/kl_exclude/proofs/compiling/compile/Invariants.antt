use Rattle.std.proofs.Common.{◌≡◌, take, map, string_bytes, All}
use Rattle.kl_exclude.specs.Excludes.{IsPattern}
use Rattle.kl_exclude.specs.Told.{RefusesNone, Logs}
use Rattle.kl_exclude.proofs.compiling.compile.Given as goal

-- the texts passed are patterns, which were asked once each
abbrev pub invariant-loop-place : goal.invariant-loop-place
invariant-loop-place g l =
    let texts = take l.place (map string_bytes l.texts) in
    let old = g.P.PatternMaker.told l.initial.maker in
    let now = g.P.PatternMaker.told l.maker in
    (l.patterns.items ≡ texts) × All IsPattern texts × RefusesNone old now × Logs old now texts
