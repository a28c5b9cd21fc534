-- Patterns may cross into threads. One search over all that a `Regex` holds runs out of steps, so there is a lemma for each layer, which stands on those of the layers below.
use denote.Param.Send.{IsSend, IsSync, sendable}
use Rattle.std.proofs.Crossing.{crosses}
use Rattle.std.proofs.MapsCrossing.{String-sync, String-send}
use Rattle.regex_dfa.specs.contracts.dfa.Dfa as Dfa
use Rattle.regex_dfa.proofs.dfa.Dfa.TheSendSync as dfa
use Rattle.regex_extract.proofs.frames.Frame.TheSendSync as frame
use Rattle.regex_hir.specs.contracts.hir.Hir as Hir
use Rattle.regex_hir.proofs.hir.Hir.TheLaws.TheKnot as hir
use Rattle.regex_literal.proofs.byte_set.ByteSet.TheSendSync as byte_set
use Rattle.regex_literal.proofs.caseless.Caseless.TheSendSync as caseless
use Rattle.regex_literal.proofs.ladder.Ladder.TheSendSync as ladder
use Rattle.regex_literal.proofs.prefilter.Prefilter.TheSendSync as prefilter
use Rattle.regex_meta.specs.contracts.plan.Plans as Plans
use Rattle.regex_meta.proofs.plan.Role.TheSendSync as role
use Rattle.regex_meta.specs.contracts.program.Program as Program
use Rattle.regex_meta.specs.contracts.signs.Signs as Signs
use Rattle.regex.specs.contracts.pattern.Pattern as Source
use Rattle.regex.specs.contracts.string.regex.Regex as Regex
use Rattle.kl_exclude.specs.contracts.pattern.Pattern as Pattern
use Rattle.kl_exclude.specs.contracts.patterns.Patterns as Patterns

-- ---- shared
tree_sync : IsSync (Hir.the_field).row
tree_sync = search (crosses, hir.crosses, sendable) depth 60 fits 20000

automaton_sync : IsSync (Dfa.the_field).row
automaton_sync = dfa.the_field_sync

plans_sync : IsSync (Plans.the_field).row
plans_sync = search (tree_sync, frame.the_field_sync, ladder.the_field_sync, prefilter.the_sync, role.the_field_sync, crosses, sendable) depth 60 fits 20000

signs_sync : IsSync (Signs.the_field).row
signs_sync = search (tree_sync, caseless.the_sync, crosses, sendable) depth 60 fits 20000

program_sync : IsSync (Program.the_field).row
program_sync = search (tree_sync, automaton_sync, plans_sync, signs_sync, byte_set.the_sync, crosses, sendable) depth 60 fits 20000

source_sync : IsSync (Source.the_field).row
source_sync = search (program_sync, String-sync, crosses, sendable) depth 60 fits 20000

regex_sync : IsSync (Regex.the_field).row
regex_sync = search (source_sync, sendable) depth 60 fits 20000

pattern_sync : IsSync (Pattern.the_field).row
pattern_sync = search (regex_sync, sendable) depth 60 fits 20000

pattern_row_sync : IsSync Pattern.the_row
pattern_row_sync = search (pattern_sync, sendable) depth 60 fits 20000

pub patterns_sync : IsSync (Patterns.the_field).row
patterns_sync = search (pattern_sync, pattern_row_sync, program_sync, crosses, sendable) depth 60 fits 20000

pub patterns_row_sync : IsSync Patterns.the_row
patterns_row_sync = search (patterns_sync, sendable) depth 60 fits 20000

-- ---- handed over
tree_send : IsSend (Hir.the_field).row
tree_send = search (crosses, hir.crosses, sendable) depth 60 fits 20000

plans_send : IsSend (Plans.the_field).row
plans_send = search (tree_send, frame.the_field_send, ladder.the_field_send, prefilter.the_send, role.the_field_send, crosses, sendable) depth 60 fits 20000

signs_send : IsSend (Signs.the_field).row
signs_send = search (tree_send, caseless.the_send, crosses, sendable) depth 60 fits 20000

program_send : IsSend (Program.the_field).row
program_send = search (tree_send, dfa.the_field_send, plans_send, signs_send, byte_set.the_send, crosses, sendable) depth 60 fits 20000

source_send : IsSend (Source.the_field).row
source_send = search (program_send, String-send, crosses, sendable) depth 60 fits 20000

regex_send : IsSend (Regex.the_field).row
regex_send = search (source_send, sendable) depth 60 fits 20000

pattern_send : IsSend (Pattern.the_field).row
pattern_send = search (regex_send, sendable) depth 60 fits 20000

pattern_row_send : IsSend Pattern.the_row
pattern_row_send = search (pattern_send, sendable) depth 60 fits 20000

pub patterns_send : IsSend (Patterns.the_field).row
patterns_send = search (pattern_send, pattern_row_send, program_send, crosses, sendable) depth 60 fits 20000

pub patterns_row_send : IsSend Patterns.the_row
patterns_row_send = search (patterns_send, sendable) depth 60 fits 20000

-- For the crates above, whose types hold `Patterns`, also behind an `Arc`. A type `T` there gets lemmas `IsSend (T.the_field).row` and
-- `IsSend T.the_row`, each a search by this set and std's `crosses` and `sendable`, and so for `IsSync`, and these answer where `T` crosses.
pub ruleset patterns_cross = (patterns_sync, patterns_row_sync, patterns_send, patterns_row_send)
