-- A run that lacks nothing but memory.
use Rattle.std.specs.Prelude.{◌≡◌, ◌≢◌, ℕ, ◌≤◌, List, [], ◌++◌, length, All, Option, Some, None}
use Rattle.kl_io.specs.Calls.{Rose}
use Rattle.kl_script.specs.declared.command.RegistrarCommand.{RegistrarCommand}
use Rattle.kl_script.specs.declared.command.RegistrarCommand.TheVariants.{Register}
use Rattle.kl_script.specs.Commands.{VerifierCommandFields, begin, CommandFields, nothing, to_verifier, to_registrar, Spells}
use Rattle.kl_session.specs.Drawing.{HasFewer}
use Rattle.kl_console.specs.Lines.{IsLine, Comes, ended, script_limit}
use Rattle.kl_console.specs.Run.{Moment}

-- a line within its limit that spells a command
abbrev pub IsCommand : List ℕ → Type 0
IsCommand line = IsLine line × ((c : CommandFields) × Spells line c)

-- The bytes are lines, each with its newline, and behind them nothing or a last line that lacks it. Each spells a command, and
-- the limits are kept.
pub record AreCommands (bytes : List ℕ) : Type 0 where
  pub lines : List (List ℕ)
  pub last : List ℕ
  pub parts : bytes ≡ ended lines ++ last
  pub each : All IsCommand lines
  pub bare : last ≢ [] → IsCommand last
  pub short : length bytes ≤ script_limit

-- Between two moments of a run nothing was wrong with the script, and no object met a fault: the source told a script of commands,
-- all that it had left; and no count of faults rose of the source, of the output or of the words.
pub record IsComplete (before after : Moment) : Type 0 where
  pub script : List ℕ
  pub whole : before.script.left ≡ Some script
  pub commands : AreCommands script
  pub read : ¬ (Rose before.script.calls.faults after.script.calls.faults)
  pub written : ¬ (Rose before.out.calls.faults after.out.calls.faults)
  pub drawn : ¬ (Rose before.outside.words.calls.faults after.outside.words.calls.faults)

-- ---- where too few words are left

-- how many bytes are drawn for a nonce, where it is not named
abbrev pub nonce_draw : Option (List ℕ) → Option ℕ
nonce_draw None = Some 16
nonce_draw (Some named) = None

-- the same for a command: for the nonce of a begin, and for the secret of a register
abbrev pub verifier_draw : VerifierCommandFields → Option ℕ
verifier_draw (begin b) = nonce_draw b.nonce
verifier_draw _ = None

abbrev pub registrar_draw : RegistrarCommand → Option ℕ
registrar_draw (Register r) = Some 32
registrar_draw _ = None

abbrev pub drawn_for : CommandFields → Option ℕ
drawn_for nothing = None
drawn_for (to_verifier c) = verifier_draw c
drawn_for (to_registrar c) = registrar_draw c

-- the script has this line, be it the last one, which may lack its newline
pub record HasLine (script line : List ℕ) : Type 0 where
  pub front : List (List ℕ)
  pub each : All IsLine front
  pub bytes : List ℕ
  pub parts : script ≡ ended front ++ bytes
  pub comes : Comes (length (ended front)) (Some []) bytes line

-- A line of the script spells a command for which so many bytes are to be drawn, and fewer are left, where it is known how many are.
pub record WantsWords (script : List ℕ) (left : Option (List ℕ)) : Type 0 where
  pub line : List ℕ
  pub there : HasLine script line
  pub command : CommandFields
  pub spelled : Spells line command
  pub count : ℕ
  pub wanted : drawn_for command ≡ Some count
  pub fewer : HasFewer left count
