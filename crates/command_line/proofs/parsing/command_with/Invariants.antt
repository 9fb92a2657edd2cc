use Rattle.std.proofs.Common.{◌≡◌, take}
use Rattle.clap.specs.Words.{app_of}
use Rattle.command_line.specs.Reading.{app_for}
use Rattle.command_line.proofs.parsing.command_with.Given as goal

-- the options so far are told
abbrev pub invariant-loop-setting : goal.invariant-loop-setting
invariant-loop-setting l = app_of l.command ≡ app_for (take l.setting-index l.settings)
