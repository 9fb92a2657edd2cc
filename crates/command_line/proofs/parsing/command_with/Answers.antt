use Rattle.std.proofs.Common.{◌∙◌, ◌<◌, ap, ap₂, sym, arith, take, length}
use Rattle.std.proofs.lemmas.List.{take_more}
use Rattle.clap.specs.Simple.{with_rule}
use Rattle.command_line.specs.Reading.{app_for}
use Rattle.command_line.proofs.Told.{one_more}
use Rattle.command_line.proofs.parsing.command_with.Goals as goal

pub loop-setting-preserved : goal.loop-setting-preserved
loop-setting-preserved c =
    let xs = c.args.settings.now in
    let i = c.loop-setting.setting-index in
    let below : i < length xs = omega (arith, c.loop-setting-test.true) in
    c.in_ok-command-2.ensures.shape c.option_argument.ensures.local
    ∙ ap₂ with_rule c.loop-setting.invariant c.option_argument.ensures.rule
    ∙ one_more (take i xs) _ ∙ ap app_for (sym (take_more xs i _ below))
