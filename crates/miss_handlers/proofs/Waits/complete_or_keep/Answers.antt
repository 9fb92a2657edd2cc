use Rattle.std.proofs.Common.{◌≡◌, sym, ◌∙◌, false}
use Rattle.home_directory.specs.Table as table
use Rattle.miss_handlers.proofs.Waits.complete_or_keep.Goals as goal

pub returns-then-not-is_complete-clause-wait : goal.returns-then-not-is_complete-clause-wait
returns-then-not-is_complete-clause-wait c =
    let e : table.is_complete c.args.wait.answer c.args.wait.counted ≡ false = sym c.is_complete.ensures ∙ c.if-not-is_complete.true in
    rw e c.add.ensures.wait
