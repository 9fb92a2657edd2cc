use Rattle.std.proofs.Common.{rules, inr}
use Rattle.judged_files.proofs.code.judge_code.Goals as goal

pub returns-clause-refused : goal.returns-clause-refused
returns-clause-refused c =
    rw c.in-Some.is (inr (c.in_ok-elf.elf, c.in-Some-2.part, c.in_ok-elf.ensures.ok, search rules, search rules))
