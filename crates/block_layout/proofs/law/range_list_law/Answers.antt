use Rattle.block_layout.proofs.Only.{ranges_or_broken, broken_once}
use Rattle.block_layout.proofs.law.range_list_law.Goals as goal

pub returns-clause-either : goal.returns-clause-either
returns-clause-either c = ranges_or_broken

pub returns-clause-first : goal.returns-clause-first
returns-clause-first c = broken_once
