use Rattle.block_layout.proofs.Numbers.{placed_law, home_law, some_law, few_law, low_law, within_law, apart_law, found_law, has_law, ends_law, shared_law, place_law, count_law, blocks_law}
use Rattle.block_layout.proofs.law.layout_law.Goals as goal

pub returns-clause-home : goal.returns-clause-home
returns-clause-home c = home_law

pub returns-clause-some : goal.returns-clause-some
returns-clause-some c = some_law

pub returns-clause-few : goal.returns-clause-few
returns-clause-few c = few_law

pub returns-clause-low : goal.returns-clause-low
returns-clause-low c = low_law

pub returns-clause-within : goal.returns-clause-within
returns-clause-within c = within_law

pub returns-clause-apart : goal.returns-clause-apart
returns-clause-apart c = apart_law

pub returns-clause-found : goal.returns-clause-found
returns-clause-found c = found_law

pub returns-clause-has : goal.returns-clause-has
returns-clause-has c = has_law

pub returns-clause-ends : goal.returns-clause-ends
returns-clause-ends c = ends_law

pub returns-clause-shared : goal.returns-clause-shared
returns-clause-shared c = shared_law

pub returns-clause-place : goal.returns-clause-place
returns-clause-place c = place_law

pub returns-clause-count : goal.returns-clause-count
returns-clause-count c = count_law

pub returns-clause-blocks : goal.returns-clause-blocks
returns-clause-blocks c = blocks_law

pub returns-clause-placed : goal.returns-clause-placed
returns-clause-placed c = placed_law
