use Rattle.block_layout.proofs.Only.{layout_once, layout_or_fault, fault_once, empty_names_none, empty_has_no_fault}
use Rattle.block_layout.proofs.law.text_law.Goals as goal

pub returns-clause-one : goal.returns-clause-one
returns-clause-one c = layout_once

pub returns-clause-either : goal.returns-clause-either
returns-clause-either c = layout_or_fault

pub returns-clause-first : goal.returns-clause-first
returns-clause-first c = fault_once

pub returns-clause-empty : goal.returns-clause-empty
returns-clause-empty c = empty_names_none

pub returns-clause-default : goal.returns-clause-default
returns-clause-default c = empty_has_no_fault
