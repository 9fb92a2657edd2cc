use Rattle.page_view.specs.Frame.{top, table, opening, command, end, style, marks, legend, notes, columns, drawings}
use Rattle.page_view.proofs.frame.bytes_of.Goals as goal

pub returns-in-Top : goal.returns-in-Top
unfolding top
returns-in-Top c = rw c.in-Top.is c.as_bytes.ensures.value

pub returns-in-Table : goal.returns-in-Table
unfolding table
returns-in-Table c = rw c.in-Table.is c.as_bytes-in-Table.ensures.value

pub returns-in-Opening : goal.returns-in-Opening
unfolding opening
returns-in-Opening c = rw c.in-Opening.is c.as_bytes-in-Opening.ensures.value

pub returns-in-Command : goal.returns-in-Command
unfolding command
returns-in-Command c = rw c.in-Command.is c.as_bytes-in-Command.ensures.value

pub returns-in-End : goal.returns-in-End
unfolding end
returns-in-End c = rw c.in-End.is c.as_bytes-in-End.ensures.value

pub returns-in-Style : goal.returns-in-Style
unfolding style
returns-in-Style c = rw c.in-Style.is c.as_bytes-in-Style.ensures.value

pub returns-in-Marks : goal.returns-in-Marks
unfolding marks
returns-in-Marks c = rw c.in-Marks.is c.as_bytes-in-Marks.ensures.value

pub returns-in-Legend : goal.returns-in-Legend
unfolding legend
returns-in-Legend c = rw c.in-Legend.is c.as_bytes-in-Legend.ensures.value

pub returns-in-Notes : goal.returns-in-Notes
unfolding notes
returns-in-Notes c = rw c.in-Notes.is c.as_bytes-in-Notes.ensures.value

pub returns-in-Columns : goal.returns-in-Columns
unfolding columns
returns-in-Columns c = rw c.in-Columns.is c.as_bytes-in-Columns.ensures.value

pub returns-in-Drawings : goal.returns-in-Drawings
unfolding drawings
returns-in-Drawings c = rw c.in-Drawings.is c.as_bytes-in-Drawings.ensures.value
