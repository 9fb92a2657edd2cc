use Rattle.speedup_page.specs.Frame.{bars, chart, end, legend, notes, style, table, top}
use Rattle.speedup_page.proofs.frame.bytes_of.Goals as goal

pub returns-in-Top : goal.returns-in-Top
unfolding top
returns-in-Top c = rw c.in-Top.is c.as_bytes.ensures.value

pub returns-in-Style : goal.returns-in-Style
unfolding style
returns-in-Style c = rw c.in-Style.is c.as_bytes-in-Style.ensures.value

pub returns-in-Chart : goal.returns-in-Chart
unfolding chart
returns-in-Chart c = rw c.in-Chart.is c.as_bytes-in-Chart.ensures.value

pub returns-in-Bars : goal.returns-in-Bars
unfolding bars
returns-in-Bars c = rw c.in-Bars.is c.as_bytes-in-Bars.ensures.value

pub returns-in-Legend : goal.returns-in-Legend
unfolding legend
returns-in-Legend c = rw c.in-Legend.is c.as_bytes-in-Legend.ensures.value

pub returns-in-Table : goal.returns-in-Table
unfolding table
returns-in-Table c = rw c.in-Table.is c.as_bytes-in-Table.ensures.value

pub returns-in-Notes : goal.returns-in-Notes
unfolding notes
returns-in-Notes c = rw c.in-Notes.is c.as_bytes-in-Notes.ensures.value

pub returns-in-End : goal.returns-in-End
unfolding end
returns-in-End c = rw c.in-End.is c.as_bytes-in-End.ensures.value
