use Rattle.page_events.proofs.Escapes.{none_in, less, greater, quote, apostrophe}
use Rattle.page_events.proofs.escape.escape_law.Goals as goal

pub returns-clause-less : goal.returns-clause-less
returns-clause-less c = λ text h. none_in less text h

pub returns-clause-greater : goal.returns-clause-greater
returns-clause-greater c = λ text h. none_in greater text h

pub returns-clause-quote : goal.returns-clause-quote
returns-clause-quote c = λ text h. none_in quote text h

pub returns-clause-apostrophe : goal.returns-clause-apostrophe
returns-clause-apostrophe c = λ text h. none_in apostrophe text h
