-- Helps the code alone: what the code has of an event, as the definitions have it.
use Rattle.replay.specs.node_model.Node.{Tally, Nothing_counted, FalseMiss, FallsBack}
use Rattle.replay.specs.node_machine.Wanted.{wanted_in}
use Rattle.run_trace.specs.declared.traced.Tallied.{Tallied}
use Rattle.run_trace.specs.declared.traced.Tallied.TheVariants as tallied
use Rattle.run_trace.specs.declared.traced.WordTraced.{WordTraced}
use Rattle.run_trace.specs.declared.traced.TakeTraced.{TakeTraced}
use Rattle.run_trace.specs.declared.traced.What.{What as OfCode}
use Rattle.run_trace.specs.declared.traced.What.TheVariants as code
use Rattle.run_trace.specs.declared.traced.Traced.{Traced as Stored}
use Rattle.run_trace.specs.Traced.{OfWord, OfTake, What, Word, Taken, Traced}

abbrev pub tally_of : Tallied → Tally
tally_of tallied.Nothing = Nothing_counted
tally_of tallied.FalseMiss = FalseMiss
tally_of tallied.FallsBack = FallsBack

abbrev pub word_of : WordTraced → OfWord
word_of w = record {
  place = w.place;
  commits = w.commits;
  access = w.access;
  wants = wanted_in w.wants;
  tally = tally_of w.tally;
  printed = w.printed;
  sends = w.sends.items;
  end = w.end;
}

abbrev pub take_of : TakeTraced → OfTake
take_of t = record {
  from = t.from;
  sent = t.sent;
  message = t.message;
  meets = t.meets;
  was = t.was;
  becomes = t.becomes;
  completes = t.completes;
  gives_up = t.gives_up;
  clears = t.clears;
  resumes = t.resumes;
  tally = tally_of t.tally;
  sends = t.sends.items;
  end = t.end;
}

abbrev pub what_of : OfCode → What
what_of (code.Word w) = Word (word_of w)
what_of (code.Take t) = Taken (take_of t)

abbrev pub traced_of : Stored → Traced
traced_of t = record { stamp = t.stamp; node = t.node; what = what_of t.what }
