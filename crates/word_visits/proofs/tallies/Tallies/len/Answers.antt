use Rattle.std.proofs.Common.{◌∙◌, sym, arith}
use Rattle.word_visits.specs.VisitTables.{visits_of}
use Rattle.word_visits.proofs.TableLemmas.{length_visits}
use Rattle.word_visits.proofs.TallyLemmas.{length_tallies}
use Rattle.word_visits.proofs.tallies.Tallies.len.Goals as goal

pub returns : goal.returns
returns c =
    let v = c.args.self.now in
    let entries = length_visits 0 0 v.words.entries.items in
    let count = v.count in
    c.len.ensures ∙ sym (length_tallies (visits_of v.words) v.sums.items (omega (arith, count, entries)))
