use Rattle.std.proofs.Common.{◌≡◌, ◌∙◌, length, sym, arith}
use Rattle.std.proofs.lemmas.Grind.{common_steps}
use Rattle.word_visits.proofs.TableLemmas.{length_visits}
use Rattle.word_visits.proofs.visits.Visits.len.Goals as goal

pub returns : goal.returns
returns c =
    let es = c.args.self.now.entries.items in
    let count : c.len.result ≡ length es = grind (arith, common_steps) in
    count ∙ sym (length_visits 0 0 es)
