use Rattle.std.proofs.Common.{◌++◌, ap, sym, ◌∙◌, subst, slice_index_or}
use Rattle.std.proofs.lemmas.Result.{on_ok_weaker}
use Rattle.event_text.specs.run_trace.Given.{what_of}
use Rattle.block_view.specs.Sharing.{written_by}
use Rattle.block_view.specs.Writers.{AreWritersOf}
use Rattle.block_view.proofs.Writing.{accessed}
use Rattle.block_view.proofs.sharing.Sharing.add.Goals as goal

pub returns-in-Word-clause-writes : goal.returns-in-Word-clause-writes
returns-in-Word-clause-writes c =
    let node = c.args.event.now.node in
    let word = c.in-Word.word in
    on_ok_weaker c.add_access.result
    (λ h writes before b d within. subst (AreWritersOf (slice_index_or c.add_access.new.self.blocks.items b d))
    (accessed writes node b word.access ∙ ap (λ w. writes b ++ written_by b node (what_of w)) (sym c.in-Word.is))
    (h writes before b d within)) c.add_access.ensures.writes
