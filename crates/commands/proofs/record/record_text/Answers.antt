use Rattle.std.proofs.Common.{length, ap, ◌∙◌, sym}
use Rattle.block_layout.specs.Layout.{Shape}
use Rattle.node_model.specs.Node.{Work}
use Rattle.dsm_core.specs.CoreParts.{core_of, work_of}
use Rattle.commands.proofs.RecordLemmas.{is_record}
use Rattle.commands.proofs.record.record_text.Goals as goal

-- the record is that of the core, which stands for its own run
pub write_record-requires-clause-record : goal.write_record-requires-clause-record
write_record-requires-clause-record c =
    let work : Work = work_of c.args.core.now in
    let core = core_of c.args.core.now in
    let own = c.promises.ensures.own_run in
    let nodes = c.nodes.ensures.nodes ∙ ap (λ (s : Shape). s.nodes) c.layout-layout.ensures.value in
    let budget = c.number.ensures.value ∙ sym (ap (λ (w : Work). w.budget) c.requires.same) in
    let code = c.len.ensures.value ∙ ap length c.image.ensures.value
    ∙ sym (ap (λ (w : Work). length w.image) c.requires.same) in
    let blocks = c.of.ensures ∙ c.in_ok-from_slice.ensures.items ∙ c.ranges-2.ensures
    ∙ ap (λ (s : Shape). s.named) c.layout-layout.ensures.value in
    let journals = c.of-2.ensures ∙ c.in_ok-journals.ensures in
    rw (nodes, budget, code, blocks, journals) (is_record c.args.prepared.now.batches work core own.0 c.journal_law.ensures.takes
    c.progress_law.ensures.short c.promises.ensures.rewritten own.1)
