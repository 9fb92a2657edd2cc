use Rattle.std.proofs.Common.{◌≡◌, ap, subst, sym, ◌∙◌}
use Rattle.exec_map.specs.Contents.{program_of}
use Rattle.templates.specs.Code.{HasCode, code_of}
use Rattle.jump_map.specs.Image.{IsRewriting}
use Rattle.check_costs.specs.declared.table.Counted.TheVariants.{Instructions}
use Rattle.check_costs.specs.Counts.{AreSums, counts_of}
use Rattle.check_costs.specs.Text.{IsTable}
use Rattle.check_costs.proofs.Runs.{has_runs}
use Rattle.views.specs.Cost.{IsTableOf}
use Rattle.views.proofs.Counted.{is_table_of, ok_as}
use Rattle.views.proofs.cost.counts_text.Goals as goal

pub counts_of-requires-clause-runs : goal.counts_of-requires-clause-runs
counts_of-requires-clause-runs c =
    let elf = c.args.elf.now in
    let image = c.args.rewritten.now.image in
    has_runs (program_of elf) c.code.result.now c.plan.result.now image
    (subst (HasCode (program_of elf)) (sym c.code.ensures.value)
    (subst (λ e. HasCode (program_of e) c.in_ok-graph.graph) c.requires.accepted c.in_ok-graph.ensures.code))
    (subst (λ p. IsRewriting (program_of elf) p image) (sym c.plan.ensures.value) c.requires.rewriting)

pub returns : goal.returns
returns c =
    let elf = c.args.elf.now in
    let plan = c.args.rewritten.now.plan in
    let image = c.args.rewritten.now.image in
    let words = c.code.result.now in
    let symbols = c.in_ok-symbols.symbols in
    let counts = c.in_ok-counts.counts.items in
    let code : HasCode (program_of elf) words = subst (HasCode (program_of elf)) (sym c.code.ensures.value)
    (subst (λ e. HasCode (program_of e) c.in_ok-graph.graph) c.requires.accepted c.in_ok-graph.ensures.code) in
    let is : counts ≡ counts_of symbols (code_of words) plan = c.in_ok-counts.ensures.value
    ∙ ap (counts_of symbols (code_of words)) c.plan.ensures.value in
    let sums : AreSums words image counts = c.in_ok-counts.ensures.sums (program_of elf) image code
    (subst (λ p. IsRewriting (program_of elf) p image) (sym c.plan.ensures.value) c.requires.rewriting) in
    let shown = c.deref.ensures.value in
    ok_as (λ text. IsTable Instructions symbols c.deref.result.now text.items) (λ text. IsTableOf elf plan image text.items)
    c.table_of.result
    (λ text table. is_table_of elf plan image words symbols counts text.items c.in_ok-symbols.ensures code is sums
    (subst (λ cs. IsTable Instructions symbols cs text.items) shown table)) c.table_of.ensures
