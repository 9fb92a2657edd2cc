use Rattle.std.proofs.Common.{◌+◌, sym, ap, ◌∙◌, subst}
use Rattle.std.specs.Prelude.{pos}
use Rattle.rv32_decode.specs.declared.Instr.{Instr}
use Rattle.rv32_decode.specs.declared.Instr.TheVariants.{Lr, Amo}
use Rattle.rv32_decode.specs.declared.Width.TheVariants.{Word}
use Rattle.templates.specs.declared.commits.CommitKind.TheVariants.{Always}
use Rattle.templates.specs.Sequences.{read_sequence, write_sequence, store_sequence, instruction_items}
use Rattle.templates.specs.Committing.{CommitsAt, kind_at}
use Rattle.templates.proofs.CommitLemmas.{read_commits, write_commits, store_commits}
use Rattle.templates.proofs.commits.commit_of_instruction.Goals as goal

pub returns-in-Store : goal.returns-in-Store
returns-in-Store c =
    let x = c.args.scratches.now in
    let i = c.in-Store in
    let commits = subst (λ n. CommitsAt (store_sequence x i.width i.rs1 i.rs2 i.imm) (7 + n) Always)
    (sym c.spilled_count-in-Store.ensures.value) (store_commits x i.width i.rs1 i.rs2 i.imm) in
    record {
      value = c.commit_of_one-in-Store.ensures.value (store_sequence x i.width i.rs1 i.rs2 i.imm) commits
          ∙ ap (λ (j : Instr). kind_at (instruction_items c.args.address x j) c.args.word) (sym i.is);
    }

pub returns-in-Lr : goal.returns-in-Lr
returns-in-Lr c =
    let x = c.args.scratches.now in
    let i = c.in-Lr in
    let lr = Lr i.rd i.rs1 i.aq i.rl in
    let commits = subst (λ n. CommitsAt (read_sequence x Word i.rs1 (pos 0) lr) (8 + n) Always)
    (sym c.spilled_count.ensures.value) (read_commits x Word i.rs1 (pos 0) lr) in
    record {
      value = c.commit_of_one-in-Lr.ensures.value (read_sequence x Word i.rs1 (pos 0) lr) commits
          ∙ ap (λ (j : Instr). kind_at (instruction_items c.args.address x j) c.args.word) (sym i.is);
    }

pub returns-in-Amo : goal.returns-in-Amo
returns-in-Amo c =
    let x = c.args.scratches.now in
    let i = c.in-Amo in
    let amo = Amo i.op i.rd i.rs1 i.rs2 i.aq i.rl in
    let commits = subst (λ n. CommitsAt (write_sequence x Word i.rs1 (pos 0) amo) (7 + n) Always)
    (sym c.spilled_count-in-Amo.ensures.value) (write_commits x Word i.rs1 (pos 0) amo) in
    record {
      value = c.commit_of_one-in-Amo.ensures.value (write_sequence x Word i.rs1 (pos 0) amo) commits
          ∙ ap (λ (j : Instr). kind_at (instruction_items c.args.address x j) c.args.word) (sym i.is);
    }
