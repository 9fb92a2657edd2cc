-- The processors at the start of a run.
use Rattle.std.proofs.Common.{◌≡◌, ℕ, ap, ◌∙◌, Result, Ok, Err, IfOk}
use Rattle.elf32_read.specs.Elf.{Elf}
use Rattle.exec_map.specs.Contents.{program_of}
use Rattle.block_layout.specs.Layout.{Shape}
use Rattle.rv32_program.specs.Program.{Program}
use Rattle.rv32_step.specs.OneMemory.{Original, opening}
use Rattle.one_memory.specs.Machine.{Parts, original_of, state_of}

abbrev pub original_on : Elf → Shape → ℕ → Original
original_on e layout nodes = record { program = program_of e; layout = layout; nodes = nodes }

same_original : (o : Original) (e : Elf) (layout : Shape) (nodes : ℕ) → o.program ≡ program_of e → o.layout ≡ layout → o.nodes ≡ nodes → o ≡ original_on e layout nodes
same_original o e layout nodes program laid_out count =
    let one : o ≡ record o { program = program_of e } = ap (λ (p : Program). let x : Original = record o { program = p } in x) program in
    let two : record o { program = program_of e } ≡ record o { program = program_of e; layout = layout } = ap (λ (l : Shape). let x : Original = record o { program = program_of e; layout = l } in x) laid_out in
    one ∙ two ∙ ap (λ (n : ℕ). let x : Original = record { program = program_of e; layout = layout; nodes = n } in x) count

pub started : {E : Type 0} (m : Result Parts E) (e : Elf) (layout : Shape) (nodes : ℕ) → IfOk m (λ m. (original_of m).program ≡ program_of e) → IfOk m (λ m. (original_of m).layout ≡ layout) → IfOk m (λ m. (original_of m).nodes ≡ nodes) → IfOk m (λ m. original_of m ≡ original_on e layout nodes)
started (Ok m) e layout nodes p l n = same_original (original_of m) e layout nodes p l n
started (Err x) e layout nodes p l n = tt

pub opened : {E : Type 0} (m : Result Parts E) (o : Original) → IfOk m (λ m. state_of m ≡ opening (original_of m)) → IfOk m (λ m. original_of m ≡ o) → IfOk m (λ m. state_of m ≡ opening o)
opened (Ok m) o s is = s ∙ ap opening is
opened (Err x) o s is = tt
