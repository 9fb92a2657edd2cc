-- What is told of processors: how many bytes they printed, and how each ended.
use Rattle.std.specs.Prelude.{ℕ, ◌+◌, ◌==◌, Bool, false, if◌then◌else◌, List, [], ◌∷◌, ◌++◌, codes}
use Rattle.std.specs.Fmt.{decimal}
use Rattle.std.specs.List.{list_all}
use Rattle.rv32_program.specs.declared.Exit.{Exit}
use Rattle.rv32_program.specs.declared.Exit.TheVariants.{Code, Ebreak, Illegal, Misaligned, Access, Fetch}
use Rattle.rv32_program.specs.declared.End.{End}
use Rattle.rv32_program.specs.declared.End.TheVariants.{Exited, Stopped}
use Rattle.text_output.specs.Text.{hex8}

abbrev pub exit_text : Exit → List ℕ
exit_text (Code c) = codes "exit " ++ decimal c
exit_text (Ebreak a) = codes "ebreak " ++ hex8 a
exit_text (Illegal a) = codes "illegal " ++ hex8 a
exit_text (Misaligned a) = codes "misaligned " ++ hex8 a
exit_text (Access a) = codes "access " ++ hex8 a
exit_text (Fetch a) = codes "fetch " ++ hex8 a

abbrev pub end_text : End → List ℕ
end_text (Exited e) = exit_text e
end_text (Stopped budget) = codes "stopped " ++ decimal budget

-- a line for each processor, from this number on
abbrev pub processor_lines : ℕ → List End → List ℕ
processor_lines p [] = []
processor_lines p (e ∷ es) =
    codes "processor " ++ (decimal p ++ (codes " " ++ (end_text e
    ++ (codes "\n" ++ processor_lines (p + 1) es))))

-- what stands before the bytes printed: how many there are
abbrev pub outcome_head : ℕ → List ℕ
outcome_head n = codes "output " ++ (decimal n ++ codes "\n")

-- the processor ended by itself, with code 0
abbrev pub is_success : End → Bool
is_success (Exited (Code c)) = c == 0
is_success e = false

-- 0 where every processor ended so, else 1
abbrev pub status_by : List End → ℕ
status_by ends = if list_all is_success ends then 0 else 1
