-- The executable of a text in which no line breaks a rule.
use Rattle.std.proofs.Common.{◌≡◌, ℕ, List, [], ◌++◌, map, true, refl, sym, ap, ◌∙◌, subst}
use Rattle.std.specs.Prelude.{All}
use Rattle.std.specs.List.{concat}
use Rattle.elf32_read.specs.Elf.{is_in_limits}
use Rattle.rv32_lines.specs.Statements.{Statement, IsReading}
use Rattle.rv32_lines.specs.Reading.{AreReadStatements}
use Rattle.rv32_lines.specs.declared.statements.Statement.{Statement as ReadStatement}
use Rattle.rv32_asm.specs.declared.assembled.AssembledSegment.{AssembledSegment as Part}
use Rattle.rv32_asm.specs.declared.labels.Labels.{Labels}
use Rattle.rv32_asm.specs.Rules.{AreSound, IsEmpty}
use Rattle.rv32_asm.specs.Assembling.{AreBytesBehind, IsAssembled, entry_name, pieces_of}
use Rattle.rv32_asm.specs.Pieces.{IsWithin, segment_of, elf_of}
use Rattle.rv32_asm.specs.Standing.{IsFoundEntry, AreFitting, ArePieces}
use Rattle.rv32_asm.proofs.Sizing.{fitting, in_limits, entry_is}

pub record Joined (text bytes : List ℕ) (pieces : List Part) (entry : ℕ) : Type 0 where
  pub limits : is_in_limits (elf_of entry bytes pieces) ≡ true
  pub within : All (IsWithin bytes) pieces
  pub assembled : IsAssembled text (elf_of entry bytes pieces)

pub joined : (text old bytes : List ℕ) (items : List ReadStatement) (labels : Labels) (all : List Statement)
    (pieces : List Part) (entry : ℕ) → IsReading text all
    → AreReadStatements items all → AreSound all → (IsEmpty all → ⊥) → old ≡ []
    → (appended : List (List ℕ)) × AreBytesBehind all [] all appended × (bytes ≡ old ++ concat appended)
    → ((appended : List (List ℕ)) → AreReadStatements items all → AreSound all → AreFitting all appended
    → ArePieces all appended pieces)
    → IsFoundEntry all (entry_name all) entry → Joined text bytes pieces entry
joined text old bytes items labels all pieces entry reading reads sound some e b p found =
    let appended = b.0 in
    let fit = fitting all [] all appended b.1 in
    let parts = p appended reads sound fit in
    let bytes_are : bytes ≡ concat appended = b.2 ∙ ap (λ t. t ++ concat appended) e in
    let segments_are : map (segment_of bytes) pieces ≡ (pieces_of all appended).segments =
    ap (λ t. map (segment_of t) pieces) bytes_are ∙ parts.segments_are in
    record {
      limits = in_limits all appended entry (map (segment_of bytes) pieces) sound some fit segments_are;
      within = subst (λ t. All (IsWithin t) pieces) (sym bytes_are) parts.within;
      assembled = record {
        statements = all;
        reading = reading;
        sound = sound;
        some = some;
        appended = appended;
        appended_are = b.1;
        segments_are = segments_are;
        entry_is = entry_is all appended (map (segment_of bytes) pieces) entry fit segments_are found;
        flags_are = refl;
        no_sections = refl;
      };
    }
