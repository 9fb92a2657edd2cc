-- A search of the program headers from the first on.
use Rattle.std.proofs.Common.{◌≡◌, ℕ, ◌+◌, ◌<◌, ◌≤◌, Bool, true, false, ltb, inl, inr, Some, None, List, subst, length, get_or, sym, ap, ◌∙◌, arith}
use Rattle.std.specs.Prelude.{position}
use Rattle.std.specs.List.{position_or_len}
use Rattle.std.proofs.lemmas.Bool.{cases_lt, cond-true, cond-false, lt-ltb, le-ltb}
use Rattle.std.proofs.lemmas.List.FromFn.{get_or-map-range_with_len, length-map-range_with_len}
use Rattle.std.proofs.lemmas.List.Sums.{position_or_len_is, fails_before_first}
use Rattle.elf32_read.specs.declared.headers.ProgramHeader.{ProgramHeader}
use Rattle.elf32_read.specs.Fields.{file_header, program_header, program_headers}
use Rattle.elf32_read.specs.Judging.{NoHeader}

-- no header before this one passes the test
pub record NoneBefore (file : List ℕ) (test : ProgramHeader → Bool) (index : ℕ) : Type 0 where
  pub fails : (k : ℕ) → k < index → test (program_header file k) ≡ false

header_is : (file : List ℕ) (k : ℕ) (d : ProgramHeader) → k < (file_header file).e_phnum
    → get_or (program_headers file) k d ≡ program_header file k
header_is file k d low = get_or-map-range_with_len (program_header file) 0 (file_header file).e_phnum k k d low (omega arith)

count_is : (file : List ℕ) → length (program_headers file) ≡ (file_header file).e_phnum
count_is file = length-map-range_with_len (program_header file) 0 (file_header file).e_phnum

pub found : (file : List ℕ) (test : ProgramHeader → Bool) (index : ℕ) (h : ProgramHeader) (b : Bool)
    → index < (file_header file).e_phnum → h ≡ program_header file index → b ≡ test h → b ≡ true
    → NoneBefore file test index → Some index ≡ position test (program_headers file)
found file test index h b low is passes true_is before =
    let hs = program_headers file in
    let count = count_is file in
    let at : position_or_len test hs ≡ index =
    position_or_len_is test hs index h (omega arith)
    (λ k less. ap test (header_is file k h (omega arith)) ∙ before.fails k less)
    (λ _. ap test (header_is file index h low ∙ sym is) ∙ sym passes ∙ true_is) in
    sym (cond-true (ltb (position_or_len test hs) (length hs)) (Some (position_or_len test hs)) None (lt-ltb _ _ (omega arith)) ∙ ap Some at)

pub nowhere : (file : List ℕ) (test : ProgramHeader → Bool) (index : ℕ)
    → (file_header file).e_phnum ≤ index → NoneBefore file test index
    → None ≡ position test (program_headers file)
nowhere file test index high before =
    let hs = program_headers file in
    let count = count_is file in
    let d = program_header file 0 in
    let at : position_or_len test hs ≡ length hs =
    position_or_len_is test hs (length hs) d (omega arith)
    (λ k less. ap test (header_is file k d (omega arith)) ∙ before.fails k (omega arith))
    (λ less. absurd (omega arith)) in
    sym (cond-false (ltb (position_or_len test hs) (length hs)) (Some (position_or_len test hs)) None (le-ltb _ _ (omega arith)))

pub none_before : (file : List ℕ) (test : ProgramHeader → Bool) → NoneBefore file test 0
none_before file test = record { fails = λ k low. absurd (omega arith) }

pub one_more : (file : List ℕ) (test : ProgramHeader → Bool) (index : ℕ) (h : ProgramHeader) (b : Bool)
    → h ≡ program_header file index → b ≡ test h → b ≡ false
    → NoneBefore file test index → NoneBefore file test (index + 1)
one_more file test index h b is fails false_is before = record {
  fails = λ k low.
      elim (cases_lt k index) [
        | inl less ↦ before.fails k less
        | inr le ↦
            let same : index ≡ k = omega arith in
            subst (λ n. test (program_header file n) ≡ false) same (ap test (sym is) ∙ sym fails ∙ false_is)
      ];
}

-- where the search finds none, no header of the table passes
pub none_in_table : (file : List ℕ) (test : ProgramHeader → Bool) → position test (program_headers file) ≡ None
    → NoHeader file test
none_in_table file test none k low =
    let hs = program_headers file in
    let count = count_is file in
    elim (cases_lt (position_or_len test hs) (length hs)) [
      | inl less ↦
          let some : position test hs ≡ Some (position_or_len test hs) = cond-true (ltb (position_or_len test hs) (length hs)) (Some (position_or_len test hs)) None (lt-ltb _ _ less) in
          absurd (cc)
      | inr le ↦
          ap test (sym (header_is file k (program_header file k) low))
          ∙ fails_before_first test hs k (program_header file k) (omega arith)
    ]
