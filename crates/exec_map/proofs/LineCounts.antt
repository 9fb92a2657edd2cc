-- How many lines the segments of a kind have.
use Rattle.std.proofs.Common.{◌≡◌, ℕ, ◌+◌, ◌<◌, ◌≤◌, Bool, true, false, cond, List, map, length, get_or, take, sym, ap, ◌∙◌, arith}
use mathlib.Core.Bool.{beq}
use Rattle.std.specs.Prelude.{not}
use Rattle.std.proofs.lemmas.Bool.{cond-true}
use Rattle.std.proofs.lemmas.List.{get_or-map, length-map, take-map}
use Rattle.std.proofs.lemmas.List.Sums.{sum_by_more_le}
use Rattle.elf32_read.specs.Elf.{Segment}
use Rattle.elf32_read.specs.Segments.{segment_of}
use Rattle.elf32_read.specs.declared.Segment as declared
use Rattle.exec_map.specs.Contents.{is_writable}
use Rattle.exec_map.specs.Refusals.{lines_of, lines_of_all}
use Rattle.exec_map.specs.Index.{is_of_kind}

pub of_kind : (kind : Bool) (s : declared.Segment) (b : Bool) → b ≡ is_writable (segment_of s) → beq b kind ≡ true → is_of_kind kind (segment_of s) ≡ true
of_kind true s true is same = sym is
of_kind true s false is same = absurd (cc)
of_kind false s true is same = absurd (cc)
of_kind false s false is same = ap not (sym is)

pub some_more : (test : Segment → Bool) (xs : List declared.Segment) (i : ℕ) (d : declared.Segment) → i < length xs → test (segment_of (get_or xs i d)) ≡ true → lines_of_all test (map segment_of (take i xs)) + lines_of (segment_of (get_or xs i d)) ≤ lines_of_all test (map segment_of xs)
some_more test xs i d lt here =
    let f : Segment → ℕ = λ s. cond (test s) (lines_of s) 0 in
    let le = sum_by_more_le f (map segment_of xs) i (segment_of d) (omega (arith, length-map xs segment_of)) in
    let at : f (get_or (map segment_of xs) i (segment_of d)) ≡ lines_of (segment_of (get_or xs i d)) = ap f (get_or-map segment_of xs i d (segment_of d) lt) ∙ cond-true _ _ _ here in
    let front : lines_of_all test (take i (map segment_of xs)) ≡ lines_of_all test (map segment_of (take i xs)) = ap (lines_of_all test) (take-map segment_of i xs) in
    omega (arith, le)

pub kind_lines : (kind : Bool) (xs : List declared.Segment) (i : ℕ) (d : declared.Segment) (b : Bool) (n : ℕ) → i < length xs → b ≡ is_writable (segment_of (get_or xs i d)) → beq b kind ≡ true → n ≡ lines_of (segment_of (get_or xs i d)) → lines_of_all (is_of_kind kind) (map segment_of (take i xs)) + n ≤ lines_of_all (is_of_kind kind) (map segment_of xs)
kind_lines kind xs i d b n lt is same n_is = let more = some_more (is_of_kind kind) xs i d lt (of_kind kind (get_or xs i d) b is same) in omega (arith, more)
