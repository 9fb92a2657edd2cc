-- How large the parts of a rewritten file are.
use Rattle.std.proofs.Common.{◌≡◌, ◌∙◌, ℕ, ◌+◌, ◌*◌, ◌/◌, ◌-◌, ◌^◌, ◌≤◌, ◌&&◌, Bool, true, false, not, if◌then◌else◌, nat_le, List, [], ◌∷◌, ◌++◌, length, length-append, map, refl, sym, ap, arith}
use Rattle.std.specs.List.{flat_map}
use Rattle.std.proofs.lemmas.Bool.{and_from, and_parts, le-leb, leb-true, lt-ltb, ltb-false}
use Rattle.std.proofs.lemmas.List.{length-map}
use Rattle.std.proofs.lemmas.List.Folds.{list_all-append}
use Rattle.std.proofs.lemmas.List.Sums.{sum_by-append, sum_by-cons}
use Rattle.elf32_read.specs.Elf.{Elf, Segment, are_known_flags, are_placed, is_placed, is_in_limits, segments_size, sections_size}
use Rattle.exec_map.specs.Contents.{is_writable}
use Rattle.exec_map.specs.Refusals.{IsAcceptable, has_memory, lines_of, lines_of_all}
use Rattle.templates.specs.declared.plans.PlanEntry.{PlanEntry}
use Rattle.jump_map.specs.Image.{Cell, image_base, most_words}
use Rattle.rewriter.specs.RewrittenFile.{word_bytes, entry_bytes, plan_bytes, mapping_bytes, map_bytes, code_bytes, without_execution, segment_with, elf_of_parts}

-- so many bytes for each of so many
sizes : {X : Type 0} (f : X → List ℕ) (n : ℕ) → ((x : X) → length (f x) ≡ n) → (xs : List X)
    → length (flat_map f xs) ≡ n * length xs
sizes f n each [] = omega arith
sizes f n each (x ∷ xs) =
    let one = each x in
    let more = sizes f n each xs in
    let both = length-append (f x) (flat_map f xs) in
    grind arith

word_size : (w : ℕ) → length (word_bytes w) ≡ 4
word_size w = refl

pub plan_size : (plan : List PlanEntry) → length (plan_bytes plan) ≡ 8 * length plan
plan_size plan = sizes entry_bytes 8 (λ e. refl) plan

pub map_size : (image : List Cell) (plan : List PlanEntry)
    → length (map_bytes image plan) ≡ 8 * length plan
map_size image plan = sizes (mapping_bytes image) 8 (λ e. refl) plan

pub code_size : (image : List Cell) → length (code_bytes image) ≡ 4 * length image
code_size image = sizes (λ (cell : Cell). word_bytes cell.word) 4 (λ cell. word_size cell.word) image

pub plan_few : (bytes : List ℕ) (plan given : List PlanEntry) → bytes ≡ plan_bytes given
    → given ≡ plan → length plan ≤ most_words → length bytes ≤ 2 ^ 25
plan_few bytes plan given made same few =
    let size = plan_size given in
    let one = ap length made in
    let other = ap length same in
    omega (arith, size, one, other, few)

pub map_few : (bytes : List ℕ) (image : List Cell) (plan given : List PlanEntry)
    → bytes ≡ map_bytes image given → given ≡ plan → length plan ≤ most_words → length bytes ≤ 2 ^ 25
map_few bytes image plan given made same few =
    let size = map_size image given in
    let one = ap length made in
    let other = ap length same in
    omega (arith, size, one, other, few)

pub code_few : (bytes : List ℕ) (image given : List Cell) → bytes ≡ code_bytes given
    → given ≡ image → length image ≤ most_words → length bytes ≤ 2 ^ 24
code_few bytes image given made same few =
    let size = code_size given in
    let one = ap length made in
    let other = ap length same in
    omega (arith, size, one, other, few)

-- ---- the limits of an executable

-- a segment's bytes are in its lines
one_size : (s : Segment) → is_placed s ≡ true → length s.bytes ≤ 64 * lines_of s
one_size s placed =
    let parts = and_parts (nat_le (length s.bytes) s.memsz) (nat_le (s.vaddr + s.memsz) (2 ^ 32)) placed in
    go (has_memory s) refl (leb-true _ _ parts.0)
  where
    go : (b : Bool) → has_memory s ≡ b → length s.bytes ≤ s.memsz
        → length s.bytes ≤ 64 * (if b then (s.vaddr + s.memsz + 63) / 64 - s.vaddr / 64 else 0)
    go true e low = omega (arith, low)
    go false e low = omega (arith, low, none)
      where
        none : s.memsz ≡ 0
        none = let low = ltb-false 0 s.memsz e in omega (arith, low)

-- the bytes of all are in the lines of those that pass a test, and of the others
both_sizes : (ss : List Segment) → are_placed ss ≡ true
    → segments_size ss
    ≤ 64 * (lines_of_all is_writable ss + lines_of_all (λ s. not (is_writable s)) ss)
both_sizes [] placed = omega arith
both_sizes (s ∷ ss) placed =
    let parts = and_parts (is_placed s) (are_placed ss) placed in
    let one = one_size s parts.0 in
    let more = both_sizes ss parts.1 in
    let size = sum_by-cons (λ (x : Segment). length x.bytes) s ss in
    let shared = sum_by-cons (λ (x : Segment). if is_writable x then lines_of x else 0) s ss in
    let read = sum_by-cons (λ (x : Segment). if not (is_writable x) then lines_of x else 0) s ss in
    let either = go (is_writable s) (lines_of s) in
    omega (arith, one, more, size, shared, read, either)
  where
    go : (b : Bool) (n : ℕ) → n ≡ (if b then n else 0) + (if not b then n else 0)
    go true n = omega arith
    go false n = omega arith

-- those of an executable that is accepted are few
accepted_size : (e : Elf) → IsAcceptable e → are_placed e.segments ≡ true
    → segments_size e.segments ≤ 2 ^ 25
accepted_size e a placed =
    let all = both_sizes e.segments placed in
    let shared = a.few_shared in
    let read = a.few_read_only in
    omega (arith, all, shared, read)

same_placed : (ss : List Segment) → are_placed (map without_execution ss) ≡ are_placed ss
same_placed [] = refl
same_placed (s ∷ ss) = ap (λ b. is_placed s && b) (same_placed ss)

same_size : (ss : List Segment) → segments_size (map without_execution ss) ≡ segments_size ss
same_size [] = refl
same_size (s ∷ ss) =
    sum_by-cons (λ (x : Segment). length x.bytes) (without_execution s) (map without_execution ss)
    ∙ ap (λ n. length s.bytes + n) (same_size ss)
    ∙ sym (sum_by-cons (λ (x : Segment). length x.bytes) s ss)

pub in_limits : (original : Elf) (entry : ℕ) (plan addresses code : List ℕ) → IsAcceptable original
    → are_known_flags original.flags ≡ true → are_placed original.segments ≡ true
    → length plan ≤ 2 ^ 25 → length addresses ≤ 2 ^ 25 → length code ≤ 2 ^ 24
    → is_in_limits (elf_of_parts original entry plan addresses code) ≡ true
in_limits original entry plan addresses code a known placed few_plan few_map few_code =
    let old = original.segments in
    let more : List Segment = segment_with code ∷ [] in
    let count : length (map without_execution old ++ more) ≡ length old + 1 =
    length-append (map without_execution old) more ∙ ap (λ n. n + 1) (length-map old without_execution) in
    let few : length old ≤ 999 = a.few_segments in
    let here : is_placed (segment_with code) ≡ true =
    and_from _ _ (le-leb (length code) (length code) (omega arith)) (le-leb (image_base + length code) (2 ^ 32) (omega (arith, few_code))) in
    let all_placed : are_placed (map without_execution old ++ more) ≡ true =
    list_all-append is_placed (map without_execution old) more
    ∙ and_from _ _ (same_placed old ∙ placed) (and_from _ _ here refl) in
    let size : segments_size (map without_execution old ++ more) ≡ segments_size old + (0 + length code) =
    sum_by-append (λ (s : Segment). length s.bytes) (map without_execution old) more
    ∙ ap (λ n. n + (0 + length code)) (same_size old) in
    let low = accepted_size original a placed in
    let e = elf_of_parts original entry plan addresses code in
    let rest : sections_size e.sections ≡ length plan + length addresses = omega arith in
    and_from _ _ (lt-ltb 0 (length (map without_execution old ++ more)) (omega (arith, count)))
    (and_from _ _ (le-leb (length (map without_execution old ++ more)) 1000 (omega (arith, count, few)))
    (and_from _ _ refl (and_from _ _ known (and_from _ _ all_placed
    (le-leb (segments_size e.segments + sections_size e.sections) (2 ^ 30)
    (omega (arith, size, rest, low, few_plan, few_map, few_code)))))))
