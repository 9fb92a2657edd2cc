-- The words of an entry, and the lines of its words.
use Rattle.std.proofs.Common.{◌≡◌, ℕ, zero, suc, ◌+◌, ◌-◌, ◌<◌, ◌≤◌, List, [], ◌∷◌, ◌++◌, length, drop, Option, Some, None, refl, sym, ap, ◌∙◌, subst, arith, get_or, append_assoc, length-append}
use Rattle.std.specs.Prelude.{option_and_then, Contains}
use Rattle.std.specs.Option.{option_map}
use Rattle.elf32_read.specs.Elf.{Elf}
use Rattle.exec_map.specs.Contents.{program_of}
use Rattle.rv32_decode.specs.declared.Instr.{Instr}
use Rattle.rv32_program.specs.Program.{Program}
use Rattle.templates.specs.declared.places.Part.{Part}
use Rattle.templates.specs.declared.places.Part.TheVariants.{Single, Head, Fast, Fallback}
use Rattle.templates.specs.declared.places.Place.{Place}
use Rattle.templates.specs.declared.plans.PlanEntry.{PlanEntry}
use Rattle.templates.specs.Sequences.{SequenceItem, items_of, items_in, batch_sequence}
use Rattle.jump_map.specs.Image.{Cell, placed_items, part_of_entry, address_in, entry_items, plan_items}
use Rattle.code_view.specs.Code.{cell_with, cell_line, place_line, word_line, word_lines, words_of, entry_text, entries_text}

-- 1. The number of an entry's words

placed_length : (address : ℕ → ℕ) (part : Part) (k : ℕ) (items : List SequenceItem)
    → length (placed_items address part k items) ≡ length items
placed_length address part k [] = refl
placed_length address part k (i ∷ is) = let more = placed_length address part (k + 1) is in omega arith

part_length : (p : Program) (e : PlanEntry) (part : Part)
    → length (part_of_entry p e part) ≡ length (items_in p.code e part)
part_length p e part = placed_length (address_in e part) part 0 (items_in p.code e part)

-- those of its batch, and those of its single sequence
pub entry_count : (p : Program) (e : PlanEntry)
    → words_of p e ≡ length (batch_sequence p.code e) + length (items_of e (p.code e.address))
entry_count p e =
    let whole = length-append (part_of_entry p e Head)
    (part_of_entry p e Fast ++ (part_of_entry p e Fallback ++ part_of_entry p e Single)) in
    let behind = length-append (part_of_entry p e Fast) (part_of_entry p e Fallback ++ part_of_entry p e Single) in
    let last = length-append (part_of_entry p e Fallback) (part_of_entry p e Single) in
    let batch = length-append (items_in p.code e Head) (items_in p.code e Fast ++ items_in p.code e Fallback) in
    let two = length-append (items_in p.code e Fast) (items_in p.code e Fallback) in
    let head = part_length p e Head in
    let fast = part_length p e Fast in
    let fallback = part_length p e Fallback in
    let single : length (part_of_entry p e Single) ≡ length (items_of e (p.code e.address)) = part_length p e Single in
    omega (arith, whole, behind, last, batch, two, head, fast, fallback, single)

-- by code that is the program's
pub count_by : (p : Program) (e : PlanEntry) (code : ℕ → Option Instr) (o : Option Instr) (batch single : ℕ)
    → p.code ≡ code
    → o ≡ code e.address → batch ≡ length (batch_sequence code e) → single ≡ length (items_of e o)
    → batch + single ≡ words_of p e
count_by p e code o batch single same at b s =
    let count = entry_count p e in
    let all = ap (λ c. length (batch_sequence c e)) same in
    let own = ap (λ x. length (items_of e x)) (at ∙ ap (λ c. c e.address) (sym same)) in
    omega (arith, count, all, own, b, s)

-- 2. The line of a word

pub line_none : (p : Program) (es : List PlanEntry) (at : ℕ) (o : Option Cell)
    → option_map (λ c. c.word) o ≡ None → cell_line p es at o ≡ []
line_none p es at None h = refl
line_none p es at (Some c) h = let g : Some c.word ≡ None = h in absurd (cc)

pub line_some : (p : Program) (es : List PlanEntry) (at word : ℕ) (place : Option Place) (o : Option Cell)
    → option_map (λ c. c.word) o ≡ Some word → place ≡ option_and_then (λ c. c.place) o
    → cell_line p es at (cell_with word place) ≡ cell_line p es at o
line_some p es at word place None h k = let g : None ≡ Some word = h in absurd (cc)
line_some p es at word place (Some c) h k =
    let g : Some c.word ≡ Some word = h in
    let same : word ≡ c.word = cc in
    λ t. cell_line p es at (cell_with (same t) (k t))

-- 3. Past one word or one entry more

pub past_word : (p : Program) (own : List PlanEntry) (image : List Cell) (n k words : ℕ) (old new whole : List ℕ)
    → k < words
    → new ≡ old ++ word_line p own image (n + k)
    → old ++ word_lines p own image (n + k) (words - k) ≡ whole
    → new ++ word_lines p own image (n + (k + 1)) (words - (k + 1)) ≡ whole
past_word p own image n k words old new whole lt is h =
    let more : words - k ≡ suc (words - (k + 1)) = omega (arith, lt) in
    let next : n + (k + 1) ≡ n + k + 1 = omega arith in
    (λ t. is t ++ word_lines p own image (next t) (words - (k + 1)))
    ∙ append_assoc old (word_line p own image (n + k)) (word_lines p own image (n + k + 1) (words - (k + 1)))
    ∙ ap (λ m. old ++ word_lines p own image (n + k) m) (sym more) ∙ h

-- the first of what is left
pub front : {X : Type 0} (xs : List X) (i : ℕ) (x : X) → i < length xs → x ≡ get_or xs i x
    → drop i xs ≡ x ∷ drop (i + 1) xs
front [] i x lt is = absurd (omega arith)
front (y ∷ ys) zero x lt is = λ t. sym is t ∷ ys
front (y ∷ ys) (suc i) x lt is =
    let same : suc i + 1 ≡ suc (i + 1) = omega arith in
    front ys i x (omega arith) is ∙ ap (λ j. x ∷ drop j (y ∷ ys)) (sym same)

pub none_left : {X : Type 0} (xs : List X) (i : ℕ) → length xs ≤ i → drop i xs ≡ []
none_left [] zero h = refl
none_left [] (suc i) h = refl
none_left (y ∷ ys) zero h = absurd (omega arith)
none_left (y ∷ ys) (suc i) h = none_left ys i (omega arith)

-- entries that are lent are those of the plan
pub front_of : (xs ys : List PlanEntry) (i : ℕ) (e : PlanEntry) → ys ≡ xs → i < length ys → e ≡ get_or ys i e
    → drop i xs ≡ e ∷ drop (i + 1) xs
front_of xs ys i e same lt is = subst (λ zs. drop i zs ≡ e ∷ drop (i + 1) zs) same (front ys i e lt is)

pub member_of : (xs ys : List PlanEntry) (i : ℕ) (e : PlanEntry) → ys ≡ xs → i < length ys → e ≡ get_or ys i e
    → Contains xs e
member_of xs ys i e same lt is = subst (λ zs. Contains zs e) same (i, lt, sym is)

-- the line of an entry's place, and those of its words
pub entry_lines : (elf : Elf) (image : List Cell) (n : ℕ) (e : PlanEntry) (own : List PlanEntry) (words : ℕ)
    (old mid new : List ℕ)
    → own ≡ e ∷ [] → words ≡ words_of (program_of elf) e → mid ≡ old ++ place_line elf e
    → new ≡ mid ++ word_lines (program_of elf) own image n words → new ≡ old ++ entry_text elf image n e
entry_lines elf image n e own words old mid new one count place is =
    is ∙ (λ t. place t ++ word_lines (program_of elf) (one t) image n (count t))
    ∙ append_assoc old (place_line elf e) (word_lines (program_of elf) (e ∷ []) image n (words_of (program_of elf) e))

pub past_entry : (elf : Elf) (image : List Cell) (n m : ℕ) (es : List PlanEntry) (i : ℕ) (e : PlanEntry)
    (old new whole : List ℕ)
    → drop i es ≡ e ∷ drop (i + 1) es → m ≡ n + words_of (program_of elf) e
    → new ≡ old ++ entry_text elf image n e
    → old ++ entries_text elf image n (drop i es) ≡ whole
    → new ++ entries_text elf image m (drop (i + 1) es) ≡ whole
past_entry elf image n m es i e old new whole left long is h =
    (λ t. is t ++ entries_text elf image (long t) (drop (i + 1) es))
    ∙ append_assoc old (entry_text elf image n e)
    (entries_text elf image (n + words_of (program_of elf) e) (drop (i + 1) es))
    ∙ ap (λ xs. old ++ entries_text elf image n xs) (sym left) ∙ h

pub count_past : (p : Program) (n m total : ℕ) (es : List PlanEntry) (i : ℕ) (e : PlanEntry)
    → drop i es ≡ e ∷ drop (i + 1) es → m ≡ n + words_of p e
    → n + length (plan_items p (drop i es)) ≡ total → m + length (plan_items p (drop (i + 1) es)) ≡ total
count_past p n m total es i e left long h =
    let both = length-append (entry_items p e) (plan_items p (drop (i + 1) es)) in
    let same : length (plan_items p (drop i es))
    ≡ length (entry_items p e ++ plan_items p (drop (i + 1) es)) = ap (λ xs. length (plan_items p xs)) left in
    omega (arith, both, same, long, h)
