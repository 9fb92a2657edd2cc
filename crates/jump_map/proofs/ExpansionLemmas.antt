-- The words of a plan, entry by entry.
use Rattle.std.proofs.Common.{◌≡◌, ℕ, zero, suc, ◌+◌, ◌*◌, ◌<◌, ◌≤◌, ◌==◌, Bool, true, false, cond, List, [], ◌∷◌, ◌++◌, length, get_or, take, drop, map, Option, Some, refl, sym, ap, ◌∙◌, subst, arith, append_assoc, length-append}
use Rattle.std.specs.Prelude.{unwrap_or}
use Rattle.std.specs.List.{list_all}
use Rattle.std.specs.Option.{option_map}
use Rattle.std.proofs.lemmas.List.{length-map}
use Rattle.rv32_decode.specs.declared.Instr.{Instr}
use Rattle.templates.specs.rv32_program.Program.{Program}
use Rattle.templates.specs.declared.code.CodeWord.{CodeWord}
use Rattle.templates.specs.declared.plans.PlanEntry.{PlanEntry}
use Rattle.templates.specs.declared.places.Part.{Part}
use Rattle.templates.specs.declared.places.Part.TheVariants.{Single, Head, Fast, Fallback}
use Rattle.templates.specs.declared.words.Item.{Item}
use Rattle.templates.specs.Code.{HasCode, code_of}
use Rattle.templates.specs.Plans.{AscendsFrom}
use Rattle.templates.specs.Sequences.{ItemWord, SequenceItem, items_of, items_in, batch_sequence}
use Rattle.templates.specs.Expansion.{reads, words_of, Appends}
use Rattle.jump_map.specs.declared.heads.PlaceStart.{PlaceStart}
use Rattle.jump_map.specs.Image.{Cell, ImageWord, PlacedItem, is_word, read_cell, placed_items, address_in, part_of_entry, entry_items, plan_items, words_at, words_before, head_of, image_words, off_word, address_of_word, most_words, HasRunsOf, IsExpansion, HasTooManyWords}
use Rattle.jump_map.specs.HeadsValue.{HeadsValue}
use Rattle.jump_map.specs.Heads.{program_with, start, start_of, head_start, starts_from, end_from, head_address}
use Rattle.jump_map.specs.Laying.{laid_words}
use Rattle.jump_map.specs.Building.{batch_items, HasRunOf, AddsPart, AddsItems}
use Rattle.jump_map.proofs.HeadLemmas.{end_more}
use Rattle.jump_map.proofs.LayingLemmas.{laid_same, placed_length, at_append, words_length}

-- the first of what is left
pub front : {X : Type 0} (xs : List X) (i : ℕ) (x : X) → i < length xs → x ≡ get_or xs i x → drop i xs ≡ x ∷ drop (i + 1) xs
front [] i x lt is = absurd (omega arith)
front (y ∷ ys) zero x lt is = λ t. sym is t ∷ ys
front (y ∷ ys) (suc i) x lt is =
    let same : suc i + 1 ≡ suc (i + 1) = omega arith in
    front ys i x (omega arith) is ∙ ap (λ j. x ∷ drop j (y ∷ ys)) (sym same)

pub none_left : {X : Type 0} (xs : List X) (i : ℕ) → length xs ≤ i → drop i xs ≡ []
none_left [] zero h = refl
none_left [] (suc i) h = refl
none_left (y ∷ ys) zero h = absurd (omega arith)
none_left (y ∷ ys) (suc i) h = none_left ys i (omega arith)

-- the words of an entry are those of its batch, and its single sequence
pub entry_parts : (p : Program) (e : PlanEntry) → entry_items p e ≡ batch_items p e ++ part_of_entry p e Single
entry_parts p e =
    let head = part_of_entry p e Head in
    let fast = part_of_entry p e Fast in
    let fallback = part_of_entry p e Fallback in
    let single = part_of_entry p e Single in
    ap (λ xs. head ++ xs) (sym (append_assoc fast fallback single)) ∙ sym (append_assoc head (fast ++ fallback) single)

part_length : (p : Program) (e : PlanEntry) (part : Part) → length (part_of_entry p e part) ≡ length (items_in p.code e part)
part_length p e part = placed_length (address_in e part) part 0 (items_in p.code e part)

pub batch_count : (p : Program) (e : PlanEntry) → length (batch_items p e) ≡ length (batch_sequence p.code e)
batch_count p e =
    let placed_both = length-append (part_of_entry p e Head) (part_of_entry p e Fast ++ part_of_entry p e Fallback) in
    let placed_last = length-append (part_of_entry p e Fast) (part_of_entry p e Fallback) in
    let both = length-append (items_in p.code e Head) (items_in p.code e Fast ++ items_in p.code e Fallback) in
    let last = length-append (items_in p.code e Fast) (items_in p.code e Fallback) in
    let head = part_length p e Head in
    let fast = part_length p e Fast in
    let fallback = part_length p e Fallback in
    omega (arith, placed_both, placed_last, both, last, head, fast, fallback)

-- how many words an entry has
pub entry_count : (p : Program) (e : PlanEntry)
    → length (entry_items p e) ≡ length (batch_sequence p.code e) + length (items_of e (p.code e.address))
entry_count p e =
    let parts = ap (λ xs. length xs) (entry_parts p e) in
    let both = length-append (batch_items p e) (part_of_entry p e Single) in
    let batch = batch_count p e in
    let single : length (part_of_entry p e Single) ≡ length (items_of e (p.code e.address)) = part_length p e Single in
    omega (arith, parts, both, batch, single)

pub entry_length : (ws : List CodeWord) (e : PlanEntry) (o : Option Instr) → o ≡ code_of ws e.address
    → length (batch_sequence (code_of ws) e) + length (items_of e o) ≡ length (entry_items (program_with ws) e)
entry_length ws e o is =
    ap (λ x. length (batch_sequence (code_of ws) e) + length (items_of e x)) is ∙ sym (entry_count (program_with ws) e)

-- the run of an entry of the plan
pub run_of : (ws : List CodeWord) (es : List PlanEntry) (i : ℕ) (e : PlanEntry) → HasRunsOf ws es → i < length es
    → e ≡ get_or es i e → HasRunOf ws e
run_of ws es i e h lt is = h.each e (i, lt, sym is)

-- past one entry more
pub heads_step : (p : Program) (es : List PlanEntry) (i : ℕ) (e : PlanEntry) (n s m : ℕ) (old new whole : List PlaceStart)
    → drop i es ≡ e ∷ drop (i + 1) es → s ≡ n + length (batch_sequence p.code e) → m ≡ n + length (entry_items p e)
    → old ++ starts_from p n (drop i es) ≡ whole → new ≡ old ++ start e.address n s ∷ []
    → new ++ starts_from p m (drop (i + 1) es) ≡ whole
heads_step p es i e n s m old new whole left single long h is =
    (λ t. is t ++ starts_from p (long t) (drop (i + 1) es))
    ∙ (λ t. (old ++ start e.address n (single t) ∷ []) ++ starts_from p (n + length (entry_items p e)) (drop (i + 1) es))
    ∙ append_assoc old (start e.address n (n + length (batch_sequence p.code e)) ∷ []) (starts_from p (n + length (entry_items p e)) (drop (i + 1) es))
    ∙ ap (λ xs. old ++ starts_from p n xs) (sym left) ∙ h

pub count_step : (p : Program) (es : List PlanEntry) (i : ℕ) (e : PlanEntry) (n m total : ℕ)
    → drop i es ≡ e ∷ drop (i + 1) es → m ≡ n + length (entry_items p e)
    → n + length (plan_items p (drop i es)) ≡ total → m + length (plan_items p (drop (i + 1) es)) ≡ total
count_step p es i e n m total left long h =
    let both = length-append (entry_items p e) (plan_items p (drop (i + 1) es)) in
    let same : length (plan_items p (drop i es)) ≡ length (entry_items p e ++ plan_items p (drop (i + 1) es)) = ap (λ xs. length (plan_items p xs)) left in
    omega (arith, both, same, long, h)

-- an entry's words are among those that are left
pub entry_within : (p : Program) (es : List PlanEntry) (i : ℕ) (e : PlanEntry) (n total : ℕ)
    → drop i es ≡ e ∷ drop (i + 1) es → n + length (plan_items p (drop i es)) ≡ total
    → n + length (entry_items p e) ≤ total
entry_within p es i e n total left h =
    let both = length-append (entry_items p e) (plan_items p (drop (i + 1) es)) in
    let same : length (plan_items p (drop i es)) ≡ length (entry_items p e ++ plan_items p (drop (i + 1) es)) = ap (λ xs. length (plan_items p xs)) left in
    omega (arith, both, same, h)

pub ascends_step : (es : List PlanEntry) (i : ℕ) (e : PlanEntry) (low n s : ℕ) (old new : List PlaceStart)
    → drop i es ≡ e ∷ drop (i + 1) es → AscendsFrom low (drop i es) → new ≡ old ++ start e.address n s ∷ []
    → AscendsFrom (end_from 0 new) (drop (i + 1) es)
ascends_step es i e low n s old new left up is =
    let both : AscendsFrom low (e ∷ drop (i + 1) es) = subst (AscendsFrom low) left up in
    subst (λ x. AscendsFrom x (drop (i + 1) es)) (sym (ap (end_from 0) is ∙ end_more 0 old e.address n s)) both.1

pub cells_step : (p : Program) (head : ℕ → ℕ) (es : List PlanEntry) (i : ℕ) (e : PlanEntry) (n m : ℕ) (old new whole : List ImageWord)
    → drop i es ≡ e ∷ drop (i + 1) es → m ≡ n + length (entry_items p e)
    → old ++ words_at head (address_of_word n) (plan_items p (drop i es)) ≡ whole
    → new ≡ old ++ words_at head (address_of_word n) (entry_items p e)
    → new ++ words_at head (address_of_word m) (plan_items p (drop (i + 1) es)) ≡ whole
cells_step p head es i e n m old new whole left long h is =
    let at : address_of_word m ≡ address_of_word n + 4 * length (entry_items p e) = omega (arith, long) in
    (λ t. is t ++ words_at head (at t) (plan_items p (drop (i + 1) es)))
    ∙ append_assoc old (words_at head (address_of_word n) (entry_items p e)) (words_at head (address_of_word n + 4 * length (entry_items p e)) (plan_items p (drop (i + 1) es)))
    ∙ ap (λ ws. old ++ ws) (sym (at_append head (address_of_word n) (entry_items p e) (plan_items p (drop (i + 1) es))))
    ∙ ap (λ xs. old ++ words_at head (address_of_word n) (plan_items p xs)) (sym left) ∙ h

-- a sequence that was written to an empty list
pub written : (s0 s1 items : List Item) (seq : List SequenceItem) → s0 ≡ [] → Appends s0 s1 seq → items ≡ s1
    → map reads items ≡ words_of seq
written s0 s1 items seq empty a same =
    ap (map reads) (same ∙ a.behind ∙ ap (λ xs. xs ++ a.added) empty) ∙ a.words

pub written_length : (s0 s1 items : List Item) (seq : List SequenceItem) → s0 ≡ [] → Appends s0 s1 seq → items ≡ s1
    → length items ≡ length seq
written_length s0 s1 items seq empty a same =
    sym (length-map items reads) ∙ ap (λ xs. length xs) (written s0 s1 items seq empty a same) ∙ length-map seq (λ i. Some i.what)

-- the first words that were written, and the others
pub reads_front : (items : List Item) (xs ys : List SequenceItem) → map reads items ≡ words_of (xs ++ ys)
    → map reads (take (length xs) items) ≡ words_of xs
reads_front items [] ys h = refl
reads_front [] (x ∷ xs) ys h = let bad : ◌≡◌ {A = List (Option ItemWord)} [] (Some x.what ∷ words_of (xs ++ ys)) = h in absurd (cc)
reads_front (i ∷ is) (x ∷ xs) ys h =
    let whole : reads i ∷ map reads is ≡ Some x.what ∷ words_of (xs ++ ys) = h in
    let first : reads i ≡ Some x.what = cc in
    let more : map reads is ≡ words_of (xs ++ ys) = cc in
    λ t. first t ∷ reads_front is xs ys more t

pub reads_back : (items : List Item) (xs ys : List SequenceItem) → map reads items ≡ words_of (xs ++ ys)
    → map reads (drop (length xs) items) ≡ words_of ys
reads_back items [] ys h = h
reads_back [] (x ∷ xs) ys h = let bad : ◌≡◌ {A = List (Option ItemWord)} [] (Some x.what ∷ words_of (xs ++ ys)) = h in absurd (cc)
reads_back (i ∷ is) (x ∷ xs) ys h =
    let whole : reads i ∷ map reads is ≡ Some x.what ∷ words_of (xs ++ ys) = h in
    let more : map reads is ≡ words_of (xs ++ ys) = cc in
    reads_back is xs ys more

-- a part as it is laid out
pub part_adds : (p : Program) (heads : HeadsValue) (e : PlanEntry) (part : Part) (items : List Item) (old new : List Cell)
    → map reads items ≡ words_of (items_in p.code e part) → AddsPart heads e part items old new
    → AddsItems heads (part_of_entry p e part) old new
part_adds p heads e part items old new reading adds =
    adds
    ∙ ap (λ xs. map read_cell old ++ xs)
    (ap (laid_words (head_address heads) (address_of_word (length old)) (address_in e part) part 0) reading
    ∙ laid_same (head_address heads) (address_of_word (length old)) (address_in e part) part 0 (items_in p.code e part))

pub adds_length : (heads : HeadsValue) (items : List PlacedItem) (old new : List Cell) → AddsItems heads items old new
    → length new ≡ length old + length items
adds_length heads items old new adds =
    let words = words_length (head_address heads) (address_of_word (length old)) items in
    let both = length-append (map read_cell old) (words_at (head_address heads) (address_of_word (length old)) items) in
    let old_read = length-map old read_cell in
    let new_read = length-map new read_cell in
    let all = ap (λ xs. length xs) adds in
    omega (arith, words, both, old_read, new_read, all)

-- words behind others
pub adds_both : (heads : HeadsValue) (xs ys : List PlacedItem) (old mid new : List Cell) → AddsItems heads xs old mid
    → AddsItems heads ys mid new → AddsItems heads (xs ++ ys) old new
adds_both heads xs ys old mid new first second =
    let head = head_address heads in
    let at = address_of_word (length old) in
    let long = adds_length heads xs old mid first in
    let same : address_of_word (length mid) ≡ at + 4 * length xs = omega (arith, long) in
    second ∙ (λ t. first t ++ words_at head (same t) ys)
    ∙ append_assoc (map read_cell old) (words_at head at xs) (words_at head (at + 4 * length xs) ys)
    ∙ ap (λ ws. map read_cell old ++ ws) (sym (at_append head at xs ys))

pub adds_entry : (p : Program) (heads : HeadsValue) (e : PlanEntry) (old mid new : List Cell)
    → AddsItems heads (batch_items p e) old mid → AddsItems heads (part_of_entry p e Single) mid new
    → AddsItems heads (entry_items p e) old new
adds_entry p heads e old mid new first second =
    subst (λ (xs : List PlacedItem). AddsItems heads xs old new) (sym (entry_parts p e))
    (adds_both heads (batch_items p e) (part_of_entry p e Single) old mid new first second)

pub adds_batch : (p : Program) (heads : HeadsValue) (e : PlanEntry) (s0 s1 s2 s3 : List Cell) (hs fs bs : List Item)
    → map reads hs ≡ words_of (items_in p.code e Head) → map reads fs ≡ words_of (items_in p.code e Fast)
    → map reads bs ≡ words_of (items_in p.code e Fallback) → AddsPart heads e Head hs s0 s1 → AddsPart heads e Fast fs s1 s2
    → AddsPart heads e Fallback bs s2 s3 → AddsItems heads (batch_items p e) s0 s3
adds_batch p heads e s0 s1 s2 s3 hs fs bs head fast fallback first second third =
    adds_both heads (part_of_entry p e Head) (part_of_entry p e Fast ++ part_of_entry p e Fallback) s0 s1 s3
    (part_adds p heads e Head hs s0 s1 head first)
    (adds_both heads (part_of_entry p e Fast) (part_of_entry p e Fallback) s1 s2 s3
    (part_adds p heads e Fast fs s1 s2 fast second) (part_adds p heads e Fallback bs s2 s3 fallback third))

pub sequence_count : (code : ℕ → Option Instr) (e : PlanEntry)
    → length (batch_sequence code e) ≡ length (items_in code e Head) + (length (items_in code e Fast) + length (items_in code e Fallback))
sequence_count code e =
    let both = length-append (items_in code e Head) (items_in code e Fast ++ items_in code e Fallback) in
    let last = length-append (items_in code e Fast) (items_in code e Fallback) in
    omega (arith, both, last)

unwrap_step : (b : Bool) (s : PlaceStart) (total l w : ℕ) (o : Option PlaceStart)
    → unwrap_or (option_map (λ x. x.head) o) total ≡ s.head + l + w
    → unwrap_or (option_map (λ x. x.head) (cond b (Some s) o)) total ≡ s.head + cond b 0 (l + w)
unwrap_step true s total l w o h = omega arith
unwrap_step false s total l w o h = omega (arith, h)

number_same : (p : Program) (n total : ℕ) (es : List PlanEntry) (a : ℕ) → total ≡ n + length (plan_items p es)
    → unwrap_or (head_start (starts_from p n es) a) total ≡ n + words_before p es a
number_same p n total [] a h = omega (arith, h)
number_same p n total (e ∷ es) a h =
    let both = length-append (entry_items p e) (plan_items p es) in
    unwrap_step (e.address == a) (start e.address n (n + length (batch_sequence p.code e))) total (length (entry_items p e)) (words_before p es a) (start_of (starts_from p (n + length (entry_items p e)) es) a)
    (number_same p (n + length (entry_items p e)) total es a (omega (arith, h, both)))

pub heads_same : (p : Program) (es : List PlanEntry) (heads : HeadsValue) → heads.starts ≡ starts_from p 1 es
    → heads.total ≡ 1 + length (plan_items p es) → head_address heads ≡ head_of p es
heads_same p es heads s n = λ t a. address_of_word ((ap (λ ss. unwrap_or (head_start ss a) heads.total) s ∙ number_same p 1 heads.total es a n) t)

pub image_length : (p : Program) (es : List PlanEntry) → length (image_words p es) ≡ 1 + length (plan_items p es)
image_length p es = let more = words_length (head_of p es) (address_of_word 1) (plan_items p es) in omega arith

-- word 0, and what follows it
pub first_word : (p : Program) (es : List PlanEntry) (heads : HeadsValue) (cells : List Cell) (c : Cell)
    → heads.starts ≡ starts_from p 1 es → heads.total ≡ 1 + length (plan_items p es)
    → cells ≡ c ∷ [] → read_cell c ≡ off_word
    → map read_cell cells ++ words_at (head_address heads) (address_of_word (length cells)) (plan_items p es) ≡ image_words p es
first_word p es heads cells c s n is off =
    (λ t. map read_cell (is t) ++ words_at (heads_same p es heads s n t) (address_of_word (length (is t))) (plan_items p es))
    ∙ (λ t. off t ∷ words_at (head_of p es) (address_of_word 1) (plan_items p es))

-- the words don't depend on more than the code
items_alike : (p q : Program) → p.code ≡ q.code → (e : PlanEntry) → entry_items p e ≡ entry_items q e
items_alike p q h e = λ t. placed_items (address_in e Head) Head 0 (items_in (h t) e Head)
    ++ (placed_items (address_in e Fast) Fast 0 (items_in (h t) e Fast)
    ++ (placed_items (address_in e Fallback) Fallback 0 (items_in (h t) e Fallback)
    ++ placed_items (address_in e Single) Single 0 (items_in (h t) e Single)))

before_alike : (p q : Program) → p.code ≡ q.code → (es : List PlanEntry) (a : ℕ) → words_before p es a ≡ words_before q es a
before_alike p q h [] a = refl
before_alike p q h (e ∷ es) a = λ t. cond (e.address == a) 0 (length (items_alike p q h e t) + before_alike p q h es a t)

plan_alike : (p q : Program) → p.code ≡ q.code → (es : List PlanEntry) → plan_items p es ≡ plan_items q es
plan_alike p q h [] = refl
plan_alike p q h (e ∷ es) = λ t. items_alike p q h e t ++ plan_alike p q h es t

pub words_alike : (p q : Program) → p.code ≡ q.code → (es : List PlanEntry) → image_words p es ≡ image_words q es
words_alike p q h es =
    λ t. off_word ∷ words_at (λ a. address_of_word (1 + before_alike p q h es a t)) (address_of_word 1) (plan_alike p q h es t)

pub expands : (ws : List CodeWord) (es : List PlanEntry) (image : List Cell) → map read_cell image ≡ image_words (program_with ws) es
    → length image ≤ most_words → list_all is_word image ≡ true → (p : Program) → HasCode p ws → IsExpansion p es image
expands ws es image h few low p code = record { words = h ∙ sym (words_alike p (program_with ws) code es); few = few; low = low }

pub too_long : (ws : List CodeWord) (es : List PlanEntry) (n : ℕ) → (n ≡ length (image_words (program_with ws) es)) × (most_words < n)
    → (p : Program) → HasCode p ws → HasTooManyWords p es n
too_long ws es n h p code = record { count = h.0 ∙ ap (λ xs. length xs) (sym (words_alike p (program_with ws) code es)); many = h.1 }
