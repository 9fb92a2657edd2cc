-- The first word of each place in the words of a plan.
use Rattle.std.proofs.Common.{◌≡◌, ℕ, ℤ, ◌+◌, ◌*◌, ◌≤◌, ◌==◌, Bool, true, false, cond, List, [], ◌∷◌, ◌++◌, length, length-append, append_assoc, map, Option, Some, None, refl, sym, ap, ◌∙◌, subst, arith}
use Rattle.std.specs.Prelude.{position, ◌&&◌}
use Rattle.std.specs.List.{position_from}
use Rattle.std.specs.Option.{option_map, option_map_or}
use Rattle.std.proofs.lemmas.Iterator.Adapters.{position_from-zero}
use Rattle.rv32_decode.specs.declared.Instr.{Instr}
use Rattle.rv32_decode.specs.declared.Cond.{Cond}
use Rattle.rv32_decode.specs.declared.LoadKind.{LoadKind}
use Rattle.rv32_decode.specs.declared.Instr.TheVariants.{Lui, Auipc, Jal, Jalr, Branch, Load, Store, OpImm, ShiftImm, Op, Fence, Ecall, Ebreak, Lr, Sc, Amo, Illegal}
use Rattle.templates.specs.rv32_program.Program.{Program}
use Rattle.templates.specs.rv32_program.Targets.{offset_address}
use Rattle.templates.specs.declared.places.Part.{Part}
use Rattle.templates.specs.declared.places.Part.TheVariants.{Single, Head, Fast, Fallback}
use Rattle.templates.specs.declared.plans.PlanEntry.{PlanEntry}
use Rattle.templates.specs.declared.plans.Scratches.{Scratches}
use Rattle.templates.specs.Plans.{is_flag_checked}
use Rattle.templates.specs.Sequences.{SequenceItem, items_of, items_in, batch_sequence, place_items, poll_first, load_sequence, spill_by, jump_sequence, branch_sequence, is_multiple_of_four}
use Rattle.jump_map.specs.Image.{Cell, ImageWord, PlacedItem, read_cell, placed_items, address_in, part_of_entry, entry_items, plan_items, words_at, image_words, head_of, address_of_word}
use Rattle.jump_map.specs.Maps.{is_single, is_first_of, begins_at}
use Rattle.jump_map.specs.declared.heads.PlaceStart.{PlaceStart}
use Rattle.jump_map.specs.Heads.{start, start_of, single_start, starts_from}
use Rattle.jump_map.specs.Building.{batch_items}
use Rattle.jump_map.proofs.ExpansionLemmas.{entry_parts, batch_count, entry_count}

-- there is a first item
record HasFirst (items : List SequenceItem) : Type 0 where
  first : SequenceItem
  rest : List SequenceItem
  is : items ≡ first ∷ rest

more_first : (i : SequenceItem) (rest : List SequenceItem) → HasFirst (i ∷ rest)
more_first i rest = record { first = i; rest = rest; is = refl }

spill_first : (b : Bool) (k r : ℕ) (items : List SequenceItem) → HasFirst items → HasFirst (spill_by b k r items)
spill_first true k r items h = more_first _ items
spill_first false k r items h = h

jump_first : (b : Bool) (rd next target : ℕ) → HasFirst (jump_sequence b rd next target)
jump_first true rd next target = more_first _ _
jump_first false rd next target = more_first _ _

branch_first : (b : Bool) (c : Cond) (rs1 rs2 target : ℕ) → HasFirst (branch_sequence b c rs1 rs2 target)
branch_first true c rs1 rs2 target = more_first _ _
branch_first false c rs1 rs2 target = more_first _ _

load_first : (by_value : Bool) (x : Scratches) (k : LoadKind) (rd rs1 : ℕ) (imm : ℤ) → HasFirst (load_sequence by_value x k rd rs1 imm)
load_first true x k rd rs1 imm = spill_first x.s.spilled 0 x.s.register _ (more_first _ _)
load_first false x k rd rs1 imm = spill_first x.s.spilled 0 x.s.register _ (spill_first x.t.spilled 1 x.t.register _ (more_first _ _))

place_first : (a : ℕ) (x : Scratches) (o : Option Instr) → HasFirst (place_items a x o)
place_first a x None = more_first _ _
place_first a x (Some (Lui rd upper)) = more_first _ _
place_first a x (Some (Auipc rd upper)) = more_first _ _
place_first a x (Some (Jal rd offset)) = jump_first (is_multiple_of_four (offset_address a offset)) _ _ _
place_first a x (Some (Jalr rd rs1 imm)) = more_first _ _
place_first a x (Some (Branch c rs1 rs2 offset)) = branch_first (is_multiple_of_four (offset_address a offset)) _ _ _ _
place_first a x (Some (Load k rd rs1 imm)) = load_first (is_flag_checked k rd rs1) x k rd rs1 imm
place_first a x (Some (Store w rs1 rs2 imm)) =
    spill_first x.s.spilled 0 x.s.register _ (spill_first x.t.spilled 1 x.t.register _ (more_first _ _))
place_first a x (Some (OpImm o rd rs1 imm)) = more_first _ _
place_first a x (Some (ShiftImm o rd rs1 amount)) = more_first _ _
place_first a x (Some (Op o rd rs1 rs2)) = more_first _ _
place_first a x (Some (Fence rd rs1 bits)) = more_first _ _
place_first a x (Some Ecall) = more_first _ _
place_first a x (Some Ebreak) = more_first _ _
place_first a x (Some (Lr rd rs1 aq rl)) =
    spill_first x.s.spilled 0 x.s.register _ (spill_first x.t.spilled 1 x.t.register _ (more_first _ _))
place_first a x (Some (Sc rd rs1 rs2 aq rl)) = more_first _ _
place_first a x (Some (Amo o rd rs1 rs2 aq rl)) =
    spill_first x.s.spilled 0 x.s.register _ (spill_first x.t.spilled 1 x.t.register _ (more_first _ _))
place_first a x (Some (Illegal word)) = more_first _ _

poll_first_first : (b : Bool) (items : List SequenceItem) → HasFirst items → HasFirst (poll_first b items)
poll_first_first true items h = more_first _ items
poll_first_first false items h = h

has_first : (e : PlanEntry) (o : Option Instr) → HasFirst (items_of e o)
has_first e o = poll_first_first e.polls (place_items e.address e.single o) (place_first e.address e.single o)

-- each entry has an item or more
pub items_many : (p : Program) (plan : List PlanEntry) → length plan ≤ length (plan_items p plan)
items_many p [] = omega arith
items_many p (e ∷ es) =
    let first = has_first e (p.code e.address) in
    let one = ap (λ xs. length xs) first.is in
    let count = entry_count p e in
    let more = items_many p es in
    let both = length-append (entry_items p e) (plan_items p es) in
    omega (arith, one, count, more, both)

-- the word is the first of the place's single sequence
abbrev begins : ℕ → ImageWord → Bool
begins a w = option_map_or (is_first_of a) w.place false

-- none of the items is the first of the place's single sequence
abbrev Passes : ℕ → List PlacedItem → Type 0
Passes a [] = Unit {0}
Passes a (i ∷ is) = (is_first_of a i.place ≡ false) × Passes a is

passes_both : (a : ℕ) (xs ys : List PlacedItem) → Passes a xs → Passes a ys → Passes a (xs ++ ys)
passes_both a [] ys h k = k
passes_both a (x ∷ xs) ys h k = (h.0, passes_both a xs ys h.1 k)

and_false : (b c : Bool) → (b && (false && c)) ≡ false
and_false true c = refl
and_false false c = refl

passes_part : (a : ℕ) (address : ℕ → ℕ) (part : Part) (k : ℕ) (items : List SequenceItem) → is_single part ≡ false
    → Passes a (placed_items address part k items)
passes_part a address part k [] other = tt
passes_part a address part k (i ∷ is) other = (
  ap (λ b. (address k == a) && (b && (k == 0))) other ∙ and_false (address k == a) (k == 0),
  passes_part a address part (k + 1) is other,
)

passes_other : (a b k : ℕ) (items : List SequenceItem) → (b == a) ≡ false → Passes a (placed_items (λ j. b) Single k items)
passes_other a b k [] other = tt
passes_other a b k (i ∷ is) other = (ap (λ x. x && (true && (k == 0))) other, passes_other a b (k + 1) is other)

batch_passes : (p : Program) (a : ℕ) (e : PlanEntry) → Passes a (batch_items p e)
batch_passes p a e =
    passes_both a _ _ (passes_part a (address_in e Head) Head 0 (items_in p.code e Head) refl)
    (passes_both a _ _ (passes_part a (address_in e Fast) Fast 0 (items_in p.code e Fast) refl)
    (passes_part a (address_in e Fallback) Fallback 0 (items_in p.code e Fallback) refl))

-- words that begin no place are passed
pass : (head : ℕ → ℕ) (a at n : ℕ) (items rest : List PlacedItem) → Passes a items
    → position_from (begins a) n (words_at head at (items ++ rest))
    ≡ position_from (begins a) (n + length items) (words_at head (at + 4 * length items) rest)
pass head a at n [] rest h =
    let count : n ≡ n + length {A = PlacedItem} [] = omega arith in
    let place : at ≡ at + 4 * length {A = PlacedItem} [] = omega arith in
    λ t. position_from (begins a) (count t) (words_at head (place t) rest)
pass head a at n (i ∷ is) rest h =
    let count : n + 1 + length is ≡ n + length (i ∷ is) = omega arith in
    let place : at + 4 + 4 * length is ≡ at + 4 * length (i ∷ is) = omega arith in
    ap (λ x. cond x (Some n) (position_from (begins a) (n + 1) (words_at head (at + 4) (is ++ rest)))) h.0
    ∙ pass head a (at + 4) (n + 1) is rest h.1
    ∙ (λ t. position_from (begins a) (count t) (words_at head (place t) rest))

-- the first word of an entry's single sequence begins its place
at_first : (head : ℕ → ℕ) (a b at n : ℕ) (items : List SequenceItem) (rest : List PlacedItem) → HasFirst items → (b == a) ≡ true
    → position_from (begins a) n (words_at head at (placed_items (λ j. b) Single 0 items ++ rest)) ≡ Some n
at_first head a b at n items rest h is =
    ap (λ xs. position_from (begins a) n (words_at head at (placed_items (λ j. b) Single 0 xs ++ rest))) h.is
    ∙ ap (λ x. cond (x && (true && true)) (Some n) (position_from (begins a) (n + 1) (words_at head (at + 4) (placed_items (λ j. b) Single 1 h.rest ++ rest)))) is

-- past the batch of an entry
past_batch : (p : Program) (head : ℕ → ℕ) (a n at : ℕ) (e : PlanEntry) (rest : List PlacedItem)
    → position_from (begins a) n (words_at head at (entry_items p e ++ rest))
    ≡ position_from (begins a) (n + length (batch_sequence p.code e))
    (words_at head (at + 4 * length (batch_sequence p.code e)) (part_of_entry p e Single ++ rest))
past_batch p head a n at e rest =
    let parts = ap (λ xs. xs ++ rest) (entry_parts p e) ∙ append_assoc (batch_items p e) (part_of_entry p e Single) rest in
    ap (λ xs. position_from (begins a) n (words_at head at xs)) parts
    ∙ pass head a at n (batch_items p e) (part_of_entry p e Single ++ rest) (batch_passes p a e)
    ∙ (λ t. position_from (begins a) (n + batch_count p e t)
    (words_at head (at + 4 * batch_count p e t) (part_of_entry p e Single ++ rest)))

-- the first word of a place's single sequence, where it is one of the plan
find_from : (p : Program) (head : ℕ → ℕ) (a n at : ℕ) (es : List PlanEntry)
    → position_from (begins a) n (words_at head at (plan_items p es)) ≡ single_start (starts_from p n es) a
find_from p head a n at [] = refl
find_from p head a n at (e ∷ es) =
    go (find_from p head a (n + length (entry_items p e)) (at + 4 * length (entry_items p e)) es) (e.address == a) refl
  where
    go : position_from (begins a) (n + length (entry_items p e)) (words_at head (at + 4 * length (entry_items p e)) (plan_items p es)) ≡ single_start (starts_from p (n + length (entry_items p e)) es) a
        → (b : Bool) → (e.address == a) ≡ b
        → position_from (begins a) n (words_at head at (entry_items p e ++ plan_items p es))
        ≡ option_map (λ s. s.single) (cond b (Some (start e.address n (n + length (batch_sequence p.code e)))) (start_of (starts_from p (n + length (entry_items p e)) es) a))
    go more true f =
        past_batch p head a n at e (plan_items p es)
        ∙ at_first head a e.address (at + 4 * length (batch_sequence p.code e)) (n + length (batch_sequence p.code e))
        (items_of e (p.code e.address)) (plan_items p es) (has_first e (p.code e.address)) f
    go more false f =
        let single = passes_other a e.address 0 (items_of e (p.code e.address)) f in
        let all = subst (Passes a) (sym (entry_parts p e)) (passes_both a (batch_items p e) (part_of_entry p e Single) (batch_passes p a e) single) in
        pass head a at n (entry_items p e) (plan_items p es) all ∙ more

position_from_shown : {X Y : Type 0} (f : X → Y) (q : Y → Bool) (i : ℕ) (xs : List X) → position_from q i (map f xs) ≡ position_from (λ x. q (f x)) i xs
position_from_shown f q i [] = refl
position_from_shown f q i (x ∷ xs) = ap (cond (q (f x)) (Some i)) (position_from_shown f q (i + 1) xs)

-- the first place in a list, by what its elements are read as
position_shown : {X Y : Type 0} (f : X → Y) (q : Y → Bool) (xs : List X) → position q (map f xs) ≡ position (λ x. q (f x)) xs
position_shown f q xs = position_from-zero q (map f xs) ∙ position_from_shown f q 0 xs ∙ sym (position_from-zero (λ x. q (f x)) xs)

-- the index has the first word of each place
pub starts_found : (p : Program) (es : List PlanEntry) (cells : List Cell) (index : List PlaceStart)
    → map read_cell cells ≡ image_words p es → index ≡ starts_from p 1 es
    → (a : ℕ) → single_start index a ≡ position (begins_at a) cells
starts_found p es cells index words is a =
    ap (λ ss. single_start ss a) is ∙ sym (find_from p (head_of p es) a 1 (address_of_word 1) es)
    ∙ sym (position_from-zero (begins a) (image_words p es)) ∙ ap (position (begins a)) (sym words)
    ∙ position_shown read_cell (begins a) cells
