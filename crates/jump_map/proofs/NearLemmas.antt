-- An image that a JAL spans has no far jump.
use Rattle.std.proofs.Common.{◌≡◌, ◌≢◌, ℕ, ℤ, zero, suc, ◌+◌, ◌<◌, ◌≤◌, ◌==◌, ◌++◌, Bool, true, false, List, [], ◌∷◌, map, length, length-append, Option, Some, None, refl, sym, ap, ◌∙◌, subst, arith}
use Rattle.std.specs.Prelude.{slice_index_or, cond, nat_le}
use Rattle.std.proofs.lemmas.List.{length-map}
use Rattle.std.proofs.lemmas.Bool.Decides.{nat_tests}
use Rattle.rv32_decode.specs.declared.Instr.{Instr}
use Rattle.rv32_decode.specs.declared.Instr.TheVariants.{Lui, Auipc, Jal, Jalr, Branch, Load, Store, OpImm, ShiftImm, Op, Fence, Ecall, Ebreak, Lr, Sc, Amo, Illegal}
use Rattle.rv32_decode.specs.declared.Cond.{Cond}
use Rattle.rv32_decode.specs.declared.LoadKind.{LoadKind}
use Rattle.rv32_decode.specs.declared.Width.{Width}
use Rattle.templates.specs.rv32_program.Program.{Program}
use Rattle.templates.specs.rv32_program.Targets.{offset_address}
use Rattle.runtime_words.specs.declared.RtWord.{RtWord}
use Rattle.runtime_words.specs.declared.RtWord.TheVariants.{Far, TrapOff}
use Rattle.runtime_words.specs.Reading.{read_word}
use Rattle.templates.specs.declared.places.Part.{Part}
use Rattle.templates.specs.declared.places.Part.TheVariants.{Single, Head, Fast, Fallback}
use Rattle.templates.specs.declared.plans.PlanEntry.{PlanEntry}
use Rattle.templates.specs.declared.plans.Scratches.{Scratches}
use Rattle.templates.specs.declared.reaches.Reach.{Reach}
use Rattle.templates.specs.Plans.{is_flag_checked}
use Rattle.templates.specs.Runs.{reach_of, code_from}
use Rattle.templates.specs.Sequences.{ItemWord, Runs, GoesTo, SequenceItem, items_in, place_items, instruction_items, poll_first, load_sequence, read_sequence, write_sequence, spill_by, reload_by, spills, reloads, jump_sequence, branch_sequence, is_multiple_of_four, to_head, reloads_of_run, mask_readable, head_items, run_items, batch_items}
use Rattle.jump_map.specs.Image.{Cell, ImageWord, PlacedItem, read_cell, placed_items, address_in, part_of_entry, entry_items, plan_items, words_at, words_before, head_of, image_words, address_of_word, item_word, jump_word, IsRewriting, HasNoFar}
use Rattle.jump_map.proofs.LayingLemmas.{words_length}

-- 1. No sequence has a far jump of its own

abbrev IsNotFar : RtWord → Type 0
IsNotFar (Far k) = ⊥
IsNotFar w = Unit {0}

abbrev IsKept : ItemWord → Type 0
IsKept (Runs w) = IsNotFar w
IsKept (GoesTo place head) = Unit {0}

abbrev AreKept : List SequenceItem → Type 0
AreKept [] = Unit {0}
AreKept (i ∷ is) = IsKept i.what × AreKept is

kept_spill : (b : Bool) (k r : ℕ) (rest : List SequenceItem) → AreKept rest → AreKept (spill_by b k r rest)
kept_spill true k r rest h = (tt, h)
kept_spill false k r rest h = h

kept_reload : (b : Bool) (k r : ℕ) (rest : List SequenceItem) → AreKept rest → AreKept (reload_by b k r rest)
kept_reload true k r rest h = (tt, h)
kept_reload false k r rest h = h

kept_spills : (x : Scratches) (rest : List SequenceItem) → AreKept rest → AreKept (spills x rest)
kept_spills x rest h = kept_spill x.s.spilled 0 x.s.register _ (kept_spill x.t.spilled 1 x.t.register rest h)

kept_reloads : (x : Scratches) → AreKept (reloads x)
kept_reloads x = kept_reload x.s.spilled 0 x.s.register _ (kept_reload x.t.spilled 1 x.t.register [] tt)

kept_reloads_of_run : (x : Scratches) (rest : List SequenceItem) → AreKept rest → AreKept (reloads_of_run x rest)
kept_reloads_of_run x rest h =
    kept_reload x.s.spilled 0 x.s.register _
    (kept_reload x.t.spilled 1 x.t.register _ (kept_reload x.u.spilled 2 x.u.register rest h))

kept_load : (by_value : Bool) (x : Scratches) (k : LoadKind) (rd rs1 : ℕ) (imm : ℤ)
    → AreKept (load_sequence by_value x k rd rs1 imm)
kept_load true x k rd rs1 imm =
    kept_spill x.s.spilled 0 x.s.register _
    (tt, (tt, (tt, (tt, (tt, (tt, (tt, kept_reload x.s.spilled 0 x.s.register [] tt)))))))
kept_load false x k rd rs1 imm =
    kept_spills x _ (tt, (tt, (tt, (tt, (tt, (tt, (tt, (tt, (tt, kept_reloads x)))))))))

kept_read : (x : Scratches) (w : Width) (rs1 : ℕ) (imm : ℤ) (i : Instr) → AreKept (read_sequence x w rs1 imm i)
kept_read x w rs1 imm i = kept_spills x _ (tt, (tt, (tt, (tt, (tt, (tt, (tt, (tt, (tt, kept_reloads x)))))))))

kept_write : (x : Scratches) (w : Width) (rs1 : ℕ) (imm : ℤ) (i : Instr) → AreKept (write_sequence x w rs1 imm i)
kept_write x w rs1 imm i = kept_spills x _ (tt, (tt, (tt, (tt, (tt, (tt, (tt, (tt, kept_reloads x))))))))

kept_jump : (b : Bool) (rd next target : ℕ) → AreKept (jump_sequence b rd next target)
kept_jump true rd next target = (tt, (tt, (tt, tt)))
kept_jump false rd next target = (tt, tt)

kept_branch : (b : Bool) (c : Cond) (rs1 rs2 target : ℕ) → AreKept (branch_sequence b c rs1 rs2 target)
kept_branch true c rs1 rs2 target = (tt, (tt, tt))
kept_branch false c rs1 rs2 target = (tt, tt)

kept_instruction : (a : ℕ) (x : Scratches) (i : Instr) → AreKept (instruction_items a x i)
kept_instruction a x (Lui rd upper) = (tt, tt)
kept_instruction a x (Auipc rd upper) = (tt, (tt, tt))
kept_instruction a x (Jal rd offset) = kept_jump (is_multiple_of_four (offset_address a offset)) rd _ _
kept_instruction a x (Jalr rd rs1 imm) = (tt, tt)
kept_instruction a x (Branch c rs1 rs2 offset) = kept_branch (is_multiple_of_four (offset_address a offset)) c rs1 rs2 _
kept_instruction a x (Load k rd rs1 imm) = kept_load (is_flag_checked k rd rs1) x k rd rs1 imm
kept_instruction a x (Store w rs1 rs2 imm) = kept_write x w rs1 imm _
kept_instruction a x (OpImm o rd rs1 imm) = (tt, tt)
kept_instruction a x (ShiftImm o rd rs1 amount) = (tt, tt)
kept_instruction a x (Op o rd rs1 rs2) = (tt, tt)
kept_instruction a x (Fence rd rs1 bits) = (tt, tt)
kept_instruction a x Ecall = (tt, tt)
kept_instruction a x Ebreak = (tt, tt)
kept_instruction a x (Lr rd rs1 aq rl) = kept_read x _ rs1 _ _
kept_instruction a x (Sc rd rs1 rs2 aq rl) = (tt, (tt, tt))
kept_instruction a x (Amo o rd rs1 rs2 aq rl) = kept_write x _ rs1 _ _
kept_instruction a x (Illegal word) = (tt, tt)

kept_place : (a : ℕ) (x : Scratches) (o : Option Instr) → AreKept (place_items a x o)
kept_place a x None = (tt, tt)
kept_place a x (Some i) = kept_instruction a x i

kept_single : (polls : Bool) (rest : List SequenceItem) → AreKept rest → AreKept (poll_first polls rest)
kept_single true rest h = (tt, h)
kept_single false rest h = h

kept_mask : (b : Bool) (s : ℕ) (rest : List SequenceItem) → AreKept rest → AreKept (mask_readable b s rest)
kept_mask true s rest h = h
kept_mask false s rest h = (tt, h)

kept_head : (x : Scratches) (reach : Reach) (fast : ℕ) → AreKept (head_items x reach fast)
kept_head x reach fast =
    kept_spill x.s.spilled 0 x.s.register _ (kept_spill x.t.spilled 1 x.t.register _
    (kept_spill x.u.spilled 2 x.u.register _ (
      tt,
      (
        tt,
        (
          tt,
          (
            tt,
            (
              tt,
              (
                tt,
                (
                  tt,
                  (
                    tt,
                    (
                      tt,
                      (
                        tt,
                        kept_mask reach.stores x.s.register _ (tt, (tt, (tt, (tt, (tt, tt))))),
                      ),
                    ),
                  ),
                ),
              ),
            ),
          ),
        ),
      ),
    )))

kept_run : (is : List Instr) (rest : List SequenceItem) → AreKept rest → AreKept (run_items is rest)
kept_run [] rest h = h
kept_run (i ∷ is) rest h = (tt, kept_run is rest h)

kept_batch : (a : ℕ) (x : Scratches) (is : List Instr) (part : Part) → AreKept (batch_items a x is part)
kept_batch a x [] part = tt
kept_batch a x (i ∷ is) Head = kept_head x (reach_of (i ∷ is)) _
kept_batch a x (i ∷ is) Fast = kept_reloads_of_run x _ (kept_run (i ∷ is) (to_head _) (tt, tt))
kept_batch a x (i ∷ is) Fallback = kept_reloads_of_run x [] tt
kept_batch a x (i ∷ is) Single = tt

kept_part : (code : ℕ → Option Instr) (e : PlanEntry) (part : Part) → AreKept (items_in code e part)
kept_part code e Single = kept_single e.polls _ (kept_place e.address e.single (code e.address))
kept_part code e Head = kept_batch e.address e.batch (code_from code e.address e.run) Head
kept_part code e Fast = kept_batch e.address e.batch (code_from code e.address e.run) Fast
kept_part code e Fallback = kept_batch e.address e.batch (code_from code e.address e.run) Fallback

-- 2. So no item of a plan is one

abbrev ArePlaced : List PlacedItem → Type 0
ArePlaced [] = Unit {0}
ArePlaced (i ∷ is) = IsKept i.item × ArePlaced is

placed : (address : ℕ → ℕ) (part : Part) (k : ℕ) (items : List SequenceItem) → AreKept items
    → ArePlaced (placed_items address part k items)
placed address part k [] h = tt
placed address part k (i ∷ is) h = (h.0, placed address part (k + 1) is h.1)

placed_both : (xs ys : List PlacedItem) → ArePlaced xs → ArePlaced ys → ArePlaced (xs ++ ys)
placed_both [] ys h g = g
placed_both (x ∷ xs) ys h g = (h.0, placed_both xs ys h.1 g)

placed_part : (p : Program) (e : PlanEntry) (part : Part) → ArePlaced (part_of_entry p e part)
placed_part p e part = placed (address_in e part) part 0 (items_in p.code e part) (kept_part p.code e part)

placed_entry : (p : Program) (e : PlanEntry) → ArePlaced (entry_items p e)
placed_entry p e =
    placed_both (part_of_entry p e Head) _ (placed_part p e Head)
    (placed_both (part_of_entry p e Fast) _ (placed_part p e Fast)
    (placed_both (part_of_entry p e Fallback) (part_of_entry p e Single) (placed_part p e Fallback)
    (placed_part p e Single)))

placed_plan : (p : Program) (es : List PlanEntry) → ArePlaced (plan_items p es)
placed_plan p [] = tt
placed_plan p (e ∷ es) = placed_both (entry_items p e) (plan_items p es) (placed_entry p e) (placed_plan p es)

-- 3. And every jump is near

-- where a place begins there are no more words before it than in all
few_before : (p : Program) (es : List PlanEntry) (a : ℕ) → words_before p es a ≤ length (plan_items p es)
few_before p [] a = omega arith
few_before p (e ∷ es) a = go (e.address == a) (few_before p es a)
  where
    go : (b : Bool) → words_before p es a ≤ length (plan_items p es)
        → cond b 0 (length (entry_items p e) + words_before p es a) ≤ length (entry_items p e ++ plan_items p es)
    go true more = omega arith
    go false more = let both = length-append (entry_items p e) (plan_items p es) in omega (arith, both, more)

near_jump : (m n own head : ℕ) → m ≤ 262143 → own < m → head ≤ m → n ≡ address_of_word head
    → IsNotFar (jump_word (address_of_word own) n)
near_jump m n own head few low high is =
    let down : nat_le (address_of_word own) (n + 1048576) ≡ true = grind (arith, nat_tests) in
    let up : nat_le n (address_of_word own + 1048574) ≡ true = grind (arith, nat_tests) in
    rw (down, up) tt

abbrev AreNotFar : List ImageWord → Type 0
AreNotFar [] = Unit {0}
AreNotFar (w ∷ ws) = ((k : ℕ) → w.what ≢ Some (Far k)) × AreNotFar ws

not_far : (w : RtWord) → IsNotFar w → (k : ℕ) → ◌≡◌ {A = Option RtWord} (Some w) (Some (Far k)) → ⊥
not_far w h k is = let same : w ≡ Far k = cc in subst IsNotFar same h

near_item : (p : Program) (plan : List PlanEntry) (own : ℕ) (item : ItemWord) → length (plan_items p plan) < 262143
    → own ≤ length (plan_items p plan) → IsKept item → IsNotFar (item_word (head_of p plan) (address_of_word own) item)
near_item p plan own (Runs w) few low h = h
near_item p plan own (GoesTo a to) few low h =
    let before = few_before p plan a in
    near_jump (length (plan_items p plan) + 1) (head_of p plan a) own (1 + words_before p plan a)
    (omega (arith, few)) (omega (arith, low)) (omega (arith, before)) refl

near_words : (p : Program) (plan : List PlanEntry) (own : ℕ) (items : List PlacedItem)
    → length (plan_items p plan) < 262143
    → own + length items ≤ length (plan_items p plan) + 1 → ArePlaced items
    → AreNotFar (words_at (head_of p plan) (address_of_word own) items)
near_words p plan own [] few low h = tt
near_words p plan own (i ∷ is) few low h =
    let next : address_of_word (own + 1) ≡ address_of_word own + 4 = omega arith in (
      not_far (item_word (head_of p plan) (address_of_word own) i.item)
          (near_item p plan own i.item few (omega (arith, low)) h.0),
      subst (λ at. AreNotFar (words_at (head_of p plan) at is)) next
          (near_words p plan (own + 1) is few (omega (arith, low)) h.1),
    )

none_in : (cs : List Cell) (c : Cell) (k n : ℕ) → AreNotFar (map read_cell cs) → n < length cs
    → slice_index_or cs n c ≡ c → read_word c.word ≢ Some (Far k)
none_in [] c k n h lt is = absurd (omega (arith, lt))
none_in (d ∷ cs) c k zero h lt is = λ e. h.0 k (ap (λ (x : Cell). read_word x.word) is ∙ e)
none_in (d ∷ cs) c k (suc n) h lt is = none_in cs c k n h.1 (omega (arith, lt)) is

-- an image of at most 262143 words has no far jump
pub none_far : (program : Program) (plan : List PlanEntry) (image : List Cell) → IsRewriting program plan image
    → length image ≤ 262143 → HasNoFar image
none_far program plan image h few =
    let long = sym (length-map image read_cell) ∙ ap (λ xs. length xs) h.expansion.words in
    let laid = words_length (head_of program plan) (address_of_word 1) (plan_items program plan) in
    let less : length (plan_items program plan) < 262143 = omega (arith, long, laid, few) in
    let off : (k : ℕ) → ◌≡◌ {A = Option RtWord} (Some TrapOff) (Some (Far k)) → ⊥ = not_far TrapOff tt in
    let all : AreNotFar (image_words program plan) =
    (off, near_words program plan 1 (plan_items program plan) less (omega arith) (placed_plan program plan)) in
    let read = subst AreNotFar (sym h.expansion.words) all in
    record { near = λ c k has. none_in image c k has.0 read has.1 has.2 }
