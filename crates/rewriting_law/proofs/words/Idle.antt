-- How many words of a place's sequences may commit nothing, and which of them lead out of it.
use Rattle.std.proofs.Common.{◌≡◌, ◌≢◌, ℕ, ℤ, pos, suc, ◌+◌, ◌*◌, ◌≤◌, ◌⊎◌, Bool, true, false, List, [], ◌∷◌, ◌++◌, length, Option, Some, None, refl, ap, inl, inr, arith}
use Rattle.std.specs.Prelude.{not, ◌||◌, ◌&&◌}
use Rattle.rewriting_law.proofs.Names.{Cond, Width, LoadKind, Instr, Lui, Auipc, Jal, Jalr, Branch, Load, Store, OpImm, ShiftImm, Op, Fence, Ecall, Ebreak, Lr, Sc, Amo, Illegal, Word, offset_address, CommitKind, Never, Always, IfNotFlag, IfNoWait, Native, MissR, MissW, Call, Xjalr, Batch, Far, Head, Fast, Fallback, Scratches, PlanEntry, is_flag_checked, Reach, reach_of, code_from, ItemWord, Runs, GoesTo, SequenceItem, own, checking, committing, with_word, spill_by, reload_by, spills, reloads, state_look, flag_load_sequence, read_sequence, write_sequence, load_sequence, branch_sequence, jump_sequence, is_multiple_of_four, instruction_items, place_items, poll_first, items_of, reloads_of_run, mask_readable, head_items, run_items, fast_items, batch_items, batch_sequence, to_head, spill_offset}
use Rattle.rv32_decode.specs.declared.LoadKind.TheVariants as load_kind

-- 1. Words that may commit nothing

abbrev pub is_idle : CommitKind → Bool
is_idle Always = false
is_idle kind = true

abbrev pub idles : CommitKind → ℕ
idles Always = 0
idles kind = 1

abbrev pub idle : List SequenceItem → ℕ
idle [] = 0
idle (i ∷ is) = idles i.commit + idle is

abbrev pub all_idle : List SequenceItem → Bool
all_idle [] = true
all_idle (i ∷ is) = is_idle i.commit && all_idle is

pub idle_append : (xs ys : List SequenceItem) → idle (xs ++ ys) ≡ idle xs + idle ys
idle_append [] ys = omega arith
idle_append (x ∷ xs) ys = let rest = idle_append xs ys in omega (arith, rest)

pub idle_counts : (m : CommitKind) → is_idle m ≡ true → idles m ≡ 1
idle_counts Never e = refl
idle_counts IfNotFlag e = refl
idle_counts IfNoWait e = refl
idle_counts Always e = let bad : false ≡ true = e in cc

pub all_idle_more : (xs : List SequenceItem) (i : SequenceItem) → all_idle xs ≡ true
    → is_idle i.commit ≡ true → all_idle (xs ++ i ∷ []) ≡ true
all_idle_more [] i h e = ap (λ t. t && true) e
all_idle_more (x ∷ xs) i h e = go (is_idle x.commit) h (λ g. all_idle_more xs i g e)
  where
    go : (t : Bool) → (t && all_idle xs) ≡ true
        → (all_idle xs ≡ true → all_idle (xs ++ i ∷ []) ≡ true)
        → (t && all_idle (xs ++ i ∷ [])) ≡ true
    go true h more = more h
    go false h more = h

-- 2. Jumps to other places

abbrev pub is_jump : ItemWord → Bool
is_jump (GoesTo place head) = true
is_jump (Runs w) = false

abbrev pub has_jump : List SequenceItem → Bool
has_jump [] = false
has_jump (i ∷ is) = is_jump i.what || has_jump is

-- before each jump stands a word that commits
abbrev pub AllLed : Bool → List SequenceItem → Type 0
AllLed seen [] = Unit {0}
AllLed seen (i ∷ is) =
    (is_jump i.what ≡ true → seen ≡ true) × AllLed (seen || not (is_idle i.commit)) is

no_jump_led : (seen : Bool) (is : List SequenceItem) → has_jump is ≡ false → AllLed seen is
no_jump_led seen [] h = tt
no_jump_led seen (i ∷ is) h =
    go (is_jump i.what) h (λ g. no_jump_led (seen || not (is_idle i.commit)) is g)
  where
    go : (t : Bool) → (t || has_jump is) ≡ false
        → (has_jump is ≡ false → AllLed (seen || not (is_idle i.commit)) is)
        → (t ≡ true → seen ≡ true) × AllLed (seen || not (is_idle i.commit)) is
    go true h more = absurd (true_or h)
      where
        true_or : true ≡ false → ⊥
        true_or e = cc
    go false h more = (λ e. (let bad : false ≡ true = e in cc), more h)

-- so where no word before it surely commits there is none
pub led_jump : (seen : Bool) (before after : List SequenceItem) (i : SequenceItem)
    → AllLed seen (before ++ i ∷ after) → is_jump i.what ≡ true → all_idle before ≡ true
    → seen ≡ true
led_jump seen [] after i h jump idles_all = h.0 jump
led_jump seen (x ∷ xs) after i h jump idles_all =
    go (is_idle x.commit) h.1 idles_all
    (λ (g : AllLed (seen || false) (xs ++ i ∷ after)) e. led_jump (seen || false) xs after i g jump e)
  where
    or_false : (t : Bool) → (t || false) ≡ true → t ≡ true
    or_false true e = refl
    or_false false e = e

    go : (t : Bool) → AllLed (seen || not t) (xs ++ i ∷ after) → (t && all_idle xs) ≡ true
        → (AllLed (seen || false) (xs ++ i ∷ after) → all_idle xs ≡ true → (seen || false) ≡ true)
        → seen ≡ true
    go true g e more = or_false seen (more g e)
    go false g e more = let bad : false ≡ true = e in cc

-- 3. The words of a place's own sequence

abbrev pub IsUpper : Instr → Type 0
IsUpper (Lui rd upper) = Unit {0}
IsUpper i = ⊥

-- none is a far jump; a call commits where it doesn't wait, an indirect jump surely; and a native word that may commit
-- nothing puts a number into a register where a jump to a place is behind it
abbrev pub IsOwnWord : ItemWord → CommitKind → List SequenceItem → Type 0
IsOwnWord (Runs Call) m rest = m ≡ IfNoWait
IsOwnWord (Runs (Xjalr rd rs1 imm)) m rest = m ≡ Always
IsOwnWord (Runs (Batch stores low high)) m rest = ⊥
IsOwnWord (Runs (Far k)) m rest = ⊥
IsOwnWord (Runs (Native i)) m rest = (m ≡ Always) ⊎ ((has_jump rest ≡ false) ⊎ IsUpper i)
IsOwnWord w m rest = Unit {0}

abbrev pub OwnWords : List SequenceItem → Type 0
OwnWords [] = Unit {0}
OwnWords (i ∷ is) = IsOwnWord i.what i.commit is × OwnWords is

pub own_word_at : (before after : List SequenceItem) (i : SequenceItem)
    → OwnWords (before ++ i ∷ after) → IsOwnWord i.what i.commit after
own_word_at [] after i h = h.0
own_word_at (x ∷ xs) after i h = own_word_at xs after i h.1

-- without a jump, and so many that may commit nothing
record Silent (n : ℕ) (is : List SequenceItem) : Type 0 where
  words : OwnWords is
  jumps : has_jump is ≡ false
  few : idle is ≤ n

none_silent : Silent 0 []
none_silent = record { words = tt; jumps = refl; few = omega arith }

silent_own : (n : ℕ) (i : Instr) (rest : List SequenceItem) → Silent n rest → Silent (suc n) (own i rest)
silent_own n i rest h = record {
  words = (inr (inl h.jumps), h.words);
  jumps = h.jumps;
  few = (let few = h.few in omega (arith, few));
}

silent_native : (n : ℕ) (i : Instr) (rest : List SequenceItem) → Silent n rest
    → Silent n (committing (Native i) rest)
silent_native n i rest h = record {
  words = (inl refl, h.words);
  jumps = h.jumps;
  few = (let few = h.few in omega (arith, few));
}

silent_flagged : (n : ℕ) (i : Instr) (rest : List SequenceItem) → Silent n rest
    → Silent (suc n) (with_word IfNotFlag (Native i) rest)
silent_flagged n i rest h = record {
  words = (inr (inl h.jumps), h.words);
  jumps = h.jumps;
  few = (let few = h.few in omega (arith, few));
}

silent_spill : (n : ℕ) (b : Bool) (k r : ℕ) (rest : List SequenceItem) → Silent n rest
    → Silent (suc n) (spill_by b k r rest)
silent_spill n true k r rest h = silent_own n (Store Word 0 r (spill_offset k)) rest h
silent_spill n false k r rest h = record {
  words = h.words;
  jumps = h.jumps;
  few = (let few = h.few in omega (arith, few));
}

silent_reload : (n : ℕ) (b : Bool) (k r : ℕ) (rest : List SequenceItem) → Silent n rest
    → Silent (suc n) (reload_by b k r rest)
silent_reload n true k r rest h = silent_own n (Load load_kind.Word r 0 (spill_offset k)) rest h
silent_reload n false k r rest h = record {
  words = h.words;
  jumps = h.jumps;
  few = (let few = h.few in omega (arith, few));
}

silent_spills : (n : ℕ) (x : Scratches) (rest : List SequenceItem) → Silent n rest
    → Silent (suc (suc n)) (spills x rest)
silent_spills n x rest h =
    silent_spill (suc n) x.s.spilled 0 x.s.register _
    (silent_spill n x.t.spilled 1 x.t.register rest h)

silent_reloads : (x : Scratches) → Silent 2 (reloads x)
silent_reloads x =
    silent_reload 1 x.s.spilled 0 x.s.register _
    (silent_reload 0 x.t.spilled 1 x.t.register [] none_silent)

silent_look : (n : ℕ) (x : Scratches) (rs1 : ℕ) (imm : ℤ) (rest : List SequenceItem) → Silent n rest
    → Silent (suc (suc (suc (suc (suc n))))) (state_look x rs1 imm rest)
silent_look n x rs1 imm rest h =
    silent_own (suc (suc (suc (suc n)))) _ _ (silent_own (suc (suc (suc n))) _ _
    (silent_own (suc (suc n)) _ _ (silent_own (suc n) _ _ (silent_own n _ _ h))))

silent_read : (x : Scratches) (w : Width) (rs1 : ℕ) (imm : ℤ) (i : Instr)
    → Silent 12 (read_sequence x w rs1 imm i)
silent_read x w rs1 imm i =
    let load = silent_native 2 i (reloads x) (silent_reloads x) in
    let few = load.few in
    let miss : Silent 3 (checking (MissR w rs1 imm) (committing (Native i) (reloads x))) = record {
      words = (tt, load.words);
      jumps = load.jumps;
      few = omega (arith, few);
    } in
    silent_spills 10 x _ (silent_look 5 x rs1 imm _ (silent_own 4 _ _ (silent_own 3 _ _ miss)))

silent_write : (x : Scratches) (w : Width) (rs1 : ℕ) (imm : ℤ) (i : Instr)
    → Silent 11 (write_sequence x w rs1 imm i)
silent_write x w rs1 imm i =
    let store = silent_native 2 i (reloads x) (silent_reloads x) in
    let few = store.few in
    let miss : Silent 3 (checking (MissW w rs1 imm) (committing (Native i) (reloads x))) = record {
      words = (tt, store.words);
      jumps = store.jumps;
      few = omega (arith, few);
    } in
    silent_spills 9 x _ (silent_look 4 x rs1 imm _ (silent_own 3 _ _ miss))

silent_flag : (x : Scratches) (rd rs1 : ℕ) (imm : ℤ) → Silent 8 (flag_load_sequence x rd rs1 imm)
silent_flag x rd rs1 imm =
    let last = silent_reload 0 x.s.spilled 0 x.s.register [] none_silent in
    let load = silent_native 1 (Load load_kind.Word rd rs1 imm) _ last in
    let few = load.few in
    let miss : Silent 2 (checking (MissR Word rs1 imm)
    (committing (Native (Load load_kind.Word rd rs1 imm)) (reload_by x.s.spilled 0 x.s.register [])))
    = record {
      words = (tt, load.words);
      jumps = load.jumps;
      few = omega (arith, few);
    } in
    silent_spill 7 x.s.spilled 0 x.s.register _ (silent_own 6 _ _ (silent_own 5 _ _
    (silent_flagged 4 (Load load_kind.Word rd rs1 imm) _ (silent_own 3 _ _ (silent_own 2 _ _ miss)))))

-- a place's own sequence
pub record IsOwn (is : List SequenceItem) : Type 0 where
  pub words : OwnWords is
  pub led : AllLed false is
  pub few : idle is ≤ 13

record IsOwnRest (is : List SequenceItem) : Type 0 where
  words : OwnWords is
  led : AllLed false is
  few : idle is ≤ 12

of_silent : (n : ℕ) (is : List SequenceItem) → n ≤ 12 → Silent n is → IsOwnRest is
of_silent n is low h = record {
  words = h.words;
  led = no_jump_led false is h.jumps;
  few = (let few = h.few in omega (arith, few, low));
}

of_load : (b : Bool) (x : Scratches) (k : LoadKind) (rd rs1 : ℕ) (imm : ℤ)
    → IsOwnRest (load_sequence b x k rd rs1 imm)
of_load true x k rd rs1 imm = of_silent 8 _ (omega arith) (silent_flag x rd rs1 imm)
of_load false x k rd rs1 imm = of_silent 12 _ (omega arith) (silent_read x _ rs1 imm _)

of_branch : (b : Bool) (c : Cond) (rs1 rs2 target : ℕ)
    → IsOwnRest (branch_sequence b c rs1 rs2 target)
of_branch true c rs1 rs2 target = record {
  words = (inl refl, (tt, tt));
  led = (λ e. (let bad : false ≡ true = e in cc), ((λ e. refl), tt));
  few = omega arith;
}
of_branch false c rs1 rs2 target = of_silent 0 _ (omega arith) (silent_native 0 _ [] none_silent)

of_jump : (b : Bool) (rd next target : ℕ) → IsOwnRest (jump_sequence b rd next target)
of_jump true rd next target = record {
  words = (inr (inr tt), (inl refl, (tt, tt)));
  led = (
    λ e. (let bad : false ≡ true = e in cc),
    ((λ e. (let bad : false ≡ true = e in cc)), ((λ e. refl), tt)),
  );
  few = omega arith;
}
of_jump false rd next target = of_silent 0 _ (omega arith) (silent_native 0 _ [] none_silent)

of_native : (i : Instr) → IsOwnRest (committing (Native i) [])
of_native i = of_silent 0 _ (omega arith) (silent_native 0 i [] none_silent)

never_jump : (seen : Bool) → false ≡ true → seen ≡ true
never_jump seen e = cc

of_instruction : (a : ℕ) (x : Scratches) (i : Instr) → IsOwnRest (instruction_items a x i)
of_instruction a x (Lui rd upper) = of_native (Lui rd upper)
of_instruction a x (Auipc rd upper) = record {
  words = (inr (inr tt), (inl refl, tt));
  led = (never_jump false, (never_jump false, tt));
  few = omega arith;
}
of_instruction a x (Jal rd offset) =
    of_jump (is_multiple_of_four (offset_address a offset)) rd _ (offset_address a offset)
of_instruction a x (Jalr rd rs1 imm) = record {
  words = (refl, tt);
  led = (never_jump false, tt);
  few = omega arith;
}
of_instruction a x (Branch c rs1 rs2 offset) =
    of_branch (is_multiple_of_four (offset_address a offset)) c rs1 rs2 (offset_address a offset)
of_instruction a x (Load k rd rs1 imm) = of_load (is_flag_checked k rd rs1) x k rd rs1 imm
of_instruction a x (Store w rs1 rs2 imm) = of_silent 11 _ (omega arith) (silent_write x w rs1 imm _)
of_instruction a x (OpImm o rd rs1 imm) = of_native (OpImm o rd rs1 imm)
of_instruction a x (ShiftImm o rd rs1 amount) = of_native (ShiftImm o rd rs1 amount)
of_instruction a x (Op o rd rs1 rs2) = of_native (Op o rd rs1 rs2)
of_instruction a x (Fence rd rs1 bits) = of_native (Fence rd rs1 bits)
of_instruction a x Ecall = record {
  words = (refl, tt);
  led = (never_jump false, tt);
  few = omega arith;
}
of_instruction a x Ebreak = record {
  words = (tt, tt);
  led = (never_jump false, tt);
  few = omega arith;
}
of_instruction a x (Lr rd rs1 aq rl) = of_silent 12 _ (omega arith) (silent_read x _ rs1 _ _)
of_instruction a x (Sc rd rs1 rs2 aq rl) = record {
  words = (tt, (inl refl, tt));
  led = (never_jump false, (never_jump false, tt));
  few = omega arith;
}
of_instruction a x (Amo o rd rs1 rs2 aq rl) =
    of_silent 11 _ (omega arith) (silent_write x _ rs1 _ _)
of_instruction a x (Illegal word) = record {
  words = (tt, tt);
  led = (never_jump false, tt);
  few = omega arith;
}

of_place : (a : ℕ) (x : Scratches) (o : Option Instr) → IsOwnRest (place_items a x o)
of_place a x None = record {
  words = (tt, tt);
  led = (never_jump false, tt);
  few = omega arith;
}
of_place a x (Some i) = of_instruction a x i

pub is_own : (e : PlanEntry) (o : Option Instr) → IsOwn (items_of e o)
is_own e o = go e.polls (of_place e.address e.single o)
  where
    go : (polls : Bool) → IsOwnRest (place_items e.address e.single o)
        → IsOwn (poll_first polls (place_items e.address e.single o))
    go true h = (let few = h.few in record {
      words = (tt, h.words);
      led = (never_jump false, h.led);
      few = omega (arith, few);
    })
    go false h = (let few = h.few in record {
      words = h.words;
      led = h.led;
      few = omega (arith, few);
    })

-- 4. The words of a batch

-- none is a call, an indirect jump or a far jump, and a jump leads to another place than the run's
abbrev pub IsRunWord : ℕ → ItemWord → Type 0
IsRunWord a (Runs Call) = ⊥
IsRunWord a (Runs (Xjalr rd rs1 imm)) = ⊥
IsRunWord a (Runs (Far k)) = ⊥
IsRunWord a (Runs w) = Unit {0}
IsRunWord a (GoesTo b head) = b ≢ a

abbrev pub RunWords : ℕ → List SequenceItem → Type 0
RunWords a [] = Unit {0}
RunWords a (i ∷ is) = IsRunWord a i.what × RunWords a is

pub run_word_at : (a : ℕ) (before after : List SequenceItem) (i : SequenceItem)
    → RunWords a (before ++ i ∷ after) → IsRunWord a i.what
run_word_at a [] after i h = h.0
run_word_at a (x ∷ xs) after i h = run_word_at a xs after i h.1

pub record IsRunPart (a n : ℕ) (is : List SequenceItem) : Type 0 where
  pub words : RunWords a is
  pub few : idle is ≤ n

run_append : (a : ℕ) (xs ys : List SequenceItem) → RunWords a xs → RunWords a ys
    → RunWords a (xs ++ ys)
run_append a [] ys h g = g
run_append a (x ∷ xs) ys h g = (h.0, run_append a xs ys h.1 g)

run_none : (a : ℕ) → IsRunPart a 0 []
run_none a = record { words = tt; few = omega arith }

run_own : (a n : ℕ) (i : Instr) (rest : List SequenceItem) → IsRunPart a n rest
    → IsRunPart a (suc n) (own i rest)
run_own a n i rest h = record {
  words = (tt, h.words);
  few = (let few = h.few in omega (arith, few));
}

run_spill : (a n : ℕ) (b : Bool) (k r : ℕ) (rest : List SequenceItem) → IsRunPart a n rest
    → IsRunPart a (suc n) (spill_by b k r rest)
run_spill a n true k r rest h = run_own a n (Store Word 0 r (spill_offset k)) rest h
run_spill a n false k r rest h = record {
  words = h.words;
  few = (let few = h.few in omega (arith, few));
}

run_reload : (a n : ℕ) (b : Bool) (k r : ℕ) (rest : List SequenceItem) → IsRunPart a n rest
    → IsRunPart a (suc n) (reload_by b k r rest)
run_reload a n true k r rest h = run_own a n (Load load_kind.Word r 0 (spill_offset k)) rest h
run_reload a n false k r rest h = record {
  words = h.words;
  few = (let few = h.few in omega (arith, few));
}

run_reloads : (a n : ℕ) (x : Scratches) (rest : List SequenceItem) → IsRunPart a n rest
    → IsRunPart a (suc (suc (suc n))) (reloads_of_run x rest)
run_reloads a n x rest h =
    run_reload a (suc (suc n)) x.s.spilled 0 x.s.register _
    (run_reload a (suc n) x.t.spilled 1 x.t.register _
    (run_reload a n x.u.spilled 2 x.u.register rest h))

run_mask : (a n : ℕ) (b : Bool) (s : ℕ) (rest : List SequenceItem) → IsRunPart a n rest
    → IsRunPart a (suc n) (mask_readable b s rest)
run_mask a n true s rest h = record {
  words = h.words;
  few = (let few = h.few in omega (arith, few));
}
run_mask a n false s rest h = run_own a n _ rest h

run_head : (a : ℕ) (x : Scratches) (reach : Reach) (fast : ℕ) → IsRunPart a 19 (head_items x reach fast)
run_head a x reach fast =
    let last : IsRunPart a 2 (checking (Batch reach.stores x.s.register x.u.register)
    (own (Jal 0 (pos (4 * (fast + 1)))) [])) = record { words = (tt, (tt, tt)); few = omega arith }
    in
    let mask = run_mask a 5 reach.stores x.s.register _
    (run_own a 4 _ _ (run_own a 3 _ _ (run_own a 2 _ _ last))) in
    let look = run_own a 10 _ _ (run_own a 9 _ _ (run_own a 8 _ _ (run_own a 7 _ _
    (run_own a 6 _ _ mask)))) in
    let states = run_own a 15 _ _ (run_own a 14 _ _ (run_own a 13 _ _ (run_own a 12 _ _
    (run_own a 11 _ _ look)))) in
    run_spill a 18 x.s.spilled 0 x.s.register _ (run_spill a 17 x.t.spilled 1 x.t.register _
    (run_spill a 16 x.u.spilled 2 x.u.register _ states))

run_run : (a n : ℕ) (is : List Instr) (rest : List SequenceItem) → IsRunPart a n rest
    → IsRunPart a n (run_items is rest)
run_run a n [] rest h = h
run_run a n (i ∷ is) rest h =
    let more = run_run a n is rest h in
    let few = more.few in record { words = (tt, more.words); few = omega (arith, few) }

run_fast : (a b : ℕ) (x : Scratches) (is : List Instr) → b ≢ a → IsRunPart a 4 (fast_items x is b)
run_fast a b x is apart =
    run_reloads a 1 x _ (run_run a 1 is (to_head b)
    (record { words = (apart, tt); few = omega arith }))

run_parts : (a n m k : ℕ) (xs ys zs : List SequenceItem) → IsRunPart a n xs → IsRunPart a m ys
    → IsRunPart a k zs → IsRunPart a (n + m + k) (xs ++ (ys ++ zs))
run_parts a n m k xs ys zs h g f =
    let one = idle_append ys zs in
    let all = idle_append xs (ys ++ zs) in
    let x = h.few in
    let y = g.few in
    let z = f.few in
    record {
      words = run_append a xs (ys ++ zs) h.words (run_append a ys zs g.words f.words);
      few = omega (arith, one, all, x, y, z);
    }

pub is_batch : (code : ℕ → Option Instr) (e : PlanEntry)
    → IsRunPart e.address 26 (batch_sequence code e)
is_batch code e = go (code_from code e.address e.run)
  where
    part : List Instr → List SequenceItem
    part is = batch_items e.address e.batch is Head
        ++ (batch_items e.address e.batch is Fast ++ batch_items e.address e.batch is Fallback)

    go : (is : List Instr) → IsRunPart e.address 26 (part is)
    go [] = record { words = tt; few = omega arith }
    go (i ∷ is) =
        let behind = e.address + 4 * length (i ∷ is) in
        let apart : behind ≢ e.address = (λ same. omega (arith, same)) in
        run_parts e.address 19 4 3 _ _ _ (run_head e.address e.batch (reach_of (i ∷ is)) _)
        (run_fast e.address behind e.batch (i ∷ is) apart)
        (run_reloads e.address 0 e.batch [] (run_none e.address))
