-- The kinds of the words of a sequence.
use Rattle.std.proofs.Common.{◌≡◌, ℕ, ℤ, ◌+◌, ◌-◌, ◌*◌, ◌≤◌, ◌<◌, Bool, true, false, cond, List, [], ◌∷◌, ◌++◌, map, length, replicate, Option, refl, sym, ap, ◌∙◌, arith, append_assoc}
use Rattle.std.proofs.lemmas.List.{append-nil, length-append, length-map, length-replicate}
use Rattle.rv32_decode.specs.declared.Instr.{Instr}
use Rattle.rv32_decode.specs.declared.Width.{Width}
use Rattle.templates.specs.declared.places.Part.{Part}
use Rattle.templates.specs.declared.places.Part.TheVariants.{Single, Head, Fast, Fallback}
use Rattle.templates.specs.declared.plans.Template.{Template}
use Rattle.templates.specs.declared.plans.Scratches.{Scratches}
use Rattle.templates.specs.declared.plans.PlanEntry.{PlanEntry}
use Rattle.templates.specs.Counting.{spilled_count}
use Rattle.templates.specs.declared.reaches.Reach.{Reach}
use Rattle.templates.specs.Runs.{IsRun, reach_of, code_from}
use Rattle.templates.specs.Sequences.{SequenceItem, spill_by, reload_by, read_sequence, write_sequence, flag_load_sequence, head_items, mask_readable, run_items, fast_items, fallback_items, to_head, reloads_of_run, batch_items, items_in}
use Rattle.templates.specs.Writing.{run_states, run_wait}
use Rattle.check_costs.specs.declared.kinds.WordKind.{WordKind}
use Rattle.check_costs.specs.declared.kinds.WordKind.TheVariants.{Own, Batch, Spill}
use Rattle.check_costs.specs.Kinds.{check_of, kind_of, kinds_in, kinds_of}
use Rattle.check_costs.specs.Given.{access_kinds, flag_load_kinds, kinds_of_batch}

abbrev one : Bool → ℕ
one b = cond b 1 0

-- two registers that are spilled first
saved : (t : Template) (part : Part) (b c : Bool) (m n r q : ℕ) (rest : List SequenceItem)
    → map (kind_of t part) (spill_by b m r (spill_by c n q rest))
    ≡ replicate (one b + one c) Spill ++ map (kind_of t part) rest
saved t part true true m n r q rest = refl
saved t part true false m n r q rest = refl
saved t part false true m n r q rest = refl
saved t part false false m n r q rest = refl

-- and come back last
restored : (t : Template) (part : Part) (b c : Bool) (m n r q : ℕ)
    → map (kind_of t part) (reload_by b m r (reload_by c n q [])) ≡ replicate (one b + one c) Spill
restored t part true true m n r q = refl
restored t part true false m n r q = refl
restored t part false true m n r q = refl
restored t part false false m n r q = refl

pub read_is : (t : Template) (x : Scratches) (w : Width) (rs1 : ℕ) (imm : ℤ) (i : Instr)
    → map (kind_of t Single) (read_sequence x w rs1 imm i) ≡ access_kinds t x 8
read_is t x w rs1 imm i =
    saved t Single x.s.spilled x.t.spilled 0 1 x.s.register x.t.register _
    ∙ ap (λ ks. replicate (spilled_count x) Spill ++ (replicate 8 (check_of t) ++ Own ∷ ks))
    (restored t Single x.s.spilled x.t.spilled 0 1 x.s.register x.t.register)

pub write_is : (t : Template) (x : Scratches) (w : Width) (rs1 : ℕ) (imm : ℤ) (i : Instr)
    → map (kind_of t Single) (write_sequence x w rs1 imm i) ≡ access_kinds t x 7
write_is t x w rs1 imm i =
    saved t Single x.s.spilled x.t.spilled 0 1 x.s.register x.t.register _
    ∙ ap (λ ks. replicate (spilled_count x) Spill ++ (replicate 7 (check_of t) ++ Own ∷ ks))
    (restored t Single x.s.spilled x.t.spilled 0 1 x.s.register x.t.register)

pub flag_load_is : (t : Template) (x : Scratches) (rd rs1 : ℕ) (imm : ℤ)
    → map (kind_of t Single) (flag_load_sequence x rd rs1 imm) ≡ flag_load_kinds t x
flag_load_is t x rd rs1 imm = by x.s.spilled refl
  where
    by : (b : Bool) → x.s.spilled ≡ b
        → map (kind_of t Single) (flag_load_sequence x rd rs1 imm) ≡ flag_load_kinds t x
    by true e = simp e refl
    by false e = simp e refl

-- The words of a batch

-- how many registers a run's check spills
abbrev spilled : Scratches → ℕ
spilled x = length (reloads_of_run x [])

saved_first : (t : Template) (part : Part) (b c d : Bool) (l m n r q p : ℕ) (rest : List SequenceItem)
    → map (kind_of t part) (spill_by b l r (spill_by c m q (spill_by d n p rest)))
    ≡ replicate (length (reload_by b l r (reload_by c m q (reload_by d n p [])))) Spill ++ map (kind_of t part) rest
saved_first t part true true true l m n r q p rest = refl
saved_first t part true true false l m n r q p rest = refl
saved_first t part true false true l m n r q p rest = refl
saved_first t part true false false l m n r q p rest = refl
saved_first t part false true true l m n r q p rest = refl
saved_first t part false true false l m n r q p rest = refl
saved_first t part false false true l m n r q p rest = refl
saved_first t part false false false l m n r q p rest = refl

back_first : (t : Template) (part : Part) (b c d : Bool) (l m n r q p : ℕ) (rest : List SequenceItem)
    → map (kind_of t part) (reload_by b l r (reload_by c m q (reload_by d n p rest)))
    ≡ replicate (length (reload_by b l r (reload_by c m q (reload_by d n p [])))) Spill ++ map (kind_of t part) rest
back_first t part true true true l m n r q p rest = refl
back_first t part true true false l m n r q p rest = refl
back_first t part true false true l m n r q p rest = refl
back_first t part true false false l m n r q p rest = refl
back_first t part false true true l m n r q p rest = refl
back_first t part false true false l m n r q p rest = refl
back_first t part false false true l m n r q p rest = refl
back_first t part false false false l m n r q p rest = refl

-- the check behind the spills
check_kinds : (t : Template) (x : Scratches) (r : Reach) (stores : Bool) (n : ℕ)
    → map (kind_of t Head) (run_states x r (mask_readable stores x.s.register (run_wait x r n)))
    ≡ replicate (15 + cond stores 0 1) Batch
check_kinds t x r true n = refl
check_kinds t x r false n = refl

head_kinds : (t : Template) (x : Scratches) (r : Reach) (n : ℕ)
    → map (kind_of t Head) (head_items x r n)
    ≡ replicate (spilled x) Spill ++ replicate (15 + cond r.stores 0 1) Batch
head_kinds t x r n =
    saved_first t Head x.s.spilled x.t.spilled x.u.spilled 0 1 2 x.s.register x.t.register x.u.register _
    ∙ ap (λ ks. replicate (spilled x) Spill ++ ks) (check_kinds t x r r.stores n)

head_length : (t : Template) (x : Scratches) (r : Reach) (n : ℕ)
    → length (head_items x r n) ≡ spilled x + (15 + cond r.stores 0 1)
head_length t x r n =
    let k = length-map (head_items x r n) (kind_of t Head) in
    let m = ap length (head_kinds t x r n) in
    let a = length-append (replicate (spilled x) Spill) (replicate (15 + cond r.stores 0 1) Batch) in
    let b = length-replicate (spilled x) Spill in
    let c = length-replicate (15 + cond r.stores 0 1) Batch in
    omega (arith, k, m, a, b, c)

run_kinds : (t : Template) (is : List Instr) (rest : List SequenceItem)
    → map (kind_of t Fast) (run_items is rest) ≡ replicate (length is) Own ++ map (kind_of t Fast) rest
run_kinds t [] rest = refl
run_kinds t (i ∷ is) rest = ap (λ ks. Own ∷ ks) (run_kinds t is rest)

fast_kinds : (t : Template) (x : Scratches) (is : List Instr) (behind : ℕ)
    → map (kind_of t Fast) (fast_items x is behind)
    ≡ replicate (spilled x) Spill ++ (replicate (length is) Own ++ Batch ∷ [])
fast_kinds t x is behind =
    back_first t Fast x.s.spilled x.t.spilled x.u.spilled 0 1 2 x.s.register x.t.register x.u.register
    (run_items is (to_head behind))
    ∙ ap (λ ks. replicate (spilled x) Spill ++ ks) (run_kinds t is (to_head behind))

fallback_kinds : (t : Template) (x : Scratches)
    → map (kind_of t Fallback) (fallback_items x) ≡ replicate (spilled x) Spill
fallback_kinds t x =
    back_first t Fallback x.s.spilled x.t.spilled x.u.spilled 0 1 2 x.s.register x.t.register x.u.register []
    ∙ append-nil (replicate (spilled x) Spill)

-- the kinds of a batch, of a run of these instructions
abbrev of_parts : Template → ℕ → Scratches → List Instr → List WordKind
of_parts t a x is =
    map (kind_of t Head) (batch_items a x is Head) ++ (map (kind_of t Fast) (batch_items a x is Fast)
    ++ map (kind_of t Fallback) (batch_items a x is Fallback))

-- as they are pushed, one behind another
abbrev pushed : (ks : List WordKind) (count head run : ℕ) → List WordKind
pushed ks n head run =
    ((((((ks ++ replicate n Spill) ++ replicate (head - n) Batch) ++ replicate n Spill) ++ replicate run Own)
    ++ Batch ∷ []) ++ replicate n Spill)

regroup : (a b c d e f ks : List WordKind)
    → (((((ks ++ a) ++ b) ++ c) ++ d) ++ e) ++ f ≡ ks ++ ((a ++ b) ++ ((c ++ (d ++ e)) ++ f))
regroup a b c d e f ks =
    append_assoc ((((ks ++ a) ++ b) ++ c) ++ d) e f
    ∙ append_assoc (((ks ++ a) ++ b) ++ c) d (e ++ f)
    ∙ append_assoc ((ks ++ a) ++ b) c (d ++ (e ++ f))
    ∙ append_assoc (ks ++ a) b (c ++ (d ++ (e ++ f)))
    ∙ append_assoc ks a (b ++ (c ++ (d ++ (e ++ f))))
    ∙ ap (λ xs. ks ++ xs) (sym (append_assoc a b (c ++ (d ++ (e ++ f))))
    ∙ ap (λ xs. (a ++ b) ++ xs) (sym (ap (λ xs. c ++ xs) (append_assoc d e f))
    ∙ sym (append_assoc c (d ++ e) f)))

pushed_is : (t : Template) (a : ℕ) (x : Scratches) (is : List Instr) (head : ℕ) (ks : List WordKind)
    → 0 < length is → head ≡ length (batch_items a x is Head)
    → pushed ks (spilled x) head (length is) ≡ ks ++ of_parts t a x is
pushed_is t a x [] head ks some count = absurd (omega (arith, some))
pushed_is t a x (i ∷ is) head ks some count =
    let n = length (fast_items x (i ∷ is) (a + 4 * length (i ∷ is))) in
    let r = reach_of (i ∷ is) in
    let long : head ≡ spilled x + (15 + cond r.stores 0 1) = count ∙ head_length t x r n in
    let rest : head - spilled x ≡ 15 + cond r.stores 0 1 = omega (arith, long) in
    regroup (replicate (spilled x) Spill) (replicate (head - spilled x) Batch) (replicate (spilled x) Spill)
    (replicate (length (i ∷ is)) Own) (Batch ∷ []) (replicate (spilled x) Spill) ks
    ∙ (λ j. ks ++ ((replicate (spilled x) Spill ++ replicate (rest j) Batch)
    ++ ((replicate (spilled x) Spill ++ (replicate (length (i ∷ is)) Own ++ Batch ∷ [])) ++ replicate (spilled x) Spill)))
    ∙ sym (λ j. ks ++ (head_kinds t x r n j ++ (fast_kinds t x (i ∷ is) (a + 4 * length (i ∷ is)) j ++ fallback_kinds t x j)))

-- a run has its words
some_words : (code : ℕ → Option Instr) (a n : ℕ) → IsRun code a n → 0 < length (code_from code a n)
some_words code a n run = let some = run.some in let coded = run.coded in omega (arith, some, coded)

pub batch_is : (code : ℕ → Option Instr) (e : PlanEntry) (n head : ℕ) (ks : List WordKind)
    → IsRun code e.address e.run → n ≡ length (reloads_of_run e.batch [])
    → head ≡ length (items_in code e Head)
    → pushed ks n head e.run ≡ ks ++ kinds_of_batch code e
batch_is code e n head ks run few long =
    let is = code_from code e.address e.run in
    (λ j. pushed ks (few j) head (sym run.coded j))
    ∙ pushed_is e.template e.address e.batch is head ks (some_words code e.address e.run run) long

-- the batch needs no more registers than its head has words
pub spills_fit : (code : ℕ → Option Instr) (e : PlanEntry) (n head : ℕ) → IsRun code e.address e.run
    → n ≡ length (reloads_of_run e.batch []) → head ≡ length (items_in code e Head) → n ≤ head
spills_fit code e n head run few long =
    by (code_from code e.address e.run) (some_words code e.address e.run run) long
  where
    by : (is : List Instr) → 0 < length is → head ≡ length (batch_items e.address e.batch is Head) → n ≤ head
    by [] some count = absurd (omega (arith, some))
    by (i ∷ is) some count =
        let h = head_length e.template e.batch (reach_of (i ∷ is))
        (length (fast_items e.batch (i ∷ is) (e.address + 4 * length (i ∷ is)))) in
        omega (arith, h, few, count)

-- an entry without a run, and one with a run
pub no_batch : (code : ℕ → Option Instr) (e : PlanEntry) → e.run ≡ 0 → kinds_of code e ≡ kinds_in code e Single
no_batch code e none =
    ap (λ n. map (kind_of e.template Head) (batch_items e.address e.batch (code_from code e.address n) Head)
    ++ (map (kind_of e.template Fast) (batch_items e.address e.batch (code_from code e.address n) Fast)
    ++ (map (kind_of e.template Fallback) (batch_items e.address e.batch (code_from code e.address n) Fallback)
    ++ kinds_in code e Single))) none

pub batch_first : (code : ℕ → Option Instr) (e : PlanEntry) (ks : List WordKind)
    → (ks ++ kinds_of_batch code e) ++ kinds_in code e Single ≡ ks ++ kinds_of code e
batch_first code e ks =
    append_assoc ks (kinds_of_batch code e) (kinds_in code e Single)
    ∙ ap (λ xs. ks ++ xs) (append_assoc (kinds_in code e Head) (kinds_in code e Fast ++ kinds_in code e Fallback)
    (kinds_in code e Single)
    ∙ ap (λ xs. kinds_in code e Head ++ xs)
    (append_assoc (kinds_in code e Fast) (kinds_in code e Fallback) (kinds_in code e Single)))

pub then_push : {xs ys : List WordKind} (zs : List WordKind) → xs ≡ ys → xs ++ zs ≡ ys ++ zs
then_push zs h = ap (λ ks. ks ++ zs) h
