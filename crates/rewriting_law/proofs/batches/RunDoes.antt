-- The batch of a run: from the head of its place to the place behind the run, or to the place's own
-- sequence.
use Rattle.std.proofs.Common.{◌≡◌, ◌≢◌, ℕ, zero, suc, ◌+◌, ◌-◌, ◌*◌, ◌%◌, ◌^◌, ◌<◌, ◌≤◌, cond, eqb, ltb, leb, Bool, true, false, List, [], ◌∷◌, ◌++◌, length, Option, Some, None, refl, sym, ap, ◌∙◌, subst, inl, inr, arith}
use Rattle.std.specs.Prelude.{pos, not, ◌&&◌, bit_and, bit_or, IsSome}
use Rattle.std.proofs.lemmas.Bool.Decides.{eqb_tells, nat_tests}
use Rattle.rewriting_law.proofs.Names.{unsigned, Instr, OpImm, Op, Branch, Jal, Eq, taken, Program, IsAccepted, class_at, line_of, offset_address, Live, uses, passes, Sets, reg, branch_demand, Processor, next_pc, Native, Batch, Never, Head, Fast, Fallback, Scratch, Scratches, PlanEntry, IsPlace, StartsRun, Reach, reach_of, code_from, IsRunScratch, HasRunScratches, SequenceItem, own, checking, committing, to_head, spill_by, spill, reload_by, reload, state_look, spills_of_run, reloads_of_run, mask_readable, head_items, run_items, fast_items, fallback_items, batch_items, batch_sequence, reload_count, address_in, Need, ProcessorState, NodeMemory, WordOutcome, Want, To, Waits, ByLines, only_moves, native, batch, fall_back, past_next, meets_need, refuses_need, need_of_run, execute}
use Rattle.rv32_decode.specs.declared.ImmOp.TheVariants as imm_op
use Rattle.rv32_decode.specs.declared.Op.TheVariants as op
use Rattle.rewriting_law.proofs.templates.RegisterLemmas.{apart, equal, reg_zero, put_here, put_other, put_zero}
use Rattle.rewriting_law.proofs.templates.States.{Suits, Later}
use Rattle.rewriting_law.proofs.templates.Does.{SequenceKind, OfRun, place_of, place_in_batch, AtHead, Rest, Seeks, IsWanted, AreWanted, lane_at, skip_to, Leads, Does, does_later}
use Rattle.rewriting_law.proofs.templates.Mids.{Hide, Shown, Holds, IsHidden, hide, shown, hiding, Free, Mid, with_reg, hide_hidden, alu_add, alu_and, alu_or, taken_zero, spill_0, spill_1, spill_2, words_if, look_again, next_aligned, mid_at, own_set, read_shown, own_next, own_sets, own_jumps, spill_does, reload_does, look_does, look_again_does, shown_mid, shown_head}
use Rattle.rewriting_law.proofs.batches.RunStretches.{StandAt, IsStretch, stretch_of, low_stands, high_stands}
use Rattle.rewriting_law.proofs.batches.RunLines.{BothServe, serves_later, masked, both_met, serves_if, shared_if, unmet_if}
use Rattle.rewriting_law.proofs.batches.RunWords.{words_do}

-- the words of a batch's head before other words
abbrev wants_then : Scratches → Reach → ℕ → List SequenceItem → List SequenceItem
wants_then x reach fast rest =
    own (OpImm imm_op.Add x.s.register reach.base reach.low)
    (own (OpImm imm_op.Add x.u.register reach.base reach.high)
    (checking (Batch reach.stores x.s.register x.u.register)
    (own (Jal 0 (pos (4 * (fast + 1)))) rest)))

abbrev test_then : Scratches → Reach → ℕ → List SequenceItem → List SequenceItem
test_then x reach fast rest = own (Branch Eq x.s.register 0 (pos 20)) (wants_then x reach fast rest)

abbrev looks_then : Scratches → Reach → List SequenceItem → List SequenceItem
looks_then x reach rest =
    state_look x reach.base reach.low (look_again x reach.base reach.high
    (own (Op op.Or x.s.register x.s.register x.u.register) rest))

abbrev head_then : Scratches → Reach → ℕ → List SequenceItem → List SequenceItem
head_then x reach fast rest =
    spills_of_run x (looks_then x reach
    (mask_readable reach.stores x.s.register (test_then x reach fast rest)))

spill_more : (b : Bool) (k r : ℕ) (rest ys : List SequenceItem)
    → spill_by b k r rest ++ ys ≡ spill_by b k r (rest ++ ys)
spill_more true k r rest ys = refl
spill_more false k r rest ys = refl

reload_more : (b : Bool) (k r : ℕ) (rest ys : List SequenceItem)
    → reload_by b k r rest ++ ys ≡ reload_by b k r (rest ++ ys)
reload_more true k r rest ys = refl
reload_more false k r rest ys = refl

mask_more : (b : Bool) (s : ℕ) (rest ys : List SequenceItem)
    → mask_readable b s rest ++ ys ≡ mask_readable b s (rest ++ ys)
mask_more true s rest ys = refl
mask_more false s rest ys = refl

run_more : (is : List Instr) (rest ys : List SequenceItem)
    → run_items is rest ++ ys ≡ run_items is (rest ++ ys)
run_more [] rest ys = refl
run_more (i ∷ is) rest ys = ap (committing (Native i)) (run_more is rest ys)

head_more : (x : Scratches) (reach : Reach) (fast : ℕ) (ys : List SequenceItem)
    → head_items x reach fast ++ ys ≡ head_then x reach fast ys
head_more x reach fast ys =
    let s = x.s.register in
    let mask = mask_readable reach.stores s (test_then x reach fast []) in
    let rest2 = spill 2 x.u (looks_then x reach mask) in
    spill_more x.s.spilled 0 s (spill 1 x.t rest2) ys
    ∙ ap (spill_by x.s.spilled 0 s) (spill_more x.t.spilled 1 x.t.register rest2 ys
    ∙ ap (spill_by x.t.spilled 1 x.t.register)
    (spill_more x.u.spilled 2 x.u.register (looks_then x reach mask) ys
    ∙ ap (λ zs. spill_by x.u.spilled 2 x.u.register (looks_then x reach zs))
    (mask_more reach.stores s (test_then x reach fast []) ys)))

reloads_more : (x : Scratches) (rest ys : List SequenceItem)
    → reloads_of_run x rest ++ ys ≡ reloads_of_run x (rest ++ ys)
reloads_more x rest ys =
    reload_more x.s.spilled 0 x.s.register (reload 1 x.t (reload 2 x.u rest)) ys
    ∙ ap (reload_by x.s.spilled 0 x.s.register)
    (reload_more x.t.spilled 1 x.t.register (reload 2 x.u rest) ys
    ∙ ap (reload_by x.t.spilled 1 x.t.register) (reload_more x.u.spilled 2 x.u.register rest ys))

-- how many words they are
spill_length : (b : Bool) (k r : ℕ) (rest : List SequenceItem)
    → length (spill_by b k r rest) ≡ words_if b + length rest
spill_length true k r rest = omega arith
spill_length false k r rest = omega arith

reload_length : (b : Bool) (k r : ℕ) (rest : List SequenceItem)
    → length (reload_by b k r rest) ≡ words_if b + length rest
reload_length true k r rest = omega arith
reload_length false k r rest = omega arith

mask_length : (b : Bool) (s : ℕ) (rest : List SequenceItem)
    → length (mask_readable b s rest) ≡ words_if (not b) + length rest
mask_length true s rest = omega arith
mask_length false s rest = omega arith

-- how many registers are kept
abbrev kept : Scratches → ℕ
kept x = words_if x.s.spilled + (words_if x.t.spilled + words_if x.u.spilled)

head_length : (x : Scratches) (reach : Reach) (fast : ℕ)
    → length (head_items x reach fast) ≡ kept x + (15 + words_if (not reach.stores))
head_length x reach fast =
    let s = x.s.register in
    let test = test_then x reach fast [] in
    let mask = mask_readable reach.stores s test in
    let looks = looks_then x reach mask in
    let e = spill_length x.s.spilled 0 s (spill 1 x.t (spill 2 x.u looks)) in
    let f = spill_length x.t.spilled 1 x.t.register (spill 2 x.u looks) in
    let g = spill_length x.u.spilled 2 x.u.register looks in
    let h = mask_length reach.stores s test in
    let i : length looks ≡ 10 + length mask = omega arith in
    let j : length test ≡ 5 = omega arith in
    omega (arith, e, f, g, h, i, j)

reloads_length : (x : Scratches) → reload_count x ≡ kept x
reloads_length x =
    let e = reload_length x.s.spilled 0 x.s.register (reload 1 x.t (reload 2 x.u [])) in
    let f = reload_length x.t.spilled 1 x.t.register (reload 2 x.u []) in
    let g = reload_length x.u.spilled 2 x.u.register [] in
    omega (arith, e, f, g)

holds_zero : (x : Hide) (r v : ℕ) (q : Processor) (l : ProcessorState) → Holds x r q l
    → Holds x r q (with_reg l 0 v)
holds_zero Shown r v q l h = put_zero l.registers v r ∙ h
holds_zero other r v q l h = h

-- so many words on from the next, as a jump goes
skips_to : (s at : ℕ) → skip_to s (next_pc at) ≡ offset_address at (pos (4 * (s + 1)))
skips_to zero at = omega arith
skips_to (suc s) at =
    let e : offset_address (next_pc at) (pos (4 * (s + 1)))
    ≡ offset_address at (pos (4 * (suc s + 1))) = omega arith in
    skips_to s (next_pc at) ∙ e

free_hide : (spilled : Bool) (k j : ℕ) → k ≢ j → Free j (hide spilled k)
free_hide true k j e = e
free_hide false k j e = tt

free_1 : (b : Bool) (s r : ℕ) → Free 1 (hiding b 0 s shown r)
free_1 b s r = go (eqb r s)
  where
    go : (c : Bool) → Free 1 (cond c (hide b 0) Shown)
    go true = free_hide b 0 1 (λ e. omega arith)
    go false = tt

free_2 : (b c : Bool) (s t r : ℕ) → Free 2 (hiding c 1 t (hiding b 0 s shown) r)
free_2 b c s t r = go (eqb r t) (eqb r s)
  where
    go : (d e : Bool) → Free 2 (cond d (hide c 1) (cond e (hide b 0) Shown))
    go true e = free_hide c 1 2 (λ e. omega arith)
    go false true = free_hide b 0 2 (λ e. omega arith)
    go false false = tt

-- the place behind a run is one
behind_run : (program : Program) → IsAccepted program → (is : List Instr) (a : ℕ)
    → StandAt program.code a is → 1 ≤ length is → IsPlace program.code (a + 4 * length is)
behind_run program accepted [] a stand some = absurd (omega (arith, some))
behind_run program accepted (i ∷ []) a stand some = go (program.code (a + 4 * 1)) refl
  where
    go : (o : Option Instr) → program.code (a + 4 * 1) ≡ o → IsPlace program.code (a + 4 * 1)
    go (Some j) e = inl (subst IsSome (sym e) refl)
    go None e =
        let m = accepted.aligned a i stand.0 in
        inr (record {
          aligned = omega (arith, m);
          no_code = e;
          from = a;
          instruction = i;
          there = stand.0;
          leads = inl (omega arith);
        })
behind_run program accepted (i ∷ j ∷ js) a stand some =
    let e : a + 4 + 4 * length (j ∷ js) ≡ a + 4 * length (i ∷ j ∷ js) = omega arith in
    subst (IsPlace program.code) e
    (behind_run program accepted (j ∷ js) (a + 4) stand.1 (omega arith))

module _ (program : Program) (accepted : IsAccepted program) (place : ℕ → ℕ) (a : ℕ) where
  abbrev kind : SequenceKind
  kind = OfRun place

  skip_all : (xs ys : List SequenceItem) (k at : ℕ) (q : Processor) (l : ProcessorState) (n : NodeMemory)
      → ((j to : ℕ) → Does program kind a j to ys 0 q l n)
      → Does program kind a k at (xs ++ ys) (length xs) q l n
  skip_all [] ys k at q l n go = go k at
  skip_all (x ∷ xs) ys k at q l n go = skip_all xs ys (k + 1) (next_pc at) q l n go

  jump_over : (s k at : ℕ) (rest : List SequenceItem) (q : Processor) (l : ProcessorState) (n : NodeMemory)
      → at % 4 ≡ 0
      → ((x y : ℕ) → Does program kind a (k + 1) (next_pc at) rest s q
      (lane_at x y (with_reg l 0 (next_pc at))) n)
      → Does program kind a k at (own (Jal 0 (pos (4 * (s + 1)))) rest) 0 q l n
  jump_over s k at rest q l n al go = λ n' since.
      let to = offset_address at (pos (4 * (s + 1))) in
      let four : to % 4 ≡ 0 = omega (arith, al) in
      let acts : execute program (place_of kind a k) at (Native (Jal 0 (pos (4 * (s + 1))))) l n'
      ≡ only_moves (with_reg l 0 (next_pc at)) n' (To to) = rw (equal (to % 4) 0 four) refl in
      subst (λ (r : WordOutcome). Leads program kind a k at
      (λ z. Does program kind a (k + 1) (next_pc at) rest z) q n' r Never r.move) (sym acts) (
        s,
        sym (skips_to s at),
        (
          refl,
          refl,
          λ x y.
              does_later program kind a (k + 1) (next_pc at) rest s q
              (lane_at x y (with_reg l 0 (next_pc at))) n n' (since.1 refl) (go x y),
          refl,
        ),
      )

  module _ (x : Scratches) (base : ℕ) (scratch : HasRunScratches program.code a base x) where
    abbrev s : ℕ
    s = x.s.register

    abbrev t : ℕ
    t = x.t.register

    abbrev u : ℕ
    u = x.u.register

    -- where the registers are between the spills and the reloads
    abbrev hides : ℕ → Hide
    hides = hiding x.s.spilled 0 s (hiding x.t.spilled 1 t (hiding x.u.spilled 2 u shown))

    not_live : (y : Scratch) → IsRunScratch program.code a base y → y.spilled ≡ false
        → Live program.code y.register a → ⊥
    not_live y free spared (uses j e w) = (free.dead spared j e).unused w
    not_live y free spared (passes j b e d w v) = elim (free.dead spared j e).dead [
      | inl defines ↦ d defines
      | inr after ↦ after.dead b w v
    ]

    base_shown : hides base ≡ Shown
    base_shown = rw (
      apart base s (λ z. scratch.s.other (sym z)),
      apart base t (λ z. scratch.t.other (sym z)),
      apart base u (λ z. scratch.u.other (sym z)),
    )
        refl

    hidden_s : IsHidden (hides s)
    hidden_s = rw (equal s s refl) (hide_hidden x.s.spilled 0)

    hidden_t : IsHidden (hides t)
    hidden_t = rw (apart t s (λ z. scratch.s_t (sym z)), equal t t refl)
        (hide_hidden x.t.spilled 1)

    hidden_u : IsHidden (hides u)
    hidden_u = rw (
      apart u s (λ z. scratch.s_u (sym z)),
      apart u t (λ z. scratch.t_u (sym z)),
      equal u u refl,
    ) (hide_hidden x.u.spilled 2)

    -- the three registers spilled, or dead
    with_three : (k at : ℕ) (q : Processor) (l : ProcessorState) (n : NodeMemory) (rest : List SequenceItem)
        → AtHead program a q l → at % 4 ≡ 0
        → ((j to : ℕ) (l' : ProcessorState) → j ≡ k + kept x → to % 4 ≡ 0 → Mid program hides a q l'
        → Does program kind a j to rest 0 q l' n)
        → Does program kind a k at (spills_of_run x rest) 0 q l n
    with_three k at q l n rest head al next =
        spill_does program kind a x.s.spilled 0 s k at shown q l n
        (spill 1 x.t (spill 2 x.u rest)) spill_0 refl (λ r. tt) (not_live x.s scratch.s) (shown_mid program a q l head) al
        (λ j1 to1 l1 e1 al1 m1.
        spill_does program kind a x.t.spilled 1 t j1 to1 (hiding x.s.spilled 0 s shown) q l1 n
        (spill 2 x.u rest) spill_1 (rw (apart t s (λ z. scratch.s_t (sym z))) refl)
        (free_1 x.s.spilled s) (not_live x.t scratch.t) m1 al1 (λ j2 to2 l2 e2 al2 m2.
        spill_does program kind a x.u.spilled 2 u j2 to2
        (hiding x.t.spilled 1 t (hiding x.s.spilled 0 s shown)) q l2 n rest spill_2
        (rw (apart u t (λ z. scratch.t_u (sym z)), apart u s (λ z. scratch.s_u (sym z))) refl)
        (free_2 x.s.spilled x.t.spilled s t) (not_live x.u scratch.u) m2 al2
        (λ j3 to3 l3 e3 al3 m3. next j3 to3 l3 (omega (arith, e1, e2, e3)) al3 (record {
          place = m3.place;
          running = m3.running;
          private = m3.private;
          written = m3.written;
          agree = λ r live. subst (λ z. Holds z r q l3) (order r) (m3.agree r live);
        }))))
      where
        order : (r : ℕ) → hiding x.u.spilled 2 u
            (hiding x.t.spilled 1 t (hiding x.s.spilled 0 s shown)) r ≡ hides r
        order r = elim (eqb_tells r s) [
          | inl f ↦ rw (
            f.0,
            apart r t (λ z. scratch.s_t (sym f.1 ∙ z)),
            apart r u (λ z. scratch.s_u (sym f.1 ∙ z)),
          ) refl
          | inr f ↦ (elim (eqb_tells r t) [
            | inl g ↦ rw (f.0, g.0, apart r u (λ z. scratch.t_u (sym g.1 ∙ z))) refl
            | inr g ↦ rw (f.0, g.0) refl
          ])
        ]

    -- and shown again
    three_back : (k at b : ℕ) (q : Processor) (l : ProcessorState) (n : NodeMemory) (rest : List SequenceItem)
        → Mid program hides b q l
        → ((j to : ℕ) (l' : ProcessorState) → j ≡ k + kept x → Mid program shown b q l'
        → Does program kind a j to rest 0 q l' n)
        → Does program kind a k at (reloads_of_run x rest) 0 q l n
    three_back k at b q l n rest m next =
        reload_does program kind a x.s.spilled 0 s k at b
        (hiding x.t.spilled 1 t (hiding x.u.spilled 2 u shown)) q l n
        (reload 1 x.t (reload 2 x.u rest)) spill_0 scratch.s.nonzero
        (rw (apart s t scratch.s_t, apart s u scratch.s_u) refl) m (λ j1 to1 l1 e1 m1.
        reload_does program kind a x.t.spilled 1 t j1 to1 b (hiding x.u.spilled 2 u shown) q l1 n
        (reload 2 x.u rest) spill_1 scratch.t.nonzero (rw (apart t u scratch.t_u) refl) m1
        (λ j2 to2 l2 e2 m2.
        reload_does program kind a x.u.spilled 2 u j2 to2 b shown q l2 n rest spill_2
        scratch.u.nonzero refl m2
        (λ j3 to3 l3 e3 m3. next j3 to3 l3 (omega (arith, e1, e2, e3)) m3)))

    zero_kept : (q : Processor) (l : ProcessorState) (v : ℕ) → Mid program hides a q l
        → Mid program hides a q (with_reg l 0 v)
    zero_kept q l v m = record {
      place = m.place;
      running = m.running;
      agree = λ r live. holds_zero (hides r) r v q l (m.agree r live);
      private = m.private;
      written = m.written;
    }

  module _ (x : Scratches) (reach : Reach) (is : List Instr)
      (run : IsStretch program.code a reach is)
      (scratch : HasRunScratches program.code a reach.base x)
      (behind : IsPlace program.code (a + 4 * length is)) where
    abbrev keeps : ℕ → Hide
    keeps = hides x reach.base scratch

    abbrev fast : List SequenceItem
    fast = fast_items x is (a + 4 * length is)

    abbrev back : List SequenceItem
    back = fallback_items x

    abbrev rest : List SequenceItem
    rest = fast ++ back

    -- the number of the first word behind the head
    abbrev head_words : ℕ
    head_words = length (head_items x reach (length fast))

    live_base : Live program.code reach.base a
    live_base = uses run.first run.begins run.by_base

    fast_more : rest ≡ reloads_of_run x (run_items is (to_head (a + 4 * length is) ++ back))
    fast_more =
        reloads_more x (run_items is (to_head (a + 4 * length is))) back
        ∙ ap (reloads_of_run x) (run_more is (to_head (a + 4 * length is)) back)

    module _ (places : (k : ℕ) → k < length is → place (head_words + (kept x + k)) ≡ a + 4 * k)
        (q : Processor) (here : q.pc ≡ a) where
      abbrev low_at : ℕ
      low_at = offset_address (reg q.registers reach.base) reach.low

      abbrev high_at : ℕ
      high_at = offset_address (reg q.registers reach.base) reach.high

      abbrev need : Need
      need = need_of_run reach.stores

      abbrev Serve : NodeMemory → Type 0
      Serve n = BothServe program reach (reg q.registers reach.base) n.state

      -- the fallback
      back_does : (n : NodeMemory) (l : ProcessorState) → Mid program keeps a q l → (j to : ℕ)
          → Does program kind a j to back 0 q l n
      back_does n l m j to =
          three_back x reach.base scratch j to a q l n [] m
          (λ i to2 l2 e mid. shown_head program a q l2 mid)

      -- the fast part
      fast_does : (n : NodeMemory) (l : ProcessorState) → Serve n → Mid program keeps a q l → (j to : ℕ)
          → j ≡ head_words → Does program kind a j to rest 0 q l n
      fast_does n l serve m j to first =
          subst (λ xs. Does program kind a j to xs 0 q l n) (sym fast_more)
          (three_back x reach.base scratch j to a q l n
          (run_items is (to_head (a + 4 * length is) ++ back)) m (λ i to2 l2 e mid.
          words_do program accepted reach run.near (reg q.registers reach.base) a place is i to2 a q
          l2 n (to_head (a + 4 * length is) ++ back) run.stand run.words
          (λ k below. (let same : head_words + (kept x + k) ≡ i + k = omega (arith, first, e) in
          sym (ap place same) ∙ places k below)) refl serve mid (λ i3 to3 p l3 n3 mid3 n4 since.
          (refl, behind, shown_head program (a + 4 * length is) p l3 mid3))))

      -- the jump past it
      jump_does : (k at : ℕ) (l : ProcessorState) (n : NodeMemory) → at % 4 ≡ 0 → Mid program keeps a q l
          → Does program kind a k at (own (Jal 0 (pos (4 * (length fast + 1)))) rest) 0 q l n
      jump_does k at l n al m =
          jump_over (length fast) k at rest q l n al (λ y z.
          let l1 = lane_at y z (with_reg l 0 (next_pc at)) in
          skip_all fast back (k + 1) (next_pc at) q l1 n
          (back_does n l1 (mid_at program a keeps q (with_reg l 0 (next_pc at)) y z
          (zero_kept x reach.base scratch q l (next_pc at) m))))

      -- what the run wants of its lines
      low_sought : (stores : Bool) → reach.stores ≡ stores
          → Seeks program q (need_of_run stores) low_at
      low_sought true e = low_stands program accepted q a reach is run here e
      low_sought false e = tt

      high_sought : (stores : Bool) → reach.stores ≡ stores
          → Seeks program q (need_of_run stores) high_at
      high_sought true e = high_stands program accepted q a reach is run here e
      high_sought false e = tt

      abbrev want : ℕ → Want
      want address = record { at = address; need = need }

      wanted : (n : NodeMemory) → Suits program n → (address : ℕ) → Seeks program q need address
          → refuses_need need (n.state (line_of address)) ≡ false
          → meets_need need (n.state (line_of address)) ≡ false
          → IsWanted program q n (want address)
      wanted n suits address seeks refuses meets = record {
        shared = shared_if reach.stores (class_at program address) (n.state (line_of address))
            (suits.states (line_of address)) refuses meets;
        unmet = unmet_if reach.stores (n.state (line_of address)) meets;
        seeks = seeks;
      }

      both_serve : (n : NodeMemory) → Suits program n
          → meets_need need (n.state (line_of low_at)) ≡ true
          → meets_need need (n.state (line_of high_at)) ≡ true → Serve n
      both_serve n suits low high = record {
        low = serves_if program reach.stores n.state (line_of low_at)
            (suits.states (line_of low_at)) low;
        high = serves_if program reach.stores n.state (line_of high_at)
            (suits.states (line_of high_at)) high;
      }

      -- also where the lower line's state was seen before the other's
      serve_by_turns : (n m : NodeMemory) → Suits program n → Suits program m → Later n m
          → meets_need need (n.state (line_of low_at)) ≡ true
          → meets_need need (m.state (line_of high_at)) ≡ true → Serve m
      serve_by_turns n m suits suited later low high = record {
        low = serves_later program reach.stores n m (line_of low_at) later
            (serves_if program reach.stores n.state (line_of low_at)
            (suits.states (line_of low_at)) low);
        high = serves_if program reach.stores m.state (line_of high_at)
            (suited.states (line_of high_at)) high;
      }

      -- the check of a run
      module _ (k at : ℕ) (l : ProcessorState) (n : NodeMemory) (suits : Suits program n) (there : l.at ≡ at)
          (al : at % 4 ≡ 0) (count : k + 2 ≡ head_words) (m : Mid program keeps a q l) where
        abbrev K : Rest
        K = λ z. Does program kind a (k + 1) (next_pc at)
            (own (Jal 0 (pos (4 * (length fast + 1)))) rest) z

        abbrev outcome : WordOutcome
        outcome = batch l n need low_at high_at

        by_outcome : (r : WordOutcome) → outcome ≡ r → Leads program kind a k at K q n r Never r.move
            → Leads program kind a k at K q n outcome Never outcome.move
        by_outcome r e h =
            subst (λ (z : WordOutcome). Leads program kind a k at K q n z Never z.move) (sym e) h

        jumps : (n' : NodeMemory) (y z : ℕ) → K 0 q (lane_at y z l) n'
        jumps n' y z = jump_does (k + 1) (next_pc at) (lane_at y z l) n' (next_aligned at al)
            (mid_at program a keeps q l y z m)

        runs : (n' : NodeMemory) → Serve n' → (y z : ℕ) → K 1 q (lane_at y z l) n'
        runs n' serve y z = fast_does n' (lane_at y z l) serve (mid_at program a keeps q l y z m)
            (k + 1 + 1) (next_pc (next_pc at)) (omega (arith, count))

        falls : outcome ≡ fall_back l n → Leads program kind a k at K q n outcome Never outcome.move
        falls e = by_outcome (fall_back l n) e (refl, refl, jumps n, refl)

        resumes : (n' : NodeMemory) → Suits program n' → (y z : ℕ) → (b c : Bool)
            → meets_need need (n'.state (line_of low_at)) ≡ b
            → meets_need need (n'.state (line_of high_at)) ≡ c
            → K (cond (b && c) 1 0) q (lane_at y z l) n'
        resumes n' suited y z true true e f = runs n' (both_serve n' suited e f) y z
        resumes n' suited y z true false e f = jumps n' y z
        resumes n' suited y z false c e f = jumps n' y z

        waits : (w : Want) (more : List Want) → length more ≤ 1 → AreWanted program q n (w ∷ more)
            → outcome ≡ only_moves l n (Waits (ByLines need low_at high_at) w more)
            → Leads program kind a k at K q n outcome Never outcome.move
        waits w more few wants e =
            by_outcome (only_moves l n (Waits (ByLines need low_at high_at) w more)) e (
              refl,
              refl,
              refl,
              few,
              wants,
              λ n' suited granted y z. resumes n' suited y z
                  (meets_need need (n'.state (line_of low_at)))
                  (meets_need need (n'.state (line_of high_at))) refl refl,
              refl,
            )

        meets : refuses_need need (n.state (line_of low_at)) ≡ false
            → refuses_need need (n.state (line_of high_at)) ≡ false → (b c : Bool)
            → meets_need need (n.state (line_of low_at)) ≡ b
            → meets_need need (n.state (line_of high_at)) ≡ c
            → Leads program kind a k at K q n outcome Never outcome.move
        meets f g true true d e =
            let to : past_next l.at ≡ skip_to 1 (next_pc at) = ap past_next there in
            by_outcome (only_moves l n (To (past_next l.at))) (rw (f, g, d, e) refl)
            (1, to, (refl, refl, runs n (both_serve n suits d e), refl))
        meets f g true false d e =
            waits (want high_at) [] (omega arith)
            (wanted n suits high_at (high_sought reach.stores refl) g e, tt) (rw (f, g, d, e) refl)
        meets f g false true d e =
            waits (want low_at) [] (omega arith)
            (wanted n suits low_at (low_sought reach.stores refl) f d, tt) (rw (f, g, d, e) refl)
        meets f g false false d e =
            waits (want low_at) (want high_at ∷ []) (omega arith) (
              wanted n suits low_at (low_sought reach.stores refl) f d,
              (wanted n suits high_at (high_sought reach.stores refl) g e, tt),
            ) (rw (f, g, d, e) refl)

        refuses : (b c : Bool) → refuses_need need (n.state (line_of low_at)) ≡ b
            → refuses_need need (n.state (line_of high_at)) ≡ c
            → Leads program kind a k at K q n outcome Never outcome.move
        refuses true c e f = falls (rw e refl)
        refuses false true e f = falls (rw (e, f) refl)
        refuses false false e f =
            meets e f (meets_need need (n.state (line_of low_at)))
            (meets_need need (n.state (line_of high_at))) refl refl

        check_leads : reg l.registers x.s.register ≡ low_at → reg l.registers x.u.register ≡ high_at
            → let r = execute program (place_of kind a k) at
            (Batch reach.stores x.s.register x.u.register) l n in
            Leads program kind a k at K q n r Never r.move
        check_leads e f =
            let acts : execute program (place_of kind a k) at
            (Batch reach.stores x.s.register x.u.register) l n ≡ outcome =
            ap (λ z. batch l n need z (reg l.registers x.u.register)) e
            ∙ ap (λ z. batch l n need low_at z) f in
            subst (λ (z : WordOutcome). Leads program kind a k at K q n z Never z.move) (sym acts)
            (refuses (refuses_need need (n.state (line_of low_at)))
            (refuses_need need (n.state (line_of high_at))) refl refl)

      -- the two addresses, and the check
      wants_do : (k at : ℕ) (l : ProcessorState) (n : NodeMemory) → at % 4 ≡ 0
          → k + 4 ≡ head_words → Mid program keeps a q l
          → Does program kind a k at (wants_then x reach (length fast) rest) 0 q l n
      wants_do k at l n al count m =
          let s = x.s.register in
          let u = x.u.register in
          let rest3 = own (Jal 0 (pos (4 * (length fast + 1)))) rest in
          let rest2 = checking (Batch reach.stores s u) rest3 in
          let rest1 = own (OpImm imm_op.Add u reach.base reach.high) rest2 in
          let shows = base_shown x reach.base scratch in
          let m1 = own_set program a keeps q l s low_at (hidden_s x reach.base scratch) m in
          own_sets program kind a k at (OpImm imm_op.Add s reach.base reach.low) rest1 q l n s
          low_at (ap (Sets s) (alu_add (reg l.registers reach.base) (unsigned 32 reach.low)
          ∙ ap (λ z. (z + unsigned 32 reach.low) % 2 ^ 32)
          (read_shown program a keeps q l reach.base m shows live_base))) (λ y1 z1.
          let l1 = lane_at y1 z1 (with_reg l s low_at) in
          let mid1 = mid_at program a keeps q (with_reg l s low_at) y1 z1 m1 in
          let s1 : reg l1.registers s ≡ low_at =
          put_here l.registers s low_at scratch.s.nonzero in
          let m2 = own_set program a keeps q l1 u high_at (hidden_u x reach.base scratch) mid1 in
          own_sets program kind a (k + 1) (next_pc at) (OpImm imm_op.Add u reach.base reach.high)
          rest2 q l1 n u high_at
          (ap (Sets u) (alu_add (reg l1.registers reach.base) (unsigned 32 reach.high)
          ∙ ap (λ z. (z + unsigned 32 reach.high) % 2 ^ 32)
          (read_shown program a keeps q l1 reach.base mid1 shows live_base)))
          (λ y2 z2 n' since there.
          let l2 = lane_at y2 z2 (with_reg l1 u high_at) in
          let s2 : reg l2.registers s ≡ low_at =
          put_other l1.registers u s high_at scratch.s_u ∙ s1 in
          let u2 : reg l2.registers u ≡ high_at =
          put_here l1.registers u high_at scratch.u.nonzero in
          check_leads (k + 1 + 1) (next_pc (next_pc at)) l2 n' since.0 there
          (next_aligned (next_pc at) (next_aligned at al)) (omega (arith, count))
          (mid_at program a keeps q (with_reg l1 u high_at) y2 z2 m2) s2 u2))

      -- the branch to the fast part, where the register is 0
      test_does : (k at : ℕ) (l : ProcessorState) (n : NodeMemory) → at % 4 ≡ 0
          → k + 5 ≡ head_words → (v : ℕ) → reg l.registers x.s.register ≡ v
          → (eqb v 0 ≡ true → Serve n) → Mid program keeps a q l
          → Does program kind a k at (test_then x reach (length fast) rest) 0 q l n
      test_does k at l n al count v is serve m = go (eqb v 0) refl
        where
          s : ℕ
          s = x.s.register

          to : ℕ
          to = offset_address at (pos 20)

          tests : (b : Bool) → eqb v 0 ≡ b
              → taken Eq (reg l.registers x.s.register) (reg l.registers 0) ≡ b
          tests b e = taken_zero (reg l.registers s) (reg l.registers 0)
              ∙ ap (eqb (reg l.registers s)) (reg_zero l.registers) ∙ ap (λ z. eqb z 0) is ∙ e

          go : (b : Bool) → eqb v 0 ≡ b
              → Does program kind a k at (test_then x reach (length fast) rest) 0 q l n
          go true e =
              let there : to ≡ skip_to 4 (next_pc at) = omega arith in
              own_jumps program kind a 4 k at to (Branch Eq x.s.register 0 (pos 20))
              (wants_then x reach (length fast) rest) q l n (omega (arith, al)) there
              (ap (λ b. branch_demand b to) (tests true e))
              (λ y z. fast_does n (lane_at y z l) (serve e) (mid_at program a keeps q l y z m)
              (k + 1 + 1 + 1 + 1 + 1) (next_pc (next_pc (next_pc (next_pc (next_pc at)))))
              (omega (arith, count)))
          go false e =
              own_next program kind a k at (Branch Eq x.s.register 0 (pos 20))
              (wants_then x reach (length fast) rest) q l l n
              (λ (n' : NodeMemory). ap (λ b. native program (place k) at l n' (branch_demand b to))
              (tests false e))
              (λ y z. wants_do (k + 1) (next_pc at) (lane_at y z l) n (next_aligned at al)
              (omega (arith, count)) (mid_at program a keeps q l y z m))

      -- of a run that only loads, the second bit alone
      mask_does : (stores : Bool) (k at : ℕ) (l : ProcessorState) (n : NodeMemory) → at % 4 ≡ 0
          → k + (5 + words_if (not stores)) ≡ head_words → (v : ℕ)
          → reg l.registers x.s.register ≡ v → (eqb (masked stores v) 0 ≡ true → Serve n)
          → Mid program keeps a q l → Does program kind a k at (mask_readable stores x.s.register
          (test_then x reach (length fast) rest)) 0 q l n
      mask_does true k at l n al count v is serve m =
          test_does k at l n al (omega (arith, count)) v is serve m
      mask_does false k at l n al count v is serve m =
          let s = x.s.register in
          let w = bit_and v 2 in
          own_sets program kind a k at (OpImm imm_op.And s s (pos 2))
          (test_then x reach (length fast) rest) q l n s w
          (ap (Sets s) (alu_and (reg l.registers s) 2 ∙ ap (λ z. bit_and z 2) is)) (λ y z.
          test_does (k + 1) (next_pc at) (lane_at y z (with_reg l s w)) n
          (next_aligned at al) (omega (arith, count)) w
          (put_here l.registers s w scratch.s.nonzero) serve
          (mid_at program a keeps q (with_reg l s w) y z
          (own_set program a keeps q l s w (hidden_s x reach.base scratch) m)))

      -- the states of the two lines, in one register
      looks_do : (k at : ℕ) (l : ProcessorState) (n : NodeMemory) → at % 4 ≡ 0
          → k + (15 + words_if (not reach.stores)) ≡ head_words → Mid program keeps a q l
          → Does program kind a k at (looks_then x reach (mask_readable reach.stores x.s.register
          (test_then x reach (length fast) rest))) 0 q l n
      looks_do k at l n al count m =
          let s = x.s.register in
          let u = x.u.register in
          let shows = base_shown x reach.base scratch in
          let rest3 = mask_readable reach.stores s (test_then x reach (length fast) rest) in
          let rest2 = own (Op op.Or s s u) rest3 in
          let rest1 = look_again x reach.base reach.high rest2 in
          look_does program kind a x reach.base reach.low k at keeps q l n rest1 scratch.s.nonzero
          scratch.t.nonzero scratch.s_t (hidden_s x reach.base scratch)
          (hidden_t x reach.base scratch) shows live_base m al
          (λ (n1 : NodeMemory) suits1 j1 to1 l1 e1 al1 m1 low table.
          look_again_does program kind a x reach.base reach.high j1 to1 keeps q l1 n1 rest2
          scratch.u.nonzero scratch.t_u scratch.s_u (hidden_u x reach.base scratch) shows live_base
          table m1 al1
          (λ (n2 : NodeMemory) suits2 later j2 to2 l2 e2 al2 m2 same high.
          let v = n1.state (line_of low_at) in
          let w = n2.state (line_of high_at) in
          own_sets program kind a j2 to2 (Op op.Or s s u) rest3 q l2 n2 s (bit_or v w)
          (ap (Sets s) (alu_or (reg l2.registers s) (reg l2.registers u)
          ∙ ap (λ z. bit_or z (reg l2.registers u)) (same ∙ low) ∙ ap (λ z. bit_or v z) high))
          (λ y z.
          mask_does reach.stores (j2 + 1) (next_pc to2) (lane_at y z (with_reg l2 s (bit_or v w)))
          n2 (next_aligned to2 al2) (omega (arith, e1, e2, count)) (bit_or v w)
          (put_here l2.registers s (bit_or v w) scratch.s.nonzero)
          (λ h. (let two = both_met reach.stores v w h in
          serve_by_turns n1 n2 suits1 suits2 later two.0 two.1))
          (mid_at program a keeps q (with_reg l2 s (bit_or v w)) y z
          (own_set program a keeps q l2 s (bit_or v w) (hidden_s x reach.base scratch) m2)))))

      head_does : (at : ℕ) (l : ProcessorState) (n : NodeMemory) → at % 4 ≡ 0 → AtHead program a q l
          → Does program kind a 0 at (head_then x reach (length fast) rest) 0 q l n
      head_does at l n al head =
          let count = head_length x reach (length fast) in
          with_three x reach.base scratch 0 at q l n (looks_then x reach
          (mask_readable reach.stores x.s.register (test_then x reach (length fast) rest))) head al
          (λ j to l1 e al1 m.
          looks_do j to l1 n al1 (omega (arith, e, count)) m)

      pub batch_does : (at : ℕ) (l : ProcessorState) (n : NodeMemory) → at % 4 ≡ 0
          → AtHead program a q l
          → Does program kind a 0 at (head_items x reach (length fast) ++ rest) 0 q l n
      batch_does at l n al head =
          subst (λ xs. Does program kind a 0 at xs 0 q l n)
          (sym (head_more x reach (length fast) rest)) (head_does at l n al head)

-- where an original word of the fast part belongs
word_place : (e : PlanEntry) (k : ℕ) → k < e.run
    → address_in e Fast (reload_count e.batch + k) ≡ e.address + 4 * k
word_place e k below =
    let count = reload_count e.batch in
    let from : leb count (count + k) ≡ true = grind (arith, nat_tests) in
    let to : ltb (count + k) (count + e.run) ≡ true = grind (arith, nat_tests) in
    let back : e.address + 4 * (count + k - count) ≡ e.address + 4 * k = omega arith in
    rw (from, to) back

module _ (program : Program) (accepted : IsAccepted program) (e : PlanEntry)
    (starts : StartsRun program.code e) (q : Processor) (l : ProcessorState) (n : NodeMemory) (at : ℕ) where
  abbrev run_code : List Instr
  run_code = code_from program.code e.address e.run

  abbrev place_by : List Instr → ℕ → ℕ
  place_by is k = address_in e Fast (k - length (batch_items e.address e.batch is Head))

  abbrev DoesRun : List Instr → Type 0
  DoesRun is = Does program (OfRun (place_by is)) e.address 0 at
      (batch_items e.address e.batch is Head ++ (batch_items e.address e.batch is Fast
      ++ batch_items e.address e.batch is Fallback)) 0 q l n

  -- from the head of the place of a run
  pub run_does : at % 4 ≡ 0 → AtHead program e.address q l
      → Does program (OfRun (place_in_batch program e)) e.address 0 at
      (batch_sequence program.code e) 0 q l n
  run_does al head = by_code run_code refl
    where
      by_code : (is : List Instr) → run_code ≡ is → DoesRun run_code
      by_code [] same = absurd (omega (arith, ap length same, starts.run.coded, starts.run.some))
      by_code (i ∷ is) same =
          let all = i ∷ is in
          let stretch : IsStretch program.code e.address (reach_of all) all =
          subst (λ xs. IsStretch program.code e.address (reach_of xs) xs) same
          (stretch_of program.code e.address e.run starts.run) in
          let scratch : HasRunScratches program.code e.address (reach_of all).base e.batch =
          subst (λ xs. HasRunScratches program.code e.address (reach_of xs).base e.batch) same
          starts.batch in
          let count : length all ≡ e.run = ap length (sym same) ∙ starts.run.coded in
          let behind = behind_run program accepted all e.address stretch.stand (omega arith) in
          let kept_is = reloads_length e.batch in
          let before = length (batch_items e.address e.batch all Head) in
          subst DoesRun (sym same)
          (batch_does program accepted (place_by all) e.address e.batch (reach_of all) all stretch
          scratch behind (λ k below.
          (let number : before + (kept e.batch + k) - before ≡ reload_count e.batch + k =
          omega (arith, kept_is) in
          ap (address_in e Fast) number ∙ word_place e k (omega (arith, below, count)))) q
          head.place at l n al head)
