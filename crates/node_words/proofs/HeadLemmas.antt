-- The heads of batches: what their words do one after another.
use Rattle.std.proofs.Common.{◌≡◌, ◌≢◌, ℕ, zero, suc, ◌+◌, ◌*◌, ◌/◌, ◌%◌, ◌^◌, ◌<◌, ◌≤◌, [], ◌∷◌, None, if◌then◌else◌, ◌==◌, refl, sym, ap, ◌∙◌, subst, arith}
use Rattle.std.specs.Prelude.{bit_and, bit_or}
use Rattle.rv32_decode.specs.declared.LoadKind.TheVariants as load_kind
use Rattle.rv32_ops.specs.Operations.{alu}
use Rattle.node_memory.specs.rv32_step.Registers.{reg, put}
use Rattle.node_memory.specs.rv32_step.declared.Demand.TheVariants.{Loads, Sets}
use Rattle.node_memory.specs.micro_op.declared.MicroKind.TheVariants as kind
use Rattle.node_memory.specs.micro_op.Micro.{Demands}
use Rattle.node_memory.specs.jump_map.Strides.{AreApart, IsReadHead, IsWriteHead, LooksTwice, Scratch, StandFrom, TakeBack, mask, op_of, second_look, skip}
use Rattle.node_memory.specs.node_model.Node.{ProcessorState, NodeMemory}
use Rattle.node_words.specs.Strides.{left_by_head}
use Rattle.node_words.proofs.ReachLemmas.{Code, Crosses, Reaches, reaches_both, reaches_none}
use Rattle.node_words.proofs.RegisterLemmas.{first_back, put_back, put_here, put_other, put_over, put_swap, put_twice, second_back}
use Rattle.node_words.proofs.OneWord.{keeps, lane_at, loads_state, sets, takes}
use Rattle.node_words.proofs.SequenceLemmas.{begins, first_of, look_reaches, other_of, placed, second_of, skips, stands_too}

-- the five words that read the state byte of a second line, and or both
second_reaches : (c : Code) (k v b u high : ℕ) (x : Scratch) (l : ProcessorState) (m : NodeMemory) (f g : ℕ → ℕ)
    → AreApart x → u ≢ x.s → u ≢ x.t → u ≢ 0 → StandFrom c.micros k (second_look x.s x.t u x.base high)
    → b ≡ (reg f x.base + high) % 2 ^ 32
    → Reaches c k 5 (lane_at l (put (put f x.s v) x.t 0x80000000) g k) m
    (lane_at l (put (put (put f x.s (bit_or v (m.state (b / 64)))) x.t 0x80000000) u (m.state (b / 64))) g (k + 5)) m
unfolding alu
second_reaches c k v b u high x l m f g n u_s u_t u_kept look is =
    let s = x.s in
    let t = x.t in
    let state = m.state (b / 64) in
    let whole = bit_or v state in
    let f0 = put (put f s v) t 0x80000000 in
    let f1 = put f0 u b in
    let f2 = put f0 u (b / 64) in
    let f3 = put f0 u (0x80000000 + b / 64) in
    let f4 = put f0 u state in
    let f5 = put (put (put f s whole) t 0x80000000) u state in
    let small : b < 2 ^ 32 = omega (arith, is) in
    let base : (reg f0 x.base + high) % 2 ^ 32 ≡ b =
    ap (λ (z : ℕ). (z + high) % 4294967296) (other_of f x v 0x80000000 x.base (λ e. n.s_base (sym e)) (λ e. n.t_base (sym e)))
    ∙ sym is in
    let u1 = put_here f0 u b u_kept in
    let u2 = put_here f0 u (b / 64) u_kept in
    let t2 : reg f2 t ≡ 0x80000000 = put_other f0 u t (b / 64) (λ e. u_t (sym e)) ∙ second_of f x v 0x80000000 n in
    let u3 = put_here f0 u (0x80000000 + b / 64) u_kept in
    let place : (reg f2 u + reg f2 t) % 2 ^ 32 ≡ 0x80000000 + b / 64 = omega (arith, u2, t2, small) in
    let address : (reg f3 u + 0) % 2 ^ 32 ≡ 0x80000000 + b / 64 = omega (arith, u3, small) in
    let s4 : reg f4 s ≡ v = put_other f0 u s state (λ e. u_s (sym e)) ∙ first_of f x v 0x80000000 n in
    let u4 = put_here f0 u state u_kept in
    let last : f5 ≡ put f4 s whole =
    sym (put_swap f0 u s state whole u_s ∙ ap (λ (h : ℕ → ℕ). put h u state) (put_over f s t v 0x80000000 whole n.s_t)) in
    let one = sets c k (k + 1) (op_of kind.AddImm u x.base 0 high) u b l m f0 g f1 refl
    (begins c.micros k (second_look s t u x.base high) (op_of kind.AddImm u x.base 0 high) look refl)
    (ap (λ (z : ℕ). Demands (Sets u z)) base) refl in
    let two = sets c (k + 1) (k + 2) (op_of kind.SrlImm u u 0 6) u (b / 64) l m f1 g f2 (omega arith) (look 1 _ refl)
    (ap (λ (z : ℕ). Demands (Sets u (z / 64))) u1) (sym (put_twice f0 u b (b / 64))) in
    let three = sets c (k + 2) (k + 3) (op_of kind.Add u u t 0) u (0x80000000 + b / 64) l m f2 g f3 (omega arith)
    (look 2 _ refl) (ap (λ (z : ℕ). Demands (Sets u z)) place)
    (sym (put_twice f0 u (b / 64) (0x80000000 + b / 64))) in
    let four = loads_state c (k + 3) (k + 4) (op_of kind.LoadByteU u u 0 0) u (b / 64) l m f3 g f4 (omega arith)
    (look 3 _ refl) (ap (λ (z : ℕ). Demands (Loads load_kind.ByteU u z)) address) (omega (arith, small))
    (sym (put_twice f0 u (0x80000000 + b / 64) state)) in
    let five = sets c (k + 4) (k + 5) (op_of kind.Or s s u 0) s whole l m f4 g f5 (omega arith) (look 4 _ refl)
    (λ i. Demands (Sets s (bit_or (s4 i) (u4 i)))) last in
    reaches_both 4 1 5 refl refl (reaches_both 3 1 4 refl refl (reaches_both 2 1 3 refl refl (reaches_both 1 1 2 refl refl one two) three) four)
    five

-- both looks
looks_reach : (c : Code) (k n a b u high : ℕ) (x : Scratch) (l : ProcessorState) (m : NodeMemory) (f g : ℕ → ℕ)
    → LooksTwice c.micros k n x u high → a ≡ (reg f x.base + x.imm) % 2 ^ 32 → b ≡ (reg f x.base + high) % 2 ^ 32
    → Reaches c (k + n) 10 (lane_at l f g (k + n)) m
    (lane_at l (put (put (put f x.s (bit_or (m.state (a / 64)) (m.state (b / 64)))) x.t 0x80000000) u (m.state (b / 64))) g
    (k + n + 5 + 5)) m
looks_reach c k n a b u high x l m f g looks low_is high_is =
    reaches_both 5 5 10 refl refl (look_reaches c (k + n) a x l m f g looks.apart looks.low_look low_is)
    (second_reaches c (k + n + 5) (m.state (a / 64)) b u high x l m f g looks.apart looks.u_s looks.u_t looks.u_kept
    looks.high_look high_is)

-- spills before and reloads behind words that leave the three registers
around_head : (c : Code) (k n j e p u high z : ℕ) (x : Scratch) (l : ProcessorState) (m : NodeMemory) (f g : ℕ → ℕ)
    → n ≤ 3 → LooksTwice c.micros k n x u high → TakeBack c.micros j n (x.s ∷ x.t ∷ u ∷ []) → e ≡ j + n
    → ((h : ℕ → ℕ) → Reaches c (k + n) p (lane_at l f h (k + n)) m
    (lane_at l (put (put (put f x.s 0) x.t 0x80000000) u z) h j) m)
    → Crosses None c k (p + n) j n (lane_at l f g k) m (placed (left_by_head n x.s x.t u z (lane_at l f g k)) e) m
around_head c k zero j e p u high z x l m f g few looks take end between =
    let f1 = put (put (put f x.s 0) x.t 0x80000000) u z in
    let words : p ≡ p + 0 = omega arith in
    let start : k + 0 ≡ k = omega arith in
    let stop : j ≡ e = omega (arith, end) in
    let last = lane_at l f1 g e in
    record {
      lane = last;
      memory = m;
      first = subst (λ (w : ℕ). Reaches c k w (lane_at l f g k) m last m) words
          (subst (λ (i : ℕ). Reaches c k p (lane_at l f g k) m (lane_at l f1 g i) m) stop
          (subst (λ (i : ℕ). Reaches c i p (lane_at l f g i) m (lane_at l f1 g j) m) start (between g)));
      second = reaches_none None c j last m;
    }
around_head c k (suc zero) j e p u high z x l m f g few looks take end between =
    let f1 = put (put f x.s 0) x.t 0x80000000 in
    let h = λ (i : ℕ). if i == 2 then reg f u else g i in
    let kept : reg f1 u ≡ reg f u = other_of f x 0 0x80000000 u looks.u_s looks.u_t in
    let one = keeps c k (k + 1) 2 u l m f g refl (omega arith)
    (stands_too c.micros (k + 0) k _ (omega arith) (looks.keep 0 u (omega arith) refl)) in
    let two = reaches_both 1 p (p + 1) (omega arith) refl one (between h) in
    let three = takes c j e 2 u l m (put f1 u z) h f1 end (omega arith)
    (stands_too c.micros (j + 0) j _ (omega arith) (take 0 u (omega arith) refl))
    (sym (put_twice f1 u z (reg f u) ∙ ap (put f1 u) (sym kept) ∙ put_back f1 u)) in
    subst (λ (v : ℕ). Crosses None c k (p + 1) j 1 (lane_at l f g k) m
    (lane_at l f1 (λ (i : ℕ). if i == 2 then v else g i) e) m) (sym kept)
    (record { lane = lane_at l (put f1 u z) h j; memory = m; first = two; second = three })
around_head c k (suc (suc zero)) j e p u high z x l m f g few looks take end between =
    let s = x.s in
    let t = x.t in
    let f1 = put f s 0 in
    let h1 = λ (i : ℕ). if i == 1 then reg f t else g i in
    let h = λ (i : ℕ). if i == 2 then reg f u else h1 i in
    let kept_t : reg f1 t ≡ reg f t = put_other f s t 0 (λ q. looks.apart.s_t (sym q)) in
    let kept_u : reg f1 u ≡ reg f u = put_other f s u 0 looks.u_s in
    let one = keeps c k (k + 1) 1 t l m f g refl (omega arith)
    (stands_too c.micros (k + 0) k _ (omega arith) (looks.keep 0 t (omega arith) refl)) in
    let two = keeps c (k + 1) (k + 2) 2 u l m f h1 (omega arith) (omega arith) (looks.keep 1 u (omega arith) refl) in
    let three = reaches_both 2 p (p + 2) (omega arith) refl (reaches_both 1 1 2 refl refl one two) (between h) in
    let four = takes c j (j + 1) 1 t l m (put (put f1 t 0x80000000) u z) h (put f1 u z) refl (omega arith)
    (stands_too c.micros (j + 0) j _ (omega arith) (take 0 t (omega arith) refl))
    (sym (second_back f1 t u 0x80000000 z (reg f t) (λ q. looks.u_t (sym q)) (sym kept_t))) in
    let five = takes c (j + 1) e 2 u l m (put f1 u z) h f1 (omega (arith, end)) (omega arith) (take 1 u (omega arith) refl)
    (sym (put_twice f1 u z (reg f u) ∙ ap (put f1 u) (sym kept_u) ∙ put_back f1 u)) in
    subst (λ (v : ℕ). Crosses None c k (p + 2) j 2 (lane_at l f g k) m
    (lane_at l f1 (λ (i : ℕ). if i == 2 then reg f1 u else (if i == 1 then v else g i)) e) m) (sym kept_t)
    (subst (λ (v : ℕ). Crosses None c k (p + 2) j 2 (lane_at l f g k) m
    (lane_at l f1 (λ (i : ℕ). if i == 2 then v else h1 i) e) m) (sym kept_u)
    (record {
      lane = lane_at l (put (put f1 t 0x80000000) u z) h j;
      memory = m;
      first = three;
      second = reaches_both 1 1 2 refl refl four five;
    }))
around_head c k (suc (suc (suc zero))) j e p u high z x l m f g few looks take end between =
    let s = x.s in
    let t = x.t in
    let h0 = λ (i : ℕ). if i == 0 then reg f s else g i in
    let h1 = λ (i : ℕ). if i == 1 then reg f t else h0 i in
    let h = λ (i : ℕ). if i == 2 then reg f u else h1 i in
    let one = keeps c k (k + 1) 0 s l m f g refl (omega arith)
    (stands_too c.micros (k + 0) k _ (omega arith) (looks.keep 0 s (omega arith) refl)) in
    let two = keeps c (k + 1) (k + 2) 1 t l m f h0 (omega arith) (omega arith) (looks.keep 1 t (omega arith) refl) in
    let three = keeps c (k + 2) (k + 3) 2 u l m f h1 (omega arith) (omega arith) (looks.keep 2 u (omega arith) refl) in
    let four = reaches_both 3 p (p + 3) (omega arith) refl
    (reaches_both 2 1 3 refl refl (reaches_both 1 1 2 refl refl one two) three) (between h) in
    let five = takes c j (j + 1) 0 s l m (put (put (put f s 0) t 0x80000000) u z) h (put (put f t 0x80000000) u z) refl
    (omega arith) (stands_too c.micros (j + 0) j _ (omega arith) (take 0 s (omega arith) refl))
    (sym (first_back f s t u 0 0x80000000 z looks.apart.s_t (λ q. looks.u_s (sym q)))) in
    let six = takes c (j + 1) (j + 2) 1 t l m (put (put f t 0x80000000) u z) h (put f u z) (omega arith) (omega arith)
    (take 1 t (omega arith) refl)
    (sym (second_back f t u 0x80000000 z (reg f t) (λ q. looks.u_t (sym q)) refl)) in
    let seven = takes c (j + 2) e 2 u l m (put f u z) h f (omega (arith, end)) (omega arith) (take 2 u (omega arith) refl)
    (sym (put_twice f u z (reg f u) ∙ put_back f u)) in
    record {
      lane = lane_at l (put (put (put f s 0) t 0x80000000) u z) h j;
      memory = m;
      first = four;
      second = reaches_both 2 1 3 refl refl (reaches_both 1 1 2 refl refl five six) seven;
    }
around_head c k (suc (suc (suc (suc n)))) j e p u high z x l m f g few looks take end between = absurd (omega (arith, few))

-- the head of a batch that only loads, where both lines may be read
pub read_head_reaches : (c : Code) (k n a b : ℕ) (l : ProcessorState) (m : NodeMemory) (f g : ℕ → ℕ) → n ≤ 3
    → (there : IsReadHead c.micros k n) → a ≡ (reg f there.head.x.base + there.head.x.imm) % 2 ^ 32
    → b ≡ (reg f there.head.x.base + there.head.high) % 2 ^ 32
    → bit_and (bit_or (m.state (a / 64)) (m.state (b / 64))) 2 ≡ 0
    → Crosses None c k (12 + n) (k + n + 16) n (lane_at l f g k) m
    (placed (left_by_head n there.head.x.s there.head.x.t there.head.u (m.state (b / 64)) (lane_at l f g k))
    (k + (16 + 2 * n))) m
unfolding alu
read_head_reaches c k n a b l m f g few there low_is high_is clear =
    let x = there.head.x in
    let u = there.head.u in
    let looks = there.head.looks in
    let state = m.state (b / 64) in
    let whole = bit_or (m.state (a / 64)) state in
    let k0 = k + n in
    let f1 = put (put (put f x.s whole) x.t 0x80000000) u state in
    let f2 = put (put (put f x.s 0) x.t 0x80000000) u state in
    let s1 : reg f1 x.s ≡ whole =
    put_other (put (put f x.s whole) x.t 0x80000000) u x.s state (λ e. looks.u_s (sym e)) ∙ first_of f x whole 0x80000000 looks.apart in
    let s2 : reg f2 x.s ≡ 0 =
    put_other (put (put f x.s 0) x.t 0x80000000) u x.s state (λ e. looks.u_s (sym e)) ∙ first_of f x 0 0x80000000 looks.apart in
    let same : f2 ≡ put f1 x.s 0 =
    sym (put_swap (put (put f x.s whole) x.t 0x80000000) u x.s state 0 looks.u_s
    ∙ ap (λ (h : ℕ → ℕ). put h u state) (put_over f x.s x.t whole 0x80000000 0 looks.apart.s_t)) in
    let tests = mask x.s ∷ skip x.s (k0 + 16) ∷ [] in
    around_head c k n (k0 + 16) (k + (16 + 2 * n)) 12 u there.head.high state x l m f g few looks there.take (omega arith)
    (λ h.
    let one = looks_reach c k n a b u there.head.high x l m f h looks low_is high_is in
    let two = sets c (k0 + 5 + 5) (k0 + 11) (mask x.s) x.s 0 l m f1 h f2 (omega arith)
    (stands_too c.micros (k0 + 10) (k0 + 5 + 5) (mask x.s) (omega arith)
    (begins c.micros (k0 + 10) tests (mask x.s) there.test refl))
    (ap (λ (z : ℕ). Demands (Sets x.s (bit_and z 2))) s1 ∙ ap (λ (z : ℕ). Demands (Sets x.s z)) clear) same in
    let three = skips c (k0 + 11) (k0 + 16) x.s l m f2 h
    (stands_too c.micros (k0 + 10 + 1) (k0 + 11) (skip x.s (k0 + 16)) (omega arith) (there.test 1 _ refl)) s2 in
    reaches_both 11 1 12 refl refl (reaches_both 10 1 11 refl (omega arith) one two) three)

-- that of one that stores, where both may be written
pub write_head_reaches : (c : Code) (k n a b : ℕ) (l : ProcessorState) (m : NodeMemory) (f g : ℕ → ℕ) → n ≤ 3
    → (there : IsWriteHead c.micros k n) → a ≡ (reg f there.head.x.base + there.head.x.imm) % 2 ^ 32
    → b ≡ (reg f there.head.x.base + there.head.high) % 2 ^ 32 → bit_or (m.state (a / 64)) (m.state (b / 64)) ≡ 0
    → Crosses None c k (11 + n) (k + n + 15) n (lane_at l f g k) m
    (placed (left_by_head n there.head.x.s there.head.x.t there.head.u (m.state (b / 64)) (lane_at l f g k))
    (k + (15 + 2 * n))) m
write_head_reaches c k n a b l m f g few there low_is high_is clear =
    let x = there.head.x in
    let u = there.head.u in
    let looks = there.head.looks in
    let state = m.state (b / 64) in
    let k0 = k + n in
    let f2 = put (put (put f x.s 0) x.t 0x80000000) u state in
    let s2 : reg f2 x.s ≡ 0 =
    put_other (put (put f x.s 0) x.t 0x80000000) u x.s state (λ e. looks.u_s (sym e)) ∙ first_of f x 0 0x80000000 looks.apart in
    around_head c k n (k0 + 15) (k + (15 + 2 * n)) 11 u there.head.high state x l m f g few looks there.take (omega arith)
    (λ h.
    let one = subst (λ (z : ℕ). Reaches c k0 10 (lane_at l f h k0) m
    (lane_at l (put (put (put f x.s z) x.t 0x80000000) u state) h (k0 + 5 + 5)) m) clear
    (looks_reach c k n a b u there.head.high x l m f h looks low_is high_is) in
    let two = skips c (k0 + 5 + 5) (k0 + 15) x.s l m f2 h
    (stands_too c.micros (k0 + 10) (k0 + 5 + 5) (skip x.s (k0 + 15)) (omega arith)
    (begins c.micros (k0 + 10) (skip x.s (k0 + 15) ∷ []) (skip x.s (k0 + 15)) there.test refl)) s2 in
    reaches_both 10 1 11 refl (omega arith) one two)
