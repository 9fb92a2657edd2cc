-- Loads that look at their value.
use Rattle.std.proofs.Common.{◌≡◌, ◌≢◌, ℕ, zero, suc, ◌+◌, ◌%◌, ◌^◌, ◌<◌, cond, eqb, ltb, get_or, Bool, true, false, List, [], ◌∷◌, Some, refl, sym, ap, ◌∙◌, subst, inl, inr, arith, lit<}
use Rattle.std.specs.Prelude.{ℤ, pos, not}
use Rattle.std.proofs.lemmas.Bool.Decides.{eqb_tells, leb_tells, nat_tests}
use Rattle.rewriting_law.proofs.Names.{unsigned, destination, Instr, Load, OpImm, Branch, Ne, Lt, Word, is_aligned, taken, extend, raw, Class, Shared, ReadOnly, Private, Unmapped, offset_address, Program, IsAccepted, class_at, is_mapped, line_of, Uses, Live, uses, passes, Sets, reg, branch_demand, load_value, byte_by, Processor, set_register, next_pc, Native, MissR, Always, IfNotFlag, Scratches, is_flag_checked, HasOneScratch, SequenceItem, with_word, committing, checking, own, reload, lower_part, flag_word, flag_load_sequence, flag_byte, ProcessorState, NodeMemory, WordOutcome, byte_at, is_readable_state, native, execute, commits_by}
use Rattle.rv32_decode.specs.declared.ImmOp.TheVariants as imm_op
use Rattle.rv32_decode.specs.declared.LoadKind.TheVariants as load_kind
use Rattle.rewriting_law.proofs.templates.RegisterLemmas.{apart, equal, reg_zero, put_here, put_other}
use Rattle.rewriting_law.proofs.templates.States.{Suits, ReadLook, Gone, Readable, Unreadable, read_look}
use Rattle.rewriting_law.proofs.templates.Does.{OfPlace, AtHead, Rest, byte_seen, lane_at, IsWhere, Continues, Leads, FirstLeads, Does}
use Rattle.rewriting_law.proofs.templates.Mids.{Hide, Shown, IsHidden, hiding, shown, Mid, with_reg, hide_hidden, alu_add, spill_0, next_aligned, mid_at, own_set, own_set_unused, own_next, own_sets, own_jumps, spill_does, reload_does, shown_mid, shown_head}
use Rattle.rewriting_law.proofs.templates.Checked.{value_same, not_live, load_outcome, seen_value, same_base, load_misaligned, load_misaligned_now, load_gives, load_sees, load_commits, load_commits_now, refused, read_missed}

taken_unequal : (a b : ℕ) → taken Ne a b ≡ not (eqb a b)
unfolding taken
taken_unequal a b = refl

-- an address of the upper half is negative
taken_negative : (a : ℕ) → taken Lt a 0 ≡ not (ltb a (2 ^ 31))
unfolding taken
taken_negative a = elim (leb_tells (suc a) (2 ^ 31)) [
  | inl low ↦ rw low.0 (grind (arith, nat_tests))
  | inr high ↦ rw high.0 refl
]

pub extend_word : (v : ℕ) → extend load_kind.Word v ≡ v
unfolding extend
extend_word v = refl

-- the bytes of an unmapped line make the flag word
pub flag_bytes : (a : ℕ) → a % 4 ≡ 0 → raw Word flag_byte a ≡ flag_word
unfolding raw
flag_bytes a m =
    let e0 : eqb (a % 4) 0 ≡ true = grind (arith, nat_tests) in
    let e1 : eqb ((a + 1) % 4) 0 ≡ false = apart ((a + 1) % 4) 0 (omega arith) in
    let e2 : eqb ((a + 2) % 4) 0 ≡ false = apart ((a + 2) % 4) 0 (omega arith) in
    let e3 : eqb ((a + 3) % 4) 0 ≡ false = apart ((a + 3) % 4) 0 (omega arith) in
    rw (e0, e1, e2, e3) refl

-- such a load's register is neither x0 nor its base
own_register : (rd rs1 : ℕ) → is_flag_checked load_kind.Word rd rs1 ≡ true → (rd ≢ 0) × (rd ≢ rs1)
own_register rd rs1 h = elim (eqb_tells rd 0) [
  | inl e ↦ (let bad : false ≡ true = (rw e.0 at h) in cc)
  | inr e ↦ (elim (eqb_tells rd rs1) [
    | inl f ↦ (let bad : false ≡ true = (rw (e.0, f.0) at h) in cc)
    | inr f ↦ (e.1, f.1)
  ])
]

only_source : (rs1 rd k : ℕ) → k < 1 → get_or (rs1 ∷ []) k rd ≡ rd → rs1 ≡ rd
only_source rs1 rd zero lt is = is
only_source rs1 rd (suc k) lt is = absurd (omega arith)

module _ (program : Program) (accepted : IsAccepted program) where
  module _ (a : ℕ) (q : Processor) (x : Scratches)
      (rd rs1 : ℕ) (imm : ℤ) (c : program.code a ≡ Some (Load load_kind.Word rd rs1 imm))
      (by_value : is_flag_checked load_kind.Word rd rs1 ≡ true)
      (one : HasOneScratch program.code a (Load load_kind.Word rd rs1 imm) x) where
    abbrev word : Instr
    word = Load load_kind.Word rd rs1 imm

    abbrev s : ℕ
    s = x.s.register

    abbrev hides : ℕ → Hide
    hides = hiding x.s.spilled 0 s shown

    abbrev address : ℕ
    address = offset_address (reg q.registers rs1) imm

    base_shown : hides rs1 ≡ Shown
    base_shown = rw (apart rs1 s (λ z. one.s.unused (inr (0, lit< tt, z)))) refl

    destination_apart : rd ≢ s
    destination_apart z = one.s.undefined (ap (λ r. Some r) z)

    destination_shown : hides rd ≡ Shown
    destination_shown = rw (apart rd s destination_apart) refl

    hidden_s : IsHidden (hides s)
    hidden_s = rw (equal s s refl) (hide_hidden x.s.spilled 0)

    nonzero : rd ≢ 0
    nonzero = (own_register rd rs1 by_value).0

    -- the register is set, and isn't used before
    destination_not_live : Live program.code rd a → ⊥
    destination_not_live (uses i e w) =
        let same : i ≡ word = (let both : Some i ≡ Some word = sym e ∙ c in cc) in
        elim (subst (λ y. Uses y rd) same w) [
          | inl all ↦ (let bad : false ≡ true = all in cc)
          | inr reads ↦ (own_register rd rs1 by_value).1
              (sym (only_source rs1 rd reads.0 reads.1 reads.2))
        ]
    destination_not_live (passes i b e d w v) =
        let same : i ≡ word = (let both : Some i ≡ Some word = sym e ∙ c in cc) in
        d (ap destination same)

    -- the words of the sequence, from the last to the first
    abbrev last : List SequenceItem
    last = reload 0 x.s []

    abbrev again : List SequenceItem
    again = committing (Native word) last

    abbrev look : List SequenceItem
    look = checking (MissR Word rs1 imm) again

    abbrev compare : List SequenceItem
    compare = own (Branch Ne rd s (pos 12)) look

    abbrev flag : List SequenceItem
    flag = own (OpImm imm_op.Add s 0 (lower_part flag_word)) compare

    abbrev first : List SequenceItem
    first = with_word IfNotFlag (Native word) flag

    abbrev test : List SequenceItem
    test = own (Branch Lt s 0 (pos 16)) first

    ends : (n' : NodeMemory) (j at : ℕ) (p : Processor) (l : ProcessorState) → Mid program hides (a + 4) p l
        → Does program OfPlace a j at last 0 p l n'
    ends n' j at p l m =
        reload_does program OfPlace a x.s.spilled 0 s j at (a + 4) shown p l n' [] spill_0
        one.s.nonzero refl m (λ j1 to1 l1 e1 m1. (
          (word, c),
          shown_head program (a + 4) p l1 m1,
        ))

    -- the second load, where the line is readable
    loads_again : (n' : NodeMemory) → is_readable_state (n'.state (line_of address)) ≡ true
        → is_mapped (class_at program address) ≡ true → (j at : ℕ) (l : ProcessorState)
        → Mid program hides a q l → Does program OfPlace a j at again 0 q l n'
    loads_again n' readable mapped j at l m = go (is_aligned Word address) refl
      where
        go : (b : Bool) → is_aligned Word address ≡ b → Does program OfPlace a j at again 0 q l n'
        go false f = load_misaligned program accepted a q hides load_kind.Word rd rs1 imm c
            base_shown n' OfPlace a j at l Always last refl f m
        go true f =
            load_commits program accepted a q hides load_kind.Word rd rs1 imm c base_shown n'
            OfPlace a j at l last refl destination_shown f mapped readable m
            (λ n2 later x1 y1 mid. ends n2 (j + 1) (next_pc at) _ _ mid)

    -- the look at the line's state: it isn't mapped, or the word is loaded again, once it may be
    looks : (n : NodeMemory) (j at : ℕ) (l : ProcessorState) → Mid program hides a q l
        → Does program OfPlace a j at look 0 q l n
    looks n j at l m =
        read_missed program accepted a q m.place Word rs1 imm address again j at l n
        (ap (λ z. offset_address z imm)
        (same_base program accepted a q hides load_kind.Word rd rs1 imm c base_shown l m))
        (λ e h. refused program accepted a q word e m.place c h)
        (λ n' readable mapped x1 y1. loads_again n' readable mapped (j + 1) (next_pc at)
        (lane_at x1 y1 l) (mid_at program a hides q l x1 y1 m))

    -- the branch past the look and the second load, where the register holds another value
    compares : (n : NodeMemory) (j at b : ℕ) (p : Processor) (l : ProcessorState) (v : ℕ) → at % 4 ≡ 0
        → reg l.registers rd ≡ v → Mid program hides b p l → (t : Bool) → eqb v flag_word ≡ t
        → ((k to : ℕ) (l' : ProcessorState) → Mid program hides b p l'
        → Does program OfPlace a k to look (cond t 0 2) p l' n)
        → Does program OfPlace a j at flag 0 p l n
    compares n j at b p l v al is m t tells next =
        own_sets program OfPlace a j at (OpImm imm_op.Add s 0 (lower_part flag_word)) compare p l n
        s flag_word (ap (Sets s) (alu_add (reg l.registers 0) (unsigned 32 (lower_part flag_word))
        ∙ ap (λ z. (z + unsigned 32 (lower_part flag_word)) % 2 ^ 32) (reg_zero l.registers)))
        (λ x1 y1.
        let l1 = lane_at x1 y1 (with_reg l s flag_word) in
        let m1 = mid_at program b hides p (with_reg l s flag_word) x1 y1
        (own_set program b hides p l s flag_word hidden_s m) in
        let is_s : reg l1.registers s ≡ flag_word = put_here l.registers s flag_word
        one.s.nonzero in
        let is_rd : reg l1.registers rd ≡ v = put_other l.registers s rd flag_word destination_apart
        ∙ is in
        let takes : (u : Bool) → t ≡ u → taken Ne (reg l1.registers rd) (reg l1.registers s)
        ≡ not u =
        λ u e. taken_unequal (reg l1.registers rd) (reg l1.registers s)
        ∙ ap (λ z. not (eqb z (reg l1.registers s))) is_rd ∙ ap (λ z. not (eqb v z)) is_s
        ∙ ap not (tells ∙ e) in
        go (j + 1) (next_pc at) l1 (next_aligned at al) m1 t refl takes)
      where
        go : (k to : ℕ) (l1 : ProcessorState) → to % 4 ≡ 0 → Mid program hides b p l1 → (u : Bool) → t ≡ u
            → ((u : Bool) → t ≡ u
            → taken Ne (reg l1.registers rd) (reg l1.registers s) ≡ not u)
            → Does program OfPlace a k to compare 0 p l1 n
        go k to l1 al1 m1 true e takes =
            own_next program OfPlace a k to (Branch Ne rd s (pos 12)) look p l1 l1 n
            (λ (n' : NodeMemory). ap (λ z. native program a to l1 n'
            (branch_demand z (offset_address to (pos 12)))) (takes true e))
            (λ x y. subst (λ z. Does program OfPlace a (k + 1) (next_pc to) look (cond z 0 2) p
            (lane_at x y l1) n) e
            (next (k + 1) (next_pc to) (lane_at x y l1) (mid_at program b hides p l1 x y m1)))
        go k to l1 al1 m1 false e takes =
            own_jumps program OfPlace a 2 k to (offset_address to (pos 12))
            (Branch Ne rd s (pos 12)) look p l1 n (omega arith) (omega arith)
            (ap (λ z. branch_demand z (offset_address to (pos 12))) (takes false e))
            (λ x y. subst (λ z. Does program OfPlace a (k + 1) (next_pc to) look (cond z 0 2) p
            (lane_at x y l1) n) e
            (next (k + 1) (next_pc to) (lane_at x y l1) (mid_at program b hides p l1 x y m1)))

    -- the first load leads on, by the node as it is then
    abbrev FirstLoads : ℕ → ℕ → ProcessorState → NodeMemory → Type 0
    FirstLoads j at l n =
        FirstLeads program OfPlace a j at (Does program OfPlace a (j + 1) (next_pc at) flag) first q
        l n

    -- the first load gives the flag word, and doesn't commit
    gives_flag : (n : NodeMemory) (j at : ℕ) (l : ProcessorState) (v : ℕ) → at % 4 ≡ 0 → Mid program hides a q l
        → execute program a at (Native word) l n ≡ load_outcome l n load_kind.Word rd address v
        → eqb v flag_word ≡ true → FirstLoads j at l n
    gives_flag n j at l v al m is tells =
        let K : Rest = λ z. Does program OfPlace a (j + 1) (next_pc at) flag z in
        let done = load_outcome l n load_kind.Word rd address v in
        let silent : commits_by IfNotFlag done ≡ false = ap not tells in
        subst (λ (r : WordOutcome). Leads program OfPlace a j at K q n r IfNotFlag r.move) (sym is)
        (subst (Continues program (IsWhere program OfPlace a j q)
        (λ p. (x y : ℕ) → K 0 p (lane_at x y done.lane) n) q n done)
        (sym silent) (
          refl,
          refl,
          λ x1 y1. compares n (j + 1) (next_pc at) a q (lane_at x1 y1 (with_reg l rd v)) v
              (next_aligned at al) (put_here l.registers rd v nonzero)
              (mid_at program a hides q (with_reg l rd v) x1 y1
              (own_set_unused program a hides q l rd v destination_not_live m)) true tells
              (λ k to l' m'. looks n k to l' m'),
          refl,
        ))

    -- the first load, by the node as it is then
    loads_now : (n : NodeMemory) → Suits program n → (j at : ℕ) (l : ProcessorState) → at % 4 ≡ 0
        → address < 2 ^ 31 → Mid program hides a q l → FirstLoads j at l n
    loads_now n suits j at l al low m = go (is_aligned Word address) refl
      where
        v : ℕ
        v = seen_value program accepted a q hides load_kind.Word rd rs1 imm c base_shown n

        -- a word that isn't the flag word is of a readable line
        readable : is_aligned Word address ≡ true → is_mapped (class_at program address) ≡ true
            → eqb v flag_word ≡ false
            → ReadLook (class_at program address) (n.state (line_of address))
            → is_readable_state (n.state (line_of address)) ≡ true
        readable f mapped tells (Gone unmapped gone unreadable) =
            let bad : false ≡ true = ap is_mapped (sym unmapped) ∙ mapped in cc
        readable f mapped tells (Readable there known may) = may
        readable f mapped tells (Unreadable shared known unreadable) =
            let four : address % 4 ≡ 0 = grind (arith, nat_tests) in
            let flag : load_value load_kind.Word n.copy address ≡ flag_word =
            suits.flagged address shared four unreadable in
            let same : v ≡ load_value load_kind.Word n.copy address =
            ap (extend load_kind.Word) (value_same Word (byte_seen program q n) n.copy address f
            (λ y line. ap (λ z. byte_by z (n.copy y) (program.first y) (q.private y) 0)
            (ap program.class line ∙ shared))) in
            let bad : true ≡ false = sym (equal v flag_word (same ∙ flag)) ∙ tells in cc

        sees : is_aligned Word address ≡ true → is_mapped (class_at program address) ≡ true
            → (t : Bool) → eqb v flag_word ≡ t → FirstLoads j at l n
        sees f mapped true tells =
            gives_flag n j at l v al m
            (load_sees program accepted a q hides load_kind.Word rd rs1 imm c base_shown n a at l f
            mapped m) tells
        sees f mapped false tells =
            let may = readable f mapped tells (read_look (class_at program address)
            (n.state (line_of address)) (suits.states (line_of address))) in
            load_commits_now program accepted a q hides load_kind.Word rd rs1 imm c base_shown n
            OfPlace a j at l IfNotFlag flag refl destination_shown f mapped may (ap not tells) m
            (λ x1 y1 mid. compares n (j + 1) (next_pc at) (a + 4) (set_register q rd v)
            (lane_at x1 y1 (with_reg l rd v)) v (next_aligned at al)
            (put_here l.registers rd v nonzero) mid false tells
            (λ k to l' m'. ends n (k + 1 + 1) (next_pc (next_pc to)) (set_register q rd v) l' m'))

        unmapped_flag : is_aligned Word address ≡ true → class_at program address ≡ Unmapped
            → eqb (load_value load_kind.Word (byte_at program l n) address) flag_word ≡ true
        unmapped_flag f e =
            let four : address % 4 ≡ 0 = grind (arith, nat_tests) in
            let bytes : raw Word (byte_at program l n) address ≡ raw Word flag_byte address =
            value_same Word (byte_at program l n) flag_byte address f (λ y line.
            ap (λ z. byte_by z (n.copy y) (program.first y) (l.private y) (flag_byte y))
            (ap program.class line ∙ e)) in
            equal _ flag_word (extend_word (raw Word (byte_at program l n) address) ∙ bytes
            ∙ flag_bytes address four)

        by_class : is_aligned Word address ≡ true → (cl : Class) → class_at program address ≡ cl
            → FirstLoads j at l n
        by_class f Shared e = sees f (ap is_mapped e) (eqb v flag_word) refl
        by_class f ReadOnly e = sees f (ap is_mapped e) (eqb v flag_word) refl
        by_class f Private e = sees f (ap is_mapped e) (eqb v flag_word) refl
        by_class f Unmapped e =
            gives_flag n j at l (load_value load_kind.Word (byte_at program l n) address) al m
            (load_gives program accepted a q hides load_kind.Word rd rs1 imm c base_shown n a at l f
            low m) (unmapped_flag f e)

        go : (b : Bool) → is_aligned Word address ≡ b → FirstLoads j at l n
        go false f = load_misaligned_now program accepted a q hides load_kind.Word rd rs1 imm c
            base_shown n OfPlace a j at l IfNotFlag flag refl f m
        go true f = by_class f (class_at program address) refl

    loads_first : (n : NodeMemory) (j at : ℕ) (l : ProcessorState) → at % 4 ≡ 0 → address < 2 ^ 31
        → Mid program hides a q l → Does program OfPlace a j at first 0 q l n
    loads_first n j at l al low m = λ n' since. loads_now n' since.0 j at l al low m

    -- the address in s, and the branch to the look where it is of the upper half
    begins : (n : NodeMemory) (j at : ℕ) (l : ProcessorState) → at % 4 ≡ 0 → Mid program hides a q l
        → Does program OfPlace a j at (own (OpImm imm_op.Add s rs1 imm) test) 0 q l n
    begins n j at l al m =
        own_sets program OfPlace a j at (OpImm imm_op.Add s rs1 imm) test q l n s address
        (ap (Sets s) (alu_add (reg l.registers rs1) (unsigned 32 imm)
        ∙ ap (λ z. (z + unsigned 32 imm) % 2 ^ 32)
        (same_base program accepted a q hides load_kind.Word rd rs1 imm c base_shown l m)))
        (λ x1 y1.
        tests (j + 1) (next_pc at) (lane_at x1 y1 (with_reg l s address)) (next_aligned at al)
        (put_here l.registers s address one.s.nonzero)
        (mid_at program a hides q (with_reg l s address) x1 y1
        (own_set program a hides q l s address hidden_s m)) (ltb address (2 ^ 31)) refl)
      where
        tests : (k to : ℕ) (l1 : ProcessorState) → to % 4 ≡ 0 → reg l1.registers s ≡ address
            → Mid program hides a q l1 → (t : Bool) → ltb address (2 ^ 31) ≡ t
            → Does program OfPlace a k to test 0 q l1 n
        tests k to l1 al1 is m1 t tells = go t tells
          where
            takes : (t : Bool) → ltb address (2 ^ 31) ≡ t
                → taken Lt (reg l1.registers s) (reg l1.registers 0) ≡ not t
            takes t e = ap (λ z. taken Lt z (reg l1.registers 0)) is
                ∙ ap (taken Lt address) (reg_zero l1.registers) ∙ taken_negative address ∙ ap not e

            go : (t : Bool) → ltb address (2 ^ 31) ≡ t → Does program OfPlace a k to test 0 q l1 n
            go true e =
                let low : address < 2 ^ 31 = grind (arith, nat_tests) in
                own_next program OfPlace a k to (Branch Lt s 0 (pos 16)) first q l1 l1 n
                (λ (n' : NodeMemory). ap (λ z. native program a to l1 n'
                (branch_demand z (offset_address to (pos 16)))) (takes true e))
                (λ x y. loads_first n (k + 1) (next_pc to) (lane_at x y l1) (next_aligned to al1)
                low (mid_at program a hides q l1 x y m1))
            go false e =
                own_jumps program OfPlace a 3 k to (offset_address to (pos 16))
                (Branch Lt s 0 (pos 16)) first q l1 n (omega arith) (omega arith)
                (ap (λ z. branch_demand z (offset_address to (pos 16))) (takes false e))
                (λ x y. looks n (k + 1 + 1 + 1 + 1) (next_pc (next_pc (next_pc (next_pc to))))
                (lane_at x y l1) (mid_at program a hides q l1 x y m1))

    -- from the head of the place to the next head
    pub flag_load_does : (n : NodeMemory) (at : ℕ) (l : ProcessorState) → AtHead program a q l → at % 4 ≡ 0
        → Does program OfPlace a 0 at (flag_load_sequence x rd rs1 imm) 0 q l n
    flag_load_does n at l head al =
        spill_does program OfPlace a x.s.spilled 0 s 0 at shown q l n
        (own (OpImm imm_op.Add s rs1 imm) test) spill_0 refl (λ r. tt)
        (not_live program a word x.s c one.s) (shown_mid program a q l head) al (λ j to l1 e1 al1 m1. begins n j to l1 al1 m1)
