-- Steps of one processor after another, and the state that the parts stand for.
use Rattle.std.proofs.Common.{◌≡◌, ◌≢◌, ℕ, zero, suc, ◌+◌, ◌-◌, ◌<◌, Bool, false, List, [], ◌∷◌, ◌++◌, length, set, Option, Some, None, refl, sym, ap, ◌∙◌, subst, arith, inl, inr}
use Rattle.std.specs.Prelude.{slice_get, is_some, IsSome}
use Rattle.std.specs.Option.{option_map_or}
use Rattle.std.proofs.Math.Path.{fun_ext}
use Rattle.std.proofs.lemmas.Bool.{cases_lt}
use Rattle.std.proofs.lemmas.Bool.Decides.{eqb_tells}
use Rattle.std.proofs.lemmas.List.{length-append}
use Rattle.std.proofs.lemmas.Option.{slice_get_past}
use Rattle.elf32_read.specs.Elf.{Elf}
use Rattle.exec_map.specs.Contents.{program_of, first_byte}
use Rattle.block_layout.specs.Layout.{Shape}
use Rattle.byte_range.specs.Lines.{lines_memory}
use Rattle.rv32_program.specs.declared.Exit.{Exit}
use Rattle.rv32_step.specs.OneMemory.{Original, Processor, State, first_processor, opening, answer, request, step}
use Rattle.one_memory.specs.declared.processor.Processor.{Processor as ProcessorParts}
use Rattle.one_memory.specs.Machine.{MemoryParts, Parts, processor_of, state_among, original_on, original_of, processors_of, state_of, with_one, reserved_in, Answers}
use Rattle.one_memory.specs.Turns.{after_steps, AreTurns, Turns}
use Rattle.one_memory.proofs.CodeLemmas.{get_push_before, get_push_last}

one_here : (all : ℕ → Processor) (p : ℕ) (q : Processor) → with_one all p q p ≡ q
one_here all p q = elim (eqb_tells p p) [ inl e ↦ rw e.0 refl | inr e ↦ absurd (e.1 refl) ]

pub one_over : (all : ℕ → Processor) (p : ℕ) (q q' : Processor) → with_one (with_one all p q) p q' ≡ with_one all p q'
one_over all p q q' = fun_ext (λ i. elim (eqb_tells i p) [ inl e ↦ rw e.0 refl | inr e ↦ rw e.0 refl ])

abbrev pub original_with : ℕ → Shape → Elf → Original
original_with nodes layout e = record { program = program_of e; layout = layout; nodes = nodes }

-- no step
pub no_turns : (p : ℕ) (m : MemoryParts) (k : ProcessorParts) → Turns p 0 m k m k
no_turns p m k = λ nodes all. record { state = refl; runs = λ j lt. absurd (omega (arith, lt)) }

-- the same program and layout
pub record IsSameCode (m m' : MemoryParts) : Type 0 where
  pub program : m'.program ≡ m.program
  pub layout : m'.layout ≡ m.layout

pub same_original : (m m' : MemoryParts) (nodes : ℕ) → IsSameCode m m' → original_on m' nodes ≡ original_on m nodes
same_original m m' nodes h = λ t. record { program = program_of (h.program t); layout = h.layout t; nodes = nodes }

-- one step more, from one that has no exit
pub turn_more : (p n : ℕ) (m m1 m2 : MemoryParts) (k k1 k2 : ProcessorParts) → IsSameCode m m1 → k1.exit ≡ None → Turns p n m k m1 k1 → Answers p (request (program_of m1.program) (processor_of k1)) m1 k1 m2 k2 → Turns p (n + 1) m k m2 k2
turn_more p n m m1 m2 k k1 k2 code runs turns answers = λ nodes all.
    let original = original_on m nodes in
    let s = state_among (with_one all p (processor_of k)) m in
    let s1 = state_among (with_one all p (processor_of k1)) m1 in
    let s2 = state_among (with_one all p (processor_of k2)) m2 in
    let so_far = turns nodes all in
    let same : original_on m1 nodes ≡ original = same_original m m1 nodes code in
    let here = one_here all p (processor_of k1) in
    let stepped : s2 ≡ (step original s1 p).state =
    ap (λ a. state_among a m2) (sym (one_over all p (processor_of k1) (processor_of k2)))
    ∙ sym (answers nodes (with_one all p (processor_of k1)))
    ∙ ap (λ (o : Original). (answer o s1 p (processor_of k1) (request o.program (processor_of k1))).state) same
    ∙ sym (ap (λ q. (answer original s1 p q (request original.program q)).state) here) in
    let last : n + 1 ≡ suc n = omega arith in
    rw last (record {
      state = stepped ∙ ap (λ t. (step original t p).state) so_far.state;
      runs = λ j lt. elim (cases_lt j n) [
        | inl below ↦ so_far.runs j below
        | inr above ↦
            let at : j ≡ n = omega (arith, lt, above) in
            ap (λ i. ((after_steps original p i s).processors p).exit) at
            ∙ ap (λ (t : State). (t.processors p).exit) (sym so_far.state) ∙ ap (λ (q : Processor). q.exit) here ∙ runs
      ];
    })

-- the state after some steps and some more
after_both : (original : Original) (p n j : ℕ) (s : State) → after_steps original p (n + j) s ≡ after_steps original p j (after_steps original p n s)
after_both original p n zero s =
    let same : n + 0 ≡ n = omega arith in
    ap (λ (i : ℕ). after_steps original p i s) same
after_both original p n (suc j) s =
    let more : n + suc j ≡ suc (n + j) = omega arith in
    ap (λ (i : ℕ). after_steps original p i s) more ∙ ap (λ (t : State). (step original t p).state) (after_both original p n j s)

-- some steps and some more
pub turns_both : (p n j : ℕ) (m m1 m2 : MemoryParts) (k k1 k2 : ProcessorParts) → IsSameCode m m1 → Turns p n m k m1 k1 → Turns p j m1 k1 m2 k2 → Turns p (n + j) m k m2 k2
turns_both p n j m m1 m2 k k1 k2 code first last = λ nodes all.
    let original = original_on m nodes in
    let s = state_among (with_one all p (processor_of k)) m in
    let s1 = state_among (with_one all p (processor_of k1)) m1 in
    let s2 = state_among (with_one all p (processor_of k2)) m2 in
    let one = first nodes all in
    let other = subst (λ (o : Original). AreTurns o p j s1 s2) (same_original m m1 nodes code) (last nodes all) in
    record {
      state = other.state ∙ ap (after_steps original p j) one.state ∙ sym (after_both original p n j s);
      runs = λ i lt. elim (cases_lt i n) [
        | inl below ↦ one.runs i below
        | inr above ↦
            let at : n + (i - n) ≡ i = omega (arith, above) in
            subst (λ (x : ℕ). ((after_steps original p x s).processors p).exit ≡ None) at
            (ap (λ (t : State). (t.processors p).exit) (after_both original p n (i - n) s ∙ ap (after_steps original p (i - n)) (sym one.state)) ∙ other.runs (i - n) (omega (arith, lt, above)))
      ];
    }

-- some steps, some more, and one
pub turns_and_one : (p n j : ℕ) (m m1 m2 m3 : MemoryParts) (k k1 k2 k3 : ProcessorParts) → IsSameCode m m1 → IsSameCode m1 m2 → k2.exit ≡ None → Turns p n m k m1 k1 → Turns p j m1 k1 m2 k2 → Answers p (request (program_of m2.program) (processor_of k2)) m2 k2 m3 k3 → Turns p (n + j + 1) m k m3 k3
turns_and_one p n j m m1 m2 m3 k k1 k2 k3 code more runs first last answers =
    turn_more p (n + j) m m2 m3 k k2 k3 (record { program = more.program ∙ code.program; layout = more.layout ∙ code.layout }) runs
    (turns_both p n j m m1 m2 k k1 k2 code first last) answers

-- so many processors are as at the start
pub record AreFirst (original : Original) (ks : List ProcessorParts) (count : ℕ) : Type 0 where
  pub len : length ks ≡ count
  pub each : (p : ℕ) (other : Processor) → p < count → option_map_or processor_of (slice_get ks p) other ≡ first_processor original p

pub none_first : (original : Original) → AreFirst original [] 0
none_first original = record { len = refl; each = λ p other lt. absurd (omega (arith, lt)) }

pub one_first : (original : Original) (ks : List ProcessorParts) (count : ℕ) (k : ProcessorParts) → AreFirst original ks count → processor_of k ≡ first_processor original count → AreFirst original (ks ++ k ∷ []) (count + 1)
one_first original ks count k h here = record {
  len = omega (arith, h.len, length-append ks (k ∷ []));
  each = λ p other lt. elim (cases_lt p count) [
    | inl below ↦ ap (λ o. option_map_or processor_of o other) (get_push_before ks k p (omega (arith, h.len))) ∙ h.each p other below
    | inr above ↦ (let last : p ≡ length ks = omega (arith, h.len) in
        ap (λ o. option_map_or processor_of o other) (ap (slice_get (ks ++ k ∷ [])) last ∙ get_push_last ks k) ∙ here ∙ ap (first_processor original) (sym (last ∙ h.len)))
  ];
}

-- the parts at the start
pub opened : (m : MemoryParts) (n : ℕ) (ks : List ProcessorParts) → lines_memory m.shared (first_byte m.program) ≡ first_byte m.program → m.output ≡ [] → reserved_in m.reserved ≡ (λ _. None) → AreFirst (original_on m n) ks n → state_of (record { memory = m; count = n; processors = ks }) ≡ opening (original_on m n)
opened m n ks shared output none first =
    let h : Parts = record { memory = m; count = n; processors = ks } in
    let all : processors_of h ≡ first_processor (original_on m n) = fun_ext (λ p. elim (cases_lt p n) [
      | inl below ↦ first.each p (first_processor (original_on m n) p) below
      | inr above ↦
          let past = slice_get_past ks p (omega (arith, first.len)) in
          ap (λ o. option_map_or processor_of o (first_processor (original_on m n) p)) past
    ]) in
    λ t. record { shared = shared t; processors = all t; reservations = none t; output = output t }

get_set_same : {X : Type 0} (xs : List X) (i : ℕ) (y : X) → i < length xs → slice_get (set xs i y) i ≡ Some y
get_set_same [] i y h = absurd (omega arith)
get_set_same (x ∷ xs) zero y h = refl
get_set_same (x ∷ xs) (suc i) y h = get_set_same xs i y (omega arith)

get_set_other : {X : Type 0} (xs : List X) (i j : ℕ) (y : X) → j ≢ i → slice_get (set xs i y) j ≡ slice_get xs j
get_set_other [] i j y h = refl
get_set_other (x ∷ xs) zero zero y h = absurd (h refl)
get_set_other (x ∷ xs) zero (suc j) y h = refl
get_set_other (x ∷ xs) (suc i) zero y h = refl
get_set_other (x ∷ xs) (suc i) (suc j) y h = get_set_other xs i j y (λ e. h (ap suc e))

-- the processor of a place in the list
pub here : (h : Parts) (p : ℕ) (k : ProcessorParts) → slice_get h.processors p ≡ Some k → processors_of h p ≡ processor_of k
here h p k is = ap (λ o. option_map_or processor_of o (first_processor (original_of h) p)) is

-- the parts where one processor is another
abbrev pub parts_with : Parts → MemoryParts → ℕ → ProcessorParts → Parts
parts_with h m p k = record { memory = m; count = h.count; processors = set h.processors p k }

one_replaced : (h : Parts) (m : MemoryParts) (p : ℕ) (k : ProcessorParts) → p < length h.processors → IsSameCode h.memory m → processors_of (parts_with h m p k) ≡ with_one (processors_of h) p (processor_of k)
one_replaced h m p k within same = fun_ext (λ j. elim (eqb_tells j p) [
  | inl e ↦ rw (e.0, e.1, get_set_same h.processors p k within) refl
  | inr e ↦ rw (e.0, get_set_other h.processors p j k e.1) (ap (λ (o : Original). option_map_or processor_of (slice_get h.processors j) (first_processor o j)) (same_original h.memory m h.count same))
])

one_same : (h : Parts) (p : ℕ) (k : ProcessorParts) → slice_get h.processors p ≡ Some k → with_one (processors_of h) p (processor_of k) ≡ processors_of h
one_same h p k is = fun_ext (λ j. elim (eqb_tells j p) [
  | inl e ↦ rw (e.0, e.1) (sym (here h p k is))
  | inr e ↦ rw e.0 refl
])

-- the parts after a step
pub stepped : (h : Parts) (m : MemoryParts) (p : ℕ) (k k' : ProcessorParts) → p < length h.processors → slice_get h.processors p ≡ Some k → IsSameCode h.memory m → Answers p (request (original_of h).program (processor_of k)) h.memory k m k' → state_of (parts_with h m p k') ≡ (step (original_of h) (state_of h) p).state
stepped h m p k k' within is same answers =
    ap (λ all. state_among all m) (one_replaced h m p k' within same)
    ∙ sym (answers h.count (processors_of h))
    ∙ sym (ap (λ q. (answer (original_of h) (state_of h) p q (request (original_of h).program q)).state) (here h p k is))

-- the parts after the steps of one
pub turned : (h : Parts) (m : MemoryParts) (p n : ℕ) (k k' : ProcessorParts) → p < length h.processors → slice_get h.processors p ≡ Some k → IsSameCode h.memory m → Turns p n h.memory k m k' → AreTurns (original_of h) p n (state_of h) (state_of (parts_with h m p k'))
turned h m p n k k' within is same turns =
    let from : state_among (with_one (processors_of h) p (processor_of k)) h.memory ≡ state_of h = ap (λ all. state_among all h.memory) (one_same h p k is) in
    let to : state_among (with_one (processors_of h) p (processor_of k')) m ≡ state_of (parts_with h m p k') = ap (λ all. state_among all m) (sym (one_replaced h m p k' within same)) in
    subst (λ (s : State). AreTurns (original_of h) p n s (state_of (parts_with h m p k'))) from
    (subst (λ (t : State). AreTurns (original_of h) p n (state_among (with_one (processors_of h) p (processor_of k)) h.memory) t) to (turns h.count (processors_of h)))

-- a processor of the list that has no exit
pub not_ended : (h : Parts) (p : ℕ) (k : ProcessorParts) (b : Bool) → slice_get h.processors p ≡ Some k → b ≡ is_some k.exit → b ≡ false → IsSome (processors_of h p).exit → ⊥
not_ended h p k b is some off with_exit = none k.exit b some off (subst (λ (q : Processor). IsSome q.exit) (here h p k is) with_exit)
  where
    none : (o : Option Exit) (b : Bool) → b ≡ is_some o → b ≡ false → IsSome o → ⊥
    none None b some off with_exit = absurd (cc)
    none (Some e) b some off with_exit = absurd (cc)

pub no_exit : (o : Option Exit) (b : Bool) → b ≡ is_some o → b ≡ false → o ≡ None
no_exit None b some off = refl
no_exit (Some e) b some off = absurd (cc)

pub ended_one : (h : Parts) (m : MemoryParts) (p : ℕ) (k : ProcessorParts) → p < length h.processors → IsSome k.exit → IsSome (processors_of (parts_with h m p k) p).exit
ended_one h m p k within some =
    subst (λ (q : Processor). IsSome q.exit) (sym (here (parts_with h m p k) p k (get_set_same h.processors p k within))) some
