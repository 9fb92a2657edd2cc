-- Bytes that stores overwrite, and what puts them back.
use Rattle.std.proofs.Common.{◌≡◌, ℕ, zero, suc, ◌+◌, ◌-◌, ◌*◌, ◌/◌, ◌%◌, ◌^◌, ◌<◌, ◌≤◌, ◌&&◌, ◌++◌, ◌==◌, Bool, true, false, cond, leb, ltb, List, [], ◌∷◌, refl, ap, sym, ◌∙◌, subst, arith}
use Rattle.std.proofs.Math.Path.{fun_ext}
use Rattle.std.proofs.lemmas.Bool.Decides.{nat_tests}
use Rattle.std.specs.Prelude.{All, length}
use Rattle.std.proofs.lemmas.List.{get_or_append_left, get_or_push, length_push}
use Rattle.std.specs.Prelude.{get_or}
use Rattle.std.proofs.lemmas.List.Elements.{All-nil, All-push}
use Rattle.rv32_decode.specs.declared.LoadKind.{LoadKind}
use Rattle.rv32_decode.specs.declared.Width.{Width}
use Rattle.rv32_decode.specs.declared.Width.TheVariants.{Byte, Half, Word}
use Rattle.rv32_decode.specs.Widths.{is_aligned, size_of}
use Rattle.node_memory.specs.byte_range.Memory.{raw, stored}
use Rattle.rv32_program.specs.Program.{Program, class_at}
use Rattle.rv32_program.specs.declared.Class.{Class}
use Rattle.rv32_program.specs.declared.Class.TheVariants.{Shared, ReadOnly, Private, Unmapped}
use Rattle.node_memory.specs.rv32_step.Memory.{shared_after, private_after, byte_by}
use Rattle.node_memory.specs.exec_map.Contents.{program_of}
use Rattle.node_memory.specs.flag_memory.Flag.{flag_byte}
use Rattle.node_memory.specs.node_model.Node.{ProcessorState, NodeMemory, WordOutcome, Region, Memory, StateOf, Spill, Elsewhere, load, store, region_of, byte_at}
use Rattle.node_words.specs.declared.lane.ProcessorState as kept
use Rattle.node_words.specs.declared.store_log.Note.{Note}
use Rattle.node_words.specs.declared.store_log.StoreLog.{StoreLog}
use Rattle.node_words.specs.declared.undo_log.Saved.{Saved}
use Rattle.node_memory.specs.Shelf.{Shelf, Ground, ground_of, local_of}
use Rattle.node_words.specs.Kept.{LeavesBehind, lane_of}
use Rattle.node_words.specs.declared.exec_state.ExecState.{ExecState}
use Rattle.node_words.specs.UndoLogs.{Held, held_of, held_stored, undone, taken_back, IsAlignedNote, HasBytes, Notes, Saves, StaysUndoable, TakesBack}

-- 1. Bytes that are put back

-- numbers by their bytes
pub one_byte : (m : ℕ → ℕ) (a v : ℕ) → v ≡ m a → v < 256 → HasBytes m Byte a v
one_byte m a v is small zero low = let e : v / 1 % 256 ≡ v = omega (arith, small) in e ∙ is ∙ ap m (omega arith)
one_byte m a v is small (suc k) low = absurd (omega (arith, low))

pub two_bytes : (m : ℕ → ℕ) (a p q : ℕ) → p ≡ m a → p < 256 → q ≡ m (a + 1) → q < 256 → HasBytes m Half a (p + 256 * q)
two_bytes m a p q is small is2 small2 zero low = let e : (p + 256 * q) / 1 % 256 ≡ p = omega (arith, small) in e ∙ is ∙ ap m (omega arith)
two_bytes m a p q is small is2 small2 (suc zero) low = let e : (p + 256 * q) / 256 % 256 ≡ q = omega (arith, small, small2) in e ∙ is2
two_bytes m a p q is small is2 small2 (suc (suc k)) low = absurd (omega (arith, low))

pub four_bytes : (m : ℕ → ℕ) (a p q r s : ℕ) → p ≡ m a → p < 256 → q ≡ m (a + 1) → q < 256 → r ≡ m (a + 2) → r < 256 → s ≡ m (a + 3) → s < 256 → HasBytes m Word a (p + 256 * q + 65536 * (r + 256 * s))
four_bytes m a p q r s i0 b0 i1 b1 i2 b2 i3 b3 zero low = let e : (p + 256 * q + 65536 * (r + 256 * s)) / 1 % 256 ≡ p = omega (arith, b0) in e ∙ i0 ∙ ap m (omega arith)
four_bytes m a p q r s i0 b0 i1 b1 i2 b2 i3 b3 (suc zero) low = let e : (p + 256 * q + 65536 * (r + 256 * s)) / 256 % 256 ≡ q = omega (arith, b0, b1) in e ∙ i1
four_bytes m a p q r s i0 b0 i1 b1 i2 b2 i3 b3 (suc (suc zero)) low = let e : (p + 256 * q + 65536 * (r + 256 * s)) / 65536 % 256 ≡ r = omega (arith, b0, b1, b2) in e ∙ i2
four_bytes m a p q r s i0 b0 i1 b1 i2 b2 i3 b3 (suc (suc (suc zero))) low = let e : (p + 256 * q + 65536 * (r + 256 * s)) / 16777216 % 256 ≡ s = omega (arith, b0, b1, b2, b3) in e ∙ i3
four_bytes m a p q r s i0 b0 i1 b1 i2 b2 i3 b3 (suc (suc (suc (suc k)))) low = absurd (omega (arith, low))

-- the number of small bytes has them
pub has_bytes : (w : Width) (m : ℕ → ℕ) (a n : ℕ) → ((x : ℕ) → m x < 256) → n ≡ raw w m a → HasBytes m w a n
unfolding raw
has_bytes Byte m a n small is = subst (HasBytes m Byte a) (sym is) (one_byte m a (m a) refl (small a))
has_bytes Half m a n small is =
    subst (HasBytes m Half a) (sym is) (two_bytes m a (m a) (m (a + 1)) refl (small a) refl (small (a + 1)))
has_bytes Word m a n small is =
    let bytes = four_bytes m a (m a) (m (a + 1)) (m (a + 2)) (m (a + 3)) refl (small a) refl (small (a + 1)) refl (small (a + 2)) refl (small (a + 3)) in
    let same : m a + 256 * m (a + 1) + 65536 * (m (a + 2) + 256 * m (a + 3)) ≡ n = omega (arith, is) in
    subst (HasBytes m Word a) same bytes

flag_small : (a : ℕ) → flag_byte a < 256
flag_small a = go (a % 4 == 0)
  where
    go : (b : Bool) → cond b 3 255 < 256
    go true = omega arith
    go false = omega arith

-- each byte is small that a processor and what its words see have
pub byte_small : (program : Program) (l : ProcessorState) (n : NodeMemory) (a : ℕ) → n.copy a < 256
    → (class_at program a ≡ ReadOnly → program.first a < 256) → l.private a < 256 → byte_at program l n a < 256
byte_small program l n a shared fixed private = go (class_at program a) refl
  where
    go : (c : Class) → class_at program a ≡ c → byte_by c (n.copy a) (program.first a) (l.private a) (flag_byte a) < 256
    go Shared is = shared
    go ReadOnly is = fixed is
    go Private is = private
    go Unmapped is = flag_small a

stored_at : (w : Width) (m : ℕ → ℕ) (a value x : ℕ) → stored w m a value x
    ≡ cond (leb a x && ltb x (a + size_of w)) (value / 2 ^ (8 * (x - a)) % 2 ^ 8) (m x)
unfolding stored
stored_at w m a value x = refl

-- the later of two stores at one address stands
pub stored_over : (w : Width) (m : ℕ → ℕ) (a v u : ℕ) → stored w (stored w m a v) a u ≡ stored w m a u
stored_over w m a v u = fun_ext (λ x.
    stored_at w (stored w m a v) a u x
    ∙ ap (cond (leb a x && ltb x (a + size_of w)) (u / 2 ^ (8 * (x - a)) % 2 ^ 8)) (stored_at w m a v x)
    ∙ twice (leb a x && ltb x (a + size_of w)) _ _ _ ∙ sym (stored_at w m a u x))
  where
    twice : (t : Bool) (p q r : ℕ) → cond t p (cond t q r) ≡ cond t p r
    twice true p q r = refl
    twice false p q r = refl

-- a store of the bytes that are there changes nothing
pub stored_same : (w : Width) (m : ℕ → ℕ) (a u : ℕ) → HasBytes m w a u → stored w m a u ≡ m
stored_same w m a u has = fun_ext (λ x. stored_at w m a u x ∙ go x (leb a x && ltb x (a + size_of w)) refl)
  where
    go : (x : ℕ) (t : Bool) → (leb a x && ltb x (a + size_of w)) ≡ t → cond t (u / 2 ^ (8 * (x - a)) % 2 ^ 8) (m x) ≡ m x
    go x true q =
        let low : a ≤ x = grind (arith, nat_tests) in
        let high : x < a + size_of w = grind (arith, nat_tests) in
        let k : x - a < size_of w = omega (arith, low, high) in
        let at : a + (x - a) ≡ x = omega (arith, low) in
        has (x - a) k ∙ ap m at
    go x false q = refl

-- the bytes of one line are of one class
in_line : (w : Width) (a k : ℕ) → is_aligned w a ≡ true → k < size_of w → (a + k) / 64 ≡ a / 64
in_line Byte a k aligned small = omega arith
in_line Half a k aligned small = let even : a % 2 ≡ 0 = grind (arith, nat_tests) in omega arith
in_line Word a k aligned small = let four : a % 4 ≡ 0 = grind (arith, nat_tests) in omega arith

pub bytes_shared : (p : Program) (l : ProcessorState) (n : NodeMemory) (w : Width) (a u : ℕ) → is_aligned w a ≡ true → class_at p a ≡ Shared → HasBytes (byte_at p l n) w a u → HasBytes n.copy w a u
bytes_shared p l n w a u aligned is has = λ k small.
    let class : class_at p (a + k) ≡ Shared = ap p.class (in_line w a k aligned small) ∙ is in
    has k small ∙ ap (λ (c : Class). byte_by c (n.copy (a + k)) (p.first (a + k)) (l.private (a + k)) (flag_byte (a + k))) class

pub bytes_private : (p : Program) (l : ProcessorState) (n : NodeMemory) (w : Width) (a u : ℕ) → is_aligned w a ≡ true → class_at p a ≡ Private → HasBytes (byte_at p l n) w a u → HasBytes l.private w a u
bytes_private p l n w a u aligned is has = λ k small.
    let class : class_at p (a + k) ≡ Private = ap p.class (in_line w a k aligned small) ∙ is in
    has k small ∙ ap (λ (c : Class). byte_by c (n.copy (a + k)) (p.first (a + k)) (l.private (a + k)) (flag_byte (a + k))) class

abbrev pub held_at : ProcessorState → NodeMemory → Held
held_at l n = record { copy = n.copy; private = l.private }

-- what is noted puts back what is there
pub undone_same : (p : Program) (l : ProcessorState) (n : NodeMemory) (w : Width) (a u : ℕ) (r : Region) → is_aligned w a ≡ true → HasBytes (byte_at p l n) w a u → held_stored p w a u (held_at l n) r ≡ held_at l n
undone_same p l n w a u Memory aligned has = go (class_at p a) refl
  where
    go : (c : Class) → class_at p a ≡ c → record { copy = shared_after c n.copy (stored w n.copy a u); private = private_after c l.private (stored w l.private a u) } ≡ held_at l n
    go Shared is = let same = stored_same w n.copy a u (bytes_shared p l n w a u aligned is has) in λ t. record { copy = same t; private = l.private }
    go ReadOnly is = refl
    go Private is = let same = stored_same w l.private a u (bytes_private p l n w a u aligned is has) in λ t. record { copy = n.copy; private = same t }
    go Unmapped is = refl
undone_same p l n w a u (StateOf line) aligned has = refl
undone_same p l n w a u (Spill k) aligned has = refl
undone_same p l n w a u Elsewhere aligned has = refl

-- also after a store there
pub undone_over : (p : Program) (w : Width) (a v u : ℕ) (h : Held) (r : Region) → held_stored p w a u (held_stored p w a v h r) r ≡ held_stored p w a u h r
undone_over p w a v u h Memory = go (class_at p a)
  where
    go : (c : Class) → ◌≡◌ {A = Held} (record { copy = shared_after c (shared_after c h.copy (stored w h.copy a v)) (stored w (shared_after c h.copy (stored w h.copy a v)) a u); private = private_after c (private_after c h.private (stored w h.private a v)) (stored w (private_after c h.private (stored w h.private a v)) a u) }) (record { copy = shared_after c h.copy (stored w h.copy a u); private = private_after c h.private (stored w h.private a u) })
    go Shared = let over = stored_over w h.copy a v u in λ t. record { copy = over t; private = h.private }
    go ReadOnly = refl
    go Private = let over = stored_over w h.private a v u in λ t. record { copy = h.copy; private = over t }
    go Unmapped = refl
undone_over p w a v u h (StateOf line) = refl
undone_over p w a v u h (Spill k) = refl
undone_over p w a v u h Elsewhere = refl

-- the last note is put back first
pub taken_back_push : (p : Program) (ns : List Note) (n : Note) (h : Held) → taken_back p (ns ++ n ∷ []) h ≡ taken_back p ns (undone p n h)
taken_back_push p [] n h = refl
taken_back_push p (m ∷ ns) n h = ap (undone p m) (taken_back_push p ns n h)

-- 2. Stores that are noted

-- what a store changes
pub record ChangesBytes (l : ProcessorState) (n : NodeMemory) (o : WordOutcome) (h : Held) : Type 0 where
  pub registers : o.lane.registers ≡ l.registers
  pub held : held_at o.lane o.local ≡ h
  pub state : o.local.state ≡ n.state
  pub reservation : o.local.reservation ≡ n.reservation

store_changes : (program : Program) (l : ProcessorState) (n : NodeMemory) (w : Width) (a v : ℕ) (region : Region) → ChangesBytes l n (store program l n w a v region) (held_stored program w a v (held_at l n) region)
store_changes program l n w a v Memory = record { registers = refl; held = refl; state = refl; reservation = refl }
store_changes program l n w a v (StateOf line) = record { registers = refl; held = refl; state = refl; reservation = refl }
store_changes program l n w a v (Spill k) = record { registers = refl; held = refl; state = refl; reservation = refl }
store_changes program l n w a v Elsewhere = record { registers = refl; held = refl; state = refl; reservation = refl }

pub seen_program : (s seen : Shelf) → ground_of s ≡ ground_of seen → program_of s.program ≡ program_of seen.program
seen_program s seen same = ap (λ (g : Ground). program_of g.program) same

-- what is noted, and not stored over yet
noted_still : (p : Program) (l : ProcessorState) (n : NodeMemory) (w : Width) (a : ℕ) (old new : List Note)
    → Notes (byte_at p l n) w a old new → taken_back p new (held_at l n) ≡ taken_back p old (held_at l n)
noted_still p l n w a old new notes =
    let m : Note = record { width = w; address = a; value = notes.value } in
    ap (λ (ns : List Note). taken_back p ns (held_at l n)) notes.note ∙ taken_back_push p old m (held_at l n)
    ∙ ap (taken_back p old) (undone_same p l n w a notes.value (region_of a) notes.aligned notes.bytes)

-- and stored over
noted_over : (p : Program) (l : ProcessorState) (n : NodeMemory) (w : Width) (a v : ℕ) (old new : List Note)
    → Notes (byte_at p l n) w a old new
    → taken_back p new (held_stored p w a v (held_at l n) (region_of a)) ≡ taken_back p old (held_at l n)
noted_over p l n w a v old new notes =
    let m : Note = record { width = w; address = a; value = notes.value } in
    let h = held_stored p w a v (held_at l n) (region_of a) in
    ap (λ (ns : List Note). taken_back p ns h) notes.note ∙ taken_back_push p old m h
    ∙ ap (taken_back p old) (undone_over p w a v notes.value (held_at l n) (region_of a)
    ∙ undone_same p l n w a notes.value (region_of a) notes.aligned notes.bytes)

notes_aligned : (bytes : ℕ → ℕ) (w : Width) (a : ℕ) (old new : List Note) → Notes bytes w a old new
    → All IsAlignedNote old → All IsAlignedNote new
notes_aligned bytes w a old new notes all =
    subst (All IsAlignedNote) (sym notes.note)
    (All-push IsAlignedNote old (record { width = w; address = a; value = notes.value }) all notes.aligned)

pub undoable_same : (b : ExecState) → StaysUndoable b b
undoable_same b on = (on, λ saved first seen back. back)

pub undoable_both : (b m b' : ExecState) → StaysUndoable b m → StaysUndoable m b' → StaysUndoable b b'
undoable_both b m b' first next on =
    let one = first on in
    let two = next one.0 in
    (two.0, λ saved f seen back. two.1 saved f seen (one.1 saved f seen back))

back_same : (p : Program) (old new : List Note) (h h' : Held) → new ≡ old → h' ≡ h
    → taken_back p new h' ≡ taken_back p old h
back_same p old new h h' notes held = λ t. taken_back p (notes t) (held t)

back_held : (p q : Program) (new : List Note) (h h' : Held) → p ≡ q → h' ≡ h
    → taken_back q new h' ≡ taken_back p new h
back_held p q new h h' program held = λ t. taken_back (sym program t) new (held t)

-- what changes no byte, and of what words see nothing
pub undoable_mild : (b b' : ExecState) → b'.log ≡ b.log → held_of b'.lane b'.local ≡ held_of b.lane b.local
    → local_of b'.local ≡ local_of b.local → ground_of b'.local ≡ ground_of b.local → StaysUndoable b b'
undoable_mild b b' log held local ground on = (
  ap (λ (x : StoreLog). x.on) log ∙ on,
  λ saved first seen back. record {
    aligned = subst (All IsAlignedNote) (ap (λ (x : StoreLog). x.notes.items) (sym log)) back.aligned;
    saves = back.saves;
    held = back_same (program_of seen.program) b.log.notes.items b'.log.notes.items (held_of b.lane b.local)
        (held_of b'.lane b'.local) (ap (λ (x : StoreLog). x.notes.items) log) held ∙ back.held;
    state = ap (λ (x : NodeMemory). x.state) local ∙ back.state;
    reservation = ap (λ (x : NodeMemory). x.reservation) local ∙ back.reservation;
    ground_same = ground ∙ back.ground_same;
  },
)

-- a store that is noted, and made
pub undoable_stored : (b b' : ExecState) (w : Width) (a v at : ℕ) → b'.log.on ≡ b.log.on
    → (b.log.on ≡ true → Notes (byte_at (program_of b.local.program) (lane_of b.lane at) (local_of b.local)) w a
    b.log.notes.items b'.log.notes.items)
    → LeavesBehind (store (program_of b.local.program) (lane_of b.lane at) (local_of b.local) w a v (region_of a))
    (ground_of b.local) at b'.lane b'.local → StaysUndoable b b'
undoable_stored b b' w a v at same noted leaves on =
    let p = program_of b.local.program in
    let l = lane_of b.lane at in
    let n = local_of b.local in
    let old = b.log.notes.items in
    let new = b'.log.notes.items in
    let notes = noted on in
    let bytes = store_changes p l n w a v (region_of a) in
    let o = store p l n w a v (region_of a) in
    let left : held_of b'.lane b'.local ≡ held_at o.lane o.local =
    λ t. record { copy = (leaves.local t).copy; private = (leaves.lane t).private } in
    let held : held_of b'.lane b'.local ≡ held_stored p w a v (held_of b.lane b.local) (region_of a) =
    left ∙ bytes.held in (
      same ∙ on,
      λ saved first seen back.
          let program = seen_program b.local seen back.ground_same in
          record {
            aligned = notes_aligned _ w a old new notes back.aligned;
            saves = back.saves;
            held = back_held p (program_of seen.program) new _ _ program held ∙ noted_over p l n w a v old new notes
                ∙ ap (λ (q : Program). taken_back q old (held_of b.lane b.local)) program ∙ back.held;
            state = ap (λ (x : NodeMemory). x.state) leaves.local ∙ bytes.state ∙ back.state;
            reservation = ap (λ (x : NodeMemory). x.reservation) leaves.local ∙ bytes.reservation ∙ back.reservation;
            ground_same = leaves.ground_same ∙ back.ground_same;
          },
    )

-- and one that is noted, and not made
pub undoable_noted : (b b' : ExecState) (w : Width) (a at : ℕ) → b'.log.on ≡ b.log.on
    → (b.log.on ≡ true → Notes (byte_at (program_of b.local.program) (lane_of b.lane at) (local_of b.local)) w a
    b.log.notes.items b'.log.notes.items)
    → b'.lane ≡ b.lane → b'.local ≡ b.local → StaysUndoable b b'
undoable_noted b b' w a at same noted lane local on =
    let p = program_of b.local.program in
    let l = lane_of b.lane at in
    let n = local_of b.local in
    let old = b.log.notes.items in
    let new = b'.log.notes.items in
    let notes = noted on in
    let held : held_of b'.lane b'.local ≡ held_of b.lane b.local = λ t. held_of (lane t) (local t) in (
      same ∙ on,
      λ saved first seen back.
          let program = seen_program b.local seen back.ground_same in
          record {
            aligned = notes_aligned _ w a old new notes back.aligned;
            saves = back.saves;
            held = back_held p (program_of seen.program) new _ _ program held ∙ noted_still p l n w a old new notes
                ∙ ap (λ (q : Program). taken_back q old (held_of b.lane b.local)) program ∙ back.held;
            state = ap (λ (x : Shelf). (local_of x).state) local ∙ back.state;
            reservation = ap (λ (x : Shelf). x.reservation) local ∙ back.reservation;
            ground_same = ap ground_of local ∙ back.ground_same;
          },
    )

-- one that is refused
pub undoable_refused : (b b' : ExecState) → b'.lane ≡ b.lane → b'.local ≡ b.local → b'.log.on ≡ b.log.on
    → b'.log.notes.items ≡ b.log.notes.items → StaysUndoable b b'
undoable_refused b b' lane local same notes on = (
  same ∙ on,
  λ saved first seen back. subst (λ (ns : List Note). TakesBack saved ns b'.lane b'.local first seen) (sym notes)
      (subst (λ (l : kept.ProcessorState). TakesBack saved b.log.notes.items l b'.local first seen) (sym lane)
      (subst (λ (s : Shelf). TakesBack saved b.log.notes.items b.lane s first seen) (sym local) back)),
)

-- the same, by the log as it was noted into
pub undoable_logged : (b b' : ExecState) (w : Width) (x a v : ℕ) (log : StoreLog) → x ≡ a → log.on ≡ b.log.on
    → (b.log.on ≡ true → Notes (byte_at (program_of b.local.program) (lane_of b.lane 0) (local_of b.local)) w x
    b.log.notes.items log.notes.items) → b'.log ≡ log
    → LeavesBehind (store (program_of b.local.program) (lane_of b.lane 0) (local_of b.local) w a v (region_of a))
    (ground_of b.local) 0 b'.lane b'.local → StaysUndoable b b'
undoable_logged b b' w x a v log is same noted logged leaves =
    let m = byte_at (program_of b.local.program) (lane_of b.lane 0) (local_of b.local) in
    undoable_stored b b' w a v 0 (ap (λ (y : StoreLog). y.on) logged ∙ same)
    (λ on. subst (λ (y : StoreLog). Notes m w a b.log.notes.items y.notes.items) (sym logged)
    (subst (λ (y : ℕ). Notes m w y b.log.notes.items log.notes.items) is (noted on))) leaves

pub undoable_left : (b b' : ExecState) (w : Width) (a : ℕ) (log : StoreLog) → log.on ≡ b.log.on
    → (b.log.on ≡ true → Notes (byte_at (program_of b.local.program) (lane_of b.lane 0) (local_of b.local)) w a
    b.log.notes.items log.notes.items) → b'.log ≡ log → b'.lane ≡ b.lane → b'.local ≡ b.local → StaysUndoable b b'
undoable_left b b' w a log same noted logged lane local =
    let m = byte_at (program_of b.local.program) (lane_of b.lane 0) (local_of b.local) in
    undoable_noted b b' w a 0 (ap (λ (y : StoreLog). y.on) logged ∙ same)
    (λ on. subst (λ (y : StoreLog). Notes m w a b.log.notes.items y.notes.items) (sym logged) (noted on)) lane local

-- a load
load_keeps : (program : Program) (l : ProcessorState) (n : NodeMemory) (k : LoadKind) (r a : ℕ) (region : Region)
    → ((load program l n k r a region).lane.private ≡ l.private) × ((load program l n k r a region).local ≡ n)
load_keeps program l n k r a Memory = (refl, refl)
load_keeps program l n k r a (StateOf line) = (refl, refl)
load_keeps program l n k r a (Spill j) = (refl, refl)
load_keeps program l n k r a Elsewhere = (refl, refl)

pub undoable_loaded : (b b' : ExecState) (k : LoadKind) (r a at : ℕ) → b'.log ≡ b.log
    → LeavesBehind (load (program_of b.local.program) (lane_of b.lane at) (local_of b.local) k r a (region_of a))
    (ground_of b.local) at b'.lane b'.local → StaysUndoable b b'
undoable_loaded b b' k r a at log leaves =
    let keeps = load_keeps (program_of b.local.program) (lane_of b.lane at) (local_of b.local) k r a (region_of a) in
    let local = leaves.local ∙ keeps.1 in
    let private = ap (λ (x : ProcessorState). x.private) leaves.lane ∙ keeps.0 in
    undoable_mild b b' log (λ t. record { copy = (local t).copy; private = private t }) local leaves.ground_same

-- where no store is noted there is nothing to be taken back
pub undoable_off : (b b' : ExecState) → b.log.on ≡ false → StaysUndoable b b'
undoable_off b b' off on = let both : true ≡ false = sym on ∙ off in absurd (cc)

-- no word is taken back by an empty undo_log
pub taken_none : (saved : Saved) (l : kept.ProcessorState) (s : Shelf) → Saves saved l → TakesBack saved [] l s l s
taken_none saved l s saves = record {
  aligned = All-nil IsAlignedNote;
  saves = saves;
  held = refl;
  state = refl;
  reservation = refl;
  ground_same = refl;
}

-- 3. Taking back

abbrev pub Unchanged : (l : kept.ProcessorState) (s : Shelf) (l' : kept.ProcessorState) (s' : Shelf) → Type 0
Unchanged l s l' s' = ((local_of s').state ≡ (local_of s).state) × (s'.reservation ≡ s.reservation)

pub store_back : (at : ℕ) (l : kept.ProcessorState) (s : Shelf) (l' : kept.ProcessorState) (s' : Shelf) (n : Note)
    → LeavesBehind (store (program_of s.program) (lane_of l at) (local_of s) n.width n.address n.value (region_of n.address)) (ground_of s) at l' s'
    → (held_of l' s' ≡ undone (program_of s.program) n (held_of l s)) × Unchanged l s l' s'
store_back at l s l' s' n leaves =
    let o = store (program_of s.program) (lane_of l at) (local_of s) n.width n.address n.value (region_of n.address) in
    let bytes = store_changes (program_of s.program) (lane_of l at) (local_of s) n.width n.address n.value (region_of n.address) in
    let same : held_of l' s' ≡ held_at o.lane o.local = λ t. record { copy = (leaves.local t).copy; private = (leaves.lane t).private } in (
      same ∙ bytes.held,
      (
        ap (λ (x : NodeMemory). x.state) leaves.local ∙ bytes.state,
        ap (λ (x : NodeMemory). x.reservation) leaves.local ∙ bytes.reservation,
      ),
    )

pub aligned_front : (front : List Note) (n : Note) → All IsAlignedNote (front ++ n ∷ []) → All IsAlignedNote front
aligned_front front n all = λ k d less.
    let e : get_or (front ++ n ∷ []) k d ≡ get_or front k d = get_or_append_left front (n ∷ []) d k less in
    subst IsAlignedNote e (all k d (omega (arith, length_push front n)))

pub aligned_last : (front : List Note) (n : Note) → All IsAlignedNote (front ++ n ∷ []) → IsAlignedNote n
aligned_last front n all = subst IsAlignedNote (get_or_push front n n (length front) refl) (all (length front) n (omega (arith, length_push front n)))

pub no_note : (ns : List Note) → length ns ≡ 0 → ns ≡ []
no_note [] len = refl
no_note (n ∷ ns) len = absurd (omega (arith, len))
