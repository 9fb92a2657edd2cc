-- Blocks at a node, by line and by address.
use Rattle.std.proofs.Common.{◌≡◌, ℕ, zero, suc, ◌+◌, ◌-◌, ◌*◌, ◌/◌, ◌<◌, ◌≤◌, Bool, true, false, List, [], ◌∷◌, length, get_or, refl, sym, ap, ◌∙◌, subst, inl, inr, Option, Some, None, arith, add-zero}
use Rattle.std.specs.Prelude.{◌↔◌, IsSome, is_some}
use Rattle.std.proofs.Math.Path.{fun_ext}
use Rattle.std.proofs.lemmas.Bool.Decides.{eqb_tells}
use Rattle.block_layout.specs.Layout.{Shape, IsValid, blocks, lines, first_line, block_of, has_line, is_shared}
use Rattle.block_layout.specs.Update.{changed}
use Rattle.state_table.specs.declared.State.{State}
use Rattle.state_table.specs.declared.State.TheVariants.{Exclusive, Shared, Invalid, Pending}
use Rattle.state_table.specs.declared.classes.LineClass.{LineClass}
use Rattle.state_table.specs.LineClasses.{class_byte}
use Rattle.state_table.specs.StateByte.{byte_of, state_with}
use Rattle.state_table.specs.States.{States, state_of, line_byte, line_byte_in}
use Rattle.node_words.specs.flag_memory.Copy.{Copy, memory, bytes_of, bytes_from, CopyLaws}
use Rattle.node_words.specs.flag_memory.Flag.{flag_byte}
use Rattle.node_words.specs.miss_handlers.Waits.{NodeWaits, wait_of}
use Rattle.node_words.specs.miss_handlers.Effects.{local_block}
use Rattle.node_words.specs.node_model.Node.{Node}
use Rattle.node_words.specs.node_model.Turns.{with_state, with_bytes, block_at}
use Rattle.node_words.specs.node_memory.Shelf.{Shelf, copy_of, local_of}
use Rattle.node_words.specs.node_memory.Blocks.{blocks_at}
use Rattle.node_words.proofs.node_memory.ShelfLemmas.{copy_shared, copy_outside}

-- what the layout's law says of the lines of a block
pub record LineLaws : Type 0 where
  pub ends : (s : Shape) (b line : ℕ) → (has_line s b line ≡ true) ↔
      ((first_line s b ≤ line) × (line < first_line s b + lines s b))
  pub has : (s : Shape) (b line : ℕ) → IsValid s → b < blocks s → has_line s b line ≡ true
      → block_of s line ≡ Some b
  pub found : (s : Shape) (b line : ℕ) → IsValid s → block_of s line ≡ Some b → (b < blocks s)
      × (has_line s b line ≡ true)
  pub shared : (s : Shape) (line : ℕ) → (is_shared s line ≡ true) ↔ IsSome (block_of s line)
  pub some : (s : Shape) (b : ℕ) → IsValid s → b < blocks s → 0 < lines s b

some_none : (b : ℕ) → Some b ≡ None → ⊥
some_none b e = cc

some_is : (c b : ℕ) → Some c ≡ Some b → c ≡ b
some_is c b e = cc

true_false : true ≡ false → ⊥
true_false e = cc

back : (st : State) → state_with (byte_of st) ≡ st
back Exclusive = refl
back Shared = refl
back Invalid = refl
back Pending = refl

-- lists with the same bytes
same_bytes : (xs ys : List ℕ) → length xs ≡ length ys
    → ((k : ℕ) → k < length xs → get_or xs k 0 ≡ get_or ys k 0) → xs ≡ ys
same_bytes [] [] e h = refl
same_bytes [] (y ∷ ys) e h = absurd (omega arith)
same_bytes (x ∷ xs) [] e h = absurd (omega arith)
same_bytes (x ∷ xs) (y ∷ ys) e h =
    let z : x ≡ y = h zero (omega arith) in
    let r = same_bytes xs ys (omega arith) (λ k l. h (suc k) (omega arith)) in cc

len_from : (f : ℕ → ℕ) (at n : ℕ) → length (bytes_from f at n) ≡ n
len_from f at zero = refl
len_from f at (suc n) = ap suc (len_from f (at + 1) n)

get_from : (f : ℕ → ℕ) (at n k : ℕ) → k < n → get_or (bytes_from f at n) k 0 ≡ f (at + k)
get_from f at zero k l = absurd (omega arith)
get_from f at (suc n) zero l = rw add-zero refl
get_from f at (suc n) (suc k) l = get_from f (at + 1) n k (omega arith) ∙ ap f (omega arith)

offset : (a f n : ℕ) → f ≤ a / 64 → a / 64 < f + n
    → (a - 64 * f < 64 * n) × (64 * f + (a - 64 * f) ≡ a)
offset a f n low high = (omega arith, omega arith)

in_block : (f n k : ℕ) → k < 64 * n → (f ≤ (64 * f + k) / 64) × ((64 * f + k) / 64 < f + n)
in_block f n k low = (omega arith, omega arith)

module _ (laws : LineLaws) (l : Shape) (valid : IsValid l) where
  not_in : (b line : ℕ) → b < blocks l → (block_of l line ≡ Some b → ⊥) → has_line l b line ≡ false
  not_in b line bb away = go (has_line l b line) refl
    where
      go : (t : Bool) → has_line l b line ≡ t → t ≡ false
      go true e = absurd (away (laws.has l b line valid bb e))
      go false e = refl

  is_in : (line b : ℕ) → block_of l line ≡ Some b → is_shared l line ≡ true
  is_in line b e = (laws.shared l line).1 (ap is_some e)

  pub is_out : (line : ℕ) → block_of l line ≡ None → is_shared l line ≡ false
  is_out line e = go (is_shared l line) refl
    where
      go : (t : Bool) → is_shared l line ≡ t → t ≡ false
      go true s = absurd (true_false (sym ((laws.shared l line).0 s) ∙ ap is_some e))
      go false s = refl

  -- the state bytes

  pub byte_out : (s : States) (line : ℕ) → s.layout ≡ l → block_of l line ≡ None
      → line_byte s line ≡ class_byte s.program line
  byte_out s line e is = ap (λ (z : Shape). line_byte_in s line (block_of z line)) e
      ∙ ap (line_byte_in s line) is

  pub byte_in : (s : States) (line b : ℕ) → s.layout ≡ l → block_of l line ≡ Some b
      → line_byte s line ≡ byte_of (state_of s b)
  byte_in s line b e is = ap (λ (z : Shape). line_byte_in s line (block_of z line)) e
      ∙ ap (line_byte_in s line) is

  pub set_states : (old new : States) (b : ℕ) (st : State) → b < blocks l → old.layout ≡ l
      → new.layout ≡ l → new.program ≡ old.program → state_of new ≡ changed (state_of old) b st
      → line_byte new ≡ with_state l b st (line_byte old)
  set_states old new b st bb lo ln p e = fun_ext (λ line. go line (block_of l line) refl)
    where
      go : (line : ℕ) (o : Option ℕ) → block_of l line ≡ o
          → line_byte new line ≡ with_state l b st (line_byte old) line
      go line None is =
          let h : has_line l b line ≡ false = not_in b line bb (λ q. some_none b (sym q ∙ is)) in
          rw h (byte_out new line ln is ∙ ap (λ (z : List LineClass). class_byte z line) p
          ∙ sym (byte_out old line lo is))
      go line (Some c) is =
          let f = laws.found l c line valid is in
          let s : state_of new c ≡ changed (state_of old) b st c = ap (λ (g : ℕ → State). g c) e in
          elim (eqb_tells c b) [
            | inl q ↦
                (let h : has_line l b line ≡ true = subst (λ z. has_line l z line ≡ true) q.1 f.1 in
                let z : changed (state_of old) b st c ≡ st = rw q.0 refl in
                rw h (byte_in new line c ln is ∙ ap byte_of (s ∙ z)))
            | inr q ↦
                (let h : has_line l b line ≡ false = not_in b line bb (λ w. q.1 (some_is c b (sym is ∙ w))) in
                let z : changed (state_of old) b st c ≡ state_of old c = rw q.0 refl in
                rw h (byte_in new line c ln is ∙ ap byte_of (s ∙ z) ∙ sym (byte_in old line c lo is)))
          ]

  pub same_states : (old new : States) → old.layout ≡ l → new.layout ≡ l
      → new.program ≡ old.program → state_of new ≡ state_of old → line_byte new ≡ line_byte old
  same_states old new lo ln p e = fun_ext (λ line. go line (block_of l line) refl)
    where
      go : (line : ℕ) (o : Option ℕ) → block_of l line ≡ o → line_byte new line ≡ line_byte old line
      go line None is = byte_out new line ln is ∙ ap (λ (z : List LineClass). class_byte z line) p
          ∙ sym (byte_out old line lo is)
      go line (Some c) is = byte_in new line c ln is ∙ ap (λ (g : ℕ → State). byte_of (g c)) e
          ∙ sym (byte_in old line c lo is)

  -- the copy

  pub byte_at_block : (x : Copy) (a c : ℕ) → x.layout ≡ l → CopyLaws x → block_of l (a / 64) ≡ Some c
      → copy_of x a ≡ get_or (bytes_of x c) (a - 64 * first_line l c) 0
  byte_at_block x a c e copy is =
      let f = laws.found l c (a / 64) valid is in
      let ends = (laws.ends l c (a / 64)).0 f.1 in
      let k = a - 64 * first_line l c in
      let off = offset a (first_line l c) (lines l c) ends.0 ends.1 in
      let get = copy.get c k (subst (λ z. c < blocks z) (sym e) f.0)
      (subst (λ z. k < 64 * lines z c) (sym e) off.0) in
      let shared : is_shared x.layout (a / 64) ≡ true =
      subst (λ z. is_shared z (a / 64) ≡ true) (sym e) (is_in (a / 64) c is) in
      copy_shared x a shared ∙ ap (memory x) (sym off.1)
      ∙ ap (λ z. memory x (64 * first_line z c + k)) (sym e) ∙ sym get

  pub flag_out : (x : Copy) (a : ℕ) → x.layout ≡ l → block_of l (a / 64) ≡ None → copy_of x a ≡ flag_byte a
  flag_out x a e is = copy_outside x a
      (subst (λ z. is_shared z (a / 64) ≡ false) (sym e) (is_out (a / 64) is))

  pub put_bytes : (old new : Copy) (b : ℕ) (bytes : List ℕ) → b < blocks l → old.layout ≡ l
      → new.layout ≡ l → CopyLaws old → CopyLaws new → bytes_of new ≡ changed (bytes_of old) b bytes
      → copy_of new ≡ with_bytes l b bytes (copy_of old)
  put_bytes old new b bytes bb lo ln co cn e = fun_ext (λ a. go a (block_of l (a / 64)) refl)
    where
      go : (a : ℕ) (o : Option ℕ) → block_of l (a / 64) ≡ o
          → copy_of new a ≡ with_bytes l b bytes (copy_of old) a
      go a None is =
          let h : has_line l b (a / 64) ≡ false = not_in b (a / 64) bb (λ q. some_none b (sym q ∙ is)) in
          rw h (flag_out new a ln is ∙ sym (flag_out old a lo is))
      go a (Some c) is =
          let f = laws.found l c (a / 64) valid is in
          let k = a - 64 * first_line l c in
          let s : get_or (bytes_of new c) k 0 ≡ get_or (changed (bytes_of old) b bytes c) k 0 =
          ap (λ (g : ℕ → List ℕ). get_or (g c) k 0) e in
          elim (eqb_tells c b) [
            | inl q ↦
                (let h : has_line l b (a / 64) ≡ true = subst (λ z. has_line l z (a / 64) ≡ true) q.1 f.1 in
                let z : get_or (changed (bytes_of old) b bytes c) k 0 ≡ get_or bytes k 0 = rw q.0 refl in
                let y : get_or bytes k 0 ≡ get_or bytes (a - 64 * first_line l b) 0 =
                ap (λ x. get_or bytes (a - 64 * first_line l x) 0) q.1 in
                rw h (byte_at_block new a c ln cn is ∙ s ∙ z ∙ y))
            | inr q ↦
                (let h : has_line l b (a / 64) ≡ false = not_in b (a / 64) bb (λ w. q.1 (some_is c b (sym is ∙ w))) in
                let z : get_or (changed (bytes_of old) b bytes c) k 0 ≡ get_or (bytes_of old c) k 0 = rw q.0 refl in
                rw h (byte_at_block new a c ln cn is ∙ s ∙ z ∙ sym (byte_at_block old a c lo co is)))
          ]

  pub same_copy : (old new : Copy) → old.layout ≡ l → new.layout ≡ l → CopyLaws old → CopyLaws new
      → bytes_of new ≡ bytes_of old → copy_of new ≡ copy_of old
  same_copy old new lo ln co cn e = fun_ext (λ a. go a (block_of l (a / 64)) refl)
    where
      go : (a : ℕ) (o : Option ℕ) → block_of l (a / 64) ≡ o → copy_of new a ≡ copy_of old a
      go a None is = flag_out new a ln is ∙ sym (flag_out old a lo is)
      go a (Some c) is = byte_at_block new a c ln cn is
          ∙ ap (λ (g : ℕ → List ℕ). get_or (g c) (a - 64 * first_line l c) 0) e
          ∙ sym (byte_at_block old a c lo co is)

  -- a block at the node

  pub first_in : (b : ℕ) → b < blocks l → block_of l (first_line l b) ≡ Some b
  first_in b bb =
      let n = laws.some l b valid bb in
      laws.has l b (first_line l b) valid bb
      ((laws.ends l b (first_line l b)).1 (omega arith, omega (arith, n)))

  pub block_state : (s : States) (b : ℕ) → b < blocks l → s.layout ≡ l
      → state_with (line_byte s (first_line l b)) ≡ state_of s b
  block_state s b bb e = ap state_with (byte_in s (first_line l b) b e (first_in b bb)) ∙ back (state_of s b)

  address_in : (b k : ℕ) → b < blocks l → k < 64 * lines l b
      → block_of l ((64 * first_line l b + k) / 64) ≡ Some b
  address_in b k bb bk = laws.has l b ((64 * first_line l b + k) / 64) valid bb
      ((laws.ends l b ((64 * first_line l b + k) / 64)).1 (in_block (first_line l b) (lines l b) k bk))

  pub block_bytes : (c : Copy) (b : ℕ) → b < blocks l → c.layout ≡ l → CopyLaws c
      → bytes_from (copy_of c) (64 * first_line l b) (64 * lines l b) ≡ bytes_of c b
  block_bytes c b bb e copy =
      let n : length (bytes_of c b) ≡ 64 * lines l b = copy.len b (subst (λ z. b < blocks z) (sym e) bb)
      ∙ ap (λ z. 64 * lines z b) e in
      let m = len_from (copy_of c) (64 * first_line l b) (64 * lines l b) in
      same_bytes (bytes_from (copy_of c) (64 * first_line l b) (64 * lines l b)) (bytes_of c b) (m ∙ sym n)
      (λ k below.
      let bk : k < 64 * lines l b = omega (arith, below, m) in
      let z : 64 * first_line l b + k - 64 * first_line l b ≡ k = omega arith in
      get_from (copy_of c) (64 * first_line l b) (64 * lines l b) k bk
      ∙ byte_at_block c (64 * first_line l b + k) b e copy (address_in b k bb bk)
      ∙ ap (λ x. get_or (bytes_of c b) x 0) z)

  pub block_is : (n : Node) (w : NodeWaits) (s : Shelf) (b : ℕ) → b < blocks l → s.states.layout ≡ l
      → s.copy.layout ≡ l → CopyLaws s.copy → n.local ≡ local_of s → n.wait ≡ wait_of w
      → local_block (blocks_at w s) b ≡ block_at l n b
  block_is n w s b bb ls lc copy is wait =
      let here : local_block (blocks_at w s) b
      ≡ record {
        state = state_with (line_byte s.states (first_line l b));
        bytes = bytes_from (copy_of s.copy) (64 * first_line l b) (64 * lines l b);
        wait = wait_of w b;
      } =
      λ t. record {
        state = sym (block_state s.states b bb ls) t;
        bytes = sym (block_bytes s.copy b bb lc copy) t;
        wait = wait_of w b;
      } in
      here ∙ (λ t. record {
        state = state_with ((sym is t).state (first_line l b));
        bytes = bytes_from (sym is t).copy (64 * first_line l b) (64 * lines l b);
        wait = sym wait t b;
      })
