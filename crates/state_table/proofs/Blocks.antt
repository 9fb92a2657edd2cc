-- The bytes of the lines of blocks, by the laws of a layout.
use Rattle.std.proofs.Common.{Bool, ◌⊎◌, false, ◌≡◌, ℕ, ◌+◌, ◌-◌, ◌<◌, ◌≤◌, true, ltb, List, length, take, drop, ◌++◌, get_or, Option, Some, None, refl, sym, ap, ◌∙◌, subst, arith, inl, inr}
use Rattle.std.specs.Prelude.{◌↔◌, IsSome}
use Rattle.std.proofs.Math.Path.{fun_ext}
use Rattle.std.proofs.Math.Seq.{take-append_seam}
use Rattle.std.proofs.lemmas.Bool.Decides.{eqb_tells, leb_tells, nat_tests}
use Rattle.block_layout.specs.Layout.{Shape, IsValid, blocks, lines, first_line, start, block_of, has_line, is_shared, shared_before, shared_lines, place_of}
use Rattle.block_layout.specs.Update.{changed}
use Rattle.state_table.specs.declared.State.{State}
use Rattle.state_table.specs.declared.State.TheVariants.{Exclusive, Shared, Invalid, Pending}
use Rattle.state_table.specs.declared.classes.LineClass.{LineClass}
use Rattle.state_table.specs.StateByte.{byte_of, state_with}
use Rattle.state_table.specs.States.{States, state_in, state_of, line_byte, AreStates}
use Rattle.state_table.specs.Fill.{IsFilled}

-- where the lines of blocks stand among the shared lines
pub record Laws (s : Shape) : Type 0 where
  pub some : (b : ℕ) → b < blocks s → 0 < lines s b
  pub within : (b : ℕ) → b < blocks s → start s b + lines s b ≤ shared_lines s
  pub apart : (b c : ℕ) → c < blocks s → b < c → start s b + lines s b ≤ start s c
  pub found : (b line : ℕ) → block_of s line ≡ Some b → (b < blocks s) × (has_line s b line ≡ true)
  pub ends : (b line : ℕ) → (has_line s b line ≡ true) ↔ ((first_line s b ≤ line) × (line < first_line s b + lines s b))
  pub shared : (line : ℕ) → (is_shared s line ≡ true) ↔ IsSome (block_of s line)
  pub place : (b line : ℕ) → b < blocks s → has_line s b line ≡ true → shared_before s line ≡ start s b + (line - first_line s b)

pub laws : (s : Shape) → IsValid s
    → ((t : Shape) (b : ℕ) → IsValid t → b < blocks t → 0 < lines t b)
    → ((t : Shape) (b : ℕ) → IsValid t → b < blocks t → start t b + lines t b ≤ shared_lines t)
    → ((t : Shape) (b c : ℕ) → IsValid t → c < blocks t → b < c → start t b + lines t b ≤ start t c)
    → ((t : Shape) (b line : ℕ) → IsValid t → block_of t line ≡ Some b → (b < blocks t) × (has_line t b line ≡ true))
    → ((t : Shape) (b line : ℕ) → (has_line t b line ≡ true) ↔ ((first_line t b ≤ line) × (line < first_line t b + lines t b)))
    → ((t : Shape) (line : ℕ) → (is_shared t line ≡ true) ↔ IsSome (block_of t line))
    → ((t : Shape) (b line : ℕ) → IsValid t → b < blocks t → has_line t b line ≡ true → shared_before t line ≡ start t b + (line - first_line t b))
    → Laws s
laws s v some within apart found ends shared place = record {
  some = λ b h. some s b v h;
  within = λ b h. within s b v h;
  apart = λ b c h k. apart s b c v h k;
  found = λ b line h. found s b line v h;
  ends = λ b line. ends s b line;
  shared = λ line. shared s line;
  place = λ b line h k. place s b line v h k;
}

pub state_with-byte_of : (s : State) → state_with (byte_of s) ≡ s
state_with-byte_of Exclusive = refl
state_with-byte_of Shared = refl
state_with-byte_of Invalid = refl
state_with-byte_of Pending = refl

-- a shared line has a block, and its byte stands at its place
pub record AtPlace (s : States) (line place : ℕ) : Type 0 where
  pub below : place < shared_lines s.layout
  pub byte : get_or s.bytes place 0 ≡ line_byte s line

bool_is : (b : Bool) → (b ≡ true) ⊎ (b ≡ false)
bool_is true = inl refl
bool_is false = inr refl

-- a line that has a place is shared
pub place_some : (s : Shape) (line p : ℕ) → place_of s line ≡ Some p → (is_shared s line ≡ true) × (p ≡ shared_before s line)
unfolding place_of
place_some s line p e = elim (bool_is (is_shared s line)) [
  | inl t ↦ (let f : Some (shared_before s line) ≡ Some p = rw t at e in (t, cc))
  | inr t ↦ (let f : None ≡ Some p = rw t at e in cc)
]

-- one that has none is in no block
pub place_none : (s : Shape) (line : ℕ) → Laws s → place_of s line ≡ None → block_of s line ≡ None
unfolding place_of
place_none s line l e = elim (bool_is (is_shared s line)) [
  | inl t ↦ (let f : Some (shared_before s line) ≡ None = rw t at e in cc)
  | inr t ↦ go (block_of s line) (l.shared line).1 t
]
  where
    go : (o : Option ℕ) → (IsSome o → is_shared s line ≡ true) → is_shared s line ≡ false → o ≡ None
    go None h t = refl
    go (Some b) h t = (let f : true ≡ false = sym (h refl) ∙ t in cc)

some_at : (o : Option ℕ) → IsSome o → (b : ℕ) × (o ≡ Some b)
some_at None h = absurd cc
some_at (Some b) h = (b, refl)

pub shared_place : (s : States) (line place : ℕ) → Laws s.layout → AreStates s.layout s.bytes → is_shared s.layout line ≡ true → place ≡ shared_before s.layout line → AtPlace s line place
shared_place s line place l h shared is = go (some_at (block_of s.layout line) ((l.shared line).0 shared))
  where
    go : (b : ℕ) × (block_of s.layout line ≡ Some b) → AtPlace s line place
    go (b, e) =
        let f = l.found b line e in
        let g = (l.ends b line).0 f.1 in
        let at : place ≡ start s.layout b + (line - first_line s.layout b) = is ∙ l.place b line f.0 f.1 in
        let within : line - first_line s.layout b < lines s.layout b = omega (arith, g.0, g.1) in
        let byte : get_or s.bytes (start s.layout b + (line - first_line s.layout b)) 0 ≡ byte_of (state_of s b) = h.uniform b (line - first_line s.layout b) f.0 within in
        record {
          below = omega (arith, at, within, l.within b f.0);
          byte = rw (at, e) byte;
        }

-- the first byte of a block is that of a state
pub known_byte : (s : Shape) (ys : List ℕ) (b byte : ℕ) → Laws s → AreStates s ys → b < blocks s → byte ≡ get_or ys (start s b) 0 → byte ≡ byte_of (state_with byte)
known_byte s ys b byte l h below is =
    let t : ltb b (blocks s) ≡ true = grind (arith, nat_tests) in
    let no_more : start s b + 0 ≡ start s b = omega arith in
    let uniform : get_or ys (start s b) 0 ≡ byte_of (state_with (get_or ys (start s b) 0)) = rw (no_more, t) at (h.uniform b 0 below (l.some b below)) in
    subst (λ (x : ℕ). x ≡ byte_of (state_with x)) (sym is) uniform

-- a filled block
filled_same : (s : Shape) (old new : List ℕ) (b : ℕ) (state : State) → Laws s → b < blocks s → IsFilled old new (start s b) (start s b + lines s b) (byte_of state) → state_in s new b ≡ state
filled_same s old new b state l below f =
    let t : ltb b (blocks s) ≡ true = grind (arith, nat_tests) in
    let some = l.some b below in
    let byte : get_or new (start s b) 0 ≡ byte_of state = f.inside (start s b) (omega arith) (omega arith) in
    rw (t, byte) (state_with-byte_of state)

-- a line of another block stands elsewhere
elsewhere : (s : Shape) (old new : List ℕ) (b x k byte : ℕ) → Laws s → b < blocks s → x < blocks s → (x ≡ b → ⊥) → k < lines s x → IsFilled old new (start s b) (start s b + lines s b) byte → get_or new (start s x + k) 0 ≡ get_or old (start s x + k) 0
elsewhere s old new b x k byte l below low ne within f = elim (leb_tells b x) [
  | inl e ↦ f.above (start s x + k) (omega (arith, l.apart b x low (omega (arith, e.1))))
  | inr e ↦ f.below (start s x + k) (omega (arith, l.apart x b below e.1, within))
]

filled_other : (s : Shape) (old new : List ℕ) (b x byte : ℕ) → Laws s → b < blocks s → (x ≡ b → ⊥) → IsFilled old new (start s b) (start s b + lines s b) byte → state_in s new x ≡ state_in s old x
filled_other s old new b x byte l below ne f = elim (leb_tells (blocks s) x) [
  | inl e ↦ (let t : ltb x (blocks s) ≡ false = grind (arith, nat_tests) in rw t refl)
  | inr e ↦
      (let zero_more : start s x + 0 ≡ start s x = omega arith in
      let same : get_or new (start s x) 0 ≡ get_or old (start s x) 0 = rw zero_more at (elsewhere s old new b x 0 byte l below e.1 ne (l.some x e.1) f) in
      rw same refl)
]

pub filled_is : (s : Shape) (old new : List ℕ) (b : ℕ) (state : State) → Laws s → b < blocks s → IsFilled old new (start s b) (start s b + lines s b) (byte_of state) → (x : ℕ) → state_in s new x ≡ changed (state_in s old) b state x
filled_is s old new b state l below f x = elim (eqb_tells x b) [
  | inl q ↦ rw q.0 (rw q.1 (filled_same s old new b state l below f))
  | inr q ↦ rw q.0 (filled_other s old new b x (byte_of state) l below q.1 f)
]

pub filled_are : (s : Shape) (old new : List ℕ) (b : ℕ) (state : State) → Laws s → AreStates s old → b < blocks s → IsFilled old new (start s b) (start s b + lines s b) (byte_of state) → AreStates s new
filled_are s old new b state l h below f = record {
  valid = h.valid;
  len = f.len ∙ h.len;
  uniform = λ x k low within. elim (eqb_tells x b) [
    | inl q ↦ rw q.1 (f.inside (start s b + k) (omega arith) (omega (arith, ap (lines s) q.1)) ∙ ap byte_of (sym (filled_same s old new b state l below f)))
    | inr q ↦ elsewhere s old new b x k (byte_of state) l below low q.1 within f ∙ h.uniform x k low within ∙ ap byte_of (sym (filled_other s old new b x (byte_of state) l below q.1 f))
  ];
}

fill_at : (old z all : List ℕ) (s t l m y x : ℕ) → z ≡ old → t ≡ s → m ≡ l → x ≡ y → IsFilled z all t (t + m) x → IsFilled old all s (s + l) y
fill_at old z all s t l m y x old_is start_is lines_is byte_is f = rw (← old_is, ← start_is, ← lines_is, ← byte_is) f

-- a vector whose bytes were written as a slice
written : (ys all : List ℕ) (n : ℕ) → n ≡ length ys → length all ≡ length ys → all ≡ take n (all ++ drop (length all) ys)
written ys all n is_n len =
    let e : n ≡ length all = is_n ∙ sym len in
    rw e (sym (take-append_seam all (drop (length all) ys)))

-- the same of the slice, and of the vector
pub record Fills (s : Shape) (ys all : List ℕ) (n b : ℕ) (state : State) : Type 0 where
  pub filled : IsFilled ys all (start s b) (start s b + lines s b) (byte_of state)
  pub written : all ≡ take n (all ++ drop (length all) ys)

pub fills : (s : Shape) (ys z all : List ℕ) (n b t m x : ℕ) (state : State) → n ≡ length ys → z ≡ ys → t ≡ start s b → m ≡ lines s b → x ≡ byte_of state → IsFilled z all t (t + m) x → Fills s ys all n b state
fills s ys z all n b t m x state is_n old_is start_is lines_is byte_is f =
    let filled : IsFilled ys all (start s b) (start s b + lines s b) (byte_of state) = fill_at ys z all (start s b) t (lines s b) m (byte_of state) x old_is start_is lines_is byte_is f in
    record { filled = filled; written = written ys all n is_n filled.len }

pub set_are : (s : Shape) (ys all : List ℕ) (n b : ℕ) (state : State) → Laws s → AreStates s ys → b < blocks s → Fills s ys all n b state → AreStates s (take n (all ++ drop (length all) ys))
set_are s ys all n b state l h below f =
    subst (λ (xs : List ℕ). AreStates s xs) f.written (filled_are s ys all b state l h below f.filled)

pub set_is : (s : Shape) (p : List LineClass) (seen : States) (ys all : List ℕ) (n b : ℕ) (state : State) → record { layout = s; program = p; bytes = ys } ≡ seen → Laws s → b < blocks s → Fills s ys all n b state → state_of (record { layout = s; program = p; bytes = take n (all ++ drop (length all) ys) }) ≡ changed (state_of seen) b state
set_is s p seen ys all n b state view l below f =
    subst (λ (h : States). state_of (record { layout = s; program = p; bytes = take n (all ++ drop (length all) ys) }) ≡ changed (state_of h) b state) view
    (subst (λ (xs : List ℕ). state_of (record { layout = s; program = p; bytes = xs }) ≡ changed (state_in s ys) b state) f.written
    (fun_ext (filled_is s ys all b state l below f.filled)))
