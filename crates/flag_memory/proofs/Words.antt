-- A load and a store at the place of an address are those of the address.
use Rattle.std.proofs.Common.{◌≡◌, ℕ, ◌+◌, ◌-◌, ◌*◌, ◌/◌, ◌%◌, ◌^◌, ◌<◌, ◌≤◌, ◌⊎◌, true, false, Bool, List, refl, sym, ap, ◌∙◌, arith, inl, inr}
use Rattle.std.specs.Prelude.{slice_index}
use Rattle.std.proofs.Math.Path.{fun_ext}
use Rattle.std.proofs.lemmas.Bool.Decides.{leb_tells}
use Rattle.block_layout.specs.Layout.{Shape, is_shared}
use Rattle.rv32_decode.specs.declared.Width.{Width}
use Rattle.rv32_decode.specs.declared.Width.TheVariants.{Byte, Half, Word}
use Rattle.rv32_decode.specs.Widths.{size_of}
use Rattle.byte_range.specs.Memory.{raw, stored}
use Rattle.byte_range.proofs.ByteLemmas.{stored_in, stored_off, out_or_in}
use Rattle.flag_memory.specs.Copy.{Copy, place, memory}
use Rattle.flag_memory.proofs.Places.{Laws, place_same, line_more, place_more}

-- the byte of a shared address
pub memory_at : (c : Copy) (a : ℕ) → is_shared c.layout (a / 64) ≡ true → memory c a ≡ slice_index c.bytes (place c.layout a)
unfolding memory
memory_at c a shared = rw shared refl

pub memory_off : (c : Copy) (a : ℕ) → is_shared c.layout (a / 64) ≡ false → memory c a ≡ 0
unfolding memory
memory_off c a off = rw off refl

-- the byte so many places on in the line
memory_more : (c : Copy) (a k n : ℕ) → is_shared c.layout (a / 64) ≡ true → a % 64 + n ≤ 64 → k < n → memory c (a + k) ≡ slice_index c.bytes (place c.layout a + k)
memory_more c a k n shared room below =
    let line : (a + k) / 64 ≡ a / 64 = line_more a k n room below in
    let on : is_shared c.layout ((a + k) / 64) ≡ true = rw line shared in
    memory_at c (a + k) on ∙ ap (slice_index c.bytes) (place_more c.layout a k n room below)

-- a load of an address is one at its place
pub raw_is : (c : Copy) (w : Width) (a : ℕ) → is_shared c.layout (a / 64) ≡ true → a % 64 + size_of w ≤ 64 → raw w (slice_index c.bytes) (place c.layout a) ≡ raw w (memory c) a
unfolding raw
raw_is c Byte a shared room = sym (memory_at c a shared)
raw_is c Half a shared room =
    let p = memory_at c a shared in
    let q = memory_more c a 1 2 shared room (omega arith) in
    omega (arith, p, q)
raw_is c Word a shared room =
    let p = memory_at c a shared in
    let q = memory_more c a 1 4 shared room (omega arith) in
    let t = memory_more c a 2 4 shared room (omega arith) in
    let u = memory_more c a 3 4 shared room (omega arith) in
    omega (arith, p, q, t, u)

-- a store at the place of an address is one of the address
off_range : (s : Shape) (a x n : ℕ) → Laws s → is_shared s (a / 64) ≡ true → is_shared s (x / 64) ≡ true → a % 64 + n ≤ 64 → (x < a) ⊎ (a + n ≤ x) → (place s x < place s a) ⊎ (place s a + n ≤ place s x)
off_range s a x n l shared on room out = elim (leb_tells (place s a) (place s x)) [
  | inr low ↦ inl low.1
  | inl high ↦ elim (leb_tells (place s a + n) (place s x)) [
    | inl past ↦ inr past.1
    | inr within ↦
        (let below : place s x - place s a < n = omega (arith, high.1, within.1) in
        let more : place s (a + (place s x - place s a)) ≡ place s a + (place s x - place s a) = place_more s a (place s x - place s a) n room below in
        let line : (a + (place s x - place s a)) / 64 ≡ a / 64 = line_more a (place s x - place s a) n room below in
        let there : is_shared s ((a + (place s x - place s a)) / 64) ≡ true = rw line shared in
        let same : x ≡ a + (place s x - place s a) = place_same s x (a + (place s x - place s a)) l on there (omega (arith, more, high.1)) in
        absurd (elim out [ inl p ↦ omega (arith, p, same) | inr p ↦ omega (arith, p, same, below) ]))
  ]
]

abbrev pub copy_with : Shape → List ℕ → Copy
copy_with s xs = record { layout = s; bytes = xs }

pub stored_is : (s : Shape) (w : Width) (xs ys : List ℕ) (a v : ℕ) → Laws s → is_shared s (a / 64) ≡ true → a % 64 + size_of w ≤ 64 → slice_index ys ≡ stored w (slice_index xs) (place s a) v → memory (copy_with s ys) ≡ stored w (memory (copy_with s xs)) a v
stored_is s w xs ys a v l shared room is = fun_ext (λ x. go x (out_or_in a x (size_of w)) (bool_is (is_shared s (x / 64))))
  where
    bool_is : (b : Bool) → (b ≡ true) ⊎ (b ≡ false)
    bool_is true = inl refl
    bool_is false = inr refl

    at : (y : ℕ) → slice_index ys y ≡ stored w (slice_index xs) (place s a) v y
    at y = ap (λ (f : ℕ → ℕ). f y) is

    go : (x : ℕ) → ((x < a) ⊎ (a + size_of w ≤ x)) ⊎ ((a ≤ x) × (x < a + size_of w)) → (is_shared s (x / 64) ≡ true) ⊎ (is_shared s (x / 64) ≡ false) → memory (copy_with s ys) x ≡ stored w (memory (copy_with s xs)) a v x
    go x (inl out) (inl on) =
        memory_at (copy_with s ys) x on
        ∙ at (place s x)
        ∙ stored_off w (slice_index xs) (place s a) v (place s x) (off_range s a x (size_of w) l shared on room out)
        ∙ sym (memory_at (copy_with s xs) x on)
        ∙ sym (stored_off w (memory (copy_with s xs)) a v x out)
    go x (inl out) (inr off) =
        memory_off (copy_with s ys) x off
        ∙ sym (memory_off (copy_with s xs) x off)
        ∙ sym (stored_off w (memory (copy_with s xs)) a v x out)
    go x (inr q) t =
        let k : ℕ = x - a in
        let below : x - a < size_of w = omega (arith, q.0, q.1) in
        let sum : x ≡ a + (x - a) = omega (arith, q.0) in
        let line : (a + (x - a)) / 64 ≡ a / 64 = line_more a (x - a) (size_of w) room below in
        let more : place s (a + (x - a)) ≡ place s a + (x - a) = place_more s a (x - a) (size_of w) room below in
        let on : is_shared s (x / 64) ≡ true = ap (λ n. is_shared s (n / 64)) sum ∙ ap (is_shared s) line ∙ shared in
        let where_x : place s x ≡ place s a + (x - a) = ap (place s) sum ∙ more in
        let offset : place s x - place s a ≡ x - a = omega (arith, where_x) in
        memory_at (copy_with s ys) x on
        ∙ at (place s x)
        ∙ stored_in w (slice_index xs) (place s a) v (place s x) (omega (arith, where_x)) (omega (arith, where_x, below))
        ∙ ap (λ n. v / 2 ^ (8 * n) % 2 ^ 8) offset
        ∙ sym (stored_in w (memory (copy_with s xs)) a v x q.0 q.1)
