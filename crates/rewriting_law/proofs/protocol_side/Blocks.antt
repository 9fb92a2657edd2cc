-- The state bytes of a node's lines, and the bytes of its copy, by block.
use Rattle.std.proofs.Common.{◌≡◌, ℕ, ◌<◌, true, false, cond, eqb, Some, None, refl, sym, ap, ◌∙◌, inl, inr, arith}
use Rattle.std.proofs.lemmas.Bool.Decides.{eqb_tells, nat_tests}
use Rattle.rewriting_law.proofs.Names.{Shape, IsValid, blocks, lines, first_line, block_of, has_line, changed, Exclusive, byte_of, state_with, can_read, can_write, Need, meets, Program, first_state, is_readable_state, is_writable_state, with_state}
use Rattle.state_table.specs.declared.State.{State}
use Rattle.home_directory.specs.dsm_messages.declared.messages.Need.TheVariants as want
use Rattle.dsm_protocol.proofs.Openings.{LineLaws}
use Rattle.rewriting_law.proofs.templates.States.{grants}

-- a state's byte
pub state_of_byte : (s : State) → state_with (byte_of s) ≡ s
state_of_byte Exclusive = refl
state_of_byte other = refl

pub readable_byte : (s : State) → is_readable_state (byte_of s) ≡ can_read s
readable_byte Exclusive = refl
readable_byte other = refl

pub writable_byte : (s : State) → is_writable_state (byte_of s) ≡ can_write s
writable_byte Exclusive = refl
writable_byte other = refl

pub grants_byte : (need : Need) (s : State) → grants need (byte_of s) ≡ meets need s
grants_byte want.Read s = readable_byte s
grants_byte want.Write s = writable_byte s

-- a place changed
pub place_own : {A : Type 0} (c : ℕ → ℕ → A) (i b : ℕ) (v : A)
    → changed c i (changed (c i) b v) i b ≡ v
place_own c i b v =
    let p : eqb i i ≡ true = grind (arith, nat_tests) in
    let q : eqb b b ≡ true = grind (arith, nat_tests) in rw (p, q) refl

pub row_own : {A : Type 0} (c : ℕ → A) (i : ℕ) (v : A) → changed c i v i ≡ v
row_own c i v = let p : eqb i i ≡ true = grind (arith, nat_tests) in rw p refl

module _ (laws : LineLaws) (layout : Shape) (valid : IsValid layout)
    (some : (b : ℕ) → b < blocks layout → 0 < lines layout b) where
  -- which lines a block has
  pub block_below : (line b : ℕ) → block_of layout line ≡ Some b → b < blocks layout
  block_below line b e = (laws.found layout b line valid e).0

  pub line_in : (line b : ℕ) → block_of layout line ≡ Some b → has_line layout b line ≡ true
  line_in line b e = (laws.found layout b line valid e).1

  pub line_of_other : (line d b : ℕ) → block_of layout line ≡ Some d → b < blocks layout
      → has_line layout b line ≡ eqb d b
  line_of_other line d b e below = elim (eqb_tells d b) [
    | inl q ↦ line_in line b (e ∙ ap (λ z. Some z) q.1) ∙ sym q.0
    | inr q ↦ (elim (has_line layout b line)
        as (λ t. has_line layout b line ≡ t → t ≡ eqb d b) [
          | true ↦ (λ t. absurd (
              let f : Some d ≡ Some b = sym e ∙ laws.has layout b line valid below t in
              let same : d ≡ b = cc in q.1 same))
          | false ↦ (λ t. sym q.0)
        ]) refl
  ]

  pub line_of_none : (line b : ℕ) → block_of layout line ≡ None → b < blocks layout
      → has_line layout b line ≡ false
  line_of_none line b e below = (elim (has_line layout b line)
      as (λ t. has_line layout b line ≡ t → t ≡ false) [
        | true ↦ (λ t. absurd (
            let f : None ≡ Some b = sym e ∙ laws.has layout b line valid below t in cc))
        | false ↦ (λ t. refl)
      ]) refl

  pub first_in : (b : ℕ) → b < blocks layout → block_of layout (first_line layout b) ≡ Some b
  first_in b below =
      let few = some b below in
      laws.has layout b (first_line layout b) valid below
      ((laws.ends layout b (first_line layout b)).1 (omega arith, omega (arith, few)))

  -- the block of a state that is put
  pub state_put : (b : ℕ) (s : State) (states : ℕ → ℕ) → b < blocks layout → (d : ℕ)
      → d < blocks layout → state_with (with_state layout b s states (first_line layout d))
      ≡ changed (λ c. state_with (states (first_line layout c))) b s d
  state_put b s states below d low =
      let is = line_of_other (first_line layout d) d b (first_in d low) below in
      ap (λ t. state_with (cond t (byte_of s) (states (first_line layout d)))) is
      ∙ (elim (eqb d b) as (λ t. state_with (cond t (byte_of s) (states (first_line layout d)))
      ≡ cond t s (state_with (states (first_line layout d)))) [
        | true ↦ state_of_byte s
        | false ↦ refl
      ])

  -- each line of a block has the block's state, and another line that of its class
  pub record Fits (program : Program) (states : ℕ → ℕ) : Type 0 where
    pub block : (line b : ℕ) → block_of layout line ≡ Some b
        → states line ≡ byte_of (state_with (states (first_line layout b)))
    pub alone : (line : ℕ) → block_of layout line ≡ None
        → states line ≡ first_state (program.class line) false

  pub fits_put : (program : Program) (b : ℕ) (s : State) (states : ℕ → ℕ) → b < blocks layout
      → Fits program states → Fits program (with_state layout b s states)
  fits_put program b s states below f = record {
    block = λ line d e.
        let low = block_below line d e in
        let is = line_of_other line d b e below in
        let there = state_put b s states below d low in
        (elim (eqb d b) as (λ t. has_line layout b line ≡ t
        → state_with (with_state layout b s states (first_line layout d))
        ≡ cond t s (state_with (states (first_line layout d))) → with_state layout b s states line
        ≡ byte_of (state_with (with_state layout b s states (first_line layout d)))) [
          | true ↦ (λ t u. ap (λ z. cond z (byte_of s) (states line)) t ∙ ap byte_of (sym u))
          | false ↦ (λ t u. ap (λ z. cond z (byte_of s) (states line)) t ∙ f.block line d e
              ∙ ap byte_of (sym u))
        ]) is there;
    alone = λ line e.
        ap (λ z. cond z (byte_of s) (states line)) (line_of_none line b e below) ∙ f.alone line e;
  }

  -- what a line's byte says
  pub readable_line : (program : Program) (states : ℕ → ℕ) → Fits program states → (line b : ℕ)
      → block_of layout line ≡ Some b
      → is_readable_state (states line) ≡ can_read (state_with (states (first_line layout b)))
  readable_line program states f line b e =
      ap is_readable_state (f.block line b e)
      ∙ readable_byte (state_with (states (first_line layout b)))

  pub writable_line : (program : Program) (states : ℕ → ℕ) → Fits program states → (line b : ℕ)
      → block_of layout line ≡ Some b
      → is_writable_state (states line) ≡ can_write (state_with (states (first_line layout b)))
  writable_line program states f line b e =
      ap is_writable_state (f.block line b e)
      ∙ writable_byte (state_with (states (first_line layout b)))

  pub grants_line : (program : Program) (states : ℕ → ℕ) → Fits program states → (line b : ℕ)
      (need : Need) → block_of layout line ≡ Some b
      → grants need (states line) ≡ meets need (state_with (states (first_line layout b)))
  grants_line program states f line b need e =
      ap (grants need) (f.block line b e)
      ∙ grants_byte need (state_with (states (first_line layout b)))
