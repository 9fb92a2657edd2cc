-- What the protocol keeps of the nodes beside the one memory.
use Rattle.std.proofs.Common.{◌≡◌, ℕ, ◌<◌, cond, eqb, true, false, Some, refl, sym, ap, ◌∙◌, inl, inr}
use Rattle.std.specs.Prelude.{if◌then◌else◌, ◌==◌}
use Rattle.std.proofs.lemmas.Bool.Decides.{eqb_tells}
use Rattle.rewriting_law.proofs.Names.{width_of, is_aligned, LoadKind, Width, extend, Shape, stored, Shared, class_at, line_of, load_value, after_other, Work, NodeMemory, is_readable_state, is_writable_state}
use Rattle.rewriting_law.proofs.templates.RegisterLemmas.{equal}
use Rattle.rewriting_law.proofs.templates.States.{Suits}
use Rattle.rewriting_law.proofs.templates.Checked.{value_same}

-- the nodes' parts that words see, where one of them is another
abbrev pub with_local : (ℕ → NodeMemory) → ℕ → NodeMemory → ℕ → NodeMemory
with_local locals i n j = if j == i then n else locals j

-- it is that one at its place
pub local_here : (locals : ℕ → NodeMemory) (i : ℕ) (n : NodeMemory) → with_local locals i n i ≡ n
local_here locals i n = ap (λ t. cond t n (locals i)) (equal i i refl)

pub is_same : (x y : ℕ) → eqb x y ≡ true → x ≡ y
is_same x y h = elim (eqb_tells x y) [
  | inl e ↦ e.1
  | inr e ↦ (let bad : false ≡ true = sym e.0 ∙ h in cc)
]

pub readable_if_writable : (s : ℕ) → is_writable_state s ≡ true → is_readable_state s ≡ true
readable_if_writable s h = ap is_readable_state (is_same s 0 h)

-- a load sees its line alone
pub load_same : (k : LoadKind) (f g : ℕ → ℕ) (x : ℕ) → is_aligned (width_of k) x ≡ true
    → ((y : ℕ) → line_of y ≡ line_of x → f y ≡ g y) → load_value k f x ≡ load_value k g x
load_same k f g x al h = ap (extend k) (value_same (width_of k) f g x al h)

module _ (layout : Shape) (work : Work) where
  -- what the protocol keeps of the nodes beside the one memory, as far as words use it
  pub record Sharing : Type 1 where
    pub Holds : (ℕ → NodeMemory) → (ℕ → ℕ) → Type 0
    pub suits : (locals : ℕ → NodeMemory) (memory : ℕ → ℕ) → Holds locals memory → (i : ℕ)
        → i < work.layout.nodes → Suits work.program (locals i)
    -- a shared line that a node may read is there as in the memory
    pub coherent : (locals : ℕ → NodeMemory) (memory : ℕ → ℕ) → Holds locals memory → (i : ℕ)
        → i < work.layout.nodes → (a : ℕ) → class_at work.program a ≡ Shared
        → is_readable_state ((locals i).state (line_of a)) ≡ true → (locals i).copy a ≡ memory a
    -- it speaks of copies and states alone
    pub like : (locals others : ℕ → NodeMemory) (memory : ℕ → ℕ)
        → ((i : ℕ) → (locals i).copy ≡ (others i).copy)
        → ((i : ℕ) → (locals i).state ≡ (others i).state) → Holds locals memory
        → Holds others memory
    -- a store to a shared line that the node may write
    pub stores : (locals : ℕ → NodeMemory) (memory : ℕ → ℕ) → Holds locals memory → (i : ℕ)
        → i < work.layout.nodes → (w : Width) (a value : ℕ) → is_aligned w a ≡ true
        → class_at work.program a ≡ Shared → is_writable_state ((locals i).state (line_of a)) ≡ true
        → Holds (with_local locals i
        (record (locals i) { copy = stored w (locals i).copy a value })) (stored w memory a value)
    -- a store to a line that a node may write ends no reservation of a line that another may read
    pub apart : (locals : ℕ → NodeMemory) (memory : ℕ → ℕ) → Holds locals memory → (i j : ℕ)
        → i < work.layout.nodes → j < work.layout.nodes → eqb j i ≡ false → (x y : ℕ)
        → is_writable_state ((locals i).state (line_of x)) ≡ true
        → (class_at work.program y ≡ Shared
        → is_readable_state ((locals j).state (line_of y)) ≡ true)
        → after_other layout x (Some y) ≡ Some y

  -- a reservation on a shared line implies that the node may read it
  abbrev pub IsReadable : NodeMemory → Type 0
  IsReadable n =
      (a : ℕ) → n.reservation ≡ Some a → class_at work.program a ≡ Shared
      → is_readable_state (n.state (line_of a)) ≡ true
