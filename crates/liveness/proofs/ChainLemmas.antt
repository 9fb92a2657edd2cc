-- Chains of edges.
use Rattle.std.specs.Prelude.{Some, slice_get}
use Rattle.std.proofs.Math.ListN.{set}
use Rattle.liveness.specs.declared.node.FlowNode.{FlowNode}
use Rattle.liveness.specs.Leads.{Leads}
use Rattle.liveness.specs.Nodes.{Next}
use Rattle.std.proofs.Common.{◌≡◌, ℕ, ◌+◌, ◌*◌, ◌<◌, ◌⊎◌, inl, inr, List, [], ◌∷◌, ◌++◌, length, get_or, sym, ap, ◌∙◌, subst, arith}
use Rattle.std.proofs.lemmas.List.{get_or_past, get_or_append_left, get_or-set_same, get_or-set_other}
use Rattle.std.proofs.Math.Seq.{get_or-append_seam}
use Rattle.std.proofs.lemmas.Bool.Decides.{leb_tells, eqb_tells}
use Rattle.liveness.specs.Chains.{InChain, IsInto}
use Rattle.liveness.specs.Chains.InChain.{here, there}

-- no chain begins with none
pub none_in : (links : List ℕ) (e h : ℕ) → h ≡ 0 → InChain links e h → ⊥
none_in links e h z (here s) = omega (arith, z, s)
none_in links e h z (there k s c) = omega (arith, z, s)

-- a chain stays when an edge is added
pub chain_more : (links : List ℕ) (x e h : ℕ) → InChain links e h → InChain (links ++ x ∷ []) e h
chain_more links x e h (here s) = here s
chain_more links x e h (there k s c) = elim (leb_tells (length links) k) [
  | inl past ↦ absurd (none_in links e _ (get_or_past links k 0 past.1) c)
  | inr within ↦
      let P : ℕ → Type 0 = λ y. InChain (links ++ x ∷ []) e y in
      there k s (subst P (sym (get_or_append_left links (x ∷ []) 0 k (omega (arith, within.1)))) (chain_more links x e _ c))
]

-- the chain after its first edge
pub chain_rest : (links : List ℕ) (e h k : ℕ) → h ≡ k + 1 → InChain links e h → (e ≡ k) ⊎ InChain links e (get_or links k 0)
chain_rest links e h k s (here t) = inl (omega (arith, s, t))
chain_rest links e h k s (there j t c) =
    let same : j ≡ k = omega (arith, s, t) in
    let P : ℕ → Type 0 = λ y. InChain links e (get_or links y 0) in inr (subst P same c)

pub enter_kept : (heads links new : List ℕ) (b len before e q : ℕ) → b < length heads → before ≡ get_or heads b 0 → new ≡ links ++ before ∷ [] → len ≡ length links + 1 → IsInto heads links e q → IsInto (set heads b len) new e q
enter_kept heads links new b len before e q l eb en el c =
    let N : List ℕ → Type 0 = λ ls. InChain ls e (get_or (set heads b len) q 0) in
    subst N (sym en) (elim (eqb_tells q b) [
      | inl same ↦
          let P : ℕ → Type 0 = λ y. InChain (links ++ before ∷ []) e y in
          let at : get_or (set heads b len) q 0 ≡ length links + 1 = ap (λ y. get_or (set heads b len) y 0) same.1 ∙ get_or-set_same heads b len 0 l ∙ el in
          let next : get_or heads q 0 ≡ get_or (links ++ before ∷ []) (length links) 0 = ap (λ y. get_or heads y 0) same.1 ∙ sym eb ∙ sym (get_or-append_seam links before [] 0) in
          there (length links) at (subst P next (chain_more links before e _ c))
      | inr other ↦
          let P : ℕ → Type 0 = λ y. InChain (links ++ before ∷ []) e y in
          subst P (sym (get_or-set_other heads b q len 0 other.1)) (chain_more links before e _ c)
    ])

pub enter_added : (heads links new : List ℕ) (b len : ℕ) → b < length heads → len ≡ length links + 1 → IsInto (set heads b len) new (length links) b
enter_added heads links new b len l el = here (get_or-set_same heads b len 0 l ∙ el)

pub pass_kept : (heads links new : List ℕ) (e q : ℕ) → new ≡ links ++ 0 ∷ [] → IsInto heads links e q → IsInto heads new e q
pass_kept heads links new e q en c = let N : List ℕ → Type 0 = λ ls. InChain ls e (get_or heads q 0) in subst N (sym en) (chain_more links 0 e _ c)

-- the edges of one more node
pub leads_more : (nodes : List FlowNode) (i : ℕ) (node : FlowNode) (h0 l0 h1 l1 h2 l2 : List ℕ) → Leads nodes i h0 l0 → slice_get nodes i ≡ Some node →
    length l0 ≡ 2 * i → length l1 ≡ 2 * i + 1 → length h2 ≡ length h0 → length h1 ≡ length h0 →
    ((e b : ℕ) → IsInto h0 l0 e b → IsInto h1 l1 e b) → ((e b : ℕ) → IsInto h1 l1 e b → IsInto h2 l2 e b) →
    ((b : ℕ) → node.first ≡ Some b → b < length h0 → IsInto h1 l1 (length l0) b) →
    ((b : ℕ) → node.second ≡ Some b → b < length h1 → IsInto h2 l2 (length l1) b) →
    Leads nodes (i + 1) h2 l2
leads_more nodes i node h0 l0 h1 l1 h2 l2 leads at len0 len1 hs hs1 kept1 kept2 first second p b other below is next within = elim (eqb_tells p i) [
  | inl same ↦
      let one : Some other ≡ Some node = sym is ∙ ap (slice_get nodes) same.1 ∙ at in
      let it : other ≡ node = cc in
      let e = same.1 in
      let P : FlowNode → Type 0 = λ n. Next n b in
      elim (subst P it next) [
        | inl f ↦ (length l0, omega (arith, len0, e), kept2 _ b (first b f (omega (arith, within, hs))))
        | inr s ↦ (length l1, omega (arith, len1, e), second b s (omega (arith, within, hs, hs1)))
      ]
  | inr apart ↦
      let not = apart.1 in
      let old = leads p b other (omega (arith, below, not)) is next (omega (arith, within, hs)) in
      (old.0, old.1, kept2 _ b (kept1 _ b old.2))
]
