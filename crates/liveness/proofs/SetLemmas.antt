-- Sets that say what is live.
use Rattle.std.proofs.Common.{◌≡◌, ◌≢◌, ℕ, ◌-◌, ◌<◌, ◌^◌, ◌⊎◌, ◌↔◌, inl, inr, Bool, true, false, List, [], ◌∷◌, ◌++◌, ◌+◌, length, get_or, refl, sym, ap, ◌∙◌, subst, arith, w32}
use Rattle.std.specs.Prelude.{bit_and, bit_or, Option, Some, None, slice_get}
use Rattle.std.specs.Int.{bit_at}
use Rattle.std.proofs.Math.ListN.{set, replicate}
use Rattle.std.proofs.Math.Seq.{get_or-append_seam}
use Rattle.std.proofs.lemmas.Bool.{false_from_ne_true}
use Rattle.std.proofs.lemmas.Bool.Decides.{eqb_tells, leb_tells}
use Rattle.std.proofs.lemmas.List.{get_or-replicate, length-replicate, get_or_past, get_or_append_left, get_or-set_same, get_or-set_other}
use Rattle.std.proofs.lemmas.Option.{slice_get_within, get_or_from_slice_get, slice_get-get_or}
use Rattle.std.proofs.lemmas.Nat.Bits.{bit_at_not, bit_at-lt, bit_at-zero}
use Rattle.rv32_decode.specs.Registers.{IsMember}
use Rattle.rv32_decode.specs.declared.Instr.{Instr}
use Rattle.rv32_decode.proofs.Members.{union_member, difference_member}
use Rattle.rv32_program.specs.Liveness.{leaves_code}
use Rattle.templates.specs.declared.code.CodeWord.{CodeWord}
use Rattle.liveness.specs.declared.node.FlowNode.{FlowNode}
use Rattle.liveness.specs.Nodes.{Next, Live, Needs, set_of, IsNode, IsUnneeded}
use Rattle.liveness.specs.Nodes.Live.{uses, passes}

pub zero_member : (q : ℕ) → ¬ IsMember 0 q
zero_member q m = let z = bit_at-zero q in omega (arith, z, m)

-- what a successor needs
pub after_member : (sets : List ℕ) (next : Option ℕ) (q : ℕ) → IsMember (set_of sets next) q ↔ ((b : ℕ) × (next ≡ Some b) × IsMember (get_or sets b 0) q)
after_member sets None q = (λ m. absurd (zero_member q m), λ h. absurd (let e = h.1 in cc))
after_member sets (Some b) q =
    (λ m. (b, refl, m), λ h. let P : ℕ → Type 0 = λ c. IsMember (get_or sets c 0) q in let e = h.1 in let same : h.0 ≡ b = cc in subst P same h.2)

-- what is computed at a node
pub transfer_member : (used defs after r : ℕ) → defs < 2 ^ 32 → r < 32 →
    IsMember (bit_or used (bit_and after (2 ^ 32 - 1 - defs))) r ↔ (IsMember used r ⊎ (IsMember after r × ¬ IsMember defs r))
transfer_member used defs after r small l =
    let whole = union_member used (bit_and after (2 ^ 32 - 1 - defs)) r in
    let kept = difference_member after defs r small l in (
      λ m. elim (whole.0 m) [ inl u ↦ inl u | inr k ↦ inr (kept.0 k) ],
      λ m. elim m [ inl u ↦ whole.1 (inl u) | inr k ↦ whole.1 (inr (kept.1 k)) ],
    )

-- what the successors of a node need
abbrev pub NeedsAfter : FlowNode → List ℕ → ℕ → Type 0
NeedsAfter node sets r = (b : ℕ) × Next node b × IsMember (get_or sets b 0) r

pub both_member : (node : FlowNode) (sets : List ℕ) (a b r : ℕ) → a ≡ set_of sets node.first → b ≡ set_of sets node.second
    → (IsMember (bit_or a b) r ↔ NeedsAfter node sets r)
both_member node sets a b r ea eb =
    let both = union_member a b r in
    let first = after_member sets node.first r in
    let second = after_member sets node.second r in
    let P : ℕ → Type 0 = λ s. IsMember s r in (
      λ m. elim (both.0 m) [
        | inl x ↦ let h = first.0 (subst P ea x) in (h.0, inl h.1, h.2)
        | inr y ↦ let h = second.0 (subst P eb y) in (h.0, inr h.1, h.2)
      ],
      λ h. both.1 (elim h.1 [
        | inl e ↦ inl (subst P (sym ea) (first.1 (h.0, e, h.2)))
        | inr e ↦ inr (subst P (sym eb) (second.1 (h.0, e, h.2)))
      ]),
    )

pub needed_member : (node : FlowNode) (sets : List ℕ) (after r result : ℕ) → (IsMember after r ↔ NeedsAfter node sets r)
    → (IsMember result r ↔ (IsMember node.uses r ⊎ (IsMember after r × ¬ IsMember node.defs r))) → (IsMember result r ↔ Needs node sets r)
needed_member node sets after r result both whole = (
  λ m. elim (whole.0 m) [
    | inl u ↦ inl u
    | inr d ↦ let h = both.0 d.0 in inr (d.1, h.0, h.1, h.2)
  ],
  λ n. elim n [
    | inl u ↦ whole.1 (inl u)
    | inr h ↦ whole.1 (inr (both.1 (h.1, h.2, h.3), h.0))
  ],
)

-- what no successor needs
pub unneeded_all : (i : Instr) (node : FlowNode) (sets : List ℕ) (after : ℕ) → after < 2 ^ 32 → leaves_code i ≡ false
    → ((r : ℕ) → IsMember after r ↔ NeedsAfter node sets r) → IsUnneeded i node sets (2 ^ 32 - 1 - after)
unneeded_all i node sets after small stays both r l =
    let n = bit_at_not w32 after r small l in
    let lt = bit_at-lt after r in (
      λ m. (
        λ t. let e = stays in cc,
        λ b next h. let set : bit_at after r ≡ 1 = (both r).1 (b, next, h) in let out : bit_at (2 ^ 32 - 1 - after) r ≡ 1 = m in omega (arith, n, set, out),
      ),
      λ h.
          let clear : bit_at after r ≢ 1 = λ m. let found = (both r).0 m in h.1 found.0 found.1 found.2 in omega (arith, n, lt, clear),
    )

pub unneeded_none : (i : Instr) (node : FlowNode) (sets : List ℕ) → leaves_code i ≡ true → IsUnneeded i node sets 0
unneeded_none i node sets leaves r l = (λ m. absurd (zero_member r m), λ h. absurd (h.0 leaves))

zero_at : (n i : ℕ) → ◌≡◌ {A = ℕ} (get_or (replicate n 0) i 0) 0
zero_at n i = elim (leb_tells n i) [
  | inl past ↦ get_or_past (replicate n 0) i 0 (let e = length-replicate {A = ℕ} n 0 in let l = past.1 in omega (arith, e, l))
  | inr within ↦ get_or-replicate n i 0 0 (let l = within.1 in omega (arith, l))
]

-- each member is live
abbrev pub IsSound : List FlowNode → List ℕ → Type 0
IsSound nodes sets = (i r : ℕ) → r < 32 → IsMember (get_or sets i 0) r → Live nodes r i

-- a node that doesn't wait has what it needs
abbrev pub IsClosed : List FlowNode → List Bool → List ℕ → Type 0
IsClosed nodes flags sets = (i r : ℕ) (node : FlowNode) → r < 32 → slice_get nodes i ≡ Some node → get_or flags i false ≡ false → Needs node sets r → IsMember (get_or sets i 0) r

pub sound_needs : (nodes : List FlowNode) (sets : List ℕ) (i r : ℕ) (node : FlowNode) → IsSound nodes sets → r < 32 → slice_get nodes i ≡ Some node → Needs node sets r → Live nodes r i
sound_needs nodes sets i r node s l e n = elim n [
  | inl u ↦ uses node e u
  | inr h ↦ passes node h.1 e h.0 h.2 (s h.1 r l h.3)
]

-- the set at a node may become what it was and what the node needs
pub sound_set : (nodes : List FlowNode) (sets : List ℕ) (i : ℕ) (node : FlowNode) (more : ℕ) → IsSound nodes sets → i < length sets → slice_get nodes i ≡ Some node →
    ((r : ℕ) → r < 32 → (IsMember more r ↔ Needs node sets r)) → IsSound nodes (set sets i (bit_or (get_or sets i 0) more))
sound_set nodes sets i node more s l e h q r k m = elim (eqb_tells q i) [
  | inl same ↦
      let at : get_or (set sets i (bit_or (get_or sets i 0) more)) q 0 ≡ bit_or (get_or sets i 0) more = ap (λ y. get_or (set sets i (bit_or (get_or sets i 0) more)) y 0) same.1 ∙ get_or-set_same sets i _ 0 l in
      let P : ℕ → Type 0 = λ x. IsMember x r in let Q : ℕ → Type 0 = λ x. Live nodes r x in
      subst Q (sym same.1) (elim ((union_member (get_or sets i 0) more r).0 (subst P at m)) [
        | inl old ↦ s i r k old
        | inr new ↦ sound_needs nodes sets i r node s k e ((h r k).0 new)
      ])
  | inr other ↦ let P : ℕ → Type 0 = λ x. IsMember x r in s q r k (subst P (get_or-set_other sets i q _ 0 other.1) m)
]

-- at a node that has what it needs
pub closed_same : (nodes : List FlowNode) (flags : List Bool) (sets : List ℕ) (i : ℕ) → IsClosed nodes flags sets →
    ((r : ℕ) (node : FlowNode) → r < 32 → slice_get nodes i ≡ Some node → Needs node sets r → IsMember (get_or sets i 0) r) → IsClosed nodes (set flags i false) sets
closed_same nodes flags sets i c h q r node l e f n = elim (eqb_tells q i) [
  | inl same ↦
      let P : ℕ → Type 0 = λ x. IsMember (get_or sets x 0) r in
      subst P (sym same.1) (h r node l (ap (slice_get nodes) (sym same.1) ∙ e) n)
  | inr other ↦ c q r node l e (sym (get_or-set_other flags i q false false other.1) ∙ f) n
]

-- at a node whose set changes, where each predecessor waits
pub closed_set : (nodes : List FlowNode) (flags later : List Bool) (sets : List ℕ) (i new : ℕ) → IsClosed nodes flags sets → i < length sets →
    ((r : ℕ) (node : FlowNode) → r < 32 → slice_get nodes i ≡ Some node → Needs node sets r → IsMember new r) →
    ((x : ℕ) → get_or (set flags i false) x false ≡ true → get_or later x false ≡ true) →
    ((p : ℕ) (node : FlowNode) → slice_get nodes p ≡ Some node → Next node i → get_or later p false ≡ true) →
    IsClosed nodes later (set sets i new)
closed_set nodes flags later sets i new c l h kept back q r node k e f n =
    let not_both : get_or later q false ≡ true → ⊥ = λ t. let w = f in let v = t in cc in
    let before : Needs node sets r = elim n [
      | inl u ↦ inl u
      | inr g ↦ elim (eqb_tells g.1 i) [
        | inl same ↦ let P : ℕ → Type 0 = λ x. Next node x in absurd (not_both (back q node e (subst P same.1 g.2)))
        | inr other ↦ let P : ℕ → Type 0 = λ x. IsMember x r in inr (g.0, g.1, g.2, subst P (get_or-set_other sets i g.1 new 0 other.1) g.3)
      ]
    ] in
    let P : ℕ → Type 0 = λ x. IsMember x r in
    elim (eqb_tells q i) [
      | inl same ↦
          subst P (sym (ap (λ y. get_or (set sets i new) y 0) same.1 ∙ get_or-set_same sets i new 0 l)) (h r node k (ap (slice_get nodes) (sym same.1) ∙ e) before)
      | inr other ↦
          subst P (sym (get_or-set_other sets i q new 0 other.1))
          (c q r node k e (false_from_ne_true _ (λ t. not_both (kept q (get_or-set_other flags i q false false other.1 ∙ t)))) before)
    ]

-- where no node waits, each register that is live is a member
pub complete : (nodes : List FlowNode) (flags : List Bool) (sets : List ℕ) → IsClosed nodes flags sets → ((k : ℕ) → get_or flags k false ≡ false) →
    (r : ℕ) → r < 32 → (i : ℕ) → Live nodes r i → IsMember (get_or sets i 0) r
complete nodes flags sets c f r l i (uses node e u) = c i r node l e (f i) (inl u)
complete nodes flags sets c f r l i (passes node b e d n m) = c i r node l e (f i) (inr (d, b, n, complete nodes flags sets c f r l b m))

pub sound_zero : (nodes : List FlowNode) (sets : List ℕ) (n : ℕ) → sets ≡ replicate n 0 → IsSound nodes sets
sound_zero nodes sets n e i r l m =
    let at : get_or sets i 0 ≡ 0 = ap (λ s. get_or s i 0) e ∙ zero_at n i in
    let P : ℕ → Type 0 = λ x. IsMember x r in absurd (zero_member r (subst P at m))

pub closed_full : (nodes : List FlowNode) (flags : List Bool) (sets : List ℕ) → ((k : ℕ) → k < length nodes → get_or flags k false ≡ true) → IsClosed nodes flags sets
closed_full nodes flags sets h i r node l e f n = absurd (let t = h i (slice_get_within nodes i node e) in let w = f in cc)

-- what a node without leads has
abbrev pub blank : FlowNode
blank = record { uses = 0; defs = 0; first = None; second = None }

pub new_needs : (nodes : List FlowNode) (sets : List ℕ) (i old more : ℕ) → ((r : ℕ) → r < 32 → (IsMember more r ↔ Needs (get_or nodes i blank) sets r)) →
    (r : ℕ) (node : FlowNode) → r < 32 → slice_get nodes i ≡ Some node → Needs node sets r → IsMember (bit_or old more) r
new_needs nodes sets i old more h r node l e n =
    let P : FlowNode → Type 0 = λ x. Needs x sets r in
    (union_member old more r).1 (inr ((h r l).1 (subst P (sym (get_or_from_slice_get nodes i node blank e)) n)))

-- what is true of each element of a list and of one more is true of the longer list
pub dead_more : (words : List CodeWord) (nodes : List FlowNode) (sets old new : List ℕ) (k y : ℕ) → length old ≡ k → new ≡ old ++ y ∷ []
    → ((i : ℕ) (w : CodeWord) (node : FlowNode) → i < k → slice_get words i ≡ Some w → slice_get nodes i ≡ Some node → IsUnneeded w.instruction node sets (get_or old i 0))
    → ((w : CodeWord) (node : FlowNode) → slice_get words k ≡ Some w → slice_get nodes k ≡ Some node → IsUnneeded w.instruction node sets y)
    → (i : ℕ) (w : CodeWord) (node : FlowNode) → i < k + 1 → slice_get words i ≡ Some w → slice_get nodes i ≡ Some node → IsUnneeded w.instruction node sets (get_or new i 0)
dead_more words nodes sets old new k y len is each last i w node lt at found =
    let P : ℕ → Type 0 = λ s. IsUnneeded w.instruction node sets s in
    subst (λ xs. IsUnneeded w.instruction node sets (get_or xs i 0)) (sym is) (elim (eqb_tells i k) [
      | inl same ↦
          let seam : get_or (old ++ y ∷ []) i 0 ≡ y = ap (λ j. get_or (old ++ y ∷ []) j 0) (same.1 ∙ sym len) ∙ get_or-append_seam old y [] 0 in
          subst P (sym seam) (last w node (ap (slice_get words) (sym same.1) ∙ at) (ap (slice_get nodes) (sym same.1) ∙ found))
      | inr other ↦
          let apart = other.1 in
          let before : i < k = omega (arith, lt, apart) in
          subst P (sym (get_or_append_left old (y ∷ []) 0 i (omega (arith, before, len)))) (each i w node before at found)
    ])

pub nodes_more : (words : List CodeWord) (old new : List FlowNode) (k : ℕ) (y : FlowNode) → length old ≡ k → new ≡ old ++ y ∷ []
    → ((i : ℕ) (w : CodeWord) (node : FlowNode) → i < k → slice_get words i ≡ Some w → slice_get old i ≡ Some node → IsNode words w node)
    → ((w : CodeWord) → slice_get words k ≡ Some w → IsNode words w y)
    → (i : ℕ) (w : CodeWord) (node : FlowNode) → i < k + 1 → slice_get words i ≡ Some w → slice_get new i ≡ Some node → IsNode words w node
nodes_more words old new k y len is each last i w node lt at found =
    let found_here : slice_get (old ++ y ∷ []) i ≡ Some node = ap (λ ns. slice_get ns i) (sym is) ∙ found in
    let read = get_or_from_slice_get (old ++ y ∷ []) i node node found_here in
    elim (eqb_tells i k) [
      | inl same ↦
          let seam : get_or (old ++ y ∷ []) i node ≡ y = ap (λ j. get_or (old ++ y ∷ []) j node) (same.1 ∙ sym len) ∙ get_or-append_seam old y [] node in
          subst (IsNode words w) (sym seam ∙ read) (last w (ap (slice_get words) (sym same.1) ∙ at))
      | inr other ↦
          let apart = other.1 in
          let before : i < k = omega (arith, lt, apart) in
          let within : i < length old = omega (arith, before, len) in
          each i w node before at (slice_get-get_or old i node within ∙ ap (λ n. Some n) (sym (get_or_append_left old (y ∷ []) node i within) ∙ read))
    ]
