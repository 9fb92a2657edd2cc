-- Nodes and code words: what is live at a node is live at the address of its code word.
use Rattle.std.proofs.Common.{◌≡◌, ◌≢◌, ℕ, suc, ◌+◌, ◌<◌, ◌⊎◌, ◌↔◌, inl, inr, Bool, true, false, ◌==◌, cond, List, [], ◌∷◌, length, get_or, refl, sym, ap, ◌∙◌, subst, arith, w32, ◌-◌, ◌^◌}
use Rattle.std.specs.Prelude.{Option, Some, None, slice_get, option_and_then, IsTrue}
use Rattle.std.proofs.lemmas.Bool.{eqb-true}
use Rattle.std.proofs.lemmas.Bool.Decides.{eqb_tells}
use Rattle.std.proofs.lemmas.List.Quantifiers.{position-Some}
use Rattle.std.proofs.lemmas.Option.{slice_get-get_or, slice_get_within, get_or_from_slice_get}
use Rattle.std.specs.Int.{bit_at}
use Rattle.std.proofs.lemmas.Nat.Bits.{bit_at_not, bit_at-lt}
use Rattle.rv32_decode.specs.declared.Instr.{Instr}
use Rattle.rv32_decode.specs.declared.Instr.TheVariants.{Lui, Auipc, Jal, Jalr, Branch, Load, Store, OpImm, ShiftImm, Op, Fence, Ecall, Ebreak, Lr, Sc, Amo, Illegal}
use Rattle.rv32_decode.specs.Registers.{IsMember, destination}
use Rattle.rv32_program.specs.Liveness.{Uses, uses_all, leaves_code, IsDeadAfter, IsDeadAt, Next as IsNext, Live as IsLive}
use Rattle.rv32_program.specs.Liveness.Live.{uses as code_uses, passes as code_passes}
use Rattle.templates.specs.declared.code.CodeWord.{CodeWord}
use Rattle.templates.specs.Code.{Ascends, code_of}
use Rattle.templates.proofs.CodeLemmas.{code_there}
use Rattle.flow_graph.specs.Edges.{next_of, number_at}
use Rattle.flow_graph.proofs.WordLemmas.{number_there, blank as blank_word}
use Rattle.liveness.specs.declared.node.FlowNode.{FlowNode}
use Rattle.liveness.specs.Nodes.{Next, Live, IsNode, AreNodes, IsUnneeded, AreExact}
use Rattle.liveness.specs.Nodes.Live.{uses as node_uses, passes as node_passes}
use Rattle.liveness.proofs.SetLemmas.{blank}

-- the direct successors of an instruction are those of the definition
direct_to : (i : Instr) (a b : ℕ) → IsNext i a b → ((next_of i a).first ≡ Some b) ⊎ ((next_of i a).second ≡ Some b)
direct_to (Lui rd upper) a b n = inl (ap (λ x. Some x) (sym n))
direct_to (Auipc rd upper) a b n = inl (ap (λ x. Some x) (sym n))
direct_to (Jal rd offset) a b n = inr n
direct_to (Jalr rd rs1 imm) a b n = absurd n
direct_to (Branch c rs1 rs2 offset) a b n = elim n [ inl e ↦ inl (ap (λ x. Some x) (sym e)) | inr e ↦ inr e ]
direct_to (Load k rd rs1 imm) a b n = inl (ap (λ x. Some x) (sym n))
direct_to (Store w rs1 rs2 imm) a b n = inl (ap (λ x. Some x) (sym n))
direct_to (OpImm o rd rs1 imm) a b n = inl (ap (λ x. Some x) (sym n))
direct_to (ShiftImm o rd rs1 amount) a b n = inl (ap (λ x. Some x) (sym n))
direct_to (Op o rd rs1 rs2) a b n = inl (ap (λ x. Some x) (sym n))
direct_to (Fence rd rs1 bits) a b n = inl (ap (λ x. Some x) (sym n))
direct_to Ecall a b n = inl (ap (λ x. Some x) (sym n))
direct_to Ebreak a b n = absurd n
direct_to (Lr rd rs1 aq rl) a b n = inl (ap (λ x. Some x) (sym n))
direct_to (Sc rd rs1 rs2 aq rl) a b n = inl (ap (λ x. Some x) (sym n))
direct_to (Amo o rd rs1 rs2 aq rl) a b n = inl (ap (λ x. Some x) (sym n))
direct_to (Illegal word) a b n = absurd n

only : (a b : ℕ) → (Some a ≡ Some b) ⊎ (None ≡ Some b) → b ≡ a
only a b h = elim h [ inl e ↦ cc | inr e ↦ cc ]

no_successor : (b : ℕ) → (None ≡ Some b) ⊎ (None ≡ Some b) → ⊥
no_successor b h = elim h [ inl e ↦ cc | inr e ↦ cc ]

direct_from : (i : Instr) (a b : ℕ) → ((next_of i a).first ≡ Some b) ⊎ ((next_of i a).second ≡ Some b) → IsNext i a b
direct_from (Lui rd upper) a b h = only (a + 4) b h
direct_from (Auipc rd upper) a b h = only (a + 4) b h
direct_from (Jal rd offset) a b h = elim h [ inl e ↦ cc | inr e ↦ e ]
direct_from (Jalr rd rs1 imm) a b h = no_successor b h
direct_from (Branch c rs1 rs2 offset) a b h = elim h [ inl e ↦ inl (only (a + 4) b (inl e)) | inr e ↦ inr e ]
direct_from (Load k rd rs1 imm) a b h = only (a + 4) b h
direct_from (Store w rs1 rs2 imm) a b h = only (a + 4) b h
direct_from (OpImm o rd rs1 imm) a b h = only (a + 4) b h
direct_from (ShiftImm o rd rs1 amount) a b h = only (a + 4) b h
direct_from (Op o rd rs1 rs2) a b h = only (a + 4) b h
direct_from (Fence rd rs1 bits) a b h = only (a + 4) b h
direct_from Ecall a b h = only (a + 4) b h
direct_from Ebreak a b h = no_successor b h
direct_from (Lr rd rs1 aq rl) a b h = only (a + 4) b h
direct_from (Sc rd rs1 rs2 aq rl) a b h = only (a + 4) b h
direct_from (Amo o rd rs1 rs2 aq rl) a b h = only (a + 4) b h
direct_from (Illegal word) a b h = no_successor b h

-- the number of a word, and the word of a number
number_of : (words : List CodeWord) (k : ℕ) (w : CodeWord) → Ascends 0 words → slice_get words k ≡ Some w → number_at words w.address ≡ Some k
number_of words k w up at =
    sym (number_there words w k w.address up (slice_get_within words k w at) (ap (λ v. v.address) (get_or_from_slice_get words k w w at)))

number_is : (words : List CodeWord) (a k : ℕ) → number_at words a ≡ Some k → (w : CodeWord) × (slice_get words k ≡ Some w) × (w.address ≡ a)
number_is words a k e =
    let at = position-Some (λ w. w.address == a) words k blank_word e in
    (get_or words k blank_word, slice_get-get_or words k blank_word at.0, eqb-true _ a at.1)

-- what stands at a word's address
pub there : (words : List CodeWord) (k : ℕ) (w : CodeWord) → Ascends 0 words → slice_get words k ≡ Some w → code_of words w.address ≡ Some w.instruction
there words k w up at =
    let read = get_or_from_slice_get words k w w at in
    sym (code_there 0 words k w up (slice_get_within words k w at) w.address (ap (λ v. v.address) read)) ∙ ap (λ v. Some v.instruction) read

-- the word of an address
pub record IsWord (words : List CodeWord) (a : ℕ) (i : Instr) : Type 0 where
  pub k : ℕ
  pub w : CodeWord
  pub at : slice_get words k ≡ Some w
  pub address : w.address ≡ a
  pub instruction : w.instruction ≡ i

pub word_of : (words : List CodeWord) (a : ℕ) (i : Instr) → code_of words a ≡ Some i → IsWord words a i
word_of [] a i h = cc
word_of (w ∷ ws) a i h = go (word_of ws a i) (w.address == a) refl h
  where
    go : (code_of ws a ≡ Some i → IsWord ws a i) → (b : Bool) → (w.address == a) ≡ b → cond b (Some w.instruction) (code_of ws a) ≡ Some i → IsWord (w ∷ ws) a i
    go more true e h = record { k = 0; w = w; at = refl; address = eqb-true w.address a e; instruction = cc }
    go more false e h = let v = more h in record { k = suc v.k; w = v.w; at = v.at; address = v.address; instruction = v.instruction }

-- where a register is live, a code word stands
live_word : (words : List CodeWord) (r b : ℕ) → IsLive (code_of words) r b → (i : Instr) × IsWord words b i
live_word words r b (code_uses i e u) = (i, word_of words b i e)
live_word words r b (code_passes i c e d n l) = (i, word_of words b i e)

then_some : (f : ℕ → Option ℕ) (o : Option ℕ) (b : ℕ) → option_and_then f o ≡ Some b → (t : ℕ) × (o ≡ Some t) × (f t ≡ Some b)
then_some f None b h = cc
then_some f (Some t) b h = (t, refl, h)

-- an edge of a node leads to the number of a successor
edge_to : (words : List CodeWord) (w : CodeWord) (node : FlowNode) (b : ℕ) → IsNode words w node → Next node b
    → (t : ℕ) × IsNext w.instruction w.address t × (number_at words t ≡ Some b)
edge_to words w node b is n = elim n [
  | inl e ↦ let t = then_some (number_at words) (next_of w.instruction w.address).first b (sym is.first ∙ e) in (t.0, direct_from w.instruction w.address t.0 (inl t.1), t.2)
  | inr e ↦ let t = then_some (number_at words) (next_of w.instruction w.address).second b (sym is.second ∙ e) in (t.0, direct_from w.instruction w.address t.0 (inr t.1), t.2)
]

edge_from : (words : List CodeWord) (w : CodeWord) (node : FlowNode) (t b : ℕ) → IsNode words w node → IsNext w.instruction w.address t
    → number_at words t ≡ Some b → Next node b
edge_from words w node t b is n at = elim (direct_to w.instruction w.address t n) [
  | inl e ↦ inl (is.first ∙ ap (option_and_then (number_at words)) e ∙ at)
  | inr e ↦ inr (is.second ∙ ap (option_and_then (number_at words)) e ∙ at)
]

-- the node of a word
node_at : (words : List CodeWord) (nodes : List FlowNode) (k : ℕ) (w : CodeWord) → AreNodes words nodes → slice_get words k ≡ Some w
    → (node : FlowNode) × (slice_get nodes k ≡ Some node) × IsNode words w node
node_at words nodes k w are at =
    let within = slice_get_within words k w at in
    let count = are.count in
    let found = slice_get-get_or nodes k blank (omega (arith, within, count)) in
    (get_or nodes k blank, found, are.each k w (get_or nodes k blank) at found)

pub node_to_code : (words : List CodeWord) (nodes : List FlowNode) (r : ℕ) → Ascends 0 words → AreNodes words nodes → r ≢ 0 → r < 32
    → (k : ℕ) (w : CodeWord) → slice_get words k ≡ Some w → Live nodes r k → IsLive (code_of words) r w.address
node_to_code words nodes r up are nz lt k w at (node_uses node e m) =
    code_uses w.instruction (there words k w up at) (((are.each k w node at e).uses r nz lt).0 m)
node_to_code words nodes r up are nz lt k w at (node_passes node b e d n l) =
    let is = are.each k w node at e in
    let t = edge_to words w node b is n in
    let v = number_is words t.0 b t.2 in
    code_passes w.instruction t.0 (there words k w up at) (λ h. d ((is.defs r nz lt).1 h)) t.1
    (subst (IsLive (code_of words) r) v.2 (node_to_code words nodes r up are nz lt b v.0 v.1 l))

pub code_to_node : (words : List CodeWord) (nodes : List FlowNode) (r : ℕ) → Ascends 0 words → AreNodes words nodes → r ≢ 0 → r < 32
    → (a : ℕ) → IsLive (code_of words) r a → (k : ℕ) (w : CodeWord) → slice_get words k ≡ Some w → w.address ≡ a → Live nodes r k
code_to_node words nodes r up are nz lt a (code_uses i e u) k w at address =
    let found = node_at words nodes k w are at in
    let own : Some i ≡ Some w.instruction = sym e ∙ ap (code_of words) (sym address) ∙ there words k w up at in
    let same : i ≡ w.instruction = cc in
    node_uses found.0 found.1 ((found.2.uses r nz lt).1 (subst (λ x. Uses x r) same u))
code_to_node words nodes r up are nz lt a (code_passes i b e d n l) k w at address =
    let found = node_at words nodes k w are at in
    let own : Some i ≡ Some w.instruction = sym e ∙ ap (code_of words) (sym address) ∙ there words k w up at in
    let same : i ≡ w.instruction = cc in
    let next = (live_word words r b l).1 in
    let number : number_at words b ≡ Some next.k = ap (number_at words) (sym next.address) ∙ number_of words next.k next.w up next.at in
    let goes : IsNext w.instruction w.address b = subst (λ x. IsNext w.instruction x b) (sym address) (subst (λ x. IsNext x a b) same n) in
    node_passes found.0 next.k found.1 (λ m. d (ap destination same ∙ (found.2.defs r nz lt).0 m))
    (edge_from words w found.0 b next.k found.2 goes number)
    (code_to_node words nodes r up are nz lt b l next.k next.w next.at next.address)

-- what no successor needs is dead
pub dead_exact : (words : List CodeWord) (nodes : List FlowNode) (sets : List ℕ) (set r k : ℕ) (w : CodeWord) → Ascends 0 words → AreNodes words nodes
    → ((i r : ℕ) → r < 32 → (IsMember (get_or sets i 0) r ↔ Live nodes r i)) → r ≢ 0 → r < 32 → slice_get words k ≡ Some w
    → ((node : FlowNode) → slice_get nodes k ≡ Some node → IsUnneeded w.instruction node sets set)
    → (IsMember set r ↔ IsDeadAfter (code_of words) r w.address w.instruction)
dead_exact words nodes sets set r k w up are exact nz lt at each =
    let found = node_at words nodes k w are at in
    let whole = each found.0 found.1 r lt in (
      λ m. record {
        stays = (whole.0 m).0;
        dead = λ b next alive.
            let word = (live_word words r b alive).1 in
            let number : number_at words b ≡ Some word.k = ap (number_at words) (sym word.address) ∙ number_of words word.k word.w up word.at in
            (whole.0 m).1 word.k (edge_from words w found.0 b word.k found.2 next number)
            ((exact word.k r lt).1 (code_to_node words nodes r up are nz lt b alive word.k word.w word.at word.address));
      },
      λ d. whole.1 (
        d.stays,
        λ b next m.
            let t = edge_to words w found.0 b found.2 next in
            let v = number_is words t.0 b t.2 in
            d.dead t.0 t.1 (subst (IsLive (code_of words) r) v.2 (node_to_code words nodes r up are nz lt b v.0 v.1 ((exact b r lt).0 m))),
      ),
    )

-- the sets are those of the definition
pub exact_of : (words : List CodeWord) (nodes : List FlowNode) (sets dead : List ℕ) → Ascends 0 words → AreNodes words nodes
    → length sets ≡ length nodes → length dead ≡ length words
    → ((i r : ℕ) → r < 32 → (IsMember (get_or sets i 0) r ↔ Live nodes r i))
    → ((k : ℕ) (w : CodeWord) (node : FlowNode) → slice_get words k ≡ Some w → slice_get nodes k ≡ Some node → IsUnneeded w.instruction node sets (get_or dead k 0))
    → AreExact words sets dead
exact_of words nodes sets dead up are count dead_count exact each = record {
  at_count = count ∙ are.count;
  dead_count = dead_count;
  at_each = λ k r w nz lt at. (
    λ m. node_to_code words nodes r up are nz lt k w at ((exact k r lt).0 m),
    λ l. (exact k r lt).1 (code_to_node words nodes r up are nz lt w.address l k w at refl),
  );
  dead_each = λ k r w nz lt at. dead_exact words nodes sets (get_or dead k 0) r k w up are exact nz lt at (λ node found. each k w node at found);
}

leaves_uses : (i : Instr) → IsTrue (leaves_code i) → IsTrue (uses_all i)
leaves_uses (Lui rd upper) h = cc
leaves_uses (Auipc rd upper) h = cc
leaves_uses (Jal rd offset) h = cc
leaves_uses (Jalr rd rs1 imm) h = refl
leaves_uses (Branch c rs1 rs2 offset) h = cc
leaves_uses (Load k rd rs1 imm) h = cc
leaves_uses (Store w rs1 rs2 imm) h = cc
leaves_uses (OpImm o rd rs1 imm) h = cc
leaves_uses (ShiftImm o rd rs1 amount) h = cc
leaves_uses (Op o rd rs1 rs2) h = cc
leaves_uses (Fence rd rs1 bits) h = cc
leaves_uses Ecall h = cc
leaves_uses Ebreak h = refl
leaves_uses (Lr rd rs1 aq rl) h = cc
leaves_uses (Sc rd rs1 rs2 aq rl) h = cc
leaves_uses (Amo o rd rs1 rs2 aq rl) h = cc
leaves_uses (Illegal word) h = refl

defines : (o : Option ℕ) (r : ℕ) → (o ≡ Some r) ⊎ (o ≡ Some r → ⊥)
defines None r = inr (λ e. cc)
defines (Some q) r = elim (eqb_tells q r) [ inl e ↦ inl (ap (λ x. Some x) e.1) | inr e ↦ inr (λ s. let same : q ≡ r = cc in e.1 same) ]

-- a register is dead at an instruction exactly where it isn't live there
pub dead_at : (code : ℕ → Option Instr) (r a : ℕ) (i : Instr) → code a ≡ Some i → ((IsLive code r a → ⊥) ↔ IsDeadAt code r a i)
dead_at code r a i e = (
  λ n. record {
    unused = λ u. n (code_uses i e u);
    dead = elim (defines (destination i) r) [
      | inl d ↦ inl d
      | inr d ↦ inr (record {
        stays = λ leaves. n (code_uses i e (inl (leaves_uses i leaves)));
        dead = λ b next l. n (code_passes i b e d next l);
      })
    ];
  },
  λ d l. go d l,
)
  where
    go : IsDeadAt code r a i → IsLive code r a → ⊥
    go d (code_uses j f u) = let both : Some j ≡ Some i = sym f ∙ e in let same : j ≡ i = cc in d.unused (subst (λ x. Uses x r) same u)
    go d (code_passes j b f nd n l) =
        let both : Some j ≡ Some i = sym f ∙ e in
        let same : j ≡ i = cc in
        elim d.dead [
          | inl h ↦ nd (ap destination same ∙ h)
          | inr h ↦ h.dead b (subst (λ x. IsNext x a b) same n) l
        ]

pub complement_member : (set r : ℕ) → set < 2 ^ 32 → r < 32 → (IsMember (2 ^ 32 - 1 - set) r ↔ ¬ IsMember set r)
complement_member set r small l =
    let n = bit_at_not w32 set r small l in
    let lt = bit_at-lt set r in (
      λ m h. let out : bit_at (2 ^ 32 - 1 - set) r ≡ 1 = m in let is : bit_at set r ≡ 1 = h in omega (arith, n, out, is),
      λ h. let out : bit_at set r ≢ 1 = h in omega (arith, n, lt, out),
    )

-- no word is without a number
pub no_word : (words : List CodeWord) (a : ℕ) (i : Instr) → Ascends 0 words → code_of words a ≡ Some i → None ≡ number_at words a → ⊥
no_word words a i up h none =
    let v = word_of words a i h in
    let number : number_at words a ≡ Some v.k = ap (number_at words) (sym v.address) ∙ number_of words v.k v.w up v.at in
    let both : None ≡ Some v.k = none ∙ number in cc

-- the word of an address's number
pub word_at : (words : List CodeWord) (a k : ℕ) (i : Instr) → Ascends 0 words → code_of words a ≡ Some i → Some k ≡ number_at words a
    → (w : CodeWord) × (slice_get words k ≡ Some w) × (w.address ≡ a) × (w.instruction ≡ i)
word_at words a k i up h number =
    let v = number_is words a k (sym number) in
    let own : Some i ≡ Some v.0.instruction = sym h ∙ ap (code_of words) (sym v.2) ∙ there words k v.0 up v.1 in
    (v.0, v.1, v.2, cc)

pub dead_of : (words : List CodeWord) (sets dead : List ℕ) (a k : ℕ) (i : Instr) (r : ℕ) → Ascends 0 words → AreExact words sets dead
    → code_of words a ≡ Some i → Some k ≡ number_at words a → r ≢ 0 → r < 32
    → (IsMember (get_or dead k 0) r ↔ IsDeadAfter (code_of words) r a i)
dead_of words sets dead a k i r up exact h number nz lt =
    let v = word_at words a k i up h number in
    subst (λ x. IsMember (get_or dead k 0) r ↔ IsDeadAfter (code_of words) r a x) v.3
    (subst (λ x. IsMember (get_or dead k 0) r ↔ IsDeadAfter (code_of words) r x v.0.instruction) v.2 (exact.dead_each k r v.0 nz lt v.1))

pub dead_at_of : (words : List CodeWord) (sets dead : List ℕ) (a k : ℕ) (i : Instr) (r : ℕ) → Ascends 0 words → AreExact words sets dead
    → code_of words a ≡ Some i → Some k ≡ number_at words a → r ≢ 0 → r < 32 → get_or sets k 0 < 2 ^ 32
    → (IsMember (2 ^ 32 - 1 - get_or sets k 0) r ↔ IsDeadAt (code_of words) r a i)
dead_at_of words sets dead a k i r up exact h number nz lt small =
    let v = word_at words a k i up h number in
    let at : IsMember (get_or sets k 0) r ↔ IsLive (code_of words) r a =
    subst (λ x. IsMember (get_or sets k 0) r ↔ IsLive (code_of words) r x) v.2 (exact.at_each k r v.0 nz lt v.1) in
    let flip = complement_member (get_or sets k 0) r small lt in
    let whole = dead_at (code_of words) r a i h in (
      λ m. whole.0 (λ l. flip.0 m (at.1 l)),
      λ d. flip.1 (λ m. whole.1 d (at.0 m)),
    )
