-- Lists that a line was put at the end of.
use Rattle.std.proofs.Common.{◌≡◌, ℕ, zero, suc, get_or, subst, ◌+◌, ◌<◌, List, [], ◌∷◌, ◌++◌, length, Vec, refl, sym, ap, ◌∙◌, append_assoc, append-nil, true, false, eqb, arith}
use Rattle.std.specs.Prelude.{codes}
use Rattle.std.specs.List.{All}
use Rattle.std.proofs.lemmas.Bool.Decides.{nat_tests}
use Rattle.std.specs.declared.alloc.Global.{Global}
use Rattle.block_layout.specs.declared.layout.BlockRange.{BlockRange}
use Rattle.node_model.specs.declared.Entry.{Entry}
use Rattle.run_record.specs.Lists.{items_of}
use Rattle.run_record.specs.Record.{IsTakeBehind, AreTakesBehind}
use Rattle.run_record.specs.Text.{number_line, block_line, block_lines, take_line, told_of, take_lines, journal_lines}
use Rattle.run_record.specs.Rules.{node_awaited, Node, Nothing}
use Rattle.run_record.specs.declared.version.Version.{Version}

-- the stamp of the last take, or that of none
abbrev pub last_stamp : ℕ → List Entry → ℕ
last_stamp last [] = last
last_stamp last (e ∷ es) = last_stamp e.stamp es

pub block_more : (rs : List BlockRange) (r : BlockRange)
    → block_lines rs ++ block_line r ≡ block_lines (rs ++ r ∷ [])
block_more [] r = sym (append-nil (block_line r))
block_more (x ∷ rs) r =
    append_assoc (block_line x) (block_lines rs) (block_line r)
    ∙ ap (λ t. block_line x ++ t) (block_more rs r)

pub take_more_lines : (v : Version) (last : ℕ) (es : List Entry) (e : Entry)
    → take_lines v last es ++ take_line (told_of v (last_stamp last es) e)
    ≡ take_lines v last (es ++ e ∷ [])
take_more_lines v last [] e = sym (append-nil (take_line (told_of v last e)))
take_more_lines v last (x ∷ es) e =
    append_assoc (take_line (told_of v last x)) (take_lines v x.stamp es)
    (take_line (told_of v (last_stamp x.stamp es) e))
    ∙ ap (λ t. take_line (told_of v last x) ++ t) (take_more_lines v x.stamp es e)

pub takes_more : (nodes last : ℕ) (es : List Entry) (e : Entry) → AreTakesBehind nodes last es
    → IsTakeBehind nodes (last_stamp last es) e → AreTakesBehind nodes last (es ++ e ∷ [])
takes_more nodes last [] e h one = (one, tt)
takes_more nodes last (x ∷ es) e h one = (h.0, takes_more nodes x.stamp es e h.1 one)

pub last_more : (last : ℕ) (es : List Entry) (e : Entry) → last_stamp last (es ++ e ∷ []) ≡ e.stamp
last_more last [] e = refl
last_more last (x ∷ es) e = last_more x.stamp es e

pub items_more : (vs : List (Vec Entry Global)) (v : Vec Entry Global)
    → items_of (vs ++ v ∷ []) ≡ items_of vs ++ v.items ∷ []
items_more [] v = refl
items_more (x ∷ vs) v = ap (λ t. x.items ∷ t) (items_more vs v)

pub items_length : (vs : List (Vec Entry Global)) → length (items_of vs) ≡ length vs
items_length [] = refl
items_length (x ∷ vs) = ap suc (items_length vs)

-- the takes of a journal that stands in the list
pub takes_at : (nodes : ℕ) (vs : List (Vec Entry Global)) (k : ℕ) (v : Vec Entry Global)
    → k < length vs → v ≡ get_or vs k v → All (AreTakesBehind nodes 0) (items_of vs)
    → AreTakesBehind nodes 0 v.items
takes_at nodes [] k v less is all = absurd (omega arith)
takes_at nodes (x ∷ vs) zero v less is all =
    subst (AreTakesBehind nodes 0) (ap (λ (w : Vec Entry Global). w.items) (sym is))
    (all 0 [] (omega arith))
takes_at nodes (x ∷ vs) (suc k) v less is all =
    takes_at nodes vs k v (omega arith) is (λ j d low. all (suc j) d (omega arith))

onto_journal : (a b c d e : List ℕ)
    → (a ++ (b ++ (c ++ d))) ++ e ≡ a ++ (b ++ (c ++ (d ++ e)))
onto_journal a b c d e =
    append_assoc a (b ++ (c ++ d)) e
    ∙ ap (λ t. a ++ t) (append_assoc b (c ++ d) e ∙ ap (λ t. b ++ t) (append_assoc c d e))

pub journal_more : (v : Version) (i k : ℕ) (js : List (List Entry)) (j : List Entry)
    → k ≡ i + length js
    → journal_lines v i js ++ journal_lines v k (j ∷ []) ≡ journal_lines v i (js ++ j ∷ [])
journal_more v i k [] j is =
    let same : k ≡ i = omega arith in
    ap (λ m. journal_lines v m (j ∷ [])) same
journal_more v i k (x ∷ js) j is =
    let more : journal_lines v (i + 1) js ++ journal_lines v k (j ∷ [])
    ≡ journal_lines v (i + 1) (js ++ j ∷ [])
    = journal_more v (i + 1) k js j (omega arith) in
    onto_journal (number_line (codes "node ") i) (take_lines v 0 x) (codes "end\n")
    (journal_lines v (i + 1) js) (journal_lines v k (j ∷ []))
    ∙ ap (λ t. number_line (codes "node ") i ++ (take_lines v 0 x ++ (codes "end\n" ++ t))) more

pub awaited_here : (v : Version) (nodes node : ℕ) → node < nodes
    → node_awaited v nodes node ≡ Node v nodes node
awaited_here v nodes node less =
    let other : eqb node nodes ≡ false = grind (arith, nat_tests) in
    rw other refl

pub awaited_end : (v : Version) (nodes node : ℕ) → node ≡ nodes
    → node_awaited v nodes node ≡ Nothing
awaited_end v nodes node is =
    let same : eqb node nodes ≡ true = grind (arith, nat_tests) in
    rw same refl
