-- Rows that have come to their end.
use Rattle.std.proofs.Common.{◌≡◌, ℕ, List, [], ◌∷◌, ◌++◌, map, length, refl, ap, ap₂, ◌∙◌, sym, subst, subst₂, arith, get_or, remove, ◌<◌, Vec, Global}
use Rattle.std.specs.declared.collections.VecDeque.{VecDeque}
use Rattle.atomic_table.specs.Seated.{TableId}
use Rattle.dsm_messages.specs.declared.messages.Wire.{Wire}
use Rattle.fifo_link.specs.End.{End}
use Rattle.node_threads.specs.Mesh.{BeginRows, GathersRow, Crosses, Gathers, AsLong, tail}
use Rattle.node_threads.specs.Works.{links_of}

pub nothing_left : (es : List End) (os : List (VecDeque Wire Global)) (ts : List (Vec End Global)) → length es ≡ 0 → length os ≡ length es
    → BeginRows (links_of es) (map (λ (v : Vec End Global). links_of v.items) ts)
    → GathersRow es (map (λ (o : VecDeque Wire Global). o.items) os) (map (λ (v : Vec End Global). v.items) ts) [] []
nothing_left [] [] [] none len h = tt
nothing_left [] [] (t ∷ ts) none len h = absurd h
nothing_left [] (o ∷ os) ts none len h = absurd (omega arith)
nothing_left (e ∷ es) os ts none len h = absurd (omega arith)

abbrev L : Vec End Global → List End
L v = v.items

abbrev K : Vec End Global → List (TableId × ℕ)
K v = links_of v.items

abbrev Q : VecDeque Wire Global → List Wire
Q o = o.items

abbrev M : Vec (VecDeque Wire Global) Global → List (List Wire)
M v = map Q v.items

links_tail : (r : List End) → links_of (tail r) ≡ tail (links_of r)
links_tail [] = refl
links_tail (e ∷ es) = refl

rest_links : (es : List End) (os : List (List Wire)) (ts : List (Vec End Global)) (ls : List (List Wire)) (us : List (Vec End Global))
    → GathersRow es os (map L ts) ls (map L us) → map K us ≡ map (λ c. tail c) (map K ts)
rest_links [] [] [] [] [] h = refl
rest_links (e ∷ es) (o ∷ os) (t ∷ ts) (l ∷ ls) (u ∷ us) h = ap₂ (λ x y. x ∷ y) (ap links_of h.1 ∙ links_tail t.items) (rest_links es os ts ls us h.2)
rest_links es os ts ls us h = absurd h

pub rows_step : (ss : List (Vec End Global)) (os : List (Vec (VecDeque Wire Global) Global)) (ts rest : List (Vec End Global))
    (s : Vec End Global) (ss' : List (Vec End Global)) (o : Vec (VecDeque Wire Global) Global) (os' : List (Vec (VecDeque Wire Global) Global)) (l : Vec (VecDeque Wire Global) Global)
    → 0 < length ss → s ≡ get_or ss 0 s → ss' ≡ remove ss 0 → o ≡ get_or os 0 o → os' ≡ remove os 0
    → Crosses (map K ss) (map K ts) → AsLong (map M os) (map L ss)
    → GathersRow s.items (M o) (map L ts) (M l) (map L rest)
    → Crosses (map K ss') (map K rest) × AsLong (map M os') (map L ss')
    × ((ls : List (List (List Wire))) → Gathers (map L ss') (map M os') (map L rest) ls → Gathers (map L ss) (map M os) (map L ts) (M l ∷ ls))
rows_step [] os ts rest s ss' o os' l some is_s is_ss is_o is_os cross long g = absurd (omega arith)
rows_step (x ∷ xs) [] ts rest s ss' o os' l some is_s is_ss is_o is_os cross long g = absurd long
rows_step (x ∷ xs) (y ∷ ys) ts rest s ss' o os' l some is_s is_ss is_o is_os cross long g = (
  subst (λ z. Crosses (map K z) (map K rest)) (sym is_ss) (subst (λ z. Crosses (map K xs) z) (sym (rest_links s.items (M o) ts (M l) rest g)) cross.1),
  subst₂ (λ a b. AsLong (map M a) (map L b)) (sym is_os) (sym is_ss) long.1,
  λ ls h. (
    map L rest,
    subst₂ (λ (a : Vec End Global) (b : Vec (VecDeque Wire Global) Global). GathersRow a.items (M b) (map L ts) (M l) (map L rest)) is_s is_o g,
    subst₂ (λ a b. Gathers (map L a) (map M b) (map L rest) ls) is_ss is_os h,
  ),
)

pub no_more : (ss : List (Vec End Global)) (os : List (Vec (VecDeque Wire Global) Global)) (ts : List (Vec End Global)) → length ss ≡ 0
    → AsLong (map M os) (map L ss) → Gathers (map L ss) (map M os) (map L ts) []
no_more [] [] ts none long = tt
no_more [] (o ∷ os) ts none long = absurd long
no_more (s ∷ ss) os ts none long = absurd (omega arith)

pub lists_snoc : (done : List (Vec (VecDeque Wire Global) Global)) (l : Vec (VecDeque Wire Global) Global) (ls : List (List (List Wire))) → map M (done ++ l ∷ []) ++ ls ≡ map M done ++ (M l ∷ ls)
lists_snoc [] l ls = refl
lists_snoc (d ∷ done) l ls = ap (λ z. M d ∷ z) (lists_snoc done l ls)
