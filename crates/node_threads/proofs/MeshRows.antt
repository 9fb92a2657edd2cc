-- Links are opened row by row.
use Rattle.std.proofs.Common.{◌≡◌, ℕ, suc, ◌+◌, List, [], ◌∷◌, ◌++◌, map, length, refl, ap, ap₂, ◌∙◌, sym, subst, arith, Vec, Global}
use Rattle.atomic_table.specs.Seated.{TableId}
use Rattle.fifo_link.specs.End.{End}
use Rattle.node_threads.specs.Mesh.{BeginRows, Crosses, tail, OpensRow, Unused, Fresh}
use Rattle.node_threads.specs.Works.{links_of}

abbrev L : Vec End Global → List End
L v = v.items

abbrev K : Vec End Global → List (TableId × ℕ)
K v = links_of v.items

pub opens_none : (ts : List (Vec End Global)) → length ts ≡ 0 → OpensRow (map L ts) [] []
opens_none [] none = tt
opens_none (t ∷ ts) none = absurd (omega arith)

pub fresh_snoc : (n : ℕ) (ts : List (Vec End Global)) (v : Vec End Global) → Fresh n (map L ts) → length v.items ≡ n → Unused v.items → Fresh n (map L (ts ++ v ∷ []))
fresh_snoc n [] v f len un = (len, un, tt)
fresh_snoc n (t ∷ ts) v f len un = (f.0, f.1, fresh_snoc n ts v f.2 len un)

pub unused_none : (es : List End) → length es ≡ 0 → Unused es
unused_none [] h = tt
unused_none (e ∷ es) h = absurd (omega arith)

opens_len : (ts : List (Vec End Global)) (es : List End) (us : List (Vec End Global)) → OpensRow (map L ts) es (map L us) → (length es ≡ length ts) × (length us ≡ length ts)
opens_len [] [] [] h = (refl, refl)
opens_len (t ∷ ts) (e ∷ es) (u ∷ us) h = let r = opens_len ts es us h.1 in (ap suc r.0, ap suc r.1)
opens_len ts es us h = absurd h

opens_unused : (ts : List (Vec End Global)) (es : List End) (us : List (Vec End Global)) → OpensRow (map L ts) es (map L us) → Unused es
opens_unused [] [] [] h = tt
opens_unused (t ∷ ts) (e ∷ es) (u ∷ us) h = (h.0.4, opens_unused ts es us h.1)
opens_unused ts es us h = absurd h

opens_fresh : (i : ℕ) (ts : List (Vec End Global)) (es : List End) (us : List (Vec End Global)) → OpensRow (map L ts) es (map L us) → Fresh i (map L ts) → Fresh (suc i) (map L us)
opens_fresh i [] [] [] h f = tt
opens_fresh i (t ∷ ts) (e ∷ es) (u ∷ us) h f = (ap length h.0.1 ∙ ap suc f.0, subst (λ l. Unused l) (sym h.0.1) (h.0.5, f.1), opens_fresh i ts es us h.1 f.2)
opens_fresh i ts es us h f = absurd h

opens_begin : (ts : List (Vec End Global)) (es : List End) (us : List (Vec End Global)) → OpensRow (map L ts) es (map L us) → BeginRows (links_of es) (map K us)
opens_begin [] [] [] h = tt
opens_begin (t ∷ ts) (e ∷ es) (u ∷ us) h = subst (λ l. BeginRows (links_of (e ∷ es)) (links_of l ∷ map K us)) (sym h.0.1) (ap₂ (λ x y. (x, y)) h.0.2 h.0.3, opens_begin ts es us h.1)
opens_begin ts es us h = absurd h

opens_tails : (ts : List (Vec End Global)) (es : List End) (us : List (Vec End Global)) → OpensRow (map L ts) es (map L us) → map (λ c. tail c) (map K us) ≡ map K ts
opens_tails [] [] [] h = refl
opens_tails (t ∷ ts) (e ∷ es) (u ∷ us) h = ap₂ (λ x y. x ∷ y) (ap (λ l. tail (links_of l)) h.0.1) (opens_tails ts es us h.1)
opens_tails ts es us h = absurd h

pub opens_step : (n i : ℕ) (ss ts us : List (Vec End Global)) (row : Vec End Global)
    → OpensRow (map L ts) row.items (map L us) → length ts ≡ n → Fresh n (map L ss) → Fresh i (map L ts) → Crosses (map K ss) (map K ts)
    → Fresh n (map L (row ∷ ss)) × (length us ≡ n) × Fresh (i + 1) (map L us) × Crosses (map K (row ∷ ss)) (map K us)
opens_step n i ss ts us row o len fs ft cross = let l = opens_len ts row.items us o in (
  (l.0 ∙ len, opens_unused ts row.items us o, fs),
  l.1 ∙ len,
  subst (λ k. Fresh k (map L us)) (let e : suc i ≡ i + 1 = omega arith in e) (opens_fresh i ts row.items us o ft),
  (opens_begin ts row.items us o, subst (λ c. Crosses (map K ss) c) (sym (opens_tails ts row.items us o)) cross),
)
