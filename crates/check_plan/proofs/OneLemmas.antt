-- Code has at most one plan.
use Rattle.std.proofs.Common.{◌≡◌, ℕ, ◌+◌, ◌<◌, ◌≤◌, Bool, List, [], ◌∷◌, ◌++◌, Option, Some, None, refl, sym, ap, ◌∙◌, subst, inl, inr, arith}
use Rattle.std.specs.Prelude.{Contains, not, map, take, filter}
use Rattle.rv32_decode.specs.declared.Instr.{Instr}
use Rattle.templates.specs.declared.plans.Scratches.{Scratches}
use Rattle.templates.specs.declared.plans.PlanEntry.{PlanEntry}
use Rattle.templates.specs.Plans.{AscendsFrom, addresses, template_at}
use Rattle.templates.specs.WholePlan.{candidates, unspilled, spilled, in_order, scratches_of, IsChoice, IsSingle, IsEntry, HasEntries}
use Rattle.check_plan.proofs.ListLemmas.{first_or, behind, in_front, no_element, same_test, agree}

-- there is one choice
one_choice : (code : ℕ → Option Instr) (a : ℕ) (i : Instr) (count : ℕ) (x y : Scratches) → IsChoice code a i count x → IsChoice code a i count y → x ≡ y
one_choice code a i count x y h g =
    let tests : (r : ℕ) → Contains (candidates i) r → h.dead r ≡ g.dead r =
    λ r c. same_test (h.dead r) (g.dead r) (λ t. (g.dead_is r c).1 ((h.dead_is r c).0 t)) (λ t. (h.dead_is r c).1 ((g.dead_is r c).0 t)) in
    let dead = agree h.dead g.dead (candidates i) tests in
    let other = agree (λ r. not (h.dead r)) (λ r. not (g.dead r)) (candidates i) (λ r c. ap not (tests r c)) in
    let order : in_order h.dead (candidates i) ≡ in_order g.dead (candidates i) = ap (λ xs. map unspilled xs ++ map spilled (filter (λ r. not (h.dead r)) (candidates i))) dead ∙ ap (λ xs. map unspilled (filter g.dead (candidates i)) ++ map spilled xs) other in
    h.chosen ∙ ap (λ xs. scratches_of (take count xs)) order ∙ sym g.chosen

one_single : (code : ℕ → Option Instr) (a : ℕ) (o : Option Instr) (x y : Scratches) → IsSingle code a o x → IsSingle code a o y → x ≡ y
one_single code a None x y h g = h ∙ sym g
one_single code a (Some i) x y h g = one_choice code a i _ x y h g

-- there is one entry of a place, but for its run
pub one_entry : (code : ℕ → Option Instr) (polling : ℕ → Bool) (e f : PlanEntry)
    → IsEntry code (polling e.address) e → IsEntry code (polling f.address) f → e.address ≡ f.address
    → e.run ≡ f.run → e.batch ≡ f.batch → e ≡ f
one_entry code polling e f h g same run batch = λ t. record {
  address = same t;
  template = (h.template ∙ ap (λ a. template_at a (code a)) same ∙ sym g.template) t;
  polls = (h.polls ∙ ap polling same ∙ sym g.polls) t;
  single = one_single code f.address (code f.address) e.single f.single (subst (λ a. IsSingle code a (code a) e.single) same h.single) g.single t;
  run = run t;
  batch = batch t;
}

-- an address of ascending entries isn't below the bound
pub above : (low : ℕ) (es : List PlanEntry) (a : ℕ) → AscendsFrom low es → Contains (addresses es) a → low ≤ a
above low [] a up h = absurd (no_element a h)
above low (e ∷ es) a up h = elim (first_or e.address a (addresses es) h) [
  | inl is ↦ (let le = up.0 in omega (arith, is, le))
  | inr rest ↦ (let more = above (e.address + 1) es a up.1 rest in let le = up.0 in omega (arith, more, le))
]

-- the address of an entry, and the entry of an address
pub has_address : (es : List PlanEntry) (e : PlanEntry) → Contains es e → Contains (addresses es) e.address
has_address [] e c = absurd (no_element e c)
has_address (x ∷ xs) e c = elim (first_or x e xs c) [
  | inl is ↦ subst (λ (y : PlanEntry). Contains (x.address ∷ addresses xs) y.address) (sym is) (in_front x.address (addresses xs))
  | inr rest ↦ behind x.address e.address (addresses xs) (has_address xs e rest)
]

pub has_entry : (es : List PlanEntry) (a : ℕ) → Contains (addresses es) a → (e : PlanEntry) × Contains es e × (e.address ≡ a)
has_entry [] a c = absurd (no_element a c)
has_entry (x ∷ xs) a c = elim (first_or x.address a (addresses xs) c) [
  | inl is ↦ (x, in_front x xs, sym is)
  | inr rest ↦ (let r = has_entry xs a rest in (r.0, behind x r.0 xs r.1, r.2))
]

-- ascending entries have one of an address
pub one_there : (low : ℕ) (es : List PlanEntry) (e f : PlanEntry) → AscendsFrom low es → Contains es e → Contains es f
    → e.address ≡ f.address → e ≡ f
one_there low [] e f up ce cf same = absurd (no_element e ce)
one_there low (x ∷ xs) e f up ce cf same = elim (first_or x e xs ce) [
  | inl ex ↦ elim (first_or x f xs cf) [
    | inl fx ↦ ex ∙ sym fx
    | inr rest ↦ absurd (
        let le = above (x.address + 1) xs f.address up.1 (has_address xs f rest) in
        let is = ap (λ (y : PlanEntry). y.address) ex in omega (arith, le, is, same))
  ]
  | inr here ↦ elim (first_or x f xs cf) [
    | inl fx ↦ absurd (
        let le = above (x.address + 1) xs e.address up.1 (has_address xs e here) in
        let is = ap (λ (y : PlanEntry). y.address) fx in omega (arith, le, is, same))
    | inr rest ↦ one_there (x.address + 1) xs e f up.1 here rest same
  ]
]

-- ascending entries with the same addresses are the same, where those of an address are
same : (low : ℕ) (p q : List PlanEntry) → AscendsFrom low p → AscendsFrom low q
    → ((a : ℕ) → Contains (addresses p) a → Contains (addresses q) a)
    → ((a : ℕ) → Contains (addresses q) a → Contains (addresses p) a)
    → ((e f : PlanEntry) → Contains p e → Contains q f → e.address ≡ f.address → e ≡ f) → p ≡ q
same low [] [] up vp to from one = refl
same low [] (f ∷ fs) up vp to from one = absurd (no_element f.address (from f.address (in_front f.address (addresses fs))))
same low (e ∷ es) [] up vp to from one = absurd (no_element e.address (to e.address (in_front e.address (addresses es))))
same low (e ∷ es) (f ∷ fs) up vp to from one =
    let above_f : f.address ≤ e.address = least f fs e.address vp.1 (to e.address (in_front e.address (addresses es))) in
    let above_e : e.address ≤ f.address = least e es f.address up.1 (from f.address (in_front f.address (addresses fs))) in
    let address : e.address ≡ f.address = omega (arith, above_f, above_e) in
    let first : e ≡ f = one e f (in_front e es) (in_front f fs) address in
    let rest : es ≡ fs = same (e.address + 1) es fs up.1 (subst (λ a. AscendsFrom (a + 1) fs) (sym address) vp.1)
    (λ a h. past f a fs (to a (behind e.address a (addresses es) h)) (let le = above (e.address + 1) es a up.1 h in omega (arith, le, address)))
    (λ a h. past e a es (from a (behind f.address a (addresses fs) h)) (let le = above (f.address + 1) fs a vp.1 h in omega (arith, le, address)))
    (λ x y h g. one x y (behind e x es h) (behind f y fs g)) in
    λ t. first t ∷ rest t
  where
    least : (g : PlanEntry) (gs : List PlanEntry) (a : ℕ) → AscendsFrom (g.address + 1) gs → Contains (addresses (g ∷ gs)) a → g.address ≤ a
    least g gs a up h = elim (first_or g.address a (addresses gs) h) [
      | inl is ↦ omega (arith, is)
      | inr rest ↦ (let more = above (g.address + 1) gs a up rest in omega (arith, more))
    ]

    past : (g : PlanEntry) (a : ℕ) (gs : List PlanEntry) → Contains (addresses (g ∷ gs)) a → g.address < a → Contains (addresses gs) a
    past g a gs h lt = elim (first_or g.address a (addresses gs) h) [
      | inl is ↦ absurd (omega (arith, is, lt))
      | inr rest ↦ rest
    ]

pub same_plan : (code : ℕ → Option Instr) (polling : ℕ → Bool) (p q : List PlanEntry) → HasEntries code polling p → HasEntries code polling q
    → ((e f : PlanEntry) → Contains p e → Contains q f → e.address ≡ f.address → e ≡ f) → p ≡ q
same_plan code polling p q hp hq one =
    same 0 p q hp.ascends hq.ascends
    (λ a h. hq.places.complete a (hp.places.sound a h)) (λ a h. hp.places.complete a (hq.places.sound a h)) one
