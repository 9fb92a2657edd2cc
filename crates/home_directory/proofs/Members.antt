-- A list seen as a function, with one place changed.
use Rattle.std.proofs.Common.{◌≡◌, ◌≢◌, ℕ, ◌<◌, Bool, true, false, cond, List, length, get_or, set, replicate, refl, ap, ◌∙◌, subst, Option, Some, None, arith, inl, inr, zero, suc}
use Rattle.std.proofs.Math.Path.{fun_ext}
use Rattle.std.proofs.lemmas.List.{get_or-set_same, get_or-set_other, get_or_default, get_or-replicate, length-replicate}
use Rattle.std.proofs.lemmas.Bool.Decides.{eqb_tells, nat_tests}
use Rattle.block_layout.specs.Layout.{blocks}
use Rattle.home_directory.specs.declared.directory.DirectoryEntry as stored
use Rattle.home_directory.specs.declared.directory.Request.{Request}
use Rattle.dsm_messages.specs.declared.messages.Need.{Need}
use Rattle.dsm_messages.specs.declared.messages.Need.TheVariants.{Write as writing}
use Rattle.block_layout.specs.Update.{changed}
use Rattle.home_directory.specs.Home.{alone, first_entry, done_with, DirectoryEntry, Home}
use Rattle.home_directory.specs.Table.{HomeRow}
use Rattle.home_directory.specs.Rows.{home_of, row_or, AreAfter}
use Rattle.home_directory.specs.Effects.{Directory, is_home, members, entry_of, entry_at, home_at, entries_of, requests_for, home_effect, no_entry}

pub members_set : (xs : List Bool) (r : ℕ) → r < length xs → members (set xs r true) ≡ changed (members xs) r true
members_set xs r within = fun_ext (λ i. elim (eqb_tells i r) [
  | inl e ↦ rw e.0 (rw e.1 (get_or-set_same xs r true false within))
  | inr e ↦ rw e.0 (get_or-set_other xs r i true false e.1)
])

none_of : (n i : ℕ) → members (replicate n false) i ≡ false
none_of zero i = refl
none_of (suc n) zero = refl
none_of (suc n) (suc i) = none_of n i

pub members_alone : (n r : ℕ) → r < n → members (set (replicate n false) r true) ≡ alone r
members_alone n r within = fun_ext (λ i. elim (eqb_tells i r) [
  | inl e ↦ rw e.0 (rw e.1 (get_or-set_same (replicate n false) r true false (omega (arith, length-replicate n false))))
  | inr e ↦ rw e.0 (get_or-set_other (replicate n false) r i true false e.1 ∙ none_of n i)
])

pub entries_set : (es : List stored.DirectoryEntry) (b : ℕ) (e : stored.DirectoryEntry) → b < length es → entry_at (set es b e) ≡ changed (entry_at es) b (entry_of e)
entries_set es b e within = fun_ext (λ x. elim (eqb_tells x b) [
  | inl q ↦ rw q.0 (rw q.1 (ap entry_of (get_or-set_same es b e no_entry within)))
  | inr q ↦ rw q.0 (ap entry_of (get_or-set_other es b x e no_entry q.1))
])

unchanged : {A : Type 0} (f : ℕ → A) (b : ℕ) (a : A) → a ≡ f b → changed f b a ≡ f
unchanged f b a is = fun_ext (λ x. elim (eqb_tells x b) [
  | inl q ↦ rw q.0 (rw q.1 is)
  | inr q ↦ rw q.0 refl
])

-- the requests by block, where those of one block have changed
waiting_set : (old new : List Request) (b : ℕ) (qs : List Request) → requests_for b new ≡ qs
    → ((d : ℕ) → d ≢ b → requests_for d new ≡ requests_for d old)
    → (λ d. requests_for d new) ≡ changed (λ d. requests_for d old) b qs
waiting_set old new b qs own others = fun_ext (λ d. elim (eqb_tells d b) [
  | inl q ↦ rw q.0 (ap (λ z. requests_for z new) q.1 ∙ own)
  | inr q ↦ rw q.0 (others d q.1)
])

-- a row for b changes the entry and the requests of b
pub effect_is : (d : Directory) (b : ℕ) (e : stored.DirectoryEntry) (w : List Request) (row : Option HomeRow)
    → b < length d.entries → entry_of e ≡ (row_or (home_at (entries_of d) b) row).home.entry
    → AreAfter b d.waiting w (row_or (home_at (entries_of d) b) row).home
    → entries_of (record { layout = d.layout; me = d.me; entries = set d.entries b e; waiting = w })
    ≡ (home_effect (entries_of d) b row).entries
effect_is d b e w None within is_e are =
    let p = entries_set d.entries b e within ∙ unchanged (entry_at d.entries) b (entry_of e) is_e in
    let q = waiting_set d.waiting w b (requests_for b d.waiting) are.waiting are.others
    ∙ unchanged (λ x. requests_for x d.waiting) b (requests_for b d.waiting) refl in
    λ t. record { entry = p t; waiting = q t; occupancy = are.occupancy t }
effect_is d b e w (Some row) within is_e are =
    let p = entries_set d.entries b e within ∙ ap (changed (entry_at d.entries) b) is_e in
    let q = waiting_set d.waiting w b row.home.waiting are.waiting are.others in
    λ t. record { entry = p t; waiting = q t; occupancy = are.occupancy t }

-- the same of a row that was found for the entry of b
pub row_at : (d : Directory) (row : ℕ → Home → Option HomeRow) (n b : ℕ) (e0 e : stored.DirectoryEntry)
    (w : List Request) → is_home d b ≡ true → b < length d.entries → n ≡ d.layout.nodes
    → e0 ≡ get_or d.entries b e0
    → entry_of e
    ≡ (row_or (home_of e0 d.waiting b) (row n (home_of e0 d.waiting b))).home.entry
    → AreAfter b d.waiting w
    (row_or (home_of e0 d.waiting b) (row n (home_of e0 d.waiting b))).home
    → entries_of (record { layout = d.layout; me = d.me; entries = set d.entries b e; waiting = w })
    ≡ (home_effect (entries_of d) b
    (cond (is_home d b) (row d.layout.nodes (home_at (entries_of d) b)) None)).entries
row_at d row n b e0 e w here within nodes old is_e are =
    let first : e0 ≡ get_or d.entries b no_entry =
    old ∙ get_or_default d.entries b e0 no_entry within in
    let found : (row_or (home_of e0 d.waiting b) (row n (home_of e0 d.waiting b)))
    ≡ (row_or (home_at (entries_of d) b) (row d.layout.nodes (home_at (entries_of d) b))) =
    rw (nodes, first) refl in
    rw here (effect_is d b e w (row d.layout.nodes (home_at (entries_of d) b)) within
    (is_e ∙ (λ t. (found t).home.entry))
    (subst (λ (r : HomeRow). AreAfter b d.waiting w r.home) found are))

pub home_within : (d : Directory) (b : ℕ) → is_home d b ≡ true → b < blocks d.layout
home_within d b here = grind (arith, nat_tests)

pub first_at : (es : List stored.DirectoryEntry) (n b me : ℕ) (e : stored.DirectoryEntry) → es ≡ replicate n e → entry_of e ≡ first_entry me → b < n → entry_at es b ≡ first_entry me
first_at es n b me e is first below = rw is (ap entry_of (get_or-replicate n b e no_entry below) ∙ first)

pub first_is : (me : ℕ) → me < 16 → entry_of (record { owner = me; sharers = set (replicate 16 false) me true; busy = None }) ≡ first_entry me
first_is me below = λ t. record { owner = me; sharers = members_alone 16 me below t; busy = None }

pub done_is : (need : Need) (node : ℕ) (old : DirectoryEntry) → node < 16 → need ≡ writing → entry_of (record { owner = node; sharers = set (replicate 16 false) node true; busy = None }) ≡ done_with old need node
done_is need node old below is = rw is (first_is node below)
