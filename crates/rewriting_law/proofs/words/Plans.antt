-- Where a place's entry stands in an admissible plan, and which entry has a place's word.
use Rattle.std.proofs.Common.{◌≡◌, ℕ, zero, suc, ◌+◌, ◌-◌, ◌*◌, ◌%◌, ◌<◌, ◌≤◌, Bool, true, false, cond, eqb, leb, ◌&&◌, List, [], ◌∷◌, ◌++◌, length, get_or, Option, Some, None, refl, sym, ap, ◌∙◌, subst, inl, inr, arith, append_assoc, leb-true}
use Rattle.std.specs.Prelude.{Contains, IsSome, find}
use Rattle.std.proofs.lemmas.Bool.Decides.{nat_tests}
use Rattle.rewriting_law.proofs.Names.{Instr, Program, IsAccepted, PlanEntry, IsPlace, Part, Single, Head, Fast, Fallback, Place, IsInRun, AscendsFrom, addresses, RunsApart, IsAdmissible, is_word_by, is_word_of, reload_count, address_in}

-- the plan, cut at the entry of an address
pub record EntrySplit (plan : List PlanEntry) (a : ℕ) : Type 0 where
  pub before : List PlanEntry
  pub entry : PlanEntry
  pub after : List PlanEntry
  pub split : plan ≡ before ++ entry ∷ after
  pub here : entry.address ≡ a

find_at : (plan : List PlanEntry) (k a : ℕ) → k < length (addresses plan)
    → get_or (addresses plan) k a ≡ a → EntrySplit plan a
find_at [] k a lt is = absurd (omega arith)
find_at (e ∷ es) zero a lt is = record {
  before = [];
  entry = e;
  after = es;
  split = refl;
  here = is;
}
find_at (e ∷ es) (suc k) a lt is =
    let f = find_at es k a (omega arith) is in
    record {
      before = e ∷ f.before;
      entry = f.entry;
      after = f.after;
      split = ap (λ xs. e ∷ xs) f.split;
      here = f.here;
    }

pub split_at : (plan : List PlanEntry) (a : ℕ) → Contains (addresses plan) a → EntrySplit plan a
split_at plan a h = find_at plan h.0 a h.1 h.2

-- what stands behind an entry ascends from its address on
pub ascends_after : (low : ℕ) (xs : List PlanEntry) (e : PlanEntry) (ys : List PlanEntry)
    → AscendsFrom low (xs ++ e ∷ ys) → (low ≤ e.address) × AscendsFrom (e.address + 1) ys
ascends_after low [] e ys h = h
ascends_after low (x ∷ xs) e ys h = let r = ascends_after (x.address + 1) xs e ys h.1 in
    (omega (arith, h.0, r.0), r.1)

-- all of the entries have lower addresses
abbrev pub AllBelow : List PlanEntry → ℕ → Type 0
AllBelow [] a = Unit {0}
AllBelow (x ∷ xs) a = (x.address < a) × AllBelow xs a

pub below : (low : ℕ) (xs : List PlanEntry) (e : PlanEntry) (ys : List PlanEntry)
    → AscendsFrom low (xs ++ e ∷ ys) → AllBelow xs e.address
below low [] e ys h = tt
below low (x ∷ xs) e ys h = let r = ascends_after (x.address + 1) xs e ys h.1 in
    (omega (arith, r.0), below (x.address + 1) xs e ys h.1)

contains_after : (low : ℕ) (xs : List PlanEntry) (e : PlanEntry) (ys : List PlanEntry) (k b : ℕ)
    → AscendsFrom low (xs ++ e ∷ ys) → k < length (addresses (xs ++ e ∷ ys))
    → get_or (addresses (xs ++ e ∷ ys)) k b ≡ b → e.address < b
    → (j : ℕ) × (j < length (addresses ys)) × (get_or (addresses ys) j b ≡ b)
contains_after low [] e ys zero b h lt is above = absurd (omega (arith, is))
contains_after low [] e ys (suc k) b h lt is above = (k, omega arith, is)
contains_after low (x ∷ xs) e ys zero b h lt is above = let r =
    ascends_after (x.address + 1) xs e ys h.1 in absurd (omega (arith, is, r.0))
contains_after low (x ∷ xs) e ys (suc k) b h lt is above =
    contains_after (x.address + 1) xs e ys k b h.1 (omega arith) is above

-- no address is below the first bound
least : (low : ℕ) (ys : List PlanEntry) (k b : ℕ) → AscendsFrom low ys → k < length (addresses ys)
    → get_or (addresses ys) k b ≡ b → low ≤ b
least low [] k b h lt is = absurd (omega arith)
least low (y ∷ ys) zero b h lt is = omega (arith, h.0, is)
least low (y ∷ ys) (suc k) b h lt is = let r = least (y.address + 1) ys k b h.1 (omega arith) is in
    omega (arith, h.0, r)

pub contains_here : (xs : List PlanEntry) (e : PlanEntry) (ys : List PlanEntry)
    → Contains (addresses (xs ++ e ∷ ys)) e.address
contains_here [] e ys = (0, omega arith, refl)
contains_here (x ∷ xs) e ys = let r = contains_here xs e ys in (suc r.0, omega (arith, r.1), r.2)

pub some_of : {X : Type 0} (o : Option X) → IsSome o → (x : X) × (o ≡ Some x)
some_of None h = let never : false ≡ true = h in cc
some_of (Some x) h = (x, refl)

pub place_aligned : (program : Program) (a : ℕ) → IsAccepted program → IsPlace program.code a
    → a % 4 ≡ 0
place_aligned program a accepted (inl h) = let i = some_of (program.code a) h in
    accepted.aligned a i.0 i.1
place_aligned program a accepted (inr h) = h.aligned

-- the entry behind a code word's is that of the next address
pub record Follows (plan : List PlanEntry) (a : ℕ) (f : EntrySplit plan a) : Type 0 where
  pub next : PlanEntry
  pub rest : List PlanEntry
  pub after : f.after ≡ next ∷ rest
  pub here : next.address ≡ a + 4

-- an address behind a code word is a place
pub next_place : (program : Program) (a : ℕ) (i : Instr) → IsAccepted program
    → program.code a ≡ Some i → IsPlace program.code (a + 4)
next_place program a i accepted h = go (program.code (a + 4)) refl
  where
    go : (o : Option Instr) → program.code (a + 4) ≡ o → IsPlace program.code (a + 4)
    go (Some j) e = inl (subst IsSome (sym e) refl)
    go None e = let m = accepted.aligned a i h in
        inr (record {
          aligned = omega arith;
          no_code = e;
          from = a;
          instruction = i;
          there = h;
          leads = inl refl;
        })

first_is : (program : Program) (plan : List PlanEntry) (a : ℕ) (f : EntrySplit plan a)
    (ys : List PlanEntry) → f.after ≡ ys → IsAccepted program → IsAdmissible program plan
    → a % 4 ≡ 0
    → AscendsFrom (f.entry.address + 1) ys → (j : ℕ) → j < length (addresses ys)
    → get_or (addresses ys) j (a + 4) ≡ a + 4 → Follows plan a f
first_is program plan a f [] e accepted adm m asc j lt is = absurd (omega arith)
first_is program plan a f (y ∷ ys) e accepted adm m asc j lt is =
    let whole : plan ≡ (f.before ++ f.entry ∷ []) ++ y ∷ ys = f.split
    ∙ ap (λ xs. f.before ++ f.entry ∷ xs) e ∙ sym (append_assoc f.before (f.entry ∷ []) (y ∷ ys)) in
    let place = place_aligned program y.address accepted
    (adm.sound y.address (subst (λ p. Contains (addresses p) y.address) (sym whole)
    (contains_here (f.before ++ f.entry ∷ []) y ys))) in
    let low = asc.0 in
    let high = least y.address (y ∷ ys) j (a + 4) (omega arith, asc.1) lt is in
    let here = f.here in
    record { next = y; rest = ys; after = e; here = omega (arith, low, high, here, place, m) }

pub follows : (program : Program) (plan : List PlanEntry) (a : ℕ) (i : Instr) → IsAccepted program
    → IsAdmissible program plan → program.code a ≡ Some i → (f : EntrySplit plan a)
    → Follows plan a f
follows program plan a i accepted adm h f =
    let asc : AscendsFrom 0 (f.before ++ f.entry ∷ f.after) =
    subst (AscendsFrom 0) f.split adm.ascends in
    let there = adm.complete (a + 4) (next_place program a i accepted h) in
    let in_split : Contains (addresses (f.before ++ f.entry ∷ f.after)) (a + 4) =
    subst (λ p. Contains (addresses p) (a + 4)) f.split there in
    let here = f.here in
    let later = contains_after 0 f.before f.entry f.after in_split.0 (a + 4) asc in_split.1
    in_split.2 (omega (arith, here)) in
    let m = accepted.aligned a i h in
    first_is program plan a f f.after refl accepted adm m
    (ascends_after 0 f.before f.entry f.after asc).1 later.0 later.1 later.2

pub contains_middle : (xs : List PlanEntry) (e : PlanEntry) (ys : List PlanEntry)
    → Contains (xs ++ e ∷ ys) e
contains_middle [] e ys = (0, omega arith, refl)
contains_middle (x ∷ xs) e ys =
    let r = contains_middle xs e ys in (suc r.0, omega (arith, r.1), r.2)

-- an entry of a plan is one of its entries
pub is_contained : {plan : List PlanEntry} {a : ℕ} (f : EntrySplit plan a) → Contains plan f.entry
is_contained f =
    subst (λ p. Contains p f.entry) (sym f.split) (contains_middle f.before f.entry f.after)

contains_before : (xs ys : List PlanEntry) (x : PlanEntry) (k : ℕ) → k < length xs
    → get_or xs k x ≡ x → Contains (xs ++ ys) x
contains_before [] ys x k low is = absurd (omega (arith, low))
contains_before (y ∷ xs) ys x zero low is = (0, omega arith, is)
contains_before (y ∷ xs) ys x (suc k) low is =
    let r = contains_before xs ys x k (omega (arith, low)) is in
    (suc r.0, omega (arith, r.1), r.2)

-- none of the entries passes a test
abbrev NonePasses : (PlanEntry → Bool) → List PlanEntry → Type 0
NonePasses p [] = Unit {0}
NonePasses p (x ∷ xs) = (p x ≡ false) × NonePasses p xs

find_behind : (p : PlanEntry → Bool) (xs : List PlanEntry) (e : PlanEntry) (ys : List PlanEntry)
    → NonePasses p xs → p e ≡ true → find p (xs ++ e ∷ ys) ≡ Some e
find_behind p [] e ys none here = ap (λ t. cond t (Some e) (find p ys)) here
find_behind p (x ∷ xs) e ys none here =
    ap (λ t. cond t (Some x) (find p (xs ++ e ∷ ys))) none.0 ∙ find_behind p xs e ys none.1 here

none_there : (xs : List PlanEntry) (a : ℕ) → AllBelow xs a → NonePasses (is_word_by Single a) xs
none_there [] a h = tt
none_there (x ∷ xs) a h =
    let lt = h.0 in
    let t : eqb x.address a ≡ false = grind (arith, nat_tests) in (t, none_there xs a h.1)

both_hold : (s t : Bool) → (s && t) ≡ true → (s ≡ true) × (t ≡ true)
both_hold true t e = (refl, e)
both_hold false t e = let bad : false ≡ true = e in cc

-- an address of an entry's run lies in no other run
module _ (plan : List PlanEntry) (apart : RunsApart plan) (e : PlanEntry) (b : ℕ)
    (member : Contains plan e) (inside : IsInRun e b) where
  not_inside : (x : PlanEntry) → Contains plan x → x.address < e.address
      → is_word_by Fast b x ≡ false
  not_inside x there low = go (is_word_by Fast b x) refl
    where
      go : (t : Bool) → is_word_by Fast b x ≡ t → is_word_by Fast b x ≡ false
      go false h = h
      go true h =
          let tests = both_hold (leb x.address b) (leb (suc b) (x.address + 4 * x.run)) h in
          let within : IsInRun x b = record {
            from = leb-true x.address b tests.0;
            below = leb-true (suc b) (x.address + 4 * x.run) tests.1;
          } in
          let same = ap (λ (y : PlanEntry). y.address) (apart x e b there member within inside) in
          absurd (omega (arith, low, same))

  none_inside : (xs : List PlanEntry) → ((x : PlanEntry) → Contains xs x → Contains plan x)
      → AllBelow xs e.address → NonePasses (is_word_by Fast b) xs
  none_inside [] there low = tt
  none_inside (x ∷ xs) there low = (
    not_inside x (there x (0, omega arith, refl)) low.0,
    none_inside xs (λ y h. let k = h.1 in there y (suc h.0, omega (arith, k), h.2)) low.1,
  )

  is_inside : is_word_by Fast b e ≡ true
  is_inside =
      let from = inside.from in
      let below = inside.below in
      let s : leb e.address b ≡ true = grind (arith, nat_tests) in
      let t : leb (suc b) (e.address + 4 * e.run) ≡ true = grind (arith, nat_tests) in
      ap (λ z. z && leb (suc b) (e.address + 4 * e.run)) s ∙ t

-- a word of an entry's sequences at its place
abbrev pub place_in : PlanEntry → Part → ℕ → Place
place_in e part k = record { address = address_in e part k; part = part; word = k }

-- where a run starts, its words lie in it
pub lies_in_run : (e : PlanEntry) (k : ℕ) → 0 < e.run → IsInRun e (address_in e Fast k)
lies_in_run e k some =
    go (leb (reload_count e.batch) k && leb (suc k) (reload_count e.batch + e.run)) refl
  where
    go : (t : Bool)
        → (leb (reload_count e.batch) k && leb (suc k) (reload_count e.batch + e.run)) ≡ t
        → IsInRun e (cond t (e.address + 4 * (k - reload_count e.batch)) e.address)
    go false h = record { from = omega arith; below = omega (arith, some) }
    go true h =
        let tests = both_hold (leb (reload_count e.batch) k)
        (leb (suc k) (reload_count e.batch + e.run)) h in
        let from = leb-true (reload_count e.batch) k tests.0 in
        let below = leb-true (suc k) (reload_count e.batch + e.run) tests.1 in
        record { from = omega arith; below = omega (arith, from, below) }

-- the entry of a place's word is the one that has it
module _ (program : Program) (plan : List PlanEntry) (a : ℕ) (adm : IsAdmissible program plan)
    (f : EntrySplit plan a) where
  all_before : AllBelow f.before f.entry.address
  all_before = below 0 f.before f.entry f.after (subst (AscendsFrom 0) f.split adm.ascends)

  found_by : (p : PlanEntry → Bool) → NonePasses p f.before → p f.entry ≡ true
      → find p plan ≡ Some f.entry
  found_by p none here = ap (find p) f.split ∙ find_behind p f.before f.entry f.after none here

  own_entry : find (is_word_by Single f.entry.address) plan ≡ Some f.entry
  own_entry =
      let t : eqb f.entry.address f.entry.address ≡ true = grind (arith, nat_tests) in
      found_by (is_word_by Single f.entry.address)
      (none_there f.before f.entry.address all_before) t

  pub entry_is : (part : Part) (k : ℕ) → (part ≡ Fast → 0 < f.entry.run)
      → find (is_word_of (place_in f.entry part k)) plan ≡ Some f.entry
  entry_is Single k some = own_entry
  entry_is Head k some = own_entry
  entry_is Fallback k some = own_entry
  entry_is Fast k some =
      let b = address_in f.entry Fast k in
      let inside = lies_in_run f.entry k (some refl) in
      let member = is_contained f in
      found_by (is_word_by Fast b) (none_inside plan adm.apart f.entry b member inside f.before
      (λ x h. subst (λ p. Contains p x) (sym f.split)
      (contains_before f.before (f.entry ∷ f.after) x h.0 h.1 h.2)) all_before)
      (is_inside plan adm.apart f.entry b member inside)
