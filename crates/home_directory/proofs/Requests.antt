-- The requests that wait, seen block by block.
use Rattle.std.proofs.Common.{◌≡◌, ◌≢◌, ℕ, ◌<◌, ◌≤◌, Bool, true, false, not, eqb, ltb, ◌&&◌, List, [], ◌∷◌, length, refl, sym, ap, ◌∙◌, Option, Some, None, inl, inr, arith}
use Rattle.std.proofs.lemmas.Bool.Decides.{eqb_tells, nat_tests}
use Rattle.home_directory.specs.declared.directory.Busy.{Busy}
use Rattle.home_directory.specs.declared.directory.DirectoryEntry as stored
use Rattle.home_directory.specs.declared.directory.Request.{Request}
use Rattle.home_directory.specs.Home.{Home, waits}
use Rattle.home_directory.specs.Table.{Start, HomeRow, start_row, start_at, first_leaves}
use Rattle.home_directory.specs.Effects.{entry_of, requests_for}
use Rattle.home_directory.specs.Lists.{HasJoined, IsFirstTaken}
use Rattle.home_directory.specs.Rows.{home_of, row_or, after_request, start_of, next_of, AreAfter}

-- what lets a request of r wait at a busy block
module _ (b r : ℕ) (qs : List Request) where
  abbrev pub joins : Busy → Bool
  joins busy = not (eqb busy.node r) && (not (waits (requests_for b qs) r) && ltb (length qs) 32)

  pub joins_where : (busy : Busy) → busy.node ≢ r → waits (requests_for b qs) r ≡ false
      → length qs < 32 → joins busy ≡ true
  joins_where busy other none few = grind (arith, nat_tests)

  pub stays_busy : (busy : Busy) → busy.node ≡ r → joins busy ≡ false
  stays_busy busy same = grind (arith, nat_tests)

  pub stays_once : (busy : Busy) → waits (requests_for b qs) r ≡ true → joins busy ≡ false
  stays_once busy there = rw there (never (not (eqb busy.node r)))
    where
      never : (t : Bool) → (t && false) ≡ false
      never true = refl
      never false = refl

  pub stays_full : (busy : Busy) → 32 ≤ length qs → joins busy ≡ false
  stays_full busy full =
      let t : ltb (length qs) 32 ≡ false = grind (arith, nat_tests) in
      rw t (never (not (eqb busy.node r)) (not (waits (requests_for b qs) r)))
    where
      never : (t u : Bool) → (t && (u && false)) ≡ false
      never true true = refl
      never true false = refl
      never false u = refl

-- a request at a block that isn't busy doesn't wait, nor does one that meets no row
module _ (e : stored.DirectoryEntry) (qs : List Request) (n : ℕ) (q : Request) (node : q.from < n) where
  abbrev row : HomeRow
  row = after_request n (home_of e qs q.block) q

  stays_when : (h : Home) → requests_for q.block qs ≡ h.waiting → length qs ≡ h.occupancy
      → (o : Option Start) → AreAfter q.block qs qs (row_or h (start_at h o)).home
  stays_when h own all None = record { waiting = own; others = λ d other. refl; occupancy = all }
  stays_when h own all (Some s) = record {
    waiting = own;
    others = λ d other. refl;
    occupancy = all;
  }

  pub ask_idle : e.busy ≡ None → AreAfter q.block qs qs row.home
  ask_idle is =
      let t : ltb q.from n ≡ true = grind (arith, nat_tests) in
      rw (t, is) (stays_when (record {
        entry = record (entry_of e) { busy = None };
        waiting = requests_for q.block qs;
        occupancy = length qs;
      }) refl refl (start_row n (record (entry_of e) { busy = None }) q.block q.from q.need q.buf))

  pub ask_stays : (busy : Busy) → e.busy ≡ Some busy → joins q.block q.from qs busy ≡ false
      → AreAfter q.block qs qs row.home
  ask_stays busy is not_there =
      let t : ltb q.from n ≡ true = grind (arith, nat_tests) in
      rw (t, is, not_there) (record {
        waiting = refl;
        others = λ d other. refl;
        occupancy = refl;
      })

  pub ask_joins : (busy : Busy) (new : List Request) → e.busy ≡ Some busy
      → joins q.block q.from qs busy ≡ true → HasJoined qs new q → AreAfter q.block qs new row.home
  ask_joins busy new is there joined =
      let t : ltb q.from n ≡ true = grind (arith, nat_tests) in
      rw (t, is, there) (record {
        waiting = joined.own;
        others = joined.others;
        occupancy = joined.len;
      })

-- a request for block b names it
names : (b : ℕ) (q : Request) (old rest : List Request) → requests_for b old ≡ q ∷ rest → q.block ≡ b
names b q [] rest e = cc
names b q (x ∷ xs) rest e = elim (eqb_tells x.block b) [
  | inl t ↦
      (let f : x ∷ requests_for b xs ≡ q ∷ rest = rw t.0 at e in
      let same : x ≡ q = cc in
      sym (ap (λ (y : Request). y.block) same) ∙ t.1)
  | inr t ↦ (let f : requests_for b xs ≡ q ∷ rest = rw t.0 at e in names b q xs rest f)
]

-- the first request for a block, q, is taken out
module _ (b : ℕ) (e : stored.DirectoryEntry) (old new : List Request) (q : Request)
    (taken : IsFirstTaken b old new (Some q)) where
  pub leave_after : AreAfter b old new (first_leaves (home_of e old b))
  leave_after =
      let there : requests_for b old ≡ q ∷ requests_for b new = taken.0 in record {
        waiting = rw there refl;
        others = taken.1;
        occupancy = rw there (omega (arith, taken.2));
      }

  -- it is begun, or dropped where it is of no node
  pub next_started : (n : ℕ) → q.from < n
      → next_of n e b old ≡ start_of n e q
  next_started n node =
      let t : ltb q.from n ≡ true = grind (arith, nat_tests) in
      let there : requests_for b old ≡ q ∷ requests_for b new = taken.0 in
      let its : q.block ≡ b = names b q old (requests_for b new) there in rw (there, t, its) refl

  pub next_dropped : (n : ℕ) → n ≤ q.from
      → next_of n e b old ≡ record { entry = entry_of e; sends = [] }
  next_dropped n beyond =
      let t : ltb q.from n ≡ false = grind (arith, nat_tests) in
      let there : requests_for b old ≡ q ∷ requests_for b new = taken.0 in rw (there, t) refl

-- none waits for the block
module _ (b : ℕ) (e : stored.DirectoryEntry) (old new : List Request)
    (taken : IsFirstTaken b old new None) where
  pub none_after : AreAfter b old new (first_leaves (home_of e old b))
  none_after =
      let there : requests_for b old ≡ [] = taken.0 in record {
        waiting = rw there (ap (requests_for b) taken.1 ∙ there);
        others = λ d other. ap (requests_for d) taken.1;
        occupancy = rw there (ap length taken.1);
      }

  pub none_next : (n : ℕ) → next_of n e b old ≡ record { entry = entry_of e; sends = [] }
  none_next n = let there : requests_for b old ≡ [] = taken.0 in rw there refl
