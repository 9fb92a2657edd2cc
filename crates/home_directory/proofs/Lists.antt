-- The lists through the array of places: how they stay, grow and shrink.
use Rattle.std.proofs.Common.{◌≡◌, ◌≢◌, ℕ, zero, suc, ◌+◌, ◌<◌, ◌≤◌, Bool, true, false, eqb, ◌||◌, List, [], ◌∷◌, ◌++◌, length, replicate, refl, sym, ap, ◌∙◌, subst, inl, inr, Option, Some, None, arith, length-append}
use Rattle.std.proofs.lemmas.Bool.Decides.{eqb_tells, nat_tests}
use Rattle.std.proofs.lemmas.List.{get_or_past, get_or_append_left, get_or-replicate, length-replicate}
use Rattle.std.proofs.Math.Seq.{get_or-append_seam}
use Rattle.home_directory.specs.declared.directory.Request.{Request}
use Rattle.home_directory.specs.declared.request_lists.Slot.{Slot}
use Rattle.home_directory.specs.declared.request_lists.ListEnds.{ListEnds}
use Rattle.home_directory.specs.declared.request_lists.BlockList.{BlockList}
use Rattle.home_directory.specs.Home.{waits}
use Rattle.home_directory.specs.Effects.{members}
use Rattle.home_directory.specs.Lists.{place_at, request_at, next_at, first_of, walk, requests_in, all_of, Path, Runs, AreEmpty, Each, AreOnce, IsOf, Stands, IsKept}

abbrev pub no_place : Slot
no_place = record { request = None; next = None }

-- a place that holds a request is one of the array
pub held_within : (ps : List Slot) (i : ℕ) (q : Request) → request_at ps i ≡ Some q → i < length ps
held_within [] i q is = absurd (let e : None ≡ Some q = sym (ap (λ (p : Slot). p.request)
    (get_or_past [] i no_place (omega arith))) ∙ is in cc)
held_within (p ∷ ps) zero q is = omega arith
held_within (p ∷ ps) (suc i) q is = let h = held_within ps i q is in omega (arith, h)

-- where a list ends
pub end_of : (ps : List Slot) (i l : ℕ) (q : Request) (qs : List Request) → Path ps i l q qs
    → (next_at ps l ≡ None) × (r : Request) × (request_at ps l ≡ Some r)
end_of ps i l q [] h = (subst (λ z. next_at ps z ≡ None) h.1 h.2, q, subst (λ z. request_at ps z ≡ Some q) h.1 h.0)
end_of ps i l q (r ∷ qs) h = end_of ps h.1 l r qs h.3

-- Two arrays: the places of requests of which P holds are the same
module _ (P : Request → Type 0) (old new : List Slot) where
  abbrev pub IsSame : Type 0
  IsSame = (x : ℕ) (r : Request) → request_at old x ≡ Some r → P r → place_at new x ≡ place_at old x

  pub path_same : IsSame → (i l : ℕ) (q : Request) (qs : List Request) → P q → Each P qs
      → Path old i l q qs → Path new i l q qs
  path_same same i l q [] p ps h =
      let e = same i q h.0 p in
      (ap (λ (z : Slot). z.request) e ∙ h.0, h.1, ap (λ (z : Slot). z.next) e ∙ h.2)
  path_same same i l q (r ∷ qs) p ps h =
      let e = same i q h.0 p in (
        ap (λ (z : Slot). z.request) e ∙ h.0,
        h.1,
        ap (λ (z : Slot). z.next) e ∙ h.2,
        path_same same h.1 l r qs ps.0 ps.1 h.3,
      )

  pub runs_same : IsSame → (ends : Option ListEnds) (qs : List Request) → Each P qs → Runs old ends qs
      → Runs new ends qs
  runs_same same ends [] ps h = h
  runs_same same ends (q ∷ qs) ps h =
      (h.0, h.1, path_same same h.0.first h.0.last q qs ps.0 ps.1 h.2)

  -- one more at the end
  pub path_more : (k l : ℕ) (x : Request)
      → ((y : ℕ) (r : Request) → request_at old y ≡ Some r → P r → y ≢ l
      → place_at new y ≡ place_at old y)
      → request_at new l ≡ request_at old l → next_at new l ≡ Some k
      → request_at new k ≡ Some x → next_at new k ≡ None
      → (i : ℕ) (q : Request) (qs : List Request) → P q → Each P qs → Path old i l q qs
      → Path new i k q (qs ++ x ∷ [])
  path_more k l x same stays next is ends i q [] p ps h = (
    ap (request_at new) h.1 ∙ stays ∙ ap (request_at old) (sym h.1) ∙ h.0,
    k,
    ap (next_at new) h.1 ∙ next,
    (is, refl, ends),
  )
  path_more k l x same stays next is ends i q (r ∷ qs) p ps h =
      let other : i ≢ l = (λ e.
      let bad : Some h.1 ≡ None = sym h.2 ∙ ap (next_at old) e ∙ (end_of old h.1 l r qs h.3).0 in
      absurd cc) in
      let e = same i q h.0 p other in (
        ap (λ (z : Slot). z.request) e ∙ h.0,
        h.1,
        ap (λ (z : Slot). z.next) e ∙ h.2,
        path_more k l x same stays next is ends h.1 r qs ps.0 ps.1 h.3,
      )

-- the walk gives the requests
pub walk_is : (ps : List Slot) (n i l : ℕ) (q : Request) (qs : List Request) → Path ps i l q qs
    → length qs < n → walk ps n (Some i) ≡ q ∷ qs
walk_is ps zero i l q qs h few = absurd (omega (arith, few))
walk_is ps (suc zero) i l q [] h few = rw h.0 refl
walk_is ps (suc (suc n)) i l q [] h few = rw (h.0, h.2) refl
walk_is ps (suc n) i l q (r ∷ qs) h few =
    rw (h.0, h.2) (ap (λ z. q ∷ z) (walk_is ps n h.1 l r qs h.3 (omega (arith, few))))

pub runs_walk : (ps : List Slot) (ends : Option ListEnds) (qs : List Request) → Runs ps ends qs
    → length qs ≤ 32 → walk ps 32 (first_of ends) ≡ qs
runs_walk ps ends [] h few = rw h refl
runs_walk ps ends (q ∷ qs) h few =
    rw h.1 (walk_is ps 32 h.0.first h.0.last q qs h.2 (omega (arith, few)))

-- the empty places

pub empty_once : (ps : List Slot) (at : Option ℕ) (n m : ℕ) → AreEmpty ps at n → AreEmpty ps at m → n ≡ m
empty_once ps at zero zero h g = refl
empty_once ps at zero (suc m) h g = absurd (let e : None ≡ Some g.0 = sym h ∙ g.1 in cc)
empty_once ps at (suc n) zero h g = absurd (let e : None ≡ Some h.0 = sym g ∙ h.1 in cc)
empty_once ps at (suc n) (suc m) h g =
    let e : Some h.0 ≡ Some g.0 = sym h.1 ∙ g.1 in
    let i : g.0 ≡ h.0 = cc in
    ap suc (empty_once ps (next_at ps h.0) n m h.4 (subst (λ z. AreEmpty ps (next_at ps z) m) i g.4))

pub empty_same : (old new : List Slot) (n : ℕ) → length new ≡ length old
    → ((x k : ℕ) → k ≤ n → AreEmpty old (Some x) k → place_at new x ≡ place_at old x)
    → (m : ℕ) (at : Option ℕ) → m ≤ n → AreEmpty old at m → AreEmpty new at m
empty_same old new n len same zero at few h = h
empty_same old new n len same (suc m) at few h =
    let e = same h.0 (suc m) few (subst (λ z. AreEmpty old z (suc m)) h.1 h) in (
      h.0,
      h.1,
      omega (arith, len, h.2),
      ap (λ (z : Slot). z.request) e ∙ h.3,
      empty_same old new n len same m (next_at new h.0) (omega (arith, few))
          (subst (λ z. AreEmpty old z m) (sym (ap (λ (z : Slot). z.next) e)) h.4),
    )

-- the first empty place isn't met again
pub first_other : (ps : List Slot) (i x n k : ℕ) → AreEmpty ps (Some i) (suc n) → k ≤ n
    → AreEmpty ps (Some x) k → x ≢ i
first_other ps i x n k all few rest = λ e.
    let same = empty_once ps (Some i) (suc n) k all (subst (λ z. AreEmpty ps (Some z) k) e rest) in
    absurd (omega (arith, few, same))

pub empty_holds : (ps : List Slot) (x k : ℕ) → AreEmpty ps (Some x) k → request_at ps x ≡ None
empty_holds ps x zero h = absurd cc
empty_holds ps x (suc k) h = (let e : Some x ≡ Some h.0 = h.1 in let i : x ≡ h.0 = cc in ap (request_at ps) i ∙ h.3)

pub empty_pushed : (ps : List Slot) (p : Slot) (at : Option ℕ) (n : ℕ) → AreEmpty ps at n
    → AreEmpty (ps ++ p ∷ []) at n
empty_pushed ps p at zero h = h
empty_pushed ps p at (suc n) h =
    let e : place_at (ps ++ p ∷ []) h.0 ≡ place_at ps h.0 = get_or_append_left ps (p ∷ []) no_place h.0 h.2 in (
      h.0,
      h.1,
      omega (arith, h.2, length-append ps (p ∷ [])),
      ap (λ (z : Slot). z.request) e ∙ h.3,
      empty_pushed ps p (next_at (ps ++ p ∷ []) h.0) n (subst (λ z. AreEmpty ps z n) (sym (ap (λ
          (z : Slot). z.next) e)) h.4),
    )

-- which nodes have a request in a list

pub waits_more : (qs : List Request) (q : Request) (r : ℕ) → r ≢ q.from → waits (qs ++ q ∷ []) r ≡ waits qs r
waits_more [] q r other = (let e : eqb q.from r ≡ false = grind (arith, nat_tests) in rw e refl)
waits_more (p ∷ qs) q r other = rw (waits_more qs q r other) refl

pub waits_there : (qs : List Request) (q : Request) → waits (qs ++ q ∷ []) q.from ≡ true
waits_there [] q = (let e : eqb q.from q.from ≡ true = grind (arith, nat_tests) in rw e refl)
waits_there (p ∷ qs) q = rw (waits_there qs q) (either (eqb p.from q.from))
  where
    either : (t : Bool) → (t || true) ≡ true
    either true = refl
    either false = refl

pub once_more : (qs : List Request) (q : Request) → AreOnce qs → waits qs q.from ≡ false → AreOnce (qs ++ q ∷ [])
once_more [] q once none = (refl, once)
once_more (p ∷ qs) q once none = elim (eqb_tells p.from q.from) [
  | inl e ↦ absurd (let bad : true ≡ false = (rw e.0 at none) in cc)
  | inr e ↦ (let rest : waits qs q.from ≡ false = rw e.0 at none in
      (waits_more qs q p.from e.1 ∙ once.0, once_more qs q once.1 rest))
]

pub each_more : (P : Request → Type 0) (qs : List Request) (q : Request) → Each P qs → P q → Each P (qs ++ q ∷ [])
each_more P [] q all p = (p, all)
each_more P (x ∷ qs) q all p = (all.0, each_more P qs q all.1 p)

-- none of them is of a node that has none there
pub each_other : (b r : ℕ) (qs : List Request) → Each (IsOf b) qs → waits qs r ≡ false
    → Each (λ q. (q.block ≡ b) × (q.from ≢ r)) qs
each_other b r [] all none = all
each_other b r (q ∷ qs) all none = elim (eqb_tells q.from r) [
  | inl e ↦ absurd (let bad : true ≡ false = (rw e.0 at none) in cc)
  | inr e ↦ (let rest : waits qs r ≡ false = rw e.0 at none in
      ((all.0.0, e.1), each_other b r qs all.1 rest))
]

pub each_block : (b : ℕ) (qs : List Request) → Each (IsOf b) qs → Each (λ q. q.block ≡ b) qs
each_block b [] all = all
each_block b (q ∷ qs) all = (all.0.0, each_block b qs all.1)

-- a list's last place holds one of its requests
pub last_of : (P : Request → Type 0) (ps : List Slot) (i l : ℕ) (q : Request) (qs : List Request) → P q → Each P qs
    → Path ps i l q qs → (r : Request) × (request_at ps l ≡ Some r) × P r
last_of P ps i l q [] p all h = (q, subst (λ z. request_at ps z ≡ Some q) h.1 h.0, p)
last_of P ps i l q (r ∷ qs) p all h = last_of P ps h.1 l r qs all.0 all.1 h.3

pub path_first : (ps : List Slot) (i l : ℕ) (q : Request) (qs : List Request) → Path ps i l q qs
    → request_at ps i ≡ Some q
path_first ps i l q [] h = h.0
path_first ps i l q (r ∷ qs) h = h.0

-- the requests of a list that has ends
pub record HasFirst (ps : List Slot) (e : ListEnds) (qs : List Request) : Type 0 where
  pub first : Request
  pub rest : List Request
  pub is : qs ≡ first ∷ rest
  pub path : Path ps e.first e.last first rest

pub has_first : (ps : List Slot) (ends : Option ListEnds) (e : ListEnds) (qs : List Request) → Runs ps ends qs
    → ends ≡ Some e
    → HasFirst ps e qs
has_first ps ends e [] h is = absurd (let bad : None ≡ Some e = sym h ∙ is in cc)
has_first ps ends e (q ∷ qs) h is =
    let both : Some h.0 ≡ Some e = sym h.1 ∙ is in
    let same : h.0 ≡ e = cc in
    record { first = q; rest = qs; is = refl; path = subst (λ (z : ListEnds). Path ps z.first z.last q qs) same h.2 }

pub has_none : (ps : List Slot) (ends : Option ListEnds) (qs : List Request) → Runs ps ends qs → ends ≡ None → qs ≡ []
has_none ps ends [] h is = refl
has_none ps ends (q ∷ qs) h is = absurd (let bad : Some h.0 ≡ None = sym h.1 ∙ is in cc)

-- the arrays at the start

pub empty_grows : (ps : List Slot) (at : Option ℕ) (n : ℕ) → length ps ≡ n → AreEmpty ps at n
    → AreEmpty (ps ++ record { request = None; next = at } ∷ []) (Some n) (n + 1)
empty_grows ps at n len h =
    let p : Slot = record { request = None; next = at } in
    let there : place_at (ps ++ p ∷ []) n ≡ p = subst (λ z. place_at (ps ++ p ∷ []) z ≡ p) len
    (get_or-append_seam ps p [] no_place) in
    let all : AreEmpty (ps ++ p ∷ []) (Some n) (suc n) = (
      n,
      refl,
      omega (arith, len, length-append ps (p ∷ [])),
      ap (λ (z : Slot). z.request) there,
      subst (λ z. AreEmpty (ps ++ p ∷ []) z n) (sym (ap (λ (z : Slot). z.next) there)) (empty_pushed ps p at n h),
    ) in
    let more : suc n ≡ n + 1 = omega arith in
    subst (AreEmpty (ps ++ p ∷ []) (Some n)) more all

pub lists_start : (ps : List Slot) (b : ℕ) (l : BlockList) → l.ends ≡ None → requests_in ps l ≡ []
lists_start ps b l none = rw none refl

pub all_start : (ps : List Slot) (n : ℕ) (l : BlockList) → l.ends ≡ None → all_of ps (replicate n l) ≡ []
all_start ps zero l none = refl
all_start ps (suc n) l none = rw (lists_start ps n l none, all_start ps n l none) refl

none_asked : (n r : ℕ) → members (replicate n false) r ≡ false
none_asked zero r = refl
none_asked (suc n) zero = refl
none_asked (suc n) (suc r) = none_asked n r

pub kept_start : (ps : List Slot) (free : Option ℕ) (n : ℕ) → length ps ≡ 32 → AreEmpty ps free 32
    → IsKept ps (replicate n (record { ends = None; asked = replicate 16 false })) free 0
kept_start ps free n len empty =
    let l : BlockList = record { ends = None; asked = replicate 16 false } in
    record {
      places = len;
      lists = λ b below. subst (λ z. Stands ps b z (requests_in ps z))
          (sym (get_or-replicate n b l (record {
            ends = None;
            asked =
                [];
          }) (omega (arith, below, length-replicate n l))))
          (record { runs = refl; own = tt; once = tt; nodes = length-replicate 16 false; asked = none_asked 16 });
      empty = empty;
      few = omega arith;
      all = ap length (all_start ps n l refl);
    }
