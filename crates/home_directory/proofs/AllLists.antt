-- All lists together, where one has changed.
use Rattle.std.proofs.Common.{◌≡◌, ◌≢◌, ℕ, zero, suc, ◌+◌, ◌-◌, ◌<◌, ◌≤◌, true, false, eqb, List, [], ◌∷◌, ◌++◌, length, set, refl, sym, ap, ◌∙◌, subst, inl, inr, Option, Some, None, arith, length-append}
use Rattle.std.proofs.lemmas.Bool.Decides.{eqb_tells, leb_tells, nat_tests}
use Rattle.std.proofs.lemmas.List.{get_or-set_same, get_or-set_other, get_or_past, length-set}
use Rattle.std.proofs.lemmas.List.Elements.{filter-append}
use Rattle.home_directory.specs.declared.directory.Request.{Request}
use Rattle.home_directory.specs.declared.request_lists.Slot.{Slot}
use Rattle.home_directory.specs.declared.request_lists.BlockList.{BlockList}
use Rattle.home_directory.specs.Effects.{requests_for}
use Rattle.home_directory.specs.Lists.{place_at, request_at, list_at, requests_in, all_of, Each, IsOf, Stands, IsKept, AreEmpty}
use Rattle.home_directory.proofs.Lists.{runs_same, runs_walk, each_block}

all_for : (b : ℕ) (qs : List Request) → Each (λ q. q.block ≡ b) qs → requests_for b qs ≡ qs
all_for b [] all = refl
all_for b (q ∷ qs) all =
    (let e : eqb q.block b ≡ true = grind (arith, nat_tests, all.0) in rw e (ap (λ z. q ∷ z) (all_for b qs all.1)))

none_for : (b c : ℕ) (qs : List Request) → c ≢ b → Each (λ q. q.block ≡ b) qs → requests_for c qs ≡ []
none_for b c [] other all = refl
none_for b c (q ∷ qs) other all =
    (let e : eqb q.block c ≡ false = grind (arith, nat_tests, all.0) in rw e (none_for b c qs other all.1))

-- the lists of the blocks from k on
abbrev OwnFrom : List Slot → ℕ → List BlockList → Type 0
OwnFrom ps k ls = (i : ℕ) → i < length ls → Each (λ q. q.block ≡ k + i) (requests_in ps (list_at ls i))

own_rest : (ps : List Slot) (k : ℕ) (l : BlockList) (ls : List BlockList) → OwnFrom ps k (l ∷ ls) → OwnFrom ps (suc k) ls
own_rest ps k l ls own = λ i below. subst (λ z. Each (λ q. q.block ≡ z) (requests_in ps (list_at ls i)))
    (omega arith) (own (suc i) (omega (arith, below)))

none_before : (ps : List Slot) (c k : ℕ) (ls : List BlockList) → c < k → OwnFrom ps k ls
    → requests_for c (all_of ps ls) ≡ []
none_before ps c k [] before own = refl
none_before ps c k (l ∷ ls) before own =
    filter-append (λ q. eqb q.block c) (requests_in ps l) (all_of ps ls)
    ∙ (rw (
      none_for (k + 0) c (requests_in ps l) (omega (arith, before)) (own 0 (omega arith)),
      none_before ps c (suc k) ls (omega (arith, before)) (own_rest ps k l ls own),
    ) refl)

list_of : (ps : List Slot) (k b : ℕ) (ls : List BlockList) → OwnFrom ps k ls
    → requests_for (k + b) (all_of ps ls) ≡ requests_in ps (list_at ls b)
list_of ps k b [] own = refl
list_of ps k zero (l ∷ ls) own =
    filter-append (λ q. eqb q.block (k + 0)) (requests_in ps l) (all_of ps ls)
    ∙ (rw (
      all_for (k + 0) (requests_in ps l) (own 0 (omega arith)),
      none_before ps (k + 0) (suc k) ls (omega arith) (own_rest ps k l ls own),
    ) (append_none (requests_in ps l)))
  where
    append_none : (qs : List Request) → (qs ++ []) ≡ qs
    append_none [] = refl
    append_none (q ∷ qs) = ap (λ z. q ∷ z) (append_none qs)
list_of ps k (suc b) (l ∷ ls) own =
    filter-append (λ q. eqb q.block (k + suc b)) (requests_in ps l) (all_of ps ls)
    ∙ (rw (none_for (k + 0) (k + suc b) (requests_in ps l) (omega arith) (own 0 (omega arith)))
    (ap (λ z. requests_for z (all_of ps ls)) (omega arith) ∙ list_of ps (suc k) b ls (own_rest ps k l ls own)))

own_of : (ps : List Slot) (ls : List BlockList) (empty : Option ℕ) (len : ℕ) → IsKept ps ls empty len → OwnFrom ps 0 ls
own_of ps ls empty len kept = λ i below. subst (λ z. Each (λ q. q.block ≡ z) (requests_in ps (list_at ls i)))
    (omega arith) (each_block i (requests_in ps (list_at ls i)) (kept.lists i below).own)

-- the requests for a block are those of its list
pub requests_are : (ps : List Slot) (ls : List BlockList) (empty : Option ℕ) (len b : ℕ) → IsKept ps ls empty len
    → requests_for b (all_of ps ls) ≡ requests_in ps (list_at ls b)
requests_are ps ls empty len b kept =
    ap (λ z. requests_for z (all_of ps ls)) (omega arith) ∙ list_of ps 0 b ls (own_of ps ls empty len kept)

pub one_few : (ps : List Slot) (ls : List BlockList) (b : ℕ)
    → length (requests_in ps (list_at ls b)) ≤ length (all_of ps ls)
one_few ps [] b = omega arith
one_few ps (l ∷ ls) zero = omega (arith, length-append (requests_in ps l) (all_of ps ls))
one_few ps (l ∷ ls) (suc b) = omega (arith, length-append (requests_in ps l) (all_of ps ls), one_few ps ls b)

all_same : (ps : List Slot) (old new : List BlockList) (now : List Slot) → length new ≡ length old
    → ((i : ℕ) → requests_in now (list_at new i) ≡ requests_in ps (list_at old i))
    → all_of now new ≡ all_of ps old
all_same ps [] [] now len same = refl
all_same ps [] (l ∷ ls) now len same = absurd (omega (arith, len))
all_same ps (l ∷ ls) [] now len same = absurd (omega (arith, len))
all_same ps (l ∷ ls) (m ∷ ms) now len same =
    let head : requests_in now m ≡ requests_in ps l = same 0 in
    let rest : all_of now ms ≡ all_of ps ls = all_same ps ls ms now (omega (arith, len)) (λ i. same (suc i)) in
    λ t. head t ++ rest t

-- how many there are in all, where the list of b alone has changed
all_but : (ps : List Slot) (old new : List BlockList) (now : List Slot) (b : ℕ) → b < length old
    → length new ≡ length old
    → ((i : ℕ) → i ≢ b → requests_in now (list_at new i) ≡ requests_in ps (list_at old i))
    → length (all_of now new) + length (requests_in ps (list_at old b))
    ≡ length (all_of ps old) + length (requests_in now (list_at new b))
all_but ps [] new now b below len same = absurd (omega (arith, below))
all_but ps (l ∷ ls) [] now b below len same = absurd (omega (arith, len))
all_but ps (l ∷ ls) (m ∷ ms) now zero below len same =
    let rest = all_same ps ls ms now (omega (arith, len)) (λ i. same (suc i) (omega arith)) in
    omega (
      arith,
      length-append (requests_in now m) (all_of now ms),
      length-append (requests_in ps l) (all_of ps ls),
      ap length rest,
    )
all_but ps (l ∷ ls) (m ∷ ms) now (suc b) below len same =
    let head : requests_in now m ≡ requests_in ps l = same 0 (omega arith) in
    let rest = all_but ps ls ms now b (omega (arith, below)) (omega (
      arith,
      len,
    )) (λ i other. same (suc i) (omega (arith, other))) in
    omega (
      arith,
      length-append (requests_in now m) (all_of now ms),
      length-append (requests_in ps l) (all_of ps ls),
      ap length head,
      rest,
    )

-- the arrays once the list of block b has changed
pub record IsChanged (ps now : List Slot) (ls : List BlockList) (new_empty : Option ℕ) (new_len b : ℕ)
    (list : BlockList) (qs : List Request) : Type 0 where
  pub kept : IsKept now (set ls b list) new_empty new_len
  pub own : requests_for b (all_of now (set ls b list)) ≡ qs
  pub others : (d : ℕ) → d ≢ b
      → requests_for d (all_of now (set ls b list)) ≡ requests_for d (all_of ps ls)

-- the list of block b has changed, and the places of other blocks' requests are as before
module _ (ps now : List Slot) (ls : List BlockList) (empty new_empty : Option ℕ) (len new_len b : ℕ)
    (list : BlockList) (qs : List Request) (kept : IsKept ps ls empty len) (within : b < length ls)
    (places : length now ≡ 32) (stands : Stands now b list qs)
    (count : length qs + len ≡ new_len + length (requests_in ps (list_at ls b))) (few : new_len ≤ 32)
    (rest_empty : AreEmpty now new_empty (32 - new_len))
    (same : (x : ℕ) (r : Request) → request_at ps x ≡ Some r → r.block ≢ b → place_at now x ≡ place_at ps x) where
  abbrev next : List BlockList
  next = set ls b list

  abbrev no_list : BlockList
  no_list = record { ends = None; asked = [] }

  own_list : list_at next b ≡ list
  own_list = get_or-set_same ls b list (record { ends = None; asked = [] }) within

  other_list : (d : ℕ) → d ≢ b → list_at next d ≡ list_at ls d
  other_list d other = get_or-set_other ls b d list (record { ends = None; asked = [] }) other

  few_old : (d : ℕ) → length (requests_in ps (list_at ls d)) ≤ len
  few_old d = (let e = one_few ps ls d in omega (arith, e, kept.all))

  own_walk : requests_in now list ≡ qs
  own_walk = runs_walk now list.ends qs stands.runs (let e = few_old b in omega (arith, count, few, e))

  others_of : (d : ℕ) → d ≢ b → (rs : List Request) → Each (IsOf d) rs → Each (λ q. q.block ≢ b) rs
  others_of d other [] all = all
  others_of d other (r ∷ rs) all = (λ e. other (sym all.0.0 ∙ e), others_of d other rs all.1)

  other_stands : (d : ℕ) → d ≢ b → d < length ls → Stands now d (list_at ls d) (requests_in ps (list_at ls d))
  other_stands d other below =
      let s = kept.lists d below in record {
        runs = runs_same (λ q. q.block ≢ b) ps now same (list_at ls d).ends (requests_in ps (list_at ls d))
            (others_of d other (requests_in ps (list_at ls d)) s.own) s.runs;
        own = s.own;
        once = s.once;
        nodes = s.nodes;
        asked = s.asked;
      }

  other_walk : (d : ℕ) → d ≢ b → d < length ls → requests_in now (list_at ls d) ≡ requests_in ps (list_at ls d)
  other_walk d other below =
      runs_walk now (list_at ls d).ends (requests_in ps (list_at ls d)) (other_stands d other below).runs
      (let e = few_old d in omega (arith, e, kept.few))

  other_in : (d : ℕ) → d ≢ b → requests_in now (list_at next d) ≡ requests_in ps (list_at ls d)
  other_in d other = rw (other_list d other) (elim (leb_tells (suc d) (length ls)) [
    | inl e ↦ other_walk d other (omega (arith, e.1))
    | inr e ↦ (let past : list_at ls d ≡ no_list = get_or_past ls d no_list (omega (arith, e.1)) in
        rw past refl)
  ])

  own_in : requests_in now (list_at next b) ≡ qs
  own_in = ap (requests_in now) own_list ∙ own_walk

  total : length (all_of now next) ≡ new_len
  total =
      let e = all_but ps ls next now b within (length-set ls b list) other_in in
      omega (arith, e, count, ap length own_in, kept.all)

  kept_after : IsKept now next new_empty new_len
  kept_after = record {
    places = places;
    lists = λ d below. elim (eqb_tells d b) [
      | inl e ↦ subst (λ z. Stands now z (list_at next z) (requests_in now (list_at next z))) (sym e.1)
          (subst (λ z. Stands now b z (requests_in now z)) (sym own_list)
          (subst (λ z. Stands now b list z) (sym own_walk) stands))
      | inr e ↦ (let below_ls : d < length ls = omega (arith, below, length-set ls b list) in
          subst (λ z. Stands now d z (requests_in now z)) (sym (other_list d e.1))
          (subst (λ z. Stands now d (list_at ls d) z) (sym (other_walk d e.1 below_ls))
          (other_stands d e.1 below_ls)))
    ];
    empty = rest_empty;
    few = few;
    all = total;
  }

  own_after : requests_for b (all_of now next) ≡ qs
  own_after = requests_are now next new_empty new_len b kept_after ∙ own_in

  others_after : (d : ℕ) → d ≢ b → requests_for d (all_of now next) ≡ requests_for d (all_of ps ls)
  others_after d other =
      requests_are now next new_empty new_len d kept_after ∙ other_in d other
      ∙ sym (requests_are ps ls empty len d kept)

  pub after_change : IsChanged ps now ls new_empty new_len b list qs
  after_change = record { kept = kept_after; own = own_after; others = others_after }
