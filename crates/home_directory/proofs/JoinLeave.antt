-- A request joins the list of its block, and the first of a list leaves it.
use Rattle.std.proofs.Common.{◌≡◌, ◌≢◌, ℕ, suc, ◌+◌, ◌-◌, ◌<◌, ◌≤◌, true, false, eqb, List, [], ◌∷◌, ◌++◌, length, get_or, set, refl, sym, ap, ◌∙◌, subst, inl, inr, Option, Some, None, arith, length-append}
use Rattle.std.proofs.lemmas.Bool.Decides.{eqb_tells, nat_tests}
use Rattle.std.proofs.lemmas.List.{get_or_default, get_or-set_same, get_or-set_other, length-set}
use Rattle.home_directory.specs.declared.directory.Request.{Request}
use Rattle.home_directory.specs.declared.request_lists.Slot.{Slot}
use Rattle.home_directory.specs.declared.request_lists.ListEnds.{ListEnds}
use Rattle.home_directory.specs.declared.request_lists.BlockList.{BlockList}
use Rattle.home_directory.specs.Home.{waits}
use Rattle.home_directory.specs.Effects.{requests_for, members}
use Rattle.home_directory.specs.Lists.{place_at, request_at, next_at, list_at, requests_in, all_of, Path, Runs, AreEmpty, Each, AreOnce, IsOf, Stands, IsKept, HasJoined, IsFirstTaken}
use Rattle.home_directory.proofs.Lists.{no_place, held_within, path_same, path_more, empty_same, first_other, empty_holds, waits_more, waits_there, once_more, each_more, each_other, last_of, path_first, HasFirst, has_first, has_none}
use Rattle.home_directory.proofs.AllLists.{requests_are, one_few, IsChanged, after_change}

-- a list and a place, as an index finds them
pub list_found : (ls : List BlockList) (b : ℕ) (l : BlockList) → b < length ls → l ≡ get_or ls b l → l ≡ list_at ls b
list_found ls b l within is = is ∙ get_or_default ls b l (record { ends = None; asked = [] }) within

pub place_found : (ps : List Slot) (i : ℕ) (p : Slot) → i < length ps → p ≡ get_or ps i p → p ≡ place_at ps i
place_found ps i p within is = is ∙ get_or_default ps i p no_place within

-- the arrays once a request q for block b has joined
pub record IsJoined (ps : List Slot) (ls : List BlockList) (n b : ℕ) (q : Request) (now : List Slot)
    (list_now : BlockList) (free_now : Option ℕ) : Type 0 where
  pub kept : IsKept now (set ls b list_now) free_now (n + 1)
  pub joined : HasJoined (all_of ps ls) (all_of now (set ls b list_now)) q

module _ (ps : List Slot) (ls : List BlockList) (free : Option ℕ) (n b : ℕ) (kept : IsKept ps ls free n)
    (within : b < length ls) where
  abbrev pub list : BlockList
  list = list_at ls b

  abbrev pub old : List Request
  old = requests_in ps list

  pub stands : Stands ps b list old
  stands = kept.lists b within

  -- whether a request of a node waits
  pub asked_is : (r : ℕ) → members list.asked r ≡ waits (requests_for b (all_of ps ls)) r
  asked_is r = stands.asked r ∙ ap (λ z. waits z r) (sym (requests_are ps ls free n b kept))

  -- an empty place
  module _ (k : ℕ) (is : free ≡ Some k) (room : n < 32) where
    found : (i : ℕ) × (free ≡ Some i) × (i < length ps) × (request_at ps i ≡ None)
        × AreEmpty ps (next_at ps i) (31 - n)
    found =
        let e : 32 - n ≡ suc (31 - n) = omega (arith, room) in
        subst (AreEmpty ps free) e kept.empty

    found_is : found.0 ≡ k
    found_is = (let e : Some found.0 ≡ Some k = sym found.1 ∙ is in cc)

    pub place_within : k < length ps
    place_within = subst (λ z. z < length ps) found_is found.2

    place_none : request_at ps k ≡ None
    place_none = subst (λ z. request_at ps z ≡ None) found_is found.3

    rest : AreEmpty ps (next_at ps k) (31 - n)
    rest = subst (λ z. AreEmpty ps (next_at ps z) (31 - n)) found_is found.4

    -- a request joins
    module _ (q : Request) (own : q.block ≡ b) (node : q.from < 16)
        (once : waits (requests_for b (all_of ps ls)) q.from ≡ false) where
      abbrev joined : List Request
      joined = old ++ q ∷ []

      none : waits old q.from ≡ false
      none = ap (λ z. waits z q.from) (sym (requests_are ps ls free n b kept)) ∙ once

      abbrev pub filled : Slot
      filled = record { request = Some q; next = None }

      abbrev pub ps1 : List Slot
      ps1 = set ps k filled

      at_k : place_at ps1 k ≡ filled
      at_k = get_or-set_same ps k filled no_place place_within

      at_other : (x : ℕ) → x ≢ k → place_at ps1 x ≡ place_at ps x
      at_other x other = get_or-set_other ps k x filled no_place other

      holds_other : (x : ℕ) (r : Request) → request_at ps x ≡ Some r → x ≢ k
      holds_other x r holds = λ e.
          (let bad : None ≡ Some r = sym place_none ∙ ap (request_at ps) (sym e) ∙ holds in absurd cc)

      finish : (now : List Slot) (ends : Option ListEnds) → length now ≡ length ps
          → Runs now ends joined
          → ((x : ℕ) → x ≢ k → ((r : Request) → request_at ps x ≡ Some r → r.block ≢ b)
          → place_at now x ≡ place_at ps x)
          → IsJoined ps ls n b q now (record { ends = ends; asked = set list.asked q.from true }) (next_at ps k)
      finish now ends len runs same =
          let list_now : BlockList = record { ends = ends; asked = set list.asked q.from true } in
          let stands_now : Stands now b list_now joined = record {
            runs = runs;
            own = each_more (IsOf b) old q stands.own (own, node);
            once = once_more old q stands.once none;
            nodes = length-set list.asked q.from true ∙ stands.nodes;
            asked = λ r. elim (eqb_tells r q.from) [
              | inl e ↦ subst (λ z. members (set list.asked q.from true) z ≡ waits joined z) (sym e.1)
                  (get_or-set_same list.asked q.from true false (omega (arith, node, stands.nodes))
                  ∙ sym (waits_there old q))
              | inr e ↦ get_or-set_other list.asked q.from r true false e.1 ∙ stands.asked r
                  ∙ sym (waits_more old q r e.1)
            ];
          } in
          let all : AreEmpty ps (Some k) (suc (31 - n)) = (k, refl, place_within, place_none, rest) in
          let left : AreEmpty now (next_at ps k) (31 - n) = empty_same ps now (31 - n) len
          (λ x i few e. same x (first_other ps k x (31 - n) i all few e)
          (λ r holds. let bad : None ≡ Some r = sym (empty_holds ps x i e) ∙ holds in absurd cc))
          (31 - n) (next_at ps k) (omega arith) rest in
          let left_now : AreEmpty now (next_at ps k) (32 - (n + 1)) = (let e : 31 - n ≡ 32 - (n + 1) =
          omega arith in subst (AreEmpty now (next_at ps k)) e left) in
          let count : length joined + n ≡ (n + 1) + length old = omega (arith, length-append old (q ∷ [])) in
          let places : length now ≡ 32 = len ∙ kept.places in
          let others : (x : ℕ) (r : Request) → request_at ps x ≡ Some r → r.block ≢ b
          → place_at now x ≡ place_at ps x = λ x r holds other.
          same x (holds_other x r holds) (λ s there. let e : Some s ≡ Some r = sym there
          ∙ holds in let t : s ≡ r = cc in subst (λ (z : Request). z.block ≢ b) (sym t) other) in
          let after = after_change ps now ls free (next_at ps k) n (n + 1) b list_now joined kept within
          places stands_now count (omega (arith, room)) left_now others in
          record {
            kept = after.kept;
            joined = record {
              own = ap (λ z. requests_for z (all_of now (set ls b list_now))) own ∙ after.own
                  ∙ ap (λ z. z ++ q ∷ []) (sym (requests_are ps ls free n b kept))
                  ∙ ap (λ z. requests_for z (all_of ps ls) ++ q ∷ []) (sym own);
              others = λ d other. after.others d (λ e. other (e ∙ sym own));
              len = omega (arith, after.kept.all, kept.all);
            };
          }

      -- as the only one
      pub joins_none : list.ends ≡ None
          → IsJoined ps ls n b q ps1 (record {
            ends = Some (record { first = k; last = k });
            asked =
                set list.asked q.from true;
          }) (next_at ps k)
      joins_none ends = finish ps1 (Some (record { first = k; last = k })) (length-set ps k filled)
          (subst (λ z. Runs ps1 (Some (record {
            first = k;
            last =
                k;
          })) (z ++ q ∷ [])) (sym (has_none ps list.ends old stands.runs ends)) (
            record { first = k; last = k },
            refl,
            (
              ap (λ (z : Slot). z.request) at_k,
              refl,
              ap (λ (z : Slot). z.next) at_k,
            ),
          ))
          (λ x other no. at_other x other)

      -- behind the others
      module _ (e : ListEnds) (ends : list.ends ≡ Some e) where
        first : HasFirst ps e old
        first = has_first ps list.ends e old stands.runs ends

        each_of : Each (IsOf b) (first.first ∷ first.rest)
        each_of = subst (Each (IsOf b)) first.is stands.own

        last : (r : Request) × (request_at ps e.last ≡ Some r) × IsOf b r
        last = last_of (IsOf b) ps e.first e.last first.first first.rest each_of.0 each_of.1 first.path

        pub last_within : e.last < length ps
        last_within = held_within ps e.last last.0 last.1

        last_other : e.last ≢ k
        last_other = holds_other e.last last.0 last.1

        abbrev pub linked : Slot
        linked = record { request = (place_at ps1 e.last).request; next = Some k }

        abbrev pub ps2 : List Slot
        ps2 = set ps1 e.last linked

        at_last : place_at ps2 e.last ≡ linked
        at_last = get_or-set_same ps1 e.last linked no_place (omega (arith, last_within, length-set ps k filled))

        at_rest : (x : ℕ) → x ≢ e.last → place_at ps2 x ≡ place_at ps1 x
        at_rest x other = get_or-set_other ps1 e.last x linked no_place other

        at_place : place_at ps2 k ≡ filled
        at_place = at_rest k (λ z. last_other (sym z)) ∙ at_k

        pub joins_some : IsJoined ps ls n b q ps2
            (record {
              ends = Some (record { first = e.first; last = k });
              asked =
                  set list.asked q.from true;
            }) (next_at ps k)
        joins_some = finish ps2 (Some (record { first = e.first; last = k }))
            (length-set ps1 e.last linked ∙ length-set ps k filled)
            (subst (λ z. Runs ps2 (Some (record { first = e.first; last = k })) (z ++ q ∷ [])) (sym first.is) (
              record { first = e.first; last = k },
              refl,
              path_more (IsOf b) ps ps2 k e.last q
                  (λ y r holds p other. at_rest y other ∙ at_other y (holds_other y r holds))
                  (ap (λ (z : Slot). z.request) at_last ∙ ap (λ (z : Slot). z.request) (at_other e.last last_other))
                  (ap (λ (z : Slot). z.next) at_last)
                  (ap (λ (z : Slot). z.request) at_place) (ap (λ (z : Slot). z.next) at_place)
                  e.first first.first first.rest each_of.0 each_of.1 first.path,
            ))
            (λ x other no. at_rest x (λ z. no last.0 (ap (request_at ps) z ∙ last.1) last.2.0) ∙ at_other x other)

  -- the first leaves
  module _ (e : ListEnds) (ends : list.ends ≡ Some e) where
    abbrev pub head : HasFirst ps e old
    head = has_first ps list.ends e old stands.runs ends

    pub head_holds : request_at ps e.first ≡ Some head.first
    head_holds = path_first ps e.first e.last head.first head.rest head.path

    pub head_within : e.first < length ps
    head_within = held_within ps e.first head.first head_holds

    each_is : Each (IsOf b) (head.first ∷ head.rest)
    each_is = subst (Each (IsOf b)) head.is stands.own

    once_is : AreOnce (head.first ∷ head.rest)
    once_is = subst AreOnce head.is stands.once

    pub head_node : head.first.from < 16
    head_node = each_is.0.1

    pub some_wait : 1 ≤ n
    some_wait = (let f = one_few ps ls b in omega (arith, f, kept.all, ap length head.is))

    abbrev pub emptied : Slot
    emptied = record { request = None; next = free }

    abbrev pub now : List Slot
    now = set ps e.first emptied

    abbrev pub ends_then : Option ℕ → Option ListEnds
    ends_then None = None
    ends_then (Some j) = Some (record { first = j; last = e.last })

    at_first : place_at now e.first ≡ emptied
    at_first = get_or-set_same ps e.first emptied no_place head_within

    at_rest_of : (x : ℕ) → x ≢ e.first → place_at now x ≡ place_at ps x
    at_rest_of x other = get_or-set_other ps e.first x emptied no_place other

    -- the place of another request
    apart : (x : ℕ) (r : Request) → request_at ps x ≡ Some r → r ≢ head.first → x ≢ e.first
    apart x r holds other = λ z.
        (let s : Some r ≡ Some head.first = sym holds ∙ ap (request_at ps) z ∙ head_holds in
        let t : r ≡ head.first = cc in other t)

    runs_then : (rs : List Request) → Each (λ r. (r.block ≡ b) × (r.from ≢ head.first.from)) rs
        → Path ps e.first e.last head.first rs → Runs now (ends_then (next_at ps e.first)) rs
    runs_then [] all h = ap ends_then h.2
    runs_then (r ∷ rs) all h = (
      record { first = h.1; last = e.last },
      ap ends_then h.2,
      path_same (λ r. (r.block ≡ b) × (r.from ≢ head.first.from)) ps now
          (λ x s holds p. at_rest_of x (apart x s holds (λ z. p.1 (ap (λ (y : Request). y.from) z))))
          h.1 e.last r rs all.0 all.1 h.3,
    )

    abbrev pub list_now : BlockList
    list_now = record { ends = ends_then (next_at ps e.first); asked = set list.asked head.first.from false }

    stands_now : Stands now b list_now head.rest
    stands_now = record {
      runs = runs_then head.rest (each_other b head.first.from head.rest each_is.1 once_is.0) head.path;
      own = each_is.1;
      once = once_is.1;
      nodes = length-set list.asked head.first.from false ∙ stands.nodes;
      asked = λ r. elim (eqb_tells r head.first.from) [
        | inl d ↦ subst (λ z. members (set list.asked head.first.from false) z ≡ waits head.rest z) (sym d.1)
            (get_or-set_same list.asked head.first.from false false (omega (arith, head_node, stands.nodes))
            ∙ sym once_is.0)
        | inr d ↦ (let other : eqb head.first.from r ≡ false = grind (arith, nat_tests, d.1) in
            let step : waits (head.first ∷ head.rest) r ≡ waits head.rest r = rw other refl in
            get_or-set_other list.asked head.first.from r false false d.1 ∙ stands.asked r
            ∙ ap (λ z. waits z r) head.is ∙ step)
      ];
    }

    left : AreEmpty now (Some e.first) (32 - (n - 1))
    left =
        let m : suc (32 - n) ≡ 32 - (n - 1) = omega (arith, some_wait, kept.few) in
        subst (AreEmpty now (Some e.first)) m the_rest
      where
        the_rest : AreEmpty now (Some e.first) (suc (32 - n))
        the_rest = (
          e.first,
          refl,
          omega (arith, head_within, length-set ps e.first emptied),
          ap (λ (z : Slot). z.request) at_first,
          subst (λ z. AreEmpty now z (32 - n)) (sym (ap (λ (z : Slot). z.next) at_first))
              (empty_same ps now (32 - n) (length-set ps e.first emptied)
              (λ x i few d. at_rest_of x (λ z. let bad : None ≡ Some head.first = sym (empty_holds ps x i d)
              ∙ ap (request_at ps) z ∙ head_holds in absurd cc))
              (32 - n) free (omega arith) kept.empty),
        )

    count : length head.rest + n ≡ (n - 1) + length old
    count = omega (arith, ap length head.is, some_wait)

    same : (x : ℕ) (r : Request) → request_at ps x ≡ Some r → r.block ≢ b → place_at now x ≡ place_at ps x
    same x r holds other = at_rest_of x (apart x r holds (λ z. other (ap (λ (y : Request). y.block) z ∙ each_is.0.0)))

    places : length now ≡ 32
    places = length-set ps e.first emptied ∙ kept.places

    after : IsChanged ps now ls (Some e.first) (n - 1) b list_now head.rest
    after = after_change ps now ls free (Some e.first) n (n - 1) b list_now head.rest kept within places
        stands_now count (omega (arith, kept.few)) left same

    pub kept_taken : IsKept now (set ls b list_now) (Some e.first) (n - 1)
    kept_taken = after.kept

    pub first_taken : IsFirstTaken b (all_of ps ls) (all_of now (set ls b list_now)) (Some head.first)
    first_taken = (
      requests_are ps ls free n b kept ∙ head.is ∙ ap (λ z. head.first ∷ z) (sym after.own),
      after.others,
      omega (arith, after.kept.all, kept.all, some_wait),
    )

  -- or none is there
  pub none_there : list.ends ≡ None → requests_for b (all_of ps ls) ≡ []
  none_there ends = requests_are ps ls free n b kept ∙ has_none ps list.ends old stands.runs ends
