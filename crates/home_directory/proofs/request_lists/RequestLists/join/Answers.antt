use Rattle.std.proofs.Common.{◌≡◌, ◌<◌, ap, ◌∙◌, sym, true, false, set, ℕ, Some, None, List, arith, length, refl, subst}
use Rattle.std.proofs.lemmas.Grind.{common_steps}
use Rattle.std.proofs.lemmas.List.{get_or_default, length-set}
use Rattle.home_directory.specs.declared.request_lists.BlockList.{BlockList}
use Rattle.home_directory.specs.declared.request_lists.Slot.{Slot}
use Rattle.home_directory.specs.Home.{waits}
use Rattle.home_directory.specs.Effects.{requests_for}
use Rattle.home_directory.specs.Lists.{Requests, place_at, list_at, HasJoined, all_of}
use Rattle.home_directory.proofs.JoinLeave.{list_found, place_found, IsJoined, place_within, last_within, joins_none, joins_some}
use Rattle.home_directory.proofs.request_lists.RequestLists.join.Goals as goal
use Rattle.home_directory.proofs.request_lists.RequestLists.join.Goals.{in-None-ends, in-Some-ends}

pub index_mut-requires : goal.index_mut-requires
index_mut-requires c =
    let w = c.self.inside in
    let block = c.args.request.block in
    let within : block < length w.lists.items =
    omega (arith, c.requires.block, ap (λ (v : Requests). v.blocks) c.self.view_is) in
    let room : w.len < 32 = omega (
      arith,
      c.requires.room,
      ap (λ (v : Requests). length v.requests) c.self.view_is,
      c.self.invariant.all,
    ) in
    let once : waits (requests_for block (all_of w.places.items w.lists.items)) c.args.request.from ≡ false =
    ap (λ (v : Requests). waits (requests_for block v.requests) c.args.request.from) c.self.view_is
    ∙ c.requires.once in
    let list_is : c.index_mut-list.result.now ≡ list_at w.lists.items block =
    list_found w.lists.items block c.index_mut-list.result.now within c.index_mut-list.ensures.value in
    let last = last_within w.places.items w.lists.items w.empty w.len block c.self.invariant within
    c.in-Some.number c.in-Some.is room c.args.request refl c.requires.node once c.in-Some-ends.ends
    (ap (λ (l : BlockList). l.ends) (sym list_is) ∙ c.in-Some-ends.is) in
    grind (arith, common_steps, last)

module _ (c : goal.After-self-4-1) where
  within : c.args.request.block < length c.self.inside.lists.items
  within = omega (arith, c.requires.block, ap (λ (v : Requests). v.blocks) c.self.view_is)

  room : c.self.inside.len < 32
  room = omega (arith, c.requires.room, ap (λ (v : Requests). length v.requests) c.self.view_is, c.self.invariant.all)

  once : waits (requests_for c.args.request.block (all_of c.self.inside.places.items c.self.inside.lists.items))
      c.args.request.from ≡ false
  once = ap (λ (v : Requests). waits (requests_for c.args.request.block v.requests) c.args.request.from) c.self.view_is
      ∙ c.requires.once

  list_is : c.index_mut-list.result.now ≡ list_at c.self.inside.lists.items c.args.request.block
  list_is = list_found c.self.inside.lists.items c.args.request.block c.index_mut-list.result.now within c.index_mut-list.ensures.value

  place_is : c.index_mut-place.result.now ≡ place_at c.self.inside.places.items c.in-Some.number
  place_is = place_found c.self.inside.places.items c.in-Some.number c.index_mut-place.result.now
      (place_within c.self.inside.places.items c.self.inside.lists.items c.self.inside.empty c.self.inside.len
      c.args.request.block
      c.self.invariant within c.in-Some.number c.in-Some.is room) c.index_mut-place.ensures.value

  abbrev After : List Slot → ℕ → BlockList → Slot → Type 0
  After now first l p = IsJoined c.self.inside.places.items c.self.inside.lists.items c.self.inside.len
      c.args.request.block
      c.args.request now
      (record {
        ends = Some (record { first = first; last = c.in-Some.number });
        asked = set l.asked c.args.request.from true;
      }) p.next

  with : (now : List Slot) (first : ℕ) → After now first (list_at c.self.inside.lists.items c.args.request.block)
      (place_at c.self.inside.places.items c.in-Some.number)
      → After now first c.index_mut-list.result.now c.index_mut-place.result.now
  with now first h = subst (λ l. After now first l c.index_mut-place.result.now) (sym list_is)
      (subst (λ p. After now first (list_at c.self.inside.lists.items c.args.request.block) p) (sym place_is) h)

  both : After c.match-list.self-inside.1.0.items c.match-list.first c.index_mut-list.result.now
      c.index_mut-place.result.now
  both = elim c.match-list.branch [
    | in-None-ends w ↦ subst (λ z. After z.1.0.items c.match-list.first c.index_mut-list.result.now
        c.index_mut-place.result.now) (sym w.self-inside-is)
        (subst (λ z. After (set c.self.inside.places.items c.in-Some.number (record {
          request =
              Some c.args.request;
          next = None;
        })) z c.index_mut-list.result.now c.index_mut-place.result.now)
        (sym w.first-is)
        (with (set c.self.inside.places.items c.in-Some.number (record {
          request = Some c.args.request;
          next =
              None;
        })) c.in-Some.number
        (joins_none c.self.inside.places.items c.self.inside.lists.items c.self.inside.empty c.self.inside.len
        c.args.request.block
        c.self.invariant within c.in-Some.number c.in-Some.is room c.args.request refl c.requires.node once
        (ap (λ (l : BlockList). l.ends) (sym list_is) ∙ w.in-None-ends.is))))
    | in-Some-ends w ↦ (
        let ends = ap (λ (l : BlockList). l.ends) (sym list_is) ∙ w.in-Some-ends.is in
        let e = w.in-Some-ends.ends in
        let last = last_within c.self.inside.places.items c.self.inside.lists.items c.self.inside.empty
        c.self.inside.len c.args.request.block
        c.self.invariant within c.in-Some.number c.in-Some.is room c.args.request refl c.requires.node once e ends in
        let ps1 = set c.self.inside.places.items c.in-Some.number (record {
          request = Some c.args.request;
          next =
              None;
        }) in
        let found : w.index_mut.result.now ≡ place_at ps1 e.last =
        w.index_mut.ensures.value ∙ get_or_default ps1 e.last w.index_mut.result.now (record {
          request = None;
          next =
              None;
        })
        (omega (
          arith,
          last,
          length-set c.self.inside.places.items c.in-Some.number (record {
            request =
                Some c.args.request;
            next = None;
          }),
        )) in
        let linked : Slot → List Slot = λ p. set ps1 e.last (record {
          request = p.request;
          next =
              Some c.in-Some.number;
        }) in
        subst (λ z. After z.1.0.items c.match-list.first c.index_mut-list.result.now c.index_mut-place.result.now)
        (sym w.self-inside-is)
        (subst (λ z. After (linked w.index_mut.result.now) z c.index_mut-list.result.now
        c.index_mut-place.result.now) (sym w.first-is)
        (subst (λ p. After (linked p) e.first c.index_mut-list.result.now c.index_mut-place.result.now) (sym found)
        (with (linked (place_at ps1 e.last)) e.first
        (joins_some c.self.inside.places.items c.self.inside.lists.items c.self.inside.empty c.self.inside.len
        c.args.request.block
        c.self.invariant within c.in-Some.number c.in-Some.is room c.args.request refl c.requires.node once e
        ends)))))
  ]

pub invariant_of-self : goal.invariant_of-self
invariant_of-self c = (both c).kept

pub returns-clause-joined : goal.returns-clause-joined
returns-clause-joined c =
    subst (λ (v : Requests). HasJoined v.requests (all_of
    c.match-list.self-inside.1.0.items
    (set c.self.inside.lists.items c.args.request.block (record {
      ends = Some (record { first = c.match-list.first; last = c.in-Some.number });
      asked = set c.index_mut-list.result.now.asked c.args.request.from true;
    }))) c.args.request) c.self.view_is (both c).joined
