use Rattle.std.proofs.Common.{◌≡◌, ◌<◌, ◌-◌, ap, ◌∙◌, sym, false, set, ℕ, [], Some, None, List, Option, arith, length, subst}
use Rattle.std.proofs.lemmas.Grind.{common_steps}
use Rattle.std.proofs.lemmas.List.{set-get_or}
use Rattle.home_directory.specs.declared.directory.Request.{Request}
use Rattle.home_directory.specs.declared.request_lists.ListEnds.{ListEnds}
use Rattle.home_directory.specs.declared.request_lists.BlockList.{BlockList}
use Rattle.home_directory.specs.declared.request_lists.Slot.{Slot}
use Rattle.home_directory.specs.Effects.{requests_for}
use Rattle.home_directory.specs.Lists.{Requests, place_at, list_at, IsKept, IsFirstTaken, all_of}
use Rattle.home_directory.proofs.JoinLeave.{list_found, place_found, head, head_holds, head_within, head_node, some_wait, kept_taken, first_taken, none_there, ends_then}
use Rattle.home_directory.proofs.request_lists.RequestLists.take_first.Goals as goal
use Rattle.home_directory.proofs.request_lists.RequestLists.take_first.Goals.{in-Some-next, in-None-next}

no_list : BlockList
no_list = record { ends = None; asked = [] }

no_place : Slot
no_place = record { request = None; next = None }

pub returns-in-None-clause-first : goal.returns-in-None-clause-first
returns-in-None-clause-first c =
    let w = c.self.inside in
    let block = c.args.block in
    let within : block < length w.lists.items = omega (
      arith,
      c.requires,
      ap (λ (v : Requests). v.blocks) c.self.view_is,
    ) in
    let is : c.index_mut-list.result.now ≡ list_at w.lists.items block =
    list_found w.lists.items block c.index_mut-list.result.now within c.index_mut-list.ensures.value in
    let view : all_of w.places.items w.lists.items ≡ c.args.self.now.requests =
    ap (λ (v : Requests). v.requests) c.self.view_is in
    let stays : set w.lists.items block c.index_mut-list.result.now ≡ w.lists.items =
    ap (set w.lists.items block) is ∙ set-get_or w.lists.items block (record { ends = None; asked = [] }) in (
      ap (requests_for block) (sym view)
          ∙ none_there w.places.items w.lists.items w.empty w.len block c.self.invariant within
          (ap (λ (l : BlockList). l.ends) (sym is) ∙ c.in-None.is),
      ap (all_of w.places.items) stays ∙ view,
    )

pub index_mut-place-requires : goal.index_mut-place-requires
index_mut-place-requires c =
    let w = c.self.inside in
    let block = c.args.block in
    let within : block < length w.lists.items = omega (
      arith,
      c.requires,
      ap (λ (v : Requests). v.blocks) c.self.view_is,
    ) in
    let is : c.index_mut-list.result.now ≡ list_at w.lists.items block =
    list_found w.lists.items block c.index_mut-list.result.now within c.index_mut-list.ensures.value in
    let first = head_within w.places.items w.lists.items w.empty w.len block c.self.invariant within c.in-Some.ends
    (ap (λ (l : BlockList). l.ends) (sym is) ∙ c.in-Some.is) in
    grind (arith, common_steps, first)

pub unreachable-requires : goal.unreachable-requires
unreachable-requires c =
    let w = c.self.inside in
    let block = c.args.block in
    let within : block < length w.lists.items = omega (
      arith,
      c.requires,
      ap (λ (v : Requests). v.blocks) c.self.view_is,
    ) in
    let is : c.index_mut-list.result.now ≡ list_at w.lists.items block =
    list_found w.lists.items block c.index_mut-list.result.now within c.index_mut-list.ensures.value in
    let ends = ap (λ (l : BlockList). l.ends) (sym is) ∙ c.in-Some.is in
    let first = head_within w.places.items w.lists.items w.empty w.len block c.self.invariant within c.in-Some.ends
    ends in
    let there : c.index_mut-place.result.now ≡ place_at w.places.items c.in-Some.ends.first =
    place_found w.places.items c.in-Some.ends.first c.index_mut-place.result.now
    first c.index_mut-place.ensures.value in
    let bad : None ≡ Some (head w.places.items w.lists.items w.empty w.len block c.self.invariant within
    c.in-Some.ends ends).first =
    sym c.in-None-take.is ∙ c.take.ensures.value ∙ ap (λ (p : Slot). p.request) there
    ∙ head_holds w.places.items w.lists.items w.empty w.len block c.self.invariant within c.in-Some.ends ends in
    cc

pub bounds-list-request : goal.bounds-list-request
bounds-list-request c =
    let w = c.self.inside in
    let block = c.args.block in
    let within : block < length w.lists.items = omega (
      arith,
      c.requires,
      ap (λ (v : Requests). v.blocks) c.self.view_is,
    ) in
    let is : c.index_mut-list.result.now ≡ list_at w.lists.items block =
    list_found w.lists.items block c.index_mut-list.result.now within c.index_mut-list.ensures.value in
    let ends = ap (λ (l : BlockList). l.ends) (sym is) ∙ c.in-Some.is in
    let first = head_within w.places.items w.lists.items w.empty w.len block c.self.invariant within c.in-Some.ends
    ends in
    let there : c.index_mut-place.result.now ≡ place_at w.places.items c.in-Some.ends.first =
    place_found w.places.items c.in-Some.ends.first c.index_mut-place.result.now
    first c.index_mut-place.ensures.value in
    let h = head w.places.items w.lists.items w.empty w.len block c.self.invariant within c.in-Some.ends ends in
    let both : Some c.in-Some-take.request ≡ Some h.first =
    sym c.in-Some-take.is ∙ c.take.ensures.value ∙ ap (λ (p : Slot). p.request) there
    ∙ head_holds w.places.items w.lists.items w.empty w.len block c.self.invariant within c.in-Some.ends ends in
    let same : c.in-Some-take.request ≡ h.first = cc in
    let node = head_node w.places.items w.lists.items w.empty w.len block c.self.invariant within c.in-Some.ends ends
    in
    omega (arith, node, ap (λ (q : Request). q.from) same)

pub overflow_sub-self : goal.overflow_sub-self
overflow_sub-self c =
    let w = c.self.inside in
    let block = c.args.block in
    let within : block < length w.lists.items = omega (
      arith,
      c.requires,
      ap (λ (v : Requests). v.blocks) c.self.view_is,
    ) in
    let is : c.index_mut-list.result.now ≡ list_at w.lists.items block =
    list_found w.lists.items block c.index_mut-list.result.now within c.index_mut-list.ensures.value in
    let ends = ap (λ (l : BlockList). l.ends) (sym is) ∙ c.in-Some.is in
    some_wait w.places.items w.lists.items w.empty w.len block c.self.invariant within c.in-Some.ends ends

module _ (c : goal.After-self-5-1) where
  within : c.args.block < length c.self.inside.lists.items
  within = omega (arith, c.requires, ap (λ (v : Requests). v.blocks) c.self.view_is)

  is : c.index_mut-list.result.now ≡ list_at c.self.inside.lists.items c.args.block
  is = list_found c.self.inside.lists.items c.args.block c.index_mut-list.result.now within c.index_mut-list.ensures.value

  ends : (list_at c.self.inside.lists.items c.args.block).ends ≡ Some c.in-Some.ends
  ends = ap (λ (l : BlockList). l.ends) (sym is) ∙ c.in-Some.is

  first : c.in-Some.ends.first < length c.self.inside.places.items
  first = head_within c.self.inside.places.items c.self.inside.lists.items c.self.inside.empty c.self.inside.len
      c.args.block c.self.invariant within c.in-Some.ends ends

  there : c.index_mut-place.result.now ≡ place_at c.self.inside.places.items c.in-Some.ends.first
  there = place_found c.self.inside.places.items c.in-Some.ends.first c.index_mut-place.result.now
      first c.index_mut-place.ensures.value

  abbrev h : Request
  h = (head c.self.inside.places.items c.self.inside.lists.items c.self.inside.empty c.self.inside.len c.args.block
      c.self.invariant within c.in-Some.ends ends).first

  same : h ≡ c.in-Some-take.request
  same =
      let both : Some h ≡ Some c.in-Some-take.request =
      sym (head_holds c.self.inside.places.items c.self.inside.lists.items c.self.inside.empty c.self.inside.len
      c.args.block c.self.invariant within c.in-Some.ends ends)
      ∙ ap (λ (p : Slot). p.request) (sym there) ∙ sym c.take.ensures.value ∙ c.in-Some-take.is in cc

  abbrev then : Option ℕ → Option ListEnds
  then next = ends_then c.self.inside.places.items c.self.inside.lists.items c.self.inside.empty c.self.inside.len
      c.args.block c.self.invariant within c.in-Some.ends ends next

  next_is : then (place_at c.self.inside.places.items c.in-Some.ends.first).next ≡ c.match-next.list
  next_is = elim c.match-next.branch [
    | in-Some-next w ↦ ap then (ap (λ (p : Slot). p.next) (sym there) ∙ w.in-Some-next.is) ∙ sym w.list-is
    | in-None-next w ↦ ap then (ap (λ (p : Slot). p.next) (sym there) ∙ w.in-None-next.is) ∙ sym w.list-is
  ]

  abbrev places_with : Option Request → List Slot
  places_with r = set c.self.inside.places.items c.in-Some.ends.first (record {
    request = r;
    next =
        c.self.inside.empty;
  })

  abbrev lists_with : Option ListEnds → BlockList → Request → List BlockList
  lists_with e l q = set c.self.inside.lists.items c.args.block (record {
    ends = e;
    asked =
        set l.asked q.from false;
  })

  places_are : places_with None ≡ places_with c.take.new.self
  places_are = ap places_with (sym c.take.ensures.after)

  lists_are : lists_with (then (place_at c.self.inside.places.items c.in-Some.ends.first).next)
      (list_at c.self.inside.lists.items c.args.block) h
      ≡ lists_with c.match-next.list c.index_mut-list.result.now c.in-Some-take.request
  lists_are = λ t. lists_with (next_is t) (sym is t) (same t)

  kept : IsKept (places_with c.take.new.self) (lists_with c.match-next.list c.index_mut-list.result.now
      c.in-Some-take.request)
      (Some c.in-Some.ends.first) (c.self.inside.len - 1)
  kept = subst (λ z. IsKept z (lists_with c.match-next.list c.index_mut-list.result.now c.in-Some-take.request)
      (Some c.in-Some.ends.first) (c.self.inside.len - 1)) places_are
      (subst (λ z. IsKept (places_with None) z (Some c.in-Some.ends.first) (c.self.inside.len - 1)) lists_are
      (kept_taken c.self.inside.places.items c.self.inside.lists.items c.self.inside.empty c.self.inside.len
      c.args.block c.self.invariant within c.in-Some.ends ends))

  taken : IsFirstTaken c.args.block c.args.self.now.requests
      (all_of (places_with c.take.new.self) (lists_with c.match-next.list c.index_mut-list.result.now
      c.in-Some-take.request)) (Some c.in-Some-take.request)
  taken = subst (λ (v : Requests). IsFirstTaken c.args.block v.requests
      (all_of (places_with c.take.new.self) (lists_with c.match-next.list c.index_mut-list.result.now
      c.in-Some-take.request)) (Some c.in-Some-take.request)) c.self.view_is
      (subst (λ z. IsFirstTaken c.args.block (all_of c.self.inside.places.items c.self.inside.lists.items)
      (all_of z (lists_with c.match-next.list c.index_mut-list.result.now c.in-Some-take.request))
      (Some c.in-Some-take.request)) places_are
      (subst (λ z. IsFirstTaken c.args.block (all_of c.self.inside.places.items c.self.inside.lists.items)
      (all_of (places_with None) z) (Some c.in-Some-take.request)) lists_are
      (subst (λ z. IsFirstTaken c.args.block (all_of c.self.inside.places.items c.self.inside.lists.items)
      (all_of (places_with None) (lists_with (then (place_at c.self.inside.places.items c.in-Some.ends.first).next)
      (list_at c.self.inside.lists.items c.args.block) h)) (Some z)) same
      (first_taken c.self.inside.places.items c.self.inside.lists.items c.self.inside.empty c.self.inside.len
      c.args.block c.self.invariant within c.in-Some.ends ends))))

pub invariant_of-self-2 : goal.invariant_of-self-2
invariant_of-self-2 c = kept c

pub returns-clause-first : goal.returns-clause-first
returns-clause-first c = taken c
