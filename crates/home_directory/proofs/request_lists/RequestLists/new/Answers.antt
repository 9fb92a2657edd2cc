use Rattle.std.proofs.Common.{◌≡◌, ◌+◌, [], ◌∷◌, length, replicate, None, Some, false, subst, sym, ap, ◌∙◌, refl, arith, length-append}
use Rattle.std.proofs.lemmas.Grind.{common_steps}
use Rattle.std.proofs.lemmas.List.{length-replicate}
use Rattle.home_directory.specs.declared.request_lists.BlockList.{BlockList}
use Rattle.home_directory.specs.declared.request_lists.Slot.{Slot}
use Rattle.home_directory.specs.Lists.{AreEmpty, IsKept, all_of}
use Rattle.home_directory.proofs.Lists.{empty_grows, kept_start, all_start}
use Rattle.home_directory.proofs.request_lists.RequestLists.new.Goals as goal

pub loop-place-preserved : goal.loop-place-preserved
loop-place-preserved c =
    let p : Slot = record { request = None; next = c.loop-place.empty } in record {
      len = omega (
        arith,
        c.loop-place.invariant.len,
        ap length c.push_reserved.ensures.items,
        length-append c.loop-place.places.items (p ∷ []),
      );
      empty = subst (λ z. AreEmpty z (Some c.loop-place.place) (c.loop-place.place + 1))
          (sym c.push_reserved.ensures.items)
          (empty_grows c.loop-place.places.items c.loop-place.empty c.loop-place.place c.loop-place.invariant.len
          c.loop-place.invariant.empty);
    }

abbrev first : BlockList
first = record { ends = None; asked = replicate 16 false }

pub invariant_of-result : goal.invariant_of-result
invariant_of-result c =
    let items : c.resize.new.self.items ≡ replicate c.args.blocks first =
    grind (arith, common_steps, c.in_ok-resize.ensures.items, c.new-lists.ensures.items) in
    let end : c.loop-place.place ≡ 32 = omega (arith, c.loop-place-test.false, c.loop-place.auto.place-end) in
    subst (λ z. IsKept c.loop-place.places.items z c.loop-place.empty 0) (sym items)
    (kept_start c.loop-place.places.items c.loop-place.empty c.args.blocks
    (omega (arith, end, c.loop-place.invariant.len))
    (subst (AreEmpty c.loop-place.places.items c.loop-place.empty) end c.loop-place.invariant.empty))

pub returns : goal.returns
returns c =
    let items : c.resize.new.self.items ≡ replicate c.args.blocks first =
    grind (arith, common_steps, c.in_ok-resize.ensures.items, c.new-lists.ensures.items) in
    λ t. record {
      blocks = (ap length items ∙ length-replicate c.args.blocks first) t;
      requests = (ap (all_of c.loop-place.places.items) items
          ∙ all_start c.loop-place.places.items c.args.blocks first refl) t;
    }
