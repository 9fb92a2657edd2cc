-- By the lemmas on lanes that go on, one after another.
use Rattle.std.proofs.Common.{◌≡◌, ℕ, ◌+◌, ◌<◌, ◌^◌, ◌∙◌, ap, sym, subst, cond, true, false, refl, length, get_or, arith}
use Rattle.node_machine.specs.node_words.node_memory.Shelf.{Shelf, local_of}
use Rattle.lane_model.specs.node_model.Node.{Node, counts_after}
use Rattle.lane_model.specs.node_model.Turns.{is_ended}
use Rattle.node_machine.specs.NodeState.{AreCountsBelow}
use Rattle.node_machine.proofs.NodeStateLemmas.{counts_up}
use Rattle.lane_model.specs.Nodes.{LaneNode}
use Rattle.lane_model.specs.Turns.{counted, still, tally_on}
use Rattle.lane_machine.specs.Waits.{wait_among, waits_in}
use Rattle.lane_machine.specs.declared.stored.StoredLane.{StoredLane}
use Rattle.lane_machine.specs.Stored.{part_of, HasGoneOn, HaveParts}
use Rattle.lane_machine.proofs.LanesLemmas.{any_default, some_node, here_is, count_then, left_then, done_then, ended_then, counted_then, counted_below}
use Rattle.lane_machine.proofs.taking.resume_lanes.Goals as goal
use Rattle.lane_machine.proofs.taking.resume_lanes.Goals.{then-has_ended, else-has_ended}

pub resume_if_served-requires : goal.resume_if_served-requires
resume_if_served-requires c =
    let low = c.loop-k-test.true in
    let few = c.requires.few in
    let end = c.loop-k.auto.k-end in
    record {
      counts = counts_up (2 ^ 62 + c.loop-k.k) (2 ^ 63) c.loop-k.body.counts (omega (arith, low, few, end))
          (c.loop-k.invariant.below (2 ^ 62) c.requires.counts);
    }

pub returns-clause-below : goal.returns-clause-below
returns-clause-below c most below =
    let few = c.requires.few in
    let end = c.loop-k.auto.k-end in
    counts_up (most + c.loop-k.k) (most + 4) c.loop-k.body.counts (omega (arith, few, end)) (c.loop-k.invariant.below most below)

pub loop-k-preserved : goal.loop-k-preserved
loop-k-preserved c =
    let b0 = c.args.body.now in
    let b = c.loop-k.body in
    let b' = c.resume_if_served.new.body in
    let state = (local_of b0.local).state in
    let wait = wait_among (waits_in c.args.places.now) in
    let ls0 = c.args.lanes.now in
    let ls = c.loop-k.lanes in
    let k = c.loop-k.k in
    let h = c.loop-k.invariant in
    let p = get_or ls k c.index-lanes-k.result in
    let m = c.resume_if_served.new.self in
    let low : k < length ls =
    let test = c.loop-k-test.true in
    let count = h.count in
    omega (arith, test, count) in
    let at : p ≡ get_or ls k p = any_default ls k c.index-lanes-k.result p low in
    let state_is : (local_of b.local).state ≡ state = ap (λ (s : Shelf). (local_of s).state) h.local in
    let gone : HasGoneOn state wait p m = subst (λ (s : ℕ → ℕ). HasGoneOn s wait p m) state_is c.resume_if_served.ensures.gone in
    let node = some_node b wait in
    let one : b'.counts ≡ counts_after (tally_on node.local (part_of p) (part_of p).phase (still node.wait (part_of p).awaits)) b.counts =
    c.resume_if_served.ensures.counts node refl refl in
    let last : c.has_ended.result ≡ is_ended (part_of m).phase = c.has_ended.ensures
    ∙ ap (λ (l : StoredLane). is_ended (part_of l).phase)
    (here_is state wait ls0 ls k p m at low h.count h.left c.index-lanes-k-in-loop-k.result) in
    let count : (n : Node) (x : LaneNode) → n.wait ≡ wait → n.local.state ≡ state → n.counts ≡ b0.counts → HaveParts ls0 x
    → b'.counts ≡ counted n x.lanes (k + 1) =
    λ n x w s e parts. counted_then state wait ls0 ls k p m at low h.count h.left n x b.counts b'.counts parts (h.counts n x w s e parts)
    (c.resume_if_served.ensures.counts n w (s ∙ sym state_is)) in
    let below : (most : ℕ) → AreCountsBelow most b0.counts → AreCountsBelow (most + (k + 1)) b'.counts =
    λ most old. counted_below node p b.counts b'.counts most k one (h.below most old) in
    let few = h.few in
    elim c.if-has_ended.branch [
      | then-has_ended w ↦ (
          let is : is_ended (part_of m).phase ≡ true = sym last ∙ w.if-has_ended.true in
          rw w.ended-is (record {
            count = count_then state wait ls0 ls k p m at low h.count h.left;
            done = done_then state wait ls0 ls k p m at low h.count h.left gone h.done;
            left = left_then state wait ls0 ls k p m at low h.count h.left;
            counts = count;
            below = below;
            ended = λ x parts. ap (λ t. cond t (c.loop-k.ended + 1) c.loop-k.ended) (sym is)
                ∙ ended_then state wait ls0 ls k p m at low h.count h.left x c.loop-k.ended h.ended parts;
            few = omega (arith, few);
            lane = c.resume_if_served.ensures.lane ∙ h.lane;
            local = c.resume_if_served.ensures.local ∙ h.local;
          }))
      | else-has_ended w ↦ (
          let is : is_ended (part_of m).phase ≡ false = sym last ∙ w.if-has_ended.false in
          rw w.ended-is (record {
            count = count_then state wait ls0 ls k p m at low h.count h.left;
            done = done_then state wait ls0 ls k p m at low h.count h.left gone h.done;
            left = left_then state wait ls0 ls k p m at low h.count h.left;
            counts = count;
            below = below;
            ended = λ x parts. ap (λ t. cond t (c.loop-k.ended + 1) c.loop-k.ended) (sym is)
                ∙ ended_then state wait ls0 ls k p m at low h.count h.left x c.loop-k.ended h.ended parts;
            few = omega (arith, few);
            lane = c.resume_if_served.ensures.lane ∙ h.lane;
            local = c.resume_if_served.ensures.local ∙ h.local;
          }))
    ]
