-- The buffers of a core are each in one place, as those of the nodes and lists that it shows.
use Rattle.std.proofs.Common.{◌≡◌, ℕ, zero, suc, ◌<◌, List, ap, arith, refl}
use Rattle.std.specs.Prelude.{is_some}
use Rattle.block_layout.specs.Layout.{Shape, IsValid, blocks, home}
use Rattle.rv32_program.specs.Program.{IsAccepted}
use Rattle.rewriting_law.specs.templates.declared.plans.PlanEntry.{PlanEntry}
use Rattle.node_machine.specs.jump_map.Image.{IsRewriting}
use Rattle.rewriting_law.specs.dsm_messages.declared.messages.Wire.{Wire}
use Rattle.run_order.specs.node_model.Node.{Work, Node, IsLaidOver}
use Rattle.run_order.specs.node_model.Core.{Core, Event, IsCoreRun, opening_core, after, AreAlike}
use Rattle.coherence.specs.Table.{sum_below}
use Rattle.coherence.specs.Claims.{one_if}
use Rattle.rewriting_law.specs.dsm_protocol.World.{World}
use Rattle.rewriting_law.specs.dsm_protocol.Holds.{Holds}
use Rattle.rewriting_law.specs.dsm_protocol.Buffers.{carrying, asked_by, is_answered, AreInOnePlace}
use Rattle.rewriting_law.specs.ProtocolLists.{messages_of, world_shown, HasProtocolList}
use Rattle.rewriting_law.specs.Interleaving.{original_after}
use Rattle.dsm_core.specs.CoreParts.{CoreParts, work_of, core_of, IsCore}

sums_same : (f g : ℕ → ℕ) (n : ℕ) → ((x : ℕ) → x < n → f x ≡ g x) → sum_below f n ≡ sum_below g n
sums_same f g zero h = refl
sums_same f g (suc n) h =
    let a = h n (omega arith) in
    let b = sums_same f g n (λ x low. h x (omega (arith, low))) in
    omega (arith, a, b)

-- cores that are alike have their buffers in as many places
places_alike : (l : Shape) (c d : Core) → AreAlike l.nodes c d
    → ((b : ℕ) → b < blocks l → home l b < l.nodes)
    → AreInOnePlace l (world_shown l d) → AreInOnePlace l (world_shown l c)
places_alike l c d alike homes law r b node low =
    let lists : sum_below (λ j. sum_below (λ i. carrying r b j i (messages_of (c.list j i))) l.nodes) l.nodes
    ≡ sum_below (λ j. sum_below (λ i. carrying r b j i (messages_of (d.list j i))) l.nodes) l.nodes =
    sums_same (λ j. sum_below (λ i. carrying r b j i (messages_of (c.list j i))) l.nodes)
    (λ j. sum_below (λ i. carrying r b j i (messages_of (d.list j i))) l.nodes) l.nodes
    (λ j lj. sums_same (λ i. carrying r b j i (messages_of (c.list j i)))
    (λ i. carrying r b j i (messages_of (d.list j i))) l.nodes
    (λ i li. ap (λ (ws : List Wire). carrying r b j i (messages_of ws)) (alike.lists j i lj li))) in
    let waiting : asked_by r ((c.nodes (home l b)).waiting b) ≡ asked_by r ((d.nodes (home l b)).waiting b) =
    ap (λ (n : Node). asked_by r (n.waiting b)) (alike.nodes (home l b) (homes b low)) in
    let answered : one_if (is_answered ((c.nodes r).wait b)) ≡ one_if (is_answered ((d.nodes r).wait b)) =
    ap (λ (n : Node). one_if (is_answered (n.wait b))) (alike.nodes r node) in
    let waits : one_if (is_some ((c.nodes r).wait b)) ≡ one_if (is_some ((d.nodes r).wait b)) =
    ap (λ (n : Node). one_if (is_some (n.wait b))) (alike.nodes r node) in
    let all = law r b node low in
    omega (arith, lists, waiting, answered, waits, all)

abbrev pub HomesAreNodes : Type 0
HomesAreNodes = (s : Shape) (b : ℕ) → IsValid s → b < blocks s → home s b < s.nodes

abbrev pub HaveBuffers : Type 0
HaveBuffers = (l : Shape) (w : World) (memory : ℕ → ℕ) → IsValid l → Holds l w memory
    → AreInOnePlace l w

abbrev pub HaveLists : Type 0
HaveLists = (work : Work) (plan : List PlanEntry) (events : List Event)
    → IsAccepted work.program → IsValid work.layout → IsLaidOver work.program work.layout
    → IsRewriting work.program plan work.image → IsCoreRun work (opening_core work) events
    → HasProtocolList work (after work (opening_core work) events)
    (original_after work plan events).shared

pub in_one_place : (p : CoreParts) → HomesAreNodes → HaveBuffers → HaveLists → IsCore p
    → AreInOnePlace p.layout (world_shown p.layout (core_of p))
in_one_place p homes buffers lists is =
    let work = work_of p in
    let r = is.are_parts.rewritten in
    let l = is.led_to in
    let last = after work (opening_core work) l.run in
    let shown = lists work r.plan l.run r.accepted r.valid r.laid_over r.rewriting l.is_run in
    places_alike p.layout (core_of p) last l.leads (λ b low. homes p.layout b r.valid low)
    (buffers p.layout (world_shown p.layout last)
    (original_after work r.plan l.run).shared r.valid shown.holds)
