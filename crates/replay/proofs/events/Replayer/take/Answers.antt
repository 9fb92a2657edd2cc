-- A take, or why it can't be made.
use Rattle.std.proofs.Common.{ℕ, ◌+◌, refl, ap, sym, ◌∙◌}
use Rattle.run_order.specs.node_model.Node.{Node}
use Rattle.dsm_core.specs.declared.seen.Seen.{Seen}
use Rattle.dsm_core.specs.CoreParts.{work_of, core_of}
use Rattle.replay.specs.declared.events.Replayer.{Replayer}
use Rattle.replay.specs.declared.refused.ReplayRule.{ReplayRule}
use Rattle.replay.specs.declared.refused.ReplayRule.TheVariants.{NoMessage, NotThere, Stamp}
use Rattle.replay.specs.Refusals.{IsFirstBroken}
use Rattle.replay.specs.Way.{cursor_at}
use Rattle.replay.proofs.Runs.{run_take, made_take, take_lacks, take_refused, stamp_refused, err_same, no_wire, not_true, from_below}
use Rattle.replay.proofs.Cursors.{take_next}
use Rattle.replay.proofs.events.Replayer.take.Goals as goal

pub returns-then-not-has_wire-clause-refused : goal.returns-then-not-has_wire-clause-refused
returns-then-not-has_wire-clause-refused c = λ rule i number err.
    let a = c.args.self.now in
    let r = c.requires in
    let e = c.args.entry in
    let none = no_wire ((core_of a.core).list e.from c.args.node) c.has_wire.result
    c.has_wire.ensures.value.1 c.if-not-has_wire.true in
    let P : ReplayRule → ℕ → ℕ → Type 0 =
    λ x j n. IsFirstBroken (work_of a.core) a.cursors.rec.now x j n in
    err_same Seen P c.broken.result NoMessage rule c.args.node i
    ((cursor_at a.cursors c.args.node).takes + 1) number c.broken.ensures.value err
    (take_lacks a c.args.node e r.running r.node r.entry r.words r.first
    (from_below a c.args.node e r.running r.node r.entry) none)

pub returns-then-not-enabled-clause-refused : goal.returns-then-not-enabled-clause-refused
returns-then-not-enabled-clause-refused c = λ rule i number err.
    let a = c.args.self.now in
    let r = c.requires in
    let e = c.args.entry in
    let P : ReplayRule → ℕ → ℕ → Type 0 =
    λ x j n. IsFirstBroken (work_of a.core) a.cursors.rec.now x j n in
    err_same Seen P c.broken-then-not-enabled.result NotThere rule c.args.node i
    ((cursor_at a.cursors c.args.node).takes + 1) number c.broken-then-not-enabled.ensures.value err
    (take_refused a c.args.node e r.running r.node r.entry r.words r.first
    (from_below a c.args.node e r.running r.node r.entry)
    (c.has_wire.ensures.value.0 c.if-not-has_wire.false)
    (λ may. not_true c.enabled.result (c.enabled.ensures.value.1 may) c.if-not-enabled.true))

pub returns-then-stamp-entry-clause-refused : goal.returns-then-stamp-entry-clause-refused
returns-then-stamp-entry-clause-refused c = λ rule i number err.
    let a = c.args.self.now in
    let r = c.requires in
    let e = c.args.entry in
    let P : ReplayRule → ℕ → ℕ → Type 0 =
    λ x j n. IsFirstBroken (work_of a.core) a.cursors.rec.now x j n in
    err_same Seen P c.broken-then-stamp-entry.result Stamp rule c.args.node i
    ((cursor_at a.cursors c.args.node).takes + 1) number c.broken-then-stamp-entry.ensures.value err
    (stamp_refused a (core_of c.step_seen.new.self) c.args.node e r.running r.node r.entry r.words
    r.first (c.enabled.ensures.value.0 c.if-not-enabled.false) c.in_ok-seen.ensures.event
    (λ same. c.if-stamp-entry.true (c.stamp.ensures.value
    ∙ ap (λ (n : Node). n.stamp) c.node.ensures.value ∙ same)))

pub returns-clause-running : goal.returns-clause-running
returns-clause-running c =
    let a = c.args.self.now in
    let b : Replayer = record { core = c.step_seen.new.self; cursors = c.follow_take.new.self } in
    let r = c.requires in
    let made = c.in_ok-seen.ensures in
    run_take a b c.args.node c.args.entry r.running r.node r.entry r.words r.first
    (c.enabled.ensures.value.0 c.if-not-enabled.false) made.event
    (ap (λ (n : Node). n.stamp) (sym c.node.ensures.value) ∙ sym c.stamp.ensures.value
    ∙ c.if-stamp-entry.false) made.work c.follow_take.ensures.followed

pub returns-clause-made : goal.returns-clause-made
returns-clause-made c = λ before h.
    let a = c.args.self.now in
    let b : Replayer = record { core = c.step_seen.new.self; cursors = c.follow_take.new.self } in
    let r = c.requires in
    let made = c.in_ok-seen.ensures in
    let stamp = ap (λ (n : Node). n.stamp) (sym c.node.ensures.value) ∙ sym c.stamp.ensures.value
    ∙ c.if-stamp-entry.false in
    record {
      told = take_next a.cursors c.args.node c.args.entry;
      event_is = refl;
      made = made_take a b before c.args.node c.args.entry h r.node r.entry r.words r.first
          (c.enabled.ensures.value.0 c.if-not-enabled.false) made.event stamp made.work
          c.follow_take.ensures.followed;
      may = c.enabled.ensures.value.0 c.if-not-enabled.false;
      stamp = stamp;
      leads = made.event;
      seen = made.seen;
    }
