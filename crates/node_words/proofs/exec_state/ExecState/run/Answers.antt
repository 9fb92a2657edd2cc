use Rattle.std.proofs.Common.{rules, ◌≡◌, ℕ, ◌+◌, ◌-◌, ◌∙◌, Bool, false, List, ap, arith, refl, subst, sym}
use Rattle.node_memory.specs.exec_map.Contents.{program_of}
use Rattle.node_memory.specs.node_model.Node.{next_outcome}
use Rattle.node_memory.specs.jump_map.Image.{Cell}
use Rattle.node_words.specs.Address.{word_address}
use Rattle.node_words.specs.declared.exec_state.ExecState.{ExecState}
use Rattle.node_words.specs.declared.strides.Going.{Going}
use Rattle.node_words.specs.GoingOn.{BodyGoesOn, GoesFurther}
use Rattle.node_memory.specs.Shelf.{ground_of, local_of}
use Rattle.node_words.specs.Kept.{Follows, lane_of}
use Rattle.node_words.specs.Strides.{IsTried, StridesBy, Trail}
use Rattle.node_words.specs.Trails.{trail_of}
use Rattle.node_words.proofs.UndoLogLemmas.{undoable_both, undoable_same}
use Rattle.node_words.proofs.WordLemmas.{body_starts, goes_both, goes_by, goes_none, goes_one}
use Rattle.node_words.proofs.exec_state.ExecState.run.Goals as goal

-- where no stride was done, and the word was executed apart
apart : (image : List Cell) (t : Trail) (next : ℕ) (from mid to : Going) (b m b' : ExecState) (done : Bool)
    → done ≡ false → IsTried done (StridesBy image t from b mid m) from b mid m → to.at ≡ next
    → Follows image (next_outcome (program_of m.local.program) image (lane_of m.lane (word_address from.at))
    (local_of m.local)) (ground_of m.local) (word_address next) b'.lane b'.local
    → (words : ℕ) → GoesFurther image b from.at words b' to.at (words + 1)
apart image t next from mid to b m b' done none tried at steps words =
    let stays = subst (λ (r : Bool). IsTried r (StridesBy image t from b mid m) from b mid m) none tried in
    let outcome = next_outcome (program_of m.local.program) image (lane_of m.lane (word_address from.at)) (local_of m.local) in
    let follows = subst (λ (k : ℕ). Follows image outcome (ground_of m.local) (word_address k) b'.lane b'.local) (sym at) steps in
    goes_both image from.at words from.at words to.at (words + 1) b m b'
    (goes_none image from.at words b m stays.lane stays.local) (goes_one image from.at words to.at m b' follows)

pub loop-going-init : goal.loop-going-init
loop-going-init c =
    let b = c.args.self.now in
    let budget = c.min-budget.result in
    let none : 0 ≡ budget - budget = omega arith in
    record {
      words = subst (λ (n : ℕ). BodyGoesOn c.args.image.now c.args.most c.args.from b n c.args.from b) none
          (body_starts c.args.image.now c.args.most c.args.from b);
      left = omega arith;
      low = c.ranges.from.fits;
      inside = search rules;
      ground = refl;
      counts = refl;
      undoable = undoable_same b;
    }

pub loop-going-smaller : goal.loop-going-smaller
loop-going-smaller c =
    let b = c.loop-going.self in
    let from = c.loop-going.going in
    let to = c.stride.new.going in
    let b' = c.stride.new.self in
    let done = subst (λ (r : Bool). IsTried r (StridesBy c.args.image.now (trail_of c.stride_at-kind.result from.at) from b to b') from b to b') c.if-not-stride.false
    c.stride.ensures.tried in
    let some = done.some in
    omega (arith, some)

pub loop-going-preserved : goal.loop-going-preserved
loop-going-preserved c =
    let image = c.args.image.now in
    let most = c.args.most in
    let budget = c.min-budget.result in
    let fits = c.min-budget.ensures in
    let i = c.loop-going.invariant in
    let from = c.loop-going.going in
    let b = c.loop-going.self in
    let to = c.stride.new.going in
    let b' = c.stride.new.self in
    let done = subst (λ (r : Bool). IsTried r (StridesBy image (trail_of c.stride_at-kind.result from.at) from b to b') from b to b') c.if-not-stride.false
    c.stride.ensures.tried in
    let some = done.some in
    let left = i.left in
    record {
      words = goes_by image most c.args.from (budget - from.left) from.at from.at to.at to.at (from.left - to.left)
          (budget - to.left) c.args.self.now b b' refl refl (omega (arith, some, left)) (omega (arith, fits)) done.goes
          i.ground i.words;
      left = omega (arith, some, left);
      low = done.low;
      inside = search rules;
      ground = (done.goes 0).ground_same ∙ i.ground;
      counts = c.stride.ensures.counts ∙ i.counts;
      undoable = undoable_both c.args.self.now b b' i.undoable c.stride.ensures.undoable;
    }

pub loop-going-preserved-else-going-strides-2 : goal.loop-going-preserved-else-going-strides-2
loop-going-preserved-else-going-strides-2 c =
    let budget = c.min-budget.result in
    let fits = c.min-budget.ensures in
    let i = c.loop-going.invariant in
    let from = c.loop-going.going in
    let b = c.loop-going.self in
    let m = c.stride.new.self in
    let b' = c.step_apart.new.self in
    let to = c.to.new.self in
    let goes = apart c.args.image.now _ _ from c.stride.new.going to b m b' _ c.if-not-stride.true c.stride.ensures.tried
    c.to.ensures.at c.in-Some.ensures.steps in
    let some = c.to.ensures.left in
    let left = i.left in
    record {
      words = goes_by c.args.image.now c.args.most c.args.from (budget - from.left) from.at from.at to.at to.at 1
          (budget - to.left) c.args.self.now b b' refl refl (omega (arith, some, left)) (omega (arith, fits)) goes
          i.ground i.words;
      left = omega (arith, some, left);
      low = c.to.ensures.low;
      inside = search rules;
      ground = (goes 0).ground_same ∙ i.ground;
      counts = c.step_apart.ensures.counts ∙ c.stride.ensures.counts ∙ i.counts;
      undoable = undoable_both c.args.self.now m b' (undoable_both c.args.self.now b m i.undoable c.stride.ensures.undoable)
          c.step_apart.ensures.undoable;
    }

pub returns-then-going-strides-2-clause-words : goal.returns-then-going-strides-2-clause-words
returns-then-going-strides-2-clause-words c =
    let budget = c.min-budget.result in
    let fits = c.min-budget.ensures in
    let i = c.loop-going.invariant in
    let from = c.loop-going.going in
    let b = c.loop-going.self in
    let b' = c.step_apart.new.self in
    let to = c.to.new.self in
    let goes = apart c.args.image.now _ _ from c.stride.new.going to b c.stride.new.self b' _ c.if-not-stride.true
    c.stride.ensures.tried c.to.ensures.at c.in-Some.ensures.steps in
    let some = c.to.ensures.left in
    let left = i.left in
    let rest = c.run_rest-then-going-strides-2.ensures in
    let few = rest.most in
    rest.goes.goes c.args.most c.args.from c.args.self.now (omega (arith, few, fits))
    ((goes 0).ground_same ∙ i.ground)
    (goes_by c.args.image.now c.args.most c.args.from (budget - from.left) from.at from.at to.at to.at 1
    (budget - to.left) c.args.self.now b b' refl refl (omega (arith, some, left)) (omega (arith, fits)) goes
    i.ground i.words)

pub returns-then-going-strides-2-clause-undoable : goal.returns-then-going-strides-2-clause-undoable
returns-then-going-strides-2-clause-undoable c =
    let first = c.args.self.now in
    let m = c.stride.new.self in
    let b' = c.step_apart.new.self in
    undoable_both first b' c.run_rest-then-going-strides-2.new.self (undoable_both first m b'
    (undoable_both first c.loop-going.self m c.loop-going.invariant.undoable c.stride.ensures.undoable)
    c.step_apart.ensures.undoable) c.run_rest-then-going-strides-2.ensures.undoable

pub returns-clause-words : goal.returns-clause-words
returns-clause-words c =
    let rest = c.run_rest-2.ensures in
    let fits = c.min-budget.ensures in
    let few = rest.most in
    rest.goes.goes c.args.most c.args.from c.args.self.now (omega (arith, few, fits)) c.loop-going.invariant.ground
    c.loop-going.invariant.words

pub returns-clause-ground : goal.returns-clause-ground
returns-clause-ground c = c.run_rest-2.ensures.goes.ground_same ∙ c.loop-going.invariant.ground

pub returns-in-None-clause-words : goal.returns-in-None-clause-words
returns-in-None-clause-words c =
    let image = c.args.image.now in
    let fits = c.min-budget.ensures in
    let l = c.loop-going in
    let b = l.self in
    let mid = c.stride.new.going in
    let m = c.stride.new.self in
    let b' = c.step_apart.new.self in
    let stays = subst (λ (r : Bool). IsTried r (StridesBy image (trail_of c.stride_at-kind.result l.going.at) l.going b mid m) l.going b mid m) c.if-not-stride.true
    c.stride.ensures.tried in
    let steps = c.in-None.ensures.steps in
    (goes_none image l.going.at (c.min-budget.result - l.going.left) b b' (steps.0 ∙ stays.lane) (steps.1 ∙ stays.local)).goes
    c.args.most c.args.from c.args.self.now (omega (arith, fits)) l.invariant.ground l.invariant.words

pub returns-in-None-clause-ground : goal.returns-in-None-clause-ground
returns-in-None-clause-ground c =
    let l = c.loop-going in
    let mid = c.stride.new.going in
    let m = c.stride.new.self in
    let stays = subst (λ (r : Bool). IsTried r (StridesBy c.args.image.now (trail_of c.stride_at-kind.result l.going.at) l.going l.self mid m)
    l.going l.self mid m) c.if-not-stride.true c.stride.ensures.tried in
    ap ground_of (c.in-None.ensures.steps.1 ∙ stays.local) ∙ l.invariant.ground

pub returns-in-None-clause-counts : goal.returns-in-None-clause-counts
returns-in-None-clause-counts c =
    c.step_apart.ensures.counts ∙ c.stride.ensures.counts ∙ c.loop-going.invariant.counts

pub returns-clause-undoable : goal.returns-clause-undoable
returns-clause-undoable c =
    let l = c.loop-going in
    undoable_both c.args.self.now l.self c.run_rest-2.new.self l.invariant.undoable c.run_rest-2.ensures.undoable

pub returns-in-None-clause-undoable : goal.returns-in-None-clause-undoable
returns-in-None-clause-undoable c =
    let b = c.loop-going.self in
    let m = c.stride.new.self in
    undoable_both c.args.self.now m c.step_apart.new.self
    (undoable_both c.args.self.now b m c.loop-going.invariant.undoable c.stride.ensures.undoable)
    c.step_apart.ensures.undoable
