-- Runs and lists of picks, one after another.
use Rattle.std.proofs.Common.{◌≡◌, List, [], ◌∷◌, ◌++◌, refl, sym, ap, ◌∙◌, append_assoc, append-nil}
use Rattle.std.specs.Prelude.{map}
use Rattle.one_memory.specs.declared.Pick.{Pick as Pushed}
use Rattle.one_memory.specs.Shown.{pick_of}
use Rattle.rv32_step.specs.OneMemory.{Original, State, Pick, run, after_pick}
use Rattle.templates.specs.declared.plans.PlanEntry.{PlanEntry}
use Rattle.run_trace.specs.node_model.Node.{Work}
use Rattle.run_trace.specs.node_model.Core.{Core, Event, May, IsCoreRun, event_step, after}
use Rattle.run_trace.specs.replay.Told.{AreMadeAs}
use Rattle.run_trace.specs.replay.run_order.OwnRun.{Stamped, run_of}
use Rattle.run_trace.specs.replay.rewriting_law.CoreRun.{picks_at, picks_of}

map_more : (old : List Pushed) (pick : Pushed) → map pick_of (old ++ pick ∷ []) ≡ map pick_of old ++ pick_of pick ∷ []
map_more [] pick = refl
map_more (x ∷ old) pick = ap (λ l. pick_of x ∷ l) (map_more old pick)

pub run_both : (o : Original) (s : State) (ks js : List Pick) → run o s (ks ++ js) ≡ run o (run o s ks) js
run_both o s [] js = refl
run_both o s (k ∷ ks) js = run_both o (after_pick o s k) ks js

pub after_more : (work : Work) (c : Core) (es : List Event) (e : Event) → after work c (es ++ e ∷ []) ≡ event_step work (after work c es) e
after_more work c [] e = refl
after_more work c (x ∷ es) e = after_more work (event_step work c x) es e

pub run_more : (work : Work) (c : Core) (es : List Event) (e : Event) → IsCoreRun work c es → May work (after work c es) e → IsCoreRun work c (es ++ e ∷ [])
run_more work c [] e is may = (may, tt)
run_more work c (x ∷ es) e is may = (is.0, run_more work (event_step work c x) es e is.1 may)

pub picks_more : (work : Work) (plan : List PlanEntry) (c : Core) (es : List Event) (e : Event) → picks_of work plan c (es ++ e ∷ []) ≡ picks_of work plan c es ++ picks_at work plan (after work c es) e
picks_more work plan c [] e = append-nil (picks_at work plan c e)
picks_more work plan c (x ∷ es) e =
    ap (λ ks. picks_at work plan c x ++ ks) (picks_more work plan (event_step work c x) es e)
    ∙ sym (append_assoc (picks_at work plan c x) (picks_of work plan (event_step work c x) es) (picks_at work plan (after work (event_step work c x) es) e))

-- events that are made as they are told of are a core run
pub made_run : (work : Work) (c : Core) (xs : List Stamped) → AreMadeAs work c xs → IsCoreRun work c (run_of xs)
made_run work c [] made = tt
made_run work c (x ∷ xs) made = (made.0.may, made_run work (event_step work c x.event) xs made.1)

-- a pick was pushed
pub pushed : (old new : List Pushed) (pick : Pushed) (seen : List Pick) → new ≡ old ++ pick ∷ [] → pick_of pick ∷ [] ≡ seen → map pick_of new ≡ map pick_of old ++ seen
pushed old new pick seen is one = ap (map pick_of) is ∙ map_more old pick ∙ ap (λ l. map pick_of old ++ l) one
