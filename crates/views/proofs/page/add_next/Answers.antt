use Rattle.std.proofs.Common.{◌≡◌, [], ◌∷◌, ◌++◌, Some, None, subst, append-nil}
use Rattle.run_trace.specs.declared.passed.Until.TheVariants.{Access}
use Rattle.run_trace.specs.Given.{traced_of}
use Rattle.run_trace.specs.Passing.{HasPassedOn, passed_of}
use Rattle.run_trace.specs.Tracing.{HasTraced, record_traced}
use Rattle.block_view.specs.event_text.Shown.{shown}
use Rattle.views.specs.Failures.{HasGoneOnTo}
use Rattle.views.proofs.Pages.{event_added, passed_kept, word_added}
use Rattle.views.proofs.Passed.{late_word, no_more_pushed}
use Rattle.views.proofs.page.add_next.Goals as goal

-- the word that ends the pass is later than all that are asked for
pub returns-then-word-options-clause-next : goal.returns-then-word-options-clause-next
returns-then-word-options-clause-next c = λ seen traced kept_is.
    let o = c.args.options.now in
    let t = c.run_until.new.self in
    let p : HasPassedOn Access t seen (Some c.in-Some.word) = c.in-Some.ensures.passed seen traced in (
      kept_is,
      late_word o t seen p.more (passed_of c.in-Some.word) (c.replay_law.ensures.one (record_traced t))
          (c.shown_law.ensures.none o p.more c.requires.words p.passed) p.traced c.if-word-options.true,
    )

pub returns-in-Some-clause-next : goal.returns-in-Some-clause-next
returns-in-Some-clause-next c = λ seen traced kept_is.
    let o = c.args.options.now in
    let t = c.run_until.new.self in
    let p : HasPassedOn Access t seen (Some c.in-Some.word) = c.in-Some.ensures.passed seen traced in
    let hidden : shown o p.more ≡ [] = c.shown_law.ensures.none o p.more c.requires.words p.passed in
    word_added o t seen p.more (passed_of c.in-Some.word) c.add_passed_if_shown.new.events p.traced
    (c.in_ok-add_passed_if_shown.ensures (seen ++ p.more) (passed_kept o seen p.more c.args.events.now hidden kept_is))

pub next_event_to-requires-clause-traced : goal.next_event_to-requires-clause-traced
next_event_to-requires-clause-traced c =
    let seen = c.requires.traced.0 in
    let p : HasPassedOn Access c.run_until.new.self seen None = c.in_default.ensures.passed seen c.requires.traced.1 in
    (seen ++ (p.more ++ []), p.traced)

-- all were made, or the next is later than all that are asked for
pub returns-in_default-2-clause-next : goal.returns-in_default-2-clause-next
returns-in_default-2-clause-next c = λ seen traced kept_is.
    let o = c.args.options.now in
    let t = c.run_until.new.self in
    let u = c.next_event_to.new.tracer in
    let p : HasPassedOn Access t seen None = c.in_default.ensures.passed seen traced in
    let passed : HasTraced t (seen ++ p.more) =
    subst (λ l. HasTraced t (seen ++ l)) (append-nil p.more) p.traced in
    let all : HasGoneOnTo o.to u (seen ++ p.more) None =
    subst (HasGoneOnTo o.to u (seen ++ p.more)) c.in_default-2.is
    (c.in_ok-event.ensures.next (seen ++ p.more) passed) in
    (kept_is, no_more_pushed o u seen p.more (c.shown_law.ensures.none o p.more c.requires.words p.passed) all)

pub returns-clause-next : goal.returns-clause-next
returns-clause-next c = λ seen traced kept_is.
    let o = c.args.options.now in
    let t = c.run_until.new.self in
    let u = c.next_event_to.new.tracer in
    let x = traced_of c.in-Some-2.event in
    let p : HasPassedOn Access t seen None = c.in_default.ensures.passed seen traced in
    let hidden : shown o p.more ≡ [] = c.shown_law.ensures.none o p.more c.requires.words p.passed in
    let passed : HasTraced t (seen ++ p.more) =
    subst (λ l. HasTraced t (seen ++ l)) (append-nil p.more) p.traced in
    let more : HasTraced u ((seen ++ p.more) ++ x ∷ []) =
    subst (HasGoneOnTo o.to u (seen ++ p.more)) c.in-Some-2.is
    (c.in_ok-event.ensures.next (seen ++ p.more) passed) in
    event_added o u seen p.more x c.add_if_shown.new.events more
    (c.in_ok-add_if_shown.ensures (seen ++ p.more) (passed_kept o seen p.more c.args.events.now hidden kept_is))
