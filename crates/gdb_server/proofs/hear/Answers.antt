use Rattle.std.proofs.Common.{◌≡◌, ap, ◌∙◌, ◌++◌, true}
use Rattle.std.proofs.lemmas.Result.{IfOk-weaker, IfErr-weaker}
use Rattle.gdb_session.specs.declared.session.After.TheVariants.{GoesOn}
use Rattle.gdb_session.specs.Servers.{is_request}
use Rattle.gdb_server.specs.Transcripts.{event_of, heard_by, put_at_once}
use Rattle.gdb_server.specs.Parts.{standing, HasHeard, HasAnswered, BreaksAnswerOff, BreaksOff}
use Rattle.gdb_server.proofs.Told.{heard_is, hears_answer, breaks_answer}
use Rattle.gdb_server.proofs.hear.Goals as goal

pub returns-clause-hears : goal.returns-clause-hears
returns-clause-hears g c =
    let view = g.T.Target.view in
    let does = g.T.Target.does in
    let moves = g.T.Target.moves in
    let tells = g.T.Target.tells in
    let s = c.args.server.now in
    let h = c.read.new.self in
    let t = c.args.target.now in
    let o = g.O.Sink.state c.args.out.now in
    let o1 = g.O.Sink.state c.put.new.out in
    let o2 = g.O.Sink.state c.answer.new.out in
    let read = c.in_ok-asked.ensures in
    let heard : h ≡ heard_by s c.args.byte = heard_is s h c.args.byte read.reading read.session read.last in
    let asked : is_request (event_of s c.args.byte) ≡ true = cc in
    let piece : c.deref.result.now ≡ put_at_once s c.args.byte =
    c.deref.ensures.value ∙ read.puts ∙ ap (λ r. r ++ put_at_once s c.args.byte) c.new-piece.ensures.items in
    IfOk-weaker c.answer.result
    (λ after. HasAnswered view does moves tells h t (standing c.answer.new.server c.answer.new.target after) o1 o2)
    (λ after. HasHeard view does moves tells (standing s t GoesOn) c.args.byte (standing c.answer.new.server c.answer.new.target after) o o2)
    (λ after a. hears_answer view does moves tells s h t c.args.byte (standing c.answer.new.server c.answer.new.target after) o o1 o2
    c.deref.result.now heard asked piece c.in_ok-put.ensures.ok a)
    c.answer.ensures.answers

pub returns-clause-breaks : goal.returns-clause-breaks
returns-clause-breaks g c =
    let view = g.T.Target.view in
    let does = g.T.Target.does in
    let moves = g.T.Target.moves in
    let tells = g.T.Target.tells in
    let s = c.args.server.now in
    let h = c.read.new.self in
    let t = c.args.target.now in
    let o = g.O.Sink.state c.args.out.now in
    let o1 = g.O.Sink.state c.put.new.out in
    let o2 = g.O.Sink.state c.answer.new.out in
    let read = c.in_ok-asked.ensures in
    let heard : h ≡ heard_by s c.args.byte = heard_is s h c.args.byte read.reading read.session read.last in
    let asked : is_request (event_of s c.args.byte) ≡ true = cc in
    let piece : c.deref.result.now ≡ put_at_once s c.args.byte =
    c.deref.ensures.value ∙ read.puts ∙ ap (λ r. r ++ put_at_once s c.args.byte) c.new-piece.ensures.items in
    IfErr-weaker c.answer.result (BreaksAnswerOff view does moves tells h t o1 o2)
    (BreaksOff view does moves tells (standing s t GoesOn) c.args.byte o o2)
    (λ e a. breaks_answer view does moves tells s h t c.args.byte o o1 o2 c.deref.result.now e heard asked piece c.in_ok-put.ensures.ok a)
    c.answer.ensures.breaks
