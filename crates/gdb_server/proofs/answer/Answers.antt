use Rattle.std.proofs.Common.{refl, ap, ◌∙◌, ◌++◌, inr}
use Rattle.std.specs.Prelude.{take}
use Rattle.std.proofs.lemmas.Result.{err_from_is_err_and}
use Rattle.gdb_session.specs.Servers.{packet_of}
use Rattle.gdb_server.specs.Parts.{standing}
use Rattle.gdb_server.proofs.answer.Goals as goal

pub returns-in_err-put-clause-breaks : goal.returns-in_err-put-clause-breaks
returns-in_err-put-clause-breaks g c =
    let p = err_from_is_err_and c.from_residual-in_err-put.result c.from_residual-in_err-put.ensures.1 in
    let a = c.in_ok-after.ensures.answers in
    let b = c.in_err-put.ensures.err in
    let x = standing c.answer.new.self c.answer.new.target c.in_ok-after.after in
    let packet = c.deref.ensures.value ∙ a.2 ∙ ap (λ r. r ++ packet_of c.in_ok-after.after a.0) c.new-packet.ensures.items in
    rw (p.1, p.2) (record {
      k = b.0;
      piece = take b.0 c.deref.result.now;
      part = inr (
        c.deref.result.now,
        x,
        record {
          answer = a.0;
          answers = a.1;
          packet_is = packet;
          after_is = c.in_ok-after.ensures.after;
          reading_is = c.in_ok-after.ensures.reading;
          last_is = a.3;
        },
        refl,
      );
      breaks = b.1;
    })
