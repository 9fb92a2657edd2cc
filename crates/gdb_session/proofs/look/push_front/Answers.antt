use Rattle.std.proofs.Common.{◌≡◌, ◌++◌, ◌+◌, ◌-◌, ◌∙◌, List, ℕ, Some, None, ap}
use Rattle.gdb_remote.specs.Hexadecimal.{bytes_digits}
use Rattle.gdb_session.specs.Sessions.{byte_at, mapped_front}
use Rattle.gdb_session.proofs.Steps.{front_none, front_step}
use Rattle.gdb_session.proofs.look.push_front.Goals as goal

pub returns-in_default : goal.returns-in_default
returns-in_default g c =
    let v = g.T.Target.view c.args.target.now in
    let none : byte_at v c.args.processor (c.args.address + c.loop-i.i) ≡ None = cc in
    front_none v c.args.processor c.args.address c.args.count c.loop-i.i c.loop-i.out.items
    (c.args.out.now.items ++ bytes_digits (mapped_front v c.args.processor c.args.address c.args.count))
    none c.loop-i.invariant

pub loop-i-preserved : goal.loop-i-preserved
loop-i-preserved g c =
    let v = g.T.Target.view c.args.target.now in
    let some : byte_at v c.args.processor (c.args.address + c.loop-i.i) ≡ Some c.in-Some.byte = cc in
    let rest : List ℕ = bytes_digits (mapped_front v c.args.processor (c.args.address + (c.loop-i.i + 1)) (c.args.count - (c.loop-i.i + 1))) in
    ap (λ (o : List ℕ). o ++ rest) c.in_ok-push_bytes.ensures
    ∙ front_step v c.args.processor c.args.address c.args.count c.loop-i.i c.in-Some.byte c.loop-i.out.items
    (c.args.out.now.items ++ bytes_digits (mapped_front v c.args.processor c.args.address c.args.count))
    c.loop-i-test.true some c.loop-i.invariant
