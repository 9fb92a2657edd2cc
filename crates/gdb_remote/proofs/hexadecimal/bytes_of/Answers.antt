use Rattle.std.proofs.Common.{◌≡◌, ◌≤◌, length, get_or, drop, rules, arith, Some}
use Rattle.gdb_remote.specs.Hexadecimal.{bytes_of, pair_value}
use Rattle.gdb_remote.proofs.Hexadecimals.{bytes_of_pair, byte_read}
use Rattle.gdb_remote.proofs.hexadecimal.bytes_of.Goals as goal

pub loop-rest-preserved : goal.loop-rest-preserved
loop-rest-preserved c =
    let rest = c.loop-rest.rest.now in
    let text = c.args.text.now in
    let two : 2 ≤ length rest = omega arith in
    let is : pair_value (get_or rest 0 0) (get_or rest 1 0) ≡ Some c.in-Some.byte = search rules in
    let e = byte_read c.loop-rest.bytes.items c.in-Some.byte _ (bytes_of (drop 2 rest)) (bytes_of text) is (rw (bytes_of_pair rest two) at c.loop-rest.invariant) in
    rw (c.in_ok-push.ensures.items, c.split_at.ensures.back) e
