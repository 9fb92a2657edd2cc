-- The node's word is the nodes' event, and its links are offered what it sends.
use Rattle.std.proofs.Common.{◌≡◌, ◌∙◌, length, set}
use Rattle.std.proofs.lemmas.List.{length-set}
use Rattle.dsm_core.specs.CoreSteps.{SameNodes}
use Rattle.dsm_core.proofs.CoreSteps.{on_ok}
use Rattle.lossy_sim.specs.Stored.{HaveOffered, HaveOfferedFew}
use Rattle.lossy_sim.proofs.Events.{same_nodes, same_set, works_set, may_read, stamp_read, word_made, passed_made}
use Rattle.lossy_sim.proofs.nodes.execute.Goals as goal

pub exec_silent-requires-clause-may : goal.exec_silent-requires-clause-may
exec_silent-requires-clause-may c =
    let ns = c.args.nodes.now.items in
    may_read c.args.count c.args.node ns ns c.index_mut.result.now c.requires.count
    c.requires.allowed.0 (same_nodes ns) c.index_mut.ensures.value c.requires.allowed.1

pub exec_silent-requires-clause-stamp : goal.exec_silent-requires-clause-stamp
exec_silent-requires-clause-stamp c =
    let ns = c.args.nodes.now.items in
    stamp_read c.args.count c.args.node ns ns c.index_mut.result.now c.requires.count
    c.requires.allowed.0 (same_nodes ns) c.index_mut.ensures.value c.requires.allowed.2

pub returns-then-exec_silent-clause-works : goal.returns-then-exec_silent-clause-works
returns-then-exec_silent-clause-works c =
    let ns = c.args.nodes.now.items in
    works_set c.args.count c.args.node ns ns c.index_mut.result.now c.exec_silent.new.self c.requires.count
    c.requires.allowed.0 (same_nodes ns) c.index_mut.ensures.value c.exec_silent.ensures.work

pub returns-then-exec_silent-clause-event : goal.returns-then-exec_silent-clause-event
returns-then-exec_silent-clause-event c = passed_made c.args.count c.args.node c.args.nodes.now.items
    c.index_mut.result.now c.exec_silent.new.self c.args.links.now.items c.requires.count
    c.requires.allowed.0 c.index_mut.ensures.value (c.exec_silent.ensures.passed c.if-exec_silent.true).0

pub exec_into-turn-requires-clause-may : goal.exec_into-turn-requires-clause-may
exec_into-turn-requires-clause-may c =
    let ns0 = c.args.nodes.now.items in
    let ns1 = set ns0 c.args.node c.exec_silent.new.self in
    let ns2 = set ns1 c.args.node c.room.new.self in
    let len1 : length ns1 ≡ c.args.count = length-set ns0 c.args.node c.exec_silent.new.self
    ∙ c.requires.count in
    let len2 : length ns2 ≡ c.args.count = length-set ns1 c.args.node c.room.new.self ∙ len1 in
    let bi = c.requires.allowed.0 in
    let same1 : SameNodes ns0 ns1 = same_set c.args.count c.args.node ns0 ns0
    c.index_mut.result.now c.exec_silent.new.self c.requires.count bi (same_nodes ns0)
    c.index_mut.ensures.value (c.exec_silent.ensures.same c.if-exec_silent.false) c.exec_silent.ensures.work in
    let same2 : SameNodes ns0 ns2 = same_set c.args.count c.args.node ns0 ns1
    c.index_mut-2.result.now c.room.new.self len1 bi same1 c.index_mut-2.ensures.value
    c.room.ensures.node c.room.ensures.work in
    may_read c.args.count c.args.node ns0 ns2 c.index_mut-3.result.now len2 bi same2
    c.index_mut-3.ensures.value c.requires.allowed.1

pub exec_into-turn-requires-clause-stamp : goal.exec_into-turn-requires-clause-stamp
exec_into-turn-requires-clause-stamp c =
    let ns0 = c.args.nodes.now.items in
    let ns1 = set ns0 c.args.node c.exec_silent.new.self in
    let ns2 = set ns1 c.args.node c.room.new.self in
    let len1 : length ns1 ≡ c.args.count = length-set ns0 c.args.node c.exec_silent.new.self
    ∙ c.requires.count in
    let len2 : length ns2 ≡ c.args.count = length-set ns1 c.args.node c.room.new.self ∙ len1 in
    let bi = c.requires.allowed.0 in
    let same1 : SameNodes ns0 ns1 = same_set c.args.count c.args.node ns0 ns0
    c.index_mut.result.now c.exec_silent.new.self c.requires.count bi (same_nodes ns0)
    c.index_mut.ensures.value (c.exec_silent.ensures.same c.if-exec_silent.false) c.exec_silent.ensures.work in
    let same2 : SameNodes ns0 ns2 = same_set c.args.count c.args.node ns0 ns1
    c.index_mut-2.result.now c.room.new.self len1 bi same1 c.index_mut-2.ensures.value
    c.room.ensures.node c.room.ensures.work in
    stamp_read c.args.count c.args.node ns0 ns2 c.index_mut-3.result.now len2 bi same2
    c.index_mut-3.ensures.value c.requires.allowed.2

pub returns-clause-works : goal.returns-clause-works
returns-clause-works c =
    let ns0 = c.args.nodes.now.items in
    let ns1 = set ns0 c.args.node c.exec_silent.new.self in
    let ns2 = set ns1 c.args.node c.room.new.self in
    let len1 : length ns1 ≡ c.args.count = length-set ns0 c.args.node c.exec_silent.new.self
    ∙ c.requires.count in
    let len2 : length ns2 ≡ c.args.count = length-set ns1 c.args.node c.room.new.self ∙ len1 in
    let bi = c.requires.allowed.0 in
    let same1 : SameNodes ns0 ns1 = same_set c.args.count c.args.node ns0 ns0
    c.index_mut.result.now c.exec_silent.new.self c.requires.count bi (same_nodes ns0)
    c.index_mut.ensures.value (c.exec_silent.ensures.same c.if-exec_silent.false) c.exec_silent.ensures.work in
    let same2 : SameNodes ns0 ns2 = same_set c.args.count c.args.node ns0 ns1
    c.index_mut-2.result.now c.room.new.self len1 bi same1 c.index_mut-2.ensures.value
    c.room.ensures.node c.room.ensures.work in
    on_ok c.offer.result (λ (few : HaveOfferedFew 18 c.args.links.now.items
    c.offer.new.links.items c.args.count). works_set c.args.count c.args.node ns0 ns2
    c.index_mut-3.result.now c.exec_into-turn.new.self len2 bi same2 c.index_mut-3.ensures.value
    c.exec_into-turn.ensures.work) c.offer.ensures.few

pub returns-clause-event : goal.returns-clause-event
returns-clause-event c =
    let ns0 = c.args.nodes.now.items in
    let ns1 = set ns0 c.args.node c.exec_silent.new.self in
    let ns2 = set ns1 c.args.node c.room.new.self in
    let len1 : length ns1 ≡ c.args.count = length-set ns0 c.args.node c.exec_silent.new.self
    ∙ c.requires.count in
    let len2 : length ns2 ≡ c.args.count = length-set ns1 c.args.node c.room.new.self ∙ len1 in
    let bi = c.requires.allowed.0 in
    let same1 : SameNodes ns0 ns1 = same_set c.args.count c.args.node ns0 ns0
    c.index_mut.result.now c.exec_silent.new.self c.requires.count bi (same_nodes ns0)
    c.index_mut.ensures.value (c.exec_silent.ensures.same c.if-exec_silent.false) c.exec_silent.ensures.work in
    let same2 : SameNodes ns0 ns2 = same_set c.args.count c.args.node ns0 ns1
    c.index_mut-2.result.now c.room.new.self len1 bi same1 c.index_mut-2.ensures.value
    c.room.ensures.node c.room.ensures.work in
    on_ok c.offer.result (λ (sent : HaveOffered c.args.links.now.items c.offer.new.links.items
    c.args.count c.args.node c.exec_into-turn.result.stamp c.exec_into-turn.new.sends.items).
    word_made c.args.count c.args.node ns0 ns2 c.index_mut-3.result.now c.exec_into-turn.new.self
    c.args.links.now.items c.offer.new.links.items c.exec_into-turn.result.stamp
    c.exec_into-turn.new.sends.items len2 bi same2 c.index_mut-3.ensures.value sent
    c.exec_into-turn.ensures.node c.exec_into-turn.ensures.sends c.exec_into-turn.ensures.stamp)
    c.offer.ensures.offered
