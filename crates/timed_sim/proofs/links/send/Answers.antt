-- One message more was sent, behind the last on its link.
use Rattle.std.proofs.Common.{◌≡◌, ◌+◌, ◌*◌, ◌<◌, ◌++◌, ◌∷◌, [], ap, sym, ◌∙◌, subst, get_or, set}
use Rattle.std.specs.Prelude.{max}
use Rattle.timed_sim.specs.Clock.{delay, last_of}
use Rattle.timed_sim.proofs.Arrivals.{HaveSentTo, first_left, sent_first}
use Rattle.timed_sim.proofs.links.send.Goals as goal

pub loop-sends-preserved-in-Continue-1 : goal.loop-sends-preserved-in-Continue-1
loop-sends-preserved-in-Continue-1 c =
    let costs = c.args.costs.now in
    let layout = c.args.layout.now in
    let node = c.args.node in
    let time = c.args.time in
    let old = c.args.links.now.items in
    let sends = c.args.sends.now.items in
    let l = c.loop-sends in
    let gone = c.remove-sent in
    let p = gone.result in
    let rest = gone.new.self.items in
    let link = c.index_mut.result.now in
    let count : c.nodes-count.result ≡ layout.nodes = c.nodes-count.ensures.nodes in
    let low : p.to < layout.nodes = subst (λ n. p.to < n) count c.if-sent-count.true in
    let here : link ≡ get_or l.links.items (node * layout.nodes + p.to) link =
    c.index_mut.ensures.value ∙ ap (λ n. get_or l.links.items (node * n + p.to) link) count in
    let more : c.send.new.self ≡ link ++ max (time + delay costs layout node p) (last_of link) ∷ [] =
    c.in_ok-send.ensures.sent ∙ ap (λ d. link ++ max (time + d) (last_of link) ∷ []) c.delay.ensures.value in
    let all = first_left l.sends.items rest p gone.ensures.value gone.ensures.items gone.ensures.len in
    record {
      sent = subst (λ n. HaveSentTo costs layout node time old (set l.links.items (node * n + p.to) c.send.new.self) sends rest)
          (sym count)
          (sent_first costs layout node time old l.links.items sends l.sends.items rest p link c.send.new.self
          c.requires.node low all here more l.invariant.sent);
    }
