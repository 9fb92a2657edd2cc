use Rattle.std.proofs.Common.{◌<◌, length, refl, rules}
use Rattle.templates.specs.Code.{code_of}
use Rattle.rewrite_verify.proofs.PlanLemmas.{first_bad, one_read, place_range}
use Rattle.rewrite_verify.proofs.plan.read_plan.Goals as goal

pub returns-in-None-clause-refused : goal.returns-in-None-clause-refused
returns-in-None-clause-refused c =
    let k = c.loop-k.k in
    let lt : k < length c.args.places.now = search rules in
    first_bad (code_of c.args.live.now) c.args.places.now c.args.bytes.now k c.loop-k.free _ _
    c.loop-k.plan lt refl (place_range c.args.bytes.now k) c.requires.ascends
    c.in-None.ensures.none c.loop-k.invariant

pub loop-k-preserved : goal.loop-k-preserved
loop-k-preserved c =
    let k = c.loop-k.k in
    let lt : k < length c.args.places.now = search rules in
    one_read (code_of c.args.live.now) c.args.places.now c.args.bytes.now k c.loop-k.free
    c.behind-free.result _ _ c.loop-k.plan c.push.new.self c.in-Some.entry lt refl
    (place_range c.args.bytes.now k) c.in-Some.ensures.some c.behind-free.ensures.value
    c.in_ok-push.ensures.ok c.loop-k.invariant
