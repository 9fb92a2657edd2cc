use Rattle.std.proofs.Common.{◌<◌, length, refl, sym, ◌∙◌, arith, rules}
use Rattle.std.proofs.lemmas.Option.{slice_get_read}
use Rattle.one_memory.specs.Machine.{Parts}
use Rattle.one_memory.proofs.MayBreakLemmas.{may_now, not_now}
use Rattle.one_memory.proofs.OneMemory.may_break.Goals as goal

pub returns-clause-yes : goal.returns-clause-yes
returns-clause-yes c =
    let i = c.self.inside in
    let p = c.args.p in
    let q = c.args.q in
    let h : Parts = record { memory = i.memory; count = i.nodes; processors = i.processors.items } in
    let low : p < i.nodes = rw (← c.self.view_is) at c.requires.own in
    let high : q < i.nodes = rw (← c.self.view_is) at c.requires.other in
    let within : q < length i.processors.items = omega (arith, high, c.self.invariant.0) in
    let get = slice_get_read i.processors.items (length i.processors.items) q c.index.result.now refl within c.index.ensures in
    rw (← c.self.view_is) (λ on. may_now h p q c.in-Some.reserved c.in-Some-block_of.block c.index.result.now (search rules) low high get c.in-Some.ensures c.in-Some-block_of.ensures (sym c.is_storing.ensures ∙ on))

pub returns-clause-no : goal.returns-clause-no
returns-clause-no c =
    let i = c.self.inside in
    let q = c.args.q in
    let h : Parts = record { memory = i.memory; count = i.nodes; processors = i.processors.items } in
    let high : q < i.nodes = rw (← c.self.view_is) at c.requires.other in
    let within : q < length i.processors.items = omega (arith, high, c.self.invariant.0) in
    let get = slice_get_read i.processors.items (length i.processors.items) q c.index.result.now refl within c.index.ensures in
    rw (← c.self.view_is) (λ off may. not_now h c.args.p q c.in-Some.reserved c.in-Some-block_of.block c.index.result.now get c.in-Some.ensures c.in-Some-block_of.ensures (sym c.is_storing.ensures ∙ off) may)
