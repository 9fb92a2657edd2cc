-- By the laws of progress and of stamps.
use Rattle.std.proofs.Common.{subst}
use Rattle.dsm_core.specs.CoreParts.{core_of, work_of, IsCore}
use Rattle.dsm_core.proofs.Bounds.{few_more, in_range}
use Rattle.dsm_core.proofs.CoreRuns.{led_on}
use Rattle.dsm_core.proofs.Buffers.{in_one_place}
use Rattle.dsm_core.proofs.Promised.{own_run, goes_on, moves, lists_empty}
use Rattle.dsm_core.proofs.cores.Core.promises.Goals as goal

pub returns-clause-own_run : goal.returns-clause-own_run
returns-clause-own_run c =
    let is = subst IsCore c.self.view_is c.self.invariant in
    own_run c.args.self.now c.stamp_law.ensures.own_run is

pub returns-clause-goes_on : goal.returns-clause-goes_on
returns-clause-goes_on c =
    let is = subst IsCore c.self.view_is c.self.invariant in
    goes_on c.args.self.now c.progress_law.ensures.goes_on is

pub returns-clause-empty : goal.returns-clause-empty
returns-clause-empty c =
    let is = subst IsCore c.self.view_is c.self.invariant in
    lists_empty c.args.self.now c.progress_law.ensures.over is

pub returns-clause-rewritten : goal.returns-clause-rewritten
returns-clause-rewritten c =
    let is = subst IsCore c.self.view_is c.self.invariant in
    is.are_parts.rewritten

pub returns-clause-moves : goal.returns-clause-moves
returns-clause-moves c =
    let is = subst IsCore c.self.view_is c.self.invariant in
    moves c.args.self.now c.progress_law.ensures.moves is

pub returns-clause-short : goal.returns-clause-short
returns-clause-short c =
    let is = subst IsCore c.self.view_is c.self.invariant in
    λ more run. few_more c.args.self.now more c.progress_law.ensures.short is run

pub returns-clause-range : goal.returns-clause-range
returns-clause-range c =
    let p = c.args.self.now in
    let is = subst IsCore c.self.view_is c.self.invariant in
    in_range p (core_of p) c.progress_law.ensures.short c.stamp_law.ensures.few
    c.stamp_law.ensures.wires is is.led_to

pub returns-clause-stays : goal.returns-clause-stays
returns-clause-stays c =
    let p = c.args.self.now in
    let work = work_of p in
    let is = subst IsCore c.self.view_is c.self.invariant in
    λ d goes. in_range p d c.progress_law.ensures.short c.stamp_law.ensures.few
    c.stamp_law.ensures.wires is (led_on work (core_of p) d is.led_to goes)

pub returns-clause-buffers : goal.returns-clause-buffers
returns-clause-buffers c =
    let is = subst IsCore c.self.view_is c.self.invariant in
    in_one_place c.args.self.now c.layout_law.ensures.home c.buffer_law.ensures
    c.interleaving_law.ensures.lists is
