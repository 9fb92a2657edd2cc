use Rattle.std.proofs.Common.{rules, of_calls, arith, ◌-◌, inl, inr}
use Rattle.state_table.specs.declared.classes.LineClass.{LineClass}
use Rattle.state_table.proofs.LineSearch.{IsPlace, place_found, byte_there, byte_nowhere}
use Rattle.state_table.proofs.classes.byte_in.Goals as goal
use Rattle.state_table.proofs.classes.byte_in.Goals.{else-place-gt0-via-then-place-gt0+else-line-items, else-place-gt0-via-else-place-gt0}

abbrev no_class : LineClass
no_class = record { first = 0; lines = 0; byte = 0 }

pub overflow_sub-line : goal.overflow_sub-line
overflow_sub-line c =
    let p : IsPlace c.args.items.now c.args.line c.partition_point-place.result no_class = place_found c.args.items.now c.args.line c.partition_point-place.result no_class c.requires c.partition_point-place.ensures.bound c.partition_point-place.ensures.partitioned (λ a r f. search (rules, of_calls)) in
    p.low (c.partition_point-place.result - 1) (omega arith)

pub returns-then-line-items : goal.returns-then-line-items
returns-then-line-items c =
    let p : IsPlace c.args.items.now c.args.line c.partition_point-place.result no_class = place_found c.args.items.now c.args.line c.partition_point-place.result no_class c.requires c.partition_point-place.ensures.bound c.partition_point-place.ensures.partitioned (λ a r f. search (rules, of_calls)) in
    byte_there c.args.items.now c.args.line c.partition_point-place.result no_class c.requires p c.if-place-gt0.true c.if-line-items.true

pub returns-else-place-gt0 : goal.returns-else-place-gt0
returns-else-place-gt0 c =
    let p : IsPlace c.args.items.now c.args.line c.partition_point-place.result no_class = place_found c.args.items.now c.args.line c.partition_point-place.result no_class c.requires c.partition_point-place.ensures.bound c.partition_point-place.ensures.partitioned (λ a r f. search (rules, of_calls)) in
    byte_nowhere c.args.items.now c.args.line c.partition_point-place.result no_class c.requires p
    (elim c.else-place-gt0.branch [
      | else-place-gt0-via-then-place-gt0+else-line-items w ↦ inl (w.if-place-gt0.true, w.if-line-items.false)
      | else-place-gt0-via-else-place-gt0 w ↦ inr w.if-place-gt0.false
    ])
