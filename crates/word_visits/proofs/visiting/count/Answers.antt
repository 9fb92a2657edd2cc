-- A stretch begins at an entry, and ends before another or behind the last.
use Rattle.std.proofs.Common.{rules, ◌+◌, ◌^◌, ◌<◌, ◌≤◌, false, length, ap, sym, arith}
use Rattle.std.proofs.lemmas.List.{get_or-set_other, length-set}
use Rattle.word_visits.specs.declared.visit.Visit.{Visit}
use Rattle.word_visits.proofs.TableLemmas.{few_behind, one_begun, one_ended, ordered_is, stretch_last, stretch_within}
use Rattle.word_visits.proofs.visiting.count.Goals as goal

abbrev none : Visit
none = record { looks = false; begun = 0; ended = 0 }

pub begin-requires : goal.begin-requires
begin-requires c =
    let low = c.requires.some in
    let apart = c.if-first-end.false in
    let some : c.args.first < c.args.end = omega (arith, low, apart) in
    let within = c.requires.within some in
    let room = c.requires.room some in
    let few = one_begun c.args.entries.now c.args.first none (omega (arith, some, within)) in
    omega (arith, few, room)

pub end-requires : goal.end-requires
end-requires c =
    let low = c.requires.some in
    let apart = c.if-first-end.false in
    let some : c.args.first < c.args.end = omega (arith, low, apart) in
    let same = length-set c.args.entries.now c.args.first c.begin.new.self in
    let inside = c.if-end-entries.true in
    let below : c.args.end < length c.args.entries.now = omega (arith, inside, same) in
    let es = c.args.entries.now in
    let room = c.requires.room some in
    let entry = ap (λ (e : Visit). e.ended) (get_or-set_other es c.args.first c.args.end c.begin.new.self none
    (λ e. apart (sym e))) in
    let few = one_ended es 0 0 c.args.behind.now c.args.end none
    (ordered_is 0 0 c.args.behind.now es c.requires.ordered) below in
    omega (arith, entry, few, room)

pub overflow_add-behind : goal.overflow_add-behind
overflow_add-behind c =
    let low = c.requires.some in
    let apart = c.if-first-end.false in
    let some : c.args.first < c.args.end = omega (arith, low, apart) in
    let room = c.requires.room some in
    let few = few_behind c.args.entries.now 0 0 c.args.behind.now
    (ordered_is 0 0 c.args.behind.now c.args.entries.now c.requires.ordered) in
    let small : c.args.behind.now + 1 < 2 ^ 64 = omega (arith, few, room) in
    search rules

pub returns-then-end-entries-clause-visits : goal.returns-then-end-entries-clause-visits
returns-then-end-entries-clause-visits c =
    let low = c.requires.some in
    let apart = c.if-first-end.false in
    let some : c.args.first < c.args.end = omega (arith, low, apart) in
    let same = length-set c.args.entries.now c.args.first c.begin.new.self in
    let inside = c.if-end-entries.true in
    let below : c.args.end < length c.args.entries.now = omega (arith, inside, same) in
    (stretch_within c.args.first c.args.end c.args.behind.now c.args.entries.now none
    none c.begin.new.self c.end.new.self some below c.requires.ordered c.begin.ensures c.end.ensures).visits

pub returns-then-end-entries-clause-looks : goal.returns-then-end-entries-clause-looks
returns-then-end-entries-clause-looks c =
    let low = c.requires.some in
    let apart = c.if-first-end.false in
    let some : c.args.first < c.args.end = omega (arith, low, apart) in
    let same = length-set c.args.entries.now c.args.first c.begin.new.self in
    let inside = c.if-end-entries.true in
    let below : c.args.end < length c.args.entries.now = omega (arith, inside, same) in
    (stretch_within c.args.first c.args.end c.args.behind.now c.args.entries.now none
    none c.begin.new.self c.end.new.self some below c.requires.ordered c.begin.ensures c.end.ensures).looks

pub returns-then-end-entries-clause-ordered : goal.returns-then-end-entries-clause-ordered
returns-then-end-entries-clause-ordered c =
    let low = c.requires.some in
    let apart = c.if-first-end.false in
    let some : c.args.first < c.args.end = omega (arith, low, apart) in
    let same = length-set c.args.entries.now c.args.first c.begin.new.self in
    let inside = c.if-end-entries.true in
    let below : c.args.end < length c.args.entries.now = omega (arith, inside, same) in
    (stretch_within c.args.first c.args.end c.args.behind.now c.args.entries.now none
    none c.begin.new.self c.end.new.self some below c.requires.ordered c.begin.ensures c.end.ensures).ordered

pub returns-then-end-entries-clause-begun : goal.returns-then-end-entries-clause-begun
returns-then-end-entries-clause-begun c =
    let low = c.requires.some in
    let apart = c.if-first-end.false in
    let some : c.args.first < c.args.end = omega (arith, low, apart) in
    let same = length-set c.args.entries.now c.args.first c.begin.new.self in
    let inside = c.if-end-entries.true in
    let below : c.args.end < length c.args.entries.now = omega (arith, inside, same) in
    (stretch_within c.args.first c.args.end c.args.behind.now c.args.entries.now none
    none c.begin.new.self c.end.new.self some below c.requires.ordered c.begin.ensures c.end.ensures).begun

pub returns-else-end-entries-clause-visits : goal.returns-else-end-entries-clause-visits
returns-else-end-entries-clause-visits c =
    let low = c.requires.some in
    let apart = c.if-first-end.false in
    let some : c.args.first < c.args.end = omega (arith, low, apart) in
    let same = length-set c.args.entries.now c.args.first c.begin.new.self in
    let outside = c.if-end-entries.false in
    let past : length c.args.entries.now ≤ c.args.end = omega (arith, outside, same) in
    (stretch_last c.args.first c.args.end c.args.behind.now c.args.entries.now none c.begin.new.self some
    (c.requires.within some) past c.requires.ordered c.begin.ensures).visits

pub returns-else-end-entries-clause-looks : goal.returns-else-end-entries-clause-looks
returns-else-end-entries-clause-looks c =
    let low = c.requires.some in
    let apart = c.if-first-end.false in
    let some : c.args.first < c.args.end = omega (arith, low, apart) in
    let same = length-set c.args.entries.now c.args.first c.begin.new.self in
    let outside = c.if-end-entries.false in
    let past : length c.args.entries.now ≤ c.args.end = omega (arith, outside, same) in
    (stretch_last c.args.first c.args.end c.args.behind.now c.args.entries.now none c.begin.new.self some
    (c.requires.within some) past c.requires.ordered c.begin.ensures).looks

pub returns-else-end-entries-clause-ordered : goal.returns-else-end-entries-clause-ordered
returns-else-end-entries-clause-ordered c =
    let low = c.requires.some in
    let apart = c.if-first-end.false in
    let some : c.args.first < c.args.end = omega (arith, low, apart) in
    let same = length-set c.args.entries.now c.args.first c.begin.new.self in
    let outside = c.if-end-entries.false in
    let past : length c.args.entries.now ≤ c.args.end = omega (arith, outside, same) in
    (stretch_last c.args.first c.args.end c.args.behind.now c.args.entries.now none c.begin.new.self some
    (c.requires.within some) past c.requires.ordered c.begin.ensures).ordered

pub returns-else-end-entries-clause-begun : goal.returns-else-end-entries-clause-begun
returns-else-end-entries-clause-begun c =
    let low = c.requires.some in
    let apart = c.if-first-end.false in
    let some : c.args.first < c.args.end = omega (arith, low, apart) in
    let same = length-set c.args.entries.now c.args.first c.begin.new.self in
    let outside = c.if-end-entries.false in
    let past : length c.args.entries.now ≤ c.args.end = omega (arith, outside, same) in
    (stretch_last c.args.first c.args.end c.args.behind.now c.args.entries.now none c.begin.new.self some
    (c.requires.within some) past c.requires.ordered c.begin.ensures).begun
