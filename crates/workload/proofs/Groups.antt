-- The groups of a number, one after another.
use Rattle.std.proofs.Common.{◌≡◌, ℕ, zero, suc, ◌+◌, ◌-◌, ◌*◌, ◌/◌, ◌^◌, ◌<◌, ◌≤◌, List, [], ◌++◌, length, length-append, sym, ap, ◌∙◌, append_assoc, arith}
use Rattle.std.proofs.lemmas.List.{append-nil}
use Rattle.rv32_decode.specs.declared.Instr.{Instr}
use Rattle.random_order.specs.Orders.{following}
use Rattle.workload.specs.Generated.{group_by, group_of, groups, base_of, offset_of, addend_of}

-- a group has at most three instructions
length-group_by : (kind base offset addend : ℕ) → length (group_by kind base offset addend) ≤ 3
length-group_by kind base offset addend = grind arith

pub length-group_of : (x : ℕ) → length (group_of x) ≤ 3
length-group_of x = length-group_by (x / 2 ^ 30) (base_of x) (offset_of x) (addend_of x)

-- so many groups have at most three times as many
pub length-groups : (count number : ℕ) → length (groups count number) ≤ 3 * count
unfolding groups
length-groups zero number = omega arith
length-groups (suc count) number =
    let first = length-group_of (following number) in
    let more = length-groups count (following number) in
    let both = length-append (group_of (following number)) (groups count (following number)) in
    omega (arith, first, more, both)

-- at first all groups are to come
pub groups_first : (count number : ℕ) → [] ++ groups (count - 0) number ≡ groups count number
groups_first count number = ap (λ n. groups n number) (omega arith)

-- one group more, and fewer to come
pub groups_more : (count done number : ℕ) (code new whole : List Instr) → done < count
    → code ++ groups (count - done) number ≡ whole → new ≡ code ++ group_of (following number)
    → new ++ groups (count - (done + 1)) (following number) ≡ whole
unfolding groups
groups_more count done number code new whole less before this =
    let left : count - done ≡ suc (count - (done + 1)) = omega arith in
    let next = following number in
    let rest = groups (count - (done + 1)) next in
    ap (λ xs. xs ++ rest) this ∙ append_assoc code (group_of next) rest
    ∙ ap (λ n. code ++ groups n number) (sym left) ∙ before

-- at last none is to come
pub groups_last : (count done number : ℕ) (code whole : List Instr) → count ≤ done
    → code ++ groups (count - done) number ≡ whole → code ≡ whole
unfolding groups
groups_last count done number code whole more before =
    let none : count - done ≡ 0 = omega arith in
    sym (append-nil code) ∙ ap (λ n. code ++ groups n number) (sym none) ∙ before

-- seven parts appended, one after another
pub joined : (e0 e1 e2 e3 e4 e5 e6 e7 o g a m s w l : List Instr) → e0 ≡ []
    → e1 ≡ e0 ++ o → e2 ≡ e1 ++ g → e3 ≡ e2 ++ a → e4 ≡ e3 ++ m → e5 ≡ e4 ++ s → e6 ≡ e5 ++ w
    → e7 ≡ e6 ++ l → e7 ≡ o ++ (g ++ (a ++ (m ++ (s ++ (w ++ l)))))
joined e0 e1 e2 e3 e4 e5 e6 e7 o g a m s w l none one two three four five six seven =
    rw (seven, six, five, four, three, two, one, none) (simp append_assoc)
