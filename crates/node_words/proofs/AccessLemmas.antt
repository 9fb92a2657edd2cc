-- What accesses give and leave, by the class of their line.
use Rattle.std.proofs.Common.{Bool, ◌≡◌, ℕ, ◌/◌, ◌^◌, ◌<◌, true, false, refl, sym, ap, ◌∙◌, subst, arith}
use Rattle.std.proofs.lemmas.Bool.Decides.{nat_tests}
use Rattle.rv32_decode.specs.declared.LoadKind.{LoadKind}
use Rattle.rv32_decode.specs.declared.Width.{Width}
use Rattle.rv32_decode.specs.Widths.{is_aligned, width_of}
use Rattle.rv32_ops.specs.Operations.{extend}
use Rattle.rv32_program.specs.declared.Class.{Class}
use Rattle.rv32_program.specs.declared.Class.TheVariants.{Shared, ReadOnly, Private}
use Rattle.node_memory.specs.byte_range.Memory.{raw, stored}
use Rattle.node_memory.specs.byte_range.Window.{window_memory, is_in_window}
use Rattle.node_memory.specs.exec_map.Contents.{class_of_line, first_byte}
use Rattle.node_memory.specs.byte_range.Range.{Range}
use Rattle.node_memory.specs.rv32_step.Memory.{byte_by, private_after, shared_after}
use Rattle.node_memory.specs.flag_memory.Flag.{flag_byte}
use Rattle.node_words.specs.declared.exec_state.ExecState.{ExecState}
use Rattle.node_memory.specs.Shelf.{Shelf, ground_of, local_of}
use Rattle.node_words.specs.Kept.{lane_of}
use Rattle.node_memory.specs.Shelf.{IsLoaded}
use Rattle.node_words.specs.Strides.{Gives, IsStored, IsStoredOr}
use Rattle.node_memory.specs.Blocks.{ShelfLaws}
use Rattle.node_memory.proofs.MemoryLemmas.{raw_in_line, window_is_private}
use Rattle.node_memory.proofs.ShelfLemmas.{private_byte}

-- what the bytes of a line of a class make is what a load gives
given : (b : ExecState) (k : LoadKind) (w : Width) (c : Class) (a n v : ℕ) → w ≡ width_of k → is_aligned w a ≡ true
    → a < 2 ^ 31 → class_of_line b.local.program (a / 64) ≡ c → v ≡ extend k n
    → n ≡ raw w (λ x. byte_by c ((local_of b.local).copy x) (first_byte b.local.program x) (window_memory b.lane.private x) (flag_byte x)) a
    → Gives b k a v
given b k w c a n v is aligned low class value bytes =
    let there = subst (λ (x : Width). is_aligned x a ≡ true) is aligned in
    let local = local_of b.local in
    let first = first_byte b.local.program in
    let window = window_memory b.lane.private in
    let byte : ℕ → ℕ = λ x. byte_by c (local.copy x) (first x) (window x) (flag_byte x) in
    record {
      aligned = there;
      low = low;
      loaded = λ at. value ∙ ap (extend k) (bytes ∙ ap (λ (x : Width). raw x byte a) is
          ∙ raw_in_line (width_of k) (class_of_line b.local.program) c local.copy first window
          flag_byte a there class);
    }

pub loaded_gives : (b : ExecState) (k : LoadKind) (w : Width) (a n v : ℕ) → w ≡ width_of k → IsLoaded b.local w a n
    → v ≡ extend k n → Gives b k a v
loaded_gives b k w a n v is loaded value = given b k w Shared a n v is loaded.aligned loaded.low loaded.shared value loaded.value

pub shared_gives : (b : ExecState) (k : LoadKind) (w : Width) (a n v : ℕ) → w ≡ width_of k → is_aligned w a ≡ true
    → a < 2 ^ 31 → class_of_line b.local.program (a / 64) ≡ Shared → n ≡ raw w (local_of b.local).copy a → v ≡ extend k n
    → Gives b k a v
shared_gives b k w a n v is aligned low class bytes value = given b k w Shared a n v is aligned low class value bytes

pub fixed_gives : (b : ExecState) (k : LoadKind) (w : Width) (a n v : ℕ) → w ≡ width_of k → is_aligned w a ≡ true
    → a < 2 ^ 31 → class_of_line b.local.program (a / 64) ≡ ReadOnly → n ≡ raw w (first_byte b.local.program) a
    → v ≡ extend k n → Gives b k a v
fixed_gives b k w a n v is aligned low class bytes value = given b k w ReadOnly a n v is aligned low class value bytes

window_low : (a : ℕ) → is_in_window a ≡ true → a < 2 ^ 31
window_low a inside = grind (arith, nat_tests)

pub window_gives : (b : ExecState) (k : LoadKind) (w : Width) (a n v : ℕ) → w ≡ width_of k → is_aligned w a ≡ true
    → is_in_window a ≡ true → n ≡ raw w (window_memory b.lane.private) a → v ≡ extend k n → Gives b k a v
window_gives b k w a n v is aligned inside bytes value =
    given b k w Private a n v is aligned (window_low a inside) (window_is_private b.local.program a inside) value bytes

-- the state byte of a line of the window
pub window_state : (s : Shelf) (a : ℕ) → ShelfLaws s → is_in_window a ≡ true → (local_of s).state (a / 64) ≡ 0
window_state s a laws inside =
    sym (private_byte s.program s.states s.copy (a / 64) laws.lines (window_is_private s.program a inside))

-- 2. Stores

pub window_stored : (b : ExecState) (w : Width) (a v : ℕ) (p : Range) → is_aligned w a ≡ true → is_in_window a ≡ true
    → window_memory p ≡ stored w (window_memory b.lane.private) a v
    → IsStored b w a v (record b { lane = record b.lane { private = p } })
window_stored b w a v p aligned inside bytes =
    let m = window_memory b.lane.private in
    let n = local_of b.local in
    let class = sym (window_is_private b.local.program a inside) in
    record {
      aligned = aligned;
      low = window_low a inside;
      leaves = λ at. record {
        lane = λ t. record (lane_of b.lane at) {
          private = (bytes ∙ ap (λ (c : Class). private_after c m (stored w m a v)) class) t;
        };
        local = λ t. record n { copy = ap (λ (c : Class). shared_after c n.copy (stored w n.copy a v)) class t };
        ground_same = refl;
      };
      registers = refl;
    }

pub shared_stored : (b : ExecState) (w : Width) (a v : ℕ) (s : Shelf) → is_aligned w a ≡ true
    → class_of_line b.local.program (a / 64) ≡ Shared → a < 2 ^ 31
    → local_of s ≡ record (local_of b.local) { copy = stored w (local_of b.local).copy a v }
    → ground_of s ≡ ground_of b.local → IsStored b w a v (record b { local = s })
shared_stored b w a v s aligned shared low local ground =
    let m = window_memory b.lane.private in
    let n = local_of b.local in
    let class = sym shared in
    record {
      aligned = aligned;
      low = low;
      leaves = λ at. record {
        lane = λ t. record (lane_of b.lane at) {
          private = ap (λ (c : Class). private_after c m (stored w m a v)) class t;
        };
        local = local ∙ (λ t. record n {
          copy = ap (λ (c : Class). shared_after c n.copy (stored w n.copy a v)) class t;
        });
        ground_same = ground;
      };
      registers = refl;
    }

pub stored_or : (r : Bool) (b : ExecState) (w : Width) (a v : ℕ) (s : Shelf) → is_aligned w a ≡ true
    → (r ≡ true → (class_of_line b.local.program (a / 64) ≡ Shared) × (a < 2 ^ 31))
    → (r ≡ true → local_of s ≡ record (local_of b.local) { copy = stored w (local_of b.local).copy a v })
    → ground_of s ≡ ground_of b.local → (r ≡ false → s ≡ b.local)
    → IsStoredOr r (IsStored b w a v (record b { local = s })) b (record b { local = s })
stored_or true b w a v s aligned shared local ground none =
    shared_stored b w a v s aligned (shared refl).0 (shared refl).1 (local refl) ground
stored_or false b w a v s aligned shared local ground none = (refl, none refl)
