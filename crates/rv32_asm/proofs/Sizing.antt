-- The limits of an executable.
use Rattle.std.proofs.Common.{◌≡◌, ℕ, ◌+◌, ◌<◌, ◌≤◌, ◌^◌, List, [], ◌∷◌, ◌++◌, length, length-append, true, Option, None, Some, refl, sym, ap, ◌∙◌, subst, arith, inl, inr}
use Rattle.std.specs.Prelude.{unwrap_or, IfSome, IsSomeAnd}
use Rattle.std.specs.Option.{option_map}
use Rattle.std.specs.List.{concat}
use Rattle.std.proofs.lemmas.Bool.{and_from, le-leb, lt-ltb}
use Rattle.std.proofs.lemmas.List.{append-nil, length-replicate}
use Rattle.std.proofs.lemmas.List.Sums.{sum_by-cons}
use Rattle.elf32_read.specs.Elf.{Segment as AssembledSegment, is_placed, are_placed, segments_size, is_in_limits}
use Rattle.rv32_lines.specs.Statements.{Statement, Nothing, Segment, Label, Bytes, Word, Space, Zero, Entry, Instruction, Unread}
use Rattle.rv32_asm.specs.Places.{Open, SegmentsSoFar, appends, with_bytes, with_zeros, behind, behind_all, first_place, place_behind}
use Rattle.rv32_asm.specs.Rules.{AreSound, IsEmpty, IsPastLimits, IsTooLong}
use Rattle.rv32_asm.specs.Assembling.{AreBytesOf, AreBytesBehind, with_line, pieces_of, entry_name, IsEntry}
use Rattle.rv32_asm.specs.Standing.{first_start, IsFoundEntry, AreFitting}
use Rattle.rv32_asm.proofs.Limits.{limits}

-- the bytes of lines are as many as the lines append
fitting_one : (all before : List Statement) (s : Statement) (bytes : List ℕ) → AreBytesOf all before s bytes
    → length bytes ≡ unwrap_or (appends s) 0
fitting_one all before Nothing bytes h = ap length h
fitting_one all before (Segment a b) bytes h = ap length h
fitting_one all before (Label a) bytes h = ap length h
fitting_one all before (Bytes a) bytes h = ap length h
fitting_one all before (Word a) bytes h = ap length h
fitting_one all before (Space a) bytes h = ap length h ∙ length-replicate a 0
fitting_one all before (Zero a) bytes h = ap length h
fitting_one all before (Entry a) bytes h = ap length h
fitting_one all before (Instruction a) bytes h = ap length h.2
fitting_one all before Unread bytes h = ap length h

pub fitting : (all before left : List Statement) (appended : List (List ℕ)) → AreBytesBehind all before left appended
    → AreFitting left appended
fitting all before [] appended h = h
fitting all before (s ∷ left) [] h = absurd h
fitting all before (s ∷ left) (bytes ∷ more) h =
    (fitting_one all before s bytes h.0, fitting all (before ++ s ∷ []) left more h.1)

-- segments have no more bytes than lines append
sized_line : (s : Statement) (bytes : List ℕ) (ss : List Statement) (more : List (List ℕ))
    → segments_size (pieces_of ss more).segments + length (pieces_of ss more).bytes ≤ length (concat more)
    → segments_size (with_line s bytes (pieces_of ss more)).segments + length
    (with_line s bytes (pieces_of ss more)).bytes ≤ length bytes + length (concat more)
sized_line (Segment a b) bytes ss more h =
    let p = pieces_of ss more in
    let first : AssembledSegment = record { flags = a; vaddr = b; memsz = length p.bytes + p.zeros; bytes = p.bytes } in
    let sum = sum_by-cons (λ (s : AssembledSegment). length s.bytes) first p.segments in
    omega (arith, h, sum)
sized_line (Zero a) bytes ss more h = omega (arith, h)
sized_line Nothing bytes ss more h = omega (arith, h, length-append bytes (pieces_of ss more).bytes)
sized_line (Label a) bytes ss more h = omega (arith, h, length-append bytes (pieces_of ss more).bytes)
sized_line (Bytes a) bytes ss more h = omega (arith, h, length-append bytes (pieces_of ss more).bytes)
sized_line (Word a) bytes ss more h = omega (arith, h, length-append bytes (pieces_of ss more).bytes)
sized_line (Space a) bytes ss more h = omega (arith, h, length-append bytes (pieces_of ss more).bytes)
sized_line (Entry a) bytes ss more h = omega (arith, h, length-append bytes (pieces_of ss more).bytes)
sized_line (Instruction a) bytes ss more h = omega (arith, h, length-append bytes (pieces_of ss more).bytes)
sized_line Unread bytes ss more h = omega (arith, h, length-append bytes (pieces_of ss more).bytes)

sized : (ss : List Statement) (appended : List (List ℕ)) → AreFitting ss appended
    → segments_size (pieces_of ss appended).segments + length (pieces_of ss appended).bytes ≤ length (concat appended)
sized [] appended h = omega arith
sized (s ∷ ss) [] h = absurd h
sized (s ∷ ss) (bytes ∷ more) h =
    omega (arith, sized_line s bytes ss more (sized ss more h.1), length-append bytes (concat more))

-- lines append so many bytes
appended_line : (p : SegmentsSoFar) (s : Statement) → (behind p s).appended ≡ p.appended + unwrap_or (appends s) 0
appended_line p Nothing = omega arith
appended_line p (Segment flags start) = omega arith
appended_line p (Label name) = omega arith
appended_line p (Bytes bytes) = refl
appended_line p (Word word) = refl
appended_line p (Space count) = refl
appended_line p (Zero count) = omega arith
appended_line p (Entry name) = omega arith
appended_line p (Instruction w) = refl
appended_line p Unread = omega arith

appended_all : (p : SegmentsSoFar) (ss : List Statement) (appended : List (List ℕ)) → AreFitting ss appended
    → (behind_all p ss).appended ≡ p.appended + length (concat appended)
appended_all p [] appended h = omega (arith, ap (λ (x : List (List ℕ)). length (concat x)) h)
appended_all p (s ∷ ss) [] h = absurd h
appended_all p (s ∷ ss) (bytes ∷ more) h =
    omega (arith, appended_all (behind p s) ss more h.1, appended_line p s, h.0, length-append bytes (concat more))

-- as many segments as segment lines
numbered : (p : SegmentsSoFar) (ss : List Statement) (appended : List (List ℕ)) → AreFitting ss appended
    → (behind_all p ss).segments ≡ p.segments + length (pieces_of ss appended).segments
numbered p [] appended h = omega arith
numbered p (s ∷ ss) [] h = absurd h
numbered p (Nothing ∷ ss) (bytes ∷ more) h = numbered p ss more h.1
numbered p (Segment a b ∷ ss) (bytes ∷ more) h = omega (arith, numbered (behind p (Segment a b)) ss more h.1)
numbered p (Label a ∷ ss) (bytes ∷ more) h = numbered p ss more h.1
numbered p (Bytes a ∷ ss) (bytes ∷ more) h = numbered (behind p (Bytes a)) ss more h.1
numbered p (Word a ∷ ss) (bytes ∷ more) h = numbered (behind p (Word a)) ss more h.1
numbered p (Space a ∷ ss) (bytes ∷ more) h = numbered (behind p (Space a)) ss more h.1
numbered p (Zero a ∷ ss) (bytes ∷ more) h = numbered (behind p (Zero a)) ss more h.1
numbered p (Entry a ∷ ss) (bytes ∷ more) h = numbered p ss more h.1
numbered p (Instruction a ∷ ss) (bytes ∷ more) h = numbered (behind p (Instruction a)) ss more h.1
numbered p (Unread ∷ ss) (bytes ∷ more) h = numbered p ss more h.1

-- the open segment ends at 2^32 or below
abbrev Ends : Option Open → (bytes zeros : ℕ) → Type 0
Ends last bytes zeros = IfSome last (λ o. o.start + (o.bytes + bytes) + (o.zeros + zeros) ≤ 2 ^ 32)

ends_bytes : (last : Option Open) (count size bytes zeros : ℕ) → size ≡ count + bytes
    → Ends (option_map (with_bytes count) last) bytes zeros → Ends last size zeros
ends_bytes None count size bytes zeros e h = tt
ends_bytes (Some o) count size bytes zeros e h = omega (arith, h, e)

ends_zeros : (last : Option Open) (count bytes zeros : ℕ) → Ends (option_map (with_zeros count) last) bytes zeros
    → Ends last bytes (count + zeros)
ends_zeros None count bytes zeros h = tt
ends_zeros (Some o) count bytes zeros h = omega (arith, h)

ends_same : (last : Option Open) (size bytes zeros : ℕ) → size ≡ bytes → Ends last bytes zeros → Ends last size zeros
ends_same last size bytes zeros e h = subst (λ n. Ends last n zeros) (sym e) h

ends_here : (last : Option Open) → (IsSomeAnd last IsTooLong → ⊥) → Ends last 0 0
ends_here None f = tt
ends_here (Some o) f = let low : 2 ^ 32 < o.start + o.bytes + o.zeros → ⊥ = λ q. f (inl q) in omega (arith, low)

-- each segment from a place on is placed, and so is the open one
abbrev ArePlaced : SegmentsSoFar → List Statement → List (List ℕ) → Type 0
ArePlaced p ss appended =
    (are_placed (pieces_of ss appended).segments ≡ true) × Ends p.last (length (pieces_of ss appended).bytes)
    (pieces_of ss appended).zeros

placed_line : (p : SegmentsSoFar) (s : Statement) (ss : List Statement) (bytes : List ℕ) (more : List (List ℕ))
    → (IsPastLimits p → ⊥) → length bytes ≡ unwrap_or (appends s) 0
    → ArePlaced (behind p s) ss more → ArePlaced p (s ∷ ss) (bytes ∷ more)
placed_line p (Segment a b) ss bytes more f e h =
    let t = pieces_of ss more in
    let low : b + (0 + length t.bytes) + (0 + t.zeros) ≤ 2 ^ 32 = h.1 in
    let first : is_placed (record { flags = a; vaddr = b; memsz = length t.bytes + t.zeros; bytes = t.bytes }) ≡ true =
    and_from _ _ (le-leb (length t.bytes) (length t.bytes + t.zeros) (omega arith))
    (le-leb (b + (length t.bytes + t.zeros)) (2 ^ 32) (omega (arith, low))) in
    (and_from _ _ first h.0, ends_here p.last (λ q. f (inl q)))
placed_line p (Zero a) ss bytes more f e h =
    let t = pieces_of ss more in (h.0, ends_zeros p.last a (length t.bytes) t.zeros h.1)
placed_line p (Bytes a) ss bytes more f e h =
    let t = pieces_of ss more in (
      h.0,
      ends_bytes p.last (length a) (length (bytes ++ t.bytes)) (length t.bytes) t.zeros
          (omega (arith, length-append bytes t.bytes, e)) h.1,
    )
placed_line p (Word a) ss bytes more f e h =
    let t = pieces_of ss more in (
      h.0,
      ends_bytes p.last 4 (length (bytes ++ t.bytes)) (length t.bytes) t.zeros
          (omega (arith, length-append bytes t.bytes, e)) h.1,
    )
placed_line p (Space a) ss bytes more f e h =
    let t = pieces_of ss more in (
      h.0,
      ends_bytes p.last a (length (bytes ++ t.bytes)) (length t.bytes) t.zeros
          (omega (arith, length-append bytes t.bytes, e)) h.1,
    )
placed_line p (Instruction a) ss bytes more f e h =
    let t = pieces_of ss more in (
      h.0,
      ends_bytes p.last 4 (length (bytes ++ t.bytes)) (length t.bytes) t.zeros
          (omega (arith, length-append bytes t.bytes, e)) h.1,
    )
placed_line p Nothing ss bytes more f e h =
    let t = pieces_of ss more in (
      h.0,
      ends_same p.last (length (bytes ++ t.bytes)) (length t.bytes) t.zeros
          (omega (arith, length-append bytes t.bytes, e)) h.1,
    )
placed_line p (Label a) ss bytes more f e h =
    let t = pieces_of ss more in (
      h.0,
      ends_same p.last (length (bytes ++ t.bytes)) (length t.bytes) t.zeros
          (omega (arith, length-append bytes t.bytes, e)) h.1,
    )
placed_line p (Entry a) ss bytes more f e h =
    let t = pieces_of ss more in (
      h.0,
      ends_same p.last (length (bytes ++ t.bytes)) (length t.bytes) t.zeros
          (omega (arith, length-append bytes t.bytes, e)) h.1,
    )
placed_line p Unread ss bytes more f e h =
    let t = pieces_of ss more in (
      h.0,
      ends_same p.last (length (bytes ++ t.bytes)) (length t.bytes) t.zeros
          (omega (arith, length-append bytes t.bytes, e)) h.1,
    )

placed : (p : SegmentsSoFar) (ss : List Statement) (appended : List (List ℕ)) → AreFitting ss appended
    → ((front rest : List Statement) → ss ≡ front ++ rest → IsPastLimits (behind_all p front) → ⊥)
    → ArePlaced p ss appended
placed p [] appended h f = (refl, ends_here p.last (λ q. f [] [] refl (inl q)))
placed p (s ∷ ss) [] h f = absurd h
placed p (s ∷ ss) (bytes ∷ more) h f =
    placed_line p s ss bytes more (f [] (s ∷ ss) refl) h.0
    (placed (behind p s) ss more h.1 (λ front rest e past. f (s ∷ front) rest (ap (λ t. s ∷ t) e) past))

-- the executable of a sound text is within the limits of a file
pub in_limits : (all : List Statement) (appended : List (List ℕ)) (entry : ℕ) (segments : List AssembledSegment) → AreSound all
    → (IsEmpty all → ⊥) → AreFitting all appended
    → segments ≡ (pieces_of all appended).segments
    → is_in_limits (record { entry = entry; flags = 0; segments = segments; sections = [] }) ≡ true
in_limits all appended entry segments sound some fit is =
    let p = place_behind all in
    let past : IsPastLimits p → ⊥ = limits all all [] (sym (append-nil all)) sound in
    let few : 999 < p.segments → ⊥ = λ q. past (inr (inl q)) in
    let small : 2 ^ 24 < p.appended → ⊥ = λ q. past (inr (inr q)) in
    let count : p.segments ≡ length segments = omega (arith, numbered first_place all appended fit, ap length is) in
    let none : p.segments ≡ 0 → ⊥ = some in
    let size : segments_size segments ≡ segments_size (pieces_of all appended).segments = ap segments_size is in
    let all_placed : are_placed segments ≡ true =
    ap are_placed is ∙ (placed first_place all appended fit (λ front rest e. limits all front rest e sound)).0 in
    and_from _ _ (lt-ltb 0 (length segments) (omega (arith, count, none)))
    (and_from _ _ (le-leb (length segments) 1000 (omega (arith, count, few)))
    (and_from _ _ refl
    (and_from _ _ refl
    (and_from _ _ all_placed
    (le-leb (segments_size segments + 0) (2 ^ 30)
    (omega (arith, size, sized all appended fit, appended_all first_place all appended fit, small)))))))

-- the first segment's address
first_of : (ss : List Statement) (appended : List (List ℕ)) (start : ℕ) → AreFitting ss appended
    → first_start ss ≡ Some start
    → IsEntry [] (pieces_of ss appended).segments None start
first_of [] appended start h e = absurd (cc)
first_of (s ∷ ss) [] start h e = absurd h
first_of (Nothing ∷ ss) (bytes ∷ more) start h e = first_of ss more start h.1 e
first_of (Segment a b ∷ ss) (bytes ∷ more) start h e = let same : Some b ≡ Some start = e in cc (same)
first_of (Label a ∷ ss) (bytes ∷ more) start h e = first_of ss more start h.1 e
first_of (Bytes a ∷ ss) (bytes ∷ more) start h e = first_of ss more start h.1 e
first_of (Word a ∷ ss) (bytes ∷ more) start h e = first_of ss more start h.1 e
first_of (Space a ∷ ss) (bytes ∷ more) start h e = first_of ss more start h.1 e
first_of (Zero a ∷ ss) (bytes ∷ more) start h e = first_of ss more start h.1 e
first_of (Entry a ∷ ss) (bytes ∷ more) start h e = first_of ss more start h.1 e
first_of (Instruction a ∷ ss) (bytes ∷ more) start h e = first_of ss more start h.1 e
first_of (Unread ∷ ss) (bytes ∷ more) start h e = first_of ss more start h.1 e

entry_by : (all : List Statement) (segments : List AssembledSegment) (name : Option (List ℕ)) (entry : ℕ)
    → ((start : ℕ) → first_start all ≡ Some start → IsEntry [] segments None start)
    → IsFoundEntry all name entry → IsEntry all segments name entry
entry_by all segments (Some name) entry f h = h
entry_by all [] None entry f h = f entry h
entry_by all (first ∷ segments) None entry f h = f entry h

pub entry_is : (all : List Statement) (appended : List (List ℕ)) (segments : List AssembledSegment) (entry : ℕ)
    → AreFitting all appended → segments ≡ (pieces_of all appended).segments
    → IsFoundEntry all (entry_name all) entry → IsEntry all segments (entry_name all) entry
entry_is all appended segments entry fit is h =
    entry_by all segments (entry_name all) entry
    (λ start e. subst (λ (x : List AssembledSegment). IsEntry [] x None start) (sym is) (first_of all appended start fit e)) h
