-- The shared lines, and the read-only ones, by ranges.
use Rattle.std.proofs.Common.{◌≡◌, ℕ, ◌+◌, ◌-◌, ◌*◌, ◌^◌, ◌<◌, ◌≤◌, Bool, true, false, ◌||◌, ◌&&◌, cond, Option, Some, None, List, [], ◌∷◌, map, length, get_or, refl, sym, ap, ◌∙◌, arith}
use Rattle.std.specs.Prelude.{All, AllPairs, nat_lt, nat_le, not}
use Rattle.std.specs.List.{list_any, filter_map}
use Rattle.std.proofs.lemmas.List.{get_or-map, length-map}
use Rattle.std.proofs.lemmas.List.Elements.{All-head, All-tail}
use Rattle.block_layout.specs.Layout.{AreRanges, is_in, is_among}
use Rattle.block_layout.specs.declared.ranges.Lines.{Lines}
use Rattle.std.specs.Prelude.{find}
use Rattle.std.specs.List.{filter}
use Rattle.std.specs.List.Sorted.{IsPermutation}
use Rattle.std.specs.Option.{option_map_or}
use Rattle.std.proofs.lemmas.Bool.{and_parts, and_left, lt-leb, ltb-true}
use Rattle.rv32_program.specs.declared.Class.{Class}
use Rattle.rv32_program.specs.declared.Class.TheVariants.{Shared, ReadOnly, Private}
use Rattle.exec_map.specs.Contents.{is_shared, is_read_only, is_private, is_writable, segment_class, class_of_line, touches, AreRangesOf}
use Rattle.exec_map.specs.Refusals.{has_memory, is_too_high, IsAcceptable}
use Rattle.exec_map.specs.Index.{NoRuleBelow}
use Rattle.exec_map.proofs.Looking.{any_only, one_touches, find_some, touches_same}
use Rattle.exec_map.proofs.Words.{high_end, not_high}
use Rattle.exec_map.proofs.Accepting.{none_below}
use Rattle.elf32_read.specs.Elf.{Elf, Segment, are_placed}
use Rattle.exec_map.specs.declared.stretches.NumberRange.{NumberRange}
use Rattle.exec_map.specs.Index.{AreNumberRanges, AreSearchable, IsSome, has, have, is_of_kind, has_line, lines_of_kind, lines_of_stretch}
use Rattle.exec_map.proofs.Halving.{stays_low}
use Rattle.exec_map.proofs.Filtering.{lines_low}

among : (line : ℕ) (r : NumberRange) → IsSome r → is_among line (lines_of_stretch r) ≡ has line r
among line r some =
    let e : r.first + (r.end - r.first) ≡ r.end = omega arith in
    ap (λ n. nat_le r.first line && nat_lt line n) e

pub in_lines : (line : ℕ) (ms : List NumberRange) → All IsSome ms → is_in (map lines_of_stretch ms) line ≡ have ms line
in_lines line [] some = refl
in_lines line (r ∷ rs) some =
    ap (λ b. b || is_in (map lines_of_stretch rs) line) (among line r (All-head IsSome r rs some)) ∙ ap (λ b. has line r || b) (in_lines line rs (All-tail IsSome r rs some))

pub apart_lines : (ms : List NumberRange) → All IsSome ms → AllPairs (λ r q. r.end < q.first) ms → AllPairs (λ r q. r.first + r.lines < q.first) (map lines_of_stretch ms)
apart_lines ms some apart i j d lt in_j =
    let z : NumberRange = record { first = 0; end = 0 } in
    let j_in : j < length ms = omega (arith, length-map ms lines_of_stretch) in
    let one = get_or-map lines_of_stretch ms i z d (omega arith) in
    let other = get_or-map lines_of_stretch ms j z d j_in in
    let a : (get_or (map lines_of_stretch ms) i d).first ≡ (get_or ms i z).first = ap (λ l. l.first) one in
    let b : (get_or (map lines_of_stretch ms) i d).lines ≡ (get_or ms i z).end - (get_or ms i z).first = ap (λ l. l.lines) one in
    let c : (get_or (map lines_of_stretch ms) j d).first ≡ (get_or ms j z).first = ap (λ l. l.first) other in
    let far : (get_or ms i z).end < (get_or ms j z).first = apart i j z lt j_in in
    let pos : (get_or ms i z).first < (get_or ms i z).end = some i z (omega arith) in
    omega arith

pub ranges_lines : (kind : Bool) (xs : List Segment) (ms : List NumberRange) → AreSearchable xs → AreNumberRanges ms → ((n : ℕ) → have ms n ≡ have (filter_map (lines_of_kind kind) xs) n) → AreRanges (map lines_of_stretch ms)
ranges_lines kind xs ms s h same =
    let z : NumberRange = record { first = 0; end = 0 } in
    let low = stays_low (2 ^ 26) (filter_map (lines_of_kind kind) xs) ms (lines_low kind xs s) h same in
    record {
      some = λ k d in_k.
          let k_in : k < length ms = omega (arith, length-map ms lines_of_stretch) in
          let b : (get_or (map lines_of_stretch ms) k d).lines ≡ (get_or ms k z).end - (get_or ms k z).first = ap (λ l. l.lines) (get_or-map lines_of_stretch ms k z d k_in) in
          let pos : (get_or ms k z).first < (get_or ms k z).end = h.some k z k_in in
          omega arith;
      low = λ k d in_k.
          let k_in : k < length ms = omega (arith, length-map ms lines_of_stretch) in
          let a : (get_or (map lines_of_stretch ms) k d).first ≡ (get_or ms k z).first = ap (λ l. l.first) (get_or-map lines_of_stretch ms k z d k_in) in
          let b : (get_or (map lines_of_stretch ms) k d).lines ≡ (get_or ms k z).end - (get_or ms k z).first = ap (λ l. l.lines) (get_or-map lines_of_stretch ms k z d k_in) in
          let pos : (get_or ms k z).first < (get_or ms k z).end = h.some k z k_in in
          let end : (get_or ms k z).end ≤ 2 ^ 26 = low k z k_in in
          omega arith;
      ascending = λ i j d lt in_j.
          let j_in : j < length ms = omega (arith, length-map ms lines_of_stretch) in
          let one = get_or-map lines_of_stretch ms i z d (omega arith) in
          let other = get_or-map lines_of_stretch ms j z d j_in in
          let a : (get_or (map lines_of_stretch ms) i d).first ≡ (get_or ms i z).first = ap (λ l. l.first) one in
          let b : (get_or (map lines_of_stretch ms) i d).lines ≡ (get_or ms i z).end - (get_or ms i z).first = ap (λ l. l.lines) one in
          let c : (get_or (map lines_of_stretch ms) j d).first ≡ (get_or ms j z).first = ap (λ l. l.first) other in
          let far : (get_or ms i z).end ≤ (get_or ms j z).first = h.ascending i j z lt j_in in
          let pos : (get_or ms i z).first < (get_or ms i z).end = h.some i z (omega arith) in
          omega arith;
    }

-- the classes of the lines of a kind
abbrev pub classes_of : Bool → Class → Bool
classes_of true c = is_shared c
classes_of false c = is_read_only c

no_class : (kind b : Bool) → classes_of kind (cond b Private (segment_class None)) ≡ false
no_class true true = refl
no_class true false = refl
no_class false true = refl
no_class false false = refl

writable_class : (b : Bool) → is_shared (cond b Shared ReadOnly) ≡ b
writable_class true = refl
writable_class false = refl

fixed_class : (b : Bool) → is_read_only (cond b Shared ReadOnly) ≡ not b
fixed_class true = refl
fixed_class false = refl

kind_class : (kind : Bool) (s : Segment) → classes_of kind (segment_class (Some s)) ≡ is_of_kind kind s
kind_class true s = writable_class (is_writable s)
kind_class false s = fixed_class (is_writable s)

kind_line : (kind : Bool) (line : ℕ) (s : Segment) → is_private line ≡ false → classes_of kind (cond (is_private line) Private (segment_class (Some s))) ≡ is_of_kind kind s
kind_line kind line s out = ap (λ b. classes_of kind (cond b Private (segment_class (Some s)))) out ∙ kind_class kind s

and_true : (b : Bool) → (b && true) ≡ b
and_true true = refl
and_true false = refl

-- a line of a segment is below the private window
low_line : (s : Segment) (line : ℕ) → is_too_high s ≡ false → touches line s ≡ true → is_private line ≡ false
low_line s line low t =
    let some : has_memory s ≡ true = (and_parts _ _ t).0 in
    let end : s.vaddr + s.memsz ≤ 0x7fff0000 = high_end s some low in
    let in_s : 64 * line < s.vaddr + s.memsz = ltb-true _ _ (and_parts _ _ (and_parts _ _ t).1).1 in
    and_left (nat_le 0x1fffc00 line) (nat_lt line 0x2000000) (lt-leb _ _ (omega arith))

not_private : (e : Elf) (line : ℕ) (s : Segment) → NoRuleBelow e 15 → find (touches line) e.segments ≡ Some s → is_private line ≡ false
not_private e line s none is =
    let at = find_some (touches line) e.segments s is in
    let low : is_too_high s ≡ false = ap is_too_high (sym at.1.2) ∙ not_high e none at.1.0 s at.1.1 in
    low_line s line low at.0

-- a line of these classes is a line of a segment of the kind
class_found : (kind : Bool) (e : Elf) (line : ℕ) → NoRuleBelow e 15 → (o : Option Segment) → find (touches line) e.segments ≡ o → classes_of kind (cond (is_private line) Private (segment_class o)) ≡ option_map_or (is_of_kind kind) o false
class_found kind e line none None is = no_class kind (is_private line)
class_found kind e line none (Some s) is = kind_line kind line s (not_private e line s none is)

class_is : (kind : Bool) (e : Elf) (line : ℕ) → NoRuleBelow e 15 → classes_of kind (class_of_line e line) ≡ option_map_or (is_of_kind kind) (find (touches line) e.segments) false
class_is kind e line none = class_found kind e line none (find (touches line) e.segments) refl

any_found : (kind : Bool) (line : ℕ) (xs : List Segment) → AreSearchable xs → list_any (has_line kind line) xs ≡ option_map_or (has_line kind line) (find (touches line) xs) false
any_found kind line xs h = any_only (has_line kind line) (touches line) xs (λ k d lt s. (and_parts _ _ s).1) (one_touches xs line h.apart)

found_has : (kind : Bool) (line : ℕ) (xs : List Segment) (o : Option Segment) → find (touches line) xs ≡ o → option_map_or (has_line kind line) o false ≡ option_map_or (is_of_kind kind) o false
found_has kind line xs None is = refl
found_has kind line xs (Some s) is = let t = (find_some (touches line) xs s is).0 in rw t (and_true (is_of_kind kind s))

pub ranges_are : (kind : Bool) (e : Elf) (xs : List Segment) (rs : List Lines) → are_placed e.segments ≡ true → IsPermutation (filter has_memory e.segments) xs → AreSearchable xs → IsAcceptable e → ((line : ℕ) → is_in rs line ≡ list_any (has_line kind line) xs) → AllPairs (λ r q. r.first + r.lines < q.first) rs → AreRangesOf (classes_of kind) e rs
ranges_are kind e xs rs placed same h ok lines apart = record {
  lines = λ line.
      lines line
      ∙ any_found kind line xs h
      ∙ found_has kind line xs (find (touches line) xs) refl
      ∙ ap (λ o. option_map_or (is_of_kind kind) o false) (touches_same e.segments xs line placed same h)
      ∙ sym (class_is kind e line (none_below e ok));
  apart = apart;
}
