-- The segments of the lines so far.
use Rattle.std.proofs.Common.{◌≡◌, ℕ, ◌+◌, ◌-◌, ◌≤◌, List, [], ◌∷◌, ◌++◌, append_assoc, length, length-append, take, drop, map, Option, None, Some, false, refl, sym, ap, ◌∙◌, subst, arith}
use Rattle.std.specs.Prelude.{unwrap_or, All}
use Rattle.std.specs.Option.{option_map}
use Rattle.std.specs.List.{concat}
use Rattle.std.proofs.Math.Seq.{take-add, take-append_seam, drop-append_seam}
use Rattle.std.proofs.lemmas.List.{take_all, append-nil, drop-drop, append_cancel_left, map-append}
use Rattle.std.proofs.lemmas.List.Folds.{concat-append}
use Rattle.std.proofs.lemmas.List.Elements.{All-nil, All-cons, All-append}
use Rattle.elf32_read.specs.Elf.{Segment as AssembledSegment}
use Rattle.rv32_lines.specs.Statements.{Statement, Nothing, Segment, Label, Bytes, Word, Space, Zero, Entry, Instruction, Unread}
use Rattle.rv32_lines.specs.Reading.{IsReadStatement, AreReadStatements}
use Rattle.rv32_lines.specs.declared.statements.Statement.{Statement as ReadStatement}
use Rattle.rv32_lines.specs.declared.statements.Statement.TheVariants as said
use Rattle.rv32_asm.specs.declared.places.SegmentsSoFar.{SegmentsSoFar as ReadPlace}
use Rattle.rv32_asm.specs.declared.assembled.AssembledSegment.{AssembledSegment as Part}
use Rattle.rv32_asm.specs.Places.{Open, SegmentsSoFar, appends, with_bytes, with_zeros, behind, first_place, place_behind}
use Rattle.rv32_asm.specs.Assembling.{Pieces, with_line, pieces_of}
use Rattle.rv32_asm.specs.Pieces.{IsWithin, segment_of}
use Rattle.rv32_asm.specs.Standing.{place_of, AreFitting, ArePieces, closed, closed_by}
use Rattle.rv32_asm.proofs.Going.{Cut, place_next, place_more, lengths}
use Rattle.rv32_asm.proofs.Limits.{HasBytes, has_bytes}

abbrev segment_at : (flags start size : ℕ) → List ℕ → AssembledSegment
segment_at flags start size bytes = record { flags = flags; vaddr = start; memsz = size; bytes = bytes }

same_segment : (flags start a b : ℕ) (x y : List ℕ) → a ≡ b → x ≡ y
    → ◌≡◌ {A = AssembledSegment} (record { flags = flags; vaddr = start; memsz = a; bytes = x })
    (record { flags = flags; vaddr = start; memsz = b; bytes = y })
same_segment flags start a b x y e f = cc (e, f)

-- the segments from a place on, by what the lines behind it make: the open segment takes the bytes
-- and the zeros before the next one
abbrev from_by : List ℕ → ℕ → Option Open → Pieces → List AssembledSegment
from_by all n None tail = tail.segments
from_by all n (Some o) tail =
    record {
      flags = o.flags;
      vaddr = o.start;
      memsz = o.bytes + length tail.bytes + (o.zeros + tail.zeros);
      bytes = take o.bytes (drop (n - o.bytes) all) ++ tail.bytes;
    }
    ∷ tail.segments

abbrev from_place : List ℕ → SegmentsSoFar → Pieces → List AssembledSegment
from_place all p tail = from_by all p.appended p.last tail

appended_step : (all bytes : List ℕ) (n count : ℕ) (last : Option Open) (tail : Pieces) → HasBytes n last
    → length bytes ≡ count → take count (drop n all) ≡ bytes
    → from_by all n last (record { bytes = bytes ++ tail.bytes; zeros = tail.zeros; segments = tail.segments })
    ≡ from_by all (n + count) (option_map (with_bytes count) last) tail
appended_step all bytes n count None tail has e is = refl
appended_step all bytes n count (Some o) tail has e is =
    let m = n - o.bytes in
    let from : n + count - (o.bytes + count) ≡ m = omega (arith, has) in
    let to : m + o.bytes ≡ n = omega (arith, has) in
    let parts : take (o.bytes + count) (drop m all) ≡ take o.bytes (drop m all) ++ bytes =
    take-add o.bytes count (drop m all)
    ∙ ap (λ t. take o.bytes (drop m all) ++ t)
    (ap (take count) (drop-drop o.bytes m all ∙ ap (λ k. drop k all) to) ∙ is) in
    ap (λ (t : AssembledSegment). t ∷ tail.segments)
    (same_segment o.flags o.start _ _ _ _ (omega (arith, length-append bytes tail.bytes, e))
    (sym (append_assoc (take o.bytes (drop m all)) bytes tail.bytes)
    ∙ ap (λ t. t ++ tail.bytes) (sym parts ∙ ap (λ k. take (o.bytes + count) (drop k all)) (sym from))))

zeros_step : (all bytes : List ℕ) (n count : ℕ) (last : Option Open) (tail : Pieces)
    → from_by all n last (record { bytes = tail.bytes; zeros = count + tail.zeros; segments = tail.segments })
    ≡ from_by all n (option_map (with_zeros count) last) tail
zeros_step all bytes n count None tail = refl
zeros_step all bytes n count (Some o) tail =
    ap (λ (t : AssembledSegment). t ∷ tail.segments) (same_segment o.flags o.start _ _ _ _ (omega arith) refl)

none_step : (all bytes : List ℕ) (n : ℕ) (last : Option Open) (tail : Pieces) → length bytes ≡ 0
    → from_by all n last (record
    { bytes = bytes ++ tail.bytes; zeros = tail.zeros; segments = tail.segments }) ≡ from_by all n last tail
none_step all [] n last tail e = refl
none_step all (b ∷ bytes) n last tail e = absurd (omega (arith, e))

segment_step : (all bytes : List ℕ) (n flags start : ℕ) (last : Option Open) (tail : Pieces) → HasBytes n last
    → from_by all n last (with_line (Segment flags start) bytes tail)
    ≡ map (segment_of all) (closed_by n last)
    ++ from_by all n (Some (record { flags = flags; start = start; bytes = 0; zeros = 0; is_closed = false })) tail
segment_step all bytes n flags start None tail has =
    ap (λ (t : AssembledSegment). t ∷ tail.segments) (same_segment flags start _ _ _ _ (omega arith) refl)
segment_step all bytes n flags start (Some o) tail has =
    let m = n - o.bytes in
    let count : n - m ≡ o.bytes = omega (arith, has) in
    let next : AssembledSegment = segment_at flags start (length tail.bytes + tail.zeros) tail.bytes in
    ap (λ (t : AssembledSegment). t ∷ next ∷ tail.segments)
    (same_segment o.flags o.start _ _ _ _ (omega arith)
    (append-nil (take o.bytes (drop m all)) ∙ ap (λ k. take k (drop m all)) (sym count)))
    ∙ ap (λ (t : AssembledSegment). segment_of all
    (record { flags = o.flags; start = o.start; size = o.bytes + o.zeros; first = m; end = n }) ∷ t ∷ tail.segments)
    (same_segment flags start _ _ _ _ (omega arith) refl)

-- what a statement closes
abbrev pub closed_before : SegmentsSoFar → Statement → List Part
closed_before p (Segment flags start) = closed p
closed_before p s = []

line_step : (all bytes : List ℕ) (p : SegmentsSoFar) (s : Statement) (tail : Pieces) → HasBytes p.appended p.last
    → length bytes ≡ unwrap_or (appends s) 0
    → take (length bytes) (drop p.appended all) ≡ bytes
    → from_place all p (with_line s bytes tail) ≡ map (segment_of all) (closed_before p s) ++ from_place all
    (behind p s) tail
line_step all bytes p (Segment flags start) tail has e is =
    segment_step all bytes p.appended flags start p.last tail has
line_step all bytes p (Zero count) tail has e is = zeros_step all bytes p.appended count p.last tail
line_step all bytes p (Bytes b) tail has e is =
    appended_step all bytes p.appended (length b) p.last tail has e
    (ap (λ k. take k (drop p.appended all)) (sym e) ∙ is)
line_step all bytes p (Word w) tail has e is =
    appended_step all bytes p.appended 4 p.last tail has e (ap (λ k. take k (drop p.appended all)) (sym e) ∙ is)
line_step all bytes p (Space count) tail has e is =
    appended_step all bytes p.appended count p.last tail has e (ap (λ k. take k (drop p.appended all)) (sym e) ∙ is)
line_step all bytes p (Instruction w) tail has e is =
    appended_step all bytes p.appended 4 p.last tail has e (ap (λ k. take k (drop p.appended all)) (sym e) ∙ is)
line_step all bytes p Nothing tail has e is = none_step all bytes p.appended p.last tail e
line_step all bytes p (Label name) tail has e is = none_step all bytes p.appended p.last tail e
line_step all bytes p (Entry name) tail has e is = none_step all bytes p.appended p.last tail e
line_step all bytes p Unread tail has e is = none_step all bytes p.appended p.last tail e

-- the bytes that are appended so far
appended_more : (p : SegmentsSoFar) (s : Statement) → (behind p s).appended ≡ p.appended + unwrap_or (appends s) 0
appended_more p Nothing = omega arith
appended_more p (Segment flags start) = omega arith
appended_more p (Label name) = omega arith
appended_more p (Bytes bytes) = refl
appended_more p (Word word) = refl
appended_more p (Space count) = refl
appended_more p (Zero count) = omega arith
appended_more p (Entry name) = omega arith
appended_more p (Instruction w) = refl
appended_more p Unread = omega arith

-- the segments of the lines so far, and those of the lines that are left
pub record PiecesSoFar (all : List Statement) (appended : List (List ℕ)) (line : ℕ) (place : ReadPlace)
    (pieces : List Part) : Type 0 where
  pub place_is : place_of place ≡ place_behind (take line all)
  pub rest : List Statement
  pub past : List (List ℕ)
  pub more : List (List ℕ)
  pub all_are : all ≡ take line all ++ rest
  pub appended_are : appended ≡ past ++ more
  pub count : (place_behind (take line all)).appended ≡ length (concat past)
  pub fit : AreFitting rest more
  pub whole : (pieces_of all appended).segments
      ≡ map (segment_of (concat appended)) pieces ++ from_place (concat appended) (place_behind (take line all))
      (pieces_of rest more)
  pub within : All (IsWithin (concat appended)) pieces

pub pieces_first : (all : List Statement) (appended : List (List ℕ)) (place : ReadPlace) → place_of place ≡ first_place
    → AreFitting all appended
    → PiecesSoFar all appended 0 place []
pieces_first all appended place e fit = record {
  place_is = e;
  rest = all;
  past = [];
  more = appended;
  all_are = refl;
  appended_are = refl;
  count = refl;
  fit = fit;
  whole = refl;
  within = All-nil (IsWithin (concat appended));
}

fit_cons : (s : Statement) (ss : List Statement) (more : List (List ℕ)) → AreFitting (s ∷ ss) more
    → (bytes : List ℕ) × (left : List (List ℕ)) × (more ≡ bytes ∷ left) × (length bytes ≡ unwrap_or (appends s)
    0) × AreFitting ss left
fit_cons s ss [] h = absurd h
fit_cons s ss (bytes ∷ left) h = (bytes, left, refl, h.0, h.1)

within_by : (all : List ℕ) (n : ℕ) (last : Option Open) → HasBytes n last → n ≤ length all
    → All (IsWithin all) (closed_by n last)
within_by all n None has end = All-nil (IsWithin all)
within_by all n (Some o) has end =
    let low : n - o.bytes ≤ n = omega arith in
    All-cons (IsWithin all)
    (record { flags = o.flags; start = o.start; size = o.bytes + o.zeros; first = n - o.bytes; end = n }) []
    (low, end) (All-nil (IsWithin all))

within_before : (all : List ℕ) (p : SegmentsSoFar) (s : Statement) → HasBytes p.appended p.last → p.appended ≤ length all
    → All (IsWithin all) (closed_before p s)
within_before all p (Segment flags start) has end = within_by all p.appended p.last has end
within_before all p Nothing has end = All-nil (IsWithin all)
within_before all p (Label name) has end = All-nil (IsWithin all)
within_before all p (Bytes bytes) has end = All-nil (IsWithin all)
within_before all p (Word word) has end = All-nil (IsWithin all)
within_before all p (Space count) has end = All-nil (IsWithin all)
within_before all p (Zero count) has end = All-nil (IsWithin all)
within_before all p (Entry name) has end = All-nil (IsWithin all)
within_before all p (Instruction w) has end = All-nil (IsWithin all)
within_before all p Unread has end = All-nil (IsWithin all)

-- a line's bytes among all
bytes_at : (past left : List (List ℕ)) (bytes : List ℕ) (n : ℕ) (appended : List (List ℕ))
    → appended ≡ past ++ bytes ∷ left → n ≡ length (concat past)
    → take (length bytes) (drop n (concat appended)) ≡ bytes
bytes_at past left bytes n appended e at =
    let joined : concat appended ≡ concat past ++ (bytes ++ concat left) =
    ap concat e ∙ concat-append past (bytes ∷ left) in
    ap (λ t. take (length bytes) (drop n t)) joined
    ∙ ap (λ k. take (length bytes) (drop k (concat past ++ (bytes ++ concat left)))) at
    ∙ ap (take (length bytes)) (drop-append_seam (concat past) (bytes ++ concat left))
    ∙ take-append_seam bytes (concat left)

past_low : (past more appended : List (List ℕ)) → appended ≡ past ++ more
    → length (concat past) ≤ length (concat appended)
past_low past more appended e =
    omega (arith, ap length (ap concat e ∙ concat-append past more), length-append (concat past) (concat more))

pub pieces_next : (items : List ReadStatement) (all : List Statement) (appended : List (List ℕ)) (line : ℕ)
    (x : ReadStatement) (p q : ReadPlace) (pieces next : List Part)
    → (c : Cut items all line x) → PiecesSoFar all appended line p pieces
    → ((s : Statement) → IsReadStatement x s → place_of q ≡ behind (place_of p) s)
    → next ≡ pieces ++ closed_before (place_of p) c.statement → PiecesSoFar all appended (line + 1) q next
pieces_next items all appended line x p q pieces next c h place is =
    let before = take line all in
    let here = place_behind before in
    let whole = concat appended in
    let rest_is : h.rest ≡ c.statement ∷ c.rest =
    append_cancel_left before h.rest (c.statement ∷ c.rest) (sym h.all_are ∙ c.all_are) in
    let m = fit_cons c.statement c.rest h.more (subst (λ (ss : List Statement). AreFitting ss h.more) rest_is h.fit) in
    let bytes = m.0 in
    let left = m.1 in
    let has : HasBytes here.appended here.last = has_bytes before in
    let cut : appended ≡ h.past ++ bytes ∷ left = h.appended_are ∙ ap (λ t. h.past ++ t) m.2 in
    let step = line_step whole bytes here c.statement (pieces_of c.rest left) has m.3
    (bytes_at h.past left bytes here.appended appended cut h.count) in
    let now : next ≡ pieces ++ closed_before here c.statement =
    is ∙ ap (λ (y : SegmentsSoFar). pieces ++ closed_before y c.statement) h.place_is in
    let there : place_behind (take (line + 1) all) ≡ behind here c.statement =
    ap place_behind c.more ∙ place_more before c.statement in
    let joined : concat (h.past ++ bytes ∷ []) ≡ concat h.past ++ bytes =
    concat-append h.past (bytes ∷ []) ∙ ap (λ t. concat h.past ++ t) (append-nil bytes) in
    let mapped : map (segment_of whole) next ≡ map (segment_of whole) pieces ++ map (segment_of whole)
    (closed_before here c.statement) =
    ap (map (segment_of whole)) now ∙ map-append (segment_of whole) pieces (closed_before here c.statement) in
    record {
      place_is = place_next items all line x p q c h.place_is place;
      rest = c.rest;
      past = h.past ++ bytes ∷ [];
      more = left;
      all_are = c.all_are ∙ sym (append_assoc before (c.statement ∷ []) c.rest) ∙ ap (λ t. t ++ c.rest) (sym c.more);
      appended_are = cut ∙ sym (append_assoc h.past (bytes ∷ []) left);
      count = omega (
        arith,
        ap (λ (y : SegmentsSoFar). y.appended) there,
        appended_more here c.statement,
        h.count,
        m.3,
        ap length joined,
        length-append (concat h.past) bytes,
      );
      fit = m.4;
      whole = h.whole
          ∙ ap (λ (ss : List Statement). map (segment_of whole) pieces ++ from_place whole here (pieces_of ss h.more))
          rest_is
          ∙ ap (λ (bs : List (List ℕ)). map (segment_of whole) pieces ++ from_place whole here
          (pieces_of (c.statement ∷ c.rest) bs)) m.2
          ∙ ap (λ t. map (segment_of whole) pieces ++ t) step
          ∙ sym (append_assoc (map (segment_of whole) pieces) (map (segment_of whole) (closed_before here c.statement))
          (from_place whole (behind here c.statement) (pieces_of c.rest left)))
          ∙ ap (λ t. t ++ from_place whole (behind here c.statement) (pieces_of c.rest left)) (sym mapped)
          ∙ ap (λ (y : SegmentsSoFar). map (segment_of whole) next ++ from_place whole y (pieces_of c.rest left)) (sym there);
      within = subst (All (IsWithin whole)) (sym now)
          (All-append (IsWithin whole) pieces (closed_before here c.statement) h.within
          (within_before whole here c.statement has
          (omega (arith, h.count, past_low h.past h.more appended h.appended_are))));
    }

end_step : (all : List ℕ) (n : ℕ) (last : Option Open) → HasBytes n last
    → from_by all n last (record { bytes = []; zeros = 0; segments = [] }) ≡ map (segment_of all) (closed_by n last)
end_step all n None has = refl
end_step all n (Some o) has =
    let m = n - o.bytes in
    let count : n - m ≡ o.bytes = omega (arith, has) in
    ap (λ (t : AssembledSegment). t ∷ [])
    (same_segment o.flags o.start _ _ _ _ (omega arith)
    (append-nil (take o.bytes (drop m all)) ∙ ap (λ k. take k (drop m all)) (sym count)))

nothing_left : (front rest : List Statement) → front ≡ front ++ rest → rest ≡ []
nothing_left front rest e = append_cancel_left front rest [] (sym e ∙ sym (append-nil front))

pub pieces_all : (items : List ReadStatement) (all : List Statement) (appended : List (List ℕ)) (line : ℕ)
    (p : ReadPlace) (pieces next : List Part) → AreReadStatements items all
    → length items ≤ line → PiecesSoFar all appended line p pieces → next ≡ pieces ++ closed (place_of p)
    → ArePieces all appended next
pieces_all items all appended line p pieces next r end h is =
    let front = take line all in
    let here = place_behind front in
    let whole = concat appended in
    let full : front ≡ all = take_all line all (omega (arith, lengths items all r, end)) in
    let none : h.rest ≡ [] = nothing_left front h.rest (full ∙ h.all_are) in
    let now : next ≡ pieces ++ closed here = is ∙ ap (λ (y : SegmentsSoFar). pieces ++ closed y) h.place_is in
    let has : HasBytes here.appended here.last = has_bytes front in
    record {
      segments_are = ap (map (segment_of whole)) now
          ∙ map-append (segment_of whole) pieces (closed here)
          ∙ ap (λ t. map (segment_of whole) pieces ++ t) (sym (end_step whole here.appended here.last has))
          ∙ ap (λ (ss : List Statement). map (segment_of whole) pieces ++ from_place whole here (pieces_of ss h.more))
          (sym none)
          ∙ sym h.whole;
      within = subst (All (IsWithin whole)) (sym now)
          (All-append (IsWithin whole) pieces (closed here) h.within
          (within_by whole here.appended here.last has
          (omega (arith, h.count, past_low h.past h.more appended h.appended_are))));
    }

-- whether a line closes a segment
pub closed_none : (p : SegmentsSoFar) (x : ReadStatement) (s : Statement) → IsReadStatement x s
    → ((flags start : ℕ) → x ≡ said.Segment flags start → ⊥) → closed_before p s ≡ []
closed_none p (said.Segment a b) s r other = absurd (other a b refl)
closed_none p x Nothing r other = refl
closed_none p x (Label a) r other = refl
closed_none p x (Bytes a) r other = refl
closed_none p x (Word a) r other = refl
closed_none p x (Space a) r other = refl
closed_none p x (Zero a) r other = refl
closed_none p x (Entry a) r other = refl
closed_none p x (Instruction a) r other = refl
closed_none p x Unread r other = refl
closed_none p said.Nothing (Segment a b) r other = absurd r
closed_none p (said.Label n) (Segment a b) r other = absurd r
closed_none p (said.Bytes n) (Segment a b) r other = absurd r
closed_none p (said.Word n) (Segment a b) r other = absurd r
closed_none p (said.Space n) (Segment a b) r other = absurd r
closed_none p (said.Zero n) (Segment a b) r other = absurd r
closed_none p (said.Entry n) (Segment a b) r other = absurd r
closed_none p (said.Instruction n) (Segment a b) r other = absurd r
closed_none p said.Unread (Segment a b) r other = absurd r

pub closed_some : (p : SegmentsSoFar) (flags start : ℕ) (s : Statement) → IsReadStatement (said.Segment flags start) s
    → closed p ≡ closed_before p s
closed_some p flags start (Segment a b) r = refl
closed_some p flags start s r = absurd r
