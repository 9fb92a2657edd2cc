-- The nodes at the start keep to the protocol, with the program's first contents as the one memory.
use Rattle.std.proofs.Common.{◌≡◌, ℕ, ◌+◌, ◌%◌, ◌<◌, Bool, true, false, cond, eqb, length, get_or, Some, refl, sym, ap, ◌∙◌, arith}
use Rattle.std.specs.Option.{option_map_or}
use Rattle.rewriting_law.proofs.Names.{Shape, blocks, home, first_line, block_of, Exclusive, Invalid, byte_of, state_with, bytes_from, flag_byte, flags, Shared, line_of, size, address_of, Work, first_state, first_local, is_at_home, opening_core}
use Rattle.dsm_protocol.proofs.Bytes.{same_bytes}
use Rattle.dsm_protocol.proofs.NodeRows.{len_flags}
use Rattle.dsm_protocol.proofs.Openings.{contents_in, block_is, len_from, get_from}
use Rattle.dsm_protocol.proofs.ProtocolSide as world
use Rattle.dsm_protocol.proofs.ByAddress.{bytes_in, flag_at}
use Rattle.rewriting_law.proofs.protocol_side.Directory.{world_of}
use Rattle.rewriting_law.proofs.protocol_side.Blocks.{first_in, Fits}
use Rattle.rewriting_law.proofs.protocol_side.DirectorySide.{Layout, by_list, Held, laid_out}
use Rattle.rewriting_law.proofs.runs.TurnTies.{rest_of, locals_of}
use Rattle.rewriting_law.proofs.protocol_side.Spending.{start_counted}

state_first : (t : Bool) → state_with (first_state Shared t) ≡ cond t Exclusive Invalid
state_first true = refl
state_first false = refl

byte_first : (t : Bool) → first_state Shared t ≡ byte_of (state_with (first_state Shared t))
byte_first true = refl
byte_first false = refl

module _ (work : Work) (lay : Layout work) where
  abbrev layout : Shape
  layout = work.layout

  module _ (i : ℕ) where
    at_home : (line b : ℕ) → block_of layout line ≡ Some b
        → is_at_home layout i line ≡ eqb (home layout b) i
    at_home line b e = ap (λ o. option_map_or (λ d. eqb (home layout d) i) o false) e

    state_is : (line b : ℕ) → block_of layout line ≡ Some b
        → (first_local work i).state line ≡ first_state Shared (eqb (home layout b) i)
    state_is line b e =
        ap (λ c. first_state c (is_at_home layout i line)) ((laid_out work lay).shared line b e)
        ∙ ap (first_state Shared) (at_home line b e)

    -- the bytes of a block at the start
    byte_is : (b k : ℕ) → b < blocks layout → k < size layout b
        → get_or (bytes_in layout (first_local work i).copy b) k 0
        ≡ cond (eqb (home layout b) i) (work.program.first (address_of layout b + k)) (flag_byte k)
    byte_is b k below low =
        let a = address_of layout b + k in
        let there = block_is lay.laws layout lay.valid b k below low in
        get_from (first_local work i).copy (address_of layout b) (size layout b) k low
        ∙ ap (λ t. cond t (work.program.first a) (flag_byte a)) (at_home (line_of a) b there)
        ∙ ap (λ z. cond (eqb (home layout b) i) (work.program.first a) (cond (eqb z 0) 3 255))
        (let z : a % 4 ≡ k % 4 = omega arith in z)

    byte_wanted : (b k : ℕ) → k < size layout b → get_or (cond (eqb (home layout b) i)
        (bytes_from work.program.first (address_of layout b) (size layout b))
        (flags (size layout b))) k 0
        ≡ cond (eqb (home layout b) i) (work.program.first (address_of layout b + k)) (flag_byte k)
    byte_wanted b k low = (elim (eqb (home layout b) i)
        as (λ t. get_or (cond t
        (bytes_from work.program.first (address_of layout b) (size layout b))
        (flags (size layout b))) k 0
        ≡ cond t (work.program.first (address_of layout b + k)) (flag_byte k)) [
          | true ↦ get_from work.program.first (address_of layout b) (size layout b) k low
          | false ↦ flag_at (size layout b) k low
        ])

    bytes_are : (b : ℕ) → b < blocks layout → bytes_in layout (first_local work i).copy b
        ≡ cond (eqb (home layout b) i)
        (bytes_from work.program.first (address_of layout b) (size layout b))
        (flags (size layout b))
    bytes_are b below =
        let len = len_from (first_local work i).copy (address_of layout b) (size layout b) in
        let other : length (cond (eqb (home layout b) i)
        (bytes_from work.program.first (address_of layout b) (size layout b))
        (flags (size layout b))) ≡ size layout b = (elim (eqb (home layout b) i)
        as (λ t. length (cond t
        (bytes_from work.program.first (address_of layout b) (size layout b))
        (flags (size layout b))) ≡ size layout b) [
          | true ↦ len_from work.program.first (address_of layout b) (size layout b)
          | false ↦ len_flags (size layout b)
        ]) in
        same_bytes (bytes_in layout (first_local work i).copy b) (cond (eqb (home layout b) i)
        (bytes_from work.program.first (address_of layout b) (size layout b))
        (flags (size layout b))) (len ∙ sym other) (λ k low.
        let within : k < size layout b = omega (arith, len, low) in
        byte_is b k below within ∙ sym (byte_wanted b k within))

    fits_first : Fits lay.laws layout lay.valid lay.some work.program (first_local work i).state
    fits_first = record {
      block = λ line b e.
          let below = (lay.laws.found layout b line lay.valid e).0 in
          let first = first_in lay.laws layout lay.valid lay.some b below in
          state_is line b e ∙ byte_first (eqb (home layout b) i)
          ∙ ap (λ z. byte_of (state_with z)) (sym (state_is (first_line layout b) b first));
      alone = λ line e.
          ap (first_state (work.program.class line))
          (ap (λ o. option_map_or (λ d. eqb (home layout d) i) o false) e);
    }

  pub opens : Held work lay (locals_of (opening_core work)) (rest_of (opening_core work))
      work.program.first
  opens = record {
    holds = by_list (world.opens lay.laws layout lay.valid lay.laid work.program.first
        (world_of layout (locals_of (opening_core work)) (rest_of (opening_core work))) (record {
          entry = λ i b bi bb. refl;
          waiting = λ i b bi. refl;
          occupancy = λ i bi. refl;
          state = λ i b bi bb.
              ap state_with (state_is i (first_line layout b) b
              (first_in lay.laws layout lay.valid lay.some b bb))
              ∙ state_first (eqb (home layout b) i);
          bytes = λ i b bi bb. bytes_are i b bb;
          wait = λ i b bi bb. refl;
          list = λ j i bj bi. refl;
        }));
    fits = λ i low. fits_first i;
    counted = start_counted layout (contents_in layout work.program.first);
    starts = λ b low. refl;
  }
