use Rattle.std.proofs.Common.{◌≡◌, ◌/◌, ◌%◌, ◌^◌, get_or, refl}
use Rattle.byte_range.proofs.ByteLemmas.{store_byte, store_half, store_word}
use Rattle.byte_range.proofs.bytes.store_at.Goals as goal

pub returns-in-Byte : goal.returns-in-Byte
returns-in-Byte c =
    let v = c.args.value in
    let b0 : get_or c.to_le_bytes.result 0 0 ≡ v % 2 ^ 8 = rw c.to_le_bytes.ensures refl in
    let within = rw c.in-Byte.is at c.requires in
    rw c.in-Byte.is (store_byte c.args.bytes.now c.args.at v _ within b0)

pub returns-in-Half : goal.returns-in-Half
returns-in-Half c =
    let v = c.args.value in
    let b0 : get_or c.to_le_bytes.result 0 0 ≡ v % 2 ^ 8 = rw c.to_le_bytes.ensures refl in
    let b1 : get_or c.to_le_bytes.result 1 0 ≡ v / 2 ^ 8 % 2 ^ 8 = rw c.to_le_bytes.ensures refl in
    let within = rw c.in-Half.is at c.requires in
    rw c.in-Half.is (store_half c.args.bytes.now c.args.at v _ _ within b0 b1)

pub returns-in-Word : goal.returns-in-Word
returns-in-Word c =
    let v = c.args.value in
    let b0 : get_or c.to_le_bytes.result 0 0 ≡ v % 2 ^ 8 = rw c.to_le_bytes.ensures refl in
    let b1 : get_or c.to_le_bytes.result 1 0 ≡ v / 2 ^ 8 % 2 ^ 8 = rw c.to_le_bytes.ensures refl in
    let b2 : get_or c.to_le_bytes.result 2 0 ≡ v / 2 ^ 16 % 2 ^ 8 = rw c.to_le_bytes.ensures refl in
    let b3 : get_or c.to_le_bytes.result 3 0 ≡ v / 2 ^ 24 % 2 ^ 8 = rw c.to_le_bytes.ensures refl in
    let within = rw c.in-Word.is at c.requires in
    rw c.in-Word.is (store_word c.args.bytes.now c.args.at v _ _ _ _ within b0 b1 b2 b3)
