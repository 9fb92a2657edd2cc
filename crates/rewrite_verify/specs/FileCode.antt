-- The rewritten words that a file has, and the first that isn't that of an image.
use Rattle.std.specs.Prelude.{◌≡◌, ◌≢◌, ℕ, ◌*◌, ◌<◌, ◌⊎◌, List, [], ◌∷◌, length, take, drop}
use Rattle.elf32_read.specs.Elf.{Elf, Segment}
use Rattle.rewriter.specs.jump_map.Image.{Cell, image_base, address_of_word}
use Rattle.rewriter.specs.RewrittenFile.{code_bytes, segment_with}

-- the segments after the original's
abbrev pub later_segments : Elf → Elf → List Segment
later_segments original e = drop (length original.segments) e.segments

-- they are the one segment of so many rewritten words, with these bytes
pub record HasWords (original e : Elf) (count : ℕ) (bytes : List ℕ) : Type 0 where
  pub one : later_segments original e ≡ segment_with bytes ∷ []
  pub long : length bytes ≡ 4 * count

-- the bytes of the word of a number
abbrev pub bytes_of_word : List ℕ → ℕ → List ℕ
bytes_of_word bytes k = take 4 (drop (4 * k) bytes)

-- this is the number of the first word that differs from the wanted one
pub record IsFirstOther (bytes wanted : List ℕ) (number : ℕ) : Type 0 where
  pub within : 4 * number < length wanted
  pub same : (k : ℕ) → k < number → bytes_of_word bytes k ≡ bytes_of_word wanted k
  pub differs : bytes_of_word bytes number ≢ bytes_of_word wanted number

-- the segments after the original's aren't one of as many rewritten words as the image has: the
-- address is that of its first word
pub record HasNoWords (original e : Elf) (image : List Cell) (a : ℕ) : Type 0 where
  pub none : (bytes : List ℕ) → HasWords original e (length image) bytes → ⊥
  pub first : a ≡ image_base

-- they are, and this is the address of the first word that isn't the image's
pub record HasOtherWord (original e : Elf) (image : List Cell) (a : ℕ) : Type 0 where
  pub bytes : List ℕ
  pub words : HasWords original e (length image) bytes
  pub number : ℕ
  pub other : IsFirstOther bytes (code_bytes image) number
  pub there : a ≡ address_of_word number

abbrev pub HasBadWord : Elf → Elf → List Cell → ℕ → Type 0
HasBadWord original e image a = HasNoWords original e image a ⊎ HasOtherWord original e image a
