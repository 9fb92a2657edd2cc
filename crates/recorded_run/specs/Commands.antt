-- The commands of `monitor`, by their texts.
use Rattle.std.specs.Prelude.{ℕ, ◌+◌, ◌-◌, ◌*◌, ◌^◌, ◌&&◌, nat_lt, nat_le, if◌then◌else◌, List, [], ◌∷◌, length, drop, take, Option, Some, None, option_and_then, bytes_eq, codes}
use Rattle.gdb_session.specs.gdb_remote.Hexadecimal.{digit_value}
use Rattle.recorded_run.specs.declared.command.Command.{Command}
use Rattle.recorded_run.specs.declared.command.Command.TheVariants.{Where, Output, Node, Block, Miss, BackToWrite, Unknown}

-- what stands after this beginning of a text, if the text begins so
abbrev pub behind : List ℕ → List ℕ → Option (List ℕ)
behind head text =
    if bytes_eq (take (length head) text) head then Some (drop (length head) text) else None

-- a number of one or two decimal digits
abbrev pub digit_of : ℕ → Option ℕ
digit_of c = if nat_le 48 c && nat_le c 57 then Some (c - 48) else None

abbrev pub node_of : List ℕ → Option ℕ
node_of (c ∷ []) = digit_of c
node_of (c ∷ d ∷ []) =
    option_and_then (λ tens. option_and_then (λ ones. Some (10 * tens + ones)) (digit_of d))
    (digit_of c)
node_of text = None

-- the number that hexadecimal digits write after those of a number, if it has at most 32 bits
abbrev pub number_behind : ℕ → List ℕ → Option ℕ
number_behind n [] = Some n
number_behind n (c ∷ cs) =
    if nat_lt n (2 ^ 28)
    then option_and_then (λ d. number_behind (16 * n + d) cs) (digit_value c)
    else None

-- the number that a text writes, which has one digit at least
abbrev pub number_of : List ℕ → Option ℕ
number_of [] = None
number_of (c ∷ cs) = number_behind 0 (c ∷ cs)

-- an address in hexadecimal digits after `0x`
abbrev pub address_of : List ℕ → Option ℕ
address_of text = option_and_then number_of (behind (codes "0x") text)

-- a command with an argument
abbrev pub about_node : List ℕ → Option Command
about_node text =
    option_and_then (λ rest. option_and_then (λ i. Some (Node i)) (node_of rest))
    (behind (codes "node ") text)

abbrev pub about_block : List ℕ → Option Command
about_block text =
    option_and_then (λ rest. option_and_then (λ a. Some (Block a)) (address_of rest))
    (behind (codes "block ") text)

abbrev pub about_write : List ℕ → Option Command
about_write text =
    option_and_then (λ rest. option_and_then (λ a. Some (BackToWrite a)) (address_of rest))
    (behind (codes "back-to-write ") text)

-- the first of two that there is
abbrev pub or_else : Option Command → Option Command → Option Command
or_else None other = other
or_else (Some command) other = Some command

abbrev pub unless_none : Option Command → Command
unless_none None = Unknown
unless_none (Some command) = command

-- the command that a text says
abbrev pub command_of : List ℕ → Command
command_of text =
    if bytes_eq text (codes "where") then Where
    else if bytes_eq text (codes "output") then Output
    else if bytes_eq text (codes "miss") then Miss
    else unless_none (or_else (about_node text) (or_else (about_block text) (about_write text)))
