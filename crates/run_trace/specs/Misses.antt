-- Misses: words that ask for a block.
use Rattle.std.specs.Prelude.{Bool, false, List}
use Rattle.std.specs.List.{list_any}
use Rattle.replay.specs.node_machine.declared.wanted.Wanted.{Wanted}
use Rattle.run_trace.specs.Traced.{What, Word, Taken}

-- one of the wants asks for its block
abbrev pub one_asks : List Wanted → Bool
one_asks ws = list_any (λ (w : Wanted). w.asks) ws

-- a word that asks for a block
abbrev pub is_miss : What → Bool
is_miss (Word w) = one_asks w.wants
is_miss (Taken t) = false
