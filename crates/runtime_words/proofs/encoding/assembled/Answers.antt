use Rattle.std.proofs.Common.{Some, sym, ap, ◌∙◌}
use Rattle.runtime_words.proofs.ReadingLemmas.{reads_native, reads_poll, reads_call, reads_trap_fetch, reads_trap_off, reads_trap_illegal, reads_trap_ebreak}
use Rattle.runtime_words.proofs.encoding.assembled.Goals as goal

pub returns-in-Native : goal.returns-in-Native
returns-in-Native c = record { again = reads_native c.encode.result c.in-Native.i c.encode.ensures.again ∙ ap (λ w. Some w) (sym c.in-Native.is) }

pub returns-in-Poll : goal.returns-in-Poll
returns-in-Poll c = record { again = reads_poll ∙ ap (λ w. Some w) (sym c.in-Poll.is) }

pub returns-in-Call : goal.returns-in-Call
returns-in-Call c = record { again = reads_call ∙ ap (λ w. Some w) (sym c.in-Call.is) }

pub returns-in-TrapFetch : goal.returns-in-TrapFetch
returns-in-TrapFetch c = record { again = reads_trap_fetch ∙ ap (λ w. Some w) (sym c.in-TrapFetch.is) }

pub returns-in-TrapOff : goal.returns-in-TrapOff
returns-in-TrapOff c = record { again = reads_trap_off ∙ ap (λ w. Some w) (sym c.in-TrapOff.is) }

pub returns-in-TrapIllegal : goal.returns-in-TrapIllegal
returns-in-TrapIllegal c = record { again = reads_trap_illegal ∙ ap (λ w. Some w) (sym c.in-TrapIllegal.is) }

pub returns-in-TrapEbreak : goal.returns-in-TrapEbreak
returns-in-TrapEbreak c = record { again = reads_trap_ebreak ∙ ap (λ w. Some w) (sym c.in-TrapEbreak.is) }
