-- A break that is allowed, by the parts of the machine.
use Rattle.std.proofs.Common.{◌≡◌, ℕ, ◌<◌, ◌/◌, ◌&&◌, not, Bool, true, false, Option, Some, None, refl, sym, ap, ◌∙◌, subst}
use Rattle.std.specs.Prelude.{slice_get, is_some, ◌==◌, ◌⊎◌}
use Rattle.rv32_program.specs.declared.Exit.{Exit}
use Rattle.block_layout.specs.Layout.{block_of}
use Rattle.rv32_step.specs.Breaks.{stands_at_store, RunsToStore}
use Rattle.rv32_step.specs.OneMemory.{Original, Processor, MayBreak}
use Rattle.one_memory.specs.declared.processor.Processor.{Processor as ProcessorParts}
use Rattle.one_memory.specs.Machine.{Parts, processor_of, original_of, state_of, reserved_in}
use Rattle.one_memory.specs.Stretches.{reaches_or_stands}
use Rattle.one_memory.proofs.BreakLemmas.{found_runs, all_found}
use Rattle.one_memory.proofs.TurnLemmas.{here}

both : (e : Option Exit) (b : Bool) → (not (is_some e) && b) ≡ true → (e ≡ None) × (b ≡ true)
both None b h = (refl, h)
both (Some e) b h = absurd (cc)

-- the processor is about to store into the block
abbrev IsStoring : Original → ℕ → Processor → Type 0
IsStoring o b q =
    (stands_at_store o.program o.layout b q.registers q.pc ≡ true)
    ⊎ RunsToStore o.program o.layout b q.registers q.pc

abbrev storing : Parts → ProcessorParts → ℕ → Bool
storing h k b =
    not (is_some k.exit)
    && reaches_or_stands (original_of h).program h.memory.layout b (processor_of k).registers (processor_of k).pc

pub may_now : (h : Parts) (p q reserved b : ℕ) (k : ProcessorParts) → (p == q) ≡ false → p < h.count → q < h.count → slice_get h.processors q ≡ Some k → Some reserved ≡ reserved_in h.memory.reserved p → Some b ≡ block_of h.memory.layout (reserved / 64) → storing h k b ≡ true → MayBreak (original_of h) (state_of h) p q
may_now h p q reserved b k other low high is has lies on =
    let o = original_of h in
    let at = here h q k is in
    let parts = both k.exit _ on in
    record {
      other = other;
      among = (low, high);
      runs = ap (λ (x : Processor). x.exit) at ∙ parts.0;
      reserved = reserved;
      has = sym has;
      block = b;
      lies = sym lies;
      stores = subst (IsStoring o b) (sym at) (found_runs o.program o.layout b (processor_of k).registers (processor_of k).pc parts.1);
    }

same_some : (a b : ℕ) → Some a ≡ Some b → a ≡ b
same_some a b is = ap (λ o. unwrap o) is
  where
    unwrap : Option ℕ → ℕ
    unwrap None = 0
    unwrap (Some x) = x

pub not_now : (h : Parts) (p q reserved b : ℕ) (k : ProcessorParts) → slice_get h.processors q ≡ Some k → Some reserved ≡ reserved_in h.memory.reserved p → Some b ≡ block_of h.memory.layout (reserved / 64) → storing h k b ≡ false → MayBreak (original_of h) (state_of h) p q → ⊥
not_now h p q reserved b k is has lies off may =
    let o = original_of h in
    let at = here h q k is in
    let same : reserved ≡ may.reserved = same_some _ _ (has ∙ may.has) in
    let block : may.block ≡ b = same_some _ _ (sym may.lies ∙ sym (ap (λ a. block_of h.memory.layout (a / 64)) same) ∙ sym lies) in
    let runs : k.exit ≡ None = sym (ap (λ (x : Processor). x.exit) at) ∙ may.runs in
    let stores : IsStoring o b (processor_of k) = subst (λ c. IsStoring o c (processor_of k)) block (subst (IsStoring o may.block) at may.stores) in
    let found = all_found o.program o.layout b (processor_of k).registers (processor_of k).pc stores in
    let on : storing h k b ≡ true = ap (λ e. not (is_some e) && reaches_or_stands o.program h.memory.layout b (processor_of k).registers (processor_of k).pc) runs ∙ found in
    let wrong : false ≡ true = sym off ∙ on in
    absurd (cc)
