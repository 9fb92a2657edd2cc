-- Each word is found, since none is the beginning of another.
use Rattle.std.proofs.Common.{◌≡◌, ℕ, List, ◌++◌, Some, refl}
use Rattle.gdb_remote.specs.declared.words.Keyword.{Keyword}
use Rattle.gdb_remote.specs.declared.words.Keyword.TheVariants.{Status, Registers, Register, Memory, Features, Description, Threads, MoreThreads, ThreadText, IsAlive, CurrentThread, Attached, Actions, Choose, ChooseToMove, SetPoint, ClearPoint, NoAcknowledgements, Act, Continue, ContinueWith, Step, StepWith, ContinueBack, StepBack, Monitor, Detach, Kill, WriteRegisters, WriteRegister, WriteMemory, WriteBytes}
use Rattle.gdb_remote.specs.Words.{all_words, found_word, word_text}

pub found : (w : Keyword) (rest : List ℕ) → found_word all_words (word_text w ++ rest) ≡ Some (w, rest)
unfolding all_words
found Status rest = refl
found Registers rest = refl
found Register rest = refl
found Memory rest = refl
found Features rest = refl
found Description rest = refl
found Threads rest = refl
found MoreThreads rest = refl
found ThreadText rest = refl
found IsAlive rest = refl
found CurrentThread rest = refl
found Attached rest = refl
found Actions rest = refl
found Choose rest = refl
found ChooseToMove rest = refl
found SetPoint rest = refl
found ClearPoint rest = refl
found NoAcknowledgements rest = refl
found Act rest = refl
found Continue rest = refl
found ContinueWith rest = refl
found Step rest = refl
found StepWith rest = refl
found ContinueBack rest = refl
found StepBack rest = refl
found Monitor rest = refl
found Detach rest = refl
found Kill rest = refl
found WriteRegisters rest = refl
found WriteRegister rest = refl
found WriteMemory rest = refl
found WriteBytes rest = refl
