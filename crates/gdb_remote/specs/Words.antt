-- The words with which requests begin (GDB manual, 'Packets', 'General Query Packets').
use Rattle.std.specs.Prelude.{ℕ, List, [], ◌∷◌, Option, Some, None, if◌then◌else◌, bytes_eq, codes, length, take, drop, Bool}
use Rattle.gdb_remote.specs.declared.words.Keyword.{Keyword}
use Rattle.gdb_remote.specs.declared.words.Keyword.TheVariants.{Status, Registers, Register, Memory, Features, Description, Threads, MoreThreads, ThreadText, IsAlive, CurrentThread, Attached, Actions, Choose, ChooseToMove, SetPoint, ClearPoint, NoAcknowledgements, Act, Continue, ContinueWith, Step, StepWith, ContinueBack, StepBack, Monitor, Detach, Kill, WriteRegisters, WriteRegister, WriteMemory, WriteBytes}

-- how each word is spelled
abbrev pub word_text : Keyword → List ℕ
word_text Status = codes "?"
word_text Registers = codes "g"
word_text Register = codes "p"
word_text Memory = codes "m"
word_text Features = codes "qSupported"
word_text Description = codes "qXfer:features:read:target.xml:"
word_text Threads = codes "qfThreadInfo"
word_text MoreThreads = codes "qsThreadInfo"
word_text ThreadText = codes "qThreadExtraInfo,"
word_text IsAlive = codes "T"
word_text CurrentThread = codes "qC"
word_text Attached = codes "qAttached"
word_text Actions = codes "vCont?"
word_text Choose = codes "Hg"
word_text ChooseToMove = codes "Hc"
word_text SetPoint = codes "Z"
word_text ClearPoint = codes "z"
word_text NoAcknowledgements = codes "QStartNoAckMode"
word_text Act = codes "vCont;"
word_text Continue = codes "c"
word_text ContinueWith = codes "C"
word_text Step = codes "s"
word_text StepWith = codes "S"
word_text ContinueBack = codes "bc"
word_text StepBack = codes "bs"
word_text Monitor = codes "qRcmd,"
word_text Detach = codes "D"
word_text Kill = codes "k"
word_text WriteRegisters = codes "G"
word_text WriteRegister = codes "P"
word_text WriteMemory = codes "M"
word_text WriteBytes = codes "X"

unfoldable pub all_words : List Keyword
all_words =
    Status ∷ Registers ∷ Register ∷ Memory ∷ Features ∷ Description ∷ Threads ∷ MoreThreads
    ∷ ThreadText ∷ IsAlive ∷ CurrentThread ∷ Attached ∷ Actions ∷ Choose ∷ ChooseToMove ∷ SetPoint
    ∷ ClearPoint ∷ NoAcknowledgements ∷ Act ∷ Continue ∷ ContinueWith ∷ Step ∷ StepWith
    ∷ ContinueBack ∷ StepBack ∷ Monitor ∷ Detach ∷ Kill ∷ WriteRegisters ∷ WriteRegister
    ∷ WriteMemory ∷ WriteBytes ∷ []

-- the text begins with this one
abbrev pub begins_with : List ℕ → List ℕ → Bool
begins_with head text = bytes_eq (take (length head) text) head

-- the first word with which a text begins, and what stands after it
abbrev pub found_word : List Keyword → List ℕ → Option (Keyword × List ℕ)
found_word [] text = None
found_word (w ∷ ws) text =
    if begins_with (word_text w) text then Some (w, drop (length (word_text w)) text)
    else found_word ws text
