-- The command of the code, as the definitions have it.
use Rattle.std.specs.Prelude.{ℕ, List, Option, None, Some, option_map}
use Rattle.std.specs.Borrow.{Bor}
use Rattle.command_line.specs.declared.Command.{Command as OfCode}
use Rattle.command_line.specs.declared.Command.TheVariants as asked
use Rattle.command_line.specs.declared.Execution.{Execution as ExecutionOfCode}
use Rattle.command_line.specs.declared.RunArguments.{RunArguments as RunOfCode}
use Rattle.command_line.specs.declared.SimArguments.{SimArguments as SimOfCode}
use Rattle.command_line.specs.declared.RewriteArguments.{RewriteArguments as RewriteOfCode}
use Rattle.command_line.specs.declared.ListArguments.{ListArguments as ListOfCode}
use Rattle.command_line.specs.declared.OneArguments.{OneArguments as OneOfCode}
use Rattle.command_line.specs.declared.ReplayArguments.{ReplayArguments as ReplayOfCode}
use Rattle.command_line.specs.declared.GenerateArguments.{GenerateArguments as GenerateOfCode}
use Rattle.command_line.specs.declared.AssembleArguments.{AssembleArguments as AssembleOfCode}
use Rattle.command_line.specs.declared.Machine.{Machine}
use Rattle.command_line.specs.declared.Machine.TheVariants.{Lossy, Lanes}
use Rattle.command_line.specs.Tasks.{Execution, RunArguments, OneArguments, SimArguments, ReplayArguments}
use Rattle.command_line.specs.Commands.{RewriteArguments, ListArguments, GenerateArguments, AssembleArguments, Command, Rewrite, Run, Listing, One, Sim, Replay, Generate, Assemble}

-- the name of a file that may be left out
abbrev pub file_name : Option (Bor (List ℕ)) → Option (List ℕ)
file_name name = option_map (λ n. n.now) name

-- the number of a machine's loss, and of the processors of each of its nodes, where it has one
abbrev pub loss_of : Machine → Option ℕ
loss_of (Lossy loss) = Some loss
loss_of machine = None

abbrev pub lanes_of : Machine → Option ℕ
lanes_of (Lanes lanes) = Some lanes
lanes_of machine = None

abbrev pub execution_of : ExecutionOfCode → Execution
execution_of e = record {
  file = e.file.now;
  nodes = e.nodes;
  budget = e.budget;
  code = file_name e.code;
  verified = file_name e.verified;
  layout = file_name e.layout;
  brief = e.brief;
  no_batch = e.no_batch;
}

abbrev pub run_of : RunOfCode → RunArguments
run_of a = record { execution = execution_of a.execution; record_file = file_name a.record_file }

abbrev pub sim_of : SimOfCode → SimArguments
sim_of a = record {
  execution = execution_of a.execution;
  order = a.order;
  loss = loss_of a.machine;
  lanes = lanes_of a.machine;
}

abbrev pub rewrite_of : RewriteOfCode → RewriteArguments
rewrite_of a = record { input = a.input.now; output = a.output.now; no_batch = a.no_batch }

abbrev pub list_of : ListOfCode → ListArguments
list_of a = record { file = a.file.now }

abbrev pub one_of : OneOfCode → OneArguments
one_of a = record {
  file = a.file.now;
  nodes = a.nodes;
  order = a.order;
  budget = a.budget;
  layout = file_name a.layout;
}

abbrev pub replay_of : ReplayOfCode → ReplayArguments
replay_of a = record {
  file = a.file.now;
  record_file = a.record_file.now;
  verified = file_name a.verified;
  brief = a.brief;
}

abbrev pub generate_of : GenerateOfCode → GenerateArguments
generate_of a = record { number = a.number; output = a.output.now }

abbrev pub assemble_of : AssembleOfCode → AssembleArguments
assemble_of a = record { text = a.text.now; output = a.output.now }

abbrev pub meaning_of : OfCode → Command
meaning_of (asked.Rewrite a) = Rewrite (rewrite_of a)
meaning_of (asked.Run a) = Run (run_of a)
meaning_of (asked.List a) = Listing (list_of a)
meaning_of (asked.One a) = One (one_of a)
meaning_of (asked.Sim a) = Sim (sim_of a)
meaning_of (asked.Replay a) = Replay (replay_of a)
meaning_of (asked.Generate a) = Generate (generate_of a)
meaning_of (asked.Assemble a) = Assemble (assemble_of a)
