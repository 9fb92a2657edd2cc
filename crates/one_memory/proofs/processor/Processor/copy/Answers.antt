use Rattle.micro_op.specs.Micro.{index_address}
use Rattle.one_memory.proofs.processor.Processor.copy.Goals as goal

pub returns : goal.returns
returns c = λ is t. record {
  registers = c.copy_of_registers.ensures is.registers t;
  pc = index_address 0 c.args.self.now.at;
  private = c.in_ok-copy_of_window.ensures is.window t;
  written = c.args.self.now.body.written;
  exit = c.args.self.now.exit;
}
