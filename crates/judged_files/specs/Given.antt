-- Helps the code alone: the inputs of the code, as the definitions have them.
use Rattle.std.specs.Prelude.{option_map}
use Rattle.judged_files.specs.declared.input.Inputs.{Inputs as OfCode}
use Rattle.judged_files.specs.declared.input.InputFiles.{InputFiles}
use Rattle.judged_files.specs.Inputs.{Inputs}

abbrev pub bytes_of : OfCode → Inputs
bytes_of inputs = record {
  executable = inputs.executable.now;
  code = option_map (λ file. file.now) inputs.code;
  verified = option_map (λ file. file.now) inputs.verified;
  layout = option_map (λ file. file.now) inputs.layout;
  text = inputs.text.now;
  batches = inputs.batches;
}

abbrev pub contents_of : InputFiles → Inputs
contents_of files = record {
  executable = files.executable.items;
  code = option_map (λ file. file.items) files.code;
  verified = option_map (λ file. file.items) files.verified;
  layout = option_map (λ file. file.items) files.layout;
  text = files.text.items;
  batches = files.batches;
}
