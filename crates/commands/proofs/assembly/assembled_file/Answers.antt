use Rattle.commands.proofs.assembly.assembled_file.Goals as goal
