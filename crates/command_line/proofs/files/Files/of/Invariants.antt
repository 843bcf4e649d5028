use Rattle.std.proofs.Common.{map, string_bytes, take}
use Rattle.std.specs.Option.{option_map}
use Rattle.command_line.specs.Items.{NameFiles}
use Rattle.command_line.proofs.files.Files.of.Given as goal

abbrev pub invariant-loop-word : goal.invariant-loop-word
invariant-loop-word l = NameFiles (map string_bytes (take l.word-index l.words)) l.files.events l.files.clients (option_map (λ name. name.now) l.files.closing)
