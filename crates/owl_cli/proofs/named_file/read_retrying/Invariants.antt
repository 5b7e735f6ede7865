use Rattle.std.specs.Io.KnownBytes.{Keeps}
use Rattle.owl_cli.proofs.named_file.read_retrying.Given as goal

abbrev pub invariant-loop : goal.invariant-loop
invariant-loop g l = Keeps (g.F.Read.remaining l.fn.file) (g.F.Read.remaining l.file)
