use Prim.Native.Nat.{◌-◌, ◌*◌}
use lib.ListN.{length}
use mathlib.Core.Path.{◌≡◌}
use Rattle.header_fields.specs.Fields.{line_width}
use Rattle.header_paths.specs.Scratch.{scratch_width}
use Rattle.bench_walks.proofs.read_often.Given as goal

abbrev pub invariant-loop : goal.invariant-loop
invariant-loop l =
    (length l.fields ≡ 128 * line_width) × (length l.scratch ≡ 128 * scratch_width)
