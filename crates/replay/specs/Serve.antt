-- From request to request.
use Rattle.std.specs.Prelude.{ℕ, List}
use Rattle.replay.specs.declared.serve.Turn.{Turn}
use Rattle.replay.specs.declared.serve.Turn.TheVariants.{Next, End}
use Rattle.replay.specs.Input.{In}

-- what waits of the input lies in its buffer
abbrev pub Goes : List ℕ → Turn → Type 0
Goes lines (Next i used) = In lines i
Goes lines End = Unit
