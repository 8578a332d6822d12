-- What a chart reader hands out at a number, and what it hands out after that.
use Rattle.std.specs.Prelude.{List, ℕ}
use Rattle.call_reader.specs.Reading.{handed, step_of}
use Rattle.desk_test_calls.specs.declared.Turned.{Turned}

-- "in order from that number": the reader moves on before it is asked again
abbrev pub turned : List ℕ → ℕ → Turned
turned s i = record { first = handed s i; following = handed s (step_of s i).number }
