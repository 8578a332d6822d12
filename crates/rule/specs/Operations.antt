-- The operations, and their bytes (01, "Bytes of a chart, a rule and a map").
use Rattle.std.specs.Prelude.{◌≡◌, ℕ, ◌<◌, Result, MatchResult}
use Rattle.rule.specs.declared.operation.Operation.{Operation}
use Rattle.rule.specs.declared.operation.Operation.TheVariants.{True, Label, Not, And, Or, SomeUntil, AllUntil}
use Rattle.rule.specs.declared.operation.NoOperation.{NoOperation}

-- "Operations: 0 true; 1 label a; 2 not a; 3 a and b; 4 a or b; 5 E(a until b); 6 A(a until b)."
abbrev pub byte_of : Operation → ℕ
byte_of True = 0
byte_of Label = 1
byte_of Not = 2
byte_of And = 3
byte_of Or = 4
byte_of SomeUntil = 5
byte_of AllUntil = 6

-- the operation with this byte, or none has it
abbrev pub Decodes : ℕ → Result Operation NoOperation → Type 0
Decodes byte r = MatchResult r (λ operation. byte_of operation ≡ byte) (λ e. 6 < byte)
