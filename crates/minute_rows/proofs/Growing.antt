-- A row has n states at most, so it grows no more than n times.
use mathlib.Core.Path.{◌≡◌, sym, ◌∙◌}
use mathlib.Core.Logic.{by_cases}
use mathlib.Core.List.{List}
use mathlib.Core.Bool.{Bool, true, false≢true}
use Prim.Native.Nat.{ℕ, suc, ◌-◌, ◌<◌}
use native.Mathlib.Omega.{arith}
use native.Mathlib.Decide.{dec_le}
use Rattle.minutes.proofs.Count.{count, count_le, count_same}
use Rattle.minute_rows.specs.Numbers.{answer}
use Rattle.minute_rows.specs.Filled.{Swept}

-- how many states do not make it, as far as the row is filled
abbrev pub missing : ℕ → ℕ → List ℕ → List ℕ → ℕ
missing n minute beyond numbers = n - count (answer n beyond numbers (suc minute)) n

pub missing_less :
    {n minute from to : ℕ} {words beyond : List ℕ} {r : Bool} {old new : List ℕ} →
    Swept n minute from to words beyond r old new → r ≡ true →
    missing n minute beyond new < missing n minute beyond old
missing_less {n} {minute} {beyond = beyond} {old = old} {new} swept e =
    let was = answer n beyond old (suc minute) in
    let is = answer n beyond new (suc minute) in
    let counts = count_same was is n swept.kept.stays in
    let grown = swept.more e in
    by_cases (dec_le (count is n) (count was n))
    (λ l. absurd (false≢true (sym grown.2 ∙ counts.1 l grown.0 grown.1 grown.3)))
    (λ l. omega (arith, count_le is n))
