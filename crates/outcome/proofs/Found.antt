-- A place that may be none, of a search that goes on to the next number.
use mathlib.Core.Path.{◌≡◌, refl}
use mathlib.Core.Bool.{Bool, true, false, false≢true}
use mathlib.Core.Option.{Option, none, some, some-ne-none}
use Prim.Native.Nat.{ℕ}
use Rattle.outcome.specs.Refusal.{found, or_else}

pub found_some : (o : Option ℕ) → found o ≡ true → (i : ℕ) × (o ≡ some i)
found_some (some i) e = (i, refl)
found_some none e = absurd (false≢true e)

pub or_none : (o : Option ℕ) (b : Bool) (i : ℕ) → or_else o b i ≡ none → (o ≡ none) × (b ≡ false)
or_none (some j) b i e = absurd (some-ne-none j e)
or_none none true i e = absurd (some-ne-none i e)
or_none none false i e = (refl, refl)
