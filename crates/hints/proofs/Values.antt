-- Numbers with hints, and their values.
use mathlib.Core.Path.{◌≡◌, refl, sym, ap, ◌∙◌}
use mathlib.Core.List.{List, [], ◌∷◌, map}
use Prim.Native.Nat.{ℕ, zero, suc, ◌<◌}
use native.Mathlib.Omega.{arith}
use lib.ListN.{length, set, length-map, get_or-map}
use Rattle.model.specs.Engine.{num}
use Rattle.hints.specs.Values.{value_of, values}

pub value_at : (ns : List ℕ) (s : ℕ) → value_of (num ns s) ≡ num (values ns) s
value_at ns s = sym (get_or-map value_of ns s 0)

pub values_length : (ns : List ℕ) → length (values ns) ≡ length ns
values_length ns = length-map ns value_of

pub map_set : (f : ℕ → ℕ) (ns : List ℕ) (s x : ℕ) → map f (set ns s x) ≡ set (map f ns) s (f x)
map_set f [] s x = refl
map_set f (y ∷ ns) zero x = refl
map_set f (y ∷ ns) (suc s) x = ap (λ vs. f y ∷ vs) (map_set f ns s x)

pub num_map : (f : ℕ → ℕ) (ns : List ℕ) (s : ℕ) → s < length ns → num (map f ns) s ≡ f (num ns s)
num_map f [] s l = absurd (let z : ⊥ = omega arith in z)
num_map f (y ∷ ns) zero l = refl
num_map f (y ∷ ns) (suc s) l = num_map f ns s (omega arith)

pub values_set : (ns : List ℕ) (s x : ℕ) {v : ℕ} → value_of x ≡ v → values (set ns s x) ≡ set (values ns) s v
values_set ns s x e = map_set value_of ns s x ∙ ap (set (values ns) s) e
