-- A test for loops on which time can pass. The quoted words are of 02, paper 4.
use Rattle.std.specs.Prelude.{Bool, true, not, ◌&&◌, ◌||◌, List, [], ◌∷◌, ℕ, eqb, ltb}
use Rattle.base.specs.Every.{every}
use Rattle.tctl.specs.Chart.{Chart, Arrow, Most, up_to, no_end}

-- arrows of the list, one after the other, lead from s to t, or s is t: without the first arrow, or by it
unfoldable pub leads : List Arrow → ℕ → ℕ → Bool
leads [] s t = eqb s t
leads (a ∷ arrows) s t = leads arrows s t || (leads arrows s a.start && leads arrows a.end t)

-- "most above 0"
abbrev pub is_above_zero : Most → Bool
is_above_zero (up_to m) = ltb 0 m
is_above_zero no_end = true

-- the arrow has "most above 0", is reached from s, and is on a loop: arrows lead from its end back to its start
abbrev pub on_timed_loop : List Arrow → ℕ → Arrow → Bool
on_timed_loop arrows s a = is_above_zero a.most && leads arrows s a.start && leads arrows a.end a.start

-- "a state from which no loop holding an arrow with most above 0 can be reached"
abbrev pub no_timed_loop : Chart → ℕ → Bool
no_timed_loop G s = every (λ a. not (on_timed_loop G.arrows s a)) G.arrows
