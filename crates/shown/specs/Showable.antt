-- Which marks can be shown, and by what search: decided by the answers of the operands.
use Rattle.std.specs.Prelude.{Bool, false, not as neg, List, ℕ}
use Rattle.std.proofs.Math.Option.{Option}
use Rattle.tctl.specs.Chart.{Chart}
use Rattle.tctl.specs.Formula.{at_most, at_least, exactly, Formula, always, label, not, and, or, some_until, all_until}
use Rattle.model.specs.Decide.{holds}
use Rattle.shown.specs.Shown.{Position}
use Rattle.shown.specs.Steps.{all_quest}
use Rattle.shown.specs.Search.{Search, by_steps, enough_by, walk_by, fewest_steps, some_search, vain}

-- "a marked E-until node, or an unmarked A-until node bounded by 'at most'"
abbrev pub showable : Chart → Formula → ℕ → Bool
showable G always s = false
showable G (label i) s = false
showable G (not f) s = false
showable G (and f g) s = false
showable G (or f g) s = false
showable G (some_until b f g) s = holds G (some_until b f g) s
showable G (all_until (at_most c) f g) s = neg (holds G (all_until (at_most c) f g) s)
showable G (all_until (at_least c) f g) s = false
showable G (all_until (exactly c) f g) s = false

-- the search for a formula's reasons; where none can be shown, a vain one
abbrev pub search_of : Chart → Formula → Search
search_of G always = vain
search_of G (label i) = vain
search_of G (not f) = vain
search_of G (and f g) = vain
search_of G (or f g) = vain
search_of G (some_until b f g) = some_search b (holds G f) (holds G g)
search_of G (all_until (at_most c) f g) = by_steps (all_quest c (holds G f) (holds G g))
search_of G (all_until (at_least c) f g) = vain
search_of G (all_until (exactly c) f g) = vain

-- k steps from s are enough for one; the walk of so many steps; the fewest, at most 256, that are enough
abbrev pub enough_of : Chart → Formula → ℕ → ℕ → Bool
enough_of G f s k = enough_by G.arrows (search_of G f) s k

abbrev pub walk_of : Chart → Formula → ℕ → ℕ → List Position
walk_of G f k s = walk_by G.arrows (search_of G f) k s

abbrev pub steps_of : Chart → Formula → ℕ → Option ℕ
steps_of G f s = fewest_steps G.arrows (search_of G f) s
