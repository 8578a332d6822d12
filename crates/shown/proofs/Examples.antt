-- Shown runs of the chart Short (01, "Two charts to try"), from state 0, and what is asked at the moment c.
use mathlib.Core.Path.{◌≡◌, refl}
use mathlib.Core.List.{List, [], ◌∷◌}
use mathlib.Core.Bool.{true, false}
use lib.Dec.{eqb}
use Rattle.outcome.specs.Refusal.{lowest}
use Rattle.tctl.specs.Chart.{Arrow, up_to, no_end}
use Rattle.minutes.specs.Table.{any}
use Rattle.shown.specs.Shown.{place}
use Rattle.shown.specs.Steps.{quickest, all_quest, best, by_step, first_arrow, walk}
use Rattle.shown.specs.Exact.{reaches, walk_down}

abbrev short : List Arrow
short =
    record { start = 0; end = 1; fewest = 5; most = up_to 10 } ∷
    record { start = 1; end = 2; fewest = 0; most = up_to 4 } ∷
    record { start = 2; end = 0; fewest = 20; most = no_end } ∷
    []

-- item 1: E(true until L2, at most 5)
pub item_1 :
    walk short (quickest 5 (λ s. true) (λ s. eqb s 2)) 2 0 ≡ place 0 5 ∷ place 1 0 ∷ place 2 0 ∷ []
unfolding walk by_step best first_arrow
item_1 = refl

-- item 4: A(true until L2, at most 13) fails, for L2 may come at the moment 14
pub item_4 :
    walk short (all_quest 13 (λ s. true) (λ s. eqb s 2)) 2 0 ≡ place 0 10 ∷ place 1 4 ∷ place 2 0 ∷ []
unfolding walk by_step best first_arrow
item_4 = refl

-- E(true until L2, exactly 14): both arrows are taken in their most minutes
pub exactly_14 :
    walk_down short (reaches short (λ s. true) (λ s. eqb s 2)) 2 14 0 ≡ place 0 10 ∷ place 1 4 ∷ place 2 0 ∷ []
unfolding walk_down reaches any lowest first_arrow
exactly_14 = refl

abbrev instant : List Arrow
instant =
    record { start = 0; end = 1; fewest = 3; most = up_to 3 } ∷ record { start = 1; end = 2; fewest = 0; most = up_to 0 } ∷ []

-- "P holds at every earlier position" (01), also at one whose moment is c already
pub p_at_the_moment : reaches instant (λ s. eqb s 0) (λ s. eqb s 2) 2 3 0 ≡ false
unfolding reaches any lowest
p_at_the_moment = refl

pub true_at_the_moment : reaches instant (λ s. true) (λ s. eqb s 2) 2 3 0 ≡ true
unfolding reaches any lowest
true_at_the_moment = refl
