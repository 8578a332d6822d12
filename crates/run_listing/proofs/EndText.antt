-- Which of the three texts ends a run.
use mathlib.Core.Path.{◌≡◌}
use mathlib.Core.Bool.{Bool, true, false}
use Prim.Native.Nat.{ℕ, ◌≤◌, ◌<◌}
use borrow.Author.Tests.{lt-ltb, le-ltb}
use Rattle.run_listing.specs.RunText.{above_word, neither_word, met_word, after, end_text}

module _ {all : Bool} (c moment : ℕ) where
  pub above_text : all ≡ true → c < moment → end_text all c moment ≡ after above_word c
  unfolding end_text
  above_text e h = rw (e, lt-ltb c moment h)

  pub neither_text : all ≡ true → moment ≤ c → end_text all c moment ≡ neither_word
  unfolding end_text
  neither_text e h = rw (e, le-ltb c moment h)

  pub met_text : all ≡ false → end_text all c moment ≡ after met_word moment
  unfolding end_text
  met_text e = rw e
