-- Numbers that changed at their marks alone.
use mathlib.Core.Path.{◌≡◌, refl, sym, ap, ◌∙◌}
use mathlib.Core.Bool.{Bool, false, false≢true}
use mathlib.Core.List.{List}
use Prim.Native.Nat.{ℕ}
use native.Mathlib.Omega.{arith}
use lib.ListN.{set, length-set}
use lib.Seq.{ext_get_or}
use Rattle.model.specs.Engine.{num}
use Rattle.model.proofs.Numbers.{set_elim}
use Rattle.hints.specs.Values.{value_of, tested_of, values}
use Rattle.hints.proofs.Values.{value_at, values_length}
use Rattle.ways.specs.declared.Way.{Way}
use Rattle.ways.specs.Way.{side_of, beside}
use Rattle.visits.specs.Moves.{Ready, none, Went}
use Rattle.walks.specs.Walk.{Remarked}

pub marked_none : {ns : List ℕ} → Remarked ns ns
marked_none = record { size = refl; tested = λ s. refl }

pub marked_set :
    {old new : List ℕ} → Remarked old new → (s x : ℕ) → tested_of x ≡ tested_of (num new s) → Remarked old (set new s x)
marked_set {old} {new} k s x e =
    record {
      size = length-set new s x ∙ k.size;
      tested = set_elim (λ i y. tested_of y ≡ tested_of (num old i)) new s x (e ∙ k.tested s) k.tested;
    }

pub marked_went :
    {way : Way} {chart : List ℕ} {m : ℕ} {go : ℕ → Bool} {old new : List ℕ} → Remarked old new → Ready way go old →
    Went way chart m go false old new
marked_went {way} {chart} {m} {go} {old} {new} k r =
    record {
      ready =
          record {
            sides = λ s l.
                k.tested s ∙ r.sides s (omega (arith, k.size)) ∙ ap (λ v. beside v (side_of way go s v)) (sym (value s));
            within = λ s. omega (arith, value s, r.within s);
          };
      moved = rw same none;
      still = λ e. same;
      nearer = λ e. absurd (false≢true e);
    }
  where
    value : (s : ℕ) → value_of (num new s) ≡ value_of (num old s)
    value s = omega (arith, k.tested s)

    same : values new ≡ values old
    same =
        ext_get_or 0 (values new) (values old) (values_length new ∙ k.size ∙ sym (values_length old))
        (λ s l. sym (value_at new s) ∙ value s ∙ value_at old s)
