-- Row 20 against the format of a map.
use mathlib.Core.Bool.{true, false}
use mathlib.Core.List.{List, [], ◌∷◌}
use mathlib.Core.Logic.{◌↔◌, ◌⊎◌, inl, inr}
use mathlib.Core.Option.{none}
use mathlib.Core.Path.{◌≡◌, ap, sym, ◌∙◌}
use Prim.Native.Nat.{ℕ, ◌+◌, ◌*◌}
use lib.ListN.{length}
use Rattle.base.proofs.Compare.{not_under_iff, not_differ_iff}
use Rattle.base.proofs.Truth.{neither_iff, true_or_false}
use Rattle.outcome.specs.Refusal.{refusal, success, whole, first}
use Rattle.outcome.specs.declared.Outcome.{Outcome}
use Rattle.outcome.proofs.First.{first_met, first_passed, zero_iff, part_zero}
use Rattle.outcome.proofs.Whole.{whole_none}
use Rattle.head.specs.Head.{head_rows, Headed, version, stated_length}
use Rattle.head.proofs.Passed.{head_iff}
use Rattle.map.specs.Bytes.{entry_count, MapFormat}
use Rattle.map.specs.Refusals.{no_map, form_row}

-- none of the row's five conditions is met just where the map has the five parts of the format
pub format_iff : (p : List ℕ) (n : ℕ) → (whole (no_map p n) ≡ none) ↔ MapFormat p n
unfolding no_map
format_iff p n =
    let head = neither_iff (not_under_iff (length p) 7) (not_differ_iff (version p) 1) in
    let stated = neither_iff head (not_differ_iff (stated_length p) (length p)) in
    let sized = neither_iff stated (not_differ_iff (length p) (7 + 2 * entry_count p)) in
    let i = neither_iff sized (not_differ_iff (entry_count p) n) in (
      λ e.
          let w = i.0 (whole_none (no_map p n) e) in
          let h = w.0.0 in
          let head : Headed 7 p = record { enough = h.0.0; version_one = h.0.1; stated = h.1 } in
          record { head = head; whole = w.0.1; count = w.1 },
      λ f.
          let h = f.head in
          ap whole (i.1 ((((h.enough, h.version_one), h.stated), f.whole), f.count)),
    )
