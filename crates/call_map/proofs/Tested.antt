-- What single tests say of an offender: of a label word, and of an arrow.
use mathlib.Core.Path.{◌≡◌, sym, ap, ◌∙◌}
use mathlib.Core.Bool.{Bool, true, false, not}
use mathlib.Core.List.{List}
use Prim.Native.Nat.{ℕ}
use borrow.Author.Tests.{eq-eqb, ne_eqb}
use Rattle.tctl.specs.Chart.{Arrow}
use Rattle.chart.specs.declared.ArrowWords.{ArrowWords}
use Rattle.chart.specs.Bytes.{label_word, arrow_words, arrow_of}
use Rattle.map.specs.Bytes.{entry}
use Rattle.cover.specs.Covered.{mapped_arrow, covered}
use Rattle.call_map.specs.Covered.{covered_at}
use Rattle.call_map.specs.Refusals.{labels_differ}

-- ── Row 22: the words x and y, read of state v and of the state it stands for ──

-- what comparing the words tells of the labels
pub labels_told :
    (d o p : List ℕ) (v : ℕ) {x y e : ℕ} → x ≡ label_word d v → e ≡ entry p v → y ≡ label_word o e →
    (¬ (x ≡ y) → labels_differ d o p v ≡ true) × (x ≡ y → labels_differ d o p v ≡ false)
labels_told d o p v own is other = (
  λ h. ap not (ne_eqb _ _ (λ z. h (own ∙ z ∙ sym (other ∙ ap (label_word o) is)))),
  λ z. ap not (eq-eqb _ _ (sym own ∙ z ∙ other ∙ ap (label_word o) is)),
)

-- ── Row 23: the detail arrow i ──

-- the words w are read of arrow i, which is want where its ends stand
pub covered_read :
    (d o p : List ℕ) (i : ℕ) {w : ArrowWords} {want : Arrow} {r c : Bool} → w ≡ arrow_words d i →
    want ≡ mapped_arrow (entry p) (arrow_of w) → r ≡ covered o want → not r ≡ c → not (covered_at d o p i) ≡ c
covered_read d o p i e f g h =
    let same = f ∙ ap (λ w. mapped_arrow (entry p) (arrow_of w)) e in
    ap not (sym (g ∙ ap (covered o) same)) ∙ h
