-- Texts, and what they are: of each limit one that is of the grammar and one that is not, with its place.
use Rattle.std.specs.Prelude.{List, [], ◌∷◌, ℕ}
use Rattle.tctl.specs.Formula.{at_most, at_least, exactly, always, label, not, and, some_until, all_until}
use Rattle.rule_grammar.specs.Grammar.{Verdict, fault, formula, Judged}

pub record Small : Type 0 where
  pub bytes : List ℕ
  pub verdict : Verdict

abbrev pub small : List ℕ → Verdict → Small
small s v = record { bytes = s; verdict = v }

-- it is true of each of them
abbrev pub AllJudged : List Small → Type 0
AllJudged [] = Unit {0}
AllJudged (x ∷ l) = Judged x.bytes x.verdict × AllJudged l

abbrev pub small_texts : List Small
small_texts =
    -- `A(true U<=14 L2)`, the paper's own
    small
    (65 ∷ 40 ∷ 116 ∷ 114 ∷ 117 ∷ 101 ∷ 32 ∷ 85 ∷ 60 ∷ 61 ∷ 49 ∷ 52 ∷ 32 ∷ 76 ∷ 50 ∷ 41 ∷ [])
    (formula (all_until (at_most 14) always (label 2))) ∷
    -- `L15`
    small (76 ∷ 49 ∷ 53 ∷ []) (formula (label 15)) ∷
    -- `L16`
    small (76 ∷ 49 ∷ 54 ∷ []) (fault 2) ∷
    -- `L00`
    small (76 ∷ 48 ∷ 48 ∷ []) (fault 2) ∷
    -- `E(true U<=65535 L1)`
    small
    (69 ∷ 40 ∷ 116 ∷ 114 ∷ 117 ∷ 101 ∷ 32 ∷ 85 ∷ 60 ∷ 61 ∷ 54 ∷ 53 ∷ 53 ∷ 51 ∷ 53 ∷ 32 ∷ 76 ∷ 49 ∷ 41 ∷ [])
    (formula (some_until (at_most 65535) always (label 1))) ∷
    -- `E(true U<=65536 L1)`
    small
    (69 ∷ 40 ∷ 116 ∷ 114 ∷ 117 ∷ 101 ∷ 32 ∷ 85 ∷ 60 ∷ 61 ∷ 54 ∷ 53 ∷ 53 ∷ 51 ∷ 54 ∷ 32 ∷ 76 ∷ 49 ∷ 41 ∷ [])
    (fault 14) ∷
    -- `E(true U<=70000 L1)`
    small
    (69 ∷ 40 ∷ 116 ∷ 114 ∷ 117 ∷ 101 ∷ 32 ∷ 85 ∷ 60 ∷ 61 ∷ 55 ∷ 48 ∷ 48 ∷ 48 ∷ 48 ∷ 32 ∷ 76 ∷ 49 ∷ 41 ∷ [])
    (fault 14) ∷
    -- `E(L1 U>=0 true)`
    small
    (69 ∷ 40 ∷ 76 ∷ 49 ∷ 32 ∷ 85 ∷ 62 ∷ 61 ∷ 48 ∷ 32 ∷ 116 ∷ 114 ∷ 117 ∷ 101 ∷ 41 ∷ [])
    (formula (some_until (at_least 0) (label 1) always)) ∷
    -- `E(L1 U>=007 true)`
    small (69 ∷ 40 ∷ 76 ∷ 49 ∷ 32 ∷ 85 ∷ 62 ∷ 61 ∷ 48 ∷ 48 ∷ 55 ∷ 32 ∷ 116 ∷ 114 ∷ 117 ∷ 101 ∷ 41 ∷ []) (fault 9) ∷
    -- `(true & !L1)`
    small (40 ∷ 116 ∷ 114 ∷ 117 ∷ 101 ∷ 32 ∷ 38 ∷ 32 ∷ 33 ∷ 76 ∷ 49 ∷ 41 ∷ []) (formula (and always (not (label 1)))) ∷
    -- `(true &!L1)`
    small (40 ∷ 116 ∷ 114 ∷ 117 ∷ 101 ∷ 32 ∷ 38 ∷ 33 ∷ 76 ∷ 49 ∷ 41 ∷ []) (fault 7) ∷
    -- `( true & !L1)`
    small (40 ∷ 32 ∷ 116 ∷ 114 ∷ 117 ∷ 101 ∷ 32 ∷ 38 ∷ 32 ∷ 33 ∷ 76 ∷ 49 ∷ 41 ∷ []) (fault 1) ∷
    -- `A(true U==255 L1)`
    small
    (65 ∷ 40 ∷ 116 ∷ 114 ∷ 117 ∷ 101 ∷ 32 ∷ 85 ∷ 61 ∷ 61 ∷ 50 ∷ 53 ∷ 53 ∷ 32 ∷ 76 ∷ 49 ∷ 41 ∷ [])
    (formula (all_until (exactly 255) always (label 1))) ∷
    -- `A(true U==256 L1)`
    small
    (65 ∷ 40 ∷ 116 ∷ 114 ∷ 117 ∷ 101 ∷ 32 ∷ 85 ∷ 61 ∷ 61 ∷ 50 ∷ 53 ∷ 54 ∷ 32 ∷ 76 ∷ 49 ∷ 41 ∷ [])
    (fault 12) ∷
    -- `true`
    small (116 ∷ 114 ∷ 117 ∷ 101 ∷ []) (formula always) ∷
    -- `true `
    small (116 ∷ 114 ∷ 117 ∷ 101 ∷ 32 ∷ []) (fault 4) ∷
    -- the empty text
    small ([]) (fault 0) ∷
    -- `tru`, it only stops early
    small (116 ∷ 114 ∷ 117 ∷ []) (fault 3) ∷
    -- `!!`
    small (33 ∷ 33 ∷ []) (fault 2) ∷
    -- `!!x`
    small (33 ∷ 33 ∷ 120 ∷ []) (fault 2) ∷
    []
