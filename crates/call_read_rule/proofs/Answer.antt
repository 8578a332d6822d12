-- The answer of the call that reads a rule, by the row that is met first.
use mathlib.Core.Path.{◌≡◌, ap}
use mathlib.Core.List.{List, ◌++◌}
use Prim.Native.Nat.{ℕ, ◌+◌, ◌*◌, ◌≤◌, ◌<◌}
use native.Mathlib.Omega.{arith}
use lib.ListN.{length, take, length-append}
use lib.Seq.{length-take-le}
use borrow.Author.Tests.{lt-ltb, le-ltb}
use Rattle.std.proofs.Common.{Ok, Err}
use Rattle.append.specs.Piece.{Room, Appended}
use Rattle.append.proofs.Append.{appended_text, at_front, at_front_none}
use Rattle.outcome.specs.declared.Outcome.{Outcome}
use Rattle.outcome.specs.declared.Written.{Written}
use Rattle.outcome.specs.Refusal.{success, first}
use Rattle.rule_grammar.specs.Grammar.{Verdict, Judged, faulty}
use Rattle.rule_bytes.specs.RuleBytes.{nodes, head_bytes, rule_bytes}
use Rattle.rule_bytes.proofs.WrittenAccepted.{written_length}
use Rattle.rule_parser.specs.Read.{Reads, faulty as wrong, whole as right}
use Rattle.call_read_rule.specs.Read.{read_table, refused, ReadAs}

-- the place lies in the text
pub place_inside :
    {t : List ℕ} {v : Verdict} {p : ℕ} {all : List ℕ} → Reads t v (Err p) all → Judged t v → p ≤ length t
place_inside wrong (faulty x) = x.place.inside

module _ (t output : List ℕ) where
  pub too_long :
      {v : Verdict} {r : Written} → Judged t v → 4096 < length t → r ≡ refused 65 0 → ReadAs t output r output
  unfolding read_table first
  too_long {v} j l e =
      record { verdict = v; judged = j; outcome = rw (e, lt-ltb 4096 (length t) l); front = rw e at_front_none }

  module _ (short : length t ≤ 4096) where
    pub no_text :
        {v : Verdict} {p : ℕ} {all : List ℕ} {r : Written} → Judged t v → Reads t v (Err p) all → r ≡ refused 64 p →
        ReadAs t output r output
    unfolding read_table first
    no_text {v} j wrong e =
        record { verdict = v; judged = j; outcome = rw (e, le-ltb 4096 (length t) short); front = rw e at_front_none }

    pub too_many :
        {v : Verdict} {count : ℕ} {all : List ℕ} {r : Written} → Judged t v → Reads t v (Ok count) all → 64 < count →
        r ≡ refused 65 0 → ReadAs t output r output
    unfolding read_table first
    too_many {v} j (right {f = f} few) l e =
        record {
          verdict = v;
          judged = j;
          outcome = rw (e, le-ltb 4096 (length t) short, lt-ltb 64 (nodes f) l);
          front = rw e at_front_none;
        }

    pub too_short :
        {v : Verdict} {count : ℕ} {all : List ℕ} {r : Written} → Judged t v → Reads t v (Ok count) all → count ≤ 64 →
        length output < 7 + 8 * count → r ≡ refused 66 0 → ReadAs t output r output
    unfolding read_table first
    too_short {v} j (right {f = f} few) l s e =
        record {
          verdict = v;
          judged = j;
          outcome =
              rw (e, le-ltb 4096 (length t) short, le-ltb 64 (nodes f) l, lt-ltb (length output) (7 + 8 * nodes f) s);
          front = rw e at_front_none;
        }

    -- the nodes that were read are the formula's, so with the head they are its rule
    pub taken :
        {v : Verdict} {count : ℕ} {all : List ℕ} {o : Outcome} {r : ℕ} {new : List ℕ} → Judged t v →
        Reads t v (Ok count) all → count ≤ 64 → 7 + 8 * count ≤ length output → o ≡ success →
        Appended 0 (head_bytes count ++ take (8 * count) all) r output new →
        ReadAs t output (record { outcome = o; written = r }) new
    unfolding read_table first rule_bytes
    taken {v} j (right {f = f} few) l s e h =
        let same = ap (λ (b : List ℕ). head_bytes (nodes f) ++ b) (few l) in
        record {
          verdict = v;
          judged = j;
          outcome =
              rw (e, le-ltb 4096 (length t) short, le-ltb 64 (nodes f) l, le-ltb (length output) (7 + 8 * nodes f) s);
          front =
              rw e (at_front (record { fits = omega (arith, written_length f, s) }) (appended_text same h));
        }

-- the head and the nodes have so many bytes
pub rule_fits :
    (k : ℕ) (all output : List ℕ) → k ≤ 64 → length all ≡ 512 → 7 + 8 * k ≤ length output →
    Room 0 (head_bytes k ++ take (8 * k) all) output
rule_fits k all output l size h =
    record {
      fits =
          omega (
            arith,
            h,
            length-append (head_bytes k) (take (8 * k) all),
            length-take-le (8 * k) all (omega (arith, l, size)),
          );
    }
