-- Every values that fit the variables' widths come from some assignment of the levels (values_reached), and every
-- assignment gives such values (within). What a checked sheet's run enters is reduced and ordered (steps_good).
use Prim.Native.Nat.{ℕ, zero, suc, ◌≤◌, ◌<◌}
use native.Mathlib.Omega.{arith}
use native.Mathlib.Nat.{not-suc-le-zero}
use mathlib.Core.Path.{◌≡◌, refl, ap, fun_ext, ◌∙◌}
use mathlib.Core.Bool.{Bool, true, false, cond}
use mathlib.Core.List.{List, [], ◌∷◌}
use lib.Dec.{eqb, ltb}
use lib.ListN.{length, get_or-eq_default}
use borrow.Author.Tests.{eqb-true, eqb-false, ltb-true, ltb-false}
use Rattle.meaning.specs.Sheet.{Entry, entry, no_entry}
use Rattle.meaning.specs.Level.{levels, variable_bits, value_of}
use Rattle.meaning.specs.Diagram.{Tree, Assignment}
use Rattle.meaning.specs.Table.{Table, enter, enter_all}
use Rattle.meaning.specs.Meaning.{Values, Within}
use Rattle.meaning.specs.Run.{run}
use Rattle.meaning.proofs.Laws.Level.{write, write_value, value_of_lt}
use Rattle.meaning.proofs.Laws.Checked.{Checked}
use Rattle.meaning.proofs.Laws.Table.{There, AllGood, enter_is, is_ext, enter_all_ext}
use Rattle.meaning.proofs.Laws.Held.{run_enters}

-- ---- value_of

pub within : (es : List Entry) (ρ : Assignment) → Within es (value_of es ρ)
within = value_of_lt

module _ (es : List Entry) (σ : Values) (wide : (j : ℕ) → variable_bits (entry es j) ≤ 32) (fits : Within es σ) where
  -- the values of the first k entries are written
  abbrev written : ℕ → Assignment
  written zero = λ l. false
  written (suc k) = write es k (variable_bits (entry es k)) (σ k) (written k)

  written_value : (k j : ℕ) → j < k → value_of es (written k) j ≡ σ j
  written_value zero j below = absurd (not-suc-le-zero below)
  written_value (suc k) j below =
      ap (λ (τ : Values). τ j) (write_value es k (σ k) (written k) wide (fits k)) ∙ go (eqb j k) refl (written_value k j)
    where
      go : (b : Bool) → eqb j k ≡ b → (j < k → value_of es (written k) j ≡ σ j) →
          cond b (σ k) (value_of es (written k) j) ≡ σ j
      go true e earlier = rw (eqb-true j k e)
      go false e earlier = let other = eqb-false j k e in earlier (omega arith)

  all_written : (j : ℕ) → value_of es (written (length es)) j ≡ σ j
  all_written j = go (ltb j (length es)) refl
    where
      go : (b : Bool) → ltb j (length es) ≡ b → value_of es (written (length es)) j ≡ σ j
      go true e = written_value (length es) j (ltb-true j (length es) e)
      go false e =
          let none = get_or-eq_default es no_entry (ltb-false j (length es) e) in
          let left : value_of es (written (length es)) j < 1 = rw none at (within es (written (length es)) j) in
          let right : σ j < 1 = rw none at (fits j) in
          omega arith

pub values_reached : (es : List Entry) (σ : Values) → ((j : ℕ) → variable_bits (entry es j) ≤ 32) → Within es σ →
    (ρ : Assignment) × (value_of es ρ ≡ σ)
values_reached es σ wide fits = (written es σ wide fits (length es), fun_ext (all_written es σ wide fits))

-- ---- what enters

-- what has been entered is there
pub enter_all_there : (ts : List Tree) (s : Table) → There (enter_all ts s) ts
enter_all_there [] s = tt
enter_all_there (t ∷ ts) s = record {
  number = (enter t s).number;
  first = is_ext t (enter t s).number (enter_all_ext ts (enter t s).table) (enter_is t s);
  rest = enter_all_there ts (enter t s).table;
}

pub steps_good : (es : List Entry) → Checked es → (L : ℕ) → AllGood (levels es) (run es L).steps
steps_good es checked L =
    let ts = (run es L).steps in
    (run_enters es (enter_all ts []) L).good (enter_all_there ts []) checked
