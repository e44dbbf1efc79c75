-- A variable's levels, and the nodes of its bits.
--
--   levels_read, levels_low, levels_listed      the levels that were read, as formula asks for them and as the definition lists them
--   growing_next, growing_done   the loop that makes a variable's nodes; growing_lacks, where there is no room
use Prim.Native.Nat.{ℕ, zero, suc, ◌+◌, ◌-◌, ◌≤◌, ◌<◌}
use native.Mathlib.Nat.{not-suc-le-zero, zero-add}
use native.Mathlib.Omega.{arith}
use mathlib.Core.Path.{◌≡◌, refl, sym, ap, ◌∙◌}
use mathlib.Core.Bool.{Bool, true, false}
use mathlib.Core.List.{List, [], ◌∷◌, ◌++◌, map, append-nil}
use lib.Dec.{eqb}
use lib.ListN.{length, get_or, set, take, length-map, length-set}
use lib.Seq.{get_or-set_same, get_or-set_other, get_or-take, length-take-le}
use borrow.Author.Tests.{eqb-true, eqb-false}
use Rattle.std.specs.Prelude.{Ok, Err, All, reverse}
use Rattle.std.proofs.lemmas.List.Elements.{All-from_get_or}
use Rattle.meaning.specs.Number.{each, up_to}
use Rattle.meaning.specs.Sheet.{entries, entry_at}
use Rattle.meaning.specs.Diagram.{Tree, leaf, literal}
use Rattle.meaning.specs.Row.{known, unknown}
use Rattle.meaning.specs.Level.{level, levels, variable_bits}
use Rattle.meaning.specs.Run as Run
use Rattle.meaning.specs.Step as Step
use Rattle.meaning.proofs.Laws.Number.{up_to_length, up_to_at}
use Rattle.diagram.specs.State.{After, Lacks, Does, Means, Joins}
use Rattle.diagram.specs.declared.builder.Builder.{Builder}
use Rattle.diagram.specs.declared.builder.Made.{Made}
use Rattle.diagram.specs.declared.builder.NoRoom.{NoRoom}
use Rattle.diagram.specs.declared.scratch.Scratch.{Scratch}
use Rattle.diagram.proofs.Laws.After.{after_then, lacks_then, lacks_more}
use Rattle.sheet.specs.declared.checked.CheckedEntry.{CheckedEntry}
use Rattle.sheet.proofs.Laws.Passed.{passed_levels, passed_level}
use Rattle.sheet.proofs.Laws.Sheet.{entry_at_lem}
use Rattle.term.specs.Row.{BitMeans, RowMeans}
use Rattle.term.proofs.Laws.Rows.{after_bit}
use Rattle.formula.proofs.Laws.Quantify.{reverse_down_to}
use Rattle.entry.specs.Entry.{AreLevelsOf, variable_at}

-- ---- the levels of a variable

pub levels_read : {s : List ℕ} {o n : ℕ} (of : List ℕ) → n ≡ variable_bits (entry_at s o) → n ≤ length of
    → ((k : ℕ) → k < n → get_or of k 0 ≡ level (entries s) o k) → AreLevelsOf s o (take n of)
levels_read {s} {o} {n} of n_is inside read =
    let long : length (take n of) ≡ n = length-take-le n of inside in
    record {
      count_is = long ∙ n_is;
      each = λ k below. let has : k < n = omega (arith, long) in get_or-take n of k 0 has ∙ read k has;
    }

module _ (e : CheckedEntry) {of : List ℕ} (are : AreLevelsOf e.sheet.bytes.now e.index of) where
  pub levels_low : All (λ l. l < 128) of
  levels_low =
      All-from_get_or (λ l. l < 128) of 0
      (λ k below.
      let low : level (entries e.sheet.bytes.now) e.index k < levels (entries e.sheet.bytes.now) =
      passed_level e.sheet.passed e.is_entry k (omega (arith, are.count_is)) in
      omega (arith, are.each k below, low, passed_levels e.sheet.bytes.now e.sheet.passed))

  pub levels_listed : reverse of ≡ Run.levels_of (entries e.sheet.bytes.now) e.index
  unfolding Run.levels_of
  levels_listed =
      reverse_down_to (level (entries e.sheet.bytes.now) e.index) of are.each
      ∙ ap (Run.down_to (level (entries e.sheet.bytes.now) e.index))
      (are.count_is ∙ sym (ap variable_bits (entry_at_lem e.sheet.bytes.now e.index e.is_entry.inside)))

-- ---- the nodes of a variable's bits

each_split : {A : Type 0} (f : ℕ → A) (i m n : ℕ) → each f i (m + n) ≡ each f i m ++ each f (i + m) n
each_split f i zero n =
    let same : i ≡ i + 0 = omega arith in
    ap (each f i) (zero-add n) ∙ ap (λ (k : ℕ). each f k n) same
each_split {A} f i (suc m) n =
    let same : suc i + m ≡ i + suc m = omega arith in
    let more : suc m + n ≡ suc (m + n) = omega arith in
    ap (each f i) more
    ∙ ap {B = List A} (λ l. f i ∷ l) (each_split f (suc i) m n ∙ ap (λ (k : ℕ). each f (suc i) m ++ each f k n) same)

each_more : {A : Type 0} (f : ℕ → A) (n : ℕ) → up_to f (n + 1) ≡ up_to f n ++ (f n ∷ [])
each_more {A} f n = each_split f 0 n 1 ∙ ap {B = List A} (λ (k : ℕ). up_to f n ++ (f k ∷ [])) (zero-add n)

from_steps : (ts : List Tree) → (Run.variable_from ts).steps ≡ ts
from_steps [] = refl
from_steps (t ∷ ts) = ap (λ l. t ∷ l) (append-nil (Run.variable_from ts).steps ∙ from_steps ts)

from_value : (ts : List Tree) → (Run.variable_from ts).value ≡ map known ts
from_value [] = refl
from_value (t ∷ ts) = ap (λ l. known t ∷ l) (from_value ts)

map_at : (ts : List Tree) (k : ℕ) → k < length ts → get_or (map known ts) k unknown ≡ known (get_or ts k (leaf false))
map_at [] k below = absurd (not-suc-le-zero below)
map_at (t ∷ ts) zero below = refl
map_at (t ∷ ts) (suc k) below = map_at ts k (omega arith)

-- the diagram of bit k of entry i
abbrev bit_of : List ℕ → ℕ → ℕ → Tree
bit_of s i k = literal (level (entries s) i k)

-- the nodes of the first k bits of variable entry i are made
pub record Growing (s : List ℕ) (i : ℕ) (cells : List ℕ) (b : Builder) (k : ℕ) (cells' : List ℕ) (s' : Scratch) (b' : Builder)
    (bits : List ℕ) : Type 0 where
  pub long : length bits ≡ 32
  pub after : After cells b (up_to (bit_of s i) k) cells' s' b'
  pub means : (j : ℕ) → j < k → BitMeans (levels (entries s)) cells' b' (get_or bits j 0) (known (bit_of s i j))

module _ {s : List ℕ} {i : ℕ} {cells c₁ : List ℕ} {s₁ : Scratch} {b b₁ : Builder} {k : ℕ} {bits : List ℕ}
    (g : Growing s i cells b k c₁ s₁ b₁ bits) (c₂ : List ℕ) (s₂ : Scratch) (l : ℕ) (l_is : l ≡ level (entries s) i k)
  where
    pub growing_next : (made : Made ℕ) → k < 32 → l < levels (entries s)
        → Joins c₁ b₁ (record { level = l; low = 0; high = 1 }) c₂ s₂ (Ok made)
        → Growing s i cells b (k + 1) c₂ s₂ made.at (set bits k made.value)
    growing_next made inside low joins =
        record {
          long = length-set bits k made.value ∙ g.long;
          after = rw (each_more (bit_of s i) k, ← l_is) (after_then g.after gives.after);
          means = λ j below. go j below (eqb j k) refl;
        }
      where
        gives : Does Means c₁ b₁ (Step.take (literal l)) c₂ s₂ made
        gives =
            joins (leaf false) (leaf true) tt tt (record { is = refl; good = tt }) (record { is = refl; good = tt })

        go : (j : ℕ) → j < k + 1 → (same : Bool) → eqb j k ≡ same
            → BitMeans (levels (entries s)) c₂ made.at (get_or (set bits k made.value) j 0) (known (bit_of s i j))
        go j below true e =
            rw (eqb-true j k e, get_or-set_same bits k made.value 0 (omega (arith, g.long)), ← l_is)
            (gives.means.is, record { from = omega arith; below = low; low = tt; high = tt; differ = refl })
        go j below false e =
            let other : j ≡ k → ⊥ = eqb-false j k e in
            rw (get_or-set_other bits k j made.value 0 other)
            (after_bit gives.after (levels (entries s)) (get_or bits j 0) (known (bit_of s i j)) (g.means j (omega arith)))

    pub growing_lacks : (e : NoRoom) → k < variable_bits (entry_at s i)
        → Joins c₁ b₁ (record { level = l; low = 0; high = 1 }) c₂ s₂ (Err e) → Lacks cells b (variable_at s i).steps c₂
    unfolding Run.variable
    growing_lacks e inside joins =
        let lacks : Lacks c₁ b₁ (literal l ∷ []) c₂ =
        joins (leaf false) (leaf true) tt tt (record { is = refl; good = tt }) (record { is = refl; good = tt }) in
        let rest = each (bit_of s i) (0 + (k + 1)) (variable_bits (entry_at s i) - (k + 1)) in
        let count : variable_bits (entry_at s i) ≡ (k + 1) + (variable_bits (entry_at s i) - (k + 1)) = omega arith in
        let all : up_to (bit_of s i) (variable_bits (entry_at s i)) ≡ (up_to (bit_of s i) k ++ (literal l ∷ [])) ++ rest =
        ap (up_to (bit_of s i)) count ∙ each_split (bit_of s i) 0 (k + 1) (variable_bits (entry_at s i) - (k + 1))
        ∙ ap (λ xs. xs ++ rest) (each_more (bit_of s i) k ∙ ap (λ (m : ℕ). up_to (bit_of s i) k ++ (literal m ∷ [])) (sym l_is)) in
        rw (from_steps (up_to (bit_of s i) (variable_bits (entry_at s i))), all) (lacks_more rest (lacks_then g.after lacks))

pub growing_done : {s : List ℕ} {i : ℕ} {cells cells' : List ℕ} {s' : Scratch} {b b' : Builder} {bits : List ℕ} {k width : ℕ}
    → Growing s i cells b k cells' s' b' bits → width ≡ variable_bits (entry_at s i) → width ≤ 32 → k ≡ width
    → Does (RowMeans (levels (entries s))) cells b (variable_at s i) cells' s'
    (record { at = b'; value = record { bits = bits; width = width } })
unfolding Run.variable
growing_done {s} {i} {bits = bits} {width = width} g width_is narrow all =
    let ts = up_to (bit_of s i) (variable_bits (entry_at s i)) in
    let long : length ts ≡ variable_bits (entry_at s i) = up_to_length (bit_of s i) (variable_bits (entry_at s i)) in
    record {
      after = rw (from_steps ts, ← width_is, ← all) g.after;
      means =
          record {
            long = rw (from_value ts) (length-map ts known ∙ long ∙ sym width_is);
            narrow = narrow;
            bits = λ j below.
                let at : get_or (Run.variable_from ts).value j unknown ≡ known (bit_of s i j) =
                rw (from_value ts, map_at ts j (omega (arith, long, width_is)))
                (ap known (up_to_at (bit_of s i) (variable_bits (entry_at s i)) j (leaf false) (omega (arith, width_is)))) in
                rw at (g.means j (omega arith));
          };
    }
