-- The variables' values: an entry's line, and the lines of all entries.
use Prim.Native.Nat.{ℕ, ◌+◌, ◌≤◌, ◌<◌}
use mathlib.Core.Path.{◌≡◌, refl, sym, ap, ◌∙◌}
use mathlib.Core.Bool.{true, false}
use mathlib.Core.List.{List, [], ◌++◌, append_assoc, append-nil}
use native.Mathlib.Numerals.{add-one}
use Rattle.std.proofs.lemmas.Bool.{true≢false, false≢true}
use Rattle.meaning.specs.Kind.{Sort, a_variable}
use Rattle.meaning.specs.Sheet.{Entry, count, rule_at, entries}
use Rattle.meaning.specs.Check.{suits}
use Rattle.meaning.specs.Level.{value_of}
use Rattle.meaning.specs.Diagram.{Assignment}
use Rattle.meaning.specs.Value.{assignment}
use Rattle.meaning.specs.Program.{text, entry_line, entry_lines}
use Rattle.sheet.proofs.Laws.Sheet.{rest, rest_begin, rest_more, rest_end}
use Rattle.listing.specs.Pieces.{digits, number_line, entry_text, value_lines}

-- ---- one entry

no_line : (es : List Entry) (ρ : Assignment) (i : ℕ) (sort : Sort) → suits a_variable sort ≡ false →
    [] ≡ entry_line es ρ i sort
no_line es ρ i Sort.variable other = absurd (true≢false other)
no_line es ρ i Sort.term other = refl
no_line es ρ i Sort.formula other = refl
no_line es ρ i Sort.neither other = refl

abbrev its_line : List Entry → Assignment → ℕ → List ℕ
its_line es ρ i = text "entry " ++ (digits i ++ number_line (text " value ") (value_of es ρ i))

some_line : (es : List Entry) (ρ : Assignment) (i : ℕ) (sort : Sort) → suits a_variable sort ≡ true →
    its_line es ρ i ≡ entry_line es ρ i sort
unfolding digits number_line
some_line es ρ i Sort.variable is = refl
some_line es ρ i Sort.term is = absurd (false≢true is)
some_line es ρ i Sort.formula is = absurd (false≢true is)
some_line es ρ i Sort.neither is = absurd (false≢true is)

module _ (s a : List ℕ) (i : ℕ) where
  pub entry_none : suits a_variable (rule_at s i).sort ≡ false → (page : List ℕ) → page ≡ page ++ entry_text s a i
  unfolding entry_text
  entry_none other page =
      rw (← no_line (entries s) (assignment a) i (rule_at s i).sort other) (sym (append-nil page))

  pub entry_some : (page : List ℕ) {one two three : List ℕ} (v : ℕ) → suits a_variable (rule_at s i).sort ≡ true →
      v ≡ value_of (entries s) (assignment a) i →
      one ≡ page ++ text "entry " → two ≡ one ++ digits i → three ≡ two ++ number_line (text " value ") v →
      three ≡ page ++ entry_text s a i
  unfolding entry_text
  entry_some page v variable is_v word name value =
      rw (← some_line (entries s) (assignment a) i (rule_at s i).sort variable, ← is_v, value, name, word)
      (append_assoc (page ++ text "entry ") (digits i) (number_line (text " value ") v)
      ∙ append_assoc page (text "entry ") (digits i ++ number_line (text " value ") v))

-- ---- all entries

unfoldable pub lines_from : List ℕ → List ℕ → ℕ → ℕ → List ℕ
lines_from s a n i = entry_lines (entries s) (assignment a) i (rest s n i)

-- what stands there, with the lines from entry i on, is the whole
pub record Going (s a : List ℕ) (n : ℕ) (before now : List ℕ) (i : ℕ) : Type 0 where
  pub stands : now ++ lines_from s a n i ≡ before ++ value_lines s a

lines_begin : (s a : List ℕ) (n : ℕ) → n ≡ count s → lines_from s a n 0 ≡ value_lines s a
unfolding lines_from value_lines
lines_begin s a n is = ap (entry_lines (entries s) (assignment a) 0) (sym (rest_begin s n is))

lines_more : (s a : List ℕ) (n i : ℕ) → i < n → lines_from s a n i ≡ entry_text s a i ++ lines_from s a n (i + 1)
unfolding lines_from entry_text
lines_more s a n i more = rw (rest_more s n i more, add-one i) refl

lines_end : (s a : List ℕ) (n i : ℕ) → n ≤ i → lines_from s a n i ≡ []
unfolding lines_from
lines_end s a n i done = rw (rest_end s n i done) refl

module _ {s a : List ℕ} {n : ℕ} where
  pub going_begin : (before : List ℕ) → n ≡ count s → Going s a n before before 0
  going_begin before is = let same = lines_begin s a n is in record { stands = rw same refl }

  module _ {before now : List ℕ} {i : ℕ} (going : Going s a n before now i) where
    pub going_more : {next : List ℕ} → i < n → next ≡ now ++ entry_text s a i → Going s a n before next (i + 1)
    going_more more put = record {
      stands =
          rw put (append_assoc now (entry_text s a i) (lines_from s a n (i + 1)))
          ∙ ap (λ (l : List ℕ). now ++ l) (sym (lines_more s a n i more))
          ∙ going.stands;
    }

    pub going_end : n ≤ i → now ≡ before ++ value_lines s a
    going_end done =
        sym (append-nil now) ∙ ap (λ (l : List ℕ). now ++ l) (sym (lines_end s a n i done)) ∙ going.stands
