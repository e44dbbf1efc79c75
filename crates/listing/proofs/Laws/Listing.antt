-- The listing from its pieces, one law a way through the code; and the verdict's line.
use Prim.Native.Nat.{ℕ}
use mathlib.Core.Path.{◌≡◌, refl, sym, ap, ◌∙◌}
use mathlib.Core.Bool.{Bool, true, false, cond}
use mathlib.Core.List.{List, [], ◌++◌, append_assoc, append-nil}
use lib.Dec.{eqb}
use borrow.Author.Tests.{eq-eqb, ne_eqb}
use Rattle.meaning.specs.Sheet.{entries}
use Rattle.meaning.specs.Value.{assignment}
use Rattle.meaning.specs.Program.{text, listed}
use Rattle.listing.specs.Pieces.{digits, number_line, verdict_line, value_lines}

-- ---- the verdict's line

module _ (v : ℕ) where
  pub verdict_sat : v ≡ 1 → text "verdict sat\n" ≡ verdict_line v
  unfolding verdict_line
  verdict_sat one = rw (eq-eqb v 1 one) refl

  pub verdict_unsat : (v ≡ 1 → ⊥) → v ≡ 2 → text "verdict unsat\n" ≡ verdict_line v
  unfolding verdict_line
  verdict_unsat other two = rw (ne_eqb v 1 other, eq-eqb v 2 two) refl

  pub verdict_unknown : (v ≡ 1 → ⊥) → (v ≡ 2 → ⊥) → text "verdict unknown\n" ≡ verdict_line v
  unfolding verdict_line
  verdict_unknown other another = rw (ne_eqb v 1 other, ne_eqb v 2 another) refl

-- ---- the listing

-- what a sheet that is not refused lists before the values
abbrev pub judged : ℕ → ℕ → ℕ → ℕ → ℕ → List ℕ
judged number verdict must may used =
    number_line (text "answer ") number
    ++ (verdict_line verdict
    ++ (number_line (text "must ") must ++ (number_line (text "may ") may ++ number_line (text "slots ") used)))

in_turn : (a v m y u : List ℕ) → ((((a ++ v) ++ m) ++ y) ++ u) ≡ a ++ (v ++ (m ++ (y ++ u)))
in_turn a v m y u = simp append_assoc

regroup : (a v m y u e : List ℕ) → (a ++ (v ++ (m ++ (y ++ u)))) ++ e ≡ a ++ (v ++ m ++ y ++ u ++ e)
regroup a v m y u e = simp append_assoc

module _ (s a : List ℕ) (number verdict must may used : ℕ) where
  pub listed_refused : {page : List ℕ} → (number ≡ 0 → ⊥) → page ≡ number_line (text "answer ") number →
      page ≡ listed number verdict must may used (entries s) (assignment a)
  unfolding listed number_line digits
  listed_refused refused answer =
      rw (ne_eqb number 0 refused) (answer ∙ sym (append-nil (number_line (text "answer ") number)))

  shape : (sat : Bool) → number ≡ 0 → eqb verdict 1 ≡ sat →
      judged number verdict must may used ++ cond sat (value_lines s a) []
      ≡ listed number verdict must may used (entries s) (assignment a)
  unfolding listed number_line verdict_line digits value_lines
  shape sat good is =
      rw (eq-eqb number 0 good, ← is)
      (regroup (number_line (text "answer ") number) (verdict_line verdict) (number_line (text "must ") must)
      (number_line (text "may ") may) (number_line (text "slots ") used) (cond (eqb verdict 1) (value_lines s a) []))

  module _ {none one two three four five : List ℕ} (good : number ≡ 0)
      (empty : none ≡ []) (answered : one ≡ none ++ number_line (text "answer ") number)
      (said : two ≡ one ++ verdict_line verdict) (held : three ≡ two ++ number_line (text "must ") must)
      (allowed : four ≡ three ++ number_line (text "may ") may) (counted : five ≡ four ++ number_line (text "slots ") used) where
    lines : five ≡ judged number verdict must may used
    lines =
        rw (counted, allowed, held, said, answered, empty)
        (in_turn (number_line (text "answer ") number) (verdict_line verdict) (number_line (text "must ") must)
        (number_line (text "may ") may) (number_line (text "slots ") used))

    pub listed_judged : (verdict ≡ 1 → ⊥) → five ≡ listed number verdict must may used (entries s) (assignment a)
    listed_judged other = sym (append-nil five) ∙ ap (λ (l : List ℕ). l ++ []) lines ∙ shape false good (ne_eqb verdict 1 other)

    pub listed_sat : {page : List ℕ} → verdict ≡ 1 → page ≡ five ++ value_lines s a →
        page ≡ listed number verdict must may used (entries s) (assignment a)
    listed_sat sat values =
        values ∙ ap (λ (l : List ℕ). l ++ value_lines s a) lines ∙ shape true good (eq-eqb verdict 1 sat)
