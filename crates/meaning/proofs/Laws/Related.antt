-- Each operation keeps three things in step: its value at a lower limit, its value at a higher one, and its meaning.
--
--   TermRelated    a term's two rows and its number: the first row knows no more than the second, and that one is right
--   TruthRelated   a formula's two pairs and its truth: must ⇒ must ⇒ the truth ⇒ may ⇒ may
--
-- One law an operation, for all widths.
use Prim.Native.Nat.{ℕ, zero, suc, ◌+◌, ◌-◌, ◌^◌, ◌≤◌, ◌<◌}
use native.Mathlib.Omega.{arith}
use mathlib.Core.Path.{◌≡◌, refl, sym, ap, ap₂, subst, ◌∙◌}
use mathlib.Core.Bool.{Bool, true, false, cond, not, ◌&&◌, ◌||◌}
use mathlib.Core.List.{List}
use lib.Dec.{eqb, leb}
use lib.ListN.{length}
use Rattle.meaning.specs.Number.{bits, each}
use Rattle.meaning.specs.Sheet.{Entry, entry}
use Rattle.meaning.specs.Level.{value_of, level, levels, variable_bits}
use Rattle.meaning.specs.Diagram.{leaf, Assignment}
use Rattle.meaning.specs.Meaning.{Values, bind, some, every}
use Rattle.meaning.specs.BitVector
use Rattle.meaning.specs.Step.{is_and, is_or}
use Rattle.meaning.specs.Row
use Rattle.meaning.specs.Row.{Row}
use Rattle.meaning.specs.Formula
use Rattle.meaning.specs.Formula.{Pair, pair}
use Rattle.meaning.specs.Run.{levels_of, variable, variable_from, variable_bit}
use Rattle.meaning.proofs.Laws.Fits.{Fits, bit, any, Below, keep, more, Encloses, Wider}
use Rattle.meaning.proofs.Laws.Number.{bits_length}
use Rattle.meaning.proofs.Laws.BitVector as Number
use Rattle.meaning.proofs.Laws.Row as Rows
use Rattle.meaning.proofs.Laws.Row.{fits_length, fits_good, below_length, below_refl, append_fits, append_below}
use Rattle.meaning.proofs.Laws.Bitwise as Bitwise
use Rattle.meaning.proofs.Laws.Add as Add
use Rattle.meaning.proofs.Laws.Multiply as Multiply
use Rattle.meaning.proofs.Laws.Choose as Choose
use Rattle.meaning.proofs.Laws.Formula as Formulas
use Rattle.meaning.proofs.Laws.Formula.{GoodPair, Monotone, encloses_good, and_monotone, or_monotone}
use Rattle.meaning.proofs.Laws.Order as Order
use Rattle.meaning.proofs.Laws.Diagram.{literal_good}
use Rattle.meaning.proofs.Laws.Over.{over}
use Rattle.meaning.proofs.Laws.Level.{level_lt, value_of_bits, value_of_lt, write, write_value}

-- r at the lower limit, s at the higher one; x is the number under some values
pub record TermRelated (n : ℕ) (es : List Entry) (w : ℕ) (r s : Row) (x : Values → ℕ) : Type 0 where
  pub below : Below r s
  pub fits : (ρ : Assignment) → Fits n ρ s (bits w (x (value_of es ρ)))
  pub small : (ρ : Assignment) → x (value_of es ρ) < 2 ^ w

pub record TruthRelated (n : ℕ) (es : List Entry) (p q : Pair) (b : Values → Bool) : Type 0 where
  pub wider : Wider p q
  pub good : GoodPair n p
  pub encloses : (ρ : Assignment) → Encloses n ρ q (b (value_of es ρ))

-- any assignment
abbrev zeros : Assignment
zeros l = false

-- the same width, said by the bits
even : (w x y : ℕ) → length (bits w x) ≡ length (bits w y)
even w x y = bits_length w x ∙ sym (bits_length w y)

-- a row that fits one list of bits fits an equal one
fitted : {n : ℕ} {ρ : Assignment} {s : Row} {xs ys : List Bool} → xs ≡ ys → Fits n ρ s xs → Fits n ρ s ys
fitted {n} {ρ} {s} e p = subst (Fits n ρ s) e p

-- what knows less is right too
pub below_fits : {n : ℕ} {ρ : Assignment} {r s : Row} {xs : List Bool} → Below r s → Fits n ρ s xs → Fits n ρ r xs
below_fits Below.end Fits.end = Fits.end
below_fits (keep b) (bit good is f) = bit good is (below_fits b f)
below_fits (more b) (bit good is f) = any (below_fits b f)
below_fits (more b) (any f) = any (below_fits b f)

cond_self : (c : Bool) → cond c true false ≡ c
cond_self true = refl
cond_self false = refl

cond_bits : (c : Bool) (w x y : ℕ) → cond c (bits w x) (bits w y) ≡ bits w (cond c x y)
cond_bits true w x y = refl
cond_bits false w x y = refl

cond_lt : (c : Bool) {x y m : ℕ} → x < m → y < m → cond c x y < m
cond_lt true p q = p
cond_lt false p q = q

module _ {n : ℕ} {es : List Entry} where
  -- both rows are as long as the width
  pub high_length : {w : ℕ} {r s : Row} {x : Values → ℕ} → TermRelated n es w r s x → length s ≡ w
  high_length {w} {r} {s} {x} a = fits_length (a.fits zeros) ∙ bits_length w (x (value_of es zeros))

  pub low_length : {w : ℕ} {r s : Row} {x : Values → ℕ} → TermRelated n es w r s x → length r ≡ w
  low_length a = below_length a.below ∙ high_length a

  low_fits : {w : ℕ} {r s : Row} {x : Values → ℕ} → TermRelated n es w r s x → (ρ : Assignment) → Fits n ρ r (bits w (x (value_of es ρ)))
  low_fits a ρ = below_fits a.below (a.fits ρ)

  pub constant_related : (w x : ℕ) → x < 2 ^ w → TermRelated n es w (Row.constant w x) (Row.constant w x) (λ σ. x)
  constant_related w x small =
      record { below = below_refl (Row.constant w x); fits = λ ρ. Rows.constant_fits w x; small = λ ρ. small }

  pub bit_not_related : {w : ℕ} {r s : Row} {x : Values → ℕ} → TermRelated n es w r s x →
      TermRelated n es w (Row.bit_not n r).value (Row.bit_not n s).value (λ σ. BitVector.bit_not w (x σ))
  bit_not_related {w} {x} a = record {
    below = Bitwise.bit_not_below n a.below;
    fits = λ ρ. fitted (Number.not_bits w (x (value_of es ρ)) (a.small ρ)) (Bitwise.bit_not_fits (a.fits ρ));
    small = λ ρ. Number.bit_not_lt w (x (value_of es ρ));
  }

  pub negate_related : {L M : ℕ} → L ≤ M → {w : ℕ} {r s : Row} {x : Values → ℕ} → TermRelated n es w r s x →
      TermRelated n es w (Row.negate n L r).value (Row.negate n M s).value (λ σ. BitVector.negate w (x σ))
  negate_related {M} le {w} {x} a = record {
    below = Add.negate_below n le a.below;
    fits = λ ρ. fitted (Number.negative_bits w (x (value_of es ρ)) (a.small ρ)) (Add.negate_fits M (a.fits ρ));
    small = λ ρ. Number.negate_lt w (x (value_of es ρ));
  }

  module _ {w : ℕ} {r s r' s' : Row} {x y : Values → ℕ} (a : TermRelated n es w r s x) (b : TermRelated n es w r' s' y) where
    pub bit_and_related : TermRelated n es w (Row.bit_and n r r').value (Row.bit_and n s s').value (λ σ. BitVector.bitwise ◌&&◌ w (x σ) (y σ))
    bit_and_related = record {
      below = Bitwise.bit_and_below n a.below b.below;
      fits = λ ρ. fitted (Number.bitwise_bits ◌&&◌ w (x (value_of es ρ)) (y (value_of es ρ))) (Bitwise.bit_and_fits (a.fits ρ) (b.fits ρ));
      small = λ ρ. Number.bitwise_lt ◌&&◌ w (x (value_of es ρ)) (y (value_of es ρ));
    }

    pub bit_or_related : TermRelated n es w (Row.bit_or n r r').value (Row.bit_or n s s').value (λ σ. BitVector.bitwise ◌||◌ w (x σ) (y σ))
    bit_or_related = record {
      below = Bitwise.bit_or_below n a.below b.below;
      fits = λ ρ. fitted (Number.bitwise_bits ◌||◌ w (x (value_of es ρ)) (y (value_of es ρ))) (Bitwise.bit_or_fits (a.fits ρ) (b.fits ρ));
      small = λ ρ. Number.bitwise_lt ◌||◌ w (x (value_of es ρ)) (y (value_of es ρ));
    }

    pub bit_xor_related : TermRelated n es w (Row.bit_xor n r r').value (Row.bit_xor n s s').value (λ σ. BitVector.bitwise BitVector.differ w (x σ) (y σ))
    bit_xor_related = record {
      below = Bitwise.bit_xor_below n a.below b.below;
      fits = λ ρ. fitted (Number.bitwise_bits BitVector.differ w (x (value_of es ρ)) (y (value_of es ρ))) (Bitwise.bit_xor_fits (a.fits ρ) (b.fits ρ));
      small = λ ρ. Number.bitwise_lt BitVector.differ w (x (value_of es ρ)) (y (value_of es ρ));
    }

    long : length r ≡ length r'
    long = low_length a ∙ sym (low_length b)

    pub add_related : {L M : ℕ} → L ≤ M → TermRelated n es w (Row.add n L r r').value (Row.add n M s s').value (λ σ. BitVector.add w (x σ) (y σ))
    add_related {M} le = record {
      below = Add.add_below n le a.below b.below long;
      fits = λ ρ. fitted (Number.sum_bits w (x (value_of es ρ)) (y (value_of es ρ)))
          (Add.add_fits M (a.fits ρ) (b.fits ρ) (even w (x (value_of es ρ)) (y (value_of es ρ))));
      small = λ ρ. Number.add_lt w (x (value_of es ρ)) (y (value_of es ρ));
    }

    pub multiply_related : {L M : ℕ} → L ≤ M →
        TermRelated n es w (Row.multiply n L r r').value (Row.multiply n M s s').value (λ σ. BitVector.multiply w (x σ) (y σ))
    multiply_related {M} le = record {
      below = Multiply.multiply_below n le a.below b.below long;
      fits = λ ρ. fitted (Number.product_bits w (x (value_of es ρ)) (y (value_of es ρ)))
          (Multiply.multiply_fits M (a.fits ρ) (b.fits ρ) (even w (x (value_of es ρ)) (y (value_of es ρ))));
      small = λ ρ. Number.multiply_lt w (x (value_of es ρ)) (y (value_of es ρ));
    }

    pub equal_related : TruthRelated n es (Formula.equal n r r').value (Formula.equal n s s').value (λ σ. eqb (x σ) (y σ))
    equal_related = record {
      wider = Formulas.equal_wider n a.below b.below;
      good = encloses_good (Formulas.equal_encloses (low_fits a zeros) (low_fits b zeros));
      encloses = λ ρ. subst (Encloses n ρ (Formula.equal n s s').value)
          (Number.equal_bits w (x (value_of es ρ)) (y (value_of es ρ)) (a.small ρ) (b.small ρ))
          (Formulas.equal_encloses (a.fits ρ) (b.fits ρ));
    }

    pub unsigned_related : TruthRelated n es (Formula.at_most n false r r').value (Formula.at_most n false s s').value (λ σ. leb (x σ) (y σ))
    unsigned_related = record {
      wider = Order.at_most_wider n false (fits_good (a.fits zeros)) (fits_good (b.fits zeros)) a.below b.below;
      good = encloses_good (Order.at_most_encloses false (low_fits a zeros) (low_fits b zeros));
      encloses = λ ρ. subst (Encloses n ρ (Formula.at_most n false s s').value)
          (Number.unsigned_bits w (x (value_of es ρ)) (y (value_of es ρ)) (a.small ρ) (b.small ρ))
          (Order.at_most_encloses false (a.fits ρ) (b.fits ρ));
    }

    pub signed_related : 1 ≤ w →
        TruthRelated n es (Formula.at_most n true r r').value (Formula.at_most n true s s').value (λ σ. BitVector.signed_le w (x σ) (y σ))
    signed_related some = record {
      wider = Order.at_most_wider n true (fits_good (a.fits zeros)) (fits_good (b.fits zeros)) a.below b.below;
      good = encloses_good (Order.at_most_encloses true (low_fits a zeros) (low_fits b zeros));
      encloses = λ ρ. subst (Encloses n ρ (Formula.at_most n true s s').value)
          (Number.signed_bits w (x (value_of es ρ)) (y (value_of es ρ)) some (a.small ρ) (b.small ρ))
          (Order.at_most_encloses true (a.fits ρ) (b.fits ρ));
    }

    -- the condition's two pairs and its truth
    pub choose_related : {p q : Pair} {c : Values → Bool} → TruthRelated n es p q c →
        TermRelated n es w (Row.choose n p.must p.may r r').value (Row.choose n q.must q.may s s').value
        (λ σ. cond (c σ) (x σ) (y σ))
    choose_related {p} {q} {c} t = record {
      below = Choose.choose_below n t.wider t.good (encloses_good (t.encloses zeros))
          (λ ρ must. (t.encloses ρ).may ((t.encloses ρ).must must)) a.below b.below;
      fits = λ ρ. fitted (cond_bits (c (value_of es ρ)) w (x (value_of es ρ)) (y (value_of es ρ)))
          (Choose.choose_fits (t.encloses ρ) (a.fits ρ) (b.fits ρ) (even w (x (value_of es ρ)) (y (value_of es ρ))));
      small = λ ρ. cond_lt (c (value_of es ρ)) (a.small ρ) (b.small ρ);
    }

  module _ {w : ℕ} {r s : Row} {x : Values → ℕ} (a : TermRelated n es w r s x) where
    pub shift_left_related : (k : ℕ) → k ≤ w → TermRelated n es w (Row.shift_left k r) (Row.shift_left k s) (λ σ. BitVector.shift_left w (x σ) k)
    shift_left_related k le = record {
      below = Rows.shift_left_below k a.below;
      fits = λ ρ. fitted (Number.shift_left_bits w (x (value_of es ρ)) k le) (Rows.shift_left_fits k (a.fits ρ));
      small = λ ρ. Number.shift_left_lt w (x (value_of es ρ)) k;
    }

    pub shift_right_related : (k : ℕ) → k ≤ w → TermRelated n es w (Row.shift_right k r) (Row.shift_right k s) (λ σ. BitVector.shift_right (x σ) k)
    shift_right_related k le = record {
      below = Rows.shift_right_below k a.below;
      fits = λ ρ. fitted (Number.shift_right_bits w (x (value_of es ρ)) k le (a.small ρ)) (Rows.shift_right_fits k (a.fits ρ));
      small = λ ρ. Number.shift_right_lt w (x (value_of es ρ)) k (a.small ρ);
    }

    pub extract_related : (u l : ℕ) → l ≤ u → u < w →
        TermRelated n es (u - l + 1) (Row.extract u l r) (Row.extract u l s) (λ σ. BitVector.extract u l (x σ))
    extract_related u l rises inside = record {
      below = Rows.extract_below u l a.below;
      fits = λ ρ. fitted (Number.extract_bits w u l (x (value_of es ρ)) rises inside) (Rows.extract_fits u l (a.fits ρ));
      small = λ ρ. Number.extract_lt u l (x (value_of es ρ));
    }

    pub zero_extend_related : (v : ℕ) → w ≤ v → TermRelated n es v (Row.zero_extend v r) (Row.zero_extend v s) x
    zero_extend_related v le = record {
      below = Rows.zero_extend_below v a.below;
      fits = λ ρ. fitted (Number.zero_extend_bits w v (x (value_of es ρ)) le (a.small ρ)) (Rows.zero_extend_fits v (a.fits ρ));
      small = λ ρ. Number.zero_extend_lt w v (x (value_of es ρ)) le (a.small ρ);
    }

    pub sign_extend_related : (v : ℕ) → 1 ≤ w → w ≤ v →
        TermRelated n es v (Row.sign_extend v r) (Row.sign_extend v s) (λ σ. BitVector.sign_extend w v (x σ))
    sign_extend_related v some le = record {
      below = Rows.sign_extend_below v a.below;
      fits = λ ρ. fitted (Number.sign_extend_bits w v (x (value_of es ρ)) some le (a.small ρ)) (Rows.sign_extend_fits v (a.fits ρ));
      small = λ ρ. Number.sign_extend_lt w v (x (value_of es ρ)) some le (a.small ρ);
    }

  pub concat_related : {u v : ℕ} {r s r' s' : Row} {x y : Values → ℕ} → TermRelated n es u r s x → TermRelated n es v r' s' y →
      TermRelated n es (u + v) (Row.concat r r') (Row.concat s s') (λ σ. BitVector.concat v (x σ) (y σ))
  concat_related {u} {v} {x} {y} a b = record {
    below = append_below b.below a.below;
    fits = λ ρ. fitted (Number.concat_bits u v (x (value_of es ρ)) (y (value_of es ρ)) (b.small ρ)) (append_fits (b.fits ρ) (a.fits ρ));
    small = λ ρ. Number.concat_lt u v (x (value_of es ρ)) (y (value_of es ρ)) (a.small ρ) (b.small ρ);
  }

  -- ---- formulas

  pub leaf_related : (b : Bool) → TruthRelated n es (pair (leaf b) (leaf b)) (pair (leaf b) (leaf b)) (λ σ. b)
  leaf_related b = record {
    wider = record { must = λ ρ h. h; may = λ ρ h. h };
    good = record { must = tt; may = tt };
    encloses = λ ρ. record { must_good = tt; may_good = tt; must = λ h. h; may = λ h. h };
  }

  -- what knows less encloses the truth too
  pub low_encloses : {p q : Pair} {b : Values → Bool} → TruthRelated n es p q b → (ρ : Assignment) → Encloses n ρ p (b (value_of es ρ))
  low_encloses t ρ = record {
    must_good = t.good.must;
    may_good = t.good.may;
    must = λ h. (t.encloses ρ).must (t.wider.must ρ h);
    may = λ h. t.wider.may ρ ((t.encloses ρ).may h);
  }

  pub negation_related : {p q : Pair} {b : Values → Bool} → TruthRelated n es p q b →
      TruthRelated n es (Formula.negation n p).value (Formula.negation n q).value (λ σ. not (b σ))
  negation_related t = record {
    wider = Formulas.negation_wider n t.good (encloses_good (t.encloses zeros)) t.wider;
    good = encloses_good (Formulas.negation_encloses (low_encloses t zeros));
    encloses = λ ρ. Formulas.negation_encloses (t.encloses ρ);
  }

  module _ {p q p' q' : Pair} {b c : Values → Bool} (t : TruthRelated n es p q b) (u : TruthRelated n es p' q' c) where
    pub and_related : TruthRelated n es (Formula.both n is_and p p').value (Formula.both n is_and q q').value (λ σ. b σ && c σ)
    and_related = record {
      wider = Formulas.both_wider n is_and and_monotone t.good u.good (encloses_good (t.encloses zeros))
          (encloses_good (u.encloses zeros)) t.wider u.wider;
      good = encloses_good (Formulas.both_encloses is_and and_monotone (low_encloses t zeros) (low_encloses u zeros));
      encloses = λ ρ. Formulas.both_encloses is_and and_monotone (t.encloses ρ) (u.encloses ρ);
    }

    pub or_related : TruthRelated n es (Formula.both n is_or p p').value (Formula.both n is_or q q').value (λ σ. b σ || c σ)
    or_related = record {
      wider = Formulas.both_wider n is_or or_monotone t.good u.good (encloses_good (t.encloses zeros))
          (encloses_good (u.encloses zeros)) t.wider u.wider;
      good = encloses_good (Formulas.both_encloses is_or or_monotone (low_encloses t zeros) (low_encloses u zeros));
      encloses = λ ρ. Formulas.both_encloses is_or or_monotone (t.encloses ρ) (u.encloses ρ);
    }

  -- ---- exists and forall: `fold` is some or every

  module _ (f : Bool → Bool → Bool) (fold : ℕ → (ℕ → Bool) → Bool) (monotone : Monotone f)
      (fold_over : (i : ℕ) (g : Assignment → Bool) (ρ : Assignment) →
      over f (levels_of es i) g ρ ≡ fold (2 ^ variable_bits (entry es i)) (λ x. g (write es i (variable_bits (entry es i)) x ρ)))
      (fold_same : (m : ℕ) (g h : ℕ → Bool) → ((x : ℕ) → x < m → g x ≡ h x) → fold m g ≡ fold m h)
      (wide : (j : ℕ) → variable_bits (entry es j) ≤ 32)
    where
      pub quantified_related : (i : ℕ) {p q : Pair} {b : Values → Bool} → TruthRelated n es p q b →
          TruthRelated n es (Formula.quantified n f (levels_of es i) p).value (Formula.quantified n f (levels_of es i) q).value
          (λ σ. fold (2 ^ variable_bits (entry es i)) (λ x. b (bind σ i x)))
      quantified_related i {p} {q} {b} t = record {
        wider = Formulas.quantified_wider n f monotone (levels_of es i) t.good (encloses_good (t.encloses zeros)) t.wider;
        good = encloses_good (Formulas.quantified_encloses {ρ = zeros} f monotone (levels_of es i) (λ τ. b (value_of es τ)) (low_encloses t));
        encloses = λ ρ. subst (Encloses n ρ (Formula.quantified n f (levels_of es i) q).value)
            (fold_over i (λ τ. b (value_of es τ)) ρ ∙
            fold_same (2 ^ variable_bits (entry es i)) _ _ (λ x small. ap b (write_value es i x ρ wide small)))
            (Formulas.quantified_encloses f monotone (levels_of es i) (λ τ. b (value_of es τ)) t.encloses);
      }

-- ---- variables

-- a variable's row at any limit
variable_fits : (es : List Entry) (ρ : Assignment) (i b k : ℕ) → b + k ≤ variable_bits (entry es i) → b + k ≤ 32 →
    Fits (levels es) ρ (variable_from (each (variable_bit es i) b k)).value (each (λ c. ρ (level es i c)) b k)
variable_fits es ρ i b zero inside narrow = Fits.end
variable_fits es ρ i b (suc k) inside narrow =
    bit (literal_good (levels es) (level es i b) (level_lt es i b (omega arith) (omega arith))) (cond_self (ρ (level es i b)))
    (variable_fits es ρ i (suc b) k (omega arith) (omega arith))

pub variable_related : (es : List Entry) (i w : ℕ) → variable_bits (entry es i) ≡ w → w ≤ 32 →
    TermRelated (levels es) es w (variable es i w).value (variable es i w).value (λ σ. σ i)
unfolding variable
variable_related es i w is narrow = record {
  below = below_refl (variable es i w).value;
  fits = λ ρ. fitted (sym (rw is at (value_of_bits es ρ i)))
      (variable_fits es ρ i 0 w (rw is (omega arith)) (omega arith));
  small = λ ρ. rw is at (value_of_lt es ρ i);
}

-- ---- some and every look only below their bound

pub some_same : (m : ℕ) (g h : ℕ → Bool) → ((x : ℕ) → x < m → g x ≡ h x) → some m g ≡ some m h
some_same zero g h same = refl
some_same (suc m) g h same = ap₂ ◌||◌ (same m (omega arith)) (some_same m g h (λ x small. same x (omega arith)))

pub every_same : (m : ℕ) (g h : ℕ → Bool) → ((x : ℕ) → x < m → g x ≡ h x) → every m g ≡ every m h
every_same zero g h same = refl
every_same (suc m) g h same = ap₂ ◌&&◌ (same m (omega arith)) (every_same m g h (λ x small. same x (omega arith)))
