-- Laws of a row's places as a list: put into another row, or a constant's digits.
use Prim.Native.Nat.{ℕ, zero, suc, ◌+◌, ◌-◌, ◌/◌, ◌%◌, ◌≤◌, ◌<◌}
use native.Mathlib.Nat.{zero-sub}
use native.Mathlib.Numerals.{add-one}
use native.Mathlib.Omega.{arith}
use mathlib.Core.Path.{◌≡◌, sym, ap, ◌∙◌}
use mathlib.Core.List.{List, [], ◌∷◌, ◌++◌, map, append_assoc, append-nil}
use lib.ListN.{length, take, drop, set, replicate, length-set, length-drop}
use lib.Seq.{take-take, take-nil, take-append-add, take-suc-set}
use lib.Seq.{paste, length_paste_head}
use Rattle.std.proofs.lemmas.List.{take-replicate, drop-replicate}
use Rattle.meaning.specs.Number.{bits, digit}
use Rattle.meaning.proofs.Laws.Number.{digit_odd}

drop_take : {A : Type 0} (n m : ℕ) (l : List A) → drop n (take m l) ≡ take (m - n) (drop n l)
drop_take zero m l = let all : m ≡ m - 0 = omega arith in ap (λ k. take k l) all
drop_take (suc n) zero l = rw (zero-sub (suc n))
drop_take (suc n) (suc m) [] = sym (take-nil (suc m - suc n))
drop_take (suc n) (suc m) (x ∷ l) =
    let less : m - n ≡ suc m - suc n = omega arith in
    drop_take n m l ∙ ap (λ k. take k (drop n l)) less

-- ---- some places put into another row's: the first w of d and the first v of s are all that is asked

pub put_in :
    (d s l : List ℕ) (at w f v n : ℕ) → l ≡ paste d at (take n (drop f s)) n → length d ≡ 32 → length s ≡ 32 → w ≤ 32 →
    v ≤ 32 → at + n ≤ w → f + n ≤ v → take w l ≡ paste (take w d) at (drop f (take v s)) n
put_in d s l at w f v n is long_d long_s wide narrow fits from =
    let front : List ℕ = take at d ++ take n (drop f s) in
    let rest : ℕ = w - (at + n) in
    let all : n ≤ n = omega arith in
    let whole : l ≡ front ++ drop (at + n) d = rw (take-take n n (drop f s) all) at is in
    let long : length front ≡ at + n =
    length_paste_head d at (drop f s) n (omega arith) (rw (length-drop f s) (omega arith)) in
    let cut : w ≡ length front + rest = omega arith in
    let before : at ≤ w = omega arith in
    let part : n ≤ v - f = omega arith in
    ap (take w) whole ∙ ap (λ k. take k (front ++ drop (at + n) d)) cut ∙
    take-append-add front (drop (at + n) d) rest ∙
    sym (rw (take-take at w d before, drop_take f v s, take-take n (v - f) (drop f s) part, drop_take (at + n) w d))

-- ---- put into a row that is filled with one number

paste_filled :
    (w v at : ℕ) (s : List ℕ) (n : ℕ) → at + n ≤ w →
    paste (replicate w v) at s n ≡ replicate at v ++ take n s ++ replicate (w - (at + n)) v
paste_filled w v at s n fits =
    let before : at ≤ w = omega arith in rw (take-replicate at w v before, drop-replicate (at + n) w v)

pub moved_up :
    (l : List ℕ) (w k n : ℕ) → k + n ≡ w → paste (replicate w 0) k l n ≡ replicate k 0 ++ take n l
moved_up l w k n whole =
    let fits : k + n ≤ w = omega arith in
    let none : w - (k + n) ≡ 0 = omega arith in
    rw (paste_filled w 0 k l n fits, none) (append-nil (replicate k 0 ++ take n l))

pub moved_down :
    (l : List ℕ) (w k : ℕ) → k ≤ w →
    paste (replicate w 0) 0 (drop k (take w l)) (w - k) ≡ drop k (take w l) ++ replicate k 0
moved_down l w k le =
    let fits : 0 + (w - k) ≤ w = omega arith in
    let left : w - (0 + (w - k)) ≡ k = omega arith in
    let same : w - k ≤ w - k = omega arith in
    rw (paste_filled w 0 0 (drop k (take w l)) (w - k) fits, left)
    (rw (drop_take k w l, take-take (w - k) (w - k) (drop k l) same))

pub topped :
    (l : List ℕ) (w v n : ℕ) → n ≤ w → paste (replicate w v) 0 (take n l) n ≡ take n l ++ replicate (w - n) v
topped l w v n le =
    let fits : 0 + n ≤ w = omega arith in
    let left : w - (0 + n) ≡ w - n = omega arith in
    let same : n ≤ n = omega arith in
    rw (paste_filled w v 0 (take n l) n fits, left, take-take n n l same)

-- ---- the digits of a constant

-- the first i digits of v stand in l; those of `rest` are left
pub record Digits (w v : ℕ) (l : List ℕ) (rest i : ℕ) : Type 0 where
  pub long : length l ≡ 32
  pub whole : take i l ++ map digit (bits (w - i) rest) ≡ map digit (bits w v)

pub digits_next :
    (w v : ℕ) (l : List ℕ) (rest i : ℕ) → w ≤ 32 → Digits w v l rest i → i < w →
    Digits w v (set l i (rest % 2)) (rest / 2) (i + 1)
digits_next w v l rest i narrow d lt =
    let within : i < length l = omega arith in
    let more : w - i ≡ suc (w - (i + 1)) = omega arith in
    let done : take i l ++ map digit (bits (w - i) rest) ≡ map digit (bits w v) = d.whole in
    record {
      long = length-set l i (rest % 2) ∙ d.long;
      whole =
          rw (
            add-one i,
            take-suc-set l i (rest % 2) within,
            append_assoc (take i l) (rest % 2 ∷ []) (map digit (bits (w - suc i) (rest / 2))),
            ← digit_odd rest,
            ← add-one i,
          )
          (rw more at done);
    }
