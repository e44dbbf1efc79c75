-- Moved bits: what the functions of row.rt ensure of a row's places, as rows that stand for the definition's rows.
--
-- Main results: means_each and each_means, between RowMeans and lists that are related place by place; and a law
-- `OPERATION-means` for each operation, from its operands' RowMeans and what the function ensures.
use Prim.Native.Nat.{ℕ, zero, suc, ◌+◌, ◌-◌, ◌≤◌, ◌<◌}
use native.Mathlib.Omega.{arith}
use mathlib.Core.Path.{◌≡◌, refl, sym, ap, ◌∙◌}
use mathlib.Core.Bool.{Bool, false}
use mathlib.Core.List.{List, [], ◌∷◌, ◌++◌, map}
use lib.ListN.{length, take, drop, get_or, replicate}
use lib.ListN.{length-append, length-take, length-drop, length-replicate, length-map}
use lib.Seq.{paste, take_all, get_or-take, length-take-le}
use Rattle.meaning.specs.Number.{bits, digit}
use Rattle.meaning.specs.Diagram.{leaf}
use Rattle.meaning.specs.Row
use Rattle.meaning.specs.Row.{Bit, known, unknown, zeros, unknowns, top_bit}
use Rattle.meaning.proofs.Laws.Number.{bits_length}
use Rattle.diagram.specs.declared.builder.Builder.{Builder}
use Rattle.term.specs.Row.{mark, BitMeans, RowMeans, places}
use Rattle.term.specs.declared.row.Row as Declared
use Rattle.term.proofs.Laws.Places.{moved_up}

-- ---- lists that are related place by place

pub data Each (P : ℕ → Bit → Type 0) : List ℕ → List Bit → Type 0 where
  none : Each P [] []
  both : {a : ℕ} {x : Bit} {l : List ℕ} {r : List Bit} → P a x → Each P l r → Each P (a ∷ l) (x ∷ r)

module _ {P : ℕ → Bit → Type 0} where
  pub each_append : {l m : List ℕ} {r s : List Bit} → Each P l r → Each P m s → Each P (l ++ m) (r ++ s)
  each_append none q = q
  each_append (both p e) q = both p (each_append e q)

  pub each_take : (k : ℕ) {l : List ℕ} {r : List Bit} → Each P l r → Each P (take k l) (take k r)
  each_take zero e = none
  each_take (suc k) none = none
  each_take (suc k) (both p e) = both p (each_take k e)

  pub each_drop : (k : ℕ) {l : List ℕ} {r : List Bit} → Each P l r → Each P (drop k l) (drop k r)
  each_drop zero e = e
  each_drop (suc k) none = none
  each_drop (suc k) (both p e) = each_drop k e

  pub each_replicate : (k : ℕ) (a : ℕ) (x : Bit) → P a x → Each P (replicate k a) (replicate k x)
  each_replicate zero a x p = none
  each_replicate (suc k) a x p = both p (each_replicate k a x p)

  pub each_map :
      (f : Bool → ℕ) (g : Bool → Bit) (l : List Bool) → ((b : Bool) → P (f b) (g b)) → Each P (map f l) (map g l)
  each_map f g [] p = none
  each_map f g (b ∷ l) p = both (p b) (each_map f g l p)

  -- by index, and back
  pub each_at : {l : List ℕ} {r : List Bit} → Each P l r → (i : ℕ) → i < length r → P (get_or l i 0) (get_or r i unknown)
  each_at none i lt = absurd (omega arith)
  each_at (both p e) zero lt = p
  each_at (both p e) (suc i) lt = each_at e i (omega arith)

  pub each_of :
      (l : List ℕ) (r : List Bit) → length l ≡ length r → ((i : ℕ) → i < length r → P (get_or l i 0) (get_or r i unknown)) →
      Each P l r
  each_of [] [] long at = none
  each_of [] (x ∷ r) long at = absurd (omega arith)
  each_of (a ∷ l) [] long at = absurd (omega arith)
  each_of (a ∷ l) (x ∷ r) long at =
      both (at 0 (omega arith)) (each_of l r (omega arith) (λ i lt. at (suc i) (omega arith)))

-- ---- rows

-- what the functions ensure of a row: its width and its places
abbrev pub Holds : Declared.Row → ℕ → List ℕ → Type 0
Holds row w l = (row.width ≡ w) × (places row ≡ l)

-- a row's array has all its places
abbrev pub Whole : Declared.Row → Type 0
Whole row = length row.bits ≡ 32

-- the top bit of a row that isn't empty is its last
top_last : (x y : Bit) (r : List Bit) → top_bit x (y ∷ r) ≡ get_or (y ∷ r) (length r) unknown
top_last x y [] = refl
top_last x y (z ∷ r) = top_last y z r

top_bit_lem : (r : List Bit) → 1 ≤ length r → top_bit unknown r ≡ get_or r (length r - 1) unknown
top_bit_lem [] some = absurd (omega arith)
top_bit_lem (y ∷ r) some =
    let last : length r ≡ suc (length r) - 1 = omega arith in
    top_last unknown y r ∙ ap (λ k. get_or (y ∷ r) k unknown) last

each_zeros : (n : ℕ) (cells : List ℕ) (b : Builder) (k : ℕ) → Each (BitMeans n cells b) (replicate k 0) (zeros k)
each_zeros n cells b k = each_replicate k 0 (known (leaf false)) (refl, tt)

module _ {n : ℕ} {cells : List ℕ} {b : Builder} where
  -- of each place RowMeans says what the list of places says
  pub means_places :
      {row : Declared.Row} {r : List Bit} → RowMeans n cells b row r → (i : ℕ) → i < row.width →
      BitMeans n cells b (get_or (places row) i 0) (get_or r i unknown)
  means_places {row} m i lt = rw (get_or-take row.width row.bits i 0 lt) (m.bits i lt)

  pub means_each :
      {row : Declared.Row} {r : List Bit} → RowMeans n cells b row r → Whole row →
      Each (BitMeans n cells b) (places row) r
  means_each {row} {r} m whole =
      let long : length (places row) ≡ row.width = length-take-le row.width row.bits (omega arith) in
      each_of (places row) r (omega arith) (λ i lt. means_places m i (omega arith))

  pub each_means :
      {row : Declared.Row} {w : ℕ} {l : List ℕ} {r : List Bit} → Holds row w l → w ≤ 32 → length r ≡ w →
      Each (BitMeans n cells b) l r → RowMeans n cells b row r
  each_means {row} {w} {l} {r} h narrow long each =
      record {
        long = long ∙ sym h.0;
        narrow = omega arith;
        bits = λ i lt.
            rw (← get_or-take row.width row.bits i 0 lt, h.1) (each_at each i (omega arith));
      }

  -- ---- rows of one bit, and constants

  pub filled_means :
      {row : Declared.Row} (w a : ℕ) (x : Bit) → w ≤ 32 → BitMeans n cells b a x →
      Holds row w (replicate w a) → RowMeans n cells b row (replicate w x)
  filled_means w a x narrow bit h =
      each_means h narrow (length-replicate w x) (each_replicate w a x bit)

  pub zeros_means :
      {row : Declared.Row} (w : ℕ) → w ≤ 32 → Holds row w (replicate w 0) → RowMeans n cells b row (zeros w)
  zeros_means w narrow h = filled_means w 0 (known (leaf false)) narrow (refl, tt) h

  pub unknowns_means :
      {row : Declared.Row} (w : ℕ) → w ≤ 32 → Holds row w (replicate w mark) → RowMeans n cells b row (unknowns w)
  unknowns_means w narrow h = filled_means w mark unknown narrow refl h

  pub constant_means :
      {row : Declared.Row} (w v : ℕ) → w ≤ 32 → Holds row w (map digit (bits w v)) →
      RowMeans n cells b row (Row.constant w v)
  constant_means w v narrow h =
      each_means h narrow (length-map (bits w v) (λ c. known (leaf c)) ∙ bits_length w v)
      (each_map digit (λ c. known (leaf c)) (bits w v) (λ c. (refl, tt)))

  -- ---- one row moved

  module _ {row row' : Declared.Row} {r : List Bit} (m : RowMeans n cells b row r) (whole : Whole row) where
    -- the lowest j places, up by k
    pub up_means :
        (w k j : ℕ) → w ≤ 32 → k + j ≡ w → j ≤ row.width → Holds row' w (replicate k 0 ++ take j (places row)) →
        RowMeans n cells b row' (zeros k ++ take j r)
    up_means w k j narrow fits le h =
        each_means h narrow (simp (length-append, length-replicate, length-take) (omega arith))
        (each_append (each_zeros n cells b k) (each_take j (means_each m whole)))

    pub shift_left_means :
        (k : ℕ) → k ≤ row.width → Holds row' row.width (replicate k 0 ++ take (row.width - k) (places row)) →
        RowMeans n cells b row' (Row.shift_left k r)
    shift_left_means k le h =
        rw m.long (up_means row.width k (row.width - k) m.narrow (omega arith) (omega arith) h)

    pub shift_right_means :
        (k : ℕ) → k ≤ row.width → Holds row' row.width (drop k (places row) ++ replicate k 0) →
        RowMeans n cells b row' (Row.shift_right k r)
    shift_right_means k le h =
        each_means h m.narrow (simp (length-append, length-replicate, length-drop) (omega arith))
        (each_append (each_drop k (means_each m whole)) (each_zeros n cells b k))

    pub low_part_means :
        (k : ℕ) → k ≤ row.width → Holds row' k (take k (places row)) → RowMeans n cells b row' (take k r)
    low_part_means k le h =
        each_means h (omega arith) (simp length-take (omega arith)) (each_take k (means_each m whole))

    pub extract_means :
        (u l : ℕ) → l ≤ u → u < row.width → Holds row' (u - l + 1) (take (u - l + 1) (drop l (places row))) →
        RowMeans n cells b row' (Row.extract u l r)
    extract_means u l le lt h =
        each_means h (omega arith) (simp (length-take, length-drop) (omega arith))
        (each_take (u - l + 1) (each_drop l (means_each m whole)))

    pub extended_means :
        (w a : ℕ) (x : Bit) → w ≤ 32 → row.width ≤ w → BitMeans n cells b a x →
        Holds row' w (places row ++ replicate (w - row.width) a) →
        RowMeans n cells b row' (r ++ replicate (w - length r) x)
    extended_means w a x narrow le bit h =
        each_means h narrow (simp (length-append, length-replicate) (omega arith))
        (rw m.long (each_append (means_each m whole) (each_replicate (w - row.width) a x bit)))

    pub zero_extend_means :
        (w : ℕ) → w ≤ 32 → row.width ≤ w → Holds row' w (places row ++ replicate (w - row.width) 0) →
        RowMeans n cells b row' (Row.zero_extend w r)
    zero_extend_means w narrow le h = extended_means w 0 (known (leaf false)) narrow le (refl, tt) h

    pub sign_extend_means :
        (w : ℕ) → w ≤ 32 → row.width ≤ w → 1 ≤ row.width →
        Holds row' w (places row ++ replicate (w - row.width) (get_or (places row) (row.width - 1) 0)) →
        RowMeans n cells b row' (Row.sign_extend w r)
    sign_extend_means w narrow le some h =
        extended_means w (get_or (places row) (row.width - 1) 0) (top_bit unknown r) narrow le
        (rw (top_bit_lem r (omega arith), m.long) (means_places m (row.width - 1) (omega arith))) h

    -- a partial product: the row put at k into a row of zeros
    pub raised_means :
        (into : Declared.Row) (w k : ℕ) → w ≤ 32 → k + row.width ≡ w → Holds into w (replicate w 0) →
        Holds row' into.width (paste (places into) k (places row) row.width) →
        RowMeans n cells b row' (zeros k ++ r)
    raised_means into w k narrow fits filled h =
        let all : take row.width r ≡ r = take_all row.width r (omega arith) in
        let up : places row' ≡ replicate k 0 ++ take row.width (places row) =
        rw (h.1, filled.1) (moved_up (places row) w k row.width fits) in
        rw (← all) (up_means w k row.width narrow fits (omega arith) (h.0 ∙ filled.0, up))

  -- ---- two rows joined

  pub concat_means :
      {x y row : Declared.Row} {r s : List Bit} → RowMeans n cells b x r → RowMeans n cells b y s → Whole x → Whole y →
      x.width + y.width ≤ 32 → Holds row (x.width + y.width) (places y ++ places x) →
      RowMeans n cells b row (Row.concat r s)
  concat_means mx my wx wy fits h =
      each_means h fits (simp length-append (omega arith))
      (each_append (means_each my wy) (means_each mx wx))
