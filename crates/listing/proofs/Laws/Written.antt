-- Pieces put into a lent buffer, one after another.
use Prim.Native.Nat.{ℕ}
use mathlib.Core.Path.{ap, ◌∙◌}
use mathlib.Core.List.{List, ◌++◌, append_assoc}
use lib.ListN.{take, length-append}
use native.Mathlib.Omega.{arith}
use Rattle.listing.specs.Written.{Written}

-- one piece, then another
pub written_then : {before middle after first second : List ℕ} {at between end : ℕ} →
    Written before at middle between first →
    Written middle between after end second → Written before at after end (first ++ second)
written_then {before} {middle} {after} {first} {second} {at} one two = record {
  stands =
      two.stands ∙ ap (λ (front : List ℕ). front ++ second) one.stands ∙ append_assoc (take at before) first second;
  far = rw (length-append first second) (omega (arith, one.far, two.far));
}
