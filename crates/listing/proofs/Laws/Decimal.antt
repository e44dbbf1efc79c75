-- The decimals of the definition are those that std writes.
use Rattle.std.proofs.Common.{◌≡◌, ℕ, ◌<◌, ◌+◌, [], ◌∷◌, arith, refl, sym, ap}
use Rattle.std.specs.Fmt.{decimal}
use Rattle.std.proofs.lemmas.Bool.{lt-ltb, le-ltb}
use Rattle.std.proofs.lemmas.Fmt.{AppendsLastDigit, decimal_from_appends, length-decimal-le}
use Rattle.meaning.specs.Program.{decimal_from}
use Rattle.listing.specs.Pieces.{digits}

appends : AppendsLastDigit decimal_from
appends = record {
  one = λ k n small. rw (lt-ltb n 10 small) (ap (λ (d : ℕ). (48 + d) ∷ []) (omega (arith)));
  more = λ k n large. rw (le-ltb n 10 large) refl;
}

pub decimal_digits : (n : ℕ) → n < 4294967296 → decimal n ≡ digits n
unfolding digits
decimal_digits n small = sym (decimal_from_appends decimal_from appends 10 n (omega arith) (length-decimal-le 10 n (omega arith) (omega arith) (omega arith)))
