-- Bytes that a reader gave, one read after another.
use Rattle.std.proofs.Common.{◌≡◌, ℕ, ◌+◌, ◌≤◌, List, ◌++◌, length, take, sym, ap, ◌∙◌, append_assoc}
use Rattle.std.proofs.lemmas.List.{take-append-le, length-take-le}
use Rattle.std.proofs.Math.Seq.{take-append-add}
use Rattle.std.specs.Prelude.{None, Some}
use Rattle.std.specs.declared.option.Option.{Option}
use Rattle.std.specs.Io.KnownBytes.{Consumes}
use borrow.Rule.Slice.PartMut.{put_mid, post_of}

-- the buffer's first n bytes, and the first of those that were read into the rest
pub take_read : (n more k : ℕ) (old part : List ℕ) → n ≤ length old → more ≤ length part →
    take (n + more) (put_mid n k old part) ≡ take n old ++ take more part
take_read n more k old part inside few =
    ap (λ (m : ℕ). take (m + more) (put_mid n k old part)) (sym (length-take-le n old inside))
    ∙ take-append-add (take n old) (part ++ post_of n k old) more
    ∙ ap (λ (l : List ℕ). take n old ++ l) (take-append-le more part (post_of n k old) few)

pub consumes_both : (a b c : Option (List ℕ)) (xs ys : List ℕ) → Consumes a b xs → Consumes b c ys → Consumes a c (xs ++ ys)
consumes_both None b c xs ys p q = tt
consumes_both (Some a) None c xs ys p q = absurd p
consumes_both (Some a) (Some b) None xs ys p q = absurd q
consumes_both (Some a) (Some b) (Some c) xs ys p q =
    p ∙ ap (λ (l : List ℕ). xs ++ l) q ∙ sym (append_assoc xs ys c)
