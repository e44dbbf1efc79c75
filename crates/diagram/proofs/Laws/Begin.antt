-- An empty table, and scratch that is all zeros: nothing is in a chain, nothing is remembered.
use Prim.Native.Nat.{ℕ, zero, suc, ◌-◌, ◌≤◌, ◌<◌}
use native.Mathlib.Omega.{arith}
use mathlib.Core.Path.{◌≡◌, refl}
use mathlib.Core.List.{List, []}
use lib.ListN.{length, get_or, take, replicate}
use Rattle.std.specs.Simd.{first_chunks}
use Rattle.std.proofs.lemmas.List.{get_or-take, drop-replicate}
use Rattle.diagram.specs.Scratch.{Indexed, Remembers, number_at}
use Rattle.diagram.specs.State.{Ready}
use Rattle.diagram.specs.declared.scratch.Scratch.{Scratch}
use Rattle.diagram.proofs.Laws.Nodes.{nodes_of_none}

zeros_at : (n i : ℕ) → ◌≡◌ {A = ℕ} (get_or (replicate n 0) i 0) 0
zeros_at zero i = refl
zeros_at (suc n) zero = refl
zeros_at (suc n) (suc i) = zeros_at n i

indexed_empty : (n : ℕ) (links : List ℕ) → Indexed [] (replicate n 0) links
indexed_empty n links =
    record {
      head_le = λ h below. rw (zeros_at n h) (omega arith, omega arith);
      head_home = λ h below some. absurd (omega (arith, zeros_at n h));
      link_le = λ k inside below. absurd (omega arith);
      link_home = λ k inside below some. absurd (omega arith);
      head_reach = λ k inside below. absurd (omega arith);
      link_reach = λ j k less inside below same. absurd (omega arith);
    }

-- entries cut from zeros begin with 0
chunk_zero : (k n e : ℕ) → ◌≡◌ {A = ℕ} (get_or (get_or (first_chunks 5 k (replicate n 0)) e []) 0 0) 0
chunk_zero zero n e = refl
chunk_zero (suc k) zero zero = refl
chunk_zero (suc k) (suc n) zero = refl
chunk_zero (suc k) n (suc e) = rw (drop-replicate {X = ℕ} 5 n 0) (chunk_zero k (n - 5) e)

pub entries_zero : (rest : List ℕ) (n k many e : ℕ) → rest ≡ replicate n 0 → e < many
    → get_or (get_or (take many (first_chunks 5 k rest)) e []) 0 0 ≡ 0
entries_zero rest n k many e zeros below =
    rw (get_or-take many (first_chunks 5 k rest) e [] below, zeros) (chunk_zero k n e)

-- nothing is remembered where each entry begins with 0
remembers_none : (memo : List (List ℕ)) → ((e : ℕ) → e < length memo → number_at memo e 0 ≡ 0) → Remembers [] memo
remembers_none memo zeros e op inside is = absurd (omega (arith, zeros e inside, is))

pub ready_empty : {cells : List ℕ} {s : Scratch} (covered : ℕ) → length cells ≤ 3145728 → s.heads.now ≡ replicate covered 0
    → ((e : ℕ) → e < length s.memo.now → number_at s.memo.now e 0 ≡ 0) → Ready cells s (record { used = 0 })
ready_empty {cells} {s} covered small heads memo =
    record {
      room = omega arith;
      small = small;
      single = rw (nodes_of_none cells) (λ k inside. absurd (omega arith));
      falls = rw (nodes_of_none cells) (λ k inside. absurd (omega arith));
      levels = rw (nodes_of_none cells) (λ k inside. absurd (omega arith));
      right =
          record {
            indexed = rw (nodes_of_none cells, heads) (indexed_empty covered s.links.now);
            remembers = rw (nodes_of_none cells) (remembers_none s.memo.now memo);
          };
    }
