-- Steps and pieces of work one after the other: what holds in a state still holds after some steps.
use Prim.Native.Nat.{ℕ, ◌/◌, ◌≤◌}
use native.Mathlib.Omega.{arith}
use mathlib.Core.Path.{◌≡◌, refl, sym, ap, ◌∙◌}
use mathlib.Core.List.{List, [], ◌++◌}
use lib.ListN.{length}
use Rattle.std.specs.Prelude.{Result, Ok, Err}
use Rattle.meaning.specs.Diagram.{Tree}
use Rattle.meaning.specs.Table.{enter_all}
use Rattle.meaning.specs.Step.{Work, done, take, ◌>>=◌}
use Rattle.meaning.proofs.Laws.Table.{is_ext, enter_again, enter_all_append, enter_all_ext, enter_all_grows}
use Rattle.diagram.specs.State.{Known, Means, After, Lacks, Meaning, Does, Works, Ready, nodes}
use Rattle.diagram.specs.declared.builder.Builder.{Builder}
use Rattle.diagram.specs.declared.builder.Made.{Made}
use Rattle.diagram.specs.declared.builder.NoRoom.{NoRoom}
use Rattle.diagram.specs.declared.scratch.Scratch.{Scratch}
use Rattle.diagram.proofs.Laws.Nodes.{nodes_of_length}

-- the used slots are inside the table
pub ready_room : {cells : List ℕ} {s : Scratch} {b : Builder} → Ready cells s b → length (nodes cells b) ≤ length cells / 3
ready_room {cells} {s} {b} ready = omega (arith, nodes_of_length cells b.used, ready.room)

-- ---- steps

pub after_nothing : {cells : List ℕ} {s : Scratch} {b : Builder} → Ready cells s b → After cells b [] cells s b
after_nothing ready = record { kept = refl; entered = refl; ready = ready }

module _ {cells cells' : List ℕ} {s' : Scratch} {b b' : Builder} {xs : List Tree} (p : After cells b xs cells' s' b') where
  pub after_means : {a : ℕ} {x : Tree} → Means cells b a x → Means cells' b' a x
  after_means {a} {x} means =
      record { is = rw p.entered (is_ext x a (enter_all_ext xs (nodes cells b)) means.is); good = means.good }

  pub after_known : {a : ℕ} → Known b a → Known b' a
  after_known known =
      let grown = enter_all_grows xs (nodes cells b) in
      omega (arith, nodes_of_length cells b.used, nodes_of_length cells' b'.used, ap length p.entered)

-- some steps, then some more
pub after_then : {cells c₁ c₂ : List ℕ} {s₁ s₂ : Scratch} {b b₁ b₂ : Builder} {xs ys : List Tree}
    → After cells b xs c₁ s₁ b₁ → After c₁ b₁ ys c₂ s₂ b₂ → After cells b (xs ++ ys) c₂ s₂ b₂
after_then {cells} {c₁} {b = b} {b₁ = b₁} {xs = xs} {ys} p q =
    record {
      kept = q.kept ∙ p.kept;
      entered = q.entered ∙ ap (enter_all ys) p.entered ∙ sym (enter_all_append xs ys (nodes cells b));
      ready = q.ready;
    }

-- other diagrams that enter the same
pub after_same : {cells c₁ : List ℕ} {s₁ : Scratch} {b b₁ : Builder} {xs ys : List Tree}
    → enter_all xs (nodes cells b) ≡ enter_all ys (nodes cells b) → After cells b xs c₁ s₁ b₁ → After cells b ys c₁ s₁ b₁
after_same same p = record { kept = p.kept; entered = p.entered ∙ same; ready = p.ready }

-- ---- no room

-- what doesn't fit doesn't fit with more behind it
pub lacks_more : {cells c₁ : List ℕ} {b : Builder} {xs : List Tree} (ys : List Tree) → Lacks cells b xs c₁
    → Lacks cells b (xs ++ ys) c₁
lacks_more {cells} {b = b} {xs = xs} ys p =
    let grown = enter_all_grows ys (enter_all xs (nodes cells b)) in
    record { kept = p.kept; over = rw enter_all_append (omega (arith, p.over, grown)) }

-- nor with something before it
pub lacks_then : {cells c₁ c₂ : List ℕ} {s₁ : Scratch} {b b₁ : Builder} {xs ys : List Tree} → After cells b xs c₁ s₁ b₁
    → Lacks c₁ b₁ ys c₂ → Lacks cells b (xs ++ ys) c₂
lacks_then {cells} {c₁} {b = b} {b₁ = b₁} {xs = xs} {ys} p q =
    record {
      kept = q.kept ∙ p.kept;
      over = rw (enter_all_append, ← p.entered, ← p.kept) q.over;
    }

pub lacks_same : {cells c₁ : List ℕ} {b : Builder} {xs ys : List Tree}
    → enter_all xs (nodes cells b) ≡ enter_all ys (nodes cells b) → Lacks cells b xs c₁ → Lacks cells b ys c₁
lacks_same same p = record { kept = p.kept; over = rw (← same) p.over }

-- ---- pieces of work

-- no step
pub works_done : {A B : Type 0} {Stand : Meaning A B} {cells : List ℕ} {s : Scratch} {b : Builder} {a : A} {v : B}
    → Ready cells s b → Stand cells b a v → Works Stand cells b (done v) cells s (Ok (record { at = b; value = a }))
works_done ready stand = record { after = after_nothing ready; means = stand }

-- one piece of work was done, then another one
pub does_then : {A B A' B' : Type 0} {Stand : Meaning A B} {Stand' : Meaning A' B'} {cells c₁ c₂ : List ℕ} {s₁ s₂ : Scratch}
    {b : Builder} {m : Work B} {n : Work B'} {made : Made A} {last : Made A'} → Does Stand cells b m c₁ s₁ made
    → Does Stand' c₁ made.at n c₂ s₂ last
    → Does Stand' cells b (record { value = n.value; steps = m.steps ++ n.steps }) c₂ s₂ last
does_then p q = record { after = after_then p.after q.after; means = q.means }

-- the same where the second may lack room
pub works_then : {A B A' B' : Type 0} {Stand : Meaning A B} {cells c₁ : List ℕ} {s₁ : Scratch} {b : Builder} {m : Work B}
    {made : Made A} (Stand' : Meaning A' B') (f : B → Work B') (c₂ : List ℕ) (s₂ : Scratch) (r : Result (Made A') NoRoom)
    → Does Stand cells b m c₁ s₁ made → Works Stand' c₁ made.at (f m.value) c₂ s₂ r
    → Works Stand' cells b (◌>>=◌ m f) c₂ s₂ r
works_then Stand' f c₂ s₂ (Ok last) p q = does_then p q
works_then Stand' f c₂ s₂ (Err e) p q = lacks_then p.after q

-- work that enters the same, for the same value
pub works_same : {A B : Type 0} (Stand : Meaning A B) (cells : List ℕ) (b : Builder) (m n : Work B) (c₁ : List ℕ) (s₁ : Scratch)
    (r : Result (Made A) NoRoom) → m.value ≡ n.value
    → enter_all m.steps (nodes cells b) ≡ enter_all n.steps (nodes cells b) → Works Stand cells b m c₁ s₁ r
    → Works Stand cells b n c₁ s₁ r
works_same Stand cells b m n c₁ s₁ (Ok made) value same p =
    record { after = after_same same p.after; means = rw (← value) p.means }
works_same Stand cells b m n c₁ s₁ (Err e) value same p = lacks_same same p

-- a diagram that is there enters nothing
pub works_there : {cells : List ℕ} {s : Scratch} {b : Builder} {x : Tree} {a : ℕ} → Ready cells s b → Means cells b a x
    → Works Means cells b (take x) cells s (Ok (record { at = b; value = a }))
works_there {cells} {s} {b} {x} {a} ready means =
    record {
      after =
          after_same (sym (enter_again x (nodes cells b) a ready.single means.is).1) (after_nothing ready);
      means = means;
    }
