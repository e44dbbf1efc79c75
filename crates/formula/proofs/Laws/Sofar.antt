-- Loops: some of the work is done, the rest is the same definition's.
--
--   sofar_start, sofar_next, sofar_lacks   nothing is done yet, one turn more, no room for it
use Prim.Native.Nat.{ℕ}
use mathlib.Core.Path.{◌≡◌, refl, sym, ap, ◌∙◌}
use mathlib.Core.List.{List, ◌++◌, append_assoc}
use Rattle.meaning.specs.Diagram.{Tree}
use Rattle.meaning.specs.Step.{Work, done, ◌>>=◌}
use Rattle.diagram.specs.State.{Ready, Lacks, Does}
use Rattle.diagram.specs.declared.builder.Builder.{Builder}
use Rattle.diagram.specs.declared.builder.Made.{Made}
use Rattle.diagram.specs.declared.scratch.Scratch.{Scratch}
use Rattle.diagram.proofs.Laws.After.{after_nothing, does_then, lacks_then, lacks_more}
use Rattle.formula.specs.Pair.{TreeMeans}

-- from state b on work was done; with the rest, of the diagram that it made, it is the whole
pub record Sofar (n : ℕ) (cells : List ℕ) (b : Builder) (whole : Work Tree) (cells' : List ℕ) (s' : Scratch) (made : Made ℕ)
    (rest : Tree → Work Tree) : Type 0 where
  pub work : Work Tree
  pub does : Does (TreeMeans n) cells b work cells' s' made
  pub same : whole ≡ ◌>>=◌ work rest

pub sofar_start : {n : ℕ} {cells : List ℕ} {s : Scratch} {b : Builder} {a : ℕ} {x : Tree} (rest : Tree → Work Tree)
    → Ready cells s b → TreeMeans n cells b a x → Sofar n cells b (rest x) cells s (record { at = b; value = a }) rest
sofar_start {x = x} rest ready means =
    record { work = done x; does = record { after = after_nothing ready; means = means }; same = refl }

-- one piece after another, of which the first is two
pub then_assoc : {A B C : Type 0} (m : Work A) (f : A → Work B) (g : B → Work C)
    → ◌>>=◌ m (λ a. ◌>>=◌ (f a) g) ≡ ◌>>=◌ (◌>>=◌ m f) g
then_assoc m f g =
    let last : Work _ = g (f m.value).value in
    ap (λ steps. record { value = last.value; steps = steps })
    (sym (append_assoc m.steps (f m.value).steps last.steps))

module _ {n : ℕ} {cells c₁ : List ℕ} {s₁ : Scratch} {b : Builder} {whole : Work Tree} {made : Made ℕ} {rest : Tree → Work Tree}
    (sofar : Sofar n cells b whole c₁ s₁ made rest) where
  module _ (turn rest' : Tree → Work Tree) (split : (x : Tree) → rest x ≡ ◌>>=◌ (turn x) rest') where
    whole_is : whole ≡ ◌>>=◌ (◌>>=◌ sofar.work turn) rest'
    whole_is =
        let m = sofar.work in
        sofar.same
        ∙ ap (λ k. record { value = k.value; steps = m.steps ++ k.steps }) (split m.value)
        ∙ then_assoc m turn rest'

    pub sofar_next : {c₂ : List ℕ} {s₂ : Scratch} {next : Made ℕ}
        → ((x : Tree) → TreeMeans n c₁ made.at made.value x → Does (TreeMeans n) c₁ made.at (turn x) c₂ s₂ next)
        → Sofar n cells b whole c₂ s₂ next rest'
    sofar_next does =
        let m = sofar.work in
        record {
          work = ◌>>=◌ m turn;
          does = does_then sofar.does (does m.value sofar.does.means);
          same = whole_is;
        }

    pub sofar_lacks : {c₂ : List ℕ} → ((x : Tree) → TreeMeans n c₁ made.at made.value x → Lacks c₁ made.at (turn x).steps c₂)
        → Lacks cells b whole.steps c₂
    sofar_lacks lacks =
        let m = sofar.work in
        let t = turn m.value in
        rw whole_is (lacks_more (rest' t.value).steps (lacks_then sofar.does.after (lacks m.value sofar.does.means)))
