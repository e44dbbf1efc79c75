-- The memo: a remembered result is right, and a right result may be remembered.
--
--   recalled_is   what an entry says is the operation's result
--   ready_noted   after a right result is noted the state is still ready
use Prim.Native.Nat.{ℕ, ◌+◌, ◌≤◌, ◌<◌}
use native.Mathlib.Omega.{arith}
use mathlib.Core.Path.{◌≡◌, refl, ap, subst, ◌∙◌}
use mathlib.Core.Bool.{Bool, true, false}
use mathlib.Core.List.{List, [], ◌∷◌}
use lib.Dec.{eqb}
use lib.ListN.{length, get_or, set, length-set}
use lib.Seq.{get_or-set_same, get_or-set_other}
use borrow.Author.Tests.{eqb-true, eqb-false}
use Rattle.meaning.specs.Table.{Table}
use Rattle.diagram.specs.Hash.{place_of}
use Rattle.diagram.specs.Scratch.{Result, Remembers, Recalled, Right, key_of, number_at, noted}
use Rattle.diagram.specs.State.{Ready, nodes}
use Rattle.diagram.specs.declared.builder.Builder.{Builder}
use Rattle.diagram.specs.declared.scratch.Key.{Key}
use Rattle.diagram.specs.declared.scratch.Scratch.{Scratch}
use Rattle.diagram.proofs.Laws.Nodes.{nodes_of_length}

-- a right result laid into an entry: no other entry is touched
remembers_noted : (T : Table) (memo : List (List ℕ)) (at op a b c r : ℕ) → Remembers T memo → Result T op a b c r
    → Remembers T (set memo at ((op + 1) ∷ a ∷ b ∷ c ∷ r ∷ []))
remembers_noted T memo at op a b c r right new e op' inside = go (eqb e at) refl
  where
    entry : List ℕ
    entry = (op + 1) ∷ a ∷ b ∷ c ∷ r ∷ []

    within : e < length memo
    within = subst (λ n. e < n) (length-set memo at entry) inside

    go : (s : Bool) → eqb e at ≡ s → number_at (set memo at entry) e 0 ≡ op' + 1
        → Result T op' (number_at (set memo at entry) e 1) (number_at (set memo at entry) e 2)
        (number_at (set memo at entry) e 3) (number_at (set memo at entry) e 4)
    go true is said =
        let here : e ≡ at = eqb-true e at is in
        let laid : get_or (set memo at entry) e [] ≡ entry = rw here (get_or-set_same memo at entry [] (omega (arith, within))) in
        let first : op + 1 ≡ op' + 1 = rw laid at said in
        let same_op : op' ≡ op = omega arith in
        rw (laid, same_op) new
    go false is said =
        let else : get_or (set memo at entry) e [] ≡ get_or memo e [] = get_or-set_other memo at e entry [] (eqb-false e at is) in
        rw else (right e op' within (rw else at said))

-- ---- in a ready state

pub recalled_is : {cells : List ℕ} {s : Scratch} {b : Builder} → Ready cells s b → {key : Key} (n op a c d : ℕ) {r : ℕ}
    → key ≡ key_of n op a c d → Recalled s.memo.now key r → Result (nodes cells b) op a c d r
recalled_is {cells} {s} {b} ready {key} n op a c d {r} is said =
    let zeroth : number_at s.memo.now said.entry 0 ≡ op + 1 = said.is_operation ∙ ap (λ (k : Key). k.operation + 1) is in
    let first : number_at s.memo.now said.entry 1 ≡ a = said.is_a ∙ ap (λ (k : Key). k.a) is in
    let second : number_at s.memo.now said.entry 2 ≡ c = said.is_b ∙ ap (λ (k : Key). k.b) is in
    let third : number_at s.memo.now said.entry 3 ≡ d = said.is_c ∙ ap (λ (k : Key). k.c) is in
    rw (first, second, third, said.is_r) at (ready.right.remembers said.entry op said.inside zeroth)

pub ready_noted : {cells : List ℕ} {s : Scratch} {b : Builder} → Ready cells s b → {key : Key} (n op a c d : ℕ) {r : ℕ}
    {s' : Scratch} → key ≡ key_of n op a c d → Result (nodes cells b) op a c d r → s'.memo.now ≡ noted s.memo.now key r
    → (s'.heads.now ≡ s.heads.now) × (s'.links.now ≡ s.links.now) → Ready cells s' b
ready_noted {cells} {s} {b} ready {key} n op a c d {r} {s'} is new memo index =
    let at = place_of n op a c d in
    let memo_is : s'.memo.now ≡ set s.memo.now at ((op + 1) ∷ a ∷ c ∷ d ∷ r ∷ []) =
    memo ∙ ap (λ (k : Key). noted s.memo.now k r) is in
    let T = nodes cells b in
    let now : Right T s' =
    record {
      indexed = rw (index.0, index.1) ready.right.indexed;
      remembers = rw memo_is (remembers_noted T s.memo.now at op a c d r ready.right.remembers new);
    } in
    record {
      room = ready.room;
      small = ready.small;
      single = ready.single;
      falls = ready.falls;
      levels = ready.levels;
      right = now;
    }
