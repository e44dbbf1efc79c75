-- How numbers stand for diagrams and pairs of them over n levels.
--
--   TreeMeans, PairMeans   a number stands for a diagram, a pair of numbers for a pair
--   PairKnown              both numbers are terminals or used nodes'
use Rattle.std.specs.Prelude.{ℕ, List}
use Rattle.meaning.specs.Diagram.{Tree}
use Rattle.meaning.specs.Formula
use Rattle.meaning.proofs.Laws.Shape.{Good}
use Rattle.meaning.proofs.Laws.Table.{Is}
use Rattle.diagram.specs.State.{nodes, Known}
use Rattle.diagram.specs.declared.builder.Builder.{Builder}
use Rattle.formula.specs.declared.pair.Pair as Declared

-- ---- one diagram

pub record TreeMeans (n : ℕ) (cells : List ℕ) (b : Builder) (a : ℕ) (x : Tree) : Type 0 where
  pub is : Is (nodes cells b) a x
  pub good : Good n x

-- ---- must and may

pub record PairKnown (b : Builder) (pair : Declared.Pair) : Type 0 where
  pub must : Known b pair.must
  pub may : Known b pair.may

pub record PairMeans (n : ℕ) (cells : List ℕ) (b : Builder) (pair : Declared.Pair) (p : Formula.Pair) : Type 0 where
  pub must : TreeMeans n cells b pair.must p.must
  pub may : TreeMeans n cells b pair.may p.may
