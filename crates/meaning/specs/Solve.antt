-- Solve: from the sheet, the limit and the two buffers' lengths alone to the answer and to what is left in the buffers.
--
--   solve s L table work  the answer at limit L; `table` and `work` are the buffers' lengths in numbers
--   unnamed_limit slots   the limit where none is named
--   after left before     what stands in a buffer that held `before`
use Rattle.std.specs.Prelude.{ℕ, ◌-◌, ◌*◌, ◌/◌, ◌%◌, Bool, cond, not, ◌||◌, List, [], ◌++◌, eqb, ltb, length, replicate}
use Rattle.meaning.specs.Sheet.{Entry, entries}
use Rattle.meaning.specs.Check.{refuse, first, check}
use Rattle.meaning.specs.Table.{Table, enter, enter_all, cells, lay_all}
use Rattle.meaning.specs.Formula.{Pair}
use Rattle.meaning.specs.Run.{run, last_pair}

-- what is left in a lent buffer
pub data Left : Type 0 where
  untouched : Left
  filled : List ℕ → Left

abbrev pub after : Left → List ℕ → List ℕ
after untouched before = before
after (filled l) before = l

pub record Solved : Type 0 where
  pub number : ℕ
  pub verdict : ℕ
  pub must : ℕ
  pub may : ℕ
  pub used : ℕ
  pub table : Left
  pub work : Left

-- ---- 9 and 10: the buffers

abbrev pub max_cells : ℕ
max_cells = 3145728

abbrev pub bad_table : ℕ → Bool
bad_table table = not (eqb (table % cells) 0) || ltb max_cells table

abbrev pub work_needed : ℕ
work_needed = 8192

abbrev pub slots : ℕ → ℕ
slots table = table / cells

-- 1 to 10
unfoldable pub input_refusal : List ℕ → ℕ → ℕ → ℕ
input_refusal s table work = first (check s) (refuse 9 (bad_table table) (refuse 10 (ltb work work_needed) 0))

-- ---- the answer

-- sat when must isn't 0, unsat when may is 0, unknown otherwise
abbrev pub verdict_of : ℕ → ℕ → ℕ
verdict_of must may = cond (not (eqb must 0)) 1 (cond (eqb may 0) 2 3)

-- a refusal returns its number and zeros, and leaves the buffers untouched
abbrev pub refused : ℕ → Solved
refused r = record { number = r; verdict = 0; must = 0; may = 0; used = 0; table = untouched; work = untouched }

-- 11: the steps need more nodes than slots; table and work buffer are all zeros
abbrev pub no_room : ℕ → ℕ → Solved
no_room table work =
    record {
      number = 11;
      verdict = 0;
      must = 0;
      may = 0;
      used = 0;
      table = filled (replicate table 0);
      work = filled (replicate work 0);
    }

-- the table holds the nodes and then zeros, the work buffer zeros
abbrev pub answered : ℕ → ℕ → Table → Pair → Solved
answered table work nodes p =
    let must = (enter p.must nodes).number in
    let may = (enter p.may nodes).number in
    record {
      number = 0;
      verdict = verdict_of must may;
      must = must;
      may = may;
      used = length nodes;
      table = filled (lay_all nodes ++ replicate (table - cells * length nodes) 0);
      work = filled (replicate work 0);
    }

-- a sheet and buffers that pass 1 to 10
unfoldable pub worked : List Entry → ℕ → ℕ → ℕ → Solved
worked es L table work =
    let r = run es L in
    let nodes = enter_all r.steps [] in
    let full = no_room table work in
    let answer = answered table work nodes (last_pair r.value) in
    cond (ltb (slots table) (length nodes)) full answer

unfoldable pub solve : List ℕ → ℕ → ℕ → ℕ → Solved
solve s L table work =
    let r = input_refusal s table work in
    let no = refused r in
    let go = worked (entries s) L table work in
    cond (eqb r 0) go no

-- ---- without a named limit

unfoldable pub unnamed_limit : ℕ → ℕ
unnamed_limit slots = 1000

unfoldable pub solve_unnamed : List ℕ → ℕ → ℕ → Solved
solve_unnamed s table work = solve s (unnamed_limit (slots table)) table work
