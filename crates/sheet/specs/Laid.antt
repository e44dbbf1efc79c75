-- What the code may rely on once refusals 1, 2 and 3 are checked.
--
--   contents_refusal s         the first of 1, 2 and 3 over the whole sheet, or 0
--   Laid s                     the records are there, the widths are at most 32, and each body lies inside the sheet
--   Known s                    each entry's kind is in the table, and its width is allowed for its sort
--   IsEntry s i kind width b   entry i of the sheet has this kind, this width and this body
use Rattle.std.specs.Prelude.{ℕ, ◌+◌, ◌≤◌, ◌<◌, ◌≡◌, true, not, List, length, get_or}
use Rattle.meaning.specs.Sheet.{count, record_at, rule_at, width_at, place, body}
use Rattle.meaning.specs.Check.{refuse, short, allowed, kinds_fit, places_fit}
use Rattle.sheet.specs.declared.kind.Kind.{Kind}
use Rattle.sheet.specs.Kind.{number_of}

unfoldable pub contents_refusal : List ℕ → ℕ
contents_refusal s =
    refuse 1 (short s)
    (refuse 2 (not (kinds_fit s 0 (count s)))
    (refuse 3 (not (places_fit s 0 (count s) (record_at (count s)))) 0))

pub record Laid (s : List ℕ) : Type 0 where
  pub some : 1 ≤ count s
  pub few : count s ≤ 256
  pub records : record_at (count s) ≤ length s
  pub narrow : (i : ℕ) → i < count s → width_at s i ≤ 32
  pub bodies : (i : ℕ) → i < count s → place s i + (rule_at s i).body ≤ length s

pub record Known (s : List ℕ) : Type 0 where
  pub fits : (i : ℕ) → i < count s → allowed (rule_at s i).sort (width_at s i) ≡ true

pub record IsEntry (s : List ℕ) (i : ℕ) (kind : Kind) (width : ℕ) (b : List ℕ) : Type 0 where
  pub inside : i < count s
  pub kind_is : number_of kind ≡ get_or s (record_at i) 0
  pub width_is : width ≡ width_at s i
  pub body_is : b ≡ body s i
