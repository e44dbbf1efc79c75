-- An entry of a sheet that has passed the check, in the definitions' words.
--
--   entry_as entry   what the definition has for this entry
--   all_of entry     all entries of its sheet
use Rattle.std.specs.Prelude.{List}
use Rattle.meaning.specs.Sheet.{Entry, entry_at, entries}
use Rattle.sheet.specs.declared.checked.CheckedEntry.{CheckedEntry}

abbrev pub entry_as : CheckedEntry → Entry
entry_as entry = entry_at entry.sheet.bytes.now entry.index

abbrev pub all_of : CheckedEntry → List Entry
all_of entry = entries entry.sheet.bytes.now
