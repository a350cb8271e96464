-- What the table's and the translation's own types stand for.
use Rattle.std.specs.Prelude.{ℕ, slice_index}
use Rattle.mapper.specs.Translation.{Target, socket_number}
use Rattle.mapper.specs.declared.table.PageTable.{PageTable}
use Rattle.mapper.specs.declared.table.Located.{Located}

-- the word of each page
abbrev pub words : PageTable → ℕ → ℕ
words t page = slice_index t.words page

abbrev pub target_of : Located → Target
target_of l = record { socket = socket_number l.socket; place = l.place.index; readonly = l.readonly }
