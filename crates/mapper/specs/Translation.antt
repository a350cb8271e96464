-- Where a CPU address leads.
use Rattle.std.specs.Prelude.{ℕ, ◌+◌, ◌*◌, ◌/◌, ◌%◌, Bool, cond, Some, None, Option, ◌==◌}
use Rattle.terms.specs.Limits.{page_size}
use Rattle.mapper.specs.Words.{split}
use Rattle.mapper.specs.declared.word.Socket.{Socket}
use Rattle.mapper.specs.declared.word.Socket.TheVariants as socket

-- a place of a socket, and whether the page that led there is read-only
pub record Target : Type 0 where
  pub socket : ℕ
  pub place : ℕ
  pub readonly : Bool

abbrev pub socket_number : Socket → ℕ
socket_number socket.Ram = 0
socket_number socket.Rom = 1
socket_number socket.CardA = 2
socket_number socket.CardB = 3

-- by the words of the pages: nowhere if its page is not mapped
abbrev pub leads : (ℕ → ℕ) → ℕ → Option Target
leads word address =
    let p = split (word (address / page_size)) in
    cond p.mapped (Some (record { socket = p.socket; place = p.page * page_size + address % page_size; readonly = p.readonly })) None

-- the page words after a reset: only the last page is mapped, read-only, to the ROM's first page
abbrev pub reset_words : ℕ → ℕ
reset_words page = cond (page == 63) 0xD000 0

-- one word stored, the others as they were
abbrev pub stored : (ℕ → ℕ) → ℕ → ℕ → ℕ → ℕ
stored word page w = λ q. cond (q == page) w (word q)
