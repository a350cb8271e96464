-- A page word: D15 mapped, D14 read-only, D13-D12 the socket, D11-D0 the device page.
use Rattle.std.specs.Prelude.{ℕ, ◌+◌, ◌*◌, ◌/◌, ◌%◌, cond, ◌&&◌, Ok, Err, Result, ◌==◌, nat_lt}
use Rattle.terms.specs.Limits.{device_pages}
use Rattle.terms.specs.declared.refusal.Refusal.{Refusal}
use Rattle.terms.specs.declared.refusal.Refusal.TheVariants as refusal
use Rattle.mapper.specs.declared.word.PageParts.{PageParts}

-- how many sockets there are
abbrev pub sockets : ℕ
sockets = 4

abbrev pub split : ℕ → PageParts
split w = record {
  mapped = (w / 0x8000 % 2 == 1);
  readonly = (w / 0x4000 % 2 == 1);
  socket = w / 0x1000 % 4;
  page = w % 0x1000;
}

-- the parts joined; a socket or a device page that does not exist gives no word
abbrev pub join : PageParts → Result ℕ Refusal
join p =
    cond (nat_lt p.socket sockets && nat_lt p.page device_pages)
    (Ok (cond p.mapped 0x8000 0 + cond p.readonly 0x4000 0 + p.socket * 0x1000 + p.page))
    (Err refusal.IndexTooLarge)
