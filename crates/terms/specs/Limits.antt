-- The limits that every layer shares.
use Rattle.std.specs.Prelude.{ℕ, ◌/◌}

-- the most places that a device can have
abbrev pub places : ℕ
places = 67108864

-- how many addresses the processor has
abbrev pub addresses : ℕ
addresses = 1048576

-- the bytes of a page, of the processor's addresses and of a device alike
abbrev pub page_size : ℕ
page_size = 16384

-- the pages of the processor's addresses, each with a word of its own
abbrev pub cpu_pages : ℕ
cpu_pages = addresses / page_size

-- the pages of a device that a page word can name
abbrev pub device_pages : ℕ
device_pages = places / page_size
