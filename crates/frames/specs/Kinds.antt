-- The kinds of frames, and what their fields may hold.
use Rattle.std.specs.Prelude.{ℕ, cond, Some, None, Option, ◌==◌}
use Rattle.frames.specs.declared.kind.Kind.{Kind}
use Rattle.frames.specs.declared.kind.Kind.TheVariants as kind

-- the kind of a number, if it is listed
abbrev pub kind_of : ℕ → Option Kind
kind_of n =
    cond (n == 0x00) (Some kind.Reset)
    (cond (n == 0x01) (Some kind.RegisterWrite)
    (cond (n == 0x02) (Some kind.RegisterRead)
    (cond (n == 0x03) (Some kind.PageWrite)
    (cond (n == 0x04) (Some kind.PageRead)
    (cond (n == 0x05) (Some kind.CpuWrite)
    (cond (n == 0x06) (Some kind.CpuRead)
    (cond (n == 0x10) (Some kind.Tick)
    (cond (n == 0x11) (Some kind.Activity)
    (cond (n == 0x12) (Some kind.Ext)
    (cond (n == 0x13) (Some kind.Ring)
    (cond (n == 0x14) (Some kind.Alarm)
    (cond (n == 0x15) (Some kind.Battery)
    (cond (n == 0x16) (Some kind.Ac)
    None)))))))))))))

-- the largest a of a kind: an index, a page, an address or a source; 0 where the field is unused
abbrev pub a_top : Kind → ℕ
a_top kind.Reset = 0
a_top kind.RegisterWrite = 0x0F
a_top kind.RegisterRead = 0x0F
a_top kind.PageWrite = 0x3F
a_top kind.PageRead = 0x3F
a_top kind.CpuWrite = 0xFFFFF
a_top kind.CpuRead = 0xFFFFF
a_top kind.Tick = 0
a_top kind.Activity = 0x07
a_top kind.Ext = 0
a_top kind.Ring = 0
a_top kind.Alarm = 0
a_top kind.Battery = 0
a_top kind.Ac = 0

-- the largest v of a kind: a byte, a word or a level, and 4 for STATE; 0 where the field is unused
abbrev pub v_top : Kind → ℕ → ℕ
v_top kind.Reset a = 0
v_top kind.RegisterWrite a = cond (a == 0x00) 4 0xFF
v_top kind.RegisterRead a = 0
v_top kind.PageWrite a = 0xFFFF
v_top kind.PageRead a = 0
v_top kind.CpuWrite a = 0xFF
v_top kind.CpuRead a = 0
v_top kind.Tick a = 0
v_top kind.Activity a = 0
v_top kind.Ext a = 1
v_top kind.Ring a = 1
v_top kind.Alarm a = 0
v_top kind.Battery a = 1
v_top kind.Ac a = 1
