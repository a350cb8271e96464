-- A line is the list of its bytes, whatever they are. A frame is a line of twelve digits: two of kind, six of a, four of v.
use Rattle.std.specs.Prelude.{ℕ, ◌+◌, ◌-◌, ◌*◌, Bool, true, cond, ◌&&◌, List, [], ◌∷◌, length, ◌==◌, nat_le, nat_lt, slice_index}

abbrev pub Line : Type 0
Line = List ℕ

-- the value of a digit, 0-9 and A-F; 16 for any other byte
abbrev pub digit : ℕ → ℕ
digit b = cond (nat_le 0x30 b && nat_le b 0x39) (b - 0x30) (cond (nat_le 0x41 b && nat_le b 0x46) (b - 0x37) 16)

abbrev pub is_digit : ℕ → Bool
is_digit b = nat_lt (digit b) 16

abbrev pub all_digits : Line → Bool
all_digits [] = true
all_digits (b ∷ bs) = is_digit b && all_digits bs

abbrev pub is_frame : Line → Bool
is_frame l = length l == 12 && all_digits l

-- the value of the digit at a position, counted from 0
abbrev pub digit_at : Line → ℕ → ℕ
digit_at l i = digit (slice_index l i)

abbrev pub kind_field : Line → ℕ
kind_field l = digit_at l 0 * 0x10 + digit_at l 1

abbrev pub a_field : Line → ℕ
a_field l =
    digit_at l 2 * 0x100000 + digit_at l 3 * 0x10000 + digit_at l 4 * 0x1000 + digit_at l 5 * 0x100 + digit_at l 6 * 0x10 + digit_at l 7

abbrev pub v_field : Line → ℕ
v_field l = digit_at l 8 * 0x1000 + digit_at l 9 * 0x100 + digit_at l 10 * 0x10 + digit_at l 11
