-- Fields of a word, and the immediates that are made of several.
use Rattle.std.specs.Prelude.{ℕ, ◌/◌, ◌%◌, ◌^◌, ◌*◌, ◌+◌, ◌-◌, if◌then◌else◌, nat_lt}

-- the bits of a word from `low` on, `count` of them, as a number
abbrev pub field : ℕ → ℕ → ℕ → ℕ
field w low count = w / 2 ^ low % 2 ^ count

-- the J format's offset: its bits 20, 19..12, 11 and 10..1 stand in 31, 19..12, 20 and 30..21
abbrev pub jump_offset : ℕ → ℕ
jump_offset w = field w 31 1 * 2 ^ 20 + field w 12 8 * 2 ^ 12 + field w 20 1 * 2 ^ 11 + field w 21 10 * 2

-- the B format's offset: its bits 12, 11, 10..5 and 4..1 stand in 31, 7, 30..25 and 11..8
abbrev pub branch_offset : ℕ → ℕ
branch_offset w = field w 31 1 * 2 ^ 12 + field w 7 1 * 2 ^ 11 + field w 25 6 * 2 ^ 5 + field w 8 4 * 2

-- the S format's immediate: its bits 11..5 and 4..0 stand in 31..25 and 11..7
abbrev pub store_immediate : ℕ → ℕ
store_immediate w = field w 25 7 * 2 ^ 5 + field w 7 5

-- the free bits of FENCE: those from 15 up, then those of rd
abbrev pub fence_bits : ℕ → ℕ
fence_bits w = field w 15 17 * 2 ^ 5 + field w 7 5

-- a number of `count` bits with its sign carried to 32
abbrev pub extended : ℕ → ℕ → ℕ
extended count n = if nat_lt n (2 ^ (count - 1)) then n else n + 2 ^ 32 - 2 ^ count
