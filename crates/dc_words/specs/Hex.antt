-- Bytes in hexadecimal, in lower case.
use Rattle.std.specs.Prelude.{ℕ, ◌+◌, ◌-◌, ◌*◌, ◌/◌, ◌%◌, ◌&&◌, List, [], ◌∷◌, ◌++◌, Option, Some, None, if◌then◌else◌, nat_lt, nat_le, option_map}
use Rattle.std.specs.List.{flat_map}

-- the digit of a number below 16
abbrev pub hex_digit : ℕ → ℕ
hex_digit n = if nat_lt n 10 then 48 + n else 87 + n

-- the two digits of a byte, the higher first
abbrev pub hex_byte : ℕ → List ℕ
hex_byte b = hex_digit (b / 16) ∷ hex_digit (b % 16) ∷ []

-- two digits a byte, the higher first
abbrev pub hex_of : List ℕ → List ℕ
hex_of bytes = flat_map hex_byte bytes

-- the value of a digit
abbrev pub value_of : ℕ → Option ℕ
value_of c = if nat_le 48 c && nat_le c 57 then Some (c - 48) else (if nat_le 97 c && nat_le c 102 then Some (c - 87) else None)

-- the byte of two digits
abbrev pub byte_of_digits : Option ℕ → Option ℕ → Option ℕ
byte_of_digits (Some high) (Some low) = Some (16 * high + low)
byte_of_digits _ _ = None

-- a byte in front of bytes, where both are there
abbrev pub byte_before : Option ℕ → Option (List ℕ) → Option (List ℕ)
byte_before (Some b) (Some bytes) = Some (b ∷ bytes)
byte_before _ _ = None

-- the bytes of a hexadecimal text: the way back of `hex_of`
abbrev pub bytes_of_hex : List ℕ → Option (List ℕ)
bytes_of_hex [] = Some []
bytes_of_hex (high ∷ low ∷ text) = byte_before (byte_of_digits (value_of high) (value_of low)) (bytes_of_hex text)
bytes_of_hex (c ∷ []) = None

-- bytes before those of the rest, where the rest has bytes
abbrev pub bytes_before : List ℕ → Option (List ℕ) → Option (List ℕ)
bytes_before front rest = option_map (λ bytes. front ++ bytes) rest
