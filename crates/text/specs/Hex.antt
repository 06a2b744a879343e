-- "`HEX` is an even count of hexadecimal digits of either case, or `-` for no bytes; it is written in lower case."
-- Assumes nothing.
use Rattle.std.specs.Prelude.{ℕ, ◌+◌, ◌-◌, ◌*◌, ◌/◌, ◌%◌, Bool, ◌&&◌, ◌||◌, List, [], ◌∷◌, ◌++◌, Option, None, Some, is_some, unwrap_or, leb, ltb, eqb, length, drop, if◌then◌else◌}
use Rattle.std.specs.List.{list_all}
use Rattle.text.specs.Text.{bytes, same}

abbrev pub within : ℕ → ℕ → ℕ → Bool
within low high b = leb low b && leb b high

-- a digit's value: `0` to `9`, `a` to `f`, `A` to `F`
abbrev pub nibble : ℕ → Option ℕ
nibble b = if within 48 57 b then Some (b - 48) else if within 97 102 b then Some (b - 87) else if within 65 70 b then Some (b - 55) else None

abbrev pub hex_digits : List ℕ → Bool
hex_digits w = list_all (λ b. is_some (nibble b)) w

abbrev pub is_hex : List ℕ → Bool
is_hex w = same w (bytes "-") || (eqb (length w % 2) 0 && hex_digits w)

-- the bytes that they spell, two digits each; `-` spells none. A HEX has digits alone, so what stands for any other byte, 16, is never asked
unfoldable pub octets : List ℕ → List ℕ
octets [] = []
octets (a ∷ []) = []
octets (a ∷ b ∷ w) = (unwrap_or (nibble a) 16 * 16 + unwrap_or (nibble b) 16) ∷ octets w

-- ---- into a buffer: the bytes at its start; as it was where the word is no HEX, or its bytes do not fit

abbrev pub fits : List ℕ → List ℕ → Bool
fits w buffer = is_hex w && leb (length (octets w)) (length buffer)

abbrev pub filled : List ℕ → List ℕ → Option ℕ
filled w buffer = if fits w buffer then Some (length (octets w)) else None

abbrev pub buffered : List ℕ → List ℕ → List ℕ
buffered w buffer = if fits w buffer then octets w ++ drop (length (octets w)) buffer else buffer

-- ---- "it is written in lower case"

abbrev pub glyph : ℕ → ℕ
glyph d = if ltb d 10 then 48 + d else 87 + d

abbrev pub octet_text : ℕ → List ℕ
octet_text b = glyph (b / 16) ∷ glyph (b % 16) ∷ []

unfoldable pub lower : List ℕ → List ℕ
lower [] = []
lower (b ∷ bs) = octet_text b ++ lower bs

abbrev pub hex_text : List ℕ → List ℕ
hex_text [] = bytes "-"
hex_text (b ∷ bs) = lower (b ∷ bs)
