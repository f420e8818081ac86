-- What the letters of a case stand for.
use Rattle.std.specs.Prelude.{ℕ, cond, ◌==◌}

-- The byte that a letter writes: a comma is a tab, a semicolon is 0A, a circumflex is 0D, an underscore is a space, an exclamation
-- mark is 00, a question mark is 80, a tilde is FF, and any other letter is itself.
abbrev pub byte_of : ℕ → ℕ
byte_of letter =
    cond (letter == 44) 9 (
    cond (letter == 59) 10 (
    cond (letter == 94) 13 (
    cond (letter == 95) 32 (cond (letter == 33) 0 (cond (letter == 63) 128 (cond (letter == 126) 255 letter))))))
