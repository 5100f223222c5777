-- A picture of an expression, with marks under the places that have labels.
use Rattle.std.specs.Prelude.{ℕ, ◌+◌, ◌-◌, ◌^◌, ◌==◌, ◌||◌, max, min, if◌then◌else◌, List, [], ◌∷◌, ◌++◌}
use Rattle.std.specs.{Prelude.{codes, map, ◌&&◌, encode_utf8_all, nat_le, nat_lt, replicate}, Char.len_utf8}
use Rattle.wax_query.specs.{Labels.Label, Spans.Span}

-- a control character is drawn as `?`, any other as itself
abbrev pub drawn_character : ℕ → ℕ
drawn_character c = if nat_lt c 32 || (nat_le 127 c && nat_le c 159) then 63 else c

-- how many of the characters begin before this byte
abbrev pub columns_before : ℕ → List ℕ → ℕ
columns_before byte [] = 0
columns_before byte (c ∷ cs) = if byte == 0 then 0 else 1 + columns_before (byte - len_utf8 c) cs

-- the byte after the span, up to the greatest number of 64 bits
abbrev pub byte_after : Span → ℕ
byte_after span = min (span.0 + span.1) (2 ^ 64 - 1)

-- a `^` under each character of the span, or one where it is empty, after as many spaces as are needed
abbrev pub marks : List ℕ → Span → List ℕ
marks expression span =
    let start = columns_before span.0 expression in
    let end = columns_before (byte_after span) expression in
    replicate start 32 ++ replicate (max 1 (end - start)) 94

-- the line of a label
abbrev pub label_line : List ℕ → Label → List ℕ
label_line expression label = marks expression label.1 ++ codes " " ++ label.0 ++ codes "\n"

abbrev pub label_lines : List ℕ → List Label → List ℕ
label_lines expression [] = []
label_lines expression (label ∷ labels) = label_line expression label ++ label_lines expression labels

-- the expression on a line, and then a line for each label, as bytes
abbrev pub picture : List ℕ → List Label → List ℕ
picture expression labels =
    encode_utf8_all (map drawn_character expression) ++ codes "\n" ++ label_lines expression labels
