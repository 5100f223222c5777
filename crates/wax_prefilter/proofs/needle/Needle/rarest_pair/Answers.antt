use Rattle.std.proofs.Common.{◌≡◌, ◌<◌, ◌∙◌, true, ◌∷◌, [], ◌++◌, List, ℕ, take, drop, length, ap, subst}
use Rattle.std.proofs.Common.{encode_utf8_all, chars, get_or, string_bytes, sym, append_assoc, arith}
use Rattle.std.proofs.lemmas.List.{get_or-take, length-take, take-append-drop}
use Rattle.std.proofs.lemmas.Str.{IsUtf8-from_ascii, chars-IsAscii, chars-append}
use Rattle.std.specs.Str.{IsAscii}
use Rattle.wax_prefilter.specs.{inner.Forms.HasAsciiForms, inner.Pairs.LineHasOne}
use Rattle.wax_prefilter.proofs.{AsciiForms.{held_ascii, same_beginning}, MeantEdges.{as_seen, plain_text}}
use Rattle.wax_prefilter.proofs.MeantPieces.{bytes_within}
use Rattle.wax_prefilter.proofs.Pairs.{alike_has, part_has, part_of_line, stands_somewhere}
use Rattle.wax_token.specs.Meaning.{SameText}
use Rattle.wax_prefilter.proofs.needle.Needle.rarest_pair.Goals as goal

pub returns-then-not-self : goal.returns-then-not-self
returns-then-not-self c = λ text utf8 found.
    let (x, y, z, e, h) = stands_somewhere found.0 c.args.self.now (chars text) found.1 in
    let held : List ℕ = chars (string_bytes c.self.inside.text) in
    let same : y ≡ held = plain_text c.args.self.now _ held y c.self.view_is c.if-not-self.true h in
    let bytes = c.as_bytes-bytes.result.now in
    let within : text ≡ encode_utf8_all x ++ (bytes ++ encode_utf8_all z) =
    bytes_within text bytes x held z utf8 c.as_bytes-bytes.ensures.utf8
    (ap chars (c.as_bytes-bytes.ensures.value ∙ c.as_str.ensures.value)) (e ∙ ap (λ w. x ++ (w ++ z)) same) in
    part_has c.args.in_any_case _ text (encode_utf8_all x) bytes (encode_utf8_all z ++ 10 ∷ [])
    (part_of_line text (encode_utf8_all x) bytes (encode_utf8_all z) within) (_, c.in_ok-pair.ensures)

pub returns : goal.returns
returns c = λ text utf8 found.
    let (x, y, z, e, h) = stands_somewhere found.0 c.args.self.now (chars text) found.1 in
    let bytes = c.as_bytes-bytes.result.now in
    let len = c.ascii_forms_len.result in
    let front : List ℕ = take len bytes in
    let long : length front ≡ len =
    omega (arith, length-take len bytes, c.ascii_forms_len.ensures.inside) in
    let each : (k : ℕ) → k < length front → HasAsciiForms (get_or front k 0) =
    λ k lt. subst HasAsciiForms (sym (get_or-take len bytes k 0 (omega (arith, lt, long))))
    (c.ascii_forms_len.ensures.forms k (omega (arith, lt, long))) in
    let ascii : IsAscii front = held_ascii front each in
    let parted : chars bytes ≡ front ++ chars (drop len bytes) =
    ap chars (sym (take-append-drop len bytes))
    ∙ chars-append front (drop len bytes) (IsUtf8-from_ascii front ascii)
    ∙ ap (λ w. w ++ chars (drop len bytes)) (chars-IsAscii front ascii) in
    let seen : chars (string_bytes c.self.inside.text) ≡ front ++ chars (drop len bytes) =
    ap chars (sym (c.as_bytes-bytes.ensures.value ∙ c.as_str.ensures.value)) ∙ parted in
    let same : SameText true (front ++ chars (drop len bytes)) y =
    as_seen c.args.self.now.0 true c.args.self.now.1 _ y (sym (ap (λ v. v.0) c.self.view_is)
    ∙ c.if-not-self.false) (sym seen ∙ ap (λ v. v.1) c.self.view_is) h in
    let (begins, rest, cut, begin) = same_beginning front (chars (drop len bytes)) y same in
    subst (λ z. LineHasOne z (c.in_ok-pair-2.pair ∷ []) text) (sym c.if-not-in_any_case.false)
    (alike_has c.in_ok-pair-2.pair front text x begins (rest ++ z) utf8
    (e ∙ ap (λ w. x ++ w) (ap (λ w. w ++ z) cut ∙ append_assoc begins rest z)) begin each
    (_, c.in_ok-pair-2.ensures))
