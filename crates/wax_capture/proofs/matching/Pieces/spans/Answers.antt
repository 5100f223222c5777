use Rattle.std.proofs.Common.{◌≡◌, ◌≤◌, [], false, List, ℕ, chars, map, rules, sym, subst}
use Rattle.std.specs.List.{All}
use Rattle.wax_capture.specs.{Pieces.ArePieces, inner.Bytes.{in_bytes, span_between}}
use Rattle.wax_capture.specs.{inner.Parts.{IsWithin, parts}, inner.Splits.{CapturedBy, PlacedBy}}
use Rattle.wax_capture.specs.declared.piece.Piece.{Piece}
use Rattle.wax_capture.proofs.{Placing.{are_spans, ordered}, Tied.none_means}
use Rattle.wax_capture.proofs.matching.Pieces.spans.Goals as goal

pub returns-in_default : goal.returns-in_default
returns-in_default c = λ ts are.
    let ps : List Piece = c.as_slice.result.now in
    let same : ps ≡ c.args.self.now = search rules in
    let text : c.in_ok-characters.characters ≡ chars c.args.text.now = c.in_ok-characters.ensures in
    none_means ts ps (subst (ArePieces ts false false) (sym same) are) (chars c.args.text.now)
    c.in_ok-found.found _ c.in_default.not-Some (rw text at c.in_ok-found.ensures.captured)

pub to_spans-requires : goal.to_spans-requires
to_spans-requires c =
    let text : c.in_ok-characters.characters ≡ chars c.args.text.now = c.in_ok-characters.ensures in
    let within : All (IsWithin (chars c.args.text.now)) c.in-Some.parts.items =
    rw (c.in-Some.is, text) at c.in_ok-found.ensures.within in
    let is : c.in_ok-places.places.items ≡ map (in_bytes (chars c.args.text.now)) c.in-Some.parts.items =
    rw text at c.in_ok-places.ensures in
    subst (All (λ (p : ℕ × ℕ). p.0 ≤ p.1)) (sym c.as_slice-2.ensures.value)
    (ordered c.args.text.now c.utf8.text c.in-Some.parts.items c.in_ok-places.places.items [] within is)

pub returns : goal.returns
returns c = λ ts are.
    let ps : List Piece = c.as_slice.result.now in
    let same : ps ≡ c.args.self.now = search rules in
    let text : c.in_ok-characters.characters ≡ chars c.args.text.now = c.in_ok-characters.ensures in
    let within : All (IsWithin (chars c.args.text.now)) c.in-Some.parts.items =
    rw (c.in-Some.is, text) at c.in_ok-found.ensures.within in
    let is : c.in_ok-places.places.items ≡ map (in_bytes (chars c.args.text.now)) c.in-Some.parts.items =
    rw text at c.in_ok-places.ensures in
    let captured : CapturedBy ps (chars c.args.text.now)
    (parts (chars c.args.text.now) c.in-Some.parts.items) =
    rw (c.in-Some.is, text) at c.in_ok-found.ensures.captured in
    let placed : PlacedBy ps 0 (chars c.args.text.now) c.in-Some.parts.items =
    rw (c.in-Some.is, text) at c.in_ok-found.ensures.placed in
    let long : c.in_ok-to_spans.field-0.items ≡ map span_between c.in_ok-places.places.items = search rules in
    are_spans c.args.text.now c.utf8.text c.in-Some.parts.items c.in_ok-places.places.items
    c.in_ok-to_spans.field-0.items within is ts ps (subst (ArePieces ts false false) (sym same) are) captured
    placed long
