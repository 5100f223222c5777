use Rattle.std.proofs.Common.{◌≡◌, ◌+◌, ◌≤◌, ◌∙◌, false, List, ℕ, chars, length, map, arith, rules, sym}
use Rattle.std.proofs.Common.{subst}
use Rattle.std.specs.List.{All}
use Rattle.wax_token.specs.Cost.{costs}
use Rattle.wax_capture.specs.{Pieces.ArePieces, inner.Bytes.in_bytes, inner.Parts.{IsWithin, parts}}
use Rattle.wax_capture.specs.{inner.Splits.{CapturedBy, all_sizes, split_visits}, declared.piece.Piece.Piece}
use Rattle.wax_capture.proofs.{Built.pieces_few, ByteParts.{text_all_parts, text_parts}}
use Rattle.wax_capture.proofs.{Counting.{visits_cube, visits_square, visits_taken}, Sizeless.captured_length}
use Rattle.wax_capture.proofs.Tied.{matched_only, none_means, some_matched}
use Rattle.wax_capture.proofs.matching.Pieces.matched_counted.Goals as goal

pub returns-in_default-clause-matched : goal.returns-in_default-clause-matched
returns-in_default-clause-matched c = λ ts are.
    let ps : List Piece = c.as_slice.result.now in
    let same : ps ≡ c.args.self.now = search rules in
    let text : c.in_ok-characters.characters ≡ chars c.args.text.now = c.in_ok-characters.ensures in
    none_means ts ps (subst (ArePieces ts false false) (sym same) are) (chars c.args.text.now)
    c.in_ok-found.found _ c.in_default.not-Some (rw text at c.in_ok-found.ensures.captured)

pub returns-in_default-clause-square : goal.returns-in_default-clause-square
returns-in_default-clause-square c = λ ts are.
    let ps : List Piece = c.as_slice.result.now in
    let same : ps ≡ c.args.self.now = search rules in
    let text : c.in_ok-characters.characters ≡ chars c.args.text.now = c.in_ok-characters.ensures in
    let m : ℕ = length (chars c.args.text.now) in
    let read : c.split.new.visits ≤ c.new-visits.result + split_visits (all_sizes ps) m =
    rw text at c.split.ensures.above in
    visits_square (all_sizes ps) (costs ts) c.count.result m
    (pieces_few ts false false ps (subst (ArePieces ts false false) (sym same) are))
    (omega (arith, read, c.new-visits.ensures, c.count.ensures))

pub returns-in_default-clause-above : goal.returns-in_default-clause-above
returns-in_default-clause-above c = λ ts are. visits_cube (costs ts) c.count.result
    (length (chars c.args.text.now)) (returns-in_default-clause-square c ts are)

pub new-requires-2 : goal.new-requires-2
new-requires-2 c =
    let text : c.in_ok-characters.characters ≡ chars c.args.text.now = c.in_ok-characters.ensures in
    let within : All (IsWithin (chars c.args.text.now)) c.in-Some.parts.items =
    rw (c.in-Some.is, text) at c.in_ok-found.ensures.within in
    let is : c.in_ok-captures.captures.items ≡ map (in_bytes (chars c.args.text.now)) c.in-Some.parts.items =
    rw text at c.in_ok-captures.ensures in
    text_all_parts c.args.text.now c.utf8.text c.in-Some.parts.items c.in_ok-captures.captures.items within is

pub returns-clause-matched : goal.returns-clause-matched
returns-clause-matched c = λ ts are.
    let ps : List Piece = c.as_slice.result.now in
    let same : ps ≡ c.args.self.now = search rules in
    let text : c.in_ok-characters.characters ≡ chars c.args.text.now = c.in_ok-characters.ensures in
    let within : All (IsWithin (chars c.args.text.now)) c.in-Some.parts.items =
    rw (c.in-Some.is, text) at c.in_ok-found.ensures.within in
    let is : c.in_ok-captures.captures.items ≡ map (in_bytes (chars c.args.text.now)) c.in-Some.parts.items =
    rw text at c.in_ok-captures.ensures in
    let captured : CapturedBy ps (chars c.args.text.now)
    (parts (chars c.args.text.now) c.in-Some.parts.items) =
    rw (c.in-Some.is, text) at c.in_ok-found.ensures.captured in
    some_matched ts ps (subst (ArePieces ts false false) (sym same) are) (chars c.args.text.now)
    (parts (chars c.args.text.now) c.in-Some.parts.items) captured
    c.new-2.result c.new-2.ensures.text (c.new-2.ensures.captures ∙ text_parts c.args.text.now c.utf8.text
    c.in-Some.parts.items c.in_ok-captures.captures.items within is)

pub returns-clause-square : goal.returns-clause-square
returns-clause-square c = λ ts are.
    let ps : List Piece = c.as_slice.result.now in
    let same : ps ≡ c.args.self.now = search rules in
    let text : c.in_ok-characters.characters ≡ chars c.args.text.now = c.in_ok-characters.ensures in
    let m : ℕ = length (chars c.args.text.now) in
    let read : c.split.new.visits ≤ c.new-visits.result + split_visits (all_sizes ps) m =
    rw text at c.split.ensures.above in
    let captured : CapturedBy ps (chars c.args.text.now)
    (parts (chars c.args.text.now) c.in-Some.parts.items) =
    rw (c.in-Some.is, text) at c.in_ok-found.ensures.captured in
    let taken : c.add_text.new.self ≤ c.split.new.visits + m = rw text at c.add_text.ensures.above in
    visits_taken (all_sizes ps) (costs ts) c.count-2.result m
    (pieces_few ts false false ps (subst (ArePieces ts false false) (sym same) are))
    (captured_length ps (chars c.args.text.now) _ captured)
    (omega (arith, read, taken, c.new-visits.ensures, c.count-2.ensures))

pub returns-clause-above : goal.returns-clause-above
returns-clause-above c = λ ts are. visits_cube (costs ts) c.count-2.result (length (chars c.args.text.now))
    (returns-clause-square c ts are)

pub returns-clause-only : goal.returns-clause-only
returns-clause-only c =
    λ ts are. matched_only ts (chars c.args.text.now) c.new-2.result (returns-clause-matched c ts are)
