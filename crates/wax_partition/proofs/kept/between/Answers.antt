use Rattle.std.proofs.Common.{◌≡◌, ◌∙◌, ◌+◌, ◌-◌, ◌^◌, ◌<◌, ◌≤◌, ◌∷◌, ◌++◌, ◌&&◌, [], List, ℕ, map, length}
use Rattle.std.proofs.Common.{min, get_or, drop, ap, arith, chars, string_bytes, if◌then◌else◌, nat_le}
use Rattle.std.proofs.{Common.nat_lt, lemmas.Iterator.YieldsList-from_chars}
use Rattle.std.proofs.{lemmas.Iterator.Consumers.{YieldsList-turn, YieldsList-end}, lemmas.List.length_push}
use Rattle.std.specs.Char.{len_utf8}
use Rattle.wax_partition.specs.Kept.{between}
use Rattle.wax_partition.proofs.KeptSteps.{kept_end, kept_step, within_same}
use Rattle.wax_facts.proofs.TextSteps.{chars_none}
use Rattle.wax_partition.proofs.kept.between.Goals as goal

pub loop-c-init : goal.loop-c-init
loop-c-init c = (
  0,
  omega arith,
  ap (λ z. z ++ between 0 c.args.from c.args.to (chars c.args.expression.now))
      (chars_none (string_bytes c.new-kept.result) c.new-kept.ensures.bytes),
)

pub loop-c-preserved : goal.loop-c-preserved
loop-c-preserved c =
    let cs : List ℕ = chars c.args.expression.now in
    let i : ℕ = length c.loop-c.yielded in
    let place : ℕ = c.loop-c.invariant.0 in
    let most : ℕ = 2 ^ 64 - 1 in
    let t : (i < length cs) × (c.in-Some.c ≡ get_or cs i c.in-Some.c) =
    YieldsList-turn (YieldsList-from_chars c.args.expression.now c.utf8.expression cc) c.loop-c.yielded _
    c.loop-c.yielded_by _ _ c.in-Some.c c.in-Some.is c.next.ensures.steps in
    let n : length (c.loop-c.yielded ++ c.in-Some.c ∷ []) ≡ i + 1 =
    length_push c.loop-c.yielded c.in-Some.c in
    let from : c.args.from ≤ most = omega (arith, c.ranges.from.fits) in
    let to : c.args.to ≤ most = omega (arith, c.ranges.to.fits) in
    let test : c.is_within.result ≡ (nat_le c.args.from place && nat_lt place c.args.to) =
    c.is_within.ensures ∙ ap (λ z. nat_le c.args.from z && nat_lt z c.args.to) c.loop-c.invariant.1
    ∙ within_same place c.args.from c.args.to most from to in
    let at : c.saturating_add-at.result ≡ min (place + len_utf8 c.in-Some.c) most =
    omega (arith, c.saturating_add-at.ensures, c.len_utf8.ensures.value, c.loop-c.invariant.1) in
    let kept : chars (string_bytes c.keep.new.kept) ≡ chars (string_bytes c.loop-c.kept)
    ++ (if nat_le c.args.from place && nat_lt place c.args.to then c.in-Some.c ∷ [] else []) =
    c.in_ok-keep.ensures
    ∙ ap (λ b. chars (string_bytes c.loop-c.kept) ++ (if b then c.in-Some.c ∷ [] else [])) test in (
      place + len_utf8 c.in-Some.c,
      at,
      ap (λ z. chars (string_bytes c.keep.new.kept) ++ between (place + len_utf8 c.in-Some.c) c.args.from
          c.args.to (drop z cs)) n
          ∙ ap (λ z. z ++ between (place + len_utf8 c.in-Some.c) c.args.from c.args.to (drop (i + 1) cs)) kept
          ∙ kept_step cs i c.in-Some.c place c.args.from c.args.to (chars (string_bytes c.loop-c.kept)) _ t.0
          t.1 c.loop-c.invariant.2,
    )

pub returns : goal.returns
returns c =
    let cs : List ℕ = chars c.args.expression.now in
    let t : (map (λ x. x) c.loop-c.yielded ≡ cs) × (length c.loop-c.yielded ≡ length cs) =
    YieldsList-end (YieldsList-from_chars c.args.expression.now c.utf8.expression cc) c.loop-c.yielded _
    c.loop-c.yielded_by _ _ c.in-None.is c.next.ensures.steps in
    kept_end cs (length c.loop-c.yielded) c.loop-c.invariant.0 c.args.from c.args.to
    (chars (string_bytes c.loop-c.kept)) _ (omega (arith, t.1)) c.loop-c.invariant.2
