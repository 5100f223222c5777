use Rattle.std.proofs.Common.{◌≡◌, ◌∙◌, ◌+◌, ◌<◌, ◌∷◌, ◌++◌, ◌==◌, ◌||◌, [], List, ℕ, map, length, get_or}
use Rattle.std.proofs.{Common.{drop, ap, arith, chars, string_bytes}, lemmas.Iterator.YieldsList-from_chars}
use Rattle.std.proofs.{lemmas.Iterator.Consumers.{YieldsList-turn, YieldsList-end}, lemmas.List.length_push}
use Rattle.wax_partition.specs.Kept.{without_slash}
use Rattle.wax_facts.proofs.TextSteps.{chars_none}
use Rattle.wax_partition.proofs.SlashSteps.{slash_end, slash_step, still}
use Rattle.wax_partition.proofs.kept.without_slash.Goals as goal

pub loop-c-init : goal.loop-c-init
loop-c-init c = ap (λ z. z ++ without_slash (chars c.args.text.now))
    (chars_none (string_bytes c.new-kept.result) c.new-kept.ensures.bytes)

pub loop-c-preserved : goal.loop-c-preserved
loop-c-preserved c =
    let cs : List ℕ = chars c.args.text.now in
    let i : ℕ = length c.loop-c.yielded in
    let x : ℕ = c.in-Some.c in
    let t : (i < length cs) × (x ≡ get_or cs i x) =
    YieldsList-turn (YieldsList-from_chars c.args.text.now c.utf8.text cc) c.loop-c.yielded _
    c.loop-c.yielded_by _ _ x c.in-Some.is c.next.ensures.steps in
    let n : length (c.loop-c.yielded ++ x ∷ []) ≡ i + 1 = length_push c.loop-c.yielded x in
    ap (λ z. chars (string_bytes c.keep.new.kept) ++ still (c.loop-c.is_gone || (x == 47)) (drop z cs)) n
    ∙ ap (λ z. z ++ still (c.loop-c.is_gone || (x == 47)) (drop (i + 1) cs)) c.in_ok-keep.ensures
    ∙ slash_step cs i x c.loop-c.is_gone (chars (string_bytes c.loop-c.kept)) _ t.0 t.1 c.loop-c.invariant

pub returns : goal.returns
returns c =
    let cs : List ℕ = chars c.args.text.now in
    let t : (map (λ x. x) c.loop-c.yielded ≡ cs) × (length c.loop-c.yielded ≡ length cs) =
    YieldsList-end (YieldsList-from_chars c.args.text.now c.utf8.text cc) c.loop-c.yielded _
    c.loop-c.yielded_by _ _ c.in-None.is c.next.ensures.steps in
    slash_end cs (length c.loop-c.yielded) c.loop-c.is_gone (chars (string_bytes c.loop-c.kept)) _
    (omega (arith, t.1)) c.loop-c.invariant
