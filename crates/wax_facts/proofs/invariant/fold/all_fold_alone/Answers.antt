use Rattle.std.proofs.Common.{◌≡◌, ◌+◌, ◌<◌, ◌∷◌, ◌++◌, [], ℕ, List, map, length, get_or, arith, refl, sym}
use Rattle.std.proofs.Common.{subst, true≢false, drop, rules, IsTrue, chars}
use Rattle.std.proofs.lemmas.Iterator.{YieldsList-from_chars}
use Rattle.std.proofs.{lemmas.Iterator.Consumers.{YieldsList-turn, YieldsList-end}, lemmas.List.length_push}
use Rattle.wax_facts.specs.InvariantText.{AllFoldAlone}
use Rattle.wax_facts.proofs.FoldedAlone.{alone_step, alone_at, alone_end}
use Rattle.wax_facts.proofs.invariant.fold.all_fold_alone.Goals as goal

pub returns-then-not-folds_alone : goal.returns-then-not-folds_alone
returns-then-not-folds_alone c =
    let cs : List ℕ = chars c.args.text.now in
    let t : (length c.loop-c.yielded < length cs)
    × (c.in-Some.c ≡ get_or cs (length c.loop-c.yielded) c.in-Some.c) =
    YieldsList-turn (YieldsList-from_chars c.args.text.now c.utf8.text cc) c.loop-c.yielded _
    c.loop-c.yielded_by _ _ c.in-Some.c c.in-Some.is c.next.ensures.steps in (
      (λ e. absurd (true≢false (sym e))),
      λ h. (let k : IsTrue c.folds_alone.result = c.folds_alone.ensures.1
          (alone_at cs (length c.loop-c.yielded) c.in-Some.c t.0 t.1 h) in absurd (search (rules, k))),
    )

pub loop-c-preserved : goal.loop-c-preserved
loop-c-preserved c =
    let cs : List ℕ = chars c.args.text.now in
    let i : ℕ = length c.loop-c.yielded in
    let t : (i < length cs) × (c.in-Some.c ≡ get_or cs i c.in-Some.c) =
    YieldsList-turn (YieldsList-from_chars c.args.text.now c.utf8.text cc) c.loop-c.yielded _
    c.loop-c.yielded_by _ _ c.in-Some.c c.in-Some.is c.next.ensures.steps in
    let n : length (c.loop-c.yielded ++ c.in-Some.c ∷ []) ≡ i + 1 =
    length_push c.loop-c.yielded c.in-Some.c in
    let alone : IsTrue c.folds_alone.result = search rules in
    λ h. c.loop-c.invariant (alone_step cs i c.in-Some.c t.0 t.1 (c.folds_alone.ensures.0 alone)
    (subst (λ k. AllFoldAlone (drop k cs)) n h))

pub returns : goal.returns
returns c =
    let cs : List ℕ = chars c.args.text.now in
    let t : (map (λ x. x) c.loop-c.yielded ≡ cs) × (length c.loop-c.yielded ≡ length cs) =
    YieldsList-end (YieldsList-from_chars c.args.text.now c.utf8.text cc) c.loop-c.yielded _
    c.loop-c.yielded_by _ _ c.in-None.is c.next.ensures.steps in
    ((λ e. c.loop-c.invariant (alone_end cs (length c.loop-c.yielded) (omega (arith, t.1)))), λ h. refl)
